-- The terms of a session as plain numbers.
use Rattle.std.specs.Prelude.{ℕ, ◌==◌, false, List, replicate, Option, Some, None, if◌then◌else◌}
use Rattle.dn_setup.specs.Settings.{Settings}
use Rattle.dn_session.specs.declared.terms.Policy.{Policy}
use Rattle.dn_session.specs.declared.terms.Policy.TheVariants as policy
use Rattle.dn_session.specs.declared.terms.Terms.{Terms}
use Rattle.zirmegat.specs.declared.terms.TermsFields.{TermsFields}
use Rattle.zirmegat.specs.Choice.{choice_told, no_choice}

-- what becomes of a player who vanishes: anything else is a policy that no game may have
abbrev pub policy_in : ℕ → ℕ → Policy
policy_in code seconds =
    if code == 1 then policy.Wait else (
    if code == 2 then policy.GiveUp seconds else (
    if code == 3 then policy.End seconds else policy.GiveUp 0))

abbrev pub policy_code : Policy → ℕ
policy_code policy.Wait = 1
policy_code (policy.GiveUp seconds) = 2
policy_code (policy.End seconds) = 3

abbrev pub policy_seconds : Policy → ℕ
policy_seconds policy.Wait = 0
policy_seconds (policy.GiveUp seconds) = seconds
policy_seconds (policy.End seconds) = seconds

-- a session plays by a link, which repeats no command for its own sake
abbrev pub terms_in : TermsFields → Settings → Terms
terms_in f settings =
    record {
      players = f.players;
      extra = false;
      ahead = f.window;
      rate = f.rate;
      limit = f.limit;
      settings = settings;
      policy = policy_in f.policy f.seconds;
      identity = f.identity;
      own = f.own;
    }

abbrev pub no_name : List ℕ
no_name = replicate 16 0

-- all 0 where they are not known
abbrev pub terms_told : Option Terms → TermsFields
terms_told (Some t) =
    record {
      limit = t.limit;
      policy = policy_code t.policy;
      seconds = policy_seconds t.policy;
      players = t.players;
      window = t.ahead;
      rate = t.rate;
      settings = choice_told t.settings;
      identity = t.identity;
      own = t.own;
    }
terms_told None =
    record {
      limit = 0;
      policy = 0;
      seconds = 0;
      players = 0;
      window = 0;
      rate = 0;
      settings = no_choice;
      identity = no_name;
      own = replicate 256 0;
    }
