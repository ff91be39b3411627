-- The parts of the players of one game: their links are those of one game, whatever their sessions do.
use Rattle.std.specs.Prelude.{◌≡◌, ◌<◌, ℕ, ℤ, pos, false, get_or, List}
use Rattle.dn_setup.specs.Settings.{Settings}
use Rattle.dn_machine.specs.declared.answers.Ran.TheVariants as ran
use Rattle.dn_machine.specs.{Limits.Limits, Running.is_over, declared.answers.Ran.Ran}
use Rattle.dn_lockstep.specs.{Contents.Contents, Contents.end_in, Marking.Marking, OneGame.world_told, Opening.limits_within}
use Rattle.dn_seal.specs.declared.seal.Seal.{Seal}
use Rattle.dn_survivor.specs.OneGame.{Session}
use Rattle.dn_link.specs.{Linked.Linked, Linking.linked, Linking.seal_of, RemainingLinks.AreRemainingLinks}
use Rattle.dn_session.specs.{Playing.Playing, Session.config_for, declared.terms.Terms.Terms}

-- the limits of a game of these terms, which are those of each of its players
abbrev pub limits_of : Terms → Limits
limits_of terms = limits_within (config_for terms) terms.ahead

-- the links of parts, by player
abbrev pub links_of : (ℕ → Playing) → ℕ → Linked
links_of parts player = linked (parts player).link

-- the parts have links of one game, in which this was called, all with this seal
pub record AreParts (marking : Marking) (limits : Limits) (settings : Settings) (seal : Seal) (session : Session)
    (parts : ℕ → Playing) : Type 0 where
  pub links : AreRemainingLinks marking limits settings session (links_of parts)
  pub sealed : (player : ℕ) → player < limits.players → seal_of (parts player).link ≡ seal

-- the marks are those of a world that moved on by the rows that its player was told: of each player who takes part
abbrev pub AreMarksOf : Marking → Limits → Settings → Session → ℕ → Contents → List ℤ → Ran → Type 0
AreMarksOf marking limits settings session player node marks answer =
    (tic other : ℕ) → answer ≡ ran.Ran tic → other < limits.players
    → is_over (end_in node other) node.ran ≡ false
    → get_or marks other (pos 0) ≡ marking (world_told limits settings (session.told player)) other
