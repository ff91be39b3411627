-- Nothing counts of what was told by one who is given up.
use Rattle.std.proofs.Common.{◌≡◌, ◌-◌, ℕ, set, length, refl, ap, Option, arith, sym, subst, true, ◌||◌, ◌==◌, if◌then◌else◌, [], option_map, get_or-set_other}
use Rattle.dn_machine.proofs.Put.{same_functions}
use Rattle.dn_survivor.specs.declared.{report.Report.Report, others.Others.Others}
use Rattle.dn_survivor.specs.OfOthers.{commands_of, first_of, has, largest_at, last_by, last_in, newest_of, node_of}
use Rattle.dn_survivor.specs.OfOthers.{nodes_of, own_of, teller_of, told_of}
use Rattle.dn_remain.specs.Vanished.Calls.{every, is_heard, is_report_in, can_decide, report_or}
use Rattle.dn_remain.specs.Vanished.Node.{highest, share, decided_end}
use Rattle.dn_survivor.proofs.others.laws.lies_are_undone.Goals as goal

-- the same reports are missing, and a player has the same end and the same commands
abbrev IsUndone : ℕ → ℕ → ℕ → ℕ → Others → Others → Type 0
IsUndone players me player own others told =
    (can_decide players me (own_of told (λ p. own)) (nodes_of told)
    ≡ can_decide players me (own_of others (λ p. own)) (nodes_of others))
    × (decided_end players me (own_of told (λ p. own)) (told_of told) player
    ≡ decided_end players me (own_of others (λ p. own)) (told_of others) player)
    × (commands_of players me told player ≡ commands_of players me others player)
    × (first_of players me told player ≡ first_of players me others player)

module _ (players me liar : ℕ) (others : Others) (report : Option Report) (given : has others.gone liar ≡ true) where
  abbrev told : Others
  told = record others { newest = set others.newest liar report }

  -- what looks at nothing of one who is given up
  alike : {A : Type 0} (f : ℕ → Option Report → A)
      → ((t : ℕ) (one other : Option Report) → has others.gone t ≡ true → f t one ≡ f t other)
      → ◌≡◌ {A = ℕ → A} (λ t. f t (newest_of told t)) (λ t. f t (newest_of others t))
  alike f blind = grind (arith, same_functions, get_or-set_other)

  shares : (own player : ℕ) → share me (own_of told (λ p. own)) (told_of told) player
      ≡ share me (own_of others (λ p. own)) (told_of others) player
  shares own player =
      alike (λ t o. if t == me then own else (
      if has others.gone t then 0 else (report_or (option_map node_of o)).got player))
      (λ t one other gone. rw (gone) refl)

  lasts : (player : ℕ) → last_by me told player ≡ last_by me others player
  lasts player =
      alike (λ t o. if t == me then [] else (if has others.gone t then [] else last_in o player))
      (λ t one other gone. rw (gone) refl)

  hears : (own : ℕ) → is_heard players me (own_of told (λ p. own)) (nodes_of told)
      ≡ is_heard players me (own_of others (λ p. own)) (nodes_of others)
  hears own =
      alike (λ t o. (t == me) || (has others.gone t
      || is_report_in players (has others.gone) (option_map node_of o)))
      (λ t one other gone. rw (gone) refl)

  teller : (player : ℕ) → teller_of players me told player ≡ teller_of players me others player
  teller player = ap (largest_at players) (shares 0 player)

  commands : (player : ℕ) → commands_of players me told player ≡ commands_of players me others player
  commands player = let who = teller player in let all = lasts player in λ i. all i (who i)

  first : (player : ℕ) → first_of players me told player ≡ first_of players me others player
  first player =
      let who = teller player in
      let count = shares 0 player in
      let carried = commands player in
      λ i. count i (who i) - length (carried i)

  undone : (player own : ℕ) → IsUndone players me player own others told
  undone player own = (
    ap (every players) (hears own),
    ap (highest players) (shares own player),
    commands player,
    first player,
  )

pub returns : goal.returns
returns c = λ players me liar player own others told report given is.
    subst (IsUndone players me player own others) (sym is) (undone players me liar others report given player own)
