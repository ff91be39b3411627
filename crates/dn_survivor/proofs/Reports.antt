-- The report that a survivor gives tells what its node has, and those that were given are those that were
-- told.
use Rattle.std.proofs.Common.{◌≡◌, ◌≢◌, ◌<◌, ◌≤◌, ◌+◌, ◌-◌, ℕ, zero, suc, Bool, false, List, [], ◌∷◌, length, add-one, refl, sym, ap, subst, ◌∙◌, arith, inl, inr, Some, None, ◌++◌, All, ◌&&◌, ◌||◌, ◌==◌, not, min, if◌then◌else◌, slice_get}
use Rattle.std.proofs.lemmas.{Bool.{cases_Bool, cases_eq, cases_lt, eq-eqb, ne_eqb, lt-ltb}, Option.none-some}
use Rattle.std.specs.{List.{filter_map, range_with_len}, Option.option_or}
use Rattle.dn_ring.specs.Ring.{Ring}
use Rattle.dn_machine.specs.{Limits.Limits, Node.{got, is_ended, lowest}}
use Rattle.dn_remain.specs.{Vanished.Commands.last_of, Wary.Wary, Wary.has_gone, Wary.report_of, Wary.report_to, Remaining.Telling, Wary.Report}
use Rattle.dn_lockstep.specs.{Contents.Contents, Tables.{count_of, ring_of}, Settling.is_no_peer, Told.command_told}
use Rattle.dn_lockstep.proofs.Keeping.{get_within}
use Rattle.dn_survivor.specs.{declared.report.Tail.Tail, ReportBytes.AreInOrder, ReportBytes.AreTold, ReportBytes.IsTail, OfOthers.tells_either, OfOthers.count_told}
use Rattle.dn_survivor.specs.{OfOthers.has, OfOthers.last_told, OfOthers.Tells, Represents.Represents, Surviving.Surviving, Telling.last_in, Telling.report_for, Telling.report_in}
use Rattle.dn_survivor.specs.{Telling.{tails_in, told_in}, OneGame.{AreTelling, IsTelling, Given}}
use Rattle.dn_survivor.proofs.Lists.{if_last, lasts, one_less, picks_few, two_less}
use Rattle.dn_machine.specs.Node as machine
use Rattle.dn_lockstep.specs.Represents as lockstep
use Rattle.dn_survivor.specs.OfOthers as others
use Rattle.dn_survivor.specs.Surviving as now

-- The reports that were given are those that were told, one for one.

-- a report that was given is one that was told
pub telling_at : (limits : Limits) (reports : List Given) (tellings : List Telling) → AreTelling limits reports tellings
    → (which : ℕ) (given : Given) → slice_get reports which ≡ Some given
    → (t : Telling) × (slice_get tellings which ≡ Some t) × IsTelling limits given t
telling_at limits [] [] h which given at = absurd (none-some given at)
telling_at limits [] (t ∷ tellings) h which given at = absurd h
telling_at limits (g ∷ reports) [] h which given at = absurd h
telling_at limits (g ∷ reports) (t ∷ tellings) h zero given at = grind arith
telling_at limits (g ∷ reports) (t ∷ tellings) h (suc which) given at =
    telling_at limits reports tellings h.1 which given at

-- and one more is
pub telling_more : (limits : Limits) (reports : List Given) (tellings : List Telling) (given : Given) (t : Telling)
    → AreTelling limits reports tellings → IsTelling limits given t
    → AreTelling limits (reports ++ given ∷ []) (tellings ++ t ∷ [])
telling_more limits [] [] given t h is = (is, tt)
telling_more limits [] (u ∷ tellings) given t h is = absurd h
telling_more limits (g ∷ reports) [] given t h is = absurd h
telling_more limits (g ∷ reports) (u ∷ tellings) given t h is =
    (h.0, telling_more limits reports tellings given t h.1 is)

-- no report is for its sender
pub told_apart : (limits : Limits) (me : ℕ) (wary : Wary) (to : ℕ) (told : Report)
    → report_to limits me wary to ≡ Some told → me ≢ to
told_apart limits me wary to told is e = grind (arith, is, e)

-- The report.

-- tests that are alike find the same number
pub lowest_alike : (bound : ℕ) (f g : ℕ → Bool) → ((i : ℕ) → i < bound → f i ≡ g i) → lowest bound f ≡ lowest bound g
unfolding lowest
lowest_alike zero f g alike = refl
lowest_alike (suc bound) f g alike =
    let before = lowest_alike bound f g (λ i h. alike i (omega (arith, h))) in
    let here = alike bound (omega arith) in
    λ i. option_or (before i) (if here i then Some bound else None)

module _ (n : Contents) (to : ℕ) where
  abbrev pub tails : ℕ → ℕ → List Tail
  tails from count = filter_map (told_in n to) (range_with_len from count)

  -- of each player but the two its own tail is told: how many commands, and the last of them
  own_told : (count from p : ℕ) → p ≢ n.me → p ≢ to → from ≤ p → p < from + count
      → (count_told (tails from count) p ≡ count_of n.rings p) × (last_told (tails from count) p ≡ last_in n p)
  own_told zero from p apart other low high = absurd (omega (arith, low, high))
  own_told (suc count) from p apart other low high = elim (cases_eq from p) [
    | inl same ↦ grind (arith, ne_eqb, eq-eqb)
    | inr later ↦
        let rest = own_told count (from + 1) p apart other (omega (arith, low, later)) (omega (arith, high)) in
        let off = ne_eqb from p later in
        elim (cases_Bool (from == n.me || from == to)) [
          | inl skip ↦ rw skip rest
          | inr told ↦ rw (told, off) rest
        ]
  ]

  -- and of neither of these two
  neither : (count from : ℕ) → tells_either to n.me (tails from count) ≡ false
  neither zero from = refl
  neither (suc count) from =
      let rest = neither count (from + 1) in
      elim (cases_Bool (from == n.me || from == to)) [
        | inl skip ↦ rw skip rest
        | inr told ↦ grind arith
      ]

  -- so there is room for what is told of the others, of whom there are two at most
  pub few_tails : (player players : ℕ) → player < players → players ≤ 4 → n.me < players → to < players
      → to ≢ n.me → length (tails 0 (player + 1)) ≤ 2
  few_tails player players low four mine other apart =
      let me_none : told_in n to n.me ≡ None = let same = eq-eqb n.me n.me refl in rw same refl in
      let to_none : told_in n to to ≡ None =
      let one = ne_eqb to n.me apart in let two = eq-eqb to to refl in rw (one, two) refl in
      elim (cases_lt player 2) [
        | inl early ↦ grind (arith, picks_few)
        | inr late ↦ elim (cases_lt player 3) [
          | inr last ↦ grind (arith, two_less)
          | inl third ↦ grind (arith, one_less)
        ]
      ]

-- from a higher number on they rise from a lower one on
lower : (least more : ℕ) (told : List Tail) → least ≤ more → AreInOrder more told → AreInOrder least told
lower least more [] low h = tt
lower least more (tail ∷ told) low h = let first = h.0 in (omega (arith, low, first), h.1)

in_order : (n : Contents) (to count from : ℕ) → AreInOrder from (tails n to from count)
in_order n to zero from = tt
in_order n to (suc count) from =
    let rest = in_order n to count (from + 1) in
    elim (cases_Bool (from == n.me || from == to)) [
      | inl skip ↦ rw skip (lower from (from + 1) (tails n to (from + 1) count) (omega arith) rest)
      | inr told ↦
          rw told (omega arith, subst (λ (k : ℕ). AreInOrder k (tails n to (from + 1) count)) (add-one from) rest)
    ]

-- so players may be told so
pub are_told : (n : Contents) (to : ℕ) (told : List Tail) → told ≡ tails_in n to → n.players ≤ 4
    → n.me < n.players → to < n.players → to ≢ n.me → All IsTail told → AreTold told
are_told n to told is four mine other apart all = grind (arith, few_tails, in_order)

-- what a lockstep tells of a player's commands is what its node has
module _ (limits : Limits) (me : ℕ) (n : Contents) (m : machine.Node) (r : lockstep.Represents limits me n m)
    (few : limits.places ≤ 24) (player : ℕ) (below : player < limits.players) where
  ring : n.rings player ≡ ring_of (m.held player)
  ring = r.commands.rings player below

  count_is : count_of n.rings player ≡ got m player
  count_is = ap (λ (k : Ring). k.count) ring

  told_is : (tic : ℕ) → command_told n player tic ≡ if_last limits.places (m.held player) tic
  told_is tic = grind (arith, lt-ltb, count_is, ring, get_within)

  last_is : last_in n player ≡ last_of limits.places (m.held player)
  last_is =
      (λ i. filter_map (λ tic. told_is tic i) (range_with_len (count_is i - 24) (min (count_is i) 24)))
      ∙ lasts limits.places (m.held player) few

module _ (limits : Limits) (me : ℕ) (old : Surviving) (wary : Wary) (r : Represents limits me old wary) where
  left_is : now.has_left old ≡ machine.has_left wary.node
  left_is = λ i. r.node.stands.played i && is_ended (r.node.stands.phase i)

  module _ (to : ℕ) (below : to < limits.players) where
    -- of one who is neither of the two its own tail is told
    other_told : (p : ℕ) → p < limits.players → p ≢ to → p ≢ me
        → (count_told (tails old.lockstep to 0 old.lockstep.players) p ≡ count_of old.lockstep.rings p)
        × (last_told (tails old.lockstep to 0 old.lockstep.players) p ≡ last_in old.lockstep p)
    other_told p h other apart =
        let players = r.node.whose.players in
        let number = r.node.whose.number in
        own_told old.lockstep to old.lockstep.players 0 p (λ e. apart (e ∙ number)) other (omega arith)
        (omega (arith, h, players))

    tells : Tells limits.players limits.places to me (report_of wary) (report_in old to)
    tells =
        let n = old.lockstep in
        let number = r.node.whose.number in
        record {
          gone = λ p h. r.others.given_up p h;
          left = left_is;
          count = λ p h other apart. (other_told p h other apart).0 ∙ count_is limits me n wary.node r.node r.kept p h;
          last = λ p h other apart. (other_told p h other apart).1 ∙ last_is limits me n wary.node r.node r.kept p h;
          neither = ap (λ (k : ℕ). tells_either to k (report_in old to).told.items) (sym number)
              ∙ neither n to n.players 0;
        }

    gone_is : now.has_gone old ≡ has_gone limits wary
    gone_is = grind (arith, lowest_alike)

    pub told : others.AreTold limits.players limits.places to me (report_for old to) (report_to limits me wary to)
    told =
        let peer : is_no_peer old.lockstep.players old.lockstep.me to ≡ (me == to) =
        (λ i. is_no_peer (r.node.whose.players i) (r.node.whose.number i) to) ∙ mirrored in
        let given = r.others.given_up to below in
        let left = left_is in
        let gone = gone_is in
        let same : (is_no_peer old.lockstep.players old.lockstep.me to
        || (has old.others.gone to || not (now.has_left old || now.has_gone old)))
        ≡ (me == to || (wary.gone to || not (machine.has_left wary.node || has_gone limits wary))) =
        λ i. peer i || (given i || not (left i || gone i)) in
        grind (arith, machine.has_left, tells)
      where
        mirrored : is_no_peer limits.players me to ≡ (me == to)
        mirrored = grind (arith, below)
