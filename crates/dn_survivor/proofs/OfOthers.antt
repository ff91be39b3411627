-- What is kept of the others answers as the reports themselves, stays what it represents, and is enough for
-- a decision.
use Rattle.std.proofs.Common.{◌≡◌, ◌≢◌, ◌<◌, ℕ, zero, suc, length, refl, ap, sym, ◌∙◌, arith, Option, ◌≤◌, [], ◌∷◌, get_or, set, Some, None, ◌+◌, ◌-◌, List, ◌++◌, take, drop, subst, inl, inr, append-nil, Bool, true, not, ◌&&◌, max, if◌then◌else◌, false, option_map, unwrap_or, get_or-set_same, get_or-set_other, length-set}
use Rattle.std.proofs.{lemmas.Bool.{eq-eqb, ne_eqb, both_ways, cond-true}, Math.Nat.{max-eq_left, max-eq_right}}
use Rattle.std.proofs.Math.Seq.{take-append_seam, take-length}
use Rattle.std.proofs.lemmas.{Bool.cases_Bool, Bool.cases_eq, Bool.cases_lt, List.drop-drop, List.drop_all, List.length-drop, List.take-append-le}
use Rattle.dn_tic.specs.declared.command.TicCmd.{TicCmd}
use Rattle.dn_machine.proofs.Put.{put_at, put_off}
use Rattle.dn_machine.specs.{Node.put, Promise.IsPrefixOf}
use Rattle.dn_remain.specs.Vanished.Node.{Node, highest, share, decided_end}
use Rattle.dn_remain.specs.Vanished.Commands.{Holder, fresh_holder, seen, on_decision, caught_up, last_of}
use Rattle.dn_remain.specs.Vanished.Calls.{every, is_within_at, is_report_in, is_heard, can_decide, is_newer, report_or}
use Rattle.dn_remain.proofs.Vanished.Lists.{counts, begins, pieces}
use Rattle.dn_survivor.specs.declared.{report.Report.Report, others.Others.Others}
use Rattle.dn_survivor.specs.declared.others.hearing.Reported.TheVariants.{Kept, GivenUp, Excluded, Stale}
use Rattle.dn_survivor.specs.OfOthers.{reported_as, AreTold, Tells, Represents, with_newest, AreWithin, commands_of}
use Rattle.dn_survivor.specs.OfOthers.{node_of, nodes_of, own_of, told_of, newest_of, nothing_kept, count_by, first_of}
use Rattle.dn_survivor.specs.OfOthers.{has, last_by, last_in, teller_of}
use Rattle.dn_survivor.proofs.Lowest.{highest_of_two, largest_is}

-- What is kept of the others answers as the reports themselves.

-- tests that answer alike
every_alike : (n : ℕ) (one other : ℕ → Bool) → ((i : ℕ) → i < n → one i ≡ other i) → every n one ≡ every n other
unfolding every
every_alike zero one other alike = refl
every_alike (suc n) one other alike =
    λ i. every_alike n one other (λ k below. alike k (omega (arith, below))) i && alike n (omega arith) i

-- numbers that are alike have the same largest
highest_alike : (n : ℕ) (one other : ℕ → ℕ) → ((i : ℕ) → i < n → one i ≡ other i) → highest n one ≡ highest n other
unfolding highest
highest_alike zero one other alike = refl
highest_alike (suc n) one other alike =
    λ i. max (highest_alike n one other (λ k below. alike k (omega (arith, below))) i) (alike n (omega arith) i)

-- sets that are alike
within_alike : (n : ℕ) (a b c d : ℕ → Bool) → ((i : ℕ) → i < n → a i ≡ b i) → ((i : ℕ) → i < n → c i ≡ d i)
    → every n (is_within_at a c) ≡ every n (is_within_at b d)
within_alike n a b c d ab cd = grind (arith, every_alike)

-- a report stands for what its sender's state stands for
stands_alike : (players places me from : ℕ) (gone set : ℕ → Bool) (kept : Option Report) (told : Option (Holder TicCmd))
    → ((p : ℕ) → p < players → gone p ≡ set p) → AreTold players places me from kept told
    → is_report_in players gone (option_map node_of kept) ≡ is_report_in players set (option_map seen told)
stands_alike players places me from gone set kept told same is = grind (arith, within_alike)

module _ (players places me : ℕ) (others : Others) (gone : ℕ → Bool) (newest : ℕ → Option (Holder TicCmd))
    (r : Represents players places me others gone newest) where
  pub heard_alike : (node : Node) (got : ℕ → ℕ) → ((p : ℕ) → p < players → node.gone p ≡ gone p)
      → (p : ℕ) → p < players → is_heard players me (own_of others got) (nodes_of others) p
      ≡ is_heard players me node (λ q. option_map seen (newest q)) p
  heard_alike node got same p below = grind (arith, stands_alike)

  pub decide : (node : Node) (got : ℕ → ℕ) → ((p : ℕ) → p < players → node.gone p ≡ gone p)
      → can_decide players me (own_of others got) (nodes_of others)
      ≡ can_decide players me node (λ p. option_map seen (newest p))
  decide node got same =
      every_alike players (is_heard players me (own_of others got) (nodes_of others))
      (is_heard players me node (λ p. option_map seen (newest p))) (heard_alike node got same)

  -- what comes
  module _ (from : ℕ) (holder : Holder TicCmd) (report : Report) (player : from < players)
      (tells : Tells players places me from holder report) where
    newer : is_newer players (nodes_of others from) (node_of report)
        ≡ is_newer players (option_map seen (newest from)) (seen holder)
    newer = grind (arith, within_alike)

    pub reported : me < players → reported_as players me others from report
        ≡ (if gone from then GivenUp else (
        if holder.gone me then Excluded else (
        if not (is_newer players (option_map seen (newest from)) (seen holder)) then Stale else Kept)))
    reported here = grind (arith, newer)

  -- how many commands of a player are told
  got_alike : (teller player : ℕ) → player < players → player ≢ me → player ≢ teller → teller < players
      → (told_of others teller).got player ≡ length ((unwrap_or (newest teller) fresh_holder).held player)
  got_alike teller player below apart other within = grind arith

  -- what counts of the commands of one who is given up
  module _ (holder : Holder TicCmd) (set : holder.gone ≡ gone) (player : ℕ) (below : player < players)
      (apart : player ≢ me) (given : holder.gone player ≡ true) where
    abbrev pub own : Node
    own = own_of others (λ other. length (holder.held player))

    abbrev pub lists : ℕ → Holder TicCmd
    lists teller = unwrap_or (newest teller) fresh_holder

    share_alike : (teller : ℕ) → teller < players
        → share me own (told_of others) player teller ≡ share me (seen holder) (λ r. seen (lists r)) player teller
    share_alike teller within = grind (arith, eq-eqb, ne_eqb, both_ways, got_alike)

    pub ends : decided_end players me own (told_of others) player
        ≡ length ((on_decision players me holder lists).held player)
    ends =
        highest_alike players (share me own (told_of others) player)
        (share me (seen holder) (λ r. seen (lists r)) player) share_alike
        ∙ sym (ap (λ (n : Node). n.got player) (counts players me holder lists)
        ∙ cond-true (holder.gone player) (decided_end players me (seen holder) (λ r. seen (lists r)) player)
        (length (holder.held player)) given)

-- What is kept of the others stays what it represents.
four_of : {A : Type 0} (a b c d e : A) (n : ℕ) → n < 4 → (P : A → Type 0) → P a → P b → P c → P d
    → P (get_or (a ∷ b ∷ c ∷ d ∷ []) n e)
four_of a b c d e n below P pa pb pc pd = grind arith

pub first : (players places me : ℕ) → players ≤ 4
    → Represents players places me nothing_kept (λ player. false) (λ player. None)
first players places me few = grind (arith, four_of)

module _ (players places me : ℕ) (others : Others) (gone : ℕ → Bool) (newest : ℕ → Option (Holder TicCmd))
    (r : Represents players places me others gone newest) where
  -- a player is given up
  pub given_up : (player : ℕ) → player < 4
      → Represents players places me (record others { gone = set others.gone player true })
      (put gone player true) newest
  given_up player below = grind (arith, length-set, get_or-set_same, put_at, get_or-set_other, put_off)

  -- a report comes and is kept
  module _ (from : ℕ) (holder : Holder TicCmd) (report : Report) (below : from < 4)
      (tells : Tells players places me from holder report) where
    told : (p : ℕ) → p < players → AreTold players places me p (newest_of (with_newest others from report) p)
        (put newest from (Some holder) p)
    told p within = grind (arith, get_or-set_same, put_at, get_or-set_other, put_off)

    pub heard : Represents players places me (with_newest others from report) gone
        (put newest from (Some holder))
    heard = grind (arith, length-set, given_up, told)

-- The last commands of the longest list that was told are enough for the list that is decided on.

-- of two prefixes of one list the shorter is a front of the longer
front : (xs ys zs : List TicCmd) → IsPrefixOf xs zs → IsPrefixOf ys zs → length xs ≤ length ys
    → take (length xs) ys ≡ xs
front xs ys zs h k l =
    sym (take-append-le (length xs) ys k.0 l)
    ∙ (ap (λ (ws : List TicCmd). take (length xs) ws) (k.1 ∙ sym h.1) ∙ take-append_seam xs h.0)

-- and two that are as long are the same
same_length : (xs ys zs : List TicCmd) → IsPrefixOf xs zs → IsPrefixOf ys zs → length xs ≡ length ys → xs ≡ ys
same_length xs ys zs h k e =
    sym (front xs ys zs h k (omega (arith, e))) ∙ ap (λ (n : ℕ). take n ys) e ∙ take-length ys

-- a list with what it lacks of another is the longer of the two
catches : (places : ℕ) (own told longer made : List TicCmd) → IsPrefixOf own made → IsPrefixOf told made
    → IsPrefixOf longer made → length longer ≡ max (length own) (length told) → length told ≤ length own + places
    → caught_up places own told ≡ longer
catches places own told longer made ho ht hl is near =
    let s : ℕ = length told - places in
    let place : s + (length own - s) ≡ length own = omega (arith, near) in
    let whole : caught_up places own told ≡ own ++ drop (length own) told = grind (arith, drop-drop) in
    whole ∙ elim (cases_lt (length own) (length told)) [
      | inl less ↦
          begins own told made ho ht (omega (arith, less))
          ∙ same_length told longer made ht hl (sym (is ∙ max-eq_right (omega (arith, less))))
      | inr more ↦
          ap (λ (ws : List TicCmd). own ++ ws) (drop_all (length own) told more) ∙ append-nil own
          ∙ same_length own longer made ho hl (sym (is ∙ max-eq_left more))
    ]

-- where the last commands of a list begin
begin_of : (places count first : ℕ) (last told : List TicCmd) → count ≡ length told → last ≡ last_of places told
    → first ≡ count - length last → (first ≡ length told - places) × (first + length last ≡ length told)
begin_of places count first last told is carried begin = grind (arith, length-drop)

-- the kept commands are enough for this list
abbrev pub Suffices : ℕ → ℕ → ℕ → Others → List TicCmd → List TicCmd → ℕ → Type 0
Suffices players me player others own decided first =
    (first ≤ length own)
    × (own ++ drop (length own - first) (commands_of players me others player) ≡ decided)
    × (length decided ≡ max (length own) (first + length (commands_of players me others player)))

module _ (players places me player : ℕ) (others : Others) (holder : Holder TicCmd)
    (newest : ℕ → Option (Holder TicCmd)) (made : List TicCmd)
    (r : Represents players places me others holder.gone newest) (here : me < players)
    (below : player < players) (apart : player ≢ me) (given : holder.gone player ≡ true)
    (within : AreWithin players places me player holder newest made) where
  abbrev pub own_list : List TicCmd
  own_list = holder.held player

  abbrev pub decided : List TicCmd
  decided = (on_decision players me holder (λ other. unwrap_or (newest other) fresh_holder)).held player

  nothing : IsPrefixOf [] made
  nothing = (made, refl)

  -- what one told is of a list
  abbrev pub IsTold : ℕ → ℕ → List TicCmd → List TicCmd → Type 0
  IsTold teller count last told = (count ≡ length told) × (last ≡ last_of places told) × IsPrefixOf told made
      × (length told ≤ length own_list + places)

  none_told : (teller : ℕ) → IsTold teller 0 [] []
  none_told teller = (refl, sym (drop_all (0 - places) [] (omega arith)), nothing, omega arith)

  told_by : (teller : ℕ) → teller < players
      → (told : List TicCmd)
      × IsTold teller (count_by me others player teller) (last_by me others player teller) told
  told_by teller member = elim (cases_eq teller me) [
    | inl same ↦ let on = eq-eqb teller me same in ([], rw (on) (none_told teller))
    | inr other ↦
        let off = ne_eqb teller me other in
        elim (cases_Bool (has others.gone teller)) [
          | inl gone ↦ ([], rw (off, gone) (none_told teller))
          | inr stays ↦
              let remains : holder.gone teller ≡ false = sym (r.given_up teller member) ∙ stays in
              let another : player ≢ teller = λ e. both_ways (holder.gone teller) remains
              (ap holder.gone (sym e) ∙ given) in
              let all = go teller (newest_of others teller) (newest teller) refl (r.told teller member)
              member other remains another in
              let count : count_by me others player teller ≡ (told_of others teller).got player =
              rw (off, stays) refl in
              let last : last_by me others player teller ≡ last_in (newest_of others teller) player =
              rw (off, stays) refl in
              (all.0, (count ∙ all.1.0, last ∙ all.1.1, all.1.2, all.1.3))
        ]
  ]
    where
      go : (teller : ℕ) (kept : Option Report) (told : Option (Holder TicCmd)) → newest teller ≡ told
          → AreTold players places me teller kept told → teller < players → teller ≢ me
          → holder.gone teller ≡ false → player ≢ teller → (list : List TicCmd)
          × IsTold teller ((report_or (option_map node_of kept)).got player) (last_in kept player) list
      go teller None None is tells member other remains another = ([], none_told teller)
      go teller None (Some report) is tells member other remains another = absurd tells
      go teller (Some kept) None is tells member other remains another = absurd tells
      go teller (Some kept) (Some report) is tells member other remains another =
          let limits = within.told teller report member other remains is in (
            report.held player,
            (tells.count player below apart another, tells.last player below apart another, limits.0, limits.1),
          )

  -- what was decided on is of the player too
  decided_is : IsPrefixOf decided made
  decided_is = elim (pieces players me holder (λ other. unwrap_or (newest other) fresh_holder) player here) [
    | inl same ↦ subst (λ (ws : List TicCmd). IsPrefixOf ws made) (sym same) within.own
    | inr one ↦ subst (λ (ws : List TicCmd). IsPrefixOf ws made) (sym one.4)
        (go one.0 (newest one.0) refl one.1 one.2 one.3)
  ]
    where
      go : (teller : ℕ) (told : Option (Holder TicCmd)) → newest teller ≡ told → teller < players → teller ≢ me
          → holder.gone teller ≡ false → IsPrefixOf ((unwrap_or told fresh_holder).held player) made
      go teller None is member other remains = nothing
      go teller (Some report) is member other remains = (within.told teller report member other remains is).0

  -- its length
  long : length decided ≡ max (length own_list) (count_by me others player (teller_of players me others player))
  long =
      sym (ends players places me others holder.gone newest r holder refl player below apart given)
      ∙ highest_of_two players me (length own_list)
      (share me (own_of others (λ p. length own_list)) (told_of others) player)
      (count_by me others player) here at_own at_none same
    where
      at_own : share me (own_of others (λ p. length own_list)) (told_of others) player me ≡ length own_list
      at_own = let on = eq-eqb me me refl in rw (on) refl

      at_none : count_by me others player me ≡ 0
      at_none = let on = eq-eqb me me refl in rw (on) refl

      same : (i : ℕ) → i < players → (i ≡ me → ⊥)
          → share me (own_of others (λ p. length own_list)) (told_of others) player i ≡ count_by me others player i
      same i member other = let off = ne_eqb i me other in rw (off) refl

  pub suffices : (first : ℕ) → first ≡ first_of players me others player
      → Suffices players me player others own_list decided first
  suffices first is =
      let teller : ℕ = teller_of players me others player in
      let all = told_by teller (largest_is players (count_by me others player) (omega (arith, here))).0 in
      let told : List TicCmd = all.0 in
      let begin = begin_of places (count_by me others player teller) first
      (commands_of players me others player) told all.1.0 all.1.1 is in
      let size : length decided ≡ max (length own_list) (length told) = long ∙ ap (max (length own_list)) all.1.0 in
      let near : length told ≤ length own_list + places = all.1.3 in (
        omega (arith, begin.0, near),
        (λ i. own_list ++ drop (length own_list - begin.0 i) (all.1.1 i))
            ∙ catches places own_list told decided made within.own all.1.2 decided_is size near,
        size ∙ ap (max (length own_list)) (sym begin.1),
      )
