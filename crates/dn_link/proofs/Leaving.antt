-- Who is known to have left; and who may leave is needed by nobody who has not left, and what is
-- acknowledged is there.
use Rattle.std.proofs.Common.{◌≡◌, ◌≢◌, ◌<◌, ◌≤◌, ◌+◌, ◌-◌, ℕ, zero, suc, Bool, true, false, refl, ap, sym, ◌∙◌, subst, arith, Option, Some, None, ◌&&◌, ◌/◌, ◌%◌, ◌^◌, List, [], ◌∷◌, ◌++◌, length, take, drop, All, inl, inr}
use Rattle.std.proofs.lemmas.{Bool.{lt-ltb, ltb-true, ne_eqb, and_parts, not-true, eq-eqb}, List.Elements.{All-append, All-cons, All-nil, All-head, All-tail}, Option.{none-some, same_Some}}
use Rattle.std.specs.{Prelude.{◌==◌, if◌then◌else◌, is_some, min, nat_lt, slice_index, ◌⊎◌}, List.flat_map}
use Rattle.dn_setup.specs.Settings.{Settings}
use Rattle.dn_seal.specs.declared.opened.Opened.{Opened}
use Rattle.dn_machine.specs.{Limits.Limits, Node.is_ended}
use Rattle.dn_lockstep.specs.{Contents.{Contents, end_in}, Marking.Marking, Tables.count_of, Told.{got, made}}
use Rattle.dn_survivor.specs.{Agreed.{AreAgreedInPairs, FitInPairs}, OfOthers.has, OneGame.Session, Surviving.Surviving}
use Rattle.dn_link.specs.{Packets.{heard_of, opened_from, packets_of, short_packet, short_packets, takes_relay}, Linked.{Linked, certain, has_given_up, may_leave, needs_nothing, surviving_of}, CaughtUp.IsGone}
use Rattle.dn_link.specs.{Counting.{counts_of, has_ended, has_of, with_end}, RemainingLinks.AreRemainingLinks, Ends.{left_by, tells_end}}
use Rattle.dn_link.specs.declared.bundle.{Bundle.Bundle, Part.{Part, TheVariants.{Whole, Run, Relay}}}

-- Who is known to have left.

-- how far a lockstep says that it is, it is
pub counts_reach : (n : Contents) (echo which : ℕ) → slice_index (counts_of n echo).got which ≤ has_of n which
counts_reach n echo zero = omega arith
counts_reach n echo (suc zero) = omega arith
counts_reach n echo (suc (suc zero)) = omega arith
counts_reach n echo (suc (suc (suc zero))) = omega arith
counts_reach n echo (suc (suc (suc (suc which)))) = omega arith

-- one that has not ended knows no end of its own
pub unended : (n : Contents) (player : ℕ) → n.me ≡ player → has_ended n ≡ false → end_in n player ≡ None
unended n player own not_so = grind (arith, eq-eqb)

-- and a lockstep that tells one more than it made has ended
pub tells_own : (n : Contents) (echo : ℕ) → nat_lt (counts_of n echo).made (slice_index (counts_of n echo).got n.me) ≡ true
    → has_ended n ≡ true
tells_own n echo tells = go (has_ended n) refl
  where
    most : (end : Option ℕ) → end ≡ None → (test : Bool)
        → (if test then with_end (count_of n.rings n.me) end else 0) ≤ made n
    most None is true = omega arith
    most None is false = omega arith
    most (Some end) is test = absurd (cc)

    go : (test : Bool) → has_ended n ≡ test → has_ended n ≡ true
    go true is = is
    go false is =
        let less = ltb-true (made n) (slice_index (counts_of n echo).got n.me) tells in
        let reach = counts_reach n echo n.me in
        let few = most (end_in n n.me) (unended n n.me refl is) (nat_lt n.me n.players) in
        absurd (omega (arith, less, reach, few))

-- one that has left by now had left, or its datagram tells its end
pub has_left : {A : Type 0} (bundle : Bundle) (old : Option ℕ) (cause : ℕ) → left_by bundle old ≡ Some cause
    → (old ≡ Some cause → A) → (tells_end bundle ≡ true → A) → A
has_left {A} bundle old cause is was told =
    go (nat_lt 0 bundle.cause) (nat_lt bundle.cause 4) (tells_end bundle) refl is
  where
    go : (some left ends : Bool) → tells_end bundle ≡ ends
        → (if some && (left && ends) then Some bundle.cause else old) ≡ Some cause → A
    go true true true so is = told so
    go true true false so is = was is
    go true false ends so is = was is
    go false left ends so is = was is

-- and one that has left stays so
pub stays_left : (bundle : Bundle) (old : Option ℕ) → IsGone old → IsGone (left_by bundle old)
stays_left bundle old gone = go (nat_lt 0 bundle.cause && (nat_lt bundle.cause 4 && tells_end bundle))
  where
    go : (test : Bool) → IsGone (if test then Some bundle.cause else old)
    go true = (bundle.cause, refl)
    go false = gone

-- What is heard of a datagram is its sender's, or asks for nothing and is of a player who is not given up.

-- what holds of each of two lists
pub All-front : {A : Type 0} (P : A → Type 0) (xs ys : List A) → All P (xs ++ ys) → All P xs
All-front P [] ys all = All-nil P
All-front P (x ∷ xs) ys all =
    All-cons P x xs (All-head P x (xs ++ ys) all) (All-front P xs ys (All-tail P x (xs ++ ys) all))

pub All-back : {A : Type 0} (P : A → Type 0) (xs ys : List A) → All P (xs ++ ys) → All P ys
All-back P [] ys all = all
All-back P (x ∷ xs) ys all = All-back P xs ys (All-tail P x (xs ++ ys) all)

module _ (gone : ℕ → Bool) (counts : List ℕ) (from : ℕ) where
  -- of the sender, or of another who is not given up, without a request
  abbrev IsHeardFrom : Opened → Type 0
  IsHeardFrom packet = (packet.from ≡ from) ⊎ ((gone packet.from ≡ false) × (packet.ask ≡ None))

  own_from : (n start : ℕ) (commands : List ℕ) → All IsHeardFrom (short_packets n from start commands)
  own_from zero start commands = All-nil IsHeardFrom
  own_from (suc n) start commands =
      All-cons IsHeardFrom (opened_from from (short_packet from start (take 8 commands)))
      (short_packets n from ((start + 1) % 2 ^ 32) (drop 8 commands)) (inl refl)
      (own_from n ((start + 1) % 2 ^ 32) (drop 8 commands))

  third_from : (player : ℕ) → gone player ≡ false → (n start : ℕ) (commands : List ℕ)
      → All IsHeardFrom (short_packets n player start commands)
  third_from player free zero start commands = All-nil IsHeardFrom
  third_from player free (suc n) start commands =
      All-cons IsHeardFrom (opened_from player (short_packet player start (take 8 commands)))
      (short_packets n player ((start + 1) % 2 ^ 32) (drop 8 commands)) (inr (free, refl))
      (third_from player free n ((start + 1) % 2 ^ 32) (drop 8 commands))

  part_from : (part : Part) → All IsHeardFrom (heard_of (takes_relay gone counts) from part)
  part_from (Whole packet) = All-cons IsHeardFrom (opened_from from packet) [] (inl refl) (All-nil IsHeardFrom)
  part_from (Run run) = own_from (length run.commands.items / 8) run.start run.commands.items
  part_from (Relay relay) = grind (arith, All-nil, and_parts, third_from, not-true)

  pub parts_from : (parts : List Part) → All IsHeardFrom (flat_map (heard_of (takes_relay gone counts) from) parts)
  parts_from [] = All-nil IsHeardFrom
  parts_from (part ∷ parts) =
      All-append IsHeardFrom (heard_of (takes_relay gone counts) from part) (flat_map (heard_of (takes_relay gone counts) from) parts) (part_from part)
      (parts_from parts)

  -- what holds of all that a datagram carries holds of what is heard of it
  part_heard : (P : Opened → Type 0) (part : Part) → All P (packets_of from part) → All P (heard_of (takes_relay gone counts) from part)
  part_heard P (Whole packet) all = all
  part_heard P (Run run) all = all
  part_heard P (Relay relay) all = grind (arith, All-nil)

  pub parts_heard : (P : Opened → Type 0) (parts : List Part) → All P (flat_map (packets_of from) parts)
      → All P (flat_map (heard_of (takes_relay gone counts) from) parts)
  parts_heard P [] all = All-nil P
  parts_heard P (part ∷ parts) all =
      All-append P (heard_of (takes_relay gone counts) from part) (flat_map (heard_of (takes_relay gone counts) from) parts)
      (part_heard P part (All-front P (packets_of from part) (flat_map (packets_of from) parts) all))
      (parts_heard P parts (All-back P (packets_of from part) (flat_map (packets_of from) parts) all))

-- Who may leave.
clash : {A : Type 0} {test : Bool} → test ≡ true → test ≡ false → A
clash one other = absurd (cc)

and_both : (a b : Bool) → (a && b) ≡ true → (a ≡ true) × (b ≡ true)
and_both true b e = (refl, e)
and_both false b e = absurd (cc)

-- each of the four
each_needs : (link : Linked) → may_leave link ≡ true → (other : ℕ) → other < 4 → needs_nothing link other ≡ true
each_needs link all other few =
    let one = and_both (needs_nothing link 0) _ all in
    let two = and_both (needs_nothing link 1) _ one.1 in
    let three = and_both (needs_nothing link 2) (needs_nothing link 3) two.1 in
    go other few one.0 two.0 three.0 three.1
  where
    go : (other : ℕ) → other < 4 → needs_nothing link 0 ≡ true → needs_nothing link 1 ≡ true
        → needs_nothing link 2 ≡ true → needs_nothing link 3 ≡ true → needs_nothing link other ≡ true
    go zero few a b c d = a
    go (suc zero) few a b c d = b
    go (suc (suc zero)) few a b c d = c
    go (suc (suc (suc zero))) few a b c d = d
    go (suc (suc (suc (suc other)))) few a b c d = absurd (omega (arith, few))

-- a count that is larger than all commands counts them and the end
both_there : (count all : ℕ) (end : Option ℕ) → all + 1 ≤ with_end count end → count ≤ all
    → (count ≡ all) × (is_some end ≡ true)
both_there count all None more few = absurd (omega (arith, more, few))
both_there count all (Some end) more few = (omega (arith, more, few), refl)

min_first : (a b bound : ℕ) → a ≤ bound → min a b ≤ bound
min_first a b bound less = grind (arith, less)

-- a count that is no larger than what is there, with the end where that is known to both
pub at_most_there : (test : Bool) (count all there : ℕ) (end : Option ℕ) → count ≤ with_end there end
    → (is_some end ≡ true → test ≡ true) → min (if test then count - 1 else count) all ≤ there
at_most_there true count all there None few known = min_first (count - 1) all there (omega (arith, few))
at_most_there true count all there (Some end) few known = min_first (count - 1) all there (omega (arith, few))
at_most_there false count all there None few known = min_first count all there few
at_most_there false count all there (Some end) few known = absurd (let so = known refl in cc)

-- the end of a player's own lockstep comes after all commands that it made
pub own_end : (n : Contents) (player end : ℕ) → n.me ≡ player → end_in n player ≡ Some end → end ≡ made n
own_end n player end own is =
    go (n.played && is_ended n.phase) (sym (rw (eq-eqb player n.me (sym own)) refl) ∙ is)
  where
    go : (test : Bool) → (if test then Some (made n) else None) ≡ Some end → end ≡ made n
    go true e = sym (same_Some (made n) end e)
    go false e = absurd (none-some end e)

module _ (marking : Marking) (limits : Limits) (settings : Settings) (session : Session) (links : ℕ → Linked)
    (player other : ℕ) (linked : AreRemainingLinks marking limits settings session links)
    (agreed : AreAgreedInPairs limits settings session) (fit : FitInPairs limits session)
    (mine : player < limits.players) (below : other < limits.players) (apart : other ≢ player) where
  abbrev link : Linked
  link = links player

  -- the lockstep of the other, and how it is known to this one
  abbrev n : Contents
  n = (session.survivors other).lockstep

  its : surviving_of link ≡ session.survivors player
  its = linked.survivors player mine

  node : link.node ≡ (session.survivors player).lockstep
  node = ap (λ (s : Surviving). s.lockstep) its

  there : (links other).node ≡ n
  there = ap (λ (s : Surviving). s.lockstep) (linked.survivors other below)

  own : link.node.me ≡ player
  own = ap (λ (n : Contents). n.me) node ∙ agreed.numbers player mine

  -- what it reported is there
  told : slice_index (link.peers other).reported link.node.me ≤ with_end (got n player) (end_in n player)
  told =
      let is = (linked.told player mine).reported other player (λ e. apart (sym e)) in
      let same = ap (λ (k : ℕ). slice_index (link.peers other).reported k) own in
      let has : has_of n player ≡ with_end (got n player) (end_in n player) =
      rw (lt-ltb player n.players (omega (arith, mine, agreed.several other below))) refl in
      omega (arith, is, same, has)

  -- one who has not given up the player knows no end of it but the player's own
  module _ (open_to : has_given_up (links other) player ≡ false) where
    true_end : (end : ℕ) → end_in n player ≡ Some end → end_in (session.survivors player).lockstep player ≡ Some end
    true_end end is =
        agreed.ends other player end below mine
        (ap (λ (s : Surviving). has s.others.gone player) (sym (linked.survivors other below)) ∙ open_to) is

    ends : (end : Option ℕ) → end_in n player ≡ end → is_some end ≡ true
        → is_some (end_in link.node link.node.me) ≡ true
    ends None is known = absurd (cc)
    ends (Some end) is known = ap is_some ((λ i. end_in (node i) (own i)) ∙ true_end end is)

    pub acknowledged : certain link.node (slice_index (link.peers other).reported link.node.me)
        ≤ got (links other).node player
    acknowledged = subst (λ (x : Contents). certain link.node (slice_index (link.peers other).reported link.node.me)
        ≤ got x player) (sym there)
        (at_most_there (is_some (end_in link.node link.node.me)) (slice_index (link.peers other).reported link.node.me)
        (made link.node) (got n player) (end_in n player) told (ends (end_in n player) refl))

  -- it has told that it has one more than all, if it needs nothing and has not ended
  module _ (free : has_given_up link other ≡ false) (here : has_ended n ≡ false) where
    -- no end of it is known
    goes_on : end_in link.node other ≡ None
    goes_on = go (end_in link.node other) refl
      where
        go : (end : Option ℕ) → end_in link.node other ≡ end → end_in link.node other ≡ None
        go None is = is
        go (Some end) is =
            let known = agreed.ends player other end mine below
            (ap (λ (s : Surviving). has s.others.gone other) (sym its) ∙ free)
            (ap (λ (n : Contents). end_in n other) (sym node) ∙ is) in
            absurd (none-some end (sym (unended n other (agreed.numbers other below) here) ∙ known))

    -- nor is it taken to have left
    stays : is_some (link.peers other).left ≡ false
    stays = go (link.peers other).left refl
      where
        go : (left : Option ℕ) → (link.peers other).left ≡ left → is_some left ≡ false
        go (Some cause) is = clash ((linked.told player mine).left other cause is) here
        go None is = refl

    has_told : needs_nothing link other ≡ true
        → made link.node < slice_index (link.peers other).reported link.node.me
    has_told needs =
        let count : link.node.players ≡ limits.players =
        ap (λ (n : Contents). n.players) node ∙ agreed.several player mine in
        let in_game : nat_lt other link.node.players ≡ true = lt-ltb other link.node.players (omega (arith, below, count)) in
        let another : (other == link.node.me) ≡ false = ne_eqb other link.node.me (λ e. apart (e ∙ own)) in
        let unknown : is_some (end_in link.node other) ≡ false = ap is_some goes_on in
        ltb-true (made link.node) (slice_index (link.peers other).reported link.node.me)
        (sym (rw (in_game, unknown, another, free, stays) refl) ∙ needs)

    both : may_leave link ≡ true
        → (got n player ≡ made (session.survivors player).lockstep) × (is_some (end_in n player) ≡ true)
    both all =
        let few = (linked.game.nodes player mine).few in
        let more = has_told (each_needs link all other (omega (arith, few, below))) in
        let count = ap made node in
        let held = fit.held other player below mine in
        both_there (got n player) (made (session.survivors player).lockstep) (end_in n player)
        (omega (arith, more, told, count)) held

    end_known : (end : Option ℕ) → is_some end ≡ true → end_in n player ≡ end → has_given_up (links other) player ≡ false
        → end_in n player ≡ Some (made (session.survivors player).lockstep)
    end_known None known is open_to = absurd (cc)
    end_known (Some end) known is open_to =
        is ∙ ap Some (own_end (session.survivors player).lockstep player end (agreed.numbers player mine)
        (true_end open_to end is))

  pub safe : has_given_up link other ≡ false → may_leave link ≡ true → has_ended (links other).node ≡ false
      → (got (links other).node player ≡ made link.node) × (has_given_up (links other) player ≡ false
      → end_in (links other).node player ≡ Some (made link.node))
  safe free all on =
      let here : has_ended n ≡ false = ap has_ended (sym there) ∙ on in
      let is = both free here all in (
        ap (λ (x : Contents). got x player) there ∙ is.0 ∙ ap made (sym node),
        λ open_to. ap (λ (x : Contents). end_in x player) there
            ∙ end_known free here (end_in n player) is.1 refl open_to
            ∙ ap (λ (x : Contents). Some (made x)) (sym node),
      )
