-- Packets without a gap, that are kept and that go to a peer; and of several makers, of none of whom there
-- is a gap.
use Rattle.std.proofs.Common.{◌≡◌, ◌≤◌, ◌<◌, ◌⊎◌, ◌+◌, ◌*◌, ◌/◌, ◌%◌, ◌^◌, ℕ, zero, suc, Bool, true, false, List, [], ◌∷◌, ◌++◌, length, take, drop, refl, ap, sym, arith, All, inl, inr, ◌&&◌, map, subst, Option, Some, None}
use Rattle.std.proofs.lemmas.{List.{Elements.{All-append, All-cons, All-head, All-nil, All-tail}, length-drop, length-take-le}, Bool.{cases_eq, and_parts, leb-true, leb-false, ltb-true}}
use Rattle.std.specs.{Prelude.{if◌then◌else◌, max, nat_le, nat_lt}, List.flat_map}
use Rattle.dn_seal.specs.declared.opened.Opened.{Opened}
use Rattle.dn_machine.specs.Node.{put}
use Rattle.dn_machine.proofs.Put.{put_at, put_off}
use Rattle.dn_link.specs.{Packets.{heard_of, opened_from, packets_of, short_packet, short_packets}, CaughtUp.{HasExit, IsChain, IsClose, HasNoGap, last_end, told_end, IsKeptChain}}
use Rattle.dn_link.specs.{Kept.{IsRising, Unacknowledged, end_of, going, is_news, kept_after, without}, declared.bundle.{Part.{Part, TheVariants.{Whole, Run, Relay}}, Carried.Carried}}
use Rattle.dn_link.proofs.{Leaving.{All-back, All-front}, Covered.few}
use Rattle.dn_link.specs.declared.bundle.Relay as relay

-- Packets without a gap, that are kept and that go to a peer.

-- the peer needs fewer
pub chain_past : (done : ℕ) (packets : List Carried) (covered count : ℕ) → IsRising done packets covered
    → IsChain done packets covered → IsChain (max done count) (without count packets) (max covered count)
chain_past done [] covered count rising chain = omega (arith, chain)
chain_past done (packet ∷ packets) covered count (first, rest) (start, quiet, more) =
    go (nat_le (end_of packet) count) refl (chain_past (end_of packet) packets covered count rest more)
  where
    go : (test : Bool) → nat_le (end_of packet) count ≡ test
        → IsChain (max (end_of packet) count) (without count packets) (max covered count)
        → IsChain (max done count) (if test then without count packets else packet ∷ packets) (max covered count)
    go true ends behind =
        let within = leb-true (end_of packet) count ends in
        let same : max (end_of packet) count ≡ max done count = omega (arith, within, first) in
        subst (λ (n : ℕ). IsChain n (without count packets) (max covered count)) same behind
    go false past behind =
        let beyond = leb-false (end_of packet) count past in
        let most = few (end_of packet) packets covered rest in
        let same : covered ≡ max covered count = omega (arith, beyond, most) in (
          omega (arith, start),
          quiet,
          subst (λ (n : ℕ). IsChain (end_of packet) packets n) same more,
        )

-- one more that goes on from them
chain_on : (done : ℕ) (packets : List Carried) (covered : ℕ) (packet : Carried) → packet.start ≤ covered
    → packet.ask ≡ None → IsChain done packets covered → IsChain done (packets ++ packet ∷ []) (end_of packet)
chain_on done [] covered packet start quiet chain = (omega (arith, start, chain), quiet, refl)
chain_on done (other ∷ packets) covered packet start quiet (first, silent, rest) =
    (first, silent, chain_on (end_of other) packets covered packet start quiet rest)

pub keeps_chain : (kept : Unacknowledged) (packet : Option Carried)
    → ((one : Carried) → packet ≡ Some one → one.ask ≡ None) → IsKeptChain kept → IsKeptChain (kept_after kept packet)
keeps_chain kept None quiet chain = chain
keeps_chain kept (Some packet) quiet chain = go (is_news kept packet) refl
  where
    go : (test : Bool) → is_news kept packet ≡ test → IsKeptChain
        (if test then record kept { packets = kept.packets ++ packet ∷ []; covered = end_of packet } else kept)
    go true news =
        let room : Bool = nat_lt kept.covered (end_of packet) && nat_lt (length kept.packets) 24 in
        let low = leb-true packet.start kept.covered (and_parts (nat_le packet.start kept.covered) room news).0 in
        chain_on kept.done kept.packets kept.covered packet low (quiet packet refl) chain
    go false old = chain

-- The packets that are kept, each of which begins where the one before it ends, less a lag.

pub close_past : (lag : ℕ) (packets : List Carried) (next count : ℕ) → IsClose lag packets next
    → IsClose lag (without count packets) next
close_past lag [] next count close = tt
close_past lag (packet ∷ packets) next count (end, rest) =
    go (nat_le (end_of packet) count) (close_past lag packets next count rest)
  where
    go : (test : Bool) → IsClose lag (without count packets) next
        → IsClose lag (if test then without count packets else packet ∷ packets) next
    go true behind = behind
    go false behind = (end, rest)

-- the next one begins later
close_up : (lag : ℕ) (packets : List Carried) (next later : ℕ) → next ≤ later → IsClose lag packets next
    → IsClose lag packets later
close_up lag [] next later less close = tt
close_up lag (packet ∷ []) next later less (end, rest) = (omega (arith, end, less), tt)
close_up lag (packet ∷ other ∷ packets) next later less (end, rest) =
    (end, close_up lag (other ∷ packets) next later less rest)

-- one more
close_on : (lag : ℕ) (packets : List Carried) (packet : Carried) (next : ℕ) → IsClose lag packets packet.start
    → end_of packet ≤ next + lag → IsClose lag (packets ++ packet ∷ []) next
close_on lag [] packet next close end = (end, tt)
close_on lag (one ∷ []) packet next (first, rest) end = (first, (end, tt))
close_on lag (one ∷ other ∷ packets) packet next (first, rest) end =
    (first, close_on lag (other ∷ packets) packet next rest end)

pub keeps_close : (lag : ℕ) (kept : Unacknowledged) (packet : Option Carried) (next later : ℕ) → next ≤ later
    → ((one : Carried) → packet ≡ Some one → kept.covered < end_of one
    → (one.start ≡ next) × (end_of one ≤ later + lag)) → IsClose lag kept.packets next
    → IsClose lag (kept_after kept packet).packets later
keeps_close lag kept None next later less is close = close_up lag kept.packets next later less close
keeps_close lag kept (Some packet) next later less is close = go (is_news kept packet) refl
  where
    go : (test : Bool) → is_news kept packet ≡ test → IsClose lag
        (if test then record kept { packets = kept.packets ++ packet ∷ []; covered = end_of packet } else kept).packets later
    go true news =
        let room : Bool = nat_lt (length kept.packets) 24 in
        let past = ltb-true kept.covered (end_of packet) (and_parts (nat_lt kept.covered (end_of packet)) room
        (and_parts (nat_le packet.start kept.covered) (nat_lt kept.covered (end_of packet) && room) news).1).0 in
        let moment = is packet refl past in
        close_on lag kept.packets packet later (subst (IsClose lag kept.packets) (sym moment.0) close) moment.1
    go false old = close_up lag kept.packets next later less close

-- what they cover is no more behind the next one
pub close_end : (lag done : ℕ) (packets : List Carried) (covered next : ℕ) → IsChain done packets covered
    → IsClose lag packets next → 1 ≤ length packets → covered ≤ next + lag
close_end lag done [] covered next chain close some = absurd (omega (arith, some))
close_end lag done (packet ∷ []) covered next (start, quiet, chain) (end, close) some = omega (arith, chain, end)
close_end lag done (packet ∷ other ∷ packets) covered next (start, quiet, chain) (end, close) some =
    close_end lag (end_of packet) (other ∷ packets) covered next chain close (omega arith)

-- they have no gap, and end where they cover
pub chain_goes : (me done : ℕ) (packets : List Carried) (covered : ℕ) → IsChain done packets covered
    → HasNoGap done (map (opened_from me) packets) × (last_end done (map (opened_from me) packets) ≡ covered)
chain_goes me done [] covered chain = (tt, sym chain)
chain_goes me done (packet ∷ packets) covered (start, quiet, rest) =
    let more = chain_goes me (end_of packet) packets covered rest in ((start, more.0), more.1)

-- nor has what goes to the peer
pub going_goes : (me : ℕ) (kept : Unacknowledged) (packet : Option Carried)
    → ((one : Carried) → packet ≡ Some one → one.start ≤ kept.covered) → IsKeptChain kept
    → HasNoGap kept.done (map (opened_from me) (going kept packet))
going_goes me kept None low chain = (chain_goes me kept.done kept.packets kept.covered chain).0
going_goes me kept (Some packet) low chain = go kept.done kept.packets chain
  where
    go : (done : ℕ) (packets : List Carried) → IsChain done packets kept.covered
        → HasNoGap done (map (opened_from me) (packets ++ packet ∷ []))
    go done [] chain = (let start = low packet refl in omega (arith, start, chain), tt)
    go done (other ∷ packets) (start, quiet, rest) = (start, go (end_of other) packets rest)

abbrev pub IsQuiet : Opened → Type 0
IsQuiet packet = packet.ask ≡ None

-- and none of it asks for anything
pub going_asks : (me : ℕ) (kept : Unacknowledged) (packet : Option Carried)
    → ((one : Carried) → packet ≡ Some one → one.ask ≡ None) → IsKeptChain kept
    → All IsQuiet (map (opened_from me) (going kept packet))
going_asks me kept None quiet chain = go kept.done kept.packets chain
  where
    go : (done : ℕ) (packets : List Carried) → IsChain done packets kept.covered
        → All IsQuiet (map (opened_from me) packets)
    go done [] chain = All-nil IsQuiet
    go done (other ∷ packets) (start, silent, rest) =
        All-cons IsQuiet (opened_from me other) (map (opened_from me) packets) silent (go (end_of other) packets rest)
going_asks me kept (Some packet) quiet chain = go kept.done kept.packets chain
  where
    go : (done : ℕ) (packets : List Carried) → IsChain done packets kept.covered
        → All IsQuiet (map (opened_from me) (packets ++ packet ∷ []))
    go done [] chain = All-cons IsQuiet (opened_from me packet) [] (quiet packet refl) (All-nil IsQuiet)
    go done (other ∷ packets) (start, silent, rest) =
        All-cons IsQuiet (opened_from me other) (map (opened_from me) (packets ++ packet ∷ [])) silent
        (go (end_of other) packets rest)

-- the first of them have no gap
pub first_goes : (count tic : ℕ) (packets : List Opened) → HasNoGap tic packets → HasNoGap tic (take count packets)
first_goes zero tic packets goes = tt
first_goes (suc count) tic [] goes = tt
first_goes (suc count) tic (packet ∷ packets) (start, rest) = (start, first_goes count (told_end packet) packets rest)

-- nor have they behind a later tic
pub later_goes : (tic later : ℕ) (packets : List Opened) → tic ≤ later → HasNoGap tic packets → HasNoGap later packets
later_goes tic later [] less goes = tt
later_goes tic later (packet ∷ packets) less (start, rest) = (omega (arith, start, less), rest)

-- Packets of several makers.

-- where the packets of each maker end then
abbrev pub then_end : (ℕ → ℕ) → Opened → ℕ → ℕ
then_end tics packet = put tics packet.from (max (tics packet.from) (told_end packet))

-- each begins where those of its maker end by then, or before
abbrev pub HaveNoGaps : (ℕ → ℕ) → List Opened → Type 0
HaveNoGaps tics [] = Unit {0}
HaveNoGaps tics (packet ∷ packets) = (packet.start ≤ tics packet.from) × HaveNoGaps (then_end tics packet) packets

-- where those of each end at last
abbrev pub ends_of : (ℕ → ℕ) → List Opened → ℕ → ℕ
ends_of tics [] = tics
ends_of tics (packet ∷ packets) = ends_of (then_end tics packet) packets

then_up : (tics : ℕ → ℕ) (packet : Opened) (p : ℕ) → tics p ≤ then_end tics packet p
then_up tics packet p = grind (arith, cases_eq, put_at, put_off)

ends_up : (tics : ℕ → ℕ) (packets : List Opened) (p : ℕ) → tics p ≤ ends_of tics packets p
ends_up tics [] p = omega arith
ends_up tics (packet ∷ packets) p =
    let first = then_up tics packet p in
    let rest = ends_up (then_end tics packet) packets p in
    omega (arith, first, rest)

-- one list and then another
gaps_on : (tics : ℕ → ℕ) (first rest : List Opened) → HaveNoGaps tics first → HaveNoGaps (ends_of tics first) rest
    → HaveNoGaps tics (first ++ rest)
gaps_on tics [] rest one other = other
gaps_on tics (packet ∷ first) rest (low, one) other = (low, gaps_on (then_end tics packet) first rest one other)

ends_on : (tics : ℕ → ℕ) (first rest : List Opened) → ends_of tics (first ++ rest) ≡ ends_of (ends_of tics first) rest
ends_on tics [] rest = refl
ends_on tics (packet ∷ first) rest = ends_on (then_end tics packet) first rest

gap_split : (tic : ℕ) (first rest : List Opened) → HasNoGap tic (first ++ rest)
    → HasNoGap tic first × HasNoGap (last_end tic first) rest
gap_split tic [] rest goes = (tt, goes)
gap_split tic (packet ∷ first) rest (low, goes) =
    let both = gap_split (told_end packet) first rest goes in ((low, both.0), both.1)

last_on : (tic : ℕ) (first rest : List Opened) → last_end tic (first ++ rest) ≡ last_end (last_end tic first) rest
last_on tic [] rest = refl
last_on tic (packet ∷ first) rest = last_on (told_end packet) first rest

-- packets of one maker without a gap
one_maker : (who tic : ℕ) (tics : ℕ → ℕ) (packets : List Opened) → All (λ (packet : Opened). packet.from ≡ who) packets
    → tic ≤ tics who → HasNoGap tic packets
    → HaveNoGaps tics packets × (last_end tic packets ≤ ends_of tics packets who)
one_maker who tic tics [] all there goes = (tt, there)
one_maker who tic tics (packet ∷ packets) all there (low, goes) =
    let of : packet.from ≡ who = All-head (λ (p : Opened). p.from ≡ who) packet packets all in
    let now : then_end tics packet who ≡ max (tics packet.from) (told_end packet) =
    put_at tics packet.from who (max (tics packet.from) (told_end packet)) (sym of) in
    let rest = one_maker who (told_end packet) (then_end tics packet) packets
    (All-tail (λ (p : Opened). p.from ≡ who) packet packets all) (omega (arith, now)) goes in
    ((omega (arith, low, there, ap tics of), rest.0), rest.1)

-- the packets of a run
run_of : (player n start : ℕ) (commands : List ℕ)
    → All (λ (packet : Opened). packet.from ≡ player) (short_packets n player start commands)
run_of player zero start commands = All-nil (λ (p : Opened). p.from ≡ player)
run_of player (suc n) start commands =
    All-cons (λ (p : Opened). p.from ≡ player) (opened_from player (short_packet player start (take 8 commands)))
    (short_packets n player ((start + 1) % 2 ^ 32) (drop 8 commands)) refl
    (run_of player n ((start + 1) % 2 ^ 32) (drop 8 commands))

run_quiet : (player n start : ℕ) (commands : List ℕ) → All IsQuiet (short_packets n player start commands)
run_quiet player zero start commands = All-nil IsQuiet
run_quiet player (suc n) start commands =
    All-cons IsQuiet (opened_from player (short_packet player start (take 8 commands)))
    (short_packets n player ((start + 1) % 2 ^ 32) (drop 8 commands)) refl
    (run_quiet player n ((start + 1) % 2 ^ 32) (drop 8 commands))

short_end : (player start : ℕ) (command : List ℕ) → length command ≡ 8
    → told_end (opened_from player (short_packet player start command)) ≡ start + 1
short_end player start command eight = omega (arith, eight)

run_goes : (player n start : ℕ) (commands : List ℕ) → 8 * n ≤ length commands
    → HasNoGap start (short_packets n player start commands)
run_goes player zero start commands long = tt
run_goes player (suc n) start commands long =
    let one = short_end player start (take 8 commands) (length-take-le 8 commands (omega (arith, long))) in
    let left = length-drop 8 commands in
    let rest = run_goes player n ((start + 1) % 2 ^ 32) (drop 8 commands) (omega (arith, left, long)) in (
      omega arith,
      behind ((start + 1) % 2 ^ 32) (told_end (opened_from player (short_packet player start (take 8 commands))))
          (short_packets n player ((start + 1) % 2 ^ 32) (drop 8 commands)) (omega (arith, one)) rest,
    )
  where
    behind : (tic later : ℕ) (packets : List Opened) → tic ≤ later → HasNoGap tic packets → HasNoGap later packets
    behind tic later [] less goes = tt
    behind tic later (packet ∷ packets) less (low, goes) = (omega (arith, low, less), goes)

-- an EXIT packet of two lists
exit_front : (from end : ℕ) (one other : List Opened) → HasExit from end one → HasExit from end (one ++ other)
exit_front from end [] other has = absurd has
exit_front from end (packet ∷ one) other has =
    elim has [ inl here ↦ inl here | inr behind ↦ inr (exit_front from end one other behind) ]

pub exit_back : (from end : ℕ) (one other : List Opened) → HasExit from end other → HasExit from end (one ++ other)
exit_back from end [] other has = has
exit_back from end (packet ∷ one) other has = inr (exit_back from end one other has)

exit_split : (from end : ℕ) (one other : List Opened) → HasExit from end (one ++ other)
    → HasExit from end one ⊎ HasExit from end other
exit_split from end [] other has = inr has
exit_split from end (packet ∷ one) other has = elim has [
  | inl here ↦ inl (inl here)
  | inr behind ↦ elim (exit_split from end one other behind) [ inl first ↦ inl (inr first) | inr last ↦ inr last ]
]

-- what a part has of its sender's own packets
abbrev pub own_of : ℕ → Part → List Opened
own_of = heard_of (λ relay. false)

-- what is heard of a datagram whose sender's own packets have no gap, where what is taken of others has none
module _ (takes : relay.Relay → Bool) (from : ℕ) (first : ℕ → ℕ)
    (low : (relay : relay.Relay) → takes relay ≡ true → relay.run.start ≤ first relay.player) where
  -- of one part
  abbrev Goes : (tics : ℕ → ℕ) (tic : ℕ) → List Opened → List Opened → Type 0
  Goes tics tic own heard = HaveNoGaps tics heard × (last_end tic own ≤ ends_of tics heard from)

  part_goes : (part : Part) (tics : ℕ → ℕ) (tic : ℕ) → tic ≤ tics from → ((p : ℕ) → first p ≤ tics p)
      → HasNoGap tic (own_of from part) → Goes tics tic (own_of from part) (heard_of takes from part)
  part_goes (Whole packet) tics tic there least goes = one_maker from tic tics (packets_of from (Whole packet))
      (All-cons (λ (p : Opened). p.from ≡ from) (opened_from from packet) [] refl (All-nil (λ (p : Opened). p.from ≡ from)))
      there goes
  part_goes (Run run) tics tic there least goes = one_maker from tic tics (packets_of from (Run run))
      (run_of from (length run.commands.items / 8) run.start run.commands.items) there goes
  part_goes (Relay relay) tics tic there least goes = go (takes relay) refl
    where
      go : (test : Bool) → takes relay ≡ test → Goes tics tic [] (if test then packets_of from (Relay relay) else [])
      go false is = (tt, there)
      go true is =
          let begins = low relay is in
          let here = least relay.player in
          let one = one_maker relay.player relay.run.start tics (packets_of from (Relay relay))
          (run_of relay.player (length relay.run.commands.items / 8) relay.run.start relay.run.commands.items)
          (omega (arith, begins, here))
          (run_goes relay.player (length relay.run.commands.items / 8) relay.run.start relay.run.commands.items (omega arith)) in
          let up = ends_up tics (packets_of from (Relay relay)) from in
          (one.0, omega (arith, there, up))

  pub parts_go : (parts : List Part) (tics : ℕ → ℕ) (tic : ℕ) → tic ≤ tics from → ((p : ℕ) → first p ≤ tics p)
      → HasNoGap tic (flat_map (own_of from) parts)
      → Goes tics tic (flat_map (own_of from) parts) (flat_map (heard_of takes from) parts)
  parts_go [] tics tic there least goes = (tt, there)
  parts_go (part ∷ parts) tics tic there least goes =
      let own = own_of from part in
      let heard = heard_of takes from part in
      let both = gap_split tic own (flat_map (own_of from) parts) goes in
      let one = part_goes part tics tic there least both.0 in
      let rest = parts_go parts (ends_of tics heard) (last_end tic own) one.1
      (λ p. let was = least p in let up = ends_up tics heard p in omega (arith, was, up)) both.1 in
      let last = last_on tic own (flat_map (own_of from) parts) in
      let ends = ap (λ (f : ℕ → ℕ). f from) (ends_on tics heard (flat_map (heard_of takes from) parts)) in (
        gaps_on tics heard (flat_map (heard_of takes from) parts) one.0 rest.0,
        omega (arith, last, ends, rest.1),
      )

  -- and nothing of it asks for anything, where nothing of the sender's own does
  part_asks : (part : Part) → All IsQuiet (own_of from part) → All IsQuiet (heard_of takes from part)
  part_asks (Whole packet) all = all
  part_asks (Run run) all = all
  part_asks (Relay relay) all = go (takes relay)
    where
      go : (test : Bool) → All IsQuiet (if test then packets_of from (Relay relay) else [])
      go true = run_quiet relay.player (length relay.run.commands.items / 8) relay.run.start relay.run.commands.items
      go false = All-nil IsQuiet

  pub parts_ask : (parts : List Part) → All IsQuiet (flat_map (own_of from) parts)
      → All IsQuiet (flat_map (heard_of takes from) parts)
  parts_ask [] all = All-nil IsQuiet
  parts_ask (part ∷ parts) all =
      All-append IsQuiet (heard_of takes from part) (flat_map (heard_of takes from) parts)
      (part_asks part (All-front IsQuiet (own_of from part) (flat_map (own_of from) parts) all))
      (parts_ask parts (All-back IsQuiet (own_of from part) (flat_map (own_of from) parts) all))

  -- and an EXIT packet of the sender is heard
  pub parts_exit : (end : ℕ) (parts : List Part) → HasExit from end (flat_map (own_of from) parts)
      → HasExit from end (flat_map (heard_of takes from) parts)
  parts_exit end [] has = has
  parts_exit end (part ∷ parts) has = elim (exit_split from end (own_of from part) (flat_map (own_of from) parts) has) [
    | inl here ↦ exit_front from end (heard_of takes from part) (flat_map (heard_of takes from) parts) (of_part part here)
    | inr behind ↦ exit_back from end (heard_of takes from part) (flat_map (heard_of takes from) parts)
        (parts_exit end parts behind)
  ]
    where
      of_part : (part : Part) → HasExit from end (own_of from part) → HasExit from end (heard_of takes from part)
      of_part (Whole packet) has = has
      of_part (Run run) has = has
      of_part (Relay relay) has = absurd has
