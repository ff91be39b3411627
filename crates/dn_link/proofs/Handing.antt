-- What a link may hand on, and to whom; and the commands of third players that are handed on were given.
use Rattle.std.proofs.Common.{◌≡◌, ◌<◌, ◌≤◌, ◌+◌, ◌||◌, ℕ, length, append_assoc, zero, suc, Bool, true, false, List, [], ◌∷◌, ◌++◌, append-nil, refl, ap, sym, subst, ◌∙◌, arith, Option, Some, None, inl, inr, ◌≢◌, ◌*◌, ◌/◌, ◌%◌, ◌^◌, negsuc, map, All}
use Rattle.std.proofs.{lemmas.{List.{Elements.{All-nil, All-cons, All-append}, length-append}, Bool.{and_parts, not-true}, Grind.flat_map-append}, Math.Nat.mod-lt}
use Rattle.std.specs.{Prelude.{◌⊎◌, IfSome, not, slice_get}, List.flat_map}
use Rattle.dn_tic.specs.{Command.{IsCommand, command_bytes}, declared.command.TicCmd.TicCmd}
use Rattle.dn_link.specs.Relays.{IsFrom, newest_from}
use Rattle.dn_link.specs.Surviving.{HasTwoBehind, IsNewestFor, IsRunFor}
use Rattle.std.proofs.lemmas.Bool.{and_from, eq-eqb, eqb-false, true≢false}
use Rattle.std.proofs.lemmas.List.Elements.{All-head, All-tail}
use Rattle.std.specs.Prelude.{is_some, ◌==◌}
use Rattle.dn_machine.specs.{Flight.Flight, Relaying.packet_of_one}
use Rattle.dn_lockstep.specs.{Contents.Contents, Sent.IsFair, Told.command_told}
use Rattle.dn_lockstep.proofs.Keeping.{none_stops}
use Rattle.dn_survivor.specs.{declared.report.Report.Report, OfOthers.newest_of, Telling.{MayRelay, told_gone}}
use Rattle.dn_open.specs.Sealed.{opened_of}
use Rattle.dn_link.specs.{Surviving.{names, reports_gone, IsHandedFor, may_hand, shares_gone}, Relays.{AreTold, AreHandedOn, AreLacked, Handed, handed_part, flights_of, run_flights}}
use Rattle.dn_link.specs.{declared.bundle.Part.{Part, TheVariants.Relay}, Linked.{HasBehind, Linked, has_given_up, surviving_of}, RemainingLinks.WasGiven}
use Rattle.dn_link.specs.Packets.{opened_from, packets_of, short_packet, short_packets}
use Rattle.dn_link.specs.declared.bundle.Relay as relay

names_told : (report : Option Report) (player : ℕ) → names report player ≡ told_gone report player
names_told None player = refl
names_told (Some report) player = refl

second : (one other : Bool) → (not one || other) ≡ true → one ≡ true → other ≡ true
second true other h e = h
second false other h e = absurd (cc)

pub may_relay : (link : Linked) (to : ℕ) → may_hand link to ≡ true → MayRelay (surviving_of link) to
may_relay link to may =
    let a = and_parts (not (has_given_up link to)) _ may in
    let b = and_parts (shares_gone link to 0) _ a.1 in
    let c = and_parts (shares_gone link to 1) _ b.1 in
    let d = and_parts (shares_gone link to 2) (shares_gone link to 3) c.1 in
    record {
      stays = not-true (has_given_up link to) a.0;
      within = λ player low gone. known player gone (each player low b.0 c.0 d.0 d.1);
    }
  where
    each : (player : ℕ) → player < 4 → shares_gone link to 0 ≡ true → shares_gone link to 1 ≡ true
        → shares_gone link to 2 ≡ true → shares_gone link to 3 ≡ true → shares_gone link to player ≡ true
    each zero low a b c d = a
    each (suc zero) low a b c d = b
    each (suc (suc zero)) low a b c d = c
    each (suc (suc (suc zero))) low a b c d = d
    each (suc (suc (suc (suc player)))) low a b c d = absurd (omega (arith, low))

    known : (player : ℕ) → has_given_up link player ≡ true → shares_gone link to player ≡ true
        → told_gone (newest_of link.others to) player ≡ true
    known player gone shares =
        sym (names_told (newest_of link.others to) player)
        ∙ (and_parts (not (has_given_up link to)) (names (newest_of link.others to) player)
        (second (has_given_up link player) (reports_gone link to player) shares gone)).1

-- and to whom it may relay, it may hand commands on
pub must_hand : (link : Linked) (to : ℕ) → MayRelay (surviving_of link) to → may_hand link to ≡ true
must_hand link to may =
    and_from (not (has_given_up link to)) _ (ap not may.stays)
    (and_from (shares_gone link to 0) _ (each 0 (omega arith))
    (and_from (shares_gone link to 1) _ (each 1 (omega arith))
    (and_from (shares_gone link to 2) (shares_gone link to 3) (each 2 (omega arith)) (each 3 (omega arith)))))
  where
    each : (player : ℕ) → player < 4 → shares_gone link to player ≡ true
    each player low = go (has_given_up link player) refl
      where
        go : (gone : Bool) → has_given_up link player ≡ gone → shares_gone link to player ≡ true
        go false stays = rw stays refl
        go true gone =
            rw (gone, may.stays, names_told (newest_of link.others to) player ∙ may.within player low gone) refl

-- what is said of those above a number is said of those above a lower one a lower number
lower : (reported : List ℕ) (low high : ℕ) (handed : List Handed) → low ≤ high → AreLacked reported high handed
    → AreLacked reported low handed
lower reported low high [] le all = tt
lower reported low high (one ∷ handed) le all =
    let above = all.0 in (omega (arith, le, above), all.1, all.2, all.3, all.4)

-- behind the own parts nothing is handed on
pub none_behind : (link : Linked) (to low : ℕ) (brief : Bool) (own : List Part) → HasBehind link to low brief own own
none_behind link to low brief own = record {
  handed = [];
  parts = sym (append-nil own);
  on = tt;
  lacked = tt;
  stay = All-nil (λ (h : Handed). has_given_up link h.player ≡ false);
  makers = All-nil (λ (h : Handed). (h.player == link.node.me) ≡ brief);
  may = λ some. absurd (some refl);
}

pub nothing_behind : (link : Linked) (to : ℕ) (own : List Part) → HasTwoBehind link to false own own
unfolding none_behind
nothing_behind link to own = (none_behind link to 0 false own, few, λ brief. absurd (true≢false (sym brief)))
  where
    few : 0 ≤ 2
    few = omega arith

-- or what is handed on of a player, and then of those above
pub joins : (link : Linked) (to player : ℕ) (own next all : List Part) (one : Option relay.Relay)
    → MayRelay (surviving_of link) to → IfSome one (IsHandedFor link to player)
    → (is_some one ≡ true → (player == link.node.me) ≡ false)
    → (next ≡ own) ⊎ ((r : relay.Relay) × (one ≡ Some r) × (next ≡ own ++ Relay r ∷ []))
    → HasBehind link to (player + 1) false next all → HasBehind link to player false own all
joins link to player own next all one may on third (inl e) rest =
    record {
      handed = rest.handed;
      parts = rest.parts ∙ ap (λ (p : List Part). p ++ map handed_part rest.handed) e;
      on = rest.on;
      lacked = lower (link.peers to).reported player (player + 1) rest.handed (omega arith) rest.lacked;
      stay = rest.stay;
      makers = rest.makers;
      may = rest.may;
    }
joins link to player own next all one may on third (inr (r, is, e)) rest =
    let it : IsHandedFor link to player r = subst (λ (o : Option relay.Relay). IfSome o (IsHandedFor link to player)) is on in
    let its = it.its in
    record {
      handed = it.handed ∷ rest.handed;
      parts = rest.parts ∙ ap (λ (p : List Part). p ++ map handed_part rest.handed)
          (e ∙ ap (λ (p : Part). own ++ p ∷ []) it.is)
          ∙ append_assoc own (handed_part it.handed ∷ []) (map handed_part rest.handed);
      on = (it.on, rest.on);
      lacked = (
        omega (arith, its),
        it.lacked,
        it.some,
        it.few,
        subst (λ (k : ℕ). AreLacked (link.peers to).reported (k + 1) rest.handed) (sym its) rest.lacked,
      );
      stay = All-cons (λ (h : Handed). has_given_up link h.player ≡ false) it.handed rest.handed it.stays rest.stay;
      makers = All-cons (λ (h : Handed). (h.player == link.node.me) ≡ false) it.handed rest.handed
          (ap (λ (k : ℕ). k == link.node.me) its ∙ third (ap is_some is)) rest.makers;
      may = λ some. may;
    }

-- Behind a brief one's own parts is a run of the newest commands, or none.

pub newest_is : (link : Linked) (to start : ℕ) (one : Option relay.Relay) → MayRelay (surviving_of link) to
    → start ≡ newest_from (link.peers to).reported link.node → IsRunFor link to link.node.me start 4 one
    → IsNewestFor link to one
newest_is link to start None may e none = λ may stays. ap (command_told link.node link.node.me) (sym e) ∙ none (omega arith)
newest_is link to start (Some r) may e (is, at, from) = (
  is,
  record {
    own = is.its;
    start = at ∙ e;
    all = subst (λ (k : ℕ). IsFrom link.node link.node.me k 4 is.handed.commands) e from;
  },
  may,
)

pub none_newest : (link : Linked) (to : ℕ) (own : List Part) → IsNewestFor link to None
    → HasTwoBehind link to true own own
unfolding none_behind
none_newest link to own none = (none_behind link to 0 true own, few, λ brief. none)
  where
    few : 0 ≤ 2
    few = omega arith

pub one_newest : (link : Linked) (to : ℕ) (own all : List Part) (r : relay.Relay) → IsNewestFor link to (Some r)
    → all ≡ own ++ Relay r ∷ [] → HasTwoBehind link to true own all
one_newest link to own all r (is, newest, may) e = (
  record {
    handed = is.handed ∷ [];
    parts = e ∙ ap (λ (p : Part). own ++ p ∷ []) is.is;
    on = (is.on, tt);
    lacked = (omega arith, is.lacked, is.some, is.few, tt);
    stay = All-cons (λ (h : Handed). has_given_up link h.player ≡ false) is.handed [] is.stays
        (All-nil (λ (h : Handed). has_given_up link h.player ≡ false));
    makers = All-cons (λ (h : Handed). (h.player == link.node.me) ≡ true) is.handed []
        (eq-eqb is.handed.player link.node.me is.its) (All-nil (λ (h : Handed). (h.player == link.node.me) ≡ true));
    may = λ some. may;
  },
  few,
  λ brief. newest,
)
  where
    few : 1 ≤ 2
    few = omega arith

-- of four players at most two are third ones
third_of_four : (a b c to me : ℕ) → a + 1 ≤ b → b + 1 ≤ c → c < 4 → to < 4 → me < 4 → (a ≢ to) → (b ≢ to) → (c ≢ to)
    → (a ≢ me) → (b ≢ me) → (c ≢ me) → (to ≢ me) → 3 ≤ 2
third_of_four a b c to me ab bc low there here at bt ct am bm cm apart =
    omega (arith, ab, bc, low, there, here, at, bt, ct, am, bm, cm, apart)

pub at_most_two : (n : Contents) (to : ℕ) (reported : List ℕ) (handed : List Handed) → n.me < 4 → to < 4
    → (to ≢ n.me) → AreHandedOn n to handed → AreLacked reported 0 handed
    → All (λ h. (h.player == n.me) ≡ false) handed → length handed ≤ 2
at_most_two n to reported [] here there apart on lacked others = omega arith
at_most_two n to reported (a ∷ []) here there apart on lacked others = omega arith
at_most_two n to reported (a ∷ b ∷ []) here there apart on lacked others = omega arith
at_most_two n to reported (a ∷ b ∷ c ∷ handed) here there apart on lacked others =
    let P : Handed → Type 0 = λ h. (h.player == n.me) ≡ false in
    let behind = All-tail P a (b ∷ c ∷ handed) others in
    let never = third_of_four a.player b.player c.player to n.me lacked.4.0 lacked.4.4.0 on.1.1.0.small there here
    on.0.third on.1.0.third on.1.1.0.third (eqb-false a.player n.me (All-head P a (b ∷ c ∷ handed) others))
    (eqb-false b.player n.me (All-head P b (c ∷ handed) behind))
    (eqb-false c.player n.me (All-head P c handed (All-tail P b (c ∷ handed) behind))) apart in
    absurd (omega (arith, never))

-- The commands of third players that are handed on were given, and their packets are in the datagram.

-- a packet of one command can be carried
fair_one : (player to tic : ℕ) (command : TicCmd) → player < 4 → IsCommand command
    → (command.forward ≢ negsuc 127) → IsFair (packet_of_one player to tic command)
fair_one player to tic command small is no_stop = grind (arith, mod-lt, All-cons, All-nil, none_stops, negsuc)

-- whatever is kept by each packet of a command that is told is kept by all
module _ (n : Contents) (to : ℕ) (Game : List Flight → Type 0)
    (one : (given : List Flight) (player tic : ℕ) (command : TicCmd) → Game given → player < n.players
    → to < n.players → player ≢ to → command_told n player tic ≡ Some command → IsFair (packet_of_one player to tic command)
    → Game (given ++ packet_of_one player to tic command ∷ [])) where
  gives_run : (given : List Flight) (player start : ℕ) (commands : List TicCmd) → Game given → player < n.players
      → to < n.players → player < 4 → player ≢ to → AreTold n player start commands → Game (given ++ run_flights player to start commands)
  gives_run given player start [] game its there small apart told = subst Game (sym (append-nil given)) game
  gives_run given player start (command ∷ commands) game its there small apart told =
      subst Game (append_assoc given (packet_of_one player to start command ∷ [])
      (run_flights player to (start + 1) commands)) (gives_run (given ++ packet_of_one player to start command
      ∷ []) player (start + 1) commands (one given player start command game its there apart told.0
      (fair_one player to start command small told.1 told.2)) its there small apart told.3)

  pub gives_all : (given : List Flight) (handed : List Handed) → Game given → AreHandedOn n to handed
      → Game (given ++ flights_of to handed)
  gives_all given [] game all = subst Game (sym (append-nil given)) game
  gives_all given (h ∷ handed) game all =
      subst Game (append_assoc given (run_flights h.player to h.start h.commands) (flights_of to handed))
      (gives_all (given ++ run_flights h.player to h.start h.commands) handed
      (gives_run given h.player h.start h.commands game all.0.player all.0.there all.0.small all.0.third all.0.told) all.1)

-- each of some packets is one of these
abbrev Each : List Flight → List Flight → Type 0
Each given [] = Unit {0}
Each given (flight ∷ flights) = ((which : ℕ) × (slice_get given which ≡ Some flight)) × Each given flights

found_at : {A : Type 0} (xs ys : List A) (x : A) → slice_get (xs ++ x ∷ ys) (length xs) ≡ Some x
found_at [] ys x = refl
found_at (z ∷ xs) ys x = found_at xs ys x

each_here : (given flights : List Flight) → Each (given ++ flights) flights
each_here given [] = tt
each_here given (flight ∷ flights) = (
  (length given, found_at given flights flight),
  subst (λ (all : List Flight). Each all flights) (append_assoc given (flight ∷ []) flights)
      (each_here (given ++ flight ∷ []) flights),
)

each_front : (given xs ys : List Flight) → Each given (xs ++ ys) → Each given xs
each_front given [] ys all = tt
each_front given (x ∷ xs) ys all = (all.0, each_front given xs ys all.1)

each_back : (given xs ys : List Flight) → Each given (xs ++ ys) → Each given ys
each_back given [] ys all = all
each_back given (x ∷ xs) ys all = each_back given xs ys all.1

none_more : (k : ℕ) → 0 + k ≡ k
none_more k = omega arith

-- the packet of one command, by its eight bytes
one_is : (player to tic : ℕ) (command : TicCmd)
    → opened_from player (short_packet player tic (command_bytes command)) ≡ opened_of (packet_of_one player to tic command)
one_is player to tic command = grind (arith, none_more)

run_given : (given : List Flight) (player to start : ℕ) (commands : List TicCmd) → start + length commands ≤ 2 ^ 32
    → Each given (run_flights player to start commands)
    → All (WasGiven given to) (short_packets (length commands) player start (flat_map command_bytes commands))
run_given given player to start [] low each = All-nil (WasGiven given to)
run_given given player to start (command ∷ commands) low each =
    let rest : List ℕ = flat_map command_bytes commands in
    All-cons (WasGiven given to) (opened_from player (short_packet player start (command_bytes command)))
    (short_packets (length commands) player ((start + 1) % 2 ^ 32) rest)
    (each.0.0, packet_of_one player to start command, each.0.1, refl, one_is player to start command)
    (go commands refl (λ below. run_given given player to (start + 1) commands below each.1))
  where
    go : (more : List TicCmd) → more ≡ commands
        → (start + 1 + length commands ≤ 2 ^ 32 → All (WasGiven given to) (short_packets (length commands) player
        (start + 1) (flat_map command_bytes commands))) → All (WasGiven given to)
        (short_packets (length commands) player ((start + 1) % 2 ^ 32) (flat_map command_bytes commands))
    go [] e rest = subst (λ (cs : List TicCmd). All (WasGiven given to) (short_packets (length cs) player
        ((start + 1) % 2 ^ 32) (flat_map command_bytes cs))) e (All-nil (WasGiven given to))
    go (c ∷ more) e rest =
        let long = ap (length {A = TicCmd}) e in
        let next : start + 1 ≡ (start + 1) % 2 ^ 32 = omega (arith, low, long) in
        subst (λ (k : ℕ). All (WasGiven given to) (short_packets (length commands) player k
        (flat_map command_bytes commands))) next (rest (omega (arith, low)))

pub length_commands : (commands : List TicCmd) → length (flat_map command_bytes commands) ≡ 8 * length commands
length_commands [] = refl
length_commands (command ∷ commands) = let rest = length_commands commands in omega (arith, rest)

-- what the parts of a datagram stand for was given
parts_given : (n : Contents) (given : List Flight) (from to : ℕ) (handed : List Handed) → AreHandedOn n to handed
    → Each given (flights_of to handed)
    → All (WasGiven given to) (flat_map (packets_of from) (map handed_part handed))
parts_given n given from to [] all each = All-nil (WasGiven given to)
parts_given n given from to (h ∷ handed) all each =
    let long = length_commands h.commands in
    let count : length (flat_map command_bytes h.commands) / 8 ≡ length h.commands = omega (arith, long) in
    All-append (WasGiven given to) (packets_of from (handed_part h)) (flat_map (packets_of from) (map handed_part handed))
    (subst (λ (k : ℕ). All (WasGiven given to) (short_packets k h.player h.start (flat_map command_bytes h.commands)))
    (sym count) (run_given given h.player to h.start h.commands all.0.low
    (each_front given (run_flights h.player to h.start h.commands) (flights_of to handed) each)))
    (parts_given n given from to handed all.1
    (each_back given (run_flights h.player to h.start h.commands) (flights_of to handed) each))

pub all_given : (n : Contents) (given : List Flight) (from to : ℕ) (handed : List Handed) → AreHandedOn n to handed
    → All (WasGiven (given ++ flights_of to handed) to) (flat_map (packets_of from) (map handed_part handed))
all_given n given from to handed all =
    parts_given n (given ++ flights_of to handed) from to handed all (each_here given (flights_of to handed))

-- one command after another is told
told_more : (n : Contents) (player start : ℕ) (commands : List TicCmd) (command : TicCmd)
    → AreTold n player start commands → command_told n player (start + length commands) ≡ Some command
    → IsCommand command → (command.forward ≢ negsuc 127) → AreTold n player start (commands ++ command ∷ [])
told_more n player start [] command told here is no_stop = grind arith
told_more n player start (c ∷ commands) command told here is no_stop =
    let same : start + 1 + length commands ≡ start + length (c ∷ commands) = omega arith in (
      told.0,
      told.1,
      told.2,
      told_more n player (start + 1) commands command told.3 (ap (command_told n player) same ∙ here) is no_stop,
    )

bytes_more : (commands : List TicCmd) (command : TicCmd)
    → flat_map command_bytes (commands ++ command ∷ []) ≡ flat_map command_bytes commands ++ command_bytes command
bytes_more commands command = grind (arith, flat_map-append, append-nil)

-- where none of so many is told, the first is not
pub none_from : (n : Contents) (player start most : ℕ) (commands : List TicCmd) → length commands ≡ 0
    → IsFrom n player start most commands → 1 ≤ most → command_told n player start ≡ None
none_from n player start most (command ∷ commands) none from some = absurd (omega (arith, none))
none_from n player start most [] none (few, inl all) some = absurd (omega (arith, all, some))
none_from n player start most [] none (few, inr ends) some = ap (command_told n player) (omega arith) ∙ ends

-- where the loop over the tics is
pub record SoFar (n : Contents) (player start done : ℕ) (items : List ℕ) : Type 0 where
  pub commands : List TicCmd
  pub bytes : items ≡ flat_map command_bytes commands
  pub told : AreTold n player start commands
  pub many : length commands ≡ done
  pub low : start + done ≤ 2 ^ 32

pub so_goes_on : (n : Contents) (player start done : ℕ) (items new : List ℕ) (command : TicCmd)
    → SoFar n player start done items → start + done < 2 ^ 32 → command_told n player (start + done) ≡ Some command
    → IsCommand command → (command.forward ≢ negsuc 127) → new ≡ items ++ command_bytes command
    → SoFar n player start (done + 1) new
so_goes_on n player start done items new command so low here is no_stop adds =
    let long = so.many in
    record {
      commands = so.commands ++ command ∷ [];
      bytes = adds ∙ ap (λ (xs : List ℕ). xs ++ command_bytes command) so.bytes
          ∙ sym (bytes_more so.commands command);
      told = told_more n player start so.commands command so.told
          (ap (λ (k : ℕ). command_told n player (start + k)) long ∙ here) is no_stop;
      many = length-append so.commands (command ∷ []) ∙ ap (λ (k : ℕ). k + 1) long;
      low = omega (arith, low);
    }
