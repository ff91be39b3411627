-- One packet after another, and one run after another.
use Rattle.std.proofs.Common.{◌≡◌, ◌+◌, ℕ, suc, List, Option, Result, Some, Ok, Err, subst, arith, ◌<◌, ◌%◌, ◌^◌, zero, true, nat_lt, None, refl, ap, ◌∙◌, rules, [], ◌∷◌, length, set, ◌⊎◌, false, lt-ltb, option_map}
use Rattle.dn_packet.specs.declared.packet.{Packet.Packet, PacketFault.PacketFault}
use Rattle.dn_setup.specs.{Settings.Settings, Setup.Told, declared.setup.SetupFault.{SetupFault, TheVariants.NotSetup}}
use Rattle.dn_netgame.specs.{Lines.{Done, count_after}, declared.line.{Datagram.Datagram, LineFault.LineFault}}
use Rattle.dn_netgame.specs.{declared.turns.Given.Given, Turning.Giving}
use Rattle.dn_netgame.specs.Turning.{Ends, Hears, IsHeard, Polls, Reading, Receives, most_polls, Sends, SendsOne, Gives, sent_by, failed_by, AreOf, Seat, rules_at, AreSeated, is_ran, after_runs, next_ran, IsRunOn, IsLed, risen}
use Rattle.dn_machine.specs.{Worlds.Rules, Flight.Flight, Sending.on_send, Node.put, declared.answers.Ran.Ran}
use Rattle.dn_machine.specs.Game.{on_own_run}
use Rattle.dn_lockstep.specs.{Received.IsTold, Sent.{bytes_of, sent_to}}
use Rattle.dn_node.specs.{Contents.{Contents, contents, Represents}, declared.node.Node.Node}
use Rattle.dn_tic.specs.declared.input.Input.{Input}
use Rattle.rand_pcg.specs.Lcg.{Lcg, next, advance, next_state, state_after}
use Rattle.dn_world.specs.Physics.{Physics}
use Rattle.dn_machine.proofs.Put.{set_and_put}
use Rattle.dn_packet.specs.Read as packet
use Rattle.dn_machine.specs.Node as machine

pub silent : {L : Type 0} (sends : Sends L) (me to : ℕ) (flight : Option Flight) (line : L)
    → None ≡ option_map bytes_of flight → SendsOne sends me to flight None line line
silent sends me to None line e = refl
silent sends me to (Some flight) line e = search (rules, e)

pub spoken : {L : Type 0} (sends : Sends L) (me to : ℕ) (flight : Option Flight) (bytes : List ℕ)
    (answer : Result Done LineFault) (old new : L)
    → Some bytes ≡ option_map bytes_of flight → sends old me to bytes answer new
    → SendsOne sends me to flight (Some answer) old new
spoken sends me to None bytes answer old new e s = search (rules, e)
spoken sends me to (Some flight) bytes answer old new e s = grind arith

-- below the number of players a packet is the machine's own
pub as_sent : {S : Type 0} (rules : Rules S) (me to : ℕ) (m : machine.Node) → nat_lt to rules.players ≡ true
    → sent_to to rules.limits me m ≡ on_send rules.limits me m to
as_sent rules me to m below = rw below refl

-- what a send adds to the counts
pub record IsCounted (answer : Option (Result Done LineFault)) (old new : Given) : Type 0 where
  pub sent : new.sent ≡ old.sent + sent_by answer
  pub failed : new.failed ≡ old.failed + failed_by answer

-- a node of the machine and a line, with the counts so far
abbrev pub giving : {L : Type 0} → machine.Node → L → Given → Giving L
giving m line given = record { node = m; line = line; sent = given.sent; failed = given.failed }

-- one more packet
pub given_more : {S L : Type 0} (sends : Sends L) (rules : Rules S) (me to : ℕ)
    (answer : Option (Result Done LineFault)) (start : Giving L) (m : machine.Node) (old new : L)
    (before after : Given) → to < rules.players → Gives sends rules me to start (giving m old before)
    → SendsOne sends me to (sent_to to rules.limits me m).1 answer old new → IsCounted answer before after
    → Gives sends rules me (to + 1) start (giving (sent_to to rules.limits me m).0 new after)
given_more {S} {L} sends rules me to answer start m old new before after below so_far line counted =
    let same = as_sent rules me to m (lt-ltb _ _ below) in
    let Line : machine.Node × Option Flight → Type 0 = λ s. SendsOne sends me to s.1 answer old new in
    let P : ℕ → Type 0 = λ k. Gives sends rules me k start (giving (sent_to to rules.limits me m).0 new after) in
    let next : suc to ≡ to + 1 = omega arith in
    subst P next (
      giving m old before,
      so_far,
      record {
        answer = answer;
        line = subst Line same line;
        node = ap (λ (s : machine.Node × Option Flight). s.0) same;
        sent = counted.sent;
        failed = counted.failed;
      },
    )

pub risen_add : (a b count : ℕ) → risen (a + b) count ≡ risen b (risen a count)
risen_add a zero count = let e : a + 0 ≡ a = omega arith in ap (λ (k : ℕ). risen k count) e
risen_add a (suc b) count =
    let e : a + suc b ≡ suc (a + b) = omega arith in
    ap (λ (k : ℕ). risen k count) e ∙ ap (λ (k : ℕ). (k + 1) % 2 ^ 64) (risen_add a b count)

pub counted_once : (answer : Result Done LineFault) → sent_by (Some answer) + failed_by (Some answer) ≡ 1
counted_once (Ok done) = refl
counted_once (Err fault) = refl

count_by : (answer : Result Done LineFault) (count : ℕ)
    → count_after answer count ≡ risen (failed_by (Some answer)) count
count_by (Ok done) count = refl
count_by (Err fault) count = refl

-- the line's own count of failures after one more send
pub count_more : (answer : Result Done LineFault) (old new : Given) (count start : ℕ)
    → IsCounted (Some answer) old new → count ≡ risen old.failed start
    → count_after answer count ≡ risen new.failed start
count_more answer old new count start counted before = grind (arith, count_by, risen_add)

-- One datagram after another.

-- settings or a fault that is told by what was read
abbrev Telling : Result Packet PacketFault → Type 0
Telling read = (told : Result Settings SetupFault) × IsTold read told

telling : ((p : Packet) → Told p) → (read : Result Packet PacketFault) → Telling read
telling tells (Ok p) = let t = tells p in (t.told, t.is_told)
telling tells (Err fault) = (Err NotSetup, tt)

pub read_and_told : (bytes : List ℕ) → packet.Reading bytes → ((p : Packet) → Told p) → Reading bytes
read_and_told bytes r tells =
    let t = telling tells r.read in record { read = r.read; told = t.0; is_read = r.is_read; is_told = t.1 }

pub heard_more : {S L : Type 0} (polls : Polls L) (rules : Rules S) (me heard : ℕ) (datagram : Datagram)
    (old mid new : machine.Node × L)
    → Hears polls rules me heard old mid → polls mid.1 me (Ok (Some datagram)) new.1
    → Receives rules me mid.0 datagram new.0 → Hears polls rules me (heard + 1) old new
heard_more polls rules me heard datagram old mid new before polled received =
    let P : ℕ → Type 0 = λ k. Hears polls rules me k old new in
    let next : suc heard ≡ heard + 1 = omega arith in
    subst P next (mid, before, record { datagram = datagram; polled = polled; received = received })

-- the datagrams so far are all that are heard, where the polls end so
pub all_heard : {W S L : Type 0} (polls : Polls L) (state : W → S) (rules : Rules S) (me : ℕ) (n : Contents W)
    (m : machine.Node) (old between new : L) (heard failed : ℕ) (ending : Option (Result Done LineFault))
    → IsLed state rules me n (λ after. Hears polls rules me heard (m, old) (after, between))
    → Ends polls me heard (most_polls rules.players) ending between new failed
    → IsLed state rules me n (λ after. IsHeard polls rules me (m, old) (after, new) heard failed)
all_heard polls state rules me n m old between new heard failed ending so_far ends = grind arith

-- a poll by its player's number and its answer, as they are written
pub polled_as : {L : Type 0} (polls : Polls L) (old new : L) (n me : ℕ)
    (found answer : Result (Option Datagram) LineFault)
    → n ≡ me → found ≡ answer → polls old n found new → polls old me answer new
polled_as polls old new n me found answer number is polled = grind arith

-- all runs so far ran a tic
pub record RanSoFar {S : Type 0} (rules : Rules S) (old : machine.Node) (ran : ℕ) (new : machine.Node) : Type 0 where
  pub runs : (k : ℕ) → k < ran → next_ran rules old k ≡ true
  pub after : new ≡ after_runs rules old ran

split : (k n : ℕ) → k < n + 1 → (k < n) ⊎ (k ≡ n)
split k n below = search (arith, below)

pub ran_more : {S : Type 0} (rules : Rules S) (old : machine.Node) (ran : ℕ) (mid : machine.Node)
    → RanSoFar rules old ran mid → is_ran (on_own_run rules mid).1 ≡ true
    → RanSoFar rules old (ran + 1) (on_own_run rules mid).0
ran_more rules old ran mid before one = grind (arith, split)

pub ran_last : {S : Type 0} (rules : Rules S) (old : machine.Node) (ran : ℕ) (mid : machine.Node)
    → RanSoFar rules old ran mid → is_ran (on_own_run rules mid).1 ≡ false
    → IsRunOn rules old (on_own_run rules mid).0 ran
ran_last rules old ran mid before one = grind arith

pub not_ran : (answer : Ran) → ((tic : ℕ) → answer ≡ Ran.Ran tic → ⊥) → is_ran answer ≡ false
not_ran (Ran.Ran tic) never = absurd (never tic refl)
not_ran (Ran.Waiting player) never = refl
not_ran Ran.DemoFull never = refl
not_ran (Ran.Inconsistent player was should) never = refl
not_ran Ran.NotPlaying never = refl

-- A turn at one place.

-- another node in one place, and what it represents in its seat
pub seated_with : {W S : Type 0} (state : W → S) (physics : Physics S) (nodes : List (Node W))
    (seats : ℕ → Seat) (place : ℕ) (n : Node W) (seat : Seat)
    → AreSeated state physics nodes seats → place < length nodes
    → Represents state (rules_at physics seat) seat.me (contents n) seat.node
    → AreSeated state physics (set nodes place n) (put seats place seat)
seated_with {W} {S} state physics nodes seats place n seat before below is =
    set_and_put (λ (i : ℕ) (x : Node W) (s : Seat). Represents state (rules_at physics s) s.me (contents x) s.node)
    nodes seats place n seat before below is

-- One word after another.

after_one : (w m increment n state : ℕ) → next_state w m increment (state_after w m increment n state)
    ≡ state_after w m increment (suc n) state
unfolding state_after
after_one w m increment zero state = refl
after_one w m increment (suc n) state = after_one w m increment n (next_state w m increment state)

-- a generator that is a number of words on, and then one more
pub one_more : (w m n : ℕ) (g : Lcg) → next w m (advance w m n g) ≡ advance w m (n + 1) g
one_more w m n g = grind (arith, after_one)

pub no_more : (w m : ℕ) (g : Lcg) → g ≡ advance w m 0 g
unfolding state_after
no_more w m g = refl

-- four inputs, each of which is that of its player
pub of_four : (by : ℕ → Input) (a b c d : Input) → a ≡ by 0 → b ≡ by 1 → c ≡ by 2 → d ≡ by 3
    → AreOf by (a ∷ b ∷ c ∷ d ∷ [])
of_four by a b c d zeroth first second third zero below = zeroth
of_four by a b c d zeroth first second third (suc zero) below = first
of_four by a b c d zeroth first second third (suc (suc zero)) below = second
of_four by a b c d zeroth first second third (suc (suc (suc zero))) below = third
of_four by a b c d zeroth first second third (suc (suc (suc (suc n)))) below = absurd (omega (arith, below))
