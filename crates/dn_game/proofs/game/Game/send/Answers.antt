-- What a node gives, and what joins the packets.
use Rattle.std.proofs.Common.{◌≡◌, ◌++◌, ◌∷◌, [], ℕ, List, length, map, Some, None, Option, refl, ap, sym, ◌∙◌, ◌<◌, set, arith, inl, IfSome, nat_lt, option_map}
use Rattle.std.proofs.lemmas.{List.{length-map, map_push}, List.Elements.All-push, Bool.{lt-ltb, cond-true}, Option.same_Some}
use Rattle.dn_machine.specs.{declared.events.Done.Done, Game.{posted, on_event, with_node}, Worlds.{Rules, rules_of}, declared.answers.Phase.Phase, declared.events.Event.TheVariants.Send, Sending.{on_send, on_send_in}}
use Rattle.dn_game.specs.{declared.flight.Flight.Flight, Applied.IsAfter, Contents.{Contents, Represents, IsCarried, flight_of}}
use Rattle.dn_game.proofs.{Standing.{moved, places, node_at}, Framing.{others_step, worlds_step, sent_after}}
use Rattle.arrayvec.specs.ArrayVec.{ArrayVec}
use Rattle.dn_node.specs.{declared.node.Node.Node, Steps.Gives}
use Rattle.dn_lockstep.specs.{declared.lockstep.aiming.Aim.Aim, Sent.{IsFair, sent_to, aim_of, bytes_of}, Giving.aim_in}
use Rattle.dn_lockstep.proofs.Giving.{some_flight, no_flight, some_given, sends_in}
use Rattle.dn_node.proofs.Stepping.{whose_step}
use Rattle.dn_machine.specs.Flight as exact
use Rattle.dn_machine.specs.Game as machine
use Rattle.dn_machine.specs.Node as machine_node
use Rattle.dn_node.specs.Contents as node
use Rattle.dn_node.specs.Steps as step
use Rattle.dn_game.proofs.game.Game.send.Goals as goal

-- A packet joins those that were sent.

module _ {W S : Type 0} (state : W → S) (rules : Rules S) (g : Contents W) (m : machine.Game)
    (r : Represents state rules g m)
    (given : Option exact.Flight) (flights : List Flight) where
  -- where there is none, nothing changes
  posts_none : given ≡ None → flights ≡ g.flights
      → IsAfter state rules (record g { flights = flights }) (posted m given) Done.Silent
  posts_none none same = grind (arith, moved)

  posts_some : (flight : exact.Flight) → given ≡ Some flight → (f : Flight) → f ≡ flight_of flight
      → IsCarried rules.players flight → flights ≡ g.flights ++ f ∷ [] → (which : ℕ) → which ≡ length g.flights
      → IsAfter state rules (record g { flights = flights }) (posted m given) (Done.Sent which)
  posts_some flight some f is carried more which last =
      rw some (record {
        game = moved state rules g m r _ _ refl r.nodes r.stopped
            (more ∙ ap (λ (fs : List Flight). fs ++ f ∷ []) r.flights
            ∙ ap (λ (x : Flight). map flight_of m.flights ++ x ∷ []) is ∙ sym (map_push flight_of m.flights flight))
            (All-push (IsCarried rules.players) m.flights flight r.carried carried);
        answered = ap Done.Sent (last ∙ ap length r.flights ∙ length-map m.flights flight_of);
      })

-- from whom to whom
abbrev IsBetween : ℕ → ℕ → exact.Flight → Type 0
IsBetween me to flight = (flight.from ≡ me) × (flight.to ≡ to)

between_in : {S : Type 0} (rules : Rules S) (me to : ℕ) (m : machine_node.Node) (phase : Phase)
    (given : exact.Flight) → (on_send_in rules.limits me m to phase).1 ≡ Some given → IsBetween me to given
between_in rules me to m phase given e = grind arith

-- a packet that a node gives is carried
module _ {W S : Type 0} (state : W → S) (rules : Rules S) (me to : ℕ) (n : node.Contents W)
    (m : machine_node.Node) where
  given_between : node.Represents state rules me n m → Gives n to → (given : exact.Flight)
      → (sent_to to rules.limits me m).1 ≡ Some given → IsBetween me to given
  given_between r gives given e =
      let sends = sends_in rules.limits me (node.locked n) m to m.phase r.lockstep gives.below gives.other
      r.lockstep.stands.phase in
      between_in rules me to m m.phase given
      (sym (ap (λ (x : machine_node.Node × Option exact.Flight). x.1) sends) ∙ e)

  carries : node.Represents state rules me n m → Gives n to → (given : exact.Flight)
      → (sent_to to rules.limits me m).1 ≡ Some given → me < rules.players
      → IsFair given → IsCarried rules.players given
  carries r gives given e mine fair = grind (arith, given_between)

-- a send by what its node gives
module _ {W S : Type 0} (state : W → S) (rules : Rules S) (g : Contents W) (m : machine.Game)
    (r : Represents state rules g m) (me to : ℕ)
    (below : me < length g.nodes) (there : to < length g.nodes) (new : Node W) (flights : List Flight) where
  asked : sent_to to rules.limits me (m.nodes me) ≡ on_send rules.limits me (m.nodes me) to
  asked = cond-true (nat_lt to rules.players) _ _ (lt-ltb to rules.players (omega (arith, there, r.players)))

  sends_none : node.Represents state rules me (node.contents new) (sent_to to rules.limits me (m.nodes me)).0
      → (sent_to to rules.limits me (m.nodes me)).1 ≡ None → flights ≡ g.flights
      → IsAfter state rules (record g { nodes = set g.nodes me new; flights = flights })
      (on_event rules m (Send me to)) Done.Silent
  sends_none is none same =
      let sent = sent_to to rules.limits me (m.nodes me) in
      rw asked at (posts_none state rules (record g { nodes = set g.nodes me new }) (with_node m me sent.0)
      (places state rules g m me new sent.0 r below is) sent.1 flights none same)

  -- the packet has the numbers that were aimed at
  sends_packet : (old : node.Contents W) (aim : Aim) (bytes : ArrayVec ℕ) (which : ℕ)
      → node.Represents state rules me old (m.nodes me) → Gives old to
      → Some aim ≡ option_map aim_of (sent_to to rules.limits me (m.nodes me)).1
      → step.IsAfter state rules me (node.contents new) (sent_to to rules.limits me (m.nodes me))
      (λ x. Some bytes.items ≡ option_map bytes_of x)
      → IfSome (sent_to to rules.limits me (m.nodes me)).1 IsFair
      → flights ≡ g.flights ++ record { from = me; to = to; aim = aim; bytes = bytes } ∷ []
      → which ≡ length g.flights
      → IsAfter state rules (record g { nodes = set g.nodes me new; flights = flights })
      (on_event rules m (Send me to)) (Done.Sent which)
  sends_packet old aim bytes which shown gives aimed after fair more last =
      let sent = sent_to to rules.limits me (m.nodes me) in
      let some = some_flight bytes_of bytes.items sent.1 after.answer in
      let flight = some.0 in
      let numbers = same_Some aim (aim_of flight) (aimed ∙ ap (option_map aim_of) some.1) in
      let carried = carries state rules me to old (m.nodes me) shown gives flight some.1
      (omega (arith, below, r.players)) (rw some.1 at fair) in
      let ends = given_between state rules me to old (m.nodes me) shown gives flight some.1 in
      let is : ◌≡◌ {A = Flight} (record { from = me; to = to; aim = aim; bytes = bytes }) (flight_of flight) =
      λ k. record {
        from = sym ends.0 k;
        to = sym ends.1 k;
        aim = numbers k;
        bytes = record { items = some.2 k };
      } in
      rw asked at (posts_some state rules (record g { nodes = set g.nodes me new }) (with_node m me sent.0)
      (places state rules g m me new sent.0 r below after.node) sent.1 flights flight some.1 _ is carried more
      which last)

-- a list took one more
joins : (new old before : List Flight) (f : Flight) → new ≡ old ++ f ∷ [] → old ≡ before
    → new ≡ before ++ f ∷ []
joins new old before f is kept = is ∙ ap (λ (fs : List Flight). fs ++ f ∷ []) kept

pub returns-in_default-packet_with_aim-clause-sent : goal.returns-in_default-packet_with_aim-clause-sent
returns-in_default-packet_with_aim-clause-sent g c players extra capacity m r =
    let rules = rules_of g.W.World.physics players extra capacity in
    let shown = node_at _ rules _ m r _ _ c.requires.node c.index_mut.ensures.value in
    let given = c.packet_with_aim.ensures in
    let none = no_flight aim_of _ (ap aim_in (sym c.in_default-packet_with_aim.is) ∙ given.aimed _ _ _ shown) in
    inl (
      Done.Silent,
      refl,
      sends_none _ rules _ m r _ _ c.requires.node c.requires.to _ _ (given.sent.2.step _ _ _ shown).node none
          c.in-Ok.ensures.kept,
    )

pub returns-clause-sent : goal.returns-clause-sent
returns-clause-sent g c players extra capacity m r =
    let rules = rules_of g.W.World.physics players extra capacity in
    let shown = node_at _ rules _ m r _ _ c.requires.node c.index_mut.ensures.value in
    let given = c.in-Some.ensures in
    let step = given.sent.2.step _ _ _ shown in
    let aimed = given.aimed _ _ _ shown in
    let sent = some_given given.sent.0 _ _ _ given.sent.1 _ _ step.answer aimed in
    inl (
      Done.Sent c.len-which.result,
      refl,
      sends_packet _ rules _ m r _ _ c.requires.node c.requires.to _ _ _ _ _ _ shown given.peer aimed
          (record { node = step.node; answer = sent }) (given.fair _ _ _ shown)
          (joins _ _ _ _ c.push.ensures.flights c.in-Ok.ensures.kept)
          (c.len-which.ensures ∙ ap length c.in-Ok.ensures.kept),
    )

pub returns-in_default-packet_with_aim-clause-whose : goal.returns-in_default-packet_with_aim-clause-whose
returns-in_default-packet_with_aim-clause-whose g c =
    whose_step _ _ _ _ c.index_mut.ensures.value c.packet_with_aim.ensures.sent.2.same

pub returns-clause-whose : goal.returns-clause-whose
returns-clause-whose g c = whose_step _ _ _ _ c.index_mut.ensures.value c.packet_with_aim.ensures.sent.2.same

pub returns-in_default-packet_with_aim-clause-others : goal.returns-in_default-packet_with_aim-clause-others
returns-in_default-packet_with_aim-clause-others g c i apart = others_step _ _ _ _ refl i apart

pub returns-in_default-packet_with_aim-clause-worlds : goal.returns-in_default-packet_with_aim-clause-worlds
returns-in_default-packet_with_aim-clause-worlds g c = worlds_step _ _ _ _ c.index_mut.ensures.value c.packet_with_aim.ensures.world

pub returns-clause-others : goal.returns-clause-others
returns-clause-others g c i apart = others_step _ _ _ _ refl i apart

pub returns-clause-worlds : goal.returns-clause-worlds
returns-clause-worlds g c = worlds_step _ _ _ _ c.index_mut.ensures.value c.packet_with_aim.ensures.world

pub returns-clause-more : goal.returns-clause-more
returns-clause-more g c = sent_after _ _ _ _ c.push.ensures.flights c.in-Ok.ensures.kept
