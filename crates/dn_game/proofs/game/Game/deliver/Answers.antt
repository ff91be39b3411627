-- A packet comes to its receiver.
use Rattle.std.proofs.Common.{◌≡◌, ◌<◌, ℕ, Bool, None, List, length, set, Some, refl, ap, sym, ◌∙◌, subst, arith, slice_get, slice_index_or, option_map}
use Rattle.dn_world.specs.Physics.{Physics}
use Rattle.dn_machine.specs.{declared.answers.Heard.Heard, declared.events.Done.Done, Flight.{packet_of, is_near}, Game.{delivered, refused_flight}, Hearing.on_packet, Node.made, Worlds.{Rules, rules_of}}
use Rattle.dn_node.specs.{declared.node.Node.Node, Steps.HearsNear}
use Rattle.dn_game.specs.{declared.flight.Flight.Flight, declared.pool.Record.Record, Applied.IsAfter, Contents.{Contents, Represents, flight_of}, Pool.IsRecordOf}
use Rattle.dn_game.proofs.{Standing.{places, flight_at, node_at, made_at, there_is}, Applying.near_unless, Framing.{others_step, worlds_step}, Packing.receiver_below}
use Rattle.dn_node.proofs.Stepping.{whose_step}
use Rattle.dn_machine.specs.Flight as exact
use Rattle.dn_machine.specs.Game as machine
use Rattle.dn_node.specs.Contents as node
use Rattle.dn_node.specs.Steps as step
use Rattle.dn_game.proofs.game.Game.deliver.Goals as goal

delivers_to : {W S : Type 0} (state : W → S) (rules : Rules S) (g : Contents W) (m : machine.Game) (which : ℕ)
    (flight : exact.Flight) (to : ℕ) (n : Node W) (heard : Heard)
    → Represents state rules g m → slice_get m.flights which ≡ Some flight → to ≡ flight.to
    → to < length g.nodes
    → step.IsAfter state rules to (node.contents n) (on_packet rules.limits to (m.nodes to) flight) (λ x. heard ≡ x)
    → IsAfter state rules (record g { nodes = set g.nodes to n })
    (delivered rules m (slice_get m.flights which)) (Done.Heard heard)
delivers_to {W} {S} state rules g m which flight to n heard r there is below after =
    let P : ℕ → Type 0 = λ k. IsAfter state rules (record g { nodes = set g.nodes to n }) (
      machine.with_node m k (on_packet rules.limits k (m.nodes k) flight).0,
      Done.Heard (on_packet rules.limits k (m.nodes k) flight).1,
    ) (Done.Heard heard) in
    rw there (subst P is (record {
      game = places state rules g m to n _ r below after.node;
      answered = ap Done.Heard after.answer;
    }))

delivers : {W S : Type 0} (state : W → S) (physics : Physics S) (players : ℕ) (extra : Bool)
    (capacity : ℕ) (g : Contents W) (m : machine.Game)
    (r : Represents state (rules_of physics players extra capacity) g m) (which : ℕ) (entry : Record)
    → which < length g.flights → ((f : Flight) → slice_get g.flights which ≡ Some f → IsRecordOf f entry)
    → refused_flight m (slice_get m.flights which) ≡ None
    → (to : ℕ) (old new : Node W) (bytes : List ℕ) (heard : Heard) → to ≡ entry.to
    → old ≡ slice_index_or g.nodes to old
    → ((f : Flight) → slice_get g.flights which ≡ Some f → bytes ≡ f.bytes.items)
    → HearsNear state physics entry.from bytes (node.contents old) (node.contents new) heard
    → IsAfter state (rules_of physics players extra capacity) (record g { nodes = set g.nodes to new })
    (delivered (rules_of physics players extra capacity) m (slice_get m.flights which)) (Done.Heard heard)
delivers state physics players extra capacity g m r which entry below told free to old new bytes heard is_to
    is_old is_bytes hears =
    let rules = rules_of physics players extra capacity in
    let at = flight_at state rules g m r which below in
    let flight = at.0 in
    let of = told (flight_of flight) at.1.sent in
    let goes : to ≡ flight.to = is_to ∙ of.to in
    let comes : entry.from ≡ flight.from = of.from in
    let inside : to < length g.nodes = let a = at.1.carried.to in omega (arith, a, goes, r.players) in
    let shown = node_at state rules g m r to old inside is_old in
    let count = made_at state rules g m r to _ old inside is_old refl
    ∙ ap (λ (k : ℕ). made k (m.nodes k)) goes in
    delivers_to state rules g m which flight to new heard r at.1.there goes inside
    ((hears flight at.1.carried.fair (is_bytes (flight_of flight) at.1.sent) (sym comes)
    (let a = at.1.carried.from in omega (arith, a, comes, shown.lockstep.whose.players))
    (λ e. at.1.carried.apart (sym comes ∙ e ∙ shown.lockstep.whose.number ∙ goes))
    (ap (λ (k : ℕ). is_near k flight) count ∙ near_unless m which flight at.1.there free)).step
    _ to (m.nodes to) shown)

pub index_mut-requires : goal.index_mut-requires
index_mut-requires g c =
    let n = c.args.self.now in
    let small = receiver_below n.pool.flights c.args.which (length n.nodes.items) c.record-flight.result.now
    c.requires n.receivers c.record-flight.ensures in
    omega (arith, small, c.from.ensures, n.nodes.ok.0)

pub returns-clause-heard : goal.returns-clause-heard
returns-clause-heard g c players extra capacity m r free =
    delivers _ _ players extra capacity _ m r _ _ c.requires c.record-flight.ensures free _ _ _ _ _
    c.from.ensures c.index_mut.ensures.value c.datagram.ensures.bytes c.receive.ensures.near

pub returns-clause-whose : goal.returns-clause-whose
returns-clause-whose g c = whose_step _ _ _ _ c.index_mut.ensures.value c.receive.ensures.any.same

pub returns-clause-others : goal.returns-clause-others
returns-clause-others g c i apart =
    let at = there_is c.args.self.now.pool.flights c.args.which c.requires in
    let to = c.from.ensures ∙ (c.record-flight.ensures at.0 at.1).to in
    others_step _ _ _ _ (ap (option_map (λ (flight : Flight). flight.to)) at.1 ∙ ap Some (sym to)) i apart

pub returns-clause-worlds : goal.returns-clause-worlds
returns-clause-worlds g c quiet = worlds_step _ _ _ _ c.index_mut.ensures.value (c.receive.ensures.world quiet)
