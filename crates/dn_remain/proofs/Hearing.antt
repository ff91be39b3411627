-- A packet that comes to a node: it takes commands, learns an end, or changes nothing that is seen.
use Rattle.std.proofs.Common.{◌≡◌, ℕ, refl, sym, ◌∙◌, ap, inl, List, ◌∷◌, ◌<◌, ◌≤◌, subst, arith, inr, length, take, ◌-◌, ◌++◌, drop, cond, Bool, true, false, ◌⊎◌, Option, Some, None, length-take-le}
use Rattle.std.proofs.lemmas.Bool.{lt-leb, cases_Bool, cond-true, cond-false}
use Rattle.dn_tic.specs.declared.command.TicCmd.{TicCmd}
use Rattle.dn_machine.specs.{declared.answers.Heard.Heard, declared.peer.Peer.Peer, Flight.Flight, Node.got, Node.made, Node.is_ended, Game.Game, Game.with_node, Worlds.Rules, Hearing.after_request}
use Rattle.dn_machine.specs.{Hearing.on_packet, Node.ends_of, Node.ran, Node.has_left, Node.put, Running.is_over, declared.answers.Phase.TheVariants.Playing, Flight.is_exit, Flight.end_of, Node.with_peer}
use Rattle.dn_machine.proofs.{Calls.{packet_cases, sender_after}, Peers.{asked_low, asked_end, flight_low, flight_end}}
use Rattle.dn_machine.proofs.Put.{put_at, put_off, same_functions}
use Rattle.dn_remain.specs.{Wary.{reached, holder_of, now_of, end_seen, rows_to}, Vanished.Node.Within}
use Rattle.dn_remain.specs.Vanished.{Steps.{Take, Learn}, Commands.{seen, Holder, past_seen, Had}}
use Rattle.dn_remain.proofs.{Seeing.same_holder, Known.IsTold, Known.Follows, Known.Went, Known.IsFit, Known.fit_self, Known.not_left, Following.stays, Arriving.quiet, Vanished.Invariant.IsKept}
use Rattle.dn_remain.proofs.{Vanished.Always.always, Vanished.Handing.was_seen, Vanished.Put.at_put, Seeing.same_node, Seeing.length_rows, Seeing.rows_alike, Seeing.reached_some, Following.steps}
use Rattle.dn_remain.proofs.{Vanished.Lists.begins, Vanished.Handing.handed, Seeing.taken_is, Vanished.Put.own_put, Seeing.reached_none, Seeing.reached_cases, Known.IsEnd, Arriving.end_is, Arriving.made_it}
use Rattle.dn_remain.proofs.{Arriving.below_made, Arriving.unknown, Arriving.end_known, Arriving.fit_peer}
use Rattle.dn_machine.specs.Node as machine

-- A node that takes commands of another, and one that learns an end.

-- a node with more commands of one player
pub record HasMore (old new : machine.Node) (from : ℕ) (more : List TicCmd) : Type 0 where
  pub held : new.held ≡ put old.held from more
  pub left : has_left new ≡ has_left old
  pub ran : ran new ≡ ran old

module _ {S : Type 0} {known : ℕ → Holder TicCmd → Type 0} {rules : Rules S} {game : Game} {gone : ℕ → ℕ → Bool} {older : List (ℕ → Holder TicCmd)}
    (follows : Follows known rules game gone older) (q : ℕ) (mine : q < rules.players) (new : machine.Node)
    (fit : IsFit rules.limits game.nodes gone q (gone q) new) (from : ℕ) (its : from < rules.players) (apart : (from ≡ q → ⊥))
    (open_from : gone q from ≡ false) (here : has_left (game.nodes q) ≡ false) (more : List TicCmd)
    (has : HasMore (game.nodes q) new from more)
    -- they are a piece of what the player had
    (by : ℕ) (state : Holder TicCmd) (had : Had (now_of game gone ∷ older) by state) (open_to : state.gone q ≡ false)
    (hands : (by ≡ from) ⊎ ((by < rules.players) × ((other : Holder TicCmd) × Had (now_of game gone ∷ older) q other
    × Within state.gone other.gone)))
    (end : ℕ) (long : length more ≡ end) (below : end ≤ length (state.held from))
    (high : length ((game.nodes q).held from) ≤ end)
    (piece : (more ≡ (game.nodes q).held from) ⊎ (more ≡ take end (state.held from))) where
  kept : IsKept rules.players (past_seen (now_of game gone ∷ older))
  kept = always rules.players rules.ahead (past_seen (now_of game gone ∷ older)) follows.run

  abbrev old : machine.Node
  old = game.nodes q

  -- what holds of the new list, and of each other list as it was, holds of each that the node has now
  each : (P : ℕ → List TicCmd → Type 0) → P from more → ((p : ℕ) → (p ≡ from → ⊥) → P p (old.held p)) → (p : ℕ)
      → P p (new.held p)
  each P here rest p =
      subst (λ (f : ℕ → List TicCmd). P p (f p)) (sym has.held) (at_put P old.held from more here rest p)

  counts : (p : ℕ) → length (new.held p) ≡ put (λ r. length (old.held r)) from end p
  counts = grind (arith, each, put_at, put_off)

  own_list : new.held q ≡ old.held q
  own_list = each (λ p cs. p ≡ q → cs ≡ old.held p) (λ e. absurd (apart e)) (λ p n e. refl) q refl

  others : (p : ℕ) → (p ≡ q → ⊥) → (new.held p ≡ old.held p)
      ⊎ ((r : ℕ) × (w : Holder TicCmd) × (end : ℕ) × Had (now_of game gone ∷ older) r w
      × (new.held p ≡ take end (w.held p)))
  others p n = each (λ p cs. (cs ≡ old.held p) ⊎ ((r : ℕ) × (w : Holder TicCmd) × (end : ℕ)
      × Had (now_of game gone ∷ older) r w × (cs ≡ take end (w.held p))))
      (elim piece [ inl same ↦ inl same | inr part ↦ inr (by, state, end, had, part) ]) (λ p n. inl refl) p

  -- who hands it on had given up nobody but whom the node has given up too
  handed_on : (by ≡ from) ⊎ ((by < rules.players) × Within state.gone (gone q))
  handed_on = elim hands [
    | inl e ↦ inl e
    | inr k ↦
        let order = kept.order q (seen k.1.0) (was_seen (now_of game gone ∷ older) q k.1.0 k.1.1) in
        inr (k.0, λ p t. order.gone p (k.1.2 p t))
  ]

  -- no end is reached
  takes : ((p : ℕ) → end_seen new p ≡ end_seen old p) → Went known rules (with_node game q new) gone
  takes same =
      let ends = same_functions same in (
        now_of game gone ∷ older,
        steps follows q new fit mine here Take (
          from,
          end,
          seen state,
          (by, was_seen (now_of game gone ∷ older) by state had, handed_on),
          open_to,
          open_from,
          high,
          below,
          same_node (seen (holder_of new (gone q))) _ (same_functions counts) ends refl has.left
              (ap (λ (e : ℕ → Option ℕ). rows_to e (ran new)) ends
              ∙ ap (λ (n : ℕ). rows_to (end_seen old) n) has.ran),
        ) (inl own_list) others,
      )

  -- the end is
  module _ (left : has_left (game.nodes from) ≡ true) (back : gone from q ≡ false)
      (last : end ≡ length ((game.nodes from).held from)) (unknown : end_seen (game.nodes q) from ≡ None)
      (told : (p : ℕ) → ends_of new p ≡ put (ends_of (game.nodes q)) from (Some end) p) where
    abbrev ends : ℕ → Option ℕ
    ends = put (end_seen old) from (Some (length ((game.nodes from).held from)))

    end_at : (p : ℕ) → end_seen new p ≡ ends p
    end_at = grind (arith, each, put_at, reached_some, put_off)

    -- the end comes after the tics that were run
    over_same : (p tic : ℕ) → tic < ran old → is_over (ends p) tic ≡ is_over (end_seen old p) tic
    over_same p tic l =
        let a = (kept.sound q (seen (now_of game gone q)) (inl refl)).ahead from its unknown in
        let b = length_rows (end_seen old) (ran old) in
        at_put (λ p o. is_over o tic ≡ is_over (end_seen old p) tic) (end_seen old) from _
        (lt-leb (length ((game.nodes from).held from)) tic (omega arith)
        ∙ sym (ap (λ (o : Option ℕ). is_over o tic) unknown)) (λ p n. refl) p

    pub learns : Went known rules (with_node game q new) gone
    learns = (
      now_of game gone ∷ older,
      steps follows q new fit mine here Learn (
        from,
        apart,
        open_from,
        left,
        back,
        same_node (seen (holder_of new (gone q))) _ (same_functions (λ p. counts p
            ∙ ap (λ (i : ℕ). put (λ r. length (old.held r)) from i p) last)) (same_functions end_at) refl has.left
            (ap (λ (e : ℕ → Option ℕ). rows_to e (ran new)) (same_functions end_at)
            ∙ (ap (λ (n : ℕ). rows_to ends n) has.ran ∙ rows_alike _ _ (ran old) over_same)),
      ) (inl own_list) others,
    )

-- A packet of commands is stale, lies past a gap, or is taken.
module _ {S : Type 0} {known : ℕ → Holder TicCmd → Type 0} {rules : Rules S} {game : Game} {gone : ℕ → ℕ → Bool} {older : List (ℕ → Holder TicCmd)}
    (follows : Follows known rules game gone older) {flight : Flight}
    (told : IsTold rules.players (now_of game gone ∷ older) flight)
    (open_from : gone flight.to flight.from ≡ false) where
  module _ (peer : Peer)
      (ends : peer.end ≡ cond (is_exit flight.kind) (Some (end_of flight)) (ends_of (game.nodes flight.to) flight.from))
      (low : peer.resend ≤ made flight.to (game.nodes flight.to))
      (plays : (game.nodes flight.to).phase ≡ Playing) where
    abbrev me : machine.Node
    me = game.nodes flight.to

    -- the sender's commands that it has
    abbrev has : List TicCmd
    has = me.held flight.from

    -- the node with another list of them
    abbrev with_list : List TicCmd → machine.Node
    with_list more = record (with_peer me flight.from peer) { held = put me.held flight.from more }

    told_end : is_exit flight.kind ≡ true → peer.end ≡ Some (end_of flight)
    told_end x = ends ∙ cond-true (is_exit flight.kind) _ _ x

    old_end : is_exit flight.kind ≡ false → peer.end ≡ ends_of me flight.from
    old_end f = ends ∙ cond-false (is_exit flight.kind) _ _ f

    fit : (held : ℕ → List TicCmd) → held flight.to ≡ me.held flight.to
        → IsFit rules.limits game.nodes gone flight.to (gone flight.to) (record (with_peer me flight.from peer) { held = held })
    fit held same = fit_peer follows told open_from held peer same low (end_known follows told open_from peer ends)

    same : reached (length has) peer.end ≡ end_seen me flight.from
        → Went known rules (with_node game flight.to (with_peer me flight.from peer)) gone
    same = quiet follows told open_from peer low (end_known follows told open_from peer ends)

    -- it has a piece of the sender's list that reaches this end, and learns the end
    learn : (held : ℕ → List TicCmd) (more : List TicCmd) (end : ℕ) → held ≡ put me.held flight.from more
        → held flight.to ≡ me.held flight.to → length more ≡ end → end ≤ length (told.state.held flight.from)
        → length has ≤ end → (more ≡ has) ⊎ (more ≡ take end (told.state.held flight.from))
        → IsEnd game.nodes gone flight.to flight.from end → end_seen me flight.from ≡ None → peer.end ≡ Some end
        → Went known rules (with_node game flight.to (record (with_peer me flight.from peer) { held = held })) gone
    learn held more end put_more own long below high piece is none e =
        learns follows flight.to told.receiver _ (fit held own) flight.from told.sender told.apart open_from
        (not_left me (ap is_ended plays)) more (record { held = put_more; left = refl; ran = refl }) told.by told.state told.had
        told.open_to told.hands end long below high piece is.1 is.2 is.3 none
        (at_put (λ p o. o.end ≡ put (ends_of me) flight.from (Some end) p) me.peers flight.from peer
        (e ∙ sym (put_at (ends_of me) flight.from flight.from _ refl))
        (λ p n. sym (put_off (ends_of me) flight.from p _ n)))

    pub stale : end_of flight ≤ length has
        → Went known rules (with_node game flight.to (with_peer me flight.from peer)) gone
    stale l = elim (cases_Bool (is_exit flight.kind)) [
      | inr f ↦ same (ap (reached (length has)) (old_end f))
      | inl x ↦
          let is = end_is follows told open_from x in
          let last : end_of flight ≡ length ((game.nodes flight.from).held flight.from) = is.3 in
          let b = below_made follows told open_from in
          elim (reached_cases (length has) (ends_of me flight.from)) [
            | inr some ↦
                let k = (follows.ends flight.to flight.from some.0 some.1 open_from).3 in
                let at : end_of flight ≡ some.0 = omega arith in
                same (ap (reached (length has)) (told_end x ∙ (ap (λ (i : ℕ). Some i) at ∙ sym some.1)))
            | inl none ↦ learn me.held has (end_of flight) (sym (own_put me.held flight.from)) refl (omega arith)
                told.reaches (omega arith) (inl refl) is none.0 (told_end x)
          ]
    ]

    pub gap : length has < flight.start
        → Went known rules (with_node game flight.to (with_peer me flight.from peer)) gone
    gap l = same (elim (cases_Bool (is_exit flight.kind)) [
      | inr f ↦ ap (reached (length has)) (old_end f)
      | inl x ↦ ap (reached (length has)) (told_end x)
          ∙ (reached_none (length has) (end_of flight) (omega arith) ∙ sym (unknown follows told open_from (omega arith)))
    ])

    module _ (first : flight.start ≤ length has) (high : length has < end_of flight) where
      abbrev more : List TicCmd
      more = has ++ drop (length has - flight.start) flight.commands

      piece : more ≡ take (end_of flight) (told.state.held flight.from)
      piece =
          let a = told.reaches in
          let had = handed (now_of game gone ∷ older) follows.handed in
          ap (λ (cs : List TicCmd). has ++ drop (length has - flight.start) cs) told.piece
          ∙ taken_is has (told.state.held flight.from) flight.start
          (length flight.commands) (drop (length has) (told.state.held flight.from))
          (begins has (told.state.held flight.from) ((game.nodes flight.from).held flight.from)
          (had flight.to flight.from (now_of game gone flight.to) (inl refl))
          (had told.by flight.from told.state told.had) (omega arith)) first (omega arith)

      long : length more ≡ end_of flight
      long = ap (length {A = TicCmd}) piece ∙ length-take-le (end_of flight) (told.state.held flight.from) told.reaches

      own : (with_list more).held flight.to ≡ me.held flight.to
      own = put_off me.held flight.from flight.to more (λ e. told.apart (sym e))

      learn_end : IsEnd game.nodes gone flight.to flight.from (end_of flight) → peer.end ≡ Some (end_of flight)
          → Went known rules (with_node game flight.to (with_list more)) gone
      learn_end is e = learn (with_list more).held more (end_of flight) refl own long told.reaches (omega arith) (inr piece)
          is (unknown follows told open_from high) e

      -- no end is reached by them
      pass : is_exit flight.kind ≡ false → reached (end_of flight) (ends_of me flight.from) ≡ None
          → Went known rules (with_node game flight.to (with_list more)) gone
      pass f none = takes follows flight.to told.receiver (with_list more) (fit (with_list more).held own) flight.from
          told.sender told.apart open_from (not_left me (ap is_ended plays)) more
          (record { held = refl; left = refl; ran = refl }) told.by told.state told.had told.open_to
          told.hands (end_of flight) long told.reaches (omega arith) (inr piece)
          (at_put (λ p o. reached (length (put me.held flight.from more p)) o.end ≡ end_seen me p) me.peers flight.from peer
          (ap (λ (cs : List TicCmd). reached (length cs) peer.end) (put_at me.held flight.from flight.from more refl)
          ∙ (ap (λ (i : ℕ). reached i peer.end) long ∙ (ap (reached (end_of flight)) (old_end f)
          ∙ (none ∙ sym (unknown follows told open_from high)))))
          (λ p n. ap (λ (cs : List TicCmd). reached (length cs) (ends_of me p)) (put_off me.held flight.from p more n)))

      pub taken : Went known rules (with_node game flight.to (with_list more)) gone
      taken = elim (cases_Bool (is_exit flight.kind)) [
        | inl x ↦ learn_end (end_is follows told open_from x) (told_end x)
        | inr f ↦ elim (reached_cases (end_of flight) (ends_of me flight.from)) [
          | inl none ↦ pass f none.0
          | inr some ↦
              let is = follows.ends flight.to flight.from some.0 some.1 open_from in
              let at : some.0 ≡ end_of flight = omega (arith, is.3, made_it follows told open_from, some.3) in
              learn_end (subst (λ (i : ℕ). IsEnd game.nodes gone flight.to flight.from i) at is)
              (old_end f ∙ (some.1 ∙ ap (λ (i : ℕ). Some i) at))
        ]
      ]

-- Any packet.
module _ {S : Type 0} {known : ℕ → Holder TicCmd → Type 0} {rules : Rules S} {game : Game} {gone : ℕ → ℕ → Bool}
    {older : List (ℕ → Holder TicCmd)} (follows : Follows known rules game gone older) (flight : Flight)
    (told : IsTold rules.players (now_of game gone ∷ older) flight)
    (open_from : gone flight.to flight.from ≡ false) where
  abbrev hearer : machine.Node
  hearer = game.nodes flight.to

  abbrev peer : Peer
  peer = hearer.peers flight.from

  -- nothing that is seen of the node changes
  goes_on : (new : machine.Node) → IsFit rules.limits game.nodes gone flight.to (gone flight.to) new
      → holder_of new (gone flight.to) ≡ holder_of hearer (gone flight.to)
      → Went known rules (with_node game flight.to new) gone
  goes_on new fit same = (older, stays follows flight.to new fit same)

  pub hears : Went known rules (with_node game flight.to (on_packet rules.limits flight.to hearer flight).0) gone
  hears =
      let self = fit_self follows flight.to in
      let sender : Peer = sender_after rules.limits flight.to hearer flight in
      let ends = flight_end rules.places (made flight.to hearer) peer flight in
      let low = flight_low rules.places (made flight.to hearer) peer flight (follows.resend flight.to flight.from) in
      let same = goes_on hearer self refl in
      packet_cases rules.limits flight.to hearer flight
      (λ (r : machine.Node × Heard). Went known rules (with_node game flight.to r.0) gone) (record {
        dropped = λ number why. same;
        starts = grind (arith, goes_on, ends, same_holder, holder_of, hearer, not_left, is_ended);
        completes = grind (arith, goes_on, ends, same_holder, holder_of, hearer, not_left, is_ended);
        notes = λ word e some. goes_on _
            (record { ends = self.ends; endless = self.endless; resend = self.resend; rows = inl refl }) refl;
        commands = λ plays. record {
          dropped = λ number why. same;
          stale = λ l. stale follows told open_from sender ends low plays l;
          gap = λ l. gap follows told open_from (record sender { want = true }) ends low plays l;
          takes = λ first high. taken follows told open_from (record sender { want = false }) ends low plays first high;
        };
        requests = λ ended.
            let end = asked_end rules.places (made flight.to hearer) peer flight.request in
            quiet follows told open_from (after_request rules.places (made flight.to hearer) peer flight.request)
            (asked_low rules.places (made flight.to hearer) peer flight.request (follows.resend flight.to flight.from))
            (λ e s. follows.ends flight.to flight.from e (sym end ∙ s) open_from) (ap (reached (got hearer flight.from)) end);
      })
