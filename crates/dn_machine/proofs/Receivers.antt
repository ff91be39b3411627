-- What a packet leaves its receiver as, in a game that goes on, where each node plays or has left.
use Rattle.std.proofs.Common.{◌≡◌, ℕ, suc, min, ◌+◌, ◌<◌, ◌≤◌, ◌≢◌, Bool, true, false, List, length, cond, refl, ap, arith, Some, inl, inr, length-append, length-drop, ◌⊎◌}
use Rattle.dn_tic.specs.declared.command.TicCmd.{TicCmd}
use Rattle.dn_setup.specs.Settings.{Settings}
use Rattle.dn_machine.specs.{declared.answers.Phase.TheVariants.Playing, declared.answers.Heard.Heard, declared.peer.Peer.Peer, Worlds.Rules, Flight.{Kind, Play, Exit, Flight, end_of, is_exit}}
use Rattle.dn_machine.specs.{Node.{Node, with_peer, ends_of, got, made, is_ended, has_left}, Hearing.{is_strange_end, is_within, after_request, on_commands, on_ended, on_packet, on_packet_in}, Game.Game}
use Rattle.dn_machine.proofs.{Peers.{no_strange_end, flight_end}, Calls.{commands_cases, sender_after}, GoingOn.{IsOn, Gives}, Stages.{side, Holds, Taken, Asked, asks, goal_of}}
use Rattle.dn_machine.proofs.GoingOn

-- what a receiver is left as
pub record IsHeard (most tic goal start request : ℕ) (want : Bool) (stays asks_too : Type 0) (i : ℕ)
    (old new : Node) : Type 0 where
  pub phase : new.phase ≡ old.phase
  pub played : new.played ≡ old.played
  pub other : (s : ℕ) → s ≢ i → side new s ≡ side old s
  pub taken : stays → Taken most tic goal start (side old i) (side new i)
  pub asked : asks_too → Asked request want (old.peers i) (new.peers i)

module _ {S : Type 0} (rules : Rules S) (settings : Settings) (cap : ℕ) (stay : ℕ → Bool) (tic : ℕ)
    (game : Game) (on : IsOn rules settings cap stay tic game) where
  -- who stays has not ended
  pub in_play : (q : ℕ) → q < rules.players → stay q ≡ true → is_ended (game.nodes q).phase ≡ false
  in_play q l s = ap is_ended (on.plays q l s)

  module _ (i : ℕ) (j : ℕ) (mine : i < rules.players) (its : j < rules.players) (apart : i ≢ j)
      (built : stay i ≡ true → tic < made i (game.nodes i)) (gone asks_it : Bool)
      (sends : Gives rules game i j gone asks_it)
      (goes : gone ≡ true → (stay i ≡ false) × (has_left (game.nodes i) ≡ true))
      (here : gone ≡ false → stay i ≡ true) (asker : asks_it ≡ true → stay i ≡ true) (goal : ℕ)
      (aims : goal ≡ goal_of (stay i) tic (made i (game.nodes i))) where
    abbrev I : Node
    I = game.nodes i

    abbrev J : Node
    J = game.nodes j

    abbrev flight : Flight
    flight = GoingOn.packet rules settings game on.live i j mine its apart gone asks_it sends

    end_is : end_of flight ≡ min (made i I) (flight.start + rules.most)
    end_is = GoingOn.end_is rules settings game on.live i j mine its apart gone asks_it sends

    exits : is_exit flight.kind ≡ true → end_of flight ≡ made i I
    exits = GoingOn.exits rules settings game on.live i j mine its apart gone asks_it sends

    tells : gone ≡ true → made i I ≤ end_of flight → is_exit flight.kind ≡ true
    tells = GoingOn.tells rules settings game on.live i j mine its apart gone asks_it sends

    -- the sender has made what the other needs
    pub goal_low : goal ≤ made i I
    goal_low = grind arith

    pub request_within : asks_it ≡ true → (got I j ≤ made j J) × (made j J ≤ got I j + (rules.ahead + rules.ahead))
    request_within w = grind (arith, GoingOn.fits)

    -- an end that is known is that of all that were made
    known : (e : ℕ) → ends_of J i ≡ Some e → e ≡ made i I
    known e h = grind arith

    no_strange : (exit : Bool) → exit ≡ is_exit flight.kind
        → is_strange_end exit (got J i) (ends_of J i) (end_of flight) ≡ true → ⊥
    no_strange exit same h = grind (arith, end_is, no_strange_end, known)

    within : asks_it ≡ true → is_within rules.places (made j J) (Some (got I j)) ≡ true
    within w = grind (arith, request_within)

    abbrev Heard_so : Node → Type 0
    Heard_so new = IsHeard rules.most tic goal flight.start (got I j) asks_it (stay j ≡ true) (stay i ≡ true) i J new

    -- a node that keeps this of the sender, and these commands
    heard_as : (peer : Peer) (held : ℕ → List TicCmd) → ((s : ℕ) → s ≢ i → length (held s) ≡ got J s)
        → Asked (got I j) asks_it (J.peers i) peer
        → (stay j ≡ true → Taken rules.most tic goal flight.start (side J i) (record { kept = peer; got = length (held i) }))
        → Heard_so (record (with_peer J i peer) { held = held })
    heard_as peer held same asked taken = grind arith

    -- a packet that reaches what the other needs has the command, or tells that the sender has none
    reach : goal ≤ end_of flight → (tic < end_of flight) ⊎ ((is_exit flight.kind ≡ true) × (end_of flight ≤ tic))
    reach all = grind (arith, end_is, tells)

    -- one that does not is cut
    cut : end_of flight < goal → end_of flight ≡ flight.start + rules.most
    cut short = let e = end_is in let low = goal_low in omega arith

    -- and what the other has is no further back
    next : stay j ≡ true → goal ≤ suc (got J i)
    next s = grind arith

    still_has : (base : Peer) → base.end ≡ cond (is_exit flight.kind) (Some (end_of flight)) (J.peers i).end
        → Holds tic (side J i) → Holds tic (record { kept = base; got = got J i })
    still_has base same holds = grind (arith, exits)

    -- a playing node hears commands, and maybe an end
    heard : stay j ≡ true → Heard_so (on_commands rules.limits j J flight).0
    heard s =
        let f = GoingOn.fits rules settings game on.live in
        let tip = end_is in
        let a = f.close i j mine its (in_play j its s) in
        let b = f.ahead j its in
        let twice = on.live.kept.window.twice in
        let mid : Peer = after_request rules.places (made j J) (J.peers i) flight.request in
        let base : Peer = sender_after rules.limits j J flight in
        let asked : Asked (got I j) asks_it (J.peers i) base = grind arith in
        let told : is_exit flight.kind ≡ true → base.end ≡ Some (end_of flight) = grind arith in
        let base_end = flight_end rules.places (made j J) (J.peers i) flight in
        let kept_want : base.want ≡ (J.peers i).want = grind arith in
        commands_cases rules.limits j J flight (λ (r : Node × Heard). Heard_so r.0) (record {
          dropped = grind (arith, no_strange);
          stale = λ x. heard_as base J.held (λ s n. refl) asked (λ u. grind arith);
          gap = λ x. heard_as (record base { want = true }) J.held (λ s n. refl) asked
              (λ u. inr (inl (refl, x, refl, still_has (record base { want = true }) base_end)));
          takes = grind (arith, length-append, length-drop);
        })

    receives : (kind : Kind) → (kind ≡ Play) ⊎ (kind ≡ Exit)
        → (on_packet_in rules.limits j J flight Playing kind).0 ≡ (on_commands rules.limits j J flight).0
    receives kind word = grind arith

    -- one that has left hears the request
    left_hears : (kind : Kind) → (kind ≡ Play) ⊎ ((kind ≡ Exit) × (gone ≡ true)) → stay j ≡ false
        → Heard_so (on_ended rules.limits true j J flight kind).0
    left_hears kind word s = grind (arith, heard_as, asks, within)

    word : (flight.kind ≡ Play) ⊎ ((flight.kind ≡ Exit) × (gone ≡ true))
    word = grind arith

    pub hears : Heard_so (on_packet rules.limits j J flight).0
    unfolding on_packet
    hears = grind (arith, heard, left_hears, word)
