-- What one packet that asks for nothing does to the node that hears it.
use Rattle.std.proofs.Common.{◌≡◌, ◌≢◌, ◌<◌, ◌≤◌, ◌+◌, ◌-◌, ◌⊎◌, ◌++◌, ℕ, Bool, true, false, List, length, drop, refl, ap, sym, ◌∙◌, subst, arith, None, Some, inl, inr}
use Rattle.std.proofs.lemmas.{Bool.cases_eq, List.{length-append, length-drop}}
use Rattle.std.specs.Prelude.{max}
use Rattle.dn_tic.specs.declared.command.TicCmd.{TicCmd}
use Rattle.dn_setup.specs.Settings.{Settings}
use Rattle.dn_machine.specs.{declared.{answers.{Heard.Heard, Phase.{Phase, TheVariants.{Listening, Gathering, Playing, Ended}}}, peer.Peer.Peer}, Limits.Limits, Node.{Node, put, made, is_ended}}
use Rattle.dn_machine.specs.{Flight.{Kind, SetUp, Play, Exit, Flight, is_exit, end_of}, Hearing.{after_request, after_exit, on_commands, on_ended, on_packet, on_packet_in}}
use Rattle.dn_machine.proofs.{Put.{put_at, put_off}, Calls.{Refused, commands_cases, packet_cases, sender_after}}
use Rattle.dn_machine.specs.Drops as drops

-- a packet that is asked for nothing leaves what is sent next, and what is wanted
module _ (limits : Limits) (me : ℕ) (node : Node) (flight : Flight) (silent : flight.request ≡ None)
    (below : flight.from < limits.players) (apart : flight.from ≢ me) where
  abbrev from : ℕ
  from = flight.from

  request_same : (peer : Peer) → ((after_request limits.places (made me node) peer None).resend ≡ peer.resend)
      × ((after_request limits.places (made me node) peer None).want ≡ peer.want)
  request_same peer = grind arith

  requested : ((after_request limits.places (made me node) (node.peers from) flight.request).resend ≡ (node.peers from).resend)
      × ((after_request limits.places (made me node) (node.peers from) flight.request).want ≡ (node.peers from).want)
  requested = grind (arith, request_same)

  exit_same : (peer : Peer) (exit : Bool) (end : ℕ) → ((after_exit peer exit end).resend ≡ peer.resend)
      × ((after_exit peer exit end).want ≡ peer.want)
  exit_same peer true end = (refl, refl)
  exit_same peer false end = (refl, refl)

  sender_same : ((sender_after limits me node flight).resend ≡ (node.peers from).resend)
      × ((sender_after limits me node flight).want ≡ (node.peers from).want)
  sender_same = grind (arith, exit_same, requested)

  -- nothing is wanted of any player
  abbrev pub WantsNone : Node → Type 0
  WantsNone m = (p : ℕ) → p < limits.players → p ≢ me → (m.peers p).want ≡ false

  -- what it leaves: of other players, and of its sender
  pub record Leaves (end : ℕ) (new : Node) : Type 0 where
    pub ended : is_ended new.phase ≡ false → is_ended node.phase ≡ false
    pub stays : node.phase ≡ Playing → new.phase ≡ Playing
    pub others : (p : ℕ) → p ≢ from → length (new.held p) ≡ length (node.held p)
    pub least : length (node.held from) ≤ length (new.held from)
    pub most : length (new.held from) ≤ max (length (node.held from)) end
    pub idle : node.phase ≢ Playing → length (new.held from) ≡ length (node.held from)
    pub next : (p : ℕ) → (new.peers p).resend ≡ (node.peers p).resend
    pub wants : (node.phase ≡ Playing → flight.start ≤ length (node.held from)) → WantsNone node → WantsNone new

  next_put : (peer : Peer) → peer.resend ≡ (node.peers from).resend → (p : ℕ)
      → (put node.peers from peer p).resend ≡ (node.peers p).resend
  next_put peer same p = grind (arith, cases_eq, put_at, put_off)

  wants_put : (peer : Peer) → peer.want ≡ false → WantsNone node → (p : ℕ) → p < limits.players
      → p ≢ me → (put node.peers from peer p).want ≡ false
  wants_put peer none all p l other = grind (arith, cases_eq, put_at, put_off)

  -- it has the same commands
  module _ (end : ℕ) (new : Node) (held : new.held ≡ node.held) where
    same_held : (p : ℕ) → length (new.held p) ≡ length (node.held p)
    same_held p = ap (λ (h : ℕ → List TicCmd). length (h p)) held

    holds_same : (is_ended new.phase ≡ false → is_ended node.phase ≡ false)
        → (node.phase ≡ Playing → new.phase ≡ Playing) → ((p : ℕ) → (new.peers p).resend ≡ (node.peers p).resend)
        → ((node.phase ≡ Playing → flight.start ≤ length (node.held from)) → WantsNone node → WantsNone new)
        → Leaves end new
    holds_same ended stays next wants =
        let same = same_held from in
        record {
          ended = ended;
          stays = stays;
          others = λ p n. same_held p;
          least = omega (arith, same);
          most = omega (arith, same);
          idle = λ n. same;
          next = next;
          wants = wants;
        }

  -- the node is as it was
  same : (end : ℕ) → Leaves end node
  same end = holds_same end node refl (λ e. e) (λ e. e) (λ p. refl) (λ low all. all)

  -- with the commands that are new
  grown : length (put node.held from (node.held from ++ drop (length (node.held from) - flight.start) flight.commands) from)
      ≡ length (node.held from) + (length flight.commands - (length (node.held from) - flight.start))
  grown = grind (arith, put_at, length-append, length-drop)

  -- a word of its sender
  pub word_leaves : Leaves (end_of flight) (on_packet limits me node flight).0
  word_leaves = packet_cases limits me node flight (λ (r : Node × Heard). Leaves (end_of flight) r.0) (record {
    dropped = λ number why. same (end_of flight);
    starts = λ s e k. holds_same _ _ refl (λ x. ap is_ended e) (λ x. refl) (λ p. refl) (λ low all. all);
    completes = λ word e all. holds_same _ _ refl (λ x. ap is_ended e) (λ x. refl) (λ p. refl) (λ low all. all);
    notes = λ word e some. holds_same _ _ refl (λ x. x) (λ x. x) (λ p. refl) (λ low all. all);
    commands = λ playing. record {
      dropped = λ number why. same (end_of flight);
      stale = λ l. holds_same _ _ refl (λ x. x) (λ x. x) (next_put _ sender_same.0)
          (λ low none. wants_put _ (sender_same.1 ∙ none from below apart) none);
      gap = λ l. holds_same _ _ refl (λ x. x) (λ x. x) (next_put _ sender_same.0)
          (λ low none. absurd (omega (arith, l, low playing)));
      takes = λ l m. record {
        ended = λ x. x;
        stays = λ x. x;
        others = λ p n. ap (length {A = TicCmd}) (put_off node.held from p _ n);
        least = let at = grown in omega (arith, at, m);
        most = let at = grown in omega (arith, at, l, m);
        idle = λ n. absurd (n playing);
        next = next_put _ sender_same.0;
        wants = λ low none. wants_put _ refl none;
      };
    };
    requests = λ done. holds_same _ _ refl (λ x. x) (λ x. x) (next_put _ requested.0)
        (λ low none. wants_put _ (requested.1 ∙ none from below apart) none);
  })

  -- settings
  pub settings_leave : (settings : Settings) → flight.kind ≡ SetUp settings
      → Leaves flight.start (on_packet limits me node flight).0
  unfolding on_packet
  settings_leave settings is = go node.phase refl
    where
      go : (phase : Phase) → node.phase ≡ phase
          → Leaves flight.start (on_packet_in limits me node flight node.phase flight.kind).0
      go Listening e = subst (λ (r : Node × Heard). Leaves flight.start r.0)
          (λ i. on_packet_in limits me node flight (sym e i) (sym is i))
          (holds_same _ _ refl (λ x. ap is_ended e) (λ x. refl) (λ p. refl) (λ low all. all))
      go Gathering e = subst (λ (r : Node × Heard). Leaves flight.start r.0)
          (λ i. on_packet_in limits me node flight (sym e i) (sym is i))
          (same flight.start)
      go Playing e = subst (λ (r : Node × Heard). Leaves flight.start r.0)
          (λ i. on_packet_in limits me node flight (sym e i) (sym is i))
          (same flight.start)
      go (Ended cause) e = subst (λ (r : Node × Heard). Leaves flight.start r.0)
          (λ i. on_packet_in limits me node flight (sym e i) (sym is i)) (by node.played)
        where
          by : (played : Bool) → Leaves flight.start (on_ended limits played me node flight (SetUp settings)).0
          by true = same flight.start
          by false = same flight.start

  -- it is dropped by one that does not play alone
  abbrev pub IsSpared : Heard → Type 0
  IsSpared answer = (number : ℕ) → answer ≡ Heard.Dropped number
      → (number ≡ drops.out_of_place) ⊎ (number ≡ drops.not_playing)

  -- the node has all commands up to its end, and knows the end where it is an EXIT packet
  abbrev Reached : Node × Heard → Type 0
  Reached after = (end_of flight ≤ length (after.0.held from))
      × (flight.kind ≡ Exit → (after.0.peers from).end ≡ Some (end_of flight))

  exit_told : flight.kind ≡ Exit → (peer : Peer) → peer.end ≡ (sender_after limits me node flight).end
      → (put node.peers from peer from).end ≡ Some (end_of flight)
  exit_told exit peer same = ap (λ (x : Peer). x.end) (put_at node.peers from from peer refl) ∙ same
      ∙ ap (λ (k : Kind). (after_exit (after_request limits.places (made me node) (node.peers from) flight.request)
      (is_exit k) (end_of flight)).end) exit

  -- a word that a playing node hears, behind which nothing is missing
  commands_reach : flight.start ≤ length (node.held from) → IsSpared (on_commands limits me node flight).1
      → Reached (on_commands limits me node flight)
  commands_reach low spared = commands_cases limits me node flight (λ (r : Node × Heard). IsSpared r.1 → Reached r) (record {
    dropped = λ number why fine. absurd (not_so number why (fine number refl));
    stale = λ l fine. (l, (λ exit. exit_told exit _ refl));
    gap = λ l fine. absurd (omega (arith, l, low));
    takes = λ l m fine. (
      (let at = grown in omega (arith, at, l, m)),
      (λ exit. exit_told exit _ refl),
    );
  }) spared
    where
      not_so : (number : ℕ) → Refused limits me node flight number
          → (number ≡ drops.out_of_place) ⊎ (number ≡ drops.not_playing) → ⊥
      not_so number why fine = grind arith

  pub word_reaches : node.phase ≡ Playing → (flight.kind ≡ Play) ⊎ (flight.kind ≡ Exit)
      → flight.start ≤ length (node.held from) → IsSpared (on_packet limits me node flight).1
      → Reached (on_packet limits me node flight)
  unfolding on_packet
  word_reaches plays is low spared =
      let step : on_packet_in limits me node flight node.phase flight.kind ≡ on_commands limits me node flight = elim is [
        | inl play ↦ (λ i. on_packet_in limits me node flight (plays i) (play i))
        | inr exit ↦ (λ i. on_packet_in limits me node flight (plays i) (exit i))
      ] in
      subst Reached (sym step) (commands_reach low (subst (λ (r : Node × Heard). IsSpared r.1) step spared))
