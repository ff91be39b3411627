-- A packet that is sent carries a piece of what its sender has.
use Rattle.std.proofs.Common.{◌≡◌, ◌≢◌, ℕ, ◌<◌, ◌≤◌, refl, sym, ◌∙◌, ap, subst, arith, inl, inr, List, ◌∷◌, length, drop, Bool, true, false, Option, Some, None, length-take, length-drop}
use Rattle.dn_tic.specs.declared.command.TicCmd.{TicCmd}
use Rattle.dn_setup.specs.Settings.{Settings}
use Rattle.dn_machine.specs.{Flight.Kind, Flight.Play, Flight.Exit, Flight.Flight, Limits.Limits, Node.ends_of, Node.made, Node.has_left, Game.Game, Game.with_node, Game.posted, Worlds.Rules, Sending.first_sent}
use Rattle.dn_machine.specs.{Sending.last_sent, Sending.left_kind, Sending.set_up_flight, Sending.commands_flight, Sending.request_to, Sending.after_sent, Sending.on_send}
use Rattle.dn_machine.proofs.{Calls.send_cases, Put.{slice_get_push, put_at, put_off, same_functions}}
use Rattle.dn_remain.specs.{Vanished.Commands.Holder, Wary.{reached, end_seen, rows_to, holder_of, now_of}}
use Rattle.dn_remain.proofs.{Seeing.{take_long, same_holder}, Known.{IsTold, Follows, Went, fit_self}, Following.stays}
use Rattle.dn_machine.specs.Node as machine

-- a packet joins those that were sent
module _ {S : Type 0} {known : ℕ → Holder TicCmd → Type 0} {rules : Rules S} {game : Game} {gone : ℕ → ℕ → Bool}
    {older : List (ℕ → Holder TicCmd)} (follows : Follows known rules game gone older) where
  pub joins : (flight : Flight) → IsTold rules.players (now_of game gone ∷ older) flight
      → Follows known rules (posted game (Some flight)).0 gone older
  joins flight told = record {
    run = follows.run;
    handed = follows.handed;
    flights = λ which other h. elim (slice_get_push game.flights flight which other h) [
      | inl old ↦ follows.flights which other old
      | inr new ↦ subst (λ (f : Flight). IsTold rules.players (now_of game gone ∷ older) f) (sym new) told
    ];
    ends = follows.ends;
    endless = follows.endless;
    resend = follows.resend;
    rows = follows.rows;
    knows = follows.knows;
  }

-- where a packet begins and ends
first_low : (limits : Limits) (me : ℕ) (node : machine.Node) (to : ℕ) → (node.peers to).resend ≤ made me node
    → first_sent limits me node to ≤ made me node
first_low limits me node to low = grind arith

next_low : (limits : Limits) (me : ℕ) (node : machine.Node) (to : ℕ)
    → ((after_sent limits me node to).peers to).resend ≤ made me node
next_low limits me node to = grind arith

left_all : (limits : Limits) (me : ℕ) (node : machine.Node) (to : ℕ) → left_kind limits me node to ≡ Exit
    → made me node ≤ last_sent limits me node to
left_all limits me node to = grind arith

module _ {S : Type 0} {known : ℕ → Holder TicCmd → Type 0} {rules : Rules S} {game : Game} {gone : ℕ → ℕ → Bool}
    {older : List (ℕ → Holder TicCmd)} (follows : Follows known rules game gone older) (q : ℕ) (mine : q < rules.players)
    (to : ℕ) (its : to < rules.players) (open_to : gone q to ≡ false) where
  abbrev me : machine.Node
  me = game.nodes q

  -- the node after it sent, and its game
  abbrev sent : machine.Node
  sent = after_sent rules.limits q me to

  abbrev sent_game : Game
  sent_game = with_node game q sent

  after : Follows known rules sent_game gone older
  after =
      let peer_is : (p : ℕ) → ends_of sent p ≡ ends_of me p = grind (arith, put_at, put_off) in
      let ends : end_seen sent ≡ end_seen me =
      same_functions (λ p. ap (λ (o : Option ℕ). reached (length (me.held p)) o) (peer_is p)) in
      stays follows q sent (record {
        ends = λ p e s f. follows.ends q p e (sym (peer_is p) ∙ s) f;
        endless = peer_is q ∙ follows.endless q;
        rows = inl refl;
        resend = grind (arith, next_low, put_off);
      }) (same_holder (holder_of sent (gone q)) _ refl ends refl refl
      (ap (λ (e : ℕ → Option ℕ). rows_to e (machine.ran me)) ends))

  is_told : (q ≢ to) → (kind : Kind) (request : Option ℕ)
      → (kind ≡ Exit → (has_left me ≡ true) × (made q me ≤ last_sent rules.limits q me to))
      → IsTold rules.players (now_of sent_game gone ∷ older) (commands_flight rules.limits q me to kind request)
  is_told apart kind request leaving =
      let low = first_low rules.limits q me to (follows.resend q to) in
      let a = length-take rules.most (drop (first_sent rules.limits q me to) (me.held q)) in
      let b = length-drop (first_sent rules.limits q me to) (me.held q) in
      let at = ap (λ (n : machine.Node). holder_of n (gone q)) (sym (put_at game.nodes q q sent refl)) in
      record {
        sender = mine;
        receiver = its;
        apart = apart;
        state = holder_of sent (gone q);
        by = q;
        had = inl at;
        hands = inl refl;
        open_to = open_to;
        piece = sym (take_long rules.most (drop (first_sent rules.limits q me to) (me.held q)));
        reaches = omega arith;
        exit = λ e. let k = leaving e in let l = k.1 in (k.0, omega arith, inl at);
      }

  gives : (q ≢ to) → (kind : Kind) (request : Option ℕ)
      → (kind ≡ Exit → (has_left me ≡ true) × (made q me ≤ last_sent rules.limits q me to))
      → Went known rules (posted sent_game (Some (commands_flight rules.limits q me to kind request))).0 gone
  gives apart kind request leaving = (older, joins after _ (is_told apart kind request leaving))

  same : Follows known rules (with_node game q me) gone older
  same = stays follows q me (fit_self follows q) refl

  -- a set-up packet carries nothing
  sets_up : (q ≢ to) → (o : Option Settings)
      → Went known rules (posted (with_node game q me) (set_up_flight q to o)).0 gone
  sets_up apart None = (older, same)
  sets_up apart (Some s) = (
    older,
    joins same _ (record {
      sender = mine;
      receiver = its;
      apart = apart;
      state = holder_of me (gone q);
      by = q;
      had = inl (ap (λ (n : machine.Node). holder_of n (gone q)) (sym (put_at game.nodes q q me refl)));
      hands = inl refl;
      open_to = open_to;
      piece = refl;
      reaches = omega arith;
      exit = λ e. absurd (cc);
    }),
  )

  pub sends : Went known rules (posted (with_node game q (on_send rules.limits q me to).0)
      (on_send rules.limits q me to).1).0 gone
  sends = send_cases rules.limits q me (λ (r : machine.Node × Option Flight). Went known rules
      (posted (with_node game q r.0) r.1).0 gone) to (older, same) (λ apart e. sets_up apart me.settings)
      (λ apart plays. gives apart Play (request_to me to) (λ e. absurd (cc)))
      (λ apart left. gives apart (left_kind rules.limits q me to) None
      (λ e. (left, left_all rules.limits q me to e)))
