-- What a node does by itself, a build, a run, a quit and a send, keeps what every event keeps.
use Rattle.std.proofs.{Common.{◌≡◌, ℕ, ◌+◌, ◌<◌, ◌≤◌, true, false, List, [], ◌∷◌, ◌++◌, length, take, ◌∙◌, arith, inl, inr, refl, ◌≢◌, not, cond, sym, ap, Option, Some, None, ltb, leb, ℤ, subst, leb-false, lt-ltb, take_all, length-drop, length-take, get_or-drop, get_or-take, ◌⊎◌, ◌&&◌}, lemmas.{Bool.{cases_eq, cases_Bool, cond-true, and_from, and_cases}, List.{length_push, take-append-le}}}
use Rattle.std.proofs.lemmas.Option.{none-some, same_Some, cond_some}
use Rattle.dn_tic.specs.declared.{command.{TicCmd.TicCmd, Move.Move}, input.Input.Input}
use Rattle.dn_setup.specs.Settings.{Settings}
use Rattle.dn_machine.specs.{Making.Making, declared.answers.Cause.Cause}
use Rattle.dn_machine.specs.Running.{is_over, is_absent, is_awaited, first_off, row_held, marks_kept, full_at, on_quit}
use Rattle.dn_machine.specs.{Worlds.{Inputs, RulesBy, command, row, if_made, world}, Flight.{Flight, Kind, SetUp, Play, Exit}, Node.{put, Node, ends_of, made, own_mark, has_left, lowest, got, ran, held_at, is_whole}, declared.answers.Phase.TheVariants.{Playing, Ended}, Game.{Game, with_node, own_marks, on_own_run, posted}, Sending.{on_build_by, first_sent, last_sent, left_kind, set_up_flight, commands_flight, request_to, after_sent, on_send}}
use Rattle.dn_machine.proofs.{Invariant.{History, IsPiece, ComesFromInputs, HasTrueMarks, IsKept, history_of, IsSound}, Truth.{command_same, row_same, back_same, world_same, row_of_same, world_after_true, lowest_none, lowest_none_each, command_mark, same_passes}, Put.{longer, pushed, view_put, view_kept, put_at, put_off}, Calls.{build_by_cases, built_by, run_cases, quit_cases, send_cases}}
use Rattle.dn_machine.proofs.{Demos.{whole_held, front_stops, front_goes_on}, Peers.same_ends}
use Rattle.dn_machine.proofs.Invariant
use Rattle.dn_machine.proofs.Placing
use Rattle.dn_machine.proofs.Calls

-- A build: the commands held, the rows run and the packets sent stay pieces of what the players' inputs make.

module _ {making : Making} {S : Type 0} (rules : RulesBy making S) (settings : Settings) (history : History) (flights : List Flight)
    (from_inputs : ComesFromInputs rules settings history flights) where
  -- a build, by a player who has not left
  module _ (me : ℕ) (mine : me < rules.players) (stays : history.left me ≡ false) (input : Input)
      (room : length (history.inputs me) < length (history.rows me) + rules.ahead) (back : rules.ahead ≤ 12) where
    -- the first inputs stay the first
    pub inputs_kept : (p k : ℕ) → k ≤ length (history.inputs me)
        → take k (history.inputs p) ≡ take k (put history.inputs me (history.inputs me ++ input ∷ []) p)
    inputs_kept p k l = grind (arith, take-append-le)

    -- and there are more of them
    inputs_more : (p : ℕ) → length (history.inputs p)
        ≤ length (put history.inputs me (history.inputs me ++ input ∷ []) p)
    inputs_more p = let now = longer history.inputs me input p in omega arith

    -- the commands made so far stay
    pub command_kept : (p t : ℕ) → p < rules.players → t < length (history.inputs p)
        → command rules settings history.inputs p t ≡ command rules settings
        (put history.inputs me (history.inputs me ++ input ∷ [])) p t
    command_kept p t l m = grind (arith, command_same, inputs_kept, Invariant.close)

    -- and so do the rows that were run
    row_kept : (q t : ℕ) → q < rules.players → t < length (history.rows q)
        → row rules settings history.inputs t ≡ row rules settings
        (put history.inputs me (history.inputs me ++ input ∷ [])) t
    row_kept q t l m = grind (arith, row_same, Invariant.ran_below, inputs_kept)

    piece_kept : (flight : Flight) → IsPiece rules settings history.inputs history.left flight
        → IsPiece rules settings (put history.inputs me (history.inputs me ++ input ∷ [])) history.left flight
    piece_kept flight piece = grind (arith, inputs_more, command_kept)

    module _ (new : TicCmd)
        (true_command : new ≡ command rules settings (put history.inputs me (history.inputs me ++ input ∷ [])) me
        (length (history.inputs me))) where
      length_built : length (history.held me me ++ new ∷ []) ≡ length (history.inputs me) + 1
      length_built = let a = length_push (history.held me me) new in grind arith

      abbrev inputs_after : Inputs
      inputs_after = put history.inputs me (history.inputs me ++ input ∷ [])

      abbrev held_after : ℕ → ℕ → List TicCmd
      held_after = put history.held me (put (history.held me) me (history.held me me ++ new ∷ []))

      -- how many commands of whom each node has then
      counts : (q p : ℕ)
          → ((p ≡ me) × (length (held_after q p) ≡ length (history.inputs me) + 1)
          × (length (history.held q p) ≡ length (history.inputs me))
          × (length (history.inputs p) ≡ length (history.inputs me))
          × (length (history.rows q) ≡ length (history.rows me)))
          ⊎ (length (held_after q p) ≡ length (history.held q p))
      counts q p = grind (arith, length_built)

      pub lists_built : ComesFromInputs rules settings (record history { inputs = inputs_after; held = held_after })
          flights
      lists_built = record {
        counted = grind (arith, longer, length_built);
        run = grind (arith, counts);
        got = grind (arith, counts, longer);
        ahead = grind (arith, longer);
        unread = grind (arith, counts);
        commands = λ q p tic l m t. elim (cases_eq q me) [
          | inl e ↦ grind (arith, pushed, command_kept)
          | inr n ↦ grind (arith, command_kept)
        ];
        moves = λ q tic l t. from_inputs.moves q tic l t ∙ row_kept q tic l t;
        ended = grind arith;
        pieces = λ which flight h. piece_kept flight (from_inputs.pieces which flight h);
      }

module _ {making : Making} {S : Type 0} (rules : RulesBy making S) (settings : Settings) (game : Game)
    (kept : IsKept rules settings game) (i : ℕ) (mine : i < rules.players) where
  abbrev inputs_before : Inputs
  inputs_before q = (game.nodes q).inputs

  -- the command that a build makes is the true one
  built_true : (input : Input) → (game.nodes i).phase ≡ Playing
      → length (inputs_before i) < length (game.nodes i).rows + rules.ahead →
      making.command ((game.nodes i).inputs ++ input ∷ []) (own_mark (game.nodes i) i (made i (game.nodes i)))
      ≡ command rules settings (put inputs_before i ((game.nodes i).inputs ++ input ∷ [])) i
      (length (inputs_before i))
  unfolding command
  built_true input e room =
      let more : Inputs = put inputs_before i ((game.nodes i).inputs ++ input ∷ []) in
      let t : ℕ = length (inputs_before i) in
      let back_twelve = kept.window.back in
      let own = Placing.own_mark_kept rules settings game kept i mine i (made i (game.nodes i)) mine
      (omega arith) (omega arith) in
      let back = back_same rules settings inputs_before more t
      (λ p k l m. inputs_kept rules settings (history_of game) game.flights kept.from_inputs i mine
      (Placing.playing_stays rules settings game kept i mine e) input room back_twelve p k (omega arith)) in
      grind (arith, take_all, length_push)

  -- the marks that were kept are those of the same worlds
  still_true : (input : Input) → has_left (game.nodes i) ≡ false → (q : ℕ) → q < rules.players
      → HasTrueMarks rules settings (put inputs_before i ((game.nodes i).inputs ++ input ∷ [])) (game.nodes q)
  still_true input stays q l p tic m ran made =
      let below = Invariant.ran_below rules settings (history_of game) game.flights kept.from_inputs q i l mine
      stays in grind (arith, world_same, take-append-le)

  pub builds : (input : Input)
      → IsKept rules settings (with_node game i (on_build_by making rules.limits i (game.nodes i) input).0)
  builds input = build_by_cases rules.limits i (game.nodes i) making
      (λ (new : Node). IsKept rules settings (with_node game i new)) input
      (λ full. Placing.same_node rules settings game kept i mine)
      (λ plays free.
      let room : length (inputs_before i) < length (game.nodes i).rows + rules.ahead = omega arith in
      let node : Node = built_by rules.limits i (game.nodes i) making input in
      let new : TicCmd = making.command node.inputs (own_mark (game.nodes i) i (made i (game.nodes i))) in
      let sound = kept.sound i mine in
      Placing.placed rules settings game kept i mine node game.stopped game.flights _
      (view_put (λ (n : Node). n.inputs) game.nodes i node) (view_put (λ (n : Node). n.held) game.nodes i node)
      (view_kept (λ (n : Node). n.rows) game.nodes i node refl) (view_kept ends_of game.nodes i node refl)
      (Placing.left_placed rules settings game kept i mine node (λ h. h))
      (lists_built rules settings (history_of game) game.flights kept.from_inputs i mine
      (Placing.playing_stays rules settings game kept i mine plays) input room kept.window.back new
      (built_true input plays room)) (grind (arith, length_push, whole_held)) (grind (arith, still_true)))

-- A run and a quit.

-- a known end that is not past a tic
pub over : (o : Option ℕ) (tic : ℕ) → is_over o tic ≡ true → (end : ℕ) × (o ≡ Some end) × (end ≤ tic)
over o tic h = grind arith

module _ {making : Making} {S : Type 0} (rules : RulesBy making S) (settings : Settings) (game : Game)
    (kept : IsKept rules settings game) (i : ℕ) (mine : i < rules.players) where
  abbrev inputs_now : Inputs
  inputs_now q = (game.nodes q).inputs

  -- whoever had left still has after another end
  ends : (cause : Cause) → ((player : ℕ) (was should : ℤ) → cause ≢ Cause.Inconsistent player was should)
      → IsKept rules settings (with_node game i (record (game.nodes i) { phase = Ended cause }))
  ends cause other = grind (arith, Placing.quiet)

  -- quit
  pub quits : IsKept rules settings (with_node game i (on_quit (game.nodes i)).0)
  quits = quit_cases rules.limits i (game.nodes i) (λ (new : Node). IsKept rules settings (with_node game i new))
      (Placing.same_node rules settings game kept i mine)
      (λ goes_on. ends Cause.Quit (λ p w s e. cc))

  -- each player's command for the next tic is held, or the player's known end is not past it
  abbrev pub IsThere : Type 0
  IsThere = (p : ℕ) → p < rules.players → (length (game.nodes i).rows < length ((game.nodes i).held p))
      ⊎ ((end : ℕ) × (ends_of (game.nodes i) p ≡ Some end) × (end ≤ length (game.nodes i).rows))

  pub all_there : lowest rules.players (is_awaited (game.nodes i)) ≡ None → IsThere
  all_there none p l =
      elim (and_cases (not (is_absent (game.nodes i) p)) (leb (got (game.nodes i) p) (ran (game.nodes i)))
      (lowest_none_each rules.players (is_awaited (game.nodes i)) none p l)) [
        | inl gone ↦ grind arith
        | inr here ↦ inl (leb-false (got (game.nodes i) p) (ran (game.nodes i)) here)
      ]

  -- no mark of a command that a playing node holds for its next tic is off
  pub none_off : (game.nodes i).phase ≡ Playing → IsThere → first_off rules.limits (game.nodes i) ≡ None
  none_off e there = grind (arith, lowest_none, same_passes, command_mark, Placing.own_mark_kept)

  -- the row that it holds for its next tic is the true one
  seat_true : IsThere → (p : ℕ) → p < rules.players
      → cond (is_absent (game.nodes i) p) None (Some (held_at (game.nodes i) p (ran (game.nodes i))))
      ≡ if_made (inputs_now p) (ran (game.nodes i)) (command rules settings inputs_now p (ran (game.nodes i)))
  seat_true there p l = elim (cases_Bool (is_absent (game.nodes i) p)) [
    | inl gone ↦
        let end = over (ends_of (game.nodes i) p) (ran (game.nodes i)) gone in
        let tip = (kept.from_inputs.ended i p end.0 mine l end.1).1 in grind arith
    | inr present ↦ grind arith
  ]

  row_true : IsThere → row_held rules.limits (game.nodes i) ≡ row rules settings inputs_now
      (length (game.nodes i).rows)
  unfolding row
  row_true there = row_of_same rules.players _ _ (seat_true there)

  -- the node after one more row, which fits
  abbrev pub ran_on : Node
  ran_on = Calls.ran_on rules.limits i (game.nodes i) (own_marks rules (game.nodes i))

  -- whoever is present after the tic was so before
  ran_whole : is_whole rules.players (row_held rules.limits ran_on) ≡ true
      → is_whole rules.players (row_held rules.limits (game.nodes i)) ≡ true
  ran_whole = grind (arith, length_push, whole_held)

  ran_sound : ran (game.nodes i) ≢ full_at rules.limits (row_held rules.limits (game.nodes i))
      → IsSound rules settings i ran_on
  ran_sound other = grind (arith, length_push, front_goes_on, front_stops, ran_whole)

  -- the cases of a run, since no mark is off
  pub cases : (P : Node → Type 0)
      → (((game.nodes i).phase ≡ Playing → lowest rules.players (is_awaited (game.nodes i)) ≢ None)
      → P (game.nodes i)) → ((game.nodes i).phase ≡ Playing → IsThere
      → ran (game.nodes i) ≡ full_at rules.limits (row_held rules.limits (game.nodes i))
      → P (record (game.nodes i) { phase = Ended Cause.Full })) → ((game.nodes i).phase ≡ Playing → IsThere
      → ran (game.nodes i) ≢ full_at rules.limits (row_held rules.limits (game.nodes i)) → P ran_on)
      → P (on_own_run rules (game.nodes i)).0
  cases P same full free = run_cases rules.limits i (game.nodes i) (own_marks rules (game.nodes i)) P same
      (λ player plays none off. absurd (none-some player (sym (none_off plays (all_there none)) ∙ off)))
      (λ plays none at. full plays (all_there none) at)
      (λ plays none more. free plays (all_there none) more)

  -- the world before the tic is the true one
  world_true : (game.nodes i).phase ≡ Playing → (p : ℕ) → own_marks rules (game.nodes i) p
      ≡ rules.physics.mark (world rules settings inputs_now (ran (game.nodes i))) p
  world_true plays p = grind (arith, world_after_true)

  -- so the marks that it is told are the true ones, of those who made a command for the tic
  told_true : (game.nodes i).phase ≡ Playing → HasTrueMarks rules settings inputs_now ran_on
  told_true plays p tic l high made =
      let rows = (game.nodes i).rows in
      let new : List (Option Move) = row_held rules.limits (game.nodes i) in
      let count = length_push rows new in
      let told : ℕ → ℤ = marks_kept rules.limits (game.nodes i) (own_marks rules (game.nodes i)) in
      elim (cases_eq tic (ran (game.nodes i))) [
        | inr other ↦ ap (λ (f : ℕ → ℤ). f p) (put_off (game.nodes i).marks (ran (game.nodes i)) tic told other)
            ∙ kept.marks i mine p tic l (omega arith) made
        | inl now ↦
            ap (λ (f : ℕ → ℤ). f p) (put_at (game.nodes i).marks (ran (game.nodes i)) tic told now)
            ∙ (cond-true (ltb p rules.players && not (is_absent (game.nodes i) p)) _ _
            (and_from (ltb p rules.players) (not (is_absent (game.nodes i) p)) (lt-ltb p rules.players l)
            (ap not (here p l (omega arith)))) ∙ (grind (arith, world_true)))
      ]
    where
      here : (p : ℕ) → p < rules.players → ran (game.nodes i) < length (inputs_now p)
          → is_absent (game.nodes i) p ≡ false
      here p l more = elim (cases_Bool (is_absent (game.nodes i) p)) [
        | inr present ↦ present
        | inl gone ↦
            let end = over (ends_of (game.nodes i) p) (ran (game.nodes i)) gone in
            let tip = (kept.from_inputs.ended i p end.0 mine l end.1).1 in grind arith
      ]

  pub runs : IsKept rules settings (with_node game i (on_own_run rules (game.nodes i)).0)
  runs = cases (λ (new : Node). IsKept rules settings (with_node game i new))
      (λ waits. Placing.same_node rules settings game kept i mine)
      (λ plays there full. ends Cause.Full (λ p w s h. cc))
      (λ plays there free.
      Placing.placed rules settings game kept i mine ran_on game.stopped game.flights _
      (view_kept (λ (n : Node). n.inputs) game.nodes i ran_on refl)
      (view_kept (λ (n : Node). n.held) game.nodes i ran_on refl)
      (view_put (λ (n : Node). n.rows) game.nodes i ran_on) (view_kept ends_of game.nodes i ran_on refl)
      (Placing.left_placed rules settings game kept i mine ran_on (λ h. h))
      (Invariant.runs rules settings (history_of game) game.flights kept.from_inputs i mine there
      (row_held rules.limits (game.nodes i)) (row_true there)) (ran_sound free)
      (grind (arith, Placing.marks_placed, told_true)))

-- A send.

module _ {making : Making} {S : Type 0} (rules : RulesBy making S) (settings : Settings) (game : Game)
    (kept : IsKept rules settings game) (i : ℕ) (mine : i < rules.players) where
  abbrev inputs_sent : Inputs
  inputs_sent q = (game.nodes q).inputs

  -- A packet joins those that were sent, from a node whose lists are as they were.
  posts : (new : Node) (flight : Flight) → new.inputs ≡ (game.nodes i).inputs → new.held ≡ (game.nodes i).held
      → new.rows ≡ (game.nodes i).rows → ends_of new ≡ ends_of (game.nodes i)
      → new.marks ≡ (game.nodes i).marks → (has_left (game.nodes i) ≡ true → has_left new ≡ true)
      → IsSound rules settings i new → IsPiece rules settings inputs_sent (λ q. has_left (game.nodes q)) flight
      → IsKept rules settings (posted (with_node game i new) (Some flight)).0
  posts new flight a b c d t more sound piece = grind (arith, Placing.quiet_with, Invariant.sends)

  -- a set-up packet
  set_up_piece : (to : ℕ) → to < rules.players → i ≢ to
      → IsPiece rules settings inputs_sent (λ q. has_left (game.nodes q))
      (record { from = i; to = to; kind = SetUp settings; start = 0; request = None; commands = [] })
  set_up_piece to l apart = grind arith

  -- a packet starts at no tic past what was built
  pub first_reached : (to : ℕ) → first_sent rules.limits i (game.nodes i) to ≤ made i (game.nodes i)
  first_reached to = grind arith

  -- a packet of commands, of one who plays or who has left
  commands_piece : (to : ℕ) (kind : Kind) (request : Option ℕ) → to < rules.players → i ≢ to
      → ((s : Settings) → kind ≢ SetUp s) → ((tic : ℕ) → request ≡ Some tic → tic ≤ got (game.nodes i) to)
      → (kind ≡ Exit → (has_left (game.nodes i) ≡ true)
      × (made i (game.nodes i) ≤ last_sent rules.limits i (game.nodes i) to))
      → IsPiece rules settings inputs_sent (λ q. has_left (game.nodes q))
      (commands_flight rules.limits i (game.nodes i) to kind request)
  commands_piece to kind request l apart no_set_up asks leaving =
      grind (arith, length-drop, length-take, get_or-drop, get_or-take)

  -- the packet of one who has left is no set-up packet, and tells an end where it reaches it
  left_word : (to : ℕ) (s : Settings) → left_kind rules.limits i (game.nodes i) to ≢ SetUp s
  left_word to s = grind arith

  left_all : (to : ℕ) → left_kind rules.limits i (game.nodes i) to ≡ Exit
      → made i (game.nodes i) ≤ last_sent rules.limits i (game.nodes i) to
  left_all to = grind arith

  -- a node that gave a packet is sound
  sent_sound : (to : ℕ) → IsSound rules settings i (after_sent rules.limits i (game.nodes i) to)
  sent_sound to = Placing.peer_sound rules settings game kept i mine to
      _ (game.nodes i).held (omega arith) (λ tic h. h) refl

  pub sends : (to : ℕ) → to < rules.players
      → IsKept rules settings (posted (with_node game i (on_send rules.limits i (game.nodes i) to).0)
      (on_send rules.limits i (game.nodes i) to).1).0
  sends to l =
      send_cases rules.limits i (game.nodes i)
      (λ (r : Node × Option Flight). IsKept rules settings (posted (with_node game i r.0) r.1).0) to
      (Placing.same_node rules settings game kept i mine)
      (λ other e. gathers other (game.nodes i).settings ((kept.sound i mine).gathering e))
      (λ other plays. posts _ _ refl refl refl (same_ends (game.nodes i) to _ refl) refl (λ h. h)
      (sent_sound to) (commands_piece to Play (request_to (game.nodes i) to) l other (λ s h. cc) asks
      (λ h. absurd (cc))))
      (λ other left. posts _ _ refl refl refl (same_ends (game.nodes i) to _ refl) refl (λ h. h)
      (sent_sound to) (commands_piece to (left_kind rules.limits i (game.nodes i) to) None l other (left_word to)
      (λ tic h. absurd (none-some tic h)) (λ h. (left, left_all to h))))
    where
      gathers : i ≢ to → (o : Option Settings) → o ≡ Some settings
          → IsKept rules settings (posted (with_node game i (game.nodes i)) (set_up_flight i to o)).0
      gathers apart None e = absurd (none-some settings e)
      gathers apart (Some s) e =
          subst (λ (z : Settings). IsKept rules settings
          (posted (with_node game i (game.nodes i)) (set_up_flight i to (Some z))).0) (sym (same_Some s settings e))
          (posts (game.nodes i) _ refl refl refl refl refl (λ h. h) (kept.sound i mine) (set_up_piece to l apart))

      asks : (tic : ℕ) → request_to (game.nodes i) to ≡ Some tic → tic ≤ got (game.nodes i) to
      asks tic e = let same = (cond_some ((game.nodes i).peers to).want (got (game.nodes i) to) tic e).1 in
          omega arith
