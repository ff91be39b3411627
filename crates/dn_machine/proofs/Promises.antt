-- What every event keeps says what the headline says.
use Rattle.std.proofs.{Common.{◌≡◌, ℕ, ◌+◌, ◌<◌, ◌≤◌, true, false, true≢false, ◌&&◌, List, [], length, get_or, drop, sym, ◌∙◌, ap, arith, Option, Some, inl, inr, eqb, ne_eqb, slice_get, ◌⊎◌, nat_le}, lemmas.Bool.{cases_lt, cases_eq, cond-false, and_right}}
use Rattle.std.proofs.lemmas.{Option.slice_get-get_or, List.Prefix.front_from_reads}
use Rattle.dn_tic.specs.declared.command.Move.{Move}
use Rattle.dn_setup.specs.Settings.{Settings}
use Rattle.dn_machine.specs.{Making.Making, Headline.{AgreeWithin, AnyTwo, shown_by}}
use Rattle.dn_machine.specs.{declared.answers.Phase.TheVariants.Playing, declared.answers.Heard.Heard, Worlds.{RulesBy, row, if_made, command}, Flight.{Flight, end_of}}
use Rattle.dn_machine.specs.{Node.{Node, blank, made, ran, is_ended, has_left, known_end, lacks, is_whole, demo_rows}, Game.Game, Promise.{IsPrefixOf, inputs_of, Agree, Fits, Steady}, Hearing.{on_packet}}
use Rattle.dn_machine.proofs.{Invariant.{IsKept, history_of}, Truth.{world_after_true, length-commands_to, get_or-commands_to, lowest_none_each}, Demos.{front_prefix, front_passes, front_each, front_short, none_is, seat_is, whole_has}}
use Rattle.dn_machine.proofs.Calls.{packet_cases}
use Rattle.dn_machine.proofs.Invariant

-- of two lists that agree as far as both go, the one that is no longer is a prefix
prefix_from_reads : {A : Type 0} (d : A) (xs ys : List A) → length xs ≤ length ys
    → ((k : ℕ) → k < length xs → get_or ys k d ≡ get_or xs k d) → IsPrefixOf xs ys
prefix_from_reads d xs ys l h = (drop (length xs) ys, sym (front_from_reads d ys xs l h))

module _ {making : Making} {S : Type 0} (rules : RulesBy making S) (settings : Settings) (game : Game)
    (kept : IsKept rules settings game) where
  row_at : (q tic : ℕ) → q < rules.players → tic < ran (game.nodes q)
      → slice_get (game.nodes q).rows tic ≡ Some (row rules settings (inputs_of game) tic)
  row_at q tic l m = slice_get-get_or (game.nodes q).rows tic [] m
      ∙ ap (λ (r : List (Option Move)). Some r) (kept.from_inputs.moves q tic l m)

  begins : (q r : ℕ) → q < rules.players → r < rules.players → ran (game.nodes q) ≤ ran (game.nodes r)
      → IsPrefixOf (demo_rows rules.players (game.nodes q)) (demo_rows rules.players (game.nodes r))
  begins q r l m le = front_prefix (is_whole rules.players) (game.nodes q).rows (game.nodes r).rows
      (prefix_from_reads [] (game.nodes q).rows (game.nodes r).rows le
      (λ k n. kept.from_inputs.moves r k m (omega arith) ∙ sym (kept.from_inputs.moves q k l n)))

  -- a player who has not left has made a command for every tic that was run
  whole : (q p tic : ℕ) → q < rules.players → p < rules.players → tic < ran (game.nodes q)
      → has_left (game.nodes p) ≡ false → tic < length (inputs_of game p)
  whole q p tic l m n stays = let below = Invariant.ran_below rules settings (history_of game) game.flights
      kept.from_inputs q p l m stays in omega arith

  -- the row of a tic lacks a player where the player has made no command for it
  row_lacks : (p tic : ℕ) → p < rules.players → p < 4
      → lacks (row rules settings (inputs_of game) tic) p ≡ nat_le (length (inputs_of game p)) tic
  unfolding row
  row_lacks p tic m s = grind (arith, seat_is)

  without : (q p tic : ℕ) → q < rules.players → p < rules.players → p < 4 → tic < ran (game.nodes q)
      → lacks (get_or (game.nodes q).rows tic []) p
      ≡ (has_left (game.nodes p) && nat_le (made p (game.nodes p)) tic)
  without q p tic l m s n = grind (arith, row_lacks, whole)

  -- an end that a node knows is that of one who has left
  known : (q p end : ℕ) → q < rules.players → p < rules.players → known_end q (game.nodes q) p ≡ Some end
      → (has_left (game.nodes p) ≡ true) × (end ≡ made p (game.nodes p))
  known q p end l m h = elim (cases_eq p q) [
    | inl e ↦ grind arith
    | inr n ↦ grind (arith, kept.from_inputs.ended q p end l m (sym (cond-false (eqb p q) _ _ (ne_eqb p q n)) ∙ h))
  ]

  pub agree : Agree rules settings game
  agree = record {
    rows = row_at;
    same = λ q r tic l m n o. row_at q tic l n ∙ sym (row_at r tic m o);
    whole = whole;
    without = without;
    ends = known;
    ends_same = λ q r p a b l m n g h. (known q p a l n g).1 ∙ sym (known r p b m n h).1;
    demo_whole = λ q p tic m l.
        lowest_none_each rules.players (lacks (get_or (demo_rows rules.players (game.nodes q)) tic []))
        (none_is _ (front_each (is_whole rules.players) (game.nodes q).rows tic [] l)) p m;
    held = λ q p tic l m n. kept.from_inputs.commands q p tic l m n;
    begins = λ q p l m. prefix_from_reads blank ((game.nodes q).held p) _
        (grind (arith, length-commands_to)) (λ k n. grind (arith, get_or-commands_to));
    settings_same = λ q l e. (kept.sound q l).played e;
    demos = λ q r l m. elim (cases_lt (ran (game.nodes q)) (ran (game.nodes r))) [
      | inl less ↦ inl (begins q r l m (omega arith))
      | inr more ↦ inr (begins r q m l more)
    ];
    marks = grind (arith, world_after_true);
    worlds = grind (arith, world_after_true);
  }

  -- a node that has not ended has not left
  pub stays_in : (q : ℕ) → is_ended (game.nodes q).phase ≡ false → has_left (game.nodes q) ≡ false
  stays_in q goes_on = and_right (game.nodes q).played (is_ended (game.nodes q).phase) goes_on

  -- no row of a demo is past any player's last command
  not_whole : (p tic : ℕ) → p < rules.players → length (inputs_of game p) ≤ tic
      → is_whole rules.players (row rules settings (inputs_of game) tic) ≡ true → ⊥
  unfolding row
  not_whole p tic l m e =
      true≢false (sym (grind arith)
      ∙ whole_has rules.players
      (λ r. if_made (inputs_of game r) tic (command rules settings (inputs_of game) r tic)) e p l)

  least : (q p : ℕ) → q < rules.players → p < rules.players
      → length (demo_rows rules.players (game.nodes q)) ≤ made p (game.nodes p)
  least q p l m =
      let short = front_short (is_whole rules.players) (game.nodes q).rows in
      elim (cases_lt (length (inputs_of game p)) (length (demo_rows rules.players (game.nodes q)))) [
        | inr fits ↦ omega arith
        | inl past ↦
            let passes = front_passes (is_whole rules.players) (game.nodes q).rows (length (inputs_of game p))
            [] past in grind (arith, not_whole)
      ]

  pub fits : Fits rules game
  fits = record {
    run = λ q p l m. elim (kept.from_inputs.run q p l m) [
      | inl le ↦ omega arith
      | inr h ↦
          let end = kept.from_inputs.ended q p h.0 l m h.1 in grind arith
    ];
    unread = λ q p l m. kept.from_inputs.unread q p l m;
    held = λ q p l m. let a = kept.from_inputs.got q p l m in let b = kept.from_inputs.counted p m in
        omega arith;
    unheard = λ q p l m goes_on.
        let stays = stays_in q goes_on in
        let a = kept.from_inputs.counted p m in
        let b = Invariant.close rules settings (history_of game) game.flights kept.from_inputs p q m l stays in
        elim (kept.from_inputs.run q p l m) [
          | inl le ↦ omega arith
          | inr h ↦
              let tip = (kept.from_inputs.ended q p h.0 l m h.1).1 in grind arith
        ];
    ahead = λ p l. let a = kept.from_inputs.ahead p l in let b = kept.from_inputs.counted p l in omega arith;
    close = λ p q l m goes_on.
        let stays = stays_in q goes_on in
        grind (arith, Invariant.close rules settings (history_of game) game.flights kept.from_inputs p q l m stays);
    room = λ q l. (kept.sound q l).room;
    least = least;
    most = λ q l. (kept.sound q l).most;
  }

  module _ (which : ℕ) (flight : Flight) (number : ℕ) (posted : slice_get game.flights which ≡ Some flight) where
    abbrev Fine : Heard → Type 0
    Fine answer = answer ≡ Heard.Dropped number → (number ≡ 6) ⊎ (number ≡ 13)

    -- no packet reaches further than twice the window past what a playing receiver ran
    within : (game.nodes flight.to).phase ≡ Playing → end_of flight
        ≤ ran (game.nodes flight.to) + (rules.ahead + rules.ahead)
    within e =
        let piece = kept.from_inputs.pieces which flight posted in
        let b = Invariant.close rules settings (history_of game) game.flights kept.from_inputs flight.from
        flight.to piece.sender piece.receiver (stays_in flight.to (ap is_ended e)) in grind arith

    pub drops : Fine (on_packet rules.limits flight.to (game.nodes flight.to) flight).1
    drops = packet_cases rules.limits flight.to (game.nodes flight.to) flight (λ (r : Node × Heard). Fine r.1)
        (grind (arith, within))

  pub steady : Steady rules game
  steady = grind (arith, drops)

  -- the three in the words of the headline
  pub headline : AgreeWithin rules.ahead (rules.ahead + rules.ahead) rules.places rules.players
      (AnyTwo rules.players) (λ player. shown_by rules.players (game.nodes player))
  headline = grind (arith, agree)
