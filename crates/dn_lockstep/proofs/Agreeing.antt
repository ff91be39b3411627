-- What the locksteps of one game tell of themselves agrees, since the machine's nodes that they represent do.
use Rattle.std.proofs.Common.{◌≡◌, ◌<◌, ℕ, ◌+◌, true, false, List, [], take, Some, ap, sym, ◌∙◌, arith, ℤ, unwrap_or}
use Rattle.std.proofs.{Common.{Ok, take_while}, lemmas.{Bool.cond-true, List.FromFn.fill_by_all}}
use Rattle.dn_tic.specs.{Inputs.made_by, declared.{command.TicCmd.TicCmd, input.Input.Input}}
use Rattle.dn_tic.proofs.Making.{made_by-mark}
use Rattle.dn_setup.specs.Settings.{Settings, start_of}
use Rattle.dn_demo.specs.{Layout.long_tics, Reading.IsReadAs, Text.demo_text}
use Rattle.dn_machine.specs.{Game.Game, Node.{is_ended, is_whole, has_left, demo_rows}}
use Rattle.dn_machine.specs.{Promise.{Agree, Fits, inputs_of, end_or}, Worlds.{Inputs, Rules, command, row_by_inputs}}
use Rattle.dn_machine.proofs.{Invariant.IsKept, RowsByInputs.row_is}
use Rattle.dn_lockstep.specs.{Agreed.{AreAgreed, rows_to, rows_made, demo_made, is_closed}, Contents.{Contents, end_in}}
use Rattle.dn_lockstep.specs.{Represents.Represents, Rows.seats_of, Told.{HasStarted, got, made, command_told}}
use Rattle.dn_lockstep.proofs.{DemosAgreeing.demos_of, Moving.read_back}
use Rattle.dn_machine.specs.Node as machine
use Rattle.dn_machine.proofs.Promises
use Rattle.dn_lockstep.proofs.Shown

-- a command with any mark, and what it says of its own
pub own_marked : (inputs : List Input) (mark : ℤ) (command : TicCmd) → command ≡ made_by inputs mark
    → command ≡ made_by inputs command.mark
own_marked inputs mark command e = grind (arith, e, made_by-mark)

module _ {S : Type 0} (rules : Rules S) (settings : Settings) (last : Game)
    (kept : IsKept rules settings last) (locksteps : ℕ → Contents)
    (nodes : (p : ℕ) → p < rules.players → Represents rules.limits p (locksteps p) (last.nodes p)) where
  abbrev inputs : Inputs
  inputs = inputs_of last

  agree : Agree rules settings last
  agree = Promises.agree rules settings last kept

  fits : Fits rules last
  fits = Promises.fits rules settings last kept

  -- one lockstep
  module _ (p : ℕ) (below : p < rules.players) where
    abbrev n : Contents
    n = locksteps p

    abbrev m : machine.Node
    m = last.nodes p

    shown : Represents rules.limits p n m
    shown = nodes p below

    ran : n.ran ≡ machine.ran m
    ran = shown.table.ran

    has : (player : ℕ) → player < rules.players → got n player ≡ machine.got m player
    has = Shown.has rules.limits p n m shown

    makes : made n ≡ machine.made p m
    makes = Shown.makes rules.limits p n m shown below

    -- who has not ended
    playing_on : is_ended n.phase ≡ false → is_ended m.phase ≡ false
    playing_on on = ap is_ended (sym shown.stands.phase) ∙ on

    end_until : (tic : ℕ) → unwrap_or (end_in n p) tic ≡ end_or last p tic
    end_until tic = grind (arith, Shown.own_end_is rules.limits p n m shown below)

    own_end : has_left m ≡ true → end_in n p ≡ Some (machine.made p m)
    own_end left = Shown.own_end_is rules.limits p n m shown below ∙ cond-true (has_left m) _ _ left

    -- the rows that it ran are those that the inputs make
    pub rows_are : m.rows ≡ rows_to rules.players inputs n.ran
    rows_are = fill_by_all (row_by_inputs rules.players inputs) m.rows n.ran [] (sym ran)
        (λ tic early. kept.from_inputs.moves p tic below (omega (arith, ran, early))
        ∙ row_is rules settings inputs tic)

    pub demo_rows_are : demo_rows rules.players m ≡ rows_made rules.players inputs n.ran
    demo_rows_are = ap (take_while (is_whole rules.players)) rows_are

    -- a command that it tells is the player's
    pub told_is : (player tic : ℕ) (c : TicCmd) → command_told n player tic ≡ Some c
        → c ≡ command rules settings inputs player tic
    told_is player tic c e =
        let told = Shown.tells_held rules.limits p n m shown player tic c e in
        told.2 ∙ kept.from_inputs.commands p player tic below told.0 told.1

    told_by : (player tic : ℕ) (c : TicCmd) → command_told n player tic ≡ Some c
        → c ≡ made_by (take (tic + 1) (inputs player)) c.mark
    unfolding command
    told_by player tic c e = own_marked (take (tic + 1) (inputs player)) _ c (told_is player tic c e)

    settings_are : m.played ≡ true → m.settings ≡ Some settings
    settings_are = agree.settings_same p below

    starts : m.played ≡ true → HasStarted n
    starts played = Shown.starts rules.limits p n m shown settings played (settings_are played)

    -- once started
    module _ (begun : HasStarted n) where
      played : m.played ≡ true
      played = Shown.started rules.limits p n m shown begun

      -- its demo is the text of the rows
      text_is : n.demo.bytes ≡ demo_text long_tics (start_of settings) p (seats_of rules.players)
          (rows_made rules.players inputs n.ran) (is_closed rules.players inputs n)
      text_is = grind (arith, demo_rows_are, shown, ran, played, settings_are)

      -- which is read back once it has ended
      reads_back : is_ended n.phase ≡ true
          → IsReadAs n.demo.bytes (Ok (demo_made rules.players settings inputs p n.ran))
      reads_back over =
          let back = read_back rules.limits p n m settings shown played (settings_are played)
          (ap is_ended (sym shown.stands.phase) ∙ over) in
          grind (arith, demo_rows_are, back)

  -- an end that is known
  ends : (p q end : ℕ) → p < rules.players → q < rules.players → end_in (locksteps p) q ≡ Some end
      → (end_in (locksteps q) q ≡ Some end) × (end ≡ made (locksteps q))
  ends p q end l m h =
      let told = agree.ends p q end l m (grind (arith, shown)) in
      (own_end q m told.0 ∙ ap (λ (k : ℕ). Some k) (sym told.1), told.1 ∙ sym (makes q m))

  pub agreed : AreAgreed rules.limits settings inputs locksteps
  agreed = record {
    numbers = λ p l. (shown p l).whose.number;
    several = λ p l. (shown p l).whose.players;
    playing = λ p l e. starts p l ((kept.sound p l).playing (sym (shown p l).stands.phase ∙ e));
    settings_same = λ p l begun. (shown p l).stands.settings ∙ settings_are p l (played p l begun);
    demos = demos_of rules.players settings inputs locksteps text_is (λ p l. (shown p l).whose.players);
    read_back = reads_back;
    counted = λ p l. makes p l ∙ kept.from_inputs.counted p l;
    told = λ p player tic c l e. told_by p l player tic c e;
    told_same = λ p q player tic a b l m e f. told_is p l player tic a e ∙ sym (told_is q m player tic b f);
    consistent = grind (arith, shown);
    ends = ends;
    ends_same = grind (arith, ends);
    run = grind (arith, fits, end_until, ran, has);
    unread = λ p q l m. omega (arith, ran p l, has p l q m, fits.unread p q l m);
    held = λ p q l m. omega (arith, has p l q m, makes q m, fits.held p q l m);
    unheard = grind (arith, fits, playing_on, has, makes);
    ahead = λ p l. omega (arith, ran p l, makes p l, fits.ahead p l);
    close = grind (arith, fits, playing_on, makes);
    most = λ p l fit. omega (arith, ran p l, fits.most p l fit);
  }
