-- What the survivors of one game tell of themselves agrees, since the nodes that they represent do.
use Rattle.std.proofs.Common.{◌≡◌, ◌≢◌, ◌<◌, ◌≤◌, ℕ, ◌+◌, ℤ, pos, true, false, List, [], ◌++◌, length, take, get_or, Option, Some, None, refl, ap, sym, ◌∙◌, subst, arith, inl, inr, ◌⊎◌, if◌then◌else◌, slice_get, Ok, take_while, option_map}
use Rattle.std.proofs.lemmas.Bool.{cases_Bool, cases_eq, cond-true, cond-false, lt-leb, ne_eqb}
use Rattle.std.proofs.lemmas.Option.{none-some, same_Some, slice_get-get_or}
use Rattle.dn_tic.specs.{Command.used, Inputs.made_by, declared.{command.{Move.Move, TicCmd.TicCmd}, input.Input.Input}}
use Rattle.dn_setup.specs.Settings.{Settings, start_of}
use Rattle.dn_demo.specs.{Layout.long_tics, Reading.{IsReadAs, written_demo}, Text.{commands_of, demo_text}}
use Rattle.dn_machine.specs.{Limits.Limits, Node.demo_rows, Node.ends_of, Node.has_left, Node.held_at, Node.is_ended, Node.is_whole, Node.lacks, Promise.IsPrefixOf, Running.is_over}
use Rattle.dn_machine.proofs.Demos.{front_passes, front_short}
use Rattle.dn_lockstep.specs.{Contents.{Contents, end_in}, Agreed.recorded, Marking.Marking, Rows.seats_of}
use Rattle.dn_lockstep.specs.Told.{HasStarted, command_told, got, made}
use Rattle.dn_lockstep.proofs.{Agreeing.own_marked, Moving.read_back, Seats.seats_whole}
use Rattle.dn_lockstep.proofs.DemosAgreeing.{AreFull, recorded_in_text, begun_or, commands_prefix, prefix_same}
use Rattle.dn_remain.specs.{Vanished.Commands.Holder, Promise.AgreeInPairs, Promise.FitsInPairs, Promise.SteadyInPairs, Remaining.wary_of, Wary.end_seen, Wary.reached, Wary.Report}
use Rattle.dn_remain.proofs.{Promises.pairs_fit, Marked.fronts_same, Promises.pairs_agree, Reached.IsReached, Seeing.reached_cases, Seeing.reached_some, Steady.pairs_steady}
use Rattle.dn_survivor.specs.{OfOthers.count_told, Agreed.AreAgreedInPairs, Agreed.FitInPairs, Agreed.IsPair, Agreed.move_told, Agreed.row_without, Agreed.DemosAgreeInPairs, Agreed.is_closed, Agreed.rows_whole}
use Rattle.dn_survivor.specs.{OneGame.AreRemaining, Represents.Represents, OneGame.Given, OneGame.Session, Surviving.Surviving, Surviving.end_settled, Surviving.has_given_up}
use Rattle.dn_survivor.proofs.{Lists.{front_at, row_alike, seat_there, used_same}, OneGame.rules}
use Rattle.dn_machine.specs.Node as machine
use Rattle.dn_lockstep.specs.Represents as lockstep
use Rattle.dn_lockstep.proofs.Shown
use Rattle.dn_remain.specs.Promise as pairs
use Rattle.dn_survivor.proofs.OneGame as game_of

none_recorded : (n : Contents) → n.demo.bytes ≡ [] → recorded n ≡ []
none_recorded n none = grind arith

module _ (marking : Marking) (limits : Limits) (settings : Settings) (session : Session)
    (game : AreRemaining marking limits settings session) where
  abbrev node : ℕ → machine.Node
  node = game.last.game.nodes

  pub known : (older : List (ℕ → Holder TicCmd)) × IsReached (rules marking limits settings) settings game.last older
  known = game_of.known marking limits settings game

  pub agree : AgreeInPairs (rules marking limits settings) settings game.last
  agree = pairs_agree (rules marking limits settings) settings game.last known.0 known.1

  pub fits : FitsInPairs limits game.last
  fits = pairs_fit (rules marking limits settings) settings game.last known.0 known.1

  pub steady : SteadyInPairs limits game.last
  steady = pairs_steady (rules marking limits settings) settings game.last known.0 known.1 game.window

  -- one survivor
  module _ (q : ℕ) (mine : q < limits.players) where
    abbrev now : Surviving
    now = session.survivors q

    abbrev n : Contents
    n = (session.survivors q).lockstep

    abbrev m : machine.Node
    m = node q

    shown : Represents limits q now (wary_of game.last q)
    shown = game.nodes q mine

    here : lockstep.Represents limits q n m
    here = shown.node

    ran : n.ran ≡ machine.ran m
    ran = here.table.ran

    has : (p : ℕ) → p < limits.players → got n p ≡ machine.got m p
    has = Shown.has limits q n m here

    makes : made n ≡ machine.made q m
    makes = Shown.makes limits q n m here mine

    gone_is : (p : ℕ) → p < limits.players → has_given_up now p ≡ game.last.gone q p
    gone_is p low = shown.others.given_up p low

    -- who has not ended
    playing_on : is_ended n.phase ≡ false → has_left m ≡ false
    playing_on on = grind (arith, here)

    -- its own end, and another's
    own_end : end_in n q ≡ (if has_left m then Some (machine.made q m) else None)
    own_end = Shown.own_end_is limits q n m here mine

    other_end : (p : ℕ) → p < limits.players → p ≢ q → end_in n p ≡ ends_of m p
    other_end p low apart = Shown.end_is limits q n m here mine p low ∙ cond-false _ _ _ (ne_eqb p q apart)

    -- the node knows no end of its own
    endless : end_seen m q ≡ None
    endless = ap (reached (machine.got m q)) (known.1.followed.follows.endless q)

    settled_other : (p : ℕ) → p < limits.players → p ≢ q → end_settled now p ≡ end_seen m p
    settled_other p low apart = λ i. reached (has p low i) (other_end p low apart i)

    settled_own : (a : ℕ) → end_settled now q ≡ Some a → (has_left m ≡ true) × (a ≡ machine.made q m)
    settled_own a is = grind (arith, has, own_end, same_Some, reached_some, cond-true, none-some, cond-false)

    -- a tic that it ran is over for a player, as it tells it, just where it is for the node
    ran_all : machine.ran m ≤ machine.made q m
    ran_all = fits.run q q mine endless

    over_own : (tic : ℕ) → tic < machine.ran m → (o : Option ℕ) → end_settled now q ≡ o → is_over o tic ≡ false
    over_own tic low o is = grind (arith, settled_own, lt-leb, ran_all)

    over_is : (p tic : ℕ) → p < limits.players → tic < machine.ran m
        → is_over (end_settled now p) tic ≡ is_over (end_seen m p) tic
    over_is p tic low early = grind (arith, settled_other, over_own, endless)

    -- a command that the node has is the one that the player's inputs make
    held_is : (p tic : ℕ) → p < limits.players → tic < machine.got m p
        → (mark : ℤ) × (held_at m p tic ≡ made_by (take (tic + 1) (session.inputs p)) mark)
    held_is p tic low early =
        let most = fits.held q p in
        let there : tic < machine.made p (node p) = omega (arith, most, early) in
        by_mark there _ (agree.own p tic low game.window.back there)
      where
        by_mark : tic < machine.made p (node p) → (mark : ℤ)
            → held_at (node p) p tic ≡ made_by (take (tic + 1) (node p).inputs) mark
            → (mark : ℤ) × (held_at m p tic ≡ made_by (take (tic + 1) (session.inputs p)) mark)
        by_mark there mark is = (
          mark,
          agree.held q p p tic early there
              ∙ (is ∙ ap (λ (inputs : List Input). made_by (take (tic + 1) inputs) mark) (game.inputs p)),
        )

    -- a command of a tic that was run with the player is there
    present : (p tic : ℕ) → p < limits.players → tic < machine.ran m → is_over (end_seen m p) tic ≡ false
        → tic < machine.got m p
    present p tic low early stays = by_end (end_seen m p) refl stays
      where
        by_end : (o : Option ℕ) → end_seen m p ≡ o → is_over o tic ≡ false → tic < machine.got m p
        by_end None is free = let all_run = fits.run q p low is in omega (arith, all_run, early)
        by_end (Some e) is free =
            let full = agree.has_all q p e is in
            let before : tic < e = grind (arith, free) in
            omega (arith, full, before)

    -- so the row of a tic is that of the inputs
    row_is : (tic : ℕ) → tic < n.ran
        → slice_get (session.told q) tic ≡ Some (row_without limits.players session.inputs now tic)
    row_is tic early =
        let low : tic < machine.ran m = omega (arith, early, ran) in
        ap (λ (rows : List (List (Option Move))). slice_get rows tic) (sym (game.rows q))
        ∙ (agree.rows q tic low
        ∙ ap (λ (r : List (Option Move)). Some r) (row_alike limits.players _ _ (λ p its. seat p its low)))
      where
        seat : (p : ℕ) → p < limits.players → tic < machine.ran m
            → option_map used (if is_over (end_seen m p) tic then None else Some (held_at m p tic))
            ≡ option_map used (if is_over (end_settled now p) tic then None
            else Some (made_by (take (tic + 1) (session.inputs p)) (pos 0)))
        seat p its low =
            let same = over_is p tic its low in
            elim (cases_Bool (is_over (end_seen m p) tic)) [
              | inl over ↦ let both = same ∙ over in rw (over, both) refl
              | inr stays ↦
                  let both = same ∙ stays in
                  let made_so = held_is p tic its (present p tic its low stays) in
                  rw (stays, both) (ap (λ (c : TicCmd). Some (used c)) made_so.1
                  ∙ ap (λ (s : Move). Some s) (used_same (take (tic + 1) (session.inputs p)) made_so.0 (pos 0)))
            ]

    told_held : (p tic : ℕ) (c : TicCmd) → command_told n p tic ≡ Some c
        → (p < limits.players) × (tic < machine.got m p) × (c ≡ held_at m p tic)
    told_held p tic c e = Shown.tells_held limits q n m here p tic c e

    told_is : (p tic : ℕ) (c : TicCmd) → command_told n p tic ≡ Some c
        → c ≡ made_by (take (tic + 1) (session.inputs p)) c.mark
    told_is p tic c e =
        let told = told_held p tic c e in
        let made_so = held_is p tic told.0 told.1 in
        own_marked (take (tic + 1) (session.inputs p)) made_so.0 c (told.2 ∙ made_so.1)

    -- the ends
    all_had : (p a : ℕ) → p < limits.players → end_settled now p ≡ Some a → got n p ≡ a
    all_had p a low is = elim (cases_eq p q) [
      | inr apart ↦ has p low ∙ agree.has_all q p a (sym (settled_other p low apart) ∙ is)
      | inl same ↦ grind (arith, settled_own, has)
    ]

    -- of a player whom it has not given up
    ends_own : (p a : ℕ) → p < limits.players → has_given_up now p ≡ false → end_in n p ≡ Some a → p ≢ q
        → (has_left (node p) ≡ true) × (a ≡ machine.made p (node p))
    ends_own p a low free is apart =
        let end = known.1.followed.follows.ends q p a (sym (other_end p low apart) ∙ is)
        (sym (gone_is p low) ∙ free) in
        (end.1, end.3)

    -- what has started
    settings_are : m.played ≡ true → m.settings ≡ Some settings
    settings_are = (known.1.set.nodes q).played

    starts : m.played ≡ true → HasStarted n
    starts played = Shown.starts limits q n m here settings played (settings_are played)

    whole_is : demo_rows limits.players m ≡ rows_whole limits.players session q
    whole_is = ap (take_while (is_whole limits.players)) (game.rows q)

    module _ (begun : HasStarted n) where
      played : m.played ≡ true
      played = Shown.started limits q n m here begun

      text_is : n.demo.bytes ≡ demo_text long_tics (start_of settings) q (seats_of limits.players)
          (rows_whole limits.players session q) (is_closed limits.players session q n)
      text_is = grind (arith, whole_is, here, ran, played, settings_are)

      reads_back : is_ended n.phase ≡ true → IsReadAs n.demo.bytes
          (Ok (written_demo long_tics (start_of settings) q (seats_of limits.players)
          (rows_whole limits.players session q)))
      reads_back over =
          subst (λ (rows : List (List (Option Move))). IsReadAs n.demo.bytes
          (Ok (written_demo long_tics (start_of settings) q (seats_of limits.players) rows))) whole_is
          (read_back limits q n m settings here played (settings_are played)
          (ap is_ended (sym here.stands.phase) ∙ over))

      full : AreFull limits.players (rows_whole limits.players session q)
      full k low = grind (arith, front_short, ran, same_Some, slice_get-get_or, row_is, front_passes, shown, front_at, seats_whole)

      recorded_is : recorded n ≡ commands_of long_tics (rows_whole limits.players session q)
      recorded_is = grind (arith, text_is, recorded_in_text, full)

  -- a pair
  pair_is : (q r : ℕ) → IsPair limits session.survivors q r → pairs.IsPair limits game.last q r
  pair_is q r k = grind (arith, here, gone_is)

  turned : (q r : ℕ) → IsPair limits session.survivors q r → IsPair limits session.survivors r q
  turned q r k = grind (arith, here)

  same_rows : (q r tic : ℕ) → IsPair limits session.survivors q r → tic < (session.survivors q).lockstep.ran
      → tic < (session.survivors r).lockstep.ran → slice_get (session.told q) tic ≡ slice_get (session.told r) tic
  same_rows q r tic k l o = grind (arith, agree, pair_is, ran)

  length_is : (q : ℕ) → q < limits.players → (session.survivors q).lockstep.ran ≡ length (session.told q)
  length_is q mine = ran q mine ∙ ap (length {A = List (Option Move)}) (game.rows q)

  fronts : (q r tic : ℕ) → IsPair limits session.survivors q r → tic ≤ (session.survivors q).lockstep.ran
      → tic ≤ (session.survivors r).lockstep.ran → take tic (session.told q) ≡ take tic (session.told r)
  fronts q r tic k l o =
      let a = length_is q k.one in
      let b = length_is r k.other in
      fronts_same (session.told q) (session.told r) [] tic (omega (arith, l, a)) (omega (arith, o, b))
      (λ back early.
      same_Some _ _ (sym (slice_get-get_or (session.told q) back [] (omega (arith, early, l, a)))
      ∙ (same_rows q r back k (omega (arith, early, l)) (omega (arith, early, o))
      ∙ slice_get-get_or (session.told r) back [] (omega (arith, early, o, b)))))

  -- the move of a player who is there
  move_is : (q p tic : ℕ) → q < limits.players → p < limits.players → tic < (session.survivors q).lockstep.ran
      → lacks (get_or (session.told q) tic []) p ≡ false
      → move_told session q tic p ≡ Some (used (made_by (take (tic + 1) (session.inputs p)) (pos 0)))
  move_is q p tic mine its low there =
      let size = length_is q mine in
      let few = (shown q mine).few in
      let at : get_or (session.told q) tic [] ≡ row_without limits.players session.inputs (session.survivors q) tic = grind (arith, same_Some, slice_get-get_or, row_is) in
      ap (λ (row : List (Option Move)). get_or row p None) at
      ∙ seat_there limits.players (is_over (end_settled (session.survivors q) p) tic) _ _ p
      (omega (arith, its, few)) its refl (ap (λ (row : List (Option Move)). lacks row p) (sym at) ∙ there)

  ends_alike : (q r p a b : ℕ) → IsPair limits session.survivors q r → p < limits.players
      → end_settled (session.survivors q) p ≡ Some a → end_settled (session.survivors r) p ≡ Some b → a ≡ b
  ends_alike q r p a b k its s t = elim (cases_eq p q) [
    | inl same ↦ own_of q r p a b k its s t same
    | inr apart ↦ elim (cases_eq p r) [
      | inl same ↦ sym (own_of r q p b a (turned q r k) its t s same)
      | inr other ↦ agree.ends_same q r p a b (pair_is q r k) (sym (settled_other q k.one p its apart) ∙ s)
          (sym (settled_other r k.other p its other) ∙ t)
    ]
  ]
    where
      end_told : (r p b : ℕ) → end_settled (session.survivors r) p ≡ Some b
          → end_in (session.survivors r).lockstep p ≡ Some b
      end_told r p b t = grind (arith, reached_cases, end_in, none-some)

      own_of : (q r p a b : ℕ) → IsPair limits session.survivors q r → p < limits.players
          → end_settled (session.survivors q) p ≡ Some a → end_settled (session.survivors r) p ≡ Some b → p ≡ q
          → a ≡ b
      own_of q r p a b k its s t same =
          let own = settled_own q k.one a (ap (end_settled (session.survivors q)) (sym same) ∙ s) in
          let told = ends_own r k.other q b k.one k.there
          (ap (end_in (session.survivors r).lockstep) (sym same) ∙ end_told r p b t) k.apart in
          own.1 ∙ sym told.1

  pub agreed : AreAgreedInPairs limits settings session
  agreed = record {
    numbers = λ p l. (here p l).whose.number;
    several = λ p l. (here p l).whose.players;
    playing = λ p l e. starts p l ((known.1.set.nodes p).plays (sym (here p l).stands.phase ∙ e));
    settings_same = λ p l begun. (here p l).stands.settings ∙ settings_are p l (played p l begun);
    ran = length_is;
    rows = λ q tic l early. row_is q l tic early;
    same = same_rows;
    worlds = fronts;
    moves_same = λ q r p tic l o its early soon there here'.
        move_is q p tic l its early there ∙ sym (move_is r p tic o its soon here');
    counted = λ p l. makes p l ∙ (sym (agree.counted p l) ∙ ap (length {A = Input}) (game.inputs p));
    told = λ q player tic c l e. told_is q l player tic c e;
    told_same = λ q r player tic a b l o e f.
        let one = told_held q l player tic a e in
        let other = told_held r o player tic b f in
        one.2 ∙ (agree.held q r player tic one.1 other.1 ∙ sym other.2);
    ends_same = ends_alike;
    has_all = λ q p a l its is. all_had q l p a its is;
    at_least = least;
    at_most = λ q p a l its is.
        let all_there = all_had q l p a its is in
        let most = fits.held q p in
        omega (arith, all_there, has q l p its, makes p its, most);
    ends = own_ends;
    consistent = λ p player was should l e.
        steady.consistent p player was should l (sym (here p l).stands.phase ∙ e);
  }
    where
      least : (q r p a : ℕ) → IsPair limits session.survivors q r → p < limits.players
          → end_settled (session.survivors q) p ≡ Some a → got (session.survivors r).lockstep p ≤ a
      least q r p a k its is = elim (cases_eq p q) [
        | inr apart ↦
            let low = agree.at_least q r p a (pair_is q r k) (sym (settled_other q k.one p its apart) ∙ is) in
            omega (arith, low, has r k.other p its)
        | inl same ↦
            let own = settled_own q k.one a (ap (end_settled (session.survivors q)) (sym same) ∙ is) in
            let most : machine.got (node r) p ≤ machine.made q (node q) =
            subst (λ (x : ℕ). machine.got (node r) x ≤ machine.made q (node q)) (sym same) (fits.held r q) in
            omega (arith, own.1, most, has r k.other p its)
      ]

      own_ends : (q p a : ℕ) → q < limits.players → p < limits.players
          → has_given_up (session.survivors q) p ≡ false → end_in (session.survivors q).lockstep p ≡ Some a
          → end_in (session.survivors p).lockstep p ≡ Some a
      own_ends q p a l its free is = elim (cases_eq p q) [
        | inl same ↦ ap (λ (x : ℕ). end_in (session.survivors x).lockstep p) same ∙ is
        | inr apart ↦
            let end = ends_own q l p a its free is apart in
            own_end p its ∙ (cond-true (has_left (node p)) _ _ end.0 ∙ ap (λ (k : ℕ). Some k) (sym end.1))
      ]

  pub fitted : FitInPairs limits session
  fitted = record {
    run = ran_through;
    unread = λ q p l its.
        let f = fits.unread q p l in
        omega (arith, f, has q l p its, ran q l);
    held = λ q p l its.
        let f = fits.held q p in
        omega (arith, f, has q l p its, makes p its);
    ahead = λ p l.
        let f = fits.own p in
        omega (arith, f, makes p l, ran p l);
    close = λ p q l o on free.
        let f = fits.close q p o (playing_on q o on) (sym (gone_is p l q o) ∙ free) in
        omega (arith, f, makes p l, makes q o);
    unheard = λ q r p k its on.
        let f = fits.unheard q r p (pair_is q r k) its (playing_on q k.one on) in
        omega (arith, f, has r k.other p its, has q k.one p its);
    packets = λ which packet at on.
        let there = game_of.given_there marking limits settings game which packet at in
        let to_it = (game_of.told_there marking limits settings game which packet at).receiver in
        let f = fits.sent which packet there (playing_on packet.to to_it on) in
        omega (arith, f, ran packet.to to_it);
    reports = told_of;
    most = λ p l room.
        let f = fits.most p room in
        omega (arith, f, ran p l);
  }
    where
      ran_through : (q p : ℕ) → q < limits.players → p < limits.players → end_settled (session.survivors q) p ≡ None
          → (session.survivors q).lockstep.ran ≤ got (session.survivors q).lockstep p
      ran_through q p l its is = elim (cases_eq p q) [
        | inr apart ↦
            let f = fits.run q p its (sym (settled_other q l p its apart) ∙ is) in
            omega (arith, f, has q l p its, ran q l)
        | inl same ↦ grind (arith, ran_all, has, ran)
      ]

      told_of : (which p : ℕ) (given : Given) → slice_get session.reports which ≡ Some given
          → p < limits.players → p ≢ given.to → p ≢ given.from
          → is_ended (session.survivors given.to).lockstep.phase ≡ false → count_told given.report.told.items p
          ≤ (session.survivors given.to).lockstep.ran + (limits.ahead + limits.ahead)
      told_of which p given at its not_to not_from on =
          let there = game_of.there_at marking limits settings game which given at in
          let to_it = (game_of.to_one marking limits settings game which given at).0 in
          let holder : Report = game_of.holder marking limits settings game which given at in
          let f = fits.told which p (record { from = given.from; to = given.to; report = holder }) there
          (playing_on given.to to_it on) in
          let told = (game_of.told_at marking limits settings game which given at).2.tells.count p its not_to
          not_from in
          omega (arith, f, told, ran given.to to_it)

  pub demos : DemosAgreeInPairs limits.players settings session
  demos = record { texts = text_is; read_back = reads_back; rows = rows_agree; commands = commands_agree }
    where
      rows_agree : (q r : ℕ) → q < limits.players → r < limits.players
          → IsPrefixOf (rows_whole limits.players session q) (rows_whole limits.players session r)
          ⊎ IsPrefixOf (rows_whole limits.players session r) (rows_whole limits.players session q)
      rows_agree q r l o = elim (agree.demos q r) [
        | inl front ↦ inl (prefix_same _ _ _ _ (sym (whole_is q l)) (sym (whole_is r o)) front)
        | inr front ↦ inr (prefix_same _ _ _ _ (sym (whole_is r o)) (sym (whole_is q l)) front)
      ]

      commands_agree : (q r : ℕ) → q < limits.players → r < limits.players
          → IsPrefixOf (recorded (session.survivors q).lockstep) (recorded (session.survivors r).lockstep)
          ⊎ IsPrefixOf (recorded (session.survivors r).lockstep) (recorded (session.survivors q).lockstep)
      commands_agree q r l o = elim (begun_or (session.survivors q).lockstep.demo.bytes) [
        | inr none ↦ inl (
          recorded (session.survivors r).lockstep,
          ap (λ (xs : List ℕ). xs ++ recorded (session.survivors r).lockstep)
              (none_recorded (session.survivors q).lockstep none),
        )
        | inl started ↦ elim (begun_or (session.survivors r).lockstep.demo.bytes) [
          | inr none ↦ inr (
            recorded (session.survivors q).lockstep,
            ap (λ (xs : List ℕ). xs ++ recorded (session.survivors q).lockstep)
                (none_recorded (session.survivors r).lockstep none),
          )
          | inl other ↦ elim (rows_agree q r l o) [
            | inl front ↦ inl (prefix_same _ _ _ _ (recorded_is q l started) (recorded_is r o other)
                (commands_prefix _ _ front))
            | inr front ↦ inr (prefix_same _ _ _ _ (recorded_is r o other) (recorded_is q l started)
                (commands_prefix _ _ front))
          ]
        ]
      ]
