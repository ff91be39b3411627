-- What a history says of its game.
use Rattle.std.proofs.Common.{◌≡◌, ℕ, ℤ, ◌+◌, ◌-◌, ◌<◌, pos, take, ltb, refl, sym, ◌∙◌, ap, arith, inl, List, [], ◌∷◌, length, get_or, drop, ◌≤◌, inr, nat_lt, Some, slice_get, Bool, true, false, Option, None, if◌then◌else◌, take_while}
use Rattle.std.proofs.lemmas.{Bool.cases_lt, Bool.cond-true, Bool.cond-false, Bool.lt-ltb, Bool.le-ltb, List.get_or-take, List.Folds.length-prefix_len, List.Prefix.front_from_reads, Option.same_Some, Option.slice_get-get_or}
use Rattle.dn_tic.specs.{declared.command.{TicCmd.TicCmd, Move.Move}, Inputs.made_by}
use Rattle.dn_setup.specs.Settings.{Settings}
use Rattle.dn_machine.specs.{Promise.IsPrefixOf, Worlds.Rules, Worlds.world_after, Running.is_over}
use Rattle.dn_machine.specs.Node.{Node, blank, held_at, made, own_mark, ran, is_whole, lacks, demo_rows}
use Rattle.dn_machine.proofs.Demos.{front_each, front_passes, front_short, none_is, seat_is, whole_has}
use Rattle.dn_machine.proofs.Truth.{lowest_none_each}
use Rattle.dn_remain.specs.{Vanished.Promise.Agree, Vanished.Promise.Fits, Vanished.Promise.lacks_at, Vanished.Commands.Holder, Vanished.Commands.seen, Vanished.Commands.past_seen, Wary.reached, Wary.end_seen}
use Rattle.dn_remain.specs.{Wary.now_of, Wary.row_had, Remaining.Remaining, Promise.IsPair, Promise.AgreeInPairs, Vanished.Node.Was, Remaining.Telling, Promise.FitsInPairs}
use Rattle.dn_remain.proofs.{Vanished.Always.always, Vanished.Windows.fits, Vanished.Handing.handed, Vanished.Handing.same_held, Vanished.Always.agree, Seeing.length_rows, Seeing.none_over, Seeing.same_row}
use Rattle.dn_remain.proofs.{Followed.IsFollowed, Followed.anchored, Checks.mark_is, Marked.fronts_same, Marked.world_same, Reached.IsReached, Vanished.Handing.was_seen}
use Rattle.dn_remain.proofs.Known

front_at : (test : List (Option Move) → Bool) (rows : List (List (Option Move))) (tic : ℕ)
    → tic < length (take_while test rows) → get_or (take_while test rows) tic [] ≡ get_or rows tic []
front_at test rows tic l = grind (arith, length-prefix_len, get_or-take)

module _ {S : Type 0} (rules : Rules S) (settings : Settings) (all : Remaining) (older : List (ℕ → Holder TicCmd))
    (h : IsReached rules settings all older) where
  abbrev past : List (ℕ → Holder TicCmd)
  past = now_of all.game all.gone ∷ older

  abbrev node : ℕ → Node
  node = all.game.nodes

  abbrev now : ℕ → Holder TicCmd
  now = now_of all.game all.gone

  abbrev demo : ℕ → List (List (Option Move))
  demo q = demo_rows rules.players (node q)

  abbrev f : IsFollowed Known.known rules all older
  f = h.followed

  agreed : Agree rules.players (past_seen past)
  agreed = agree rules.players (past_seen past) (always rules.players rules.ahead (past_seen past) f.follows.run)

  fitted : Fits rules.players rules.ahead (past_seen past)
  fitted = fits rules.players rules.ahead (past_seen past) f.follows.run

  long : (q : ℕ) → length ((now q).rows) ≡ ran (node q)
  long q = length_rows (end_seen (node q)) (ran (node q))

  row_at : (q tic : ℕ) → tic < ran (node q) → slice_get (node q).rows tic ≡ Some (row_had rules.limits (now q) tic)
  row_at q tic l = slice_get-get_or (node q).rows tic [] l
      ∙ ap (λ (r : List (Option Move)). Some r) (f.follows.rows q tic l)

  -- a row of a demo lacks nobody
  whole_at : (q tic p : ℕ) → tic < length (demo q) → p < rules.players → lacks_at (seen (now q)) tic p ≡ false
  whole_at q tic p l m =
      let short = front_short (is_whole rules.players) (node q).rows in
      let a = long q in
      let whole : is_whole rules.players (row_had rules.limits (now q) tic) ≡ true = grind (arith, front_passes) in
      ((always rules.players rules.ahead (past_seen past) f.follows.run).sound q (seen (now q)) (inl refl)).rows
      p tic m (omega arith) ∙ (sym (none_over (is_over (end_seen (node q) p) tic)
      (get_or ((node q).held p) tic blank)) ∙ whole_has rules.players
      (λ r. if is_over (end_seen (node q) r) tic then None else Some (get_or ((node q).held r) tic blank)) whole
      p m)

  demo_at : (q tic : ℕ) → tic < length (demo q) → get_or (demo q) tic [] ≡ row_had rules.limits (now q) tic
  demo_at q tic l = grind (arith, front_short, front_at, f)

  demo_begins : (q r : ℕ) → length (demo q) ≤ length (demo r) → IsPrefixOf (demo q) (demo r)
  demo_begins q r l = (
    drop (length (demo q)) (demo r),
    sym (front_from_reads [] (demo r) (demo_rows rules.players (node q)) l (λ tic m.
        let a = long q in
        let b = long r in
        let s = front_short (is_whole rules.players) (node q).rows in
        let t = front_short (is_whole rules.players) (node r).rows in
        let n : tic < length (demo r) = omega arith in
        demo_at r tic n ∙ (same_row rules.limits past f.follows.handed f.follows.run r q (now r) (now q)
        (inl refl) (inl refl) tic (omega arith) (omega arith) (λ p o. whole_at r tic p n o ∙ sym
        (whole_at q tic p m o)) ∙ sym (demo_at q tic m)))),
  )

  -- the rows of a pair
  pair_row : (q r tic : ℕ) → IsPair rules.limits all q r → tic < ran (node q) → tic < ran (node r)
      → row_had rules.limits (now q) tic ≡ row_had rules.limits (now r) tic
  pair_row q r tic k l m =
      let a = long q in
      let b = long r in
      let i : tic < length ((now q).rows) = omega arith in
      let j : tic < length ((now r).rows) = omega arith in
      same_row rules.limits past f.follows.handed f.follows.run q r (now q) (now r) (inl refl) (inl refl) tic i
      j (λ p n. agreed.rows_same q r p tic (seen (now q)) (seen (now r)) k.one k.other n k.apart (inl refl)
      (inl refl) k.here k.there i j)

  -- a mark that a player's own command carries is that of its own world
  own_world_mark : (p tic : ℕ) → p < rules.players → rules.ahead ≤ 12 → tic < made p (node p)
      → own_mark (node p) p tic ≡ (if nat_lt tic 12 then pos 0
      else rules.physics.mark (world_after rules settings (node p).rows (tic - 12)) p)
  own_world_mark p tic l low m = elim (cases_lt tic 12) [
    | inl early ↦ cond-true (ltb tic 12) _ _ (lt-ltb tic 12 early)
        ∙ sym (cond-true (ltb tic 12) _ _ (lt-ltb tic 12 early))
    | inr late ↦
        let a = fitted.own p (seen (now p)) (inl refl) in
        let b = long p in
        let none : end_seen (node p) p ≡ None =
        ap (λ (o : Option ℕ). reached (length ((node p).held p)) o) (f.follows.endless p) in
        cond-false (ltb tic 12) _ _ (le-ltb tic 12 late)
        ∙ ((h.marked p).told p (tic - 12) l (omega arith) (ap (λ (o : Option ℕ). is_over o (tic - 12)) none)
        ∙ sym (cond-false (ltb tic 12) _ _ (le-ltb tic 12 late)))
  ]

  compared : (q p tic : ℕ) → q < rules.players → p < rules.players → rules.ahead ≤ 12
      → all.gone q p ≡ false → is_over (end_seen (node q) p) tic ≡ false → 12 ≤ tic
      → tic < ran (node q) → (held_at (node q) p tic).mark
      ≡ rules.physics.mark (world_after rules settings (node q).rows (tic - 12)) p
  compared q p tic mine its low open_from over late ran_it =
      let a = long q in
      let i : tic < length ((now q).rows) = omega arith in
      let present : lacks_at (seen (now q)) tic p ≡ false =
      agreed.without q p tic (seen (now q)) (inl refl) its i ∙ over in
      mark_is rules settings all.game all.gone older (anchored Known.known rules all older h.followed)
      h.marked low q mine p its tic late (agreed.rows_held q p tic (seen (now q)) (inl refl) its i present)
      (omega arith) past f.follows.handed f.follows.run (λ x. inl refl) (now q) (inl refl) i present
      (λ back. refl) (inl open_from)

  pub pairs_agree : AgreeInPairs rules settings all
  pairs_agree = record {
    rows = row_at;
    has_all = λ q p a s. agreed.has_all q p a (seen (now q)) (inl refl) s;
    same = grind (arith, row_at, pair_row);
    worlds = λ q r tic k l m. world_same rules settings (node q).rows (node r).rows tic
        (fronts_same (node q).rows (node r).rows [] tic l m (λ back o. f.follows.rows q back (omega arith)
        ∙ (pair_row q r back k (omega arith) (omega arith) ∙ sym (f.follows.rows r back (omega arith)))));
    marks = λ q p tic l m n o. (h.marked q).told p tic m n o;
    counted = λ p l. (h.marked p).counted;
    own = λ p tic l low m. (h.marked p).own low tic m
        ∙ ap (λ (z : ℤ). made_by (take (tic + 1) (node p).inputs) z) (own_world_mark p tic l low m);
    compared = compared;
    demo_whole = λ q p tic l m. lowest_none_each rules.players (lacks (get_or (demo q) tic []))
        (none_is _ (front_each (is_whole rules.players) (node q).rows tic [] m)) p l;
    ends_same = λ q r p a b k s t. agreed.ends_same q r p a b (seen (now q))
        (seen (now r)) k.one k.other k.apart (inl refl) (inl refl) k.here k.there s t;
    at_least = λ q r p a k s. agreed.at_least q r p a (seen (now q))
        (seen (now r)) k.one k.other k.apart (inl refl) (inl refl) k.here k.there s;
    without = grind (arith, long, seat_is, none_over);
    at_most = λ q p a s. agreed.at_most q p a (seen (now q)) (inl refl) s;
    held = λ q r p tic l m. same_Some _ _ (sym (slice_get-get_or ((node q).held p) tic blank l)
        ∙ (same_held past f.follows.handed q r p tic (now q) (now r) (inl refl) (inl refl) l m
        ∙ slice_get-get_or ((node r).held p) tic blank m));
    demos = λ q r. elim (cases_lt (length (demo q))
        (length (demo r))) [
          | inl l ↦ inl (demo_begins q r (omega arith))
          | inr l ↦ inr (demo_begins r q l)
        ];
    begins = λ q p. handed past f.follows.handed q p (now q) (inl refl);
  }

-- Of each player at most twice the window is unread, and a demo has the room that it needs.
module _ {S : Type 0} (rules : Rules S) (settings : Settings) (all : Remaining) (older : List (ℕ → Holder TicCmd))
    (h : IsReached rules settings all older) where
  windows : Fits rules.players rules.ahead (past_seen (now_of all.game all.gone ∷ older))
  windows = fitted rules settings all older h

  ran_is : (q : ℕ) → length ((now_of all.game all.gone q).rows) ≡ ran (all.game.nodes q)
  ran_is q = long rules settings all older h q

  -- a tic of a demo was run with each player's command
  least : (q p : ℕ) → p < rules.players
      → length (demo_rows rules.players (all.game.nodes q)) ≤ made p (all.game.nodes p)
  least q p l = elim (cases_lt (made p (all.game.nodes p)) (length (demo_rows rules.players
      (all.game.nodes q)))) [
        | inr m ↦ m
        | inl m ↦
            let a = front_short (is_whole rules.players) (all.game.nodes q).rows in
            let b = ran_is q in
            let c = (agreed rules settings all older h).rows_held q p (made p (all.game.nodes p))
            (seen (now_of all.game all.gone q)) (inl refl) l (omega arith)
            (whole_at rules settings all older h q (made p (all.game.nodes p)) p m l) in
            let d = windows.held q p (seen (now_of all.game all.gone q)) (inl refl) in
            absurd (omega arith)
      ]

  -- a report tells a state that its sender was in
  report_was : (which : ℕ) (t : Telling) → slice_get all.reports which ≡ Some t
      → Was (past_seen (now_of all.game all.gone ∷ older)) t.from (seen t.report)
  report_was which t e = grind (arith, was_seen)

  pub pairs_fit : FitsInPairs rules.limits all
  pairs_fit = record {
    run = λ q p l none.
        let a = ran_is q in
        let b = windows.run q p (seen (now_of all.game all.gone q)) (inl refl) l none in
        omega arith;
    unread = λ q p l.
        let a = ran_is q in
        let b = windows.unread q p (seen (now_of all.game all.gone q)) l (inl refl) in
        omega arith;
    held = λ q p. windows.held q p (seen (now_of all.game all.gone q)) (inl refl);
    own = λ p.
        let a = ran_is p in
        let b = windows.own p (seen (now_of all.game all.gone p)) (inl refl) in
        omega arith;
    close = λ q p l e g. windows.close q p p (seen (now_of all.game all.gone p)) l e (inl refl) g;
    overrun = λ q r p l e g.
        let a = ran_is q in
        let b = windows.overrun q r p (seen (now_of all.game all.gone r)) l e (inl refl) g in
        omega arith;
    sent = λ which flight e here.
        let told = h.followed.follows.flights which flight e in
        let a = ran_is flight.to in
        let b = windows.overrun flight.to told.by flight.from (seen told.state) told.receiver here
        (was_seen (now_of all.game all.gone ∷ older) told.by told.state told.had) told.open_to in
        omega (arith, told.reaches);
    told = λ which p t e here.
        let a = ran_is t.to in
        let k = h.told which t e in
        omega (arith, windows.overrun t.to t.from p (seen t.report) k.0 here (report_was which t e) k.1);
    untold = λ which p t e l here none.
        let k = h.told which t e in
        windows.unended t.to t.from p (seen t.report) k.0 l here (report_was which t e) k.1 none;
    unheard = λ q r p k l e. windows.unheard q r p (seen (now_of all.game all.gone r)) k.one k.other l k.apart e
        k.here (inl refl) k.there;
    room = λ q. (h.marked q).room;
    least = least;
    most = λ q. (h.marked q).most;
  }
