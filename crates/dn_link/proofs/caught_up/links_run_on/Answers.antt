-- How many tics are run in rounds, over plain numbers.
use Rattle.std.proofs.Common.{◌≡◌, ◌<◌, ◌≤◌, ◌+◌, ◌-◌, ◌*◌, ℕ, zero, suc, subst, arith, inl, inr, ℤ, ◌≢◌, ◌++◌, [], ◌∷◌, Bool, true, false, List, length, refl, ap, sym, ◌∙◌, Option, None, Some}
use Rattle.std.proofs.{lemmas.{Bool.{cases_lt, and_parts, and_right, cases_eq, leb-false, leb-true, ne_eqb, not-true, true≢false}, List.length-append, Option.{none-some, same_Some}}, Math.Nat.{mul-zero, mul-suc}}
use Rattle.std.specs.{Prelude.{if◌then◌else◌, min, nat_le, not}}
use Rattle.dn_tic.specs.declared.{command.TicCmd.TicCmd, input.Input.Input}
use Rattle.dn_setup.specs.Settings.{Settings}
use Rattle.dn_remain.proofs.Steady.{lowest_passes}
use Rattle.dn_machine.specs.{Running.{is_absent, is_awaited, is_over}, Sparing.{on_run_but}, Sending.{lag, on_build}, Limits.Limits}
use Rattle.dn_machine.specs.{declared.answers.{Phase.{Phase, TheVariants.{Listening, Gathering, Playing, Ended}}, Ran.Ran}, Node.{is_ended, known_end, lowest, put}}
use Rattle.dn_machine.proofs.{Calls.build_cases, Put.{put_at, put_off}, Stages.lag_low}
use Rattle.dn_lockstep.specs.{Contents.{Contents, end_in}, Phases.is_waiting, Marking.Marking, Represents.Represents, Steps.marks_in, Told.{got, made}}
use Rattle.dn_survivor.specs.{OneGame.Session, Surviving.Surviving}
use Rattle.dn_lockstep.proofs.Shown.{end_is, has, own_end_is}
use Rattle.dn_seal.specs.declared.seal.Seal.{Seal}
use Rattle.dn_open.specs.Sealed.{sealing_of}
use Rattle.dn_link.specs.{CaughtUp.{AreCaughtUp, Brings, HasExit, HasGrown, IsInStepTo, last_end, next_to}, Rounds.{AreRounds, Arrives, AreFairLines, Datagrams, IsFairLine, MakesAt, Plays, Stretch, WaitsAt}, Counting.{has_ended, has_of, with_end}, Packets.own_in}
use Rattle.dn_link.specs.{declared.{bundle.Bundle.Bundle, received.Received.Received}, RemainingLinks.{AreRemainingLinks, IsGenuineIn}, Linked.{Gives, Linked, Receives, has_given_up}, Reading.IsDatagramOf}
use Rattle.dn_link.proofs.{Bringing.{brings, brings_on, sent}, Leaving.unended, Growing.has_is, Together.{AreTogether, together}}
use Rattle.dn_machine.specs.Node as machine
use Rattle.dn_link.proofs.Exiting as exit
use Rattle.dn_link.proofs.RemainingCalls as base
use Rattle.dn_link.proofs.caught_up.links_run_on.Goals as goal

-- of each round and player: how many commands it has made before its build and after it, how many tics it has
-- run then, and how many when it waits. In its delay-th round from a round on it has run what all had made in
-- that
module _ (Plays : ℕ → Type 0) (count delay ahead base : ℕ) (some : 1 ≤ delay) (room : 1 ≤ ahead)
    (had made begun ran : ℕ → ℕ → ℕ)
    (build : (r p : ℕ) → r < count → Plays p → min (had r p + 1) (begun r p + ahead) ≤ made r p)
    (own : (r p : ℕ) → r < count → Plays p → begun r p ≤ had r p)
    (on : (r p : ℕ) → r < count → Plays p → begun r p ≤ ran r p)
    (keeps : (r p : ℕ) → suc r < count → Plays p → made r p ≤ had (suc r) p)
    (waits : (r p : ℕ) → suc r < count → Plays p → ran r p ≤ begun (suc r) p)
    (runs : (s r bound : ℕ) → r < count → s + delay ≡ suc r → ((p : ℕ) → Plays p → bound ≤ made s p)
    → (q : ℕ) → Plays q → bound ≤ ran r q) where
  -- all have run one tic more in as many rounds as the delay
  goes_on : (s r least : ℕ) → r < count → s + delay ≡ suc r → ((p : ℕ) → Plays p → least ≤ begun s p)
      → (q : ℕ) → Plays q → least + 1 ≤ ran r q
  goes_on s r least below same all q l = runs s r (least + 1) below same (λ p in_game.
      let inside : s < count = omega (arith, below, same, some) in
      let one = build s p inside in_game in
      let low = all p in_game in
      let less = own s p inside in_game in
      omega (arith, one, low, less, room)) q l

  -- and so many more in so many times as many
  goes_further : (more s r least : ℕ) → r < count → s + delay * suc more ≡ suc r
      → ((p : ℕ) → Plays p → least ≤ begun s p) → (q : ℕ) → Plays q → least + suc more ≤ ran r q
  goes_further zero s r least below same all q l =
      let times = mul-suc delay 0 in
      let none = mul-zero delay in
      let one = goes_on s r least below (omega (arith, same, times, none)) all q l in
      omega (arith, one)
  goes_further (suc more) s r least below same all q l =
      let times = mul-suc delay (suc more) in
      let again = mul-suc delay more in
      let mid : ℕ = s + delay * suc more - 1 in
      let is : s + delay * suc more ≡ suc (s + delay * suc more - 1) = omega (arith, again, some) in
      let inside : suc (s + delay * suc more - 1) < count = omega (arith, times, same, below, again, some) in
      let low : (p : ℕ) → Plays p → least + suc more ≤ begun (suc (s + delay * suc more - 1)) p = (λ p in_game.
      let before = goes_further more s (s + delay * suc more - 1) least (omega (arith, inside)) is all p in_game in
      let wait = waits (s + delay * suc more - 1) p inside in_game in omega (arith, before, wait)) in
      let one = goes_on (suc (s + delay * suc more - 1)) r (least + suc more) below
      (omega (arith, times, same, again, some)) low q l in
      omega (arith, one)

  -- where the window is no smaller than the delay
  module _ (least : (p : ℕ) → 0 < count → Plays p → base ≤ begun 0 p) (fits : delay ≤ ahead) where
    low : (r p : ℕ) → r < count → Plays p → base ≤ begun r p
    low zero p below l = least p below l
    low (suc r) p below l =
        let before = low r p (omega (arith, below)) l in
        let then_on = on r p (omega (arith, below)) l in
        let wait = waits r p below l in
        omega (arith, before, then_on, wait)

    -- a command is made in each round up to this one
    abbrev Made : ℕ → Type 0
    Made r = (s p : ℕ) → s ≤ r → Plays p → base + suc s ≤ made s p

    -- so those that were made as many rounds before as the delay are run
    ran_so : (r : ℕ) → r < count → Made r → (s : ℕ) → s + delay ≡ suc r → (q : ℕ) → Plays q
        → base + suc s ≤ ran r q
    ran_so r below all s same q l = runs s r (base + suc s) below same (λ p l. all s p (omega (arith, same, some)) l) q l

    next_made : (r : ℕ) → suc r < count → Made r → (p : ℕ) → Plays p → base + suc (suc r) ≤ made (suc r) p
    next_made r below all p l =
        let one = build (suc r) p below l in
        let before = all r p (omega arith) l in
        let kept = keeps r p below l in
        let free : base + suc r + 1 ≤ begun (suc r) p + ahead = elim (cases_lt (suc r) delay) [
          | inl early ↦ let less = low (suc r) p below l in omega (arith, less, early, fits)
          | inr late ↦
              let run = ran_so r (omega (arith, below)) all (suc r - delay) (omega (arith, late)) p l in
              let wait = waits r p below l in
              omega (arith, run, wait, late, fits)
        ] in
        omega (arith, one, before, kept, free)

    made_so : (r : ℕ) → r < count → Made r
    made_so zero below s p less l =
        let one = build 0 p below l in
        let before = least p below l in
        let mine = own 0 p below l in
        let now : base + suc 0 ≤ made 0 p = omega (arith, one, before, mine, room) in
        let same : 0 ≡ s = omega (arith, less) in
        subst (λ (n : ℕ). base + suc n ≤ made n p) same now
    made_so (suc r) below s p less l = elim (cases_lt s (suc r)) [
      | inl before ↦ made_so r (omega (arith, below)) s p (omega (arith, before)) l
      | inr last ↦
          let same : suc r ≡ s = omega (arith, last, less) in
          subst (λ (n : ℕ). base + suc n ≤ made n p) same
          (next_made r below (made_so r (omega (arith, below))) p l)
    ]

    -- after r + 1 rounds all but as many tics are run as the delay, less one
    full_speed : (r q : ℕ) → r < count → Plays q → base + suc (suc r) ≤ ran r q + delay
    full_speed r q below l = elim (cases_lt (suc r) delay) [
      | inl early ↦
          let less = low r q below l in
          let more = on r q below l in
          omega (arith, early, less, more)
      | inr late ↦
          let run = ran_so r below (made_so r below) (suc r - delay) (omega (arith, late)) q l in
          omega (arith, run, late)
    ]

not_true : (test : Bool) → (test ≡ true → ⊥) → test ≡ false
not_true true none = absurd (none refl)
not_true false none = refl

-- numbers that rise
rises : (f : ℕ → ℕ) (count : ℕ) → ((k : ℕ) → suc k < count → f k ≤ f (suc k)) → (r s : ℕ) → s ≤ r → r < count
    → f s ≤ f r
rises f count next zero s less below =
    let same : 0 ≡ s = omega (arith, less) in subst (λ (n : ℕ). f n ≤ f 0) same (omega arith)
rises f count next (suc r) s less below = elim (cases_lt s (suc r)) [
  | inl before ↦
      let first = rises f count next r s (omega (arith, before)) (omega (arith, below)) in
      let last = next r below in
      omega (arith, first, last)
  | inr here ↦
      let same : suc r ≡ s = omega (arith, here, less) in subst (λ (n : ℕ). f n ≤ f (suc r)) same (omega arith)
]

-- the lowest that passes is below the bound
lowest_below : (bound : ℕ) (test : ℕ → Bool) (least : ℕ) → lowest bound test ≡ Some least → least < bound
unfolding lowest
lowest_below zero test least e = absurd (none-some least e)
lowest_below (suc bound) test least e = grind (arith, lowest_below bound test)

module _ (limits : Limits) (me : ℕ) (m : machine.Node) (plays : m.phase ≡ Playing) where
  -- a playing node makes a command, or is a window ahead
  build_makes : (input : Input) → min (length (m.held me) + 1) (machine.ran m + limits.ahead)
      ≤ length ((on_build limits me m input).0.held me)
  build_makes input = build_cases limits me m (λ (x : machine.Node). min (length (m.held me) + 1)
      (machine.ran m + limits.ahead) ≤ length (x.held me)) input (λ full. let less = full plays in omega
      (arith, less)) (λ playing free. longer m.held me _)
    where
      longer : (held : ℕ → List TicCmd) (me : ℕ) (one : TicCmd)
          → min (length (held me) + 1) (machine.ran m + limits.ahead) ≤ length (put held me (held me ++ one ∷ []) me)
      longer held me one = grind (arith, put_at, length-append)

  -- it waits for a player of whom it has run all commands, and not to the end
  abbrev IsLacked : ℕ → Type 0
  IsLacked other = (other < limits.players) × (length (m.held other) ≤ machine.ran m) × (is_absent m other ≡ false)

  waits_for : (gone : ℕ → Bool) (marks : ℕ → ℤ) (other : ℕ) → Ran.Waiting other ≡ (on_run_but limits gone m marks).1
      → lowest limits.players (is_awaited m) ≡ Some other
  unfolding on_run_but
  waits_for gone marks other e = grind arith

  run_waits : (gone : ℕ → Bool) (marks : ℕ → ℤ) (other : ℕ) → Ran.Waiting other ≡ (on_run_but limits gone m marks).1
      → IsLacked other
  run_waits gone marks other e =
      let is = waits_for gone marks other e in
      let both = and_parts (not (is_absent m other)) (nat_le (machine.got m other) (machine.ran m))
      (lowest_passes limits.players (is_awaited m) other is) in
      (lowest_below limits.players (is_awaited m) other is, leb-true (length (m.held other)) (machine.ran m) both.1, not-true (is_absent m other) both.0)

module _ {marking : Marking} {limits : Limits} {settings : Settings} {last : ℕ}
    (stretch : Stretch marking limits settings last) where
  abbrev links : ℕ → ℕ → Linked
  links = stretch.links

  -- one that has left had at each moment
  ended_then : (moment player : ℕ) → moment ≤ last → player < limits.players → stretch.left player ≡ true
      → has_ended (links moment player).node ≡ true
  ended_then zero player inside mine left = stretch.ended player mine left
  ended_then (suc moment) player inside mine left =
      (stretch.grows moment (omega (arith, inside))).ended player mine
      (ended_then moment player (omega (arith, inside)) mine left)

  -- and one that plays plays
  goes_then : (gap moment player : ℕ) → gap + moment ≡ last → player < limits.players → stretch.left player ≡ false
      → is_ended (links moment player).node.phase ≡ false
  goes_then zero moment player same mine stays =
      let at_last : last ≡ moment = omega (arith, same) in
      subst (λ (k : ℕ). is_ended (links k player).node.phase ≡ false) at_last (ap is_ended (stretch.plays player mine stays))
  goes_then (suc gap) moment player same mine stays =
      (stretch.grows moment (omega (arith, same))).goes_on player mine
      (goes_then gap (suc moment) player (omega (arith, same)) mine stays)

  plays_by : (phase : Phase) → is_ended phase ≡ false → is_waiting phase ≡ false → phase ≡ Playing
  plays_by Listening going on = absurd (true≢false on)
  plays_by Gathering going on = absurd (true≢false on)
  plays_by Playing going on = refl
  plays_by (Ended cause) going on = absurd (true≢false going)

  plays_then : (moment player : ℕ) → moment ≤ last → player < limits.players → stretch.left player ≡ false
      → (links moment player).node.phase ≡ Playing
  plays_then moment player inside mine stays =
      plays_by (links moment player).node.phase
      (goes_then (last - moment) moment player (omega (arith, inside)) mine stays)
      (ap (λ (s : Surviving). is_waiting s.lockstep.phase) ((stretch.are moment inside).survivors player mine)
      ∙ (stretch.are moment inside).started player mine)

  grown_none : (moment : ℕ) → HasGrown limits (links moment) (links moment)
  grown_none moment = record {
    got = λ p w l m. omega arith;
    ran = λ p l. omega arith;
    sends = λ p w l m n e. omega arith;
    ended = λ p l e. e;
    still = λ p l e. refl;
    goes_on = λ p l e. e;
  }

  -- one that has not ended then does not before the last moment
  still_not : (to from player : ℕ) → from ≤ to → to ≤ last → player < limits.players
      → has_ended (links from player).node ≡ false → has_ended (links to player).node ≡ false
  still_not to from player less inside mine e = go (stretch.left player) refl
    where
      go : (test : Bool) → stretch.left player ≡ test → has_ended (links to player).node ≡ false
      go true left = absurd (true≢false (sym (ended_then from player (omega (arith, less, inside)) mine left) ∙ e))
      go false stays = and_right (links to player).node.played (is_ended (links to player).node.phase)
          (ap is_ended (plays_then to player inside mine stays))

  -- from a moment to a later one
  grown : (to from : ℕ) → from ≤ to → to ≤ last → HasGrown limits (links from) (links to)
  grown zero from less inside =
      let same : 0 ≡ from = omega (arith, less) in
      subst (λ (n : ℕ). HasGrown limits (links n) (links 0)) same (grown_none 0)
  grown (suc to) from less inside = elim (cases_lt from (suc to)) [
    | inl before ↦
        let first = grown to from (omega (arith, before)) (omega (arith, inside)) in
        let next = stretch.grows to (omega (arith, inside)) in
        record {
          got = λ p w l m. let one = first.got p w l m in let two = next.got p w l m in omega (arith, one, two);
          ran = λ p l. let one = first.ran p l in let two = next.ran p l in omega (arith, one, two);
          sends = λ p w l m n e.
              let one = first.sends p w l m n e in
              let two = next.sends p w l m n (still_not to from w (omega (arith, before)) (omega (arith, inside)) m e) in
              omega (arith, one, two);
          ended = λ p l e. next.ended p l (first.ended p l e);
          still = λ p l e. next.still p l (first.ended p l e) ∙ first.still p l e;
          goes_on = λ p l e. first.goes_on p l (next.goes_on p l e);
        }
    | inr at ↦
        let same : suc to ≡ from = omega (arith, at, less) in
        subst (λ (n : ℕ). HasGrown limits (links n) (links (suc to))) same (grown_none (suc to))
  ]

  -- what it has of a player, with the end, grows
  has_on : (to from player other : ℕ) → from ≤ to → to ≤ last → player < limits.players → other ≢ player
      → has_of (links from player).node other ≤ has_of (links to player).node other
  has_on to from player other less inside mine apart =
      rises (λ k. has_of (links k player).node other) (suc last) (λ k early.
      let more = (stretch.later k (omega (arith, early))).got player other apart in
      let was = (stretch.are k (omega (arith, early))).survivors player mine in
      let now = (stretch.are (suc k) (omega (arith, early))).survivors player mine in
      omega (
        arith,
        more,
        ap (λ (s : Surviving). has_of s.lockstep other) was,
        ap (λ (s : Surviving). has_of s.lockstep other) now,
      )) to from less (omega (arith, inside))

  module _ (moment player : ℕ) (inside : moment < last) (mine : player < limits.players)
      (stays : stretch.left player ≡ false) where
    linked : AreRemainingLinks marking limits settings (stretch.sessions moment) (links moment)
    linked = stretch.are moment (omega (arith, inside))

    abbrev m : machine.Node
    m = linked.game.last.game.nodes player

    shows : Represents limits player (links moment player).node m
    shows = base.shows marking limits settings (stretch.sessions moment) (links moment) linked player mine

    plays : m.phase ≡ Playing
    plays = sym shows.stands.phase ∙ plays_then moment player (omega (arith, inside)) mine stays

    makes : MakesAt links moment player
        → min (got (links moment player).node player + 1) ((links moment player).node.ran + limits.ahead)
        ≤ got (links (suc moment) player).node player
    makes (input, answer, step) =
        let after = (step.step limits player m shows).node in
        let before = has limits player (links moment player).node m shows player mine in
        let now = has limits player (links (suc moment) player).node _ after player mine in
        let more = build_makes limits player m plays input in
        omega (arith, more, before, now, shows.table.ran)

    -- of a player whose end it knows, with all commands, it lacks nothing
    not_lacked : (other : ℕ) → IsLacked limits player m plays other → other ≢ player
        → got (links moment other).node other + 1 ≤ has_of (links moment player).node other → ⊥
    not_lacked other lacks apart all = go (machine.ends_of m other) refl
      where
        others : AreTogether limits (stretch.sessions moment)
        others = together marking limits settings (stretch.sessions moment) (links moment) linked
            (stretch.caught_up moment (omega (arith, inside))).whole

        theirs : (links moment other).node ≡ ((stretch.sessions moment).survivors other).lockstep
        theirs = ap (λ (s : Surviving). s.lockstep) (linked.survivors other lacks.0)

        mine_is : (links moment player).node ≡ ((stretch.sessions moment).survivors player).lockstep
        mine_is = ap (λ (s : Surviving). s.lockstep) (linked.survivors player mine)

        -- it has no more than that made
        most : length (m.held other) ≤ got (links moment other).node other
        most =
            let held = others.held player other mine lacks.0 in
            let here = has limits player (links moment player).node m shows other lacks.0 in
            omega (
              arith,
              held,
              here,
              ap (λ (n : Contents). got n other) mine_is,
              ap (λ (n : Contents). got n other) theirs,
              ap (λ (k : ℕ). got ((stretch.sessions moment).survivors other).lockstep k) (others.numbers other lacks.0),
            )

        by_left : (left : Bool) (count end : ℕ) → (if left then Some count else None) ≡ Some end → count ≡ end
        by_left true count end e = same_Some count end e
        by_left false count end e = absurd (none-some end e)

        it_has : has_of (links moment player).node other ≡ with_end (length (m.held other)) (machine.ends_of m other)
        it_has = has_is limits player (links moment player).node m shows mine other apart lacks.0

        go : (end : Option ℕ) → machine.ends_of m other ≡ end → ⊥
        go None e =
            let few = it_has ∙ ap (with_end (length (m.held other))) e in absurd (omega (arith, all, few, most))
        go (Some end) e =
            let here : known_end player m other ≡ machine.ends_of m other =
            (let off = ne_eqb other player apart in rw off refl) in
            let known : end_in (links moment player).node other ≡ Some end =
            end_is limits player (links moment player).node m shows mine other lacks.0 ∙ here ∙ e in
            let them : machine.Node = linked.game.last.game.nodes other in
            let shown : Represents limits other (links moment other).node them =
            base.shows marking limits settings (stretch.sessions moment) (links moment) linked other lacks.0 in
            let same : machine.made other them ≡ end = by_left (machine.has_left them) (machine.made other them) end
            (sym (own_end_is limits other (links moment other).node them shown lacks.0)
            ∙ ap (λ (n : Contents). end_in n other) theirs
            ∙ others.ends player other end mine lacks.0 (ap (λ (n : Contents). end_in n other) (sym mine_is) ∙ known)) in
            let count = has limits other (links moment other).node them shown other lacks.0 in
            let early = leb-false end (machine.ran m)
            (ap (λ (end : Option ℕ). is_over end (machine.ran m)) (sym e) ∙ lacks.2) in
            let few = it_has ∙ ap (with_end (length (m.held other))) e in
            let low = lacks.1 in
            absurd (omega (arith, all, few, same, count, early, low))

    waits : WaitsAt links moment player → (other : ℕ) × IsLacked limits player m plays other
        × (got (links moment player).node other ≤ (links moment player).node.ran)
    waits (marks, other, row, step) =
        let answer = (step.step limits player m shows).answer.0 in
        let lacks = run_waits limits player m plays (has_given_up (links moment player)) (marks_in marks) other answer in
        let before = has limits player (links moment player).node m shows other lacks.0 in
        let few = lacks.1 in
        (other, lacks, omega (arith, few, before, shows.table.ran))

    -- one that plays has not ended
    unfinished : has_ended (links moment player).node ≡ false
    unfinished = and_right (links moment player).node.played (is_ended (links moment player).node.phase)
        (ap is_ended (plays_then moment player (omega (arith, inside)) mine stays))

    -- and has made what it has run
    owns : (links moment player).node.ran ≤ got (links moment player).node player
    owns =
        let same = linked.survivors player mine in
        let all = together marking limits settings (stretch.sessions moment) (links moment) linked
        (stretch.caught_up moment (omega (arith, inside))).whole in
        let none = unended ((stretch.sessions moment).survivors player).lockstep player (all.numbers player mine)
        (ap (λ (s : Surviving). has_ended s.lockstep) (sym same) ∙ unfinished) in
        let run = all.run player player mine mine none in
        omega (arith, run, ap (λ (s : Surviving). got s.lockstep player) same, ap (λ (s : Surviving). s.lockstep.ran) same)

-- what a law says of a datagram that arrives
abbrev AtArrival : ((ℕ → Linked) → Linked → Bundle → ℕ → Type 0) → Marking → Limits → Settings → Type 0
AtArrival Says marking limits settings =
    (session : Session) (links : ℕ → Linked) (player : ℕ) (seal : Seal) (bytes : List ℕ) (new : Linked)
    (answer : Received) (bundle : Bundle) (count : ℕ) → AreRemainingLinks marking limits settings session links
    → AreCaughtUp limits links → player < limits.players → IsGenuineIn seal session player bytes
    → IsInStepTo seal limits links player bytes → Receives seal bytes (links player) new answer
    → IsDatagramOf (sealing_of seal player) bytes bundle → new.node.phase ≡ Playing → Says links new bundle count

abbrev Brought : Marking → Limits → Settings → Type 0
Brought = AtArrival (λ links new bundle count. Brings count links bundle → count ≤ got new.node bundle.from)

abbrev Learnt : Marking → Limits → Settings → Type 0
Learnt = AtArrival (λ links new bundle end. HasExit bundle.from end (own_in bundle) → end + 1 ≤ has_of new.node bundle.from)

module _ {marking : Marking} {limits : Limits} {settings : Settings} {last : ℕ}
    (stretch : Stretch marking limits settings last) (brought : Brought marking limits settings)
    (learnt : Learnt marking limits settings) {count : ℕ} (rounds : AreRounds stretch count) (seal : Seal)
    (game : 8 ≤ length seal.game) (places : 12 ≤ limits.places) (k d : ℕ) (some : 1 ≤ k)
    (fair : AreFairLines rounds seal k d) where
  abbrev at : ℕ → ℕ → Linked
  at = stretch.links

  abbrev built : ℕ → ℕ → ℕ
  built = rounds.built

  abbrev waited : ℕ → ℕ → ℕ
  waited = rounds.waited

  waited_up : (r s p : ℕ) → s ≤ r → r < count → Plays stretch p → waited s p ≤ waited r p
  waited_up r s p less below l = rises (λ k. waited k p) count (λ k inside.
      let next = rounds.later k p inside l in
      let more = rounds.within (suc k) p inside l in
      omega (arith, next, more.0)) r s less below

  built_up : (r s p : ℕ) → s ≤ r → r < count → Plays stretch p → built s p ≤ built r p
  built_up r s p less below l = rises (λ k. built k p) count (λ k inside.
      let next = rounds.later k p inside l in
      let more = rounds.within k p (omega (arith, inside)) l in
      omega (arith, next, more.0)) r s less below

  -- what a datagram brings that arrives
  module _ (player peer : ℕ) (mine : player < limits.players) (below : Plays stretch peer) (apart : peer ≢ player)
      (line : IsFairLine rounds seal k d player peer) where
    abbrev sent_by : Datagrams stretch seal player peer
    sent_by = line.0

    abbrev then_at : ℕ → ℕ
    then_at = sent_by.given

    was : (which : ℕ) → which < sent_by.count
        → AreRemainingLinks marking limits settings (stretch.sessions (then_at which)) (at (then_at which))
    was which inside = stretch.are (then_at which) (let early = sent_by.inside which inside in omega (arith, early))

    -- after one that is not late the next packet begins behind what was made, or repeats the last
    leaves : (which : ℕ) → which < sent_by.count
        → made (at (then_at which) player).node ≤ next_to (at (then_at which) player).node peer + 12
        → made (at (then_at which) player).node ≤ next_to (at (suc (then_at which)) player).node peer + lag limits
    leaves which inside near = go (stretch.left player) refl
      where
        early : then_at which < last
        early = sent_by.inside which inside

        goes_on : has_ended (at (then_at which) peer).node ≡ false
        goes_on = unfinished stretch (then_at which) peer early below.0 below.1

        go : (test : Bool) → stretch.left player ≡ test
            → made (at (then_at which) player).node ≤ next_to (at (suc (then_at which)) player).node peer + lag limits
        go false stays = sent marking limits settings (stretch.sessions (then_at which)) (at (then_at which))
            (was which inside) player mine (stretch.caught_up (then_at which) (omega (arith, early))) peer below.0 apart seal
            (sent_by.pace which) (at (suc (then_at which)) player) (sent_by.bytes which) (sent_by.gives which inside) places
            near (plays_then stretch (then_at which) player (omega (arith, early)) mine stays) goes_on
        go true left = exit.sent marking limits settings (stretch.sessions (then_at which)) (at (then_at which))
            (was which inside) player mine (stretch.caught_up (then_at which) (omega (arith, early))) peer below.0 apart seal
            (sent_by.pace which) (at (suc (then_at which)) player) (sent_by.bytes which) (sent_by.gives which inside) places
            near (ended_then stretch (then_at which) player (omega (arith, early)) mine left) goes_on

    -- none is a late one
    soon : (which : ℕ) → which < sent_by.count
        → made (at (then_at which) player).node ≤ next_to (at (then_at which) player).node peer + 12
    soon zero inside = sent_by.first inside
    soon (suc which) inside =
        let before : which < sent_by.count = omega (arith, inside) in
        let early = sent_by.inside which before in
        let late = sent_by.inside (suc which) inside in
        let later = sent_by.later which inside in
        let left = leaves which before (soon which before) in
        let up = (grown stretch (then_at (suc which)) (suc (then_at which)) (omega (arith, later))
        (omega (arith, late))).sends player peer mine below.0 apart
        (unfinished stretch (suc (then_at which)) peer (omega (arith, later, late)) below.0 below.1) in
        let few = sent_by.few which inside in
        omega (arith, left, up, few, lag_low limits)

    module _ (first : ℕ) (it : Arrives rounds sent_by k d first) (in_time : it.taken < last) where
      abbrev given : ℕ
      given = then_at it.which

      abbrev gives : Gives seal (sent_by.pace it.which) peer (at given player) (at (suc given) player) (sent_by.bytes it.which)
      gives = sent_by.gives it.which it.one

      before : given < last
      before = omega (arith, it.comes, in_time)

      abbrev bundle : Bundle
      bundle = gives.bundle

      own : (at given player).node.me ≡ player
      own = base.own marking limits settings (stretch.sessions given) (at given) (was it.which it.one) player mine

      bring_is : bundle.from ≡ player
      bring_is = gives.from ∙ own

      is_datagram : IsDatagramOf (sealing_of seal peer) (sent_by.bytes it.which) bundle
      is_datagram = record { game = game; fits = gives.fits; short = it.size; to = gives.goes; is = gives.is }

      -- the end of one who has left
      knows_there : stretch.left player ≡ true → limits.ahead ≤ 11
          → got (at given player).node player + 1 ≤ has_of (at (suc it.taken) peer).node player
      knows_there left narrow =
          let exits = exit.exits marking limits settings (stretch.sessions given) (at given) (was it.which it.one) player mine
          (stretch.caught_up given (omega (arith, before))) peer below.0 apart seal (sent_by.pace it.which)
          (at (suc given) player) (sent_by.bytes it.which) gives places (soon it.which it.one)
          (ended_then stretch given player (omega (arith, before)) mine left)
          (unfinished stretch given peer before below.0 below.1) narrow it.full in
          let has_it = learnt (stretch.sessions it.taken) (at it.taken) peer seal (sent_by.bytes it.which)
          (at (suc it.taken) peer) it.answer bundle (made (at given player).node)
          (stretch.are it.taken (omega (arith, in_time))) (stretch.caught_up it.taken (omega (arith, in_time))) below.0
          it.genuine it.in_step it.takes is_datagram
          (plays_then stretch (suc it.taken) peer (omega (arith, in_time)) below.0 below.1)
          (subst (λ (n : ℕ). HasExit n (made (at given player).node) (own_in bundle)) (sym bring_is) exits) in
          omega (
            arith,
            has_it,
            ap (λ (n : ℕ). has_of (at (suc it.taken) peer).node n) bring_is,
            ap (λ (n : ℕ). got (at given player).node n) own,
          )

      -- or all that one made who plays
      module _ (stays : stretch.left player ≡ false) where
        brings_then : Brings (made (at given player).node) (at given) bundle
        brings_then =
            let there = brings marking limits settings (stretch.sessions given) (at given) (was it.which it.one) player mine
            (stretch.caught_up given (omega (arith, before))) peer below.0 apart seal (sent_by.pace it.which)
            (at (suc given) player) (sent_by.bytes it.which) gives places (soon it.which it.one)
            (plays_then stretch given player (omega (arith, before)) mine stays) it.full in
            subst (λ (l : Linked). has_ended l.node ≡ false → made (at given player).node ≤ last_end
            (got l.node bundle.from) (own_in bundle)) (ap (put (at given) player (at (suc given) player))
            gives.goes ∙ put_off (at given) player peer (at (suc given) player) apart ∙ ap (at given) (sym gives.goes)) there

        brings_later : Brings (made (at given player).node) (at it.taken) bundle
        brings_later = brings_on limits (at given) (at it.taken) bundle (made (at given player).node)
            (grown stretch it.taken given (omega (arith, it.comes)) (omega (arith, in_time)))
            (omega (arith, gives.from, own, mine)) (omega (arith, gives.goes, below.0)) brings_then

        all_there : got (at given player).node player ≤ got (at (suc it.taken) peer).node player
        all_there =
            let has_it = brought (stretch.sessions it.taken) (at it.taken) peer seal (sent_by.bytes it.which)
            (at (suc it.taken) peer) it.answer bundle (made (at given player).node)
            (stretch.are it.taken (omega (arith, in_time))) (stretch.caught_up it.taken (omega (arith, in_time))) below.0
            it.genuine it.in_step it.takes is_datagram
            (plays_then stretch (suc it.taken) peer (omega (arith, in_time)) below.0 below.1) brings_later in
            omega (
              arith,
              has_it,
              ap (λ (n : ℕ). got (at (suc it.taken) peer).node n) bring_is,
              ap (λ (n : ℕ). got (at given player).node n) own,
            )

  -- a datagram of one player to another that was given in k rounds comes before the other waits d rounds later
  module _ (s r player peer : ℕ) (below : r < count) (same : s + (k + d) ≡ suc r) (mine : player < limits.players)
      (theirs : Plays stretch peer) (apart : peer ≢ player) where
    abbrev Comes : Type 0
    Comes = (line : IsFairLine rounds seal k d player peer) × (it : Arrives rounds line.0 k d s)
        × (it.taken < waited r peer) × (waited r peer < last)

    comes : IsFairLine rounds seal k d player peer → Comes
    comes line =
        let it = line.1 s (omega (arith, same, below)) in
        let wait_up = waited_up r (it.round + d) peer (omega (arith, it.below, same)) below theirs in
        (line, it, omega (arith, it.waited, wait_up), (rounds.within r peer below theirs).1)

    -- of one who plays the other has then what that had made k + d rounds before
    arrives : stretch.left player ≡ false
        → got (at (suc (built s player)) player).node player ≤ got (at (waited r peer) peer).node player
    arrives stays = elim (fair player peer mine theirs apart) [
      | inl known ↦ absurd (true≢false (sym known.0 ∙ stays))
      | inr line ↦
          let at_last = comes line.1 in
          let it = at_last.1 in
          let ends = at_last.3 in
          let in_time : it.taken < last = (let before = at_last.2 in omega (arith, before, ends)) in
          let all = all_there player peer mine theirs apart at_last.0 s it in_time stays in
          let round_in : it.round < count = omega (arith, it.below, same, below) in
          let from = built_up it.round s player it.from round_in (mine, stays) in
          let one = (grown stretch (at_last.0.0.given it.which) (suc (built s player)) (omega (arith, from, it.built))
          (omega (arith, it.comes, in_time))).got player player mine mine in
          let two = (grown stretch (waited r peer) (suc it.taken) (let before = at_last.2 in omega (arith, before))
          (omega (arith, ends))).got peer player theirs.0 mine in
          omega (arith, all, one, two)
    ]

    -- and of one who has left it knows the end
    knows : stretch.left player ≡ true
        → got (at (waited r peer) player).node player + 1 ≤ has_of (at (waited r peer) peer).node player
    knows left = elim (fair player peer mine theirs apart) [
      | inl known ↦
          let ends = (rounds.within r peer below theirs).1 in
          let still = (grown stretch (waited r peer) 0 (omega arith) (omega (arith, ends))).still player mine
          (ended_then stretch 0 player (omega arith) mine left) in
          let more = has_on stretch (waited r peer) 0 peer player (omega arith) (omega (arith, ends)) theirs.0
          (λ e. apart (sym e)) in
          let was = known.1 in
          omega (arith, still, more, was)
      | inr line ↦
          let at_last = comes line.1 in
          let it = at_last.1 in
          let ends = at_last.3 in
          let before = at_last.2 in
          let in_time : it.taken < last = omega (arith, before, ends) in
          let told = knows_there player peer mine theirs apart at_last.0 s it in_time left (line.0 left) in
          let still = (grown stretch (waited r peer) (at_last.0.0.given it.which) (omega (arith, it.comes, before))
          (omega (arith, ends))).still player mine (ended_then stretch (at_last.0.0.given it.which) player
          (omega (arith, it.comes, in_time)) mine left) in
          let more = has_on stretch (waited r peer) (suc it.taken) peer player (omega (arith, before))
          (omega (arith, ends)) theirs.0 (λ e. apart (sym e)) in
          omega (arith, told, still, more)
    ]

  -- so it runs what all had made
  runs : (s r bound : ℕ) → r < count → s + (k + d) ≡ suc r
      → ((p : ℕ) → Plays stretch p → bound ≤ got (at (suc (built s p)) p).node p)
      → (q : ℕ) → Plays stretch q → bound ≤ (at (waited r q) q).node.ran
  runs s r bound below same all q mine =
      let ends = rounds.within r q below mine in
      let wait = waits stretch (waited r q) q ends.1 mine.0 mine.1 (rounds.waits r q below mine) in
      let lacks = wait.1 in
      let low : bound ≤ got (at (waited r q) q).node wait.0 = elim (cases_eq wait.0 q) [
        | inl own ↦
            let made_then = all q mine in
            let from = built_up r s q (omega (arith, same, some)) below mine in
            let more = (grown stretch (waited r q) (suc (built s q)) (omega (arith, from, ends.0))
            (omega (arith, ends.1))).got q q mine.0 mine.0 in
            omega (arith, made_then, more, ap (λ (n : ℕ). got (at (waited r q) q).node n) own)
        | inr other ↦
            let them : stretch.left wait.0 ≡ false = not_true (stretch.left wait.0) (λ left.
            not_lacked stretch (waited r q) q ends.1 mine.0 mine.1 wait.0 lacks other
            (knows s r wait.0 q below same lacks.0 mine (λ e. other (sym e)) left)) in
            let has_it = arrives s r wait.0 q below same lacks.0 mine (λ e. other (sym e)) them in
            let made_then = all wait.0 (lacks.0, them) in
            omega (arith, made_then, has_it)
      ] in
      let few = wait.2 in
      omega (arith, low, few)

  -- the numbers of the rounds
  module _ (ahead : 1 ≤ limits.ahead) where
    abbrev had : ℕ → ℕ → ℕ
    had r p = got (at (built r p) p).node p

    abbrev made_by : ℕ → ℕ → ℕ
    made_by r p = got (at (suc (built r p)) p).node p

    abbrev begun : ℕ → ℕ → ℕ
    begun r p = (at (built r p) p).node.ran

    abbrev ran_by : ℕ → ℕ → ℕ
    ran_by r p = (at (waited r p) p).node.ran

    build : (r p : ℕ) → r < count → Plays stretch p → min (had r p + 1) (begun r p + limits.ahead) ≤ made_by r p
    build r p below l =
        let ends = rounds.within r p below l in
        makes stretch (built r p) p (omega (arith, ends.0, ends.1)) l.0 l.1 (rounds.builds r p below l)

    mine_too : (r p : ℕ) → r < count → Plays stretch p → begun r p ≤ had r p
    mine_too r p below l =
        let ends = rounds.within r p below l in
        owns stretch (built r p) p (omega (arith, ends.0, ends.1)) l.0 l.1

    on : (r p : ℕ) → r < count → Plays stretch p → begun r p ≤ ran_by r p
    on r p below l =
        let ends = rounds.within r p below l in
        (grown stretch (waited r p) (built r p) (omega (arith, ends.0)) (omega (arith, ends.1))).ran p l.0

    keeps : (r p : ℕ) → suc r < count → Plays stretch p → made_by r p ≤ had (suc r) p
    keeps r p below l =
        let ends = rounds.within r p (omega (arith, below)) l in
        let next = rounds.later r p below l in
        let more = rounds.within (suc r) p below l in
        (grown stretch (built (suc r) p) (suc (built r p)) (omega (arith, ends.0, next))
        (omega (arith, more.0, more.1))).got p p l.0 l.0

    waits_on : (r p : ℕ) → suc r < count → Plays stretch p → ran_by r p ≤ begun (suc r) p
    waits_on r p below l =
        let next = rounds.later r p below l in
        let more = rounds.within (suc r) p below l in
        (grown stretch (built (suc r) p) (waited r p) (omega (arith, next))
        (omega (arith, more.0, more.1))).ran p l.0

    -- it goes on
    go_on : (first tics r least : ℕ) → r < count → first + (k + d) * suc tics ≡ suc r
        → ((p : ℕ) → Plays stretch p → least ≤ begun first p) → (q : ℕ) → Plays stretch q
        → least + suc tics ≤ ran_by r q
    go_on first tics r least =
        goes_further (Plays stretch) count (k + d) limits.ahead least (omega (arith, some)) ahead had made_by begun ran_by
        build mine_too on keeps waits_on runs tics first r least

    -- and at full speed
    at_speed : (base : ℕ) → ((p : ℕ) → 0 < count → Plays stretch p → base ≤ begun 0 p) → k + d ≤ limits.ahead
        → (r q : ℕ) → r < count → Plays stretch q → base + suc (suc r) ≤ ran_by r q + (k + d)
    at_speed base least fits =
        full_speed (Plays stretch) count (k + d) limits.ahead base (omega (arith, some)) ahead had made_by begun ran_by
        build mine_too on keeps waits_on runs least fits

pub returns-clause-goes_on : goal.returns-clause-goes_on
returns-clause-goes_on c = λ marking limits settings last stretch count rounds seal k d first tics round least game places
    ahead some fair more same below all player mine.
    by first (k + d) round least _ tics more same (λ fewer is. go_on stretch (c.links_bring_all.ensures.brought marking limits settings)
    (c.links_bring_all.ensures.learnt marking limits settings)
    rounds seal game places k d some fair ahead first fewer round least below is all player mine)
  where
    by : (first delay round least ran tics : ℕ) → 1 ≤ tics → first + delay * tics ≡ round + 1
        → ((fewer : ℕ) → first + delay * suc fewer ≡ suc round → least + suc fewer ≤ ran) → least + tics ≤ ran
    by first delay round least ran zero some same all = absurd (omega (arith, some))
    by first delay round least ran (suc fewer) some same all = all fewer (omega (arith, same))

pub returns-clause-full_speed : goal.returns-clause-full_speed
returns-clause-full_speed c = λ marking limits settings last stretch count rounds seal k d round least game places ahead
    some fair fits below all player mine.
    let one = at_speed stretch (c.links_bring_all.ensures.brought marking limits settings)
    (c.links_bring_all.ensures.learnt marking limits settings) rounds seal game places
    k d some fair ahead least (λ p inside l. all p l) fits round player below mine in
    omega (arith, one)
