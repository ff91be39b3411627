-- What a node represents once a part of it has changed: commands, a peer, the start, the end; and what a
-- build makes.
use Rattle.std.proofs.Common.{◌≡◌, ◌≢◌, ℕ, List, arith, true, false, [], Some, ◌<◌, ◌≤◌, pos, Option, None, sym, ◌⊎◌, Bool, ap, ◌+◌, ◌-◌, ◌%◌, ℤ, ◌∷◌, ◌++◌, ltb, true≢false, ◌∙◌, inl, inr, nat_lt, is_some, ◌==◌, if◌then◌else◌}
use Rattle.std.proofs.lemmas.{List.nil_from_length, Bool.{lt-ltb, cond-true, le-ltb, cases_Bool, Decides.leb_tells}}
use Rattle.dn_tic.specs.{declared.{input.Input.Input, command.TicCmd.TicCmd}, Inputs.{hold_of, made_by}}
use Rattle.dn_ring.specs.Ring.{Ring}
use Rattle.dn_machine.specs.{Limits.Limits, Node.{put, with_peer, ends_of, Node, own_mark, lowest}}
use Rattle.dn_machine.specs.declared.{peer.Peer.Peer, answers.{Phase.Phase, Cause.{Cause, TheVariants.Quit}, Made.Made}}
use Rattle.dn_machine.specs.declared.answers.Phase.TheVariants.{Playing, Listening, Gathering, Ended}
use Rattle.dn_machine.specs.{Running.{on_quit, on_quit_in, is_over}, Sending.{on_build, on_build_by}}
use Rattle.dn_machine.specs.Hearing.{started, after_request, after_exit, is_strange_end}
use Rattle.dn_machine.proofs.{Put.{put_at, put_off}, Truth.{lowest_none, lowest_none_each}}
use Rattle.dn_lockstep.specs.{Tables.ring_of, Contents.Contents, Represents.{Represents, marked_to, CanBeWritten}}
use Rattle.dn_lockstep.specs.{Rows.{seats_of, has_gone, is_gone}, Told.{is_made, makes}, Phases.is_playing}
use Rattle.dn_setup.specs.Settings.{Settings, start_of}
use Rattle.dn_demo.specs.{Recorded.Recorded, declared.recorder.Stage.TheVariants.Open, Layout.long_tics, Text.demo_text}
use Rattle.dn_ring.proofs.Slots.{put-ring_of}
use Rattle.dn_lockstep.proofs.Shown.{mine}
use Rattle.dn_machine.specs.Node as machine
use Rattle.dn_lockstep.specs.Tables as last

pub shows_commands : {limits : Limits} {me : ℕ} {n : Contents} {m : machine.Node}
    (r : Represents limits me n m) (player hold : ℕ) (inputs : List Input) (commands : List TicCmd)
    (rings : ℕ → Ring) → hold ≡ hold_of inputs → rings player ≡ ring_of commands
    → ((p : ℕ) → p ≢ player → rings p ≡ n.rings p) → Represents limits me (record n { hold = hold; rings = rings })
    (record m { inputs = inputs; held = put m.held player commands })
shows_commands {m = m} r player hold inputs commands rings holds new others = grind (arith, put_at, put_off)

pub shows_peer : {limits : Limits} {me : ℕ} {n : Contents} {m : machine.Node}
    (r : Represents limits me n m) (player : ℕ) {peer : Peer} (peers : ℕ → Peer)
    → marked_to (machine.ran m) peer.end ≡ marked_to (machine.ran m) (ends_of m player)
    → peers player ≡ peer → ((p : ℕ) → p ≢ player → peers p ≡ n.peers p)
    → Represents limits me (record n { peers = peers }) (with_peer m player peer)
shows_peer {m = m} r player {peer} peers marked new others = grind (arith, put_at, put_off)

pub shows_start : (limits : Limits) (me : ℕ) (n : Contents) (m : machine.Node)
    (settings : Settings) (demo : Recorded) → Represents limits me n m → n.ran ≡ 0
    → demo.stage ≡ Open → demo.bytes ≡ demo_text long_tics (start_of settings) me (seats_of limits.players) [] false
    → Represents limits me (record n { phase = Playing; played = true; settings = Some settings; demo = demo })
    (started m settings)
shows_start limits me n m settings demo r unrun is_open written = grind (arith, nil_from_length)

-- the settings of player 0 are those of the game, and nobody else has any
pub settings_fresh : (me : ℕ) (own : Option Settings) (settings : Settings) → is_some own ≡ (me == 0)
    → (me ≡ 0 → own ≡ Some settings) → own ≡ (if me == 0 then Some settings else None)
settings_fresh me own settings keyed key = grind arith

-- no rows can be written for any players
pub nothing_written : (players : ℕ) → 0 < players → players ≤ 4 → CanBeWritten players []
unfolding CanBeWritten
nothing_written players some few = grind arith

-- up to tic 12 every mark is 0
pub first_marks : (m : Node) (p tic : ℕ) → tic < 12 → pos 0 ≡ own_mark m p tic
first_marks m p tic early = sym (cond-true (nat_lt tic 12) _ _ (lt-ltb tic 12 early))

module _ (m : Node) where
  pub quit_ended : (cause : Cause) → m.phase ≡ Ended cause → ◌≡◌ {A = Node × Bool} (on_quit m) (m, false)
  unfolding on_quit
  quit_ended cause e = ap (on_quit_in m) e

  pub quit_playing : m.phase ≡ Playing → ◌≡◌ {A = Node × Bool} (on_quit m) (record m { phase = Ended Quit }, true)
  unfolding on_quit
  quit_playing e = ap (on_quit_in m) e

  pub quit_waiting : (m.phase ≡ Listening) ⊎ (m.phase ≡ Gathering)
      → ◌≡◌ {A = Node × Bool} (on_quit m) (record m { phase = Ended Quit }, true)
  unfolding on_quit
  quit_waiting waits = grind arith

-- the command that the input makes
abbrev pub next_command : ℕ → machine.Node → Input → TicCmd
next_command me m input = made_by (m.inputs ++ input ∷ []) (own_mark m me (machine.made me m))

-- the machine's node once it has built
abbrev pub built : ℕ → machine.Node → Input → machine.Node
built me m input =
    record m { inputs = m.inputs ++ input ∷ []; held = put m.held me (m.held me ++ next_command me m input ∷ []) }

module _ (limits : Limits) (me : ℕ) (m : machine.Node) (input : Input) where
  pub build_not : m.phase ≢ Playing → ◌≡◌ {A = machine.Node × Made} (on_build limits me m input)
      (m, Made.NotPlaying)
  unfolding on_build_by
  build_not n = grind arith

  pub build_full : m.phase ≡ Playing → machine.ran m + limits.ahead ≤ machine.made me m
      → ◌≡◌ {A = machine.Node × Made} (on_build limits me m input) (m, Made.Full)
  unfolding on_build_by
  build_full on ahead = grind arith

  pub build_makes : m.phase ≡ Playing → machine.made me m < machine.ran m + limits.ahead
      → ◌≡◌ {A = machine.Node × Made} (on_build limits me m input) (built me m input, Made.Made (machine.made me m))
  unfolding on_build_by
  build_makes on near = grind arith

  -- whether it makes a command
  pub makes_not : m.phase ≢ Playing → makes limits me m input ≡ false
  makes_not n = ap (λ (x : machine.Node × Made). is_made x.1) (build_not n)

  pub makes_near : m.phase ≡ Playing → machine.ran m ≤ machine.made me m
      → ltb (machine.made me m - machine.ran m) limits.ahead ≡ makes limits me m input
  makes_near on reached = grind (arith, leb_tells, le-ltb, build_full, lt-ltb, build_makes)

pub not_playing : (phase : Phase) → phase ≢ Playing → is_playing phase ≡ false
not_playing phase n = grind arith

-- the own ring with the command that was built
pub own_ring : (limits : Limits) (me : ℕ) (n : Contents) (m : machine.Node) (input : Input) (tic : ℕ)
    (mark : ℤ) (command : TicCmd) (ring : Ring)
    → Represents limits me n m → n.me < n.players → tic ≡ machine.made me m → machine.ran m ≤ tic
    → tic < machine.ran m + 12
    → ends_of m me ≡ None → mark ≡ n.marks n.me (tic % 12) → command ≡ made_by (m.inputs ++ input ∷ []) mark
    → ring ≡ last.put (n.rings n.me) command → ring ≡ ring_of (m.held me ++ next_command me m input ∷ [])
own_ring limits me n m input tic mark command ring r h made low high endless marked is e =
    grind (arith, mine, put-ring_of)

-- Who is gone, and peers of which one is kept otherwise: what stays true of them all.

pub nobody : {A : Type 0} (o : Option A) → is_some o ≡ false → o ≡ None
nobody o e = grind arith

-- where one test is passed by somebody, so is one that fails nobody who passes it
pub found_too : (bound : ℕ) (f g : ℕ → Bool) → ((p : ℕ) → p < bound → g p ≡ false → f p ≡ false)
    → is_some (lowest bound f) ≡ true → is_some (lowest bound g) ≡ true
found_too bound f g less e = elim (cases_Bool (is_some (lowest bound g))) [
  | inl here ↦ here
  | inr none_here ↦
      let none =
      lowest_none bound f
      (λ p l. less p l (lowest_none_each bound g (nobody (lowest bound g) none_here) p l)) in
      absurd (true≢false (sym e ∙ ap is_some none))
]

-- a tic is over if one before it was
pub over_later : (end : Option ℕ) (tic later : ℕ) → tic ≤ later → is_over end later ≡ false
    → is_over end tic ≡ false
over_later end tic later l e = grind arith

pub gone_later : (peers : ℕ → Peer) (players tic later : ℕ) → tic ≤ later → has_gone peers players tic ≡ true
    → has_gone peers players later ≡ true
gone_later peers players tic later l e = grind (arith, found_too)

-- one peer's end is not put off, no resend to it starts past what was made, and the others are as they were
pub record AreKept (old new : ℕ → Peer) (player made : ℕ) : Type 0 where
  pub later : (tic : ℕ) → is_over (new player).end tic ≡ false → is_over (old player).end tic ≡ false
  pub low : (new player).resend ≤ made
  pub others : (p : ℕ) → p ≢ player → new p ≡ old p

module _ {old new : ℕ → Peer} {player made : ℕ} (kept : AreKept old new player made) where
  -- whoever was gone is gone
  pub stays_gone : (tic p : ℕ) → is_gone new tic p ≡ false → is_gone old tic p ≡ false
  stays_gone tic p h = grind arith

  pub gone_still : (players tic : ℕ) → has_gone old players tic ≡ true → has_gone new players tic ≡ true
  gone_still players tic = found_too players (is_gone old tic) (is_gone new tic) (λ p below. stays_gone tic p)

  -- the end of another is as it was
  pub same_end : (p : ℕ) → p ≢ player → (new p).end ≡ (old p).end
  same_end p other = ap (λ (q : Peer). q.end) (kept.others p other)

  -- no resend starts past what was made
  pub resends_low : {count : ℕ} → made ≡ count → (players : ℕ)
      → ((p : ℕ) → p < players → (old p).resend ≤ count) → (p : ℕ) → p < players → (new p).resend ≤ count
  resends_low is players low p below = grind arith

  -- so they are once more, where a resend is wanted of the same one, or no longer
  pub kept_wanted : {next : ℕ → Peer} (want : Bool) → next player ≡ record (new player) { want = want }
      → ((p : ℕ) → p ≢ player → next p ≡ new p) → AreKept old next player made
  kept_wanted want is others = grind arith

-- peers of which one has asked
pub kept_asked : {old new : ℕ → Peer} {player made : ℕ} (places : ℕ) (request : Option ℕ) → (old player).resend ≤ made
    → new player ≡ after_request places made (old player) request → ((p : ℕ) → p ≢ player → new p ≡ old p)
    → AreKept old new player made
kept_asked {old} {new} {player} {made} places request low is others = grind arith

-- and has told an end that is not strange
pub kept_told : {old new next : ℕ → Peer} {player made : ℕ} (exit : Bool) (got end : ℕ)
    → AreKept old new player made → is_strange_end exit got (old player).end end ≡ false
    → next player ≡ after_exit (new player) exit end → ((p : ℕ) → p ≢ player → next p ≡ new p)
    → AreKept old next player made
kept_told {old} {new} {next} {player} {made} exit got end kept fine is others = grind arith
