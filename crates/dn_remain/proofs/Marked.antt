-- What every node's commands, marks and demo are made of, and that calls keep it.
use Rattle.std.proofs.Common.{◌≡◌, ◌≢◌, ℕ, ℤ, zero, suc, ◌+◌, ◌<◌, ◌≤◌, refl, sym, ◌∙◌, ap, arith, List, [], ◌∷◌, ◌++◌, length, get_or, take, false, Option, Some, fold, Bool, true, take-suc}
use Rattle.std.proofs.lemmas.{List.length_push, List.get_or_append_left, List.get_or_push, List.take-append-le, List.take_all}
use Rattle.std.proofs.lemmas.Bool.{cond_both, cond-false}
use Rattle.dn_tic.specs.{declared.{command.{TicCmd.TicCmd, Move.Move}, input.Input.Input}, Inputs.made_by}
use Rattle.dn_setup.specs.Settings.{Settings}
use Rattle.dn_machine.specs.{declared.answers.Phase.TheVariants.Ended, Sending.on_build, Running.{tic_limit, on_quit}}
use Rattle.dn_machine.specs.{Node.{Node, made, ran, held_at, own_mark, demo_rows}, Hearing.on_packet}
use Rattle.dn_machine.specs.{Running.is_over, Worlds.Rules, Worlds.opening, Worlds.world_after, declared.answers.Heard.Heard, declared.answers.Phase.Phase, Flight.Flight, Limits.Limits, Sending.on_send}
use Rattle.dn_machine.proofs.{Calls.{build_cases, built, send_cases, quit_cases, packet_cases}, Put.{put_at, put_off}}
use Rattle.dn_remain.specs.Wary.{end_seen, holder_of, Report, Wary, or_fresh, settled, after_news, noted_gone, with_gone, with_report, on_give_up, on_report}
use Rattle.dn_remain.specs.Vanished.Commands.{on_decision, longest, told}
use Rattle.dn_remain.proofs.{Seeing.over_stays, Each.{news_cases, give_up_cases, report_cases}}
use Rattle.dn_machine.specs.declared.answers.Cause.TheVariants as Cause

-- What a call on a node leaves as it was, which is no build and no run.

-- what the node itself made and ran, and what it was told when it ran
pub record IsAlike (me : ℕ) (old new : Node) : Type 0 where
  pub inputs : new.inputs ≡ old.inputs
  pub held : new.held me ≡ old.held me
  pub rows : new.rows ≡ old.rows
  pub marks : new.marks ≡ old.marks
  -- and no check failed
  pub consistent : (player : ℕ) (was should : ℤ) → new.phase ≡ Ended (Cause.Inconsistent player was should)
      → old.phase ≡ Ended (Cause.Inconsistent player was should)

alike_self : (me : ℕ) (node : Node) → IsAlike me node node
alike_self me node =
    record { inputs = refl; held = refl; rows = refl; marks = refl; consistent = λ player was should e. e }

alike_joined : (me : ℕ) (a b c : Node) → IsAlike me a b → IsAlike me b c → IsAlike me a c
alike_joined me a b c h k = grind arith

-- in the same phase
in_the_same : (me : ℕ) (node new : Node) → new.inputs ≡ node.inputs → new.held me ≡ node.held me
    → new.rows ≡ node.rows → new.marks ≡ node.marks → new.phase ≡ node.phase → IsAlike me node new
in_the_same me node new i h r m p =
    record { inputs = i; held = h; rows = r; marks = m; consistent = λ player was should e. sym p ∙ e }

-- in another phase, that is no failed check
in_phase : (me : ℕ) (node new : Node) → new.inputs ≡ node.inputs → new.held me ≡ node.held me
    → new.rows ≡ node.rows → new.marks ≡ node.marks
    → ((player : ℕ) (was should : ℤ) → new.phase ≢ Ended (Cause.Inconsistent player was should))
    → IsAlike me node new
in_phase me node new i h r m other = grind arith

module _ (limits : Limits) (me : ℕ) (node : Node) where
  pub alike_sent : (to : ℕ) → IsAlike me node (on_send limits me node to).0
  alike_sent to = send_cases limits me node (λ (r : Node × Option Flight). IsAlike me node r.0) to
      (alike_self me node) (λ other gathers. alike_self me node)
      (λ other plays. in_the_same me node _ refl refl refl refl refl)
      (λ other left. in_the_same me node _ refl refl refl refl refl)

  pub alike_quit : IsAlike me node (on_quit node).0
  alike_quit = quit_cases limits me node (λ (n : Node). IsAlike me node n) (alike_self me node)
      (λ on. in_phase me node _ refl refl refl refl (λ p w s e. cc))

  pub alike_heard : (flight : Flight) → flight.to ≡ me → flight.from ≢ flight.to
      → IsAlike me node (on_packet limits me node flight).0
  alike_heard flight to_me apart = packet_cases limits me node flight (λ
      (r : Node × Heard). IsAlike me node r.0) (record {
        dropped = λ number why. alike_self me node;
        starts = λ s listens kind. in_phase me node _ refl refl refl refl (λ p w s e. cc);
        completes = λ word g all. in_phase me node _ refl refl refl refl (λ p w s e. cc);
        notes = λ word g some. in_the_same me node _ refl refl refl refl refl;
        commands = grind (arith, alike_self, in_the_same, put_off);
        requests = λ ended. in_the_same me node _ refl refl refl refl refl;
      })

  alike_noted : (player : ℕ) (phase : Phase) → IsAlike me node (noted_gone limits node player phase)
  alike_noted player phase = grind (arith, alike_self, cond_both, in_phase, in_the_same)

  alike_settled : (gone : ℕ → Bool) (heard : ℕ → Report) → gone me ≡ false
      → IsAlike me node (settled node gone (on_decision limits.players me (holder_of node gone) heard))
  alike_settled gone heard own = grind (arith, cond-false, longest, told, holder_of)

module _ (limits : Limits) (me : ℕ) (wary : Wary) where
  alike_news : wary.gone me ≡ false → IsAlike me wary.node (after_news limits me wary).node
  alike_news own = news_cases limits me wary (λ (w : Wary). IsAlike me wary.node w.node) (alike_self me wary.node)
      (λ can. alike_settled limits me wary.node wary.gone (λ player. or_fresh (wary.newest player)) own)

module _ (limits : Limits) (me : ℕ) (wary : Wary) (own : wary.gone me ≡ false) where
  pub alike_give_up : (player : ℕ) → IsAlike me wary.node (on_give_up limits me wary player).0.node
  alike_give_up player = give_up_cases limits me wary (λ (w : Wary). IsAlike me wary.node w.node) player
      (alike_self me wary.node)
      (λ phase low apart new. alike_joined me wary.node (with_gone limits wary player).node _
      (alike_noted limits me wary.node player wary.node.phase) (alike_news limits me (with_gone limits wary player)
      (put_off wary.gone player me true (λ e. apart (sym e)) ∙ own)))

  pub alike_report : (from : ℕ) (report : Report)
      → IsAlike me wary.node (on_report limits me wary from report).0.node
  alike_report from report = report_cases limits me wary (λ (w : Wary). IsAlike me wary.node w.node) from report
      (alike_self me wary.node)
      (λ phase here there newer. alike_news limits me (with_report wary from report) own)

-- node `me` by itself
pub record IsMarked {S : Type 0} (rules : Rules S) (settings : Settings) (me : ℕ) (node : Node) : Type 0 where
  -- it made a command of each input, by the marks that it was told
  pub counted : length node.inputs ≡ made me node
  pub own : rules.ahead ≤ 12 → (tic : ℕ) → tic < made me node
      → held_at node me tic ≡ made_by (take (tic + 1) node.inputs) (own_mark node me tic)
  -- these are the marks of its own worlds, of those who took part
  pub told : (p tic : ℕ) → p < rules.players → tic < ran node → is_over (end_seen node p) tic ≡ false
      → node.marks tic p ≡ rules.physics.mark (world_after rules settings node.rows tic) p
  pub consistent : rules.ahead ≤ 12 → (player : ℕ) (was should : ℤ)
      → node.phase ≢ Ended (Cause.Inconsistent player was should)
  pub room : length (demo_rows rules.players node) ≤ rules.capacity
  pub most : rules.capacity ≤ tic_limit → ran node ≤ tic_limit

-- worlds by rows that are the same
pub fronts_same : {A : Type 0} (xs ys : List A) (d : A) (n : ℕ) → n ≤ length xs → n ≤ length ys
    → ((k : ℕ) → k < n → get_or xs k d ≡ get_or ys k d) → take n xs ≡ take n ys
fronts_same xs ys d zero l m h = refl
fronts_same {A} xs ys d (suc n) l m h =
    take-suc xs n d (omega arith)
    ∙ (ap (λ (zs : List A). zs ++ get_or xs n d ∷ []) (fronts_same xs ys d n (omega arith) (omega arith)
    (λ k o. h k (omega arith)))
    ∙ (ap (λ (x : A). take n ys ++ x ∷ []) (h n (omega arith)) ∙ sym (take-suc ys n d (omega arith))))

module _ {S : Type 0} (rules : Rules S) (settings : Settings) where
  pub world_same : (xs ys : List (List (Option Move))) (n : ℕ) → take n xs ≡ take n ys
      → world_after rules settings xs n ≡ world_after rules settings ys n
  unfolding world_after
  world_same xs ys n e = ap (λ (rows : List (List (Option Move))). fold rules.physics.step
      (opening rules settings) rows) e

  module _ (me : ℕ) (old : Node) (h : IsMarked rules settings me old) where
    -- a call that is no build and no run
    pub alike_keeps : (new : Node) → IsAlike me old new
        → ((p e : ℕ) → end_seen old p ≡ Some e → end_seen new p ≡ Some e) → IsMarked rules settings me new
    alike_keeps new a ends = grind (arith, made_by, world_after, over_stays)

    -- a build
    pub build_keeps : (input : Input)
        → ((p e : ℕ) → end_seen old p ≡ Some e → end_seen (on_build rules.limits me old input).0 p ≡ Some e)
        → IsMarked rules settings me (on_build rules.limits me old input).0
    build_keeps input = build_cases rules.limits me old
        (λ (n : Node). ((p e : ℕ) → end_seen old p ≡ Some e → end_seen n p ≡ Some e)
        → IsMarked rules settings me n) input
        (λ full ends. h) (λ plays room ends. builds room ends)
      where
        new : TicCmd
        new = made_by (old.inputs ++ input ∷ []) (own_mark old me (made me old))

        own_is : (built rules.limits me old input).held me
            ≡ old.held me ++ made_by (old.inputs ++ input ∷ []) (own_mark old me (made me old)) ∷ []
        own_is = put_at old.held me me _ refl

        builds : made me old < ran old + rules.ahead
            → ((p e : ℕ) → end_seen old p ≡ Some e → end_seen (built rules.limits me old input) p ≡ Some e)
            → IsMarked rules settings me (built rules.limits me old input)
        builds room ends =
            grind (arith, length_push, made_by, get_or_append_left, take-append-le, get_or_push, take_all, over_stays)
