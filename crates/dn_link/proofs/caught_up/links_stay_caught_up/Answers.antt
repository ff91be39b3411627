use Rattle.std.proofs.Common.{◌≡◌, ◌≢◌, ◌<◌, ◌∙◌, ℕ, Bool, true, false, List, Option, None, Some, ap, sym, refl, arith}
use Rattle.std.proofs.lemmas.{Bool.{and_parts, eq-eqb, ltb-true, true≢false}, List.Elements.All-nil, Option.{none-some, same_Some}}
use Rattle.std.specs.Prelude.{◌==◌, if◌then◌else◌, nat_lt, not}
use Rattle.dn_seal.specs.declared.{opened.Opened.Opened, seal.Seal.Seal}
use Rattle.dn_remain.proofs.Vanished.Put.{at_put}
use Rattle.dn_machine.specs.{Node.is_ended, Sending.on_build, Running.on_quit, Sparing.on_run_but}
use Rattle.dn_lockstep.specs.{Contents.Contents, Steps.{marks_in, with_row}, Told.got}
use Rattle.dn_survivor.specs.{Surviving.Surviving, declared.others.Others.Others}
use Rattle.dn_link.specs.{Counting.has_ended, Linked.{Linked, PeerState, has_given_up, is_peer, probe, probe_for, remains}, CaughtUp.next_to, Pacing.PaceState, Text.sealed_bytes}
use Rattle.dn_link.proofs.{Catching.{build_quiet, quit_quiet, run_quiet, shows_still, still}, CatchingIn.received, CatchingOut.{given_on_time, was_in_step}, RemainingCalls.{much_by, shows}}
use Rattle.dn_link.proofs.Growing.{build_holds, run_holds, quit_holds}
use Rattle.dn_link.proofs.caught_up.links_stay_caught_up.Goals as goal

pub returns-clause-built : goal.returns-clause-built
returns-clause-built c = λ marking limits settings session links player new input made linked were mine step others peers.
    let m = linked.game.last.game.nodes player in
    let r = shows marking limits settings session links linked player mine in
    let much = much_by marking limits settings session links linked player mine new.node
    (λ limits me m. on_build limits me m input) (λ answer. made ≡ answer) step.step (build_holds limits player m input) in
    still limits links player new mine were (shows_still limits links player new mine were m _ r
    (step.step limits player m r).node (build_quiet limits links player new mine were m input))
    (ap (λ (o : Others). o.gone) others) (λ peer. ap (λ (f : ℕ → PeerState). (f peer).kept) peers)
    (λ was. much.1 (ap (λ (s : Surviving). has_ended s.lockstep) (sym (linked.survivors player mine)) ∙ was))

pub returns-clause-ran : goal.returns-clause-ran
returns-clause-ran c = λ marking limits settings session links player new marks ran row linked were mine step others peers.
    let m = linked.game.last.game.nodes player in
    let r = shows marking limits settings session links linked player mine in
    let much = much_by marking limits settings session links linked player mine new.node
    (λ limits me m. with_row limits m (on_run_but limits (has_given_up (links player)) m (marks_in marks)))
    (λ answer. (ran ≡ answer.0) × (row ≡ answer.1)) step.step (run_holds limits player m (has_given_up (links player)) (marks_in marks)) in
    still limits links player new mine were (shows_still limits links player new mine were m _ r
    (step.step limits player m r).node (run_quiet limits links player new mine were m (has_given_up (links player)) (marks_in marks)))
    (ap (λ (o : Others). o.gone) others) (λ peer. ap (λ (f : ℕ → PeerState). (f peer).kept) peers)
    (λ was. much.1 (ap (λ (s : Surviving). has_ended s.lockstep) (sym (linked.survivors player mine)) ∙ was))

pub returns-clause-quit : goal.returns-clause-quit
returns-clause-quit c = λ marking limits settings session links player new quit linked were mine step others peers.
    let m = linked.game.last.game.nodes player in
    let r = shows marking limits settings session links linked player mine in
    let much = much_by marking limits settings session links linked player mine new.node
    (λ limits me m. on_quit m) (λ answer. quit ≡ answer) step.step (quit_holds limits player m) in
    still limits links player new mine were (shows_still limits links player new mine were m _ r
    (step.step limits player m r).node (quit_quiet limits links player new mine were m))
    (ap (λ (o : Others). o.gone) others) (λ peer. ap (λ (f : ℕ → PeerState). (f peer).kept) peers)
    (λ was. much.1 (ap (λ (s : Surviving). has_ended s.lockstep) (sym (linked.survivors player mine)) ∙ was))

pub returns-clause-kept : goal.returns-clause-kept
returns-clause-kept c = λ marking limits settings session links player new linked were mine same gone peers.
    still limits links player new mine were (record {
      others = λ p l n. ap (λ (n : Contents). got n p) same;
      own = omega (arith, ap (λ (n : Contents). got n player) same);
      no_more = λ left. ap (λ (n : Contents). got n player) same;
      sends = λ p l. ap (λ (n : Contents). next_to n p) same;
      wants = λ p l. ap (λ (n : Contents). (n.peers p).want) same;
      ran = omega (arith, ap (λ (n : Contents). n.ran) same);
      plays_on = λ e. ap (λ (n : Contents). is_ended n.phase) (sym same) ∙ e;
    }) gone (λ other. ap (λ (f : ℕ → PeerState). (f other).kept) peers) (λ was. ap has_ended same ∙ was)

pub returns-clause-gave : goal.returns-clause-gave
returns-clause-gave c = λ marking limits settings session links player to seal pace new bytes linked were mine below
    apart fair in_time gives. (
      was_in_step marking limits settings session links linked player mine were to below apart seal pace new bytes gives in_time,
      given_on_time marking limits settings session links linked player mine were to below apart seal pace new bytes gives in_time,
    )

pub returns-clause-received : goal.returns-clause-received
returns-clause-received c = λ marking limits settings session links player seal bytes new answer linked were mine
    genuine in_step receives.
    let later = c.remaining_links_go_on.ensures.received marking limits settings session links player seal
    bytes new answer linked mine genuine receives in
    received marking limits settings session links linked player mine were new later.0 later.1 seal bytes answer genuine
    in_step receives

probe_given : (seal : Seal) (pace : PaceState) (link : Linked) (to : ℕ) (bytes : List ℕ)
    → probe_for seal pace link to ≡ Some bytes → (remains link to ≡ true) × (bytes ≡ sealed_bytes seal (probe pace link to))
probe_given seal pace link to bytes gave = go (remains link to) refl gave
  where
    go : (test : Bool) → remains link to ≡ test
        → (if test then Some (sealed_bytes seal (probe pace link to)) else None) ≡ Some bytes
        → (remains link to ≡ true) × (bytes ≡ sealed_bytes seal (probe pace link to))
    go true is gave = (is, sym (same_Some (sealed_bytes seal (probe pace link to)) bytes gave))
    go false is gave = absurd (none-some bytes gave)

is_other : (link : Linked) (to players me : ℕ) → link.node.players ≡ players → link.node.me ≡ me → remains link to ≡ true
    → (to < players) × (to ≢ me)
is_other link to players me all own is =
    let peer = and_parts (nat_lt to link.node.players) (not (to == link.node.me))
    (and_parts (is_peer link.node to) (not (has_given_up link to)) is).0 in
    let below = ltb-true to link.node.players peer.0 in
    (omega (arith, below, all), (λ e. true≢false (sym peer.1 ∙ ap not (eq-eqb to link.node.me (e ∙ sym own)))))

pub returns-clause-probed : goal.returns-clause-probed
returns-clause-probed c = λ marking limits settings session links player to seal pace new bytes linked were mine fits gave is.
    let r = shows marking limits settings session links linked player mine in
    let given = probe_given seal pace (links player) to bytes gave in
    let other = is_other (links player) to limits.players player r.whose.players r.whose.number given.0 in (
      (
        probe pace (links player) to,
        fits,
        given.1,
        record {
          sender = omega (arith, r.whose.number, mine);
          receiver = other.0;
          apart = λ e. other.1 (sym e ∙ r.whose.number);
          plain = refl;
          asks = All-nil (λ (packet : Opened). packet.ask ≡ None);
          follows = λ goes_on. tt;
        },
      ),
      still limits links player new mine were (record {
        others = λ p l n. ap (λ (l : Linked). got l.node p) is;
        own = omega (arith, ap (λ (l : Linked). got l.node player) is);
        no_more = λ left. ap (λ (l : Linked). got l.node player) is;
        sends = λ p l. ap (λ (l : Linked). next_to l.node p) is;
        wants = λ p l. ap (λ (l : Linked). (l.node.peers p).want) is;
        ran = omega (arith, ap (λ (l : Linked). l.node.ran) is);
        plays_on = λ e. ap (λ (l : Linked). is_ended l.node.phase) (sym is) ∙ e;
      }) (ap (λ (l : Linked). l.others.gone) is)
          (λ peer. ap (λ (l : Linked). (l.peers peer).kept) is
          ∙ at_put (λ (k : ℕ) (s : PeerState). s.kept ≡ ((links player).peers k).kept) (links player).peers to _ refl
          (λ k off. refl) peer)
          (λ was. ap (λ (l : Linked). has_ended l.node) is ∙ was),
    )
