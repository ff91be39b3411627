-- What a link takes in, within one game in which players may be given up.
use Rattle.std.proofs.Common.{◌≡◌, ◌<◌, ℕ, Bool, true, false, List, refl, ap, sym, ◌∙◌, subst, All, inl, inr}
use Rattle.std.specs.Prelude.{Result, Ok, Err}
use Rattle.dn_survivor.specs.{Calls.HearsReport, Surviving.Surviving, declared.{report.{Report.Report, ReportFault.ReportFault}, others.Others.Others}, ReportBytes.IsReadAs, OfOthers.has}
use Rattle.dn_survivor.specs.OneGame.{AreRemaining, Session, with_survivor}
use Rattle.dn_setup.specs.Settings.{Settings}
use Rattle.dn_machine.specs.{Limits.Limits, Node.put}
use Rattle.dn_machine.proofs.Put.{put_at}
use Rattle.dn_remain.proofs.Vanished.Put.{twice_put}
use Rattle.dn_lockstep.specs.{Contents.Contents, Marking.Marking}
use Rattle.dn_seal.specs.declared.seal.Seal.{Seal}
use Rattle.dn_link.specs.{declared.{bundle.{Bundle.Bundle, BundleFault.BundleFault}, received.Received.{Received, TheVariants.{Excluded, GivenUp, Heard, Stranger}}}, Ends.excludes, Counting.held_of}
use Rattle.dn_link.specs.{RemainingLinks.WasGiven, Hearing.ByTest, Packets.{heard_in, packets_in}, Reading.{IsBundledAs, IsDatagramOf}}
use Rattle.dn_link.specs.RemainingLinks.{AreRemainingLinks, HasReached, IsGenuineIn, IsLater, IsTrulyTold, WasSealedIn, WasTold}
use Rattle.dn_link.specs.Linked.{HearsPeer, Linked, Receives, ReceivesAs, TakesIn, TakesPackets, TakesRead, has_given_up, is_peer, met, surviving_of, takes}
use Rattle.dn_open.specs.Sealed.{sealing_of}
use Rattle.dn_link.proofs.{Keeping.all_along, Linking.same_bundle, Relinking.{AreKept, met_kept, reached_kept}, Letters.{AreWith, MayBeHeard, packet_grows}, RemainingCalls.GoOn}
use Rattle.dn_link.proofs.{Growing.{HasAsMuch, as_much}, Knowing.{heard_told, later_on, met_told, nothing_given, reached_on, told_on}}
use Rattle.dn_link.proofs.{Leaving.{parts_from, parts_heard}}
use Rattle.dn_survivor.proofs.OneGame as one_game
use Rattle.dn_link.proofs.RemainingCalls as base

module _ (marking : Marking) (limits : Limits) (settings : Settings) (session : Session) (links : ℕ → Linked)
    (linked : AreRemainingLinks marking limits settings session links) (player : ℕ)
    (mine : player < limits.players) where
  abbrev old : Linked
  old = links player

  own : old.node.me ≡ player
  own = base.own marking limits settings session links linked player mine

  abbrev HasTaken : Linked → Type 0
  HasTaken new =
      GoOn marking limits settings session links linked (with_survivor session player (surviving_of new))
      (put links player new)

  same_link : (new : Linked) → new ≡ old → HasTaken new
  same_link = base.same_link marking limits settings session links linked player mine

  -- the survivors are those of one game with this lockstep at the player
  abbrev AreHere : Contents → Type 0
  AreHere now = AreWith marking limits settings session player old.others now

  here : AreHere old.node
  here =
      one_game.keeps marking limits settings linked.game player (surviving_of old)
      (base.survivor marking limits settings session links linked player mine)

  taken_in : (bundle : Bundle) (new : Linked) → All (WasGiven session.packets player) (packets_in bundle)
      → HasReached session.survivors bundle → has old.others.gone bundle.from ≡ false → TakesPackets bundle old new
      → HasTaken new
  taken_in bundle new all reached free takes_it =
      let on = all_along (MayBeHeard marking limits settings session player old.others)
      (λ now. AreHere now × HasAsMuch player old.node now)
      (packet_grows marking limits settings session player old.others mine old.node) (heard_in (takes old) bundle) old.node
      new.node (here, as_much player old.node)
      (λ k d below. (
        parts_heard (has_given_up old) (held_of old.node) bundle.from (WasGiven session.packets player) bundle.parts.items all k d below,
        elim (parts_from (has_given_up old) (held_of old.node) bundle.from bundle.parts.items k d below) [
          | inl own ↦ ap (λ (from : ℕ). has old.others.gone from) own ∙ free
          | inr third ↦ third.0
        ],
      )) takes_it.heard in
      let later : Session = with_survivor session player (surviving_of new) in
      let is = nothing_given session later player (surviving_of new) refl
      (base.much_on marking limits settings session links linked player mine new.node on.1) refl refl in
      base.relinked marking limits settings session links linked later player new
      (subst (λ (o : Others). AreRemaining marking limits settings
      (with_survivor session player (record { lockstep = new.node; others = o }))) (sym takes_it.others) on.0) refl is
      (subst (AreKept session.packets player) (sym takes_it.peers)
      (reached_kept session.packets player new.node (met bundle old).peers
      (met_kept session.packets player old bundle
      (base.all_kept marking limits settings session links linked player mine))))
      (subst (IsTrulyTold later.survivors) (sym takes_it.peers)
      (heard_told later.survivors (met bundle old).peers
      (met_told later.survivors old bundle (told_on session later old.peers is (linked.told player mine))
      (reached_on session later bundle is reached)) new.node))

  -- and then the report, if it is one
  module _ (bundle : Bundle) (mid new : Linked) (taken : HasTaken mid) (of : bundle.to ≡ player)
      (told : (report : Report) → IsReadAs bundle.report.items (Ok report)
      → WasTold session.reports bundle.from bundle.to report) where
    abbrev later : Session
    later = with_survivor session player (surviving_of mid)

    -- the session and the links of two calls, one after the other, are those of one
    as_one : (new : Linked) → AreRemainingLinks marking limits settings
        (with_survivor later player (surviving_of new)) (put (put links player mid) player new)
        → IsLater later (with_survivor later player (surviving_of new)) → HasTaken new
    as_one new are is =
        subst (λ (survivors : ℕ → Surviving). AreRemainingLinks marking limits settings
        (record session { survivors = survivors }) (put links player new)
        × IsLater session (record session { survivors = survivors }))
        (twice_put session.survivors player (surviving_of mid) (surviving_of new)) (
          subst (AreRemainingLinks marking limits settings (with_survivor later player (surviving_of new)))
              (twice_put links player mid new) are,
          later_on session later (with_survivor later player (surviving_of new)) taken.1 is,
        )

    reported : (read : Result Report ReportFault) → IsReadAs bundle.report.items read
        → TakesRead bundle.from read mid new → HasTaken new
    reported (Err fault) is same = subst HasTaken (sym same) taken
    reported (Ok report) is (answer, hears, waits, quiet, peers) =
        let was = told report is in
        let here : put links player mid bundle.to ≡ mid = put_at links player bundle.to mid of in
        let on = base.reported marking limits settings later (put links player mid) taken.0 was.0
        (record { from = bundle.from; to = bundle.to; report = report }) new answer was.1
        (subst (λ (l : Linked). HearsReport bundle.from report (surviving_of l) (surviving_of new) answer) (sym here) hears)
        (peers ∙ ap (λ (l : Linked). l.peers) (sym here)) in
        let both = subst (λ (k : ℕ). AreRemainingLinks marking limits settings
        (with_survivor later k (surviving_of new)) (put (put links player mid) k new)
        × IsLater later (with_survivor later k (surviving_of new))) of on in
        as_one new both.0 both.1

  -- a datagram that is opened
  opened_in : (seal : Seal) (bytes : List ℕ) (new : Linked)
      (answer : Received) (bundle : Bundle) → WasSealedIn seal session bytes
      → IsDatagramOf (sealing_of seal player) bytes bundle → has old.others.gone bundle.from ≡ false
      → TakesIn bundle old new → HasTaken new
  opened_in seal bytes new answer bundle was is free (mid, packets, read, reads, comes) =
      let same = same_bundle seal bytes bundle was.0 player is was.1 was.2 in
      let all = subst (λ (b : Bundle). All (WasGiven session.packets b.to) (packets_in b)) same was.3 in
      let told = subst (λ (b : Bundle). (report : Report) → IsReadAs b.report.items (Ok report)
      → WasTold session.reports b.from b.to report) same was.4 in
      let taken = taken_in bundle mid
      (subst (λ (k : ℕ). All (WasGiven session.packets k) (packets_in bundle)) is.to all)
      (subst (HasReached session.survivors) same was.5) free packets in
      reported bundle mid new taken is.to told read reads comes

  received_as : (seal : Seal) (bytes : List ℕ) (new : Linked)
      (answer : Received) → IsGenuineIn seal session player bytes → (opened : Result Bundle BundleFault)
      → IsBundledAs (sealing_of seal player) bytes opened → ReceivesAs opened old new answer
      → HasTaken new
  received_as seal bytes new answer genuine (Err fault) is comes = same_link new comes.1
  received_as seal bytes new answer genuine (Ok bundle) is comes =
      go (is_peer old.node bundle.from) comes
    where
      of_plain : has_given_up old bundle.from ≡ false → (test : Bool)
          → ByTest test ((answer ≡ Excluded bundle.from) × (new ≡ old))
          ((answer ≡ Heard bundle.from) × TakesIn bundle old new) → HasTaken new
      of_plain free true comes = same_link new comes.1
      of_plain free false comes = opened_in seal bytes new answer bundle (genuine bundle is) is free comes.1

      of_peer : (test : Bool) → has_given_up old bundle.from ≡ test
          → ByTest test ((answer ≡ GivenUp bundle.from) × (new ≡ old)) (HearsPeer bundle old new answer)
          → HasTaken new
      of_peer true gone comes = same_link new comes.1
      of_peer false free comes = of_plain free (excludes bundle) comes

      go : (test : Bool) → ByTest test
          (ByTest (has_given_up old bundle.from) ((answer ≡ GivenUp bundle.from) × (new ≡ old))
          (HearsPeer bundle old new answer)) ((answer ≡ Stranger bundle.from) × (new ≡ old)) → HasTaken new
      go true comes = of_peer (has_given_up old bundle.from) refl comes
      go false comes = same_link new comes.1

  pub received : (seal : Seal) (bytes : List ℕ) (new : Linked) (answer : Received)
      → IsGenuineIn seal session player bytes → Receives seal bytes old new answer → HasTaken new
  received seal bytes new answer genuine comes =
      received_as seal bytes new answer genuine comes.0
      (subst (λ (k : ℕ). IsBundledAs (sealing_of seal k) bytes comes.0) own comes.1) comes.2
