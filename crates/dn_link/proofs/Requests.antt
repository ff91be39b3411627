-- What comes in leaves the packets to a peer as they go on, unless the peer asks for commands past those.
use Rattle.std.proofs.Common.{◌≡◌, ◌≢◌, ◌≤◌, ◌⊎◌, ℕ, Bool, true, false, List, [], ◌∷◌, refl, ap, sym, ◌∙◌, subst, arith, Option, Some, None, All, inl, inr}
use Rattle.std.specs.Prelude.{IfSome, Result, Ok, Err}
use Rattle.std.proofs.lemmas.Bool.{cases_eq}
use Rattle.std.proofs.lemmas.List.Elements.{All-head, All-tail}
use Rattle.dn_packet.specs.{declared.packet.Packet.Packet, declared.packet.PacketFault.PacketFault, Read.AreBytes, Read.Reading}
use Rattle.dn_setup.specs.{Settings.Settings, Setup.Told, declared.setup.SetupFault.SetupFault, declared.setup.SetupFault.TheVariants.NotSetup}
use Rattle.dn_seal.specs.{declared.opened.Opened.Opened, declared.seal.Seal.Seal}
use Rattle.dn_machine.specs.{Limits.Limits, Node.made}
use Rattle.dn_machine.proofs.Put.{put_at, put_off}
use Rattle.dn_machine.specs.Node as machine
use Rattle.dn_lockstep.specs.{Contents.Contents, Received.IsTold, Represents.Represents, Told.made as made_in}
use Rattle.dn_lockstep.proofs.Shown.{made_is}
use Rattle.dn_open.specs.{Arrivals.HearsOpened, declared.hearing.Arrived.Arrived, Sealed.sealing_of}
use Rattle.dn_link.specs.{declared.bundle.Bundle.Bundle, declared.bundle.BundleFault.BundleFault}
use Rattle.dn_link.specs.{declared.received.Received.Received, declared.received.Received.TheVariants.Excluded, declared.received.Received.TheVariants.GivenUp, declared.received.Received.TheVariants.Heard, Ends.excludes, declared.received.Received.TheVariants.Stranger, Counting.held_of, Counting.reached}
use Rattle.dn_link.specs.{Hearing.ByTest, Hearing.HearsAll, Kept.IsKeptRising, CaughtUp.AsksWithin, CaughtUp.GoesOn, CaughtUp.IsGone, CaughtUp.StillGoesOn, Reading.IsBundledAs}
use Rattle.dn_link.specs.{Linked.Linked, Linked.PeerState, Linked.Receives, Linked.ReceivesAs, Linked.TakesIn, Linked.TakesPackets, Linked.TakesRead, Linked.HearsPeer, Linked.surviving_of, Linked.after_report, Linked.has_given_up, Linked.is_peer, Linked.met, Linked.takes, Linked.with_reached}
use Rattle.dn_link.proofs.{Sending.opened_asked, Following.next_same, Following.same_peers, Following.still, Leaving.parts_from, Leaving.parts_heard, Leaving.stays_left, Covered.rises_past, Sending.resend_of}
use Rattle.dn_survivor.specs.{Calls.HearsReport, Calls.HearsReportUnless, Calls.refused_report, OfOthers.with_newest, Surviving.Surviving, declared.answers.Reported.Reported, declared.report.Report.Report, declared.report.ReportFault.ReportFault}
use Rattle.dn_link.proofs.Deciding.{report_same}
use Rattle.dn_link.proofs.Spelled.{IsSpelled, packets_of_bytes}
use Rattle.dn_link.specs.Packets.{heard_in, packets_in}

-- What comes in.

-- any bytes are read as something
pub record AreRead : Type 0 where
  pub bytes : (bytes : List ℕ) → AreBytes bytes → Reading bytes
  pub packet : (packet : Packet) → Told packet

telling : AreRead → (read : Result Packet PacketFault) → (told : Result Settings SetupFault) × IsTold read told
telling are (Ok packet) = let t = are.packet packet in (t.told, t.is_told)
telling are (Err fault) = (Err NotSetup, tt)

module _ (are : AreRead) (limits : Limits) (me to bound : ℕ) where
  -- a node of the machine that is shown afterwards, has made as many commands, and sends next from where one
  -- did, or not past the bound
  abbrev Heeds : machine.Node → Contents → Type 0
  Heeds m new = (next : machine.Node) × Represents limits me new next
      × (made me next ≡ made me m) × ((resend_of next to ≡ resend_of m to) ⊎ (resend_of next to ≤ bound))

  -- if it is the peer's, it asks for no more
  abbrev AsksLittle : Opened → Type 0
  AsksLittle packet = packet.from ≡ to → IfSome packet.ask (λ tic. tic ≤ bound)

  -- no more was made, or the peer asks for no more
  abbrev Within : machine.Node → List Opened → Type 0
  Within m packets = (made me m ≤ bound) ⊎ All AsksLittle packets

  one_heeds : (packet : Opened) (packets : List Opened) (now next : Contents) (answer : Arrived) (m : machine.Node)
      → Represents limits me now m → IsSpelled packet → Within m (packet ∷ packets)
      → HearsOpened packet now next answer → Heeds m next
  one_heeds packet packets now next answer m shows is within heard =
      let reading = are.bytes packet.datagram.items is in
      let told = telling are reading.read in
      let after = heard.step reading.read told.0 (reading.is_read, told.1) limits me m shows in
      let asked = opened_asked limits me m to packet reading.read told.0 (reading.is_read, told.1) in (
        _,
        after.node,
        asked.0,
        elim asked.1 [
          | inl same ↦ inl same
          | inr tells ↦ inr (elim within [
            | inl all ↦ omega (arith, all, tells.2)
            | inr asks ↦ subst (λ (o : Option ℕ). IfSome o (λ tic. tic ≤ bound)) tells.1
                (All-head AsksLittle packet packets asks tells.0)
          ])
        ],
      )

  heeds_on : (m mid : machine.Node) (new : Contents) → made me mid ≡ made me m
      → (resend_of mid to ≡ resend_of m to) ⊎ (resend_of mid to ≤ bound) → Heeds mid new → Heeds m new
  heeds_on m mid new count first (next, shows, counts, later) = (
    next,
    shows,
    counts ∙ count,
    elim later [
      | inr low ↦ inr low
      | inl same ↦ elim first [
        | inl before ↦ inl (same ∙ before)
        | inr low ↦ inr (omega (arith, same, low))
      ]
    ],
  )

  within_on : (m mid : machine.Node) (packets more : List Opened) → made me mid ≡ made me m
      → (All AsksLittle packets → All AsksLittle more) → Within m packets → Within mid more
  within_on m mid packets more count rest within = elim within [
    | inl all ↦ inl (omega (arith, all, count))
    | inr asks ↦ inr (rest asks)
  ]

  all_heeds : (packets : List Opened) (now new : Contents) (m : machine.Node)
      → Represents limits me now m → All IsSpelled packets → Within m packets → HearsAll packets now new → Heeds m new
  all_heeds [] now new m shows all within heard =
      (m, subst (λ (n : Contents). Represents limits me n m) (sym heard) shows, refl, inl refl)
  all_heeds (packet ∷ packets) now new m shows all within (next, answer, one, spares, then) =
      let first = one_heeds packet packets now next answer m shows (All-head IsSpelled packet packets all) within one in
      heeds_on m first.0 new first.2 first.3 (all_heeds packets next new first.0 first.1
      (All-tail IsSpelled packet packets all) (within_on m first.0 (packet ∷ packets) packets first.2
      (λ asks. All-tail AsksLittle packet packets asks) within) then)

module _ (are : AreRead) (limits : Limits) (me to : ℕ) (old new : Linked) (goes_old : GoesOn limits me to old) where
  -- of the peer, which sent the datagram or did not
  record IsMet : Type 0 where
    rising : IsKeptRising (new.peers to).kept
    more : (old.peers to).kept.covered ≤ (new.peers to).kept.covered
    gone : IsGone (old.peers to).left → IsGone (new.peers to).left

  is_met : (bundle : Bundle) → TakesPackets bundle old new → IsMet
  is_met bundle takes =
      let now : new.peers to ≡ with_reached new.node (met bundle old).peers to =
      ap (λ (f : ℕ → PeerState). f to) takes.peers in
      let mid = met_so (cases_eq to bundle.from) in
      record {
        rising = subst (λ (t : PeerState). IsKeptRising t.kept) (sym now) (rises_past _ _ _ (reached new.node to) mid.0);
        more = omega (arith, ap (λ (t : PeerState). t.kept.covered) now, mid.1.0);
        gone = λ gone. let is = mid.1.1 gone in (is.0, ap (λ (t : PeerState). t.left) now ∙ is.1);
      }
    where
      -- before what was heard acknowledges
      IsMid : PeerState → Type 0
      IsMid mid =
          IsKeptRising mid.kept × (((old.peers to).kept.covered ≤ mid.kept.covered)
          × (IsGone (old.peers to).left → IsGone mid.left))

      told : PeerState
      told = after_report old.node bundle (old.peers bundle.from)

      met_so : (to ≡ bundle.from) ⊎ (to ≢ bundle.from) → IsMid ((met bundle old).peers to)
      met_so (inl at) =
          let was : old.peers to ≡ old.peers bundle.from = ap old.peers at in
          subst IsMid (sym (put_at old.peers bundle.from to told at)) (
            rises_past _ _ _ _ (subst (λ (t : PeerState). IsKeptRising t.kept) was goes_old.rising),
            (
              omega (arith, ap (λ (t : PeerState). t.kept.covered) was),
              (λ gone. stays_left bundle (old.peers bundle.from).left
                  (gone.0, ap (λ (t : PeerState). t.left) (sym was) ∙ gone.1)),
            ),
          )
      met_so (inr off) = subst IsMid (sym (put_off old.peers bundle.from to told off))
          (goes_old.rising, (omega arith, (λ gone. gone)))

  nothing : new ≡ old → StillGoesOn limits me to old new
  nothing same =
      same_peers limits me to old new goes_old goes_old.node
      (subst (λ (l : Linked). Represents limits me l.node goes_old.node) (sym same) goes_old.shows) refl
      (ap (λ (l : Linked). l.peers) same)

  taken_in : (bundle : Bundle) → All IsSpelled (packets_in bundle) → (made me goes_old.node ≤ (new.peers to).kept.covered)
      ⊎ (bundle.from ≡ to → All (λ packet. IfSome packet.ask (λ tic. tic ≤ (new.peers to).kept.covered)) (packets_in bundle))
      → TakesPackets bundle old new → StillGoesOn limits me to old new
  taken_in bundle all within takes_it =
      let met_now = is_met bundle takes_it in
      let heeds : Heeds are limits me to (new.peers to).kept.covered goes_old.node new.node =
      all_heeds are limits me to (new.peers to).kept.covered (heard_in (takes old) bundle) old.node new.node
      goes_old.node goes_old.shows
      (parts_heard (has_given_up old) (held_of old.node) bundle.from IsSpelled bundle.parts.items all) little takes_it.heard in
      still limits me to old new goes_old heeds.0 heeds.1 met_now.rising met_now.more (elim heeds.3 [
        | inl same ↦ next_same limits me to old new goes_old heeds.0 met_now.more met_now.gone same
        | inr low ↦ inr low
      ])
    where
      -- what third players have handed on asks for nothing
      little : Within are limits me to (new.peers to).kept.covered goes_old.node (heard_in (takes old) bundle)
      little = elim within [
        | inl few ↦ inl few
        | inr asks ↦ inr (λ k d below e. elim (parts_from (has_given_up old) (held_of old.node) bundle.from bundle.parts.items k d below) [
          | inl own ↦ parts_heard (has_given_up old) (held_of old.node) bundle.from (λ p. IfSome p.ask (λ tic. tic ≤ (new.peers to).kept.covered))
              bundle.parts.items (asks (sym own ∙ e)) k d below
          | inr third ↦ subst (λ (o : Option ℕ). IfSome o (λ tic. tic ≤ (new.peers to).kept.covered)) (sym third.1) tt
        ])
      ]

-- a report that comes with a datagram
module _ (limits : Limits) (me to : ℕ) (old new : Linked) (goes_old : GoesOn limits me to old) where
  reported : (from : ℕ) (report : Report) (answer : Reported)
      → HearsReport from report (surviving_of old) (surviving_of new) answer → new.peers ≡ old.peers
      → StillGoesOn limits me to old new
  reported from report answer hears peers = go (refused_report (surviving_of old) from report) hears
    where
      go : (refused : Option Reported)
          → HearsReportUnless refused from report (surviving_of old) (surviving_of new) answer
          → StillGoesOn limits me to old new
      go (Some reason) stays =
          same_peers limits me to old new goes_old goes_old.node (subst (λ (s : Surviving). Represents limits me
          s.lockstep goes_old.node) (sym stays.1) goes_old.shows) refl peers
      go None steps =
          same_peers limits me to old new goes_old _ (steps.1.step limits me goes_old.node goes_old.shows).node
          (report_same limits me to (with_newest old.others from report) goes_old.node) peers

  read : (from : ℕ) (told : Result Report ReportFault) → TakesRead from told old new → StillGoesOn limits me to old new
  read from (Err fault) same =
      same_peers limits me to old new goes_old goes_old.node
      (subst (λ (l : Linked). Represents limits me l.node goes_old.node) (sym same) goes_old.shows) refl
      (ap (λ (l : Linked). l.peers) same)
  read from (Ok report) (answer, hears, waits, quiet, peers) = reported from report answer hears peers

read_peers : (from : ℕ) (told : Result Report ReportFault) (mid new : Linked) → TakesRead from told mid new
    → new.peers ≡ mid.peers
read_peers from (Err fault) mid new same = ap (λ (l : Linked). l.peers) same
read_peers from (Ok report) mid new (answer, hears, waits, quiet, peers) = peers

module _ (are : AreRead) (limits : Limits) (me to : ℕ) (old new : Linked) (goes_old : GoesOn limits me to old) where
  -- all that the node made is covered, or the peer asks for no more than is
  abbrev IsWithin : Seal → List ℕ → Type 0
  IsWithin seal bytes =
      (made_in old.node ≤ (new.peers to).kept.covered) ⊎ AsksWithin seal me to (new.peers to).kept.covered bytes

  received_as : (seal : Seal) (bytes : List ℕ) (answer : Received)
      → AreBytes bytes → IsWithin seal bytes
      → (opened : Result Bundle BundleFault) → IsBundledAs (sealing_of seal me) bytes opened
      → ReceivesAs opened old new answer → StillGoesOn limits me to old new
  received_as seal bytes answer fit asks (Err fault) is comes = nothing are limits me to old new goes_old comes.1
  received_as seal bytes answer fit asks (Ok bundle) is comes = go (is_peer old.node bundle.from) comes
    where
      count : made_in old.node ≡ made me goes_old.node
      count = made_is limits me old.node goes_old.node goes_old.shows
          (omega (arith, goes_old.mine, goes_old.shows.whose.number, goes_old.shows.whose.players))

      same : new ≡ old → StillGoesOn limits me to old new
      same is = nothing are limits me to old new goes_old is

      -- its packets, and then its report
      taken : TakesIn bundle old new → StillGoesOn limits me to old new
      taken (mid, packets, told, reads, comes) =
          let kept = ap (λ (f : ℕ → PeerState). (f to).kept.covered) (read_peers bundle.from told mid new comes) in
          let first = taken_in are limits me to old mid goes_old bundle
          (packets_of_bytes seal bundle (subst AreBytes is.is fit)) (elim asks [
            | inl all ↦ inl (omega (arith, all, count, kept))
            | inr none ↦ inr (λ from. subst (λ (k : ℕ). All (λ packet. IfSome packet.ask (λ tic. tic ≤ k)) (packets_in bundle)) kept (none bundle is from))
          ]) packets in
          let second = read limits me to mid new first.goes bundle.from told comes in
          record { goes = second.goes; covered = omega (arith, first.covered, second.covered) }

      of_plain : (test : Bool) → ByTest test ((answer ≡ Excluded bundle.from) × (new ≡ old))
          ((answer ≡ Heard bundle.from) × TakesIn bundle old new) → StillGoesOn limits me to old new
      of_plain true comes = same comes.1
      of_plain false comes = taken comes.1

      of_peer : (test : Bool) → ByTest test ((answer ≡ GivenUp bundle.from) × (new ≡ old))
          (HearsPeer bundle old new answer) → StillGoesOn limits me to old new
      of_peer true comes = same comes.1
      of_peer false comes = of_plain (excludes bundle) comes

      go : (test : Bool) → ByTest test
          (ByTest (has_given_up old bundle.from) ((answer ≡ GivenUp bundle.from) × (new ≡ old))
          (HearsPeer bundle old new answer)) ((answer ≡ Stranger bundle.from) × (new ≡ old))
          → StillGoesOn limits me to old new
      go true comes = of_peer (has_given_up old bundle.from) comes
      go false comes = same comes.1

  pub received : (seal : Seal) (bytes : List ℕ) (answer : Received)
      → AreBytes bytes → Receives seal bytes old new answer → IsWithin seal bytes → StillGoesOn limits me to old new
  received seal bytes answer fit receives asks =
      received_as seal bytes answer fit asks receives.0
      (subst (λ (k : ℕ). IsBundledAs (sealing_of seal k) bytes receives.0) goes_old.shows.whose.number receives.1)
      receives.2
