-- A packet that was given is heard within one game of survivors.
use Rattle.std.proofs.{Common.{◌≡◌, ◌<◌, ◌&&◌, ℕ, Bool, true, false, refl, ap, sym, ◌∙◌, subst, arith, Some}, lemmas.Bool.both_ways}
use Rattle.std.specs.Prelude.{Result, Ok, slice_get}
use Rattle.dn_packet.specs.declared.packet.{Packet.Packet, PacketFault.PacketFault}
use Rattle.dn_setup.specs.{Settings.Settings, declared.setup.SetupFault.SetupFault}
use Rattle.dn_machine.specs.{declared.answers.Heard.Heard, Flight.{Flight, packet_of, is_close, is_request_close}, Limits.Limits, Node.put}
use Rattle.dn_machine.proofs.Put.{put_at}
use Rattle.dn_remain.proofs.Vanished.Put.{twice_put}
use Rattle.dn_lockstep.specs.{Contents.Contents, Hearing.{HearsAny, Spares}, Marking.Marking, Received.received, Represents.Represents, Sent.bytes_of, Steps.IsAfter, Told.made}
use Rattle.dn_lockstep.proofs.{Shown.made_is, Receiving.{near_from_any, told_by, told_is}}
use Rattle.dn_survivor.specs.{declared.others.Others.Others, OfOthers.has, OneGame.{AreRemaining, Session, with_survivor}, Surviving.{Surviving, has_given_up}}
use Rattle.dn_seal.specs.declared.opened.Opened.{Opened}
use Rattle.dn_open.specs.{Arrivals.{HearsOpened, IsRead, SparesSealed, heard, on_opened}, declared.hearing.Arrived.Arrived, Sealed.opened_of}
use Rattle.dn_open.proofs.Letters.{alike, near_if}
use Rattle.dn_link.specs.RemainingLinks.{WasGiven}
use Rattle.dn_link.proofs.{Growing.{HasAsMuch, grows, much_on, opened_holds}, Keeping.KeepsOne}
use Rattle.dn_machine.specs.Node as machine
use Rattle.dn_survivor.proofs.OneGame as one_game

same_heard : (one other : Heard) → ◌≡◌ {A = Arrived} (Arrived.Heard one) (Arrived.Heard other) → one ≡ other
same_heard one other e = cc

-- the numbers of a packet are close to a count
abbrev close_to : ℕ → Flight → Bool
close_to count flight = is_close count flight.start && is_request_close count flight.request

-- what is opened of a close packet is heard as its sender's
module _ (n new : Contents) (flight : Flight) (answer : Arrived)
    (hears : HearsOpened (opened_of flight) n new answer) where
  heard_in : (limits : Limits) (me : ℕ) (m : machine.Node) (read : Result Packet PacketFault)
      (told : Result Settings SetupFault) → close_to (machine.made me m) flight ≡ true
      → IsRead (opened_of flight) read told → Represents limits me n m
      → IsAfter limits me new (received limits me m flight.from told read) (λ x. answer ≡ Arrived.Heard x)
  heard_in limits me m read told close reads r =
      let step : on_opened limits me m (opened_of flight) read told
      ≡ heard (received limits me m flight.from told read) = rw (close, alike flight) refl in
      let after = subst (λ (x : machine.Node × Arrived). IsAfter limits me new x (λ y. answer ≡ y)) step
      (hears.step read told reads limits me m r) in
      record { node = after.node; answer = after.answer }

  hears_any : (told : Heard) → answer ≡ Arrived.Heard told → n.me < n.players → close_to (made n) flight ≡ true
      → HearsAny flight.from (bytes_of flight) n new told
  hears_any told is own close = record {
    same = hears.same;
    step = λ read tells reads reads_told limits me m r.
        let here = ap (λ (k : ℕ). close_to k flight) (sym (made_is limits me n m r own)) ∙ close in
        let after = heard_in limits me m read tells here (reads, reads_told) r in
        record { node = after.node; answer = same_heard told _ (sym is ∙ after.answer) };
  }

-- a packet that was given comes to its receiver
module _ (marking : Marking) (limits : Limits) (settings : Settings) {session : Session}
    (game : AreRemaining marking limits settings session) (which : ℕ) (flight : Flight)
    (found : slice_get session.packets which ≡ Some flight) (new : Surviving) (answer : Arrived)
    (free : has_given_up (session.survivors flight.to) flight.from ≡ false)
    (hears : HearsOpened (opened_of flight) (session.survivors flight.to).lockstep new.lockstep answer)
    (spares : SparesSealed (session.survivors flight.to).lockstep new.lockstep answer)
    (others : new.others ≡ (session.survivors flight.to).others) where
  abbrev old : Surviving
  old = session.survivors flight.to

  abbrev m : machine.Node
  m = game.last.game.nodes flight.to

  below : flight.to < limits.players
  below = (one_game.told_there marking limits settings game which flight found).receiver

  shows : Represents limits flight.to old.lockstep m
  shows = (game.nodes flight.to below).node

  own : old.lockstep.me < old.lockstep.players
  own = omega (arith, below, shows.whose.number, shows.whose.players)

  count : made old.lockstep ≡ machine.made flight.to m
  count = made_is limits flight.to old.lockstep m shows own

  reads : IsRead (opened_of flight) (Ok (packet_of flight)) (told_by flight.kind)
  reads = let fair = game.fair which flight found in ((fair.packet, refl), told_is flight flight.kind fair.kind)

  same_as : new.lockstep ≡ old.lockstep → new ≡ old
  same_as same = λ i. record { lockstep = same i; others = others i }

  close_keeps : close_to (made old.lockstep) flight ≡ true
      → AreRemaining marking limits settings (with_survivor session flight.to new)
  close_keeps close =
      let told : Heard = (received limits flight.to m flight.from (told_by flight.kind) (Ok (packet_of flight))).1 in
      let here : close_to (machine.made flight.to m) flight ≡ true =
      ap (λ (k : ℕ). close_to k flight) (sym count) ∙ close in
      let is : answer ≡ Arrived.Heard told =
      (heard_in old.lockstep new.lockstep flight answer hears limits flight.to m (Ok (packet_of flight))
      (told_by flight.kind) here reads shows).answer in
      let any = hears_any old.lockstep new.lockstep flight answer hears told is own close in
      let dropped : Spares old.lockstep new.lockstep told =
      subst (SparesSealed old.lockstep new.lockstep) is spares in
      one_game.hears marking limits settings game which flight found new told
      (near_if (made old.lockstep) flight close) (λ here. near_from_any old.lockstep new.lockstep flight.from
      (bytes_of flight) told any own) (λ barred. absurd (both_ways (has_given_up old flight.from) free barred))
      (λ number is_dropped. same_as (dropped number is_dropped)) others

  far_keeps : close_to (made old.lockstep) flight ≡ false
      → AreRemaining marking limits settings (with_survivor session flight.to new)
  far_keeps far =
      let here : close_to (machine.made flight.to m) flight ≡ false =
      ap (λ (k : ℕ). close_to k flight) (sym count) ∙ far in
      let step : on_opened limits flight.to m (opened_of flight) (Ok (packet_of flight)) (told_by flight.kind)
      ≡ (m, Arrived.Late) = rw here refl in
      let after = subst (λ (x : machine.Node × Arrived). IsAfter limits flight.to new.lockstep x (λ y. answer ≡ y))
      step (hears.step (Ok (packet_of flight)) (told_by flight.kind) reads limits flight.to m shows) in
      one_game.keeps marking limits settings game flight.to new
      (same_as (subst (SparesSealed old.lockstep new.lockstep) after.answer spares))

  pub letter_keeps : AreRemaining marking limits settings (with_survivor session flight.to new)
  letter_keeps = go (close_to (made old.lockstep) flight) refl
    where
      go : (test : Bool) → close_to (made old.lockstep) flight ≡ test
          → AreRemaining marking limits settings (with_survivor session flight.to new)
      go true close = close_keeps close
      go false far = far_keeps far

-- the packets of a datagram come to a player's survivor, whose sender is not given up
module _ (marking : Marking) (limits : Limits) (settings : Settings) (session : Session) (player : ℕ)
    (others : Others) where
  abbrev pub holding : Contents → Surviving
  holding now = record { lockstep = now; others = others }

  -- it was given to the player, by one who is not given up
  abbrev pub MayBeHeard : Opened → Type 0
  MayBeHeard packet = WasGiven session.packets player packet × (has others.gone packet.from ≡ false)

  -- with this lockstep at the player the survivors are those of one game
  abbrev pub AreWith : Contents → Type 0
  AreWith now = AreRemaining marking limits settings (with_survivor session player (holding now))

  pub packet_keeps : KeepsOne MayBeHeard AreWith
  packet_keeps packet now next answer game ((which, flight, found, to, is), free) hears spares =
      let old : put session.survivors player (holding now) flight.to ≡ holding now =
      put_at session.survivors player flight.to (holding now) to in
      let after = letter_keeps marking limits settings game which flight found (holding next) answer
      (subst (λ (s : Surviving). has_given_up s flight.from ≡ false) (sym old)
      (ap (λ (p : Opened). has others.gone p.from) (sym is) ∙ free))
      (subst (λ (s : Surviving). HearsOpened (opened_of flight) s.lockstep next answer) (sym old)
      (subst (λ (p : Opened). HearsOpened p now next answer) is hears))
      (subst (λ (s : Surviving). SparesSealed s.lockstep next answer) (sym old) spares)
      (ap (λ (s : Surviving). s.others) (sym old)) in
      subst (AreRemaining marking limits settings)
      (λ i. record session {
        survivors = (ap (λ (k : ℕ). put (put session.survivors player (holding now)) k (holding next)) to
            ∙ twice_put session.survivors player (holding now) (holding next)) i;
      }) after

  -- it has as much of each other player then as one had
  pub packet_grows : player < limits.players → (first : Contents)
      → KeepsOne MayBeHeard (λ now. AreWith now × HasAsMuch player first now)
  packet_grows mine first packet now next answer (game, much) ((which, flight, found, to, is), free) hears spares =
      let m = game.last.game.nodes player in
      let r : Represents limits player now m = subst (λ (s : Surviving). Represents limits player s.lockstep m)
      (put_at session.survivors player player (holding now) refl) (game.nodes player mine).node in
      let fair = game.fair which flight found in
      let told = one_game.told_there marking limits settings game which flight found in
      let reads : IsRead (opened_of flight) (Ok (packet_of flight)) (told_by flight.kind) =
      ((fair.packet, refl), told_is flight flight.kind fair.kind) in
      let after = (subst (λ (p : Opened). HearsOpened p now next answer) is hears).step (Ok (packet_of flight))
      (told_by flight.kind) reads limits player m r in (
        packet_keeps packet now next answer game ((which, flight, found, to, is), free) hears spares,
        much_on player first now next much (grows limits player now next m _ r after.node mine
            (opened_holds limits player m flight fair told.sender (λ e. told.apart (e ∙ sym to)))),
      )
