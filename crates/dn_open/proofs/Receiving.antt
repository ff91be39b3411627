-- What a lockstep makes of a packet that was opened.
use Rattle.std.proofs.Common.{◌≡◌, ◌<◌, ◌&&◌, ℕ, Bool, true, false, refl, ap, sym, ◌∙◌, subst}
use Rattle.std.specs.Prelude.{Result, if◌then◌else◌}
use Rattle.dn_machine.specs.{declared.answers.Heard.Heard, Flight.is_close, Flight.is_request_close, Limits.Limits}
use Rattle.dn_lockstep.specs.{Contents.Contents, Contents.whose, Hearing.HearsAny, Received.received, Represents.Represents, Steps.IsAfter, Told.made}
use Rattle.dn_lockstep.proofs.Shown.{made_is}
use Rattle.dn_open.specs.{Sealed.IsSmall, Arrivals.HearsOpened, Arrivals.IsRead, Arrivals.heard, Arrivals.is_alike, Arrivals.on_opened, declared.hearing.Arrived.Arrived}
use Rattle.dn_seal.specs.declared.opened.Opened.{Opened}
use Rattle.dn_packet.specs.{declared.packet.Packet.Packet, declared.packet.PacketFault.PacketFault}
use Rattle.dn_setup.specs.{Settings.Settings, declared.setup.SetupFault.SetupFault}
use Rattle.dn_machine.specs.Node as machine

-- what was opened, by what the two tests say of it
module _ (old : Contents) (small : IsSmall old) (below : old.me < old.players) (o : Opened) where
  module _ (test like : Bool)
      (is_test : (is_close (made old) o.start && is_request_close (made old) o.ask) ≡ test)
      (is_like : is_alike o ≡ like) where
    -- the test by the machine's node
    tested : (limits : Limits) (me : ℕ) (m : machine.Node) → Represents limits me old m
        → (is_close (machine.made me m) o.start && is_request_close (machine.made me m) o.ask) ≡ test
    tested limits me m r =
        ap (λ (k : ℕ). is_close k o.start && is_request_close k o.ask) (sym (made_is limits me old m r below))
        ∙ is_test

    -- hence what comes of it
    abbrev outcome : Limits → ℕ → machine.Node → Result Packet PacketFault → Result Settings SetupFault
        → Bool → Bool → machine.Node × Arrived
    outcome limits me m read told close same =
        if close
        then (if same then heard (received limits me m o.from told read) else (m, Arrived.Unlike))
        else (m, Arrived.Late)

    pub opened_so : (new : Contents) (answer : Arrived) → whose new ≡ whose old
        → ((read : Result Packet PacketFault) (told : Result Settings SetupFault) → IsRead o read told
        → (limits : Limits) (me : ℕ) (m : machine.Node) → Represents limits me old m
        → IsAfter limits me new (outcome limits me m read told test like) (λ x. answer ≡ x))
        → HearsOpened o old new answer
    opened_so new answer same step = record {
      same = same;
      step = λ read told reads limits me m r.
          let on : on_opened limits me m o read told ≡ outcome limits me m read told test like =
          (λ i. outcome limits me m read told (tested limits me m r i) (is_like i)) in
          subst (λ (x : machine.Node × Arrived). IsAfter limits me new x (λ x. answer ≡ x)) (sym on)
          (step read told reads limits me m r);
      small = small;
    }

  -- what is too old
  pub late : (is_close (made old) o.start && is_request_close (made old) o.ask) ≡ false
      → HearsOpened o old old Arrived.Late
  late far = opened_so false (is_alike o) far refl old Arrived.Late refl
      (λ read told reads limits me m r. record { node = r; answer = refl })

  -- what contradicts the numbers beside it
  pub unlike : (is_close (made old) o.start && is_request_close (made old) o.ask) ≡ true → is_alike o ≡ false
      → HearsOpened o old old Arrived.Unlike
  unlike close other = opened_so true false close other old Arrived.Unlike refl
      (λ read told reads limits me m r. record { node = r; answer = refl })

  -- and what is heard
  pub hears : (is_close (made old) o.start && is_request_close (made old) o.ask) ≡ true → is_alike o ≡ true
      → (new : Contents) (told : Heard) → HearsAny o.from o.datagram.items old new told
      → HearsOpened o old new (Arrived.Heard told)
  hears close like new told any = opened_so true true close like new (Arrived.Heard told) any.same
      (λ read tells reads limits me m r.
      let after = any.step read tells reads.0 reads.1 limits me m r in
      record { node = after.node; answer = ap Arrived.Heard after.answer })
