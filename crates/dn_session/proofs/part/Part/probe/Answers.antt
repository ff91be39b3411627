use Rattle.std.proofs.Common.{refl, ap, sym, ◌∙◌, Bool, ℕ, Some, None, true, ◌≡◌}
use Rattle.std.proofs.{lemmas.Bool.and_parts, lemmas.Option.none-some}
use Rattle.std.specs.Prelude.{if◌then◌else◌}
use Rattle.dn_link.specs.{Linked.Linked, Linked.is_peer, Linked.probed, Linking.linked}
use Rattle.dn_session.specs.{Places.probed_at, Playing.playing}
use Rattle.dn_session.proofs.Sending.{given_if, probed_remains}
use Rattle.dn_session.proofs.part.Part.probe.Goals as goal

pub returns-in_err-echo : goal.returns-in_err-echo
returns-in_err-echo c =
    let old = playing c.args.self.now in
    let player = c.args.player in
    let next = linked c.probe.new.self in
    let owed = probed_remains old player c.requires.owed in
    let link : next ≡ probed (linked old.link) player = c.in_ok-bytes.ensures.link
    ∙ ap (λ (test : Bool). if test then probed (linked old.link) player else linked old.link) owed in
    let is : is_peer next.node player ≡ true = ap (λ (l : Linked). is_peer l.node player) link
    ∙ (and_parts (is_peer (linked old.link).node player) _ owed).0 in
    absurd (none-some (next.peers player).number (c.in_err-echo.ensures
    ∙ ap (λ (test : Bool). if test then Some (next.peers player).number else None) is))

pub returns : goal.returns
returns c =
    let old = playing c.args.self.now in
    let player = c.args.player in
    let next = c.probe.new.self in
    let echo : c.in_ok-echo.echo ≡ ((linked next).peers player).number =
    given_if (is_peer (linked next).node player) ((linked next).peers player).number c.in_ok-echo.echo
    (sym c.in_ok-echo.ensures) in
    let sent = c.in_ok-bytes.ensures in (
      c.in_ok-to.to,
      c.in_ok-bytes.bytes.items,
      sym c.probe_of.ensures ∙ c.in_ok-to.was,
      refl,
      sym sent.sealed,
      sent.fits,
      sent.link ∙ ap (λ (test : Bool). if test then probed (linked old.link) player else linked old.link)
          (probed_remains old player c.requires.owed),
      sent.seal,
      sent.pace,
      λ i. record old {
        link = next;
        places = (c.note_probe.ensures ∙ ap (λ (echo : ℕ). probed_at player c.in_ok-to.to old.watch.looked echo old.places) echo) i;
      },
    )
