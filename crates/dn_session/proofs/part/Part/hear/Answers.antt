use Rattle.std.proofs.Common.{◌≡◌, refl, subst, sym, ◌∙◌}
use Rattle.dn_session.specs.{Playing.Playing, Playing.Takes, Playing.known_by, Playing.noted, Playing.playing}
use Rattle.dn_link.specs.{Linking.linked, Linking.seal_of}
use Rattle.dn_session.proofs.Passing.{sized}
use Rattle.dn_session.proofs.part.Part.hear.Goals as goal

pub returns : goal.returns
returns c =
    let old = playing c.args.self.now in
    let link = c.receive-received.new.self in
    let received = c.receive-received.result in
    let end : playing c.note_all.new.self
    ≡ noted received c.args.from.now c.args.bytes.now c.args.now (known_by old.link) (known_by link)
    (record old { link = link }) =
    c.note_all.ensures ∙ (λ i. noted received c.args.from.now c.args.bytes.now c.args.now (c.known_by-before.ensures i)
    (c.known_by-after.ensures i) (record old { link = link })) in
    let both : Takes c.args.bytes.now old.link (playing c.note_all.new.self).link received
    × (playing c.note_all.new.self ≡ noted received c.args.from.now c.args.bytes.now c.args.now (known_by old.link)
    (known_by (playing c.note_all.new.self).link) (record old { link = (playing c.note_all.new.self).link })) =
    subst (λ (p : Playing). Takes c.args.bytes.now old.link p.link received
    × (p ≡ noted received c.args.from.now c.args.bytes.now c.args.now (known_by old.link) (known_by p.link)
    (record old { link = p.link })))
    (sym end) (
      (c.receive-received.ensures.seal, c.receive-received.ensures.heard, c.receive-received.ensures.pace),
      refl,
    ) in
    (received, both.0, both.1)

pub note_all-requires : goal.note_all-requires
note_all-requires c =
    let old = playing c.args.self.now in record {
      fits = sized (seal_of old.link) c.args.bytes.now (linked old.link) (linked c.receive-received.new.self)
          c.receive-received.result c.receive-received.ensures.heard;
    }
