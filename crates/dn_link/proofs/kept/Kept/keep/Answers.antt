use Rattle.std.proofs.{Common.{◌≡◌, ◌<◌, ◌∷◌, [], ℕ, List, length, arith, true, nat_le, nat_lt, subst, ap, sym, ◌∙◌}, lemmas.{Bool.{and_parts, ltb-true}, List.length-append}}
use Rattle.dn_link.specs.{declared.bundle.Carried.Carried, Linking.kept, Kept.{IsRising, Unacknowledged, end_of, has_tic, is_news}}
use Rattle.dn_link.proofs.Covered.{covers_more, news_rises}
use Rattle.dn_link.proofs.kept.Kept.keep.Goals as goal

pub invariant_of-self : goal.invariant_of-self
invariant_of-self c =
    let was : Unacknowledged = kept c.args.self.now in
    let packet : Carried = c.in-Some.packet in
    let news : is_news was packet ≡ true = sym c.is_news-news.ensures ∙ c.if-news.true in
    let past = (and_parts (nat_le packet.start was.covered) _ news).1 in
    let room = ltb-true (length was.packets) 24 (and_parts (nat_lt was.covered (end_of packet)) _ past).1 in
    let more = ap (length {A = Carried}) c.push.ensures.items in
    let both = length-append was.packets (packet ∷ []) in
    record {
      few = omega (arith, room, more, both);
      covers = λ tic needed before. subst (λ (ps : List Carried). has_tic tic ps ≡ true) (sym c.push.ensures.items)
          (covers_more was packet c.args.self.now.covers news tic needed
          (subst (λ (n : ℕ). tic < n) c.end_of-end.ensures before));
      rising = subst (λ (n : ℕ). IsRising was.done c.push.new.self.items n) (sym c.end_of-end.ensures)
          (subst (λ (ps : List Carried). IsRising was.done ps (end_of packet)) (sym c.push.ensures.items)
          (news_rises was packet news c.args.self.now.rising));
    }
