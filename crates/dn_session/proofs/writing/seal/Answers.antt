use Rattle.std.proofs.Common.{◌≡◌, ◌++◌, ◌∷◌, [], List, ℕ, take, ap, ◌∙◌}
use Rattle.dn_seal.specs.{Hmac.suite_byte, Hmac.tag_of, Sealing.sealing}
use Rattle.dn_session.specs.{Text.body_bytes, Text.head_bytes, Text.kind_bytes}
use Rattle.dn_session.proofs.writing.seal.Goals as goal

pub returns-clause-value : goal.returns-clause-value
returns-clause-value g c =
    let seal = (sealing c.args.sealer.now).seal in
    let what = g.G.Greeting.sort.what in
    let rest = g.G.Greeting.sort.rest c.args.greeting.now in
    let one : c.append.new.bytes.items ≡ suite_byte seal.suite ∷ [] =
    c.append.ensures ∙ (λ i. c.new-bytes.ensures i ++ take 1 (c.front-front.ensures i)) in
    let two : c.append-2.new.bytes.items ≡ suite_byte seal.suite ∷ kind_bytes =
    c.append-2.ensures ∙ ap (λ (xs : List ℕ). xs ++ kind_bytes) one in
    let three : c.append-3.new.bytes.items ≡ head_bytes seal what =
    c.append-3.ensures ∙ (λ i. two i ++ 2 ∷ (c.what_and_size-what.ensures.value i).0 ∷ []) in
    let behind : c.as_slice.result.now ≡ rest = c.as_slice.ensures.value ∙ c.rest.ensures in
    let four : c.append-4.new.bytes.items ≡ body_bytes seal what rest =
    c.append-4.ensures ∙ (λ i. three i ++ behind i) in
    let tag : c.tag-tag.result ≡ tag_of seal.key (body_bytes seal what rest) =
    c.tag-tag.ensures ∙ ap (tag_of seal.key) (c.as_slice-2.ensures.value ∙ four) in
    c.append-5.ensures ∙ (λ i. four i ++ tag i)
