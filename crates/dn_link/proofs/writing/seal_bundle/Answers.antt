use Rattle.std.proofs.{Common.{◌≡◌, ◌++◌, ◌∷◌, [], List, ℕ, ap, sym, ◌∙◌, w8, rules}, lemmas.Int.to_z-of_z}
use Rattle.std.specs.{Prelude.FitsSigned, Int.cast_unsigned}
use Rattle.dn_seal.specs.{Hmac.tag_of, Sealing.{sealing, front_bytes}}
use Rattle.dn_link.specs.Text.{counts_bytes, parts_bytes, report_field, bundle_bytes}
use Rattle.dn_link.proofs.writing.seal_bundle.Goals as goal

pub returns-clause-text : goal.returns-clause-text
returns-clause-text c =
    let s = sealing c.args.sealer.now in
    let b = c.args.bundle.now in
    let one : c.append.new.bytes.items ≡ front_bytes s.seal 5 =
    c.append.ensures ∙ (λ i. c.new-bytes.ensures i ++ c.front.ensures i) in
    let from : c.me.result ≡ b.from = c.me.ensures ∙ sym c.requires.from in
    let two : c.append-2.new.bytes.items ≡ front_bytes s.seal 5 ++ b.from ∷ b.to ∷ [] =
    c.append-2.ensures ∙ (λ i. one i ++ from i ∷ b.to ∷ []) in
    let three = c.append-3.ensures ∙ (λ i. two i ++ c.to_le_bytes.ensures i) in
    let fits : FitsSigned w8 b.lead = search rules in
    let lead : c.cast_unsigned.result ≡ cast_unsigned w8 b.lead =
    c.cast_unsigned.ensures ∙ ap (cast_unsigned w8) (to_z-of_z w8 b.lead fits) in
    let four = c.append-4.ensures ∙ (λ i. three i ++ lead i ∷ b.holes ∷ b.cause ∷ []) in
    let five = c.append_counts.ensures.more ∙ ap (λ (xs : List ℕ). xs ++ counts_bytes b.counts) four in
    let six = c.append_report.ensures ∙ (λ i. five i ++ report_field (c.as_slice.ensures.value i)) in
    let body : c.append_parts.new.bytes.items ≡ bundle_bytes s.seal b =
    c.append_parts.ensures.more ∙ (λ i. six i ++ parts_bytes (c.as_slice-2.ensures.value i)) in
    let tag : c.tag-tag.result ≡ tag_of s.seal.key (bundle_bytes s.seal b) =
    c.tag-tag.ensures ∙ ap (tag_of s.seal.key) (c.as_slice-3.ensures.value ∙ body) in
    c.append-5.ensures ∙ (λ i. body i ++ tag i)

pub returns-clause-fits : goal.returns-clause-fits
returns-clause-fits c =
    record {
      number = search rules;
      lead = search rules;
      counts = c.append_counts.ensures.fits;
      cause = c.requires.cause;
      report = search rules;
      few = search rules;
      parts = c.requires.fit;
    }
