use Rattle.std.proofs.Common.{◌≡◌, ◌++◌, List, ℕ, ap, ◌∙◌, append_assoc}
use Rattle.std.specs.List.{concat}
use Rattle.dn_seal.specs.{Hmac.tag_of, Sealing.sealing}
use Rattle.dn_session.specs.{Cookies.game_label, Terms.terms_bytes}
use Rattle.dn_session.proofs.cookies.game_of.Goals as goal

pub returns : goal.returns
returns c =
    let host = c.args.host.now in
    let one : c.append.new.bytes.items ≡ game_label =
    c.append.ensures ∙ (λ i. c.new-text.ensures i ++ c.game_label.ensures i) in
    let two = c.append-2.ensures ∙ ap (λ (xs : List ℕ). xs ++ host) one in
    let terms : c.as_slice.result.now ≡ terms_bytes c.args.terms.now = c.as_slice.ensures.value ∙ c.terms_bytes.ensures in
    let three = c.append-3.ensures ∙ (λ i. two i ++ terms i) in
    let roster : c.as_slice-2.result.now ≡ concat c.args.roster.now =
    c.as_slice-2.ensures.value ∙ c.roster_bytes.ensures in
    let four = c.append-4.ensures ∙ (λ i. three i ++ roster i) in
    c.tag.ensures ∙ ap (tag_of (sealing c.args.sealer.now).seal.key) (c.as_slice-3.ensures.value ∙ four
    ∙ regroup game_label host (terms_bytes c.args.terms.now) (concat c.args.roster.now))
  where
    regroup : (a b c d : List ℕ) → ((a ++ b) ++ c) ++ d ≡ a ++ (b ++ (c ++ d))
    regroup a b c d = simp append_assoc
