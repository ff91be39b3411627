-- Games of one number.
use Rattle.std.proofs.Common.{◌≡◌, ℕ, List, [], ◌∷◌, length, refl, ap, sym, ◌∙◌}
use Rattle.dn_session.specs.{Cookies.game_label, Cookies.game_text, Terms.IsTerms, Terms.terms_bytes}
use Rattle.dn_session.proofs.{Rests.Stand, Rests.length-terms, Rests.stand, Rests.terms_back, Told.told_at, Told.told_terms}
use Rattle.dn_session.specs.declared.terms.Terms.{Terms}

length-label : length game_label ≡ 13
unfolding game_label
length-label = refl

-- what the number of a game is made of, piece by piece
abbrev pieces : List ℕ → Terms → (one two three : List ℕ) → List (List ℕ × ℕ)
pieces host terms one two three =
    (game_label, 13) ∷ (host, 16) ∷ (terms_bytes terms, 288) ∷ (one, 16) ∷ (two, 16) ∷ (three, 16) ∷ []

stands : (host : List ℕ) (terms : Terms) (one two three : List ℕ) → length host ≡ 16 → IsTerms terms
    → length one ≡ 16 → length two ≡ 16 → length three ≡ 16
    → Stand 0 (pieces host terms one two three) [] (game_text host terms (one ∷ two ∷ three ∷ []))
stands host terms one two three h t l1 l2 l3 =
    stand 0 (pieces host terms one two three) [] (game_text host terms (one ∷ two ∷ three ∷ []))
    (length-label, (h, (length-terms terms t, (l1, (l2, (l3, tt)))))) refl

-- two texts of games are the same only if all that they are made of is
pub same_game : (host other : List ℕ) (terms others : Terms) (one two three four five six : List ℕ)
    → length host ≡ 16 → length other ≡ 16 → IsTerms terms → IsTerms others
    → length one ≡ 16 → length two ≡ 16 → length three ≡ 16 → length four ≡ 16 → length five ≡ 16 → length six ≡ 16
    → game_text host terms (one ∷ two ∷ three ∷ []) ≡ game_text other others (four ∷ five ∷ six ∷ [])
    → (host ≡ other) × (terms ≡ others) × (one ≡ four) × (two ≡ five) × (three ≡ six)
same_game host other terms others one two three four five six h o t u l1 l2 l3 l4 l5 l6 e =
    let (label, (a, (b, (c, (d, (f, last)))))) = stands host terms one two three h t l1 l2 l3 in
    let (label_too, (g, (i, (j, (k, (l, last_too)))))) = stands other others four five six o u l4 l5 l6 in (
      sym a ∙ ap (told_at 16 13) e ∙ g,
      sym (terms_back terms t) ∙ ap told_terms (sym b ∙ ap (told_at 288 29) e ∙ i) ∙ terms_back others u,
      sym c ∙ ap (told_at 16 317) e ∙ j,
      sym d ∙ ap (told_at 16 333) e ∙ k,
      sym f ∙ ap (told_at 16 349) e ∙ l,
    )
