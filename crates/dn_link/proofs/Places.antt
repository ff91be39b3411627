-- Things by their place.
use Rattle.std.proofs.Common.{◌≡◌, ◌<◌, ℕ, List, length, map, set, get_or, sym, ◌∙◌, ap, arith, inl, inr}
use Rattle.std.proofs.lemmas.{Bool.cases_eq, List.{get_or-map, get_or-set_same, get_or-set_other, length-map, map-set}}
use Rattle.std.proofs.Common.{Bool, [], false, refl, suc, zero, ◌∷◌}
use Rattle.dn_machine.specs.Node.{put}
use Rattle.dn_link.specs.{declared.peer.Peer.Peer, Linking.{new_peer, peers_of, state_of}}
use Rattle.dn_machine.proofs.Put.{put_at, put_off, same_functions}

-- one of them is another now
pub place_put : {A : Type 0} (none : A) (items : List A) (place : ℕ) (new : A) → place < length items
    → (λ other. get_or (set items place new) other none) ≡ put (λ other. get_or items other none) place new
place_put none items place new below = same_functions (λ other. elim (cases_eq other place) [
  | inl at ↦ ap (λ (k : ℕ). get_or (set items place new) k none) at ∙ get_or-set_same items place new none below
      ∙ sym (put_at (λ k. get_or items k none) place other new at)
  | inr off ↦ get_or-set_other items place other new none off
      ∙ sym (put_off (λ k. get_or items k none) place other new off)
])

-- What a link keeps of its peers.

-- one of them
pub peer_at : (peers : List Peer) (place : ℕ) (other : Peer) → place < length peers
    → state_of (get_or peers place other) ≡ peers_of peers place
peer_at peers place other below = sym (get_or-map state_of peers place other new_peer below)

-- one of them is another now
pub peers_put : (peers : List Peer) (place : ℕ) (new : Peer) → place < length peers
    → peers_of (set peers place new) ≡ put (peers_of peers) place (state_of new)
peers_put peers place new below =
    let count = length-map peers state_of in
    (λ i other. get_or (map-set state_of peers place new i) other new_peer)
    ∙ place_put new_peer (map state_of peers) place (state_of new) (omega (arith, count, below))

-- nobody was given a datagram
pub none_given : ◌≡◌ {A = ℕ → Bool} (λ player. get_or (false ∷ false ∷ false ∷ false ∷ []) player false) (λ player. false)
none_given = same_functions go
  where
    go : (player : ℕ) → get_or (false ∷ false ∷ false ∷ false ∷ []) player false ≡ false
    go zero = refl
    go (suc zero) = refl
    go (suc (suc zero)) = refl
    go (suc (suc (suc zero))) = refl
    go (suc (suc (suc (suc player)))) = refl
