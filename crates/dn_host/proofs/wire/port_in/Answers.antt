use Rattle.std.proofs.Common.{◌≡◌, ℕ, List, length, take, drop, get_or, ap, sym, ◌∙◌, ◌<◌}
use Rattle.std.specs.Int.{from_be_bytes, w16}
use Rattle.std.proofs.lemmas.Nat.{be_bytes_2}
use Rattle.dn_host.proofs.Sockets.{small_drop, small_take}
use Rattle.dn_host.proofs.wire.port_in.Goals as goal

pub returns : goal.returns
returns c =
    let part : List ℕ = take 2 (drop 16 c.args.bytes.now) in
    let is : c.copy_from_slice.new.self ≡ part = c.copy_from_slice.ensures.after in
    let two : length part ≡ 2 = sym (ap (λ (b : List ℕ). length b) is) ∙ c.copy_from_slice.ensures.len in
    let small : (i : ℕ) → get_or part i 0 < 256 =
    small_take 2 (drop 16 c.args.bytes.now) (small_drop 16 c.args.bytes.now c.fits-bytes) in
    let read : c.from_be_bytes.result ≡ from_be_bytes w16 part =
    c.from_be_bytes.ensures ∙ ap (λ (b : List ℕ). from_be_bytes w16 b) is in
    be_bytes_2 part c.from_be_bytes.result two small read
