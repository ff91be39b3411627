use Rattle.std.proofs.Common.{◌≡◌, ℕ, List, length, take, get_or, ap, sym, ◌∙◌, ◌<◌}
use Rattle.std.specs.Net.Addr.{octets_of, segments_of}
use Rattle.dn_host.proofs.Sockets.{octets_again, small_take, wide_is}
use Rattle.dn_host.proofs.wire.ip_in.Goals as goal

pub returns-then-wide : goal.returns-then-wide
returns-then-wide c =
    let part : List ℕ = take 16 c.args.bytes.now in
    let is : c.copy_from_slice.new.self ≡ part = c.copy_from_slice.ensures.after in
    let long : length part ≡ 16 = sym (ap (λ (b : List ℕ). length b) is) ∙ c.copy_from_slice.ensures.len in
    let small : (i : ℕ) → get_or part i 0 < 256 = small_take 16 c.args.bytes.now c.fits-bytes in
    ap octets_of (c.from_octets.ensures ∙ ap segments_of is) ∙ octets_again 8 part long small
    ∙ sym (wide_is c.args.wide c.args.bytes.now c.if-wide.true)
