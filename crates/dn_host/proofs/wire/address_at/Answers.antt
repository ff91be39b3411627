use Rattle.std.proofs.Common.{◌≡◌, ◌++◌, ℕ, List, length, take, drop, replicate, ap, refl, rules, ◌∙◌}
use Rattle.std.specs.Int.{to_be_bytes, w16}
use Rattle.dn_session.specs.declared.greeting.Address.{Address}
use Rattle.dn_host.proofs.Sockets.{put_in}
use Rattle.dn_host.proofs.wire.address_at.Goals as goal

-- an address of these bytes
abbrev of_bytes : List ℕ → Address
of_bytes bytes = record { bytes = bytes }

pub returns : goal.returns
returns c =
    let front = c.copy_from_slice.ensures.after in
    let back : c.copy_from_slice-2.new.self ≡ to_be_bytes w16 c.args.port =
    c.copy_from_slice-2.ensures.after ∙ c.to_be_bytes.ensures in
    let long : length c.args.ip ≡ 16 = search rules in
    ap of_bytes
    ((λ i. take 16 (front i ++ replicate 16 0) ++ (back i ++ drop 2 (drop 16 (front i ++ replicate 16 0)))) ∙ put_in c.args.ip (to_be_bytes w16 c.args.port) long refl)
