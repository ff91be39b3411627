use Rattle.std.proofs.{Common.{rules, length, arith}, lemmas.List.drop-replicate, lemmas.Bool.le-ltb}
use Rattle.dn_seal.proofs.mac.key_block.Goals as goal

pub returns-else-key-gt-BLOCK : goal.returns-else-key-gt-BLOCK
returns-else-key-gt-BLOCK c =
    let short = le-ltb 64 (length c.args.key.now) (omega arith) in
    rw (short, drop-replicate) (search rules)
