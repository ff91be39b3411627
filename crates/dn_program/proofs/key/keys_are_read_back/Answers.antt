use Rattle.dn_program.proofs.Keys.{read_back, bytes_of}
use Rattle.dn_program.proofs.key.keys_are_read_back.Goals as goal

pub returns : goal.returns
returns c = λ key long bytes some. read_back key long (bytes_of key bytes) some
