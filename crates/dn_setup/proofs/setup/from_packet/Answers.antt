use Rattle.std.proofs.Common.{rules}
use Rattle.dn_setup.proofs.setup.from_packet.Goals as goal

pub returns-then-packet-ne-VERSION-clause-reads : goal.returns-then-packet-ne-VERSION-clause-reads
returns-then-packet-ne-VERSION-clause-reads c = search rules

pub returns-then-packet-ne-VERSION-clause-only : goal.returns-then-packet-ne-VERSION-clause-only
returns-then-packet-ne-VERSION-clause-only c = search rules

pub returns-clause-reads : goal.returns-clause-reads
returns-clause-reads c = search rules

pub returns-clause-only : goal.returns-clause-only
returns-clause-only c = search rules

pub returns-then-packet-eq0-clause-reads : goal.returns-then-packet-eq0-clause-reads
returns-then-packet-eq0-clause-reads c = search rules

pub returns-then-packet-eq0-clause-only : goal.returns-then-packet-eq0-clause-only
returns-then-packet-eq0-clause-only c = search rules
