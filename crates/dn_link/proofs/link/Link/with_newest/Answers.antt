use Rattle.std.proofs.Common.{subst}
use Rattle.dn_link.specs.{Linking.linked, Surviving.IsNewestFor}
use Rattle.dn_link.proofs.Handing.{none_newest, one_newest}
use Rattle.dn_link.proofs.link.Link.with_newest.Goals as goal

pub returns-in_default-clause-behind : goal.returns-in_default-clause-behind
returns-in_default-clause-behind c =
    let link = linked c.args.self.now in
    none_newest link c.args.to c.args.own.items (subst (IsNewestFor link c.args.to) c.in_default.is c.newest.ensures)

pub returns-clause-behind : goal.returns-clause-behind
returns-clause-behind c =
    let link = linked c.args.self.now in
    one_newest link c.args.to c.args.own.items c.push.new.self.items c.in-Some.relay
    (subst (IsNewestFor link c.args.to) c.in-Some.is c.newest.ensures) c.push.ensures.items
