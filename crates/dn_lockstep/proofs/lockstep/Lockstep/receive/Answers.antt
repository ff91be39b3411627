use Rattle.std.proofs.Common.{refl, sym, ◌∙◌, arith}
use Rattle.dn_lockstep.specs.Contents.{contents}
use Rattle.dn_lockstep.proofs.Receiving.{near_from_any, any_ended, any_strange, any_read, any_fault}
use Rattle.dn_lockstep.proofs.lockstep.Lockstep.receive.Goals as goal

pub returns-then-hears_none-clause-any : goal.returns-then-hears_none-clause-any
returns-then-hears_none-clause-any c = grind (arith, any_ended)

pub returns-then-hears_none-clause-near : goal.returns-then-hears_none-clause-near
returns-then-hears_none-clause-near c =
    near_from_any (contents c.args.self.now) (contents c.args.self.now) c.args.from c.args.bytes.now _
    (grind (arith, any_ended)) c.args.self.now.me_below

pub returns-then-from-self-clause-any : goal.returns-then-from-self-clause-any
returns-then-from-self-clause-any c =
    any_strange (contents c.args.self.now) c.args.from c.args.bytes.now
    (sym c.hears_none.ensures ∙ c.if-hears_none.false) (grind arith)

pub returns-in-Ok : goal.returns-in-Ok
returns-in-Ok c =
    let any = any_read (contents c.args.self.now) c.args.from c.args.bytes.now
    (sym c.hears_none.ensures ∙ c.if-hears_none.false)
    (contents c.hear.new.self) c.hear.result _ c.if-from-self.false c.if-from-self-2.false
    c.in-Ok.ensures.only c.hear.ensures.same c.hear.ensures.step in
    record {
      any = any;
      near = near_from_any (contents c.args.self.now) (contents c.hear.new.self) c.args.from c.args.bytes.now
          c.hear.result any c.args.self.now.me_below;
      dropped = c.hear.ensures.dropped;
    }

pub returns-in-Err : goal.returns-in-Err
returns-in-Err c =
    let n = contents c.args.self.now in
    let found = rw c.in-Err.is at c.decode_into.ensures in
    let any = any_fault n c.args.from c.args.bytes.now (sym c.hears_none.ensures ∙ c.if-hears_none.false)
    c.in-Err.fault c.packet_drop.result c.packet_drop.ensures c.if-from-self.false c.if-from-self-2.false
    found.only in
    record {
      any = any;
      near = near_from_any n n c.args.from c.args.bytes.now _ any c.args.self.now.me_below;
      dropped = λ number e. refl;
    }
