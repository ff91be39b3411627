-- What a handle ends as, where a `&mut` to what it holds is returned.
use Rattle.std.specs.Prelude.{Option}
use Rattle.std.specs.Borrow.{Lends, LendsIf, Fml, MutBor}
use Rattle.dn_demo.specs.Reading.{Recording}
use Rattle.dn_demo.specs.contracts.demo.Demo as demo
use Rattle.dn_lockstep.specs.declared.lockstep.Lockstep.{Lockstep}
use Rattle.dn_lockstep.specs.contracts.lockstep.Lockstep as lockstep
use Rattle.dn_link.specs.declared.link.Link.{Link}
use Rattle.dn_link.specs.contracts.link.Link as link
use Rattle.dn_session.specs.declared.session.Session.{Session}
use Rattle.dn_session.specs.contracts.session.Session as session
use Rattle.zirmegat.specs.declared.held.Held.{Held}
use Rattle.zirmegat.specs.declared.held.Held.TheVariants as kind
use Rattle.zirmegat.specs.contracts.held.Held as held
use Rattle.zirmegat.specs.declared.handle.Handle.{Handle}
use Rattle.zirmegat.specs.contracts.handle.Handle as handle

-- the handle with something else
abbrev pub holding : Handle → Held → Handle
holding h value = record h { held = value }

-- once the borrow ends, it has what is shown last
abbrev pub lends_held : MutBor Handle → MutBor Held → Fml
lends_held h r = Lends handle.the_row held.the_row h r (holding h.now)

-- the same for one of a kind, if it holds that; else it stays
abbrev pub lends_session : MutBor Handle → Option (MutBor Session) → Fml
lends_session h r = LendsIf handle.the_row session.the_row h r (λ value. holding h.now (kind.Session value)) h.now

abbrev pub lends_demo : MutBor Handle → Option (MutBor Recording) → Fml
lends_demo h r = LendsIf handle.the_row demo.the_row h r (λ value. holding h.now (kind.Demo value)) h.now

abbrev pub lends_lockstep : MutBor Handle → Option (MutBor Lockstep) → Fml
lends_lockstep h r = LendsIf handle.the_row lockstep.the_row h r (λ value. holding h.now (kind.Lockstep value)) h.now

abbrev pub lends_link : MutBor Handle → Option (MutBor Link) → Fml
lends_link h r = LendsIf handle.the_row link.the_row h r (λ value. holding h.now (kind.Link value)) h.now
