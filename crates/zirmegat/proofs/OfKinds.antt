-- What is not of a kind has nothing of it.
use Rattle.std.proofs.Common.{◌≡◌, ◌≢◌, refl}
use Rattle.std.specs.Prelude.{None}
use Rattle.dn_demo.specs.Reading.{Recording}
use Rattle.dn_lockstep.specs.declared.lockstep.Lockstep.{Lockstep}
use Rattle.dn_link.specs.declared.link.Link.{Link}
use Rattle.dn_session.specs.declared.session.Session.{Session}
use Rattle.zirmegat.specs.declared.held.Held.{Held}
use Rattle.zirmegat.specs.declared.held.Held.TheVariants as kind
use Rattle.zirmegat.specs.Kinds.{demo_in, link_in, lockstep_in, session_in}

pub no_session : (held : Held) → ((value : Session) → held ≢ kind.Session value) → session_in held ≡ None
no_session (kind.Session value) n = absurd (n value refl)
no_session (kind.Demo value) n = refl
no_session (kind.Lockstep value) n = refl
no_session (kind.Link value) n = refl

pub no_demo : (held : Held) → ((value : Recording) → held ≢ kind.Demo value) → demo_in held ≡ None
no_demo (kind.Session value) n = refl
no_demo (kind.Demo value) n = absurd (n value refl)
no_demo (kind.Lockstep value) n = refl
no_demo (kind.Link value) n = refl

pub no_lockstep : (held : Held) → ((value : Lockstep) → held ≢ kind.Lockstep value) → lockstep_in held ≡ None
no_lockstep (kind.Session value) n = refl
no_lockstep (kind.Demo value) n = refl
no_lockstep (kind.Lockstep value) n = absurd (n value refl)
no_lockstep (kind.Link value) n = refl

pub no_link : (held : Held) → ((value : Link) → held ≢ kind.Link value) → link_in held ≡ None
no_link (kind.Session value) n = refl
no_link (kind.Demo value) n = refl
no_link (kind.Lockstep value) n = refl
no_link (kind.Link value) n = absurd (n value refl)
