-- What a handle holds, by its kind, and what is seen of it.
use Rattle.std.specs.Prelude.{Option, Some, None}
use Rattle.std.specs.Option.{option_map}
use Rattle.dn_demo.specs.Reading.{Recording}
use Rattle.dn_lockstep.specs.Contents.{Contents, contents}
use Rattle.dn_lockstep.specs.declared.lockstep.Lockstep.{Lockstep}
use Rattle.dn_link.specs.declared.link.Link.{Link}
use Rattle.dn_session.specs.Session.{meeting, Meeting}
use Rattle.dn_session.specs.declared.session.Session.{Session}
use Rattle.zirmegat.specs.declared.held.Held.{Held}
use Rattle.zirmegat.specs.declared.held.Held.TheVariants as kind
use Rattle.zirmegat.specs.Joined.{Joined, joined_of}

abbrev pub session_in : Held → Option Session
session_in (kind.Session session) = Some session
session_in held = None

abbrev pub demo_in : Held → Option Recording
demo_in (kind.Demo demo) = Some demo
demo_in held = None

abbrev pub lockstep_in : Held → Option Lockstep
lockstep_in (kind.Lockstep lockstep) = Some lockstep
lockstep_in held = None

abbrev pub link_in : Held → Option Link
link_in (kind.Link link) = Some link
link_in held = None

abbrev pub meeting_in : Held → Option Meeting
meeting_in held = option_map meeting (session_in held)

abbrev pub contents_in : Held → Option Contents
contents_in held = option_map contents (lockstep_in held)

abbrev pub joined_in : Held → Option Joined
joined_in held = option_map joined_of (link_in held)
