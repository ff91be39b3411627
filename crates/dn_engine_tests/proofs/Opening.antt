-- A table opens.
use Rattle.std.proofs.Common.{◌≡◌, ℕ, List, [], Option, Ok, ap, sym, subst, ◌∙◌, inl}
use Rattle.std.specs.Prelude.{All}
use Rattle.std.proofs.lemmas.List.Elements.{All-nil}
use Rattle.arrayvec.specs.ArrayVec.{ArrayVec}
use Rattle.dn_world.specs.Physics.{Physics}
use Rattle.dn_session.specs.{Roster.IsSide, Roster.key_of, Session.IsHostSession, Session.IsJoinSession, Session.Meeting, Session.meeting, Session.new_meeting, Sessions.Greets, Sessions.Has, Text.greeting_seal}
use Rattle.dn_session.specs.declared.{host.HostConfig.HostConfig, joiner.JoinConfig.JoinConfig, session.Session.Session, side.Side.Side}
use Rattle.dn_engine_tests.specs.declared.{engine.Engine.Engine, table.Table.Table}
use Rattle.dn_engine_tests.specs.{Engines.IsFresh, Engines.met, Tables.IsTable}
use Rattle.dn_engine_tests.proofs.Going.{all_at}

-- a session in its lobby is fresh
fresh : (secret : Option (List ℕ)) (side : Side) (m : Meeting) → m ≡ new_meeting side secret
    → key_of side ≡ (greeting_seal secret).key → IsSide m.lobby → IsFresh secret m
fresh secret side m is key fits = record {
  of = record {
    secret_is = ap (λ m. m.secret) is;
    key = ap (λ m. key_of m.lobby) is ∙ key;
    fits = fits;
    reply = subst (Has Greets) (sym (ap (λ (m : Meeting). m.reply) is)) tt;
    call = subst (Has Greets) (sym (ap (λ (m : Meeting). m.call) is)) tt;
  };
  out = ap (λ m. m.part) is;
}

pub host_fresh : (config : HostConfig) (session : Session) → IsHostSession config (Ok session)
    → IsSide (meeting session).lobby → IsFresh config.secret (meeting session)
host_fresh config session (host, made, is) fits =
    fresh config.secret _ (meeting session) is (ap (λ l. l.seal.key) made.1) fits

pub joiner_fresh : (config : JoinConfig) (now : ℕ) (session : Session) → IsJoinSession config now (Ok session)
    → IsSide (meeting session).lobby → IsFresh config.secret (meeting session)
joiner_fresh config now session (joiner, made, is) fits =
    fresh config.secret _ (meeting session) is (ap (λ j. j.seal.key) made.1) fits

-- an engine with such a session, which was told nothing
abbrev pub IsNew : {W : Type 0} → Option (List ℕ) → Engine W → Type 0
IsNew secret e = IsFresh secret (met e) × (e.told.items ≡ [])

-- engines of one secret, and nothing was given
pub opened : {W S : Type 0} (state : W → S) (physics : Physics S) (secret : Option (List ℕ)) (t : Table W)
    → All (IsNew secret) t.engines.items → t.given.items ≡ [] → IsTable state physics secret t
opened {W} state physics secret t all none apart = (
  λ i e there. (all_at (IsNew secret) t.engines.items all i e there).0.of,
  inl (record {
    out = λ i e there. (all_at (IsNew secret) t.engines.items all i e there).0.out;
    told = λ i e there. (all_at (IsNew secret) t.engines.items all i e there).1;
    given = subst (All (λ (bytes : ArrayVec ℕ). Greets bytes.items)) (sym none) (All-nil (λ (bytes : ArrayVec ℕ). Greets bytes.items));
  }),
)
