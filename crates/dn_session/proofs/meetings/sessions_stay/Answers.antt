use Rattle.std.proofs.Common.{◌≡◌, ◌⊎◌, ◌∙◌, ℕ, List, refl, ap, sym, subst, inl, inr, Option, Some, None, Result, Ok, Err, Bool, true, false}
use Rattle.std.proofs.lemmas.Option.{none-some}
use Rattle.std.specs.Prelude.{IfSome, if◌then◌else◌, is_some}
use Rattle.dn_tic.specs.declared.command.Move.{Move}
use Rattle.dn_lockstep.specs.{declared.config.NodeFault.NodeFault}
use Rattle.dn_survivor.specs.OneGame.{Session}
use Rattle.dn_link.specs.{Linking.linked, Linking.seal_of, Pacing.pace_of, RemainingLinks.WasSealedIn}
use Rattle.dn_session.specs.{Parts.AreMarksOf, Parts.limits_of, Parts.links_of, Playing.GivesUpBy, Playing.GivesWhen, Playing.HearsBytes, Playing.Playing, Playing.Polls, Playing.QuitsBy}
use Rattle.dn_session.specs.{Playing.RunsNext, Playing.given_up_at, Playing.is_giving, Playing.looks, Playing.may_give, Playing.playing, Reading.is_greeting, Sent.SendsNext, Sessions.StaySessions, Text.game_seal}
use Rattle.dn_session.specs.Session.{BeginsAs, GivesPart, GivesUpPart, HearsWhen, IsPartOf, Meeting, RunsPart, SendsCall, SendsPart, SendsReply, begins_now, begun_in, link_in, passing_in}
use Rattle.dn_session.specs.declared.{greeting.Address.Address, part.Part.Part, side.Begun.Begun}
use Rattle.dn_session.specs.declared.ending.Ending.TheVariants as ending
use Rattle.dn_session.proofs.Going as going
use Rattle.dn_session.proofs.Sending as sending
use Rattle.dn_session.proofs.{Staying.by_part, Staying.idle, Staying.if_part, Staying.if_playing, Staying.moved, Staying.moved_and, Staying.unmade, NewLinks.place_link, NewLinks.replaces}
use Rattle.dn_session.proofs.meetings.sessions_stay.Goals as goal

-- a session whose game begins now has no part
none_yet : (test : Option Part) (begun : Option Begun) (here : Begun)
    → (if is_some test then None else begun) ≡ Some here → test ≡ None
none_yet None begun here e = refl
none_yet (Some part) begun here e = absurd (none-some here e)

pub returns-clause-begins : goal.returns-clause-begins
returns-clause-begins c = λ marking secret b session meetings player new one now result are few fits begun shared plays begins.
    let Goal = StaySessions marking secret b session meetings player new None in
    let go : (which : Option Begun) (r : Result Bool NodeFault) → begins_now (meetings player) ≡ which
    → BeginsAs which now (meetings player) new r → Goal =
    λ which r. elim which as (λ w. begins_now (meetings player) ≡ w → BeginsAs w now (meetings player) new r → Goal) [
      | None ↦ λ none is. idle marking secret b session meetings player new are few (ap (λ (m : Meeting). m.part) is.1)
      | Some here ↦ λ some. elim r as (λ k. BeginsAs (Some here) now (meetings player) new k → Goal) [
        | Err fault ↦ λ is. idle marking secret b session meetings player new are few (ap (λ (m : Meeting). m.part) is.1)
        | Ok made ↦ λ is.
            let none = none_yet (meetings player).part (begun_in (meetings player).lobby) here some in
            let made : IsPartOf secret here now (playing is.0) =
            subst (λ (s : Option (List ℕ)). IsPartOf s here now (playing is.0)) shared is.1 in
            moved marking secret b session meetings player new are few is.0 None (ap (λ (m : Meeting). m.part) is.3)
            (replaces marking secret b session are.parts player (playing is.0) are.are few
            (unmade marking secret b session meetings player new are few none)
            (place_link secret one (meetings player).lobby b here player (playing is.0).link fits begun (plays here some)
            made.link))
      ]
    ] in
    go (begins_now (meetings player)) result refl begins

pub returns-clause-hears : goal.returns-clause-hears
returns-clause-hears c = λ marking secret b session meetings player now new from bytes are few genuine hears.
    let Goal = StaySessions marking secret b session meetings player new None in
    let go : (test : Bool) → is_greeting bytes ≡ test → HearsWhen test from bytes now (meetings player) new → Goal =
    λ test. elim test as (λ t. is_greeting bytes ≡ t → HearsWhen t from bytes now (meetings player) new → Goal) [
      | true ↦ λ e is. idle marking secret b session meetings player new are few (ap (λ (m : Meeting). m.part) is.3)
      | false ↦ λ e is. if_playing marking secret b session meetings player new are few (HearsBytes from bytes now)
          (λ next heard. going.hears marking (limits_of b.terms) b.terms.settings (game_seal secret b.game) session
          are.parts player are.are few from bytes now next (genuine e) heard) is.0
    ] in
    go (is_greeting bytes) refl hears

pub returns-clause-runs : goal.returns-clause-runs
returns-clause-runs c = λ marking secret b session meetings player new marks ran row are few honest runs.
    by_part marking secret b session meetings player new are few (λ old after. RunsPart marks old after ran row)
    (StaySessions marking secret b session meetings player new row) (λ after is. is.0) (λ old is. is)
    (λ same is. subst (λ (r : Option (List (Option Move))). StaySessions marking secret b session meetings player new r)
    (sym is.2) (idle marking secret b session meetings player new are few same))
    (λ old next had same has is. moved marking secret b session meetings player new are few next row has
    (going.runs_next marking (limits_of b.terms) b.terms.settings (game_seal secret b.game) session are.parts player
    are.are few marks ran row (playing next)
    (subst (λ (p : Playing). AreMarksOf marking (limits_of b.terms) b.terms.settings session player (linked p.link).node marks ran)
    (sym same) (honest (playing old).link (ap link_in had)))
    (subst (λ (p : Playing). RunsNext marks p (playing next) ran row) (sym same) is)
    (going.then_catches marking (limits_of b.terms) b.terms.settings (game_seal secret b.game) session are.parts player
    few (playing next) row))) runs

pub returns-clause-sends : goal.returns-clause-sends
returns-clause-sends c = λ marking secret b session meetings player new sent are few sends.
    let seal = game_seal secret b.game in
    let Stay = StaySessions marking secret b session meetings player new None in
    let Sealed : Session → Type 0 = λ later. (sent ≡ passing_in (meetings player).part)
    ⊎ IfSome sent (λ (s : Address × List ℕ). WasSealedIn seal later s.1) in
    let old = meetings player in
    let idles : new.part ≡ old.part → Stay = idle marking secret b session meetings player new are few in
    let calls : (call : Option (Address × List ℕ)) → SendsCall call old new sent → (on : Stay) × (call ≡ None → Sealed on.later) =
    λ call. elim call as (λ k. SendsCall k old new sent → (on : Stay) × (k ≡ None → Sealed on.later)) [
      | Some one ↦ λ is. (idles (ap (λ (m : Meeting). m.part) is.1), λ none. absurd (none-some one (sym none)))
      | None ↦ λ is.
          let p = by_part marking secret b session meetings player new are few (λ had after. SendsPart had after sent)
          ((on : Stay) × Sealed on.later) (λ after s. s.0) (λ one s. s)
          (λ same s. (
            idles same,
            inr (subst (λ (o : Option (Address × List ℕ)). IfSome o (λ one. WasSealedIn seal (idles same).later one.1))
                (sym s.1) tt),
          ))
          (λ one next had same has s.
          let gone = sending.sends marking (limits_of b.terms) b.terms.settings seal session are.parts player are.are
          few (playing next) sent
          (λ to bytes. c.remaining_links_go_on.ensures.gave marking (limits_of b.terms) b.terms.settings session
          (links_of are.parts) player to (seal_of (are.parts player).link) (pace_of (are.parts player).link)
          (linked (playing next).link) bytes are.are.links few)
          (λ told echo. c.remaining_bytes_are_genuine.ensures.empty marking (limits_of b.terms) b.terms.settings session
          (links_of are.parts) player seal told echo are.are.links few)
          (λ later bytes. c.remaining_bytes_are_genuine.ensures.stay seal session later bytes)
          (subst (λ (q : Playing). SendsNext q (playing next) sent) (sym same) s) in
          let sealed : Sealed gone.0.later = elim gone.1 [
            | inl passed ↦ inl (passed ∙ ap (λ (q : Playing). q.passing) same ∙ sym (ap passing_in had))
            | inr made ↦ inr made
          ] in
          moved_and marking secret b session meetings player new are few Sealed next has (gone.0, sealed))
          is.0 in (p.0, λ none. p.1)
    ] in
    let replies : (reply : Option (Address × List ℕ)) → SendsReply reply old new sent
    → (on : Stay) × (reply ≡ None → old.call ≡ None → Sealed on.later) =
    λ reply. elim reply as (λ k. SendsReply k old new sent
    → (on : Stay) × (k ≡ None → old.call ≡ None → Sealed on.later)) [
      | Some one ↦ λ is. (idles (ap (λ (m : Meeting). m.part) is.1), λ none other. absurd (none-some one (sym none)))
      | None ↦ λ is. let p = calls old.call is in (p.0, λ none. p.1)
    ] in
    replies old.reply sends

pub returns-clause-gives : goal.returns-clause-gives
returns-clause-gives c = λ now input given marking secret b session meetings player new are few gives.
    if_part marking secret b session meetings player new are few (λ old after. GivesPart now input old after given)
    (λ after is. is.0) (λ old is. is)
    (λ old next same is. going.gives marking (limits_of b.terms) b.terms.settings (game_seal secret b.game) session
    are.parts player are.are few (may_give now (playing old)) now input (playing next)
    (subst (λ (p : Playing). GivesWhen (may_give now (playing old)) now input p (playing next)) (sym same) is.0)) gives

pub returns-clause-passes : goal.returns-clause-passes
returns-clause-passes c = λ now marking secret b session meetings player new are few passes.
    if_playing marking secret b session meetings player new are few (Polls now)
    (λ next polls. going.polls marking (limits_of b.terms) b.terms.settings (game_seal secret b.game) session are.parts
    player are.are few now next polls) passes.2

pub returns-clause-quits : goal.returns-clause-quits
returns-clause-quits c = λ now marking secret b session meetings player new are few quits.
    if_playing marking secret b session meetings player new are few (QuitsBy now)
    (λ next quits. going.ends marking (limits_of b.terms) b.terms.settings (game_seal secret b.game) session are.parts
    player are.are few (if is_giving (are.parts player).progress then Some ending.Left else None) now
    (are.parts player) next refl quits) quits

pub returns-clause-gives_up : goal.returns-clause-gives_up
returns-clause-gives_up c = λ which now gave marking secret b session meetings player new are few gives.
    if_part marking secret b session meetings player new are few (λ old after. GivesUpPart which now old after gave)
    (λ after is. is.0) (λ old is. is)
    (λ old next same is. going.gives_up marking (limits_of b.terms) b.terms.settings (game_seal secret b.game) session
    are.parts player are.are few (given_up_at now which (are.parts player)) (looks now (are.parts player))
    (playing next) refl
    (subst (λ (p : Playing). GivesUpBy now which p (playing next)) (sym same) is.0)) gives

pub returns-clause-kicks : goal.returns-clause-kicks
returns-clause-kicks c = λ seat marking secret b session meetings player new are few kicks.
    idle marking secret b session meetings player new are few (ap (λ (m : Meeting). m.part) kicks.1)

pub returns-clause-stays : goal.returns-clause-stays
returns-clause-stays c = λ marking secret b session meetings player new are few same.
    idle marking secret b session meetings player new are few same
