-- Whom a player gives up. One leads, and gives up whom it waits for too long; the others follow it, and of themselves
-- give up nobody but the one that leads.
use Rattle.std.specs.{Prelude.{ℕ, ◌+◌, ◌-◌, ◌*◌, ◌==◌, ◌&&◌, ◌||◌, Bool, not, true, false, nat_le, if◌then◌else◌, [], ◌∷◌, position, slice_index_or, Option, Some, None}, List.list_any, Option.option_map, Option.option_or}
use Rattle.dn_session.specs.{Cookies.fresh_for, declared.lead.Seen.Seen, declared.lead.Standing.Standing, declared.lead.View.View, declared.lead.Standing.TheVariants.{Closed, Gone, Open}}

-- of whom nothing is known there is no player
abbrev pub nobody : Seen
nobody = record { standing = Gone; awaited = 0; owes_report = false; silent = 0; names = [] }

abbrev pub seen : View → ℕ → Seen
seen view player = slice_index_or view.players player nobody

abbrev pub plays : Standing → Bool
plays Open = true
plays standing = false

abbrev pub has_left : Standing → Bool
has_left Closed = true
has_left standing = false

abbrev pub is_gone : Standing → Bool
is_gone Gone = true
is_gone standing = false

abbrev pub is_open : View → ℕ → Bool
is_open view player = plays (seen view player).standing

-- another who is not gone
abbrev pub is_there : View → ℕ → Bool
is_there view player = not (player == view.me) && not (is_gone (seen view player).standing)

-- the lowest number of which this is so, and the highest
abbrev pub lowest : (ℕ → Bool) → Option ℕ
lowest is = position is (0 ∷ 1 ∷ 2 ∷ 3 ∷ [])

abbrev pub highest : (ℕ → Bool) → Option ℕ
highest is = option_map (λ n. 3 - n) (position is (3 ∷ 2 ∷ 1 ∷ 0 ∷ []))

-- the lowest player who is neither gone nor closed leads
abbrev pub lead : View → Option ℕ
lead view = lowest (is_open view)

-- a player names another as gone; what one who has left told before counts no more, nor what one tells of itself
abbrev pub names : View → ℕ → ℕ → Bool
names view player other =
    is_open view player && (not (other == player) && slice_index_or (seen view player).names other false)

-- somebody else does
abbrev pub is_named : View → ℕ → Bool
is_named view player =
    list_any (λ other. is_there view other && names view other player) (0 ∷ 1 ∷ 2 ∷ 3 ∷ [])

-- it was awaited for the patience, and nothing of it came for so long though something should
abbrev pub is_late : ℕ → View → ℕ → Bool
is_late patience view player = is_there view player && nat_le patience (seen view player).awaited

abbrev pub is_mute : ℕ → View → ℕ → Bool
is_mute patience view player =
    is_there view player && ((is_open view player || (seen view player).owes_report)
    && nat_le patience (seen view player).silent)

-- where one that leads has awaited anybody for the patience, whoever was silent for so long goes before those that it
-- awaits; of several the highest
abbrev pub late_due : ℕ → View → Option ℕ
late_due patience view =
    elim (highest (is_late patience view)) [
      | None ↦ None
      | Some late ↦ option_or (highest (is_mute patience view)) (Some late)
    ]

-- one that leads: before them who names it, and who has left and is named by another
abbrev pub leads_due : ℕ → View → Option ℕ
leads_due patience view =
    option_or (lowest (λ player. is_there view player && names view player view.me))
    (option_or (lowest (λ player. has_left (seen view player).standing && is_named view player))
    (late_due patience view))

-- one that follows has lost the one that leads: it has waited so long that the other should have acted long ago; or
-- for the patience, in which nothing of the other came; or somebody else names the other, of which nothing came for
-- half of it
abbrev pub is_lost : ℕ → View → ℕ → Bool
is_lost patience view leader =
    nat_le (2 * patience + fresh_for) view.stalled
    || ((nat_le patience view.stalled && nat_le patience (seen view leader).silent)
    || (is_named view leader && nat_le patience (2 * (seen view leader).silent)))

-- it gives up whom that one names, or that one
abbrev pub follows_due : ℕ → View → ℕ → Option ℕ
follows_due patience view leader =
    option_or (lowest (λ player. is_there view player && names view leader player))
    (if is_lost patience view leader then Some leader else None)

abbrev pub due_under : ℕ → View → Option ℕ → Option ℕ
due_under patience view None = None
due_under patience view (Some leader) =
    if leader == view.me then leads_due patience view else follows_due patience view leader

-- whom a player that plays gives up next, if anybody
abbrev pub due : ℕ → View → Option ℕ
due patience view = if is_open view view.me then due_under patience view (lead view) else None

-- a player that plays is itself given up by the one that leads
abbrev pub is_given_up : View → Bool
is_given_up view =
    is_open view view.me && elim (lead view) [
      | None ↦ false
      | Some leader ↦ not (leader == view.me) && names view leader view.me
    ]
