-- The seats of a row, the row of a tic, filled in seat by seat, and what a run looks up for it.
use Rattle.std.proofs.Common.{◌≡◌, ◌<◌, ℕ, Bool, true, false, true≢false, not, cond, Option, None, is_some, List, map, ltb, leb, ap, sym, ◌∙◌, inl, inr, arith, ◌+◌, zero, suc, [], ◌∷◌, length, set, Some, refl, ◌≢◌, negsuc, ◌≤◌, ◌%◌, get_or, subst, is_none, option_map, if◌then◌else◌, slice_get, nat_lt}
use Rattle.std.proofs.lemmas.Bool.{ltb-true, le-leb, and_from, cases_lt, not-true, and_parts, lt-ltb, le-ltb}
use Rattle.std.proofs.lemmas.{List.{get_or-set_same, get_or-set_other, set-get_or}, Option.none-some}
use Rattle.dn_tic.specs.{declared.command.{Move.Move, TicCmd.TicCmd}, Command.used}
use Rattle.dn_ring.specs.Ring.{Ring}
use Rattle.dn_machine.specs.{Limits.{row_of, four, Limits}, Node.{lowest, lacks, is_whole, blank, held_at, own_mark}}
use Rattle.dn_machine.specs.{declared.peer.Peer.Peer, Sparing.first_off_but}
use Rattle.dn_machine.specs.Running.{is_over, is_absent, is_awaited, row_held, tic_limit, full_at}
use Rattle.dn_machine.proofs.{Demos.{none_is, seat_is}, Truth.lowest_none_each}
use Rattle.dn_lockstep.specs.{Tables.{count_of, get, ring_at}, Rows.{is_gone, is_missing, seats_of, move_held, mark_in_command, mark_at, differs_but}}
use Rattle.dn_lockstep.specs.{declared.lockstep.Lockstep.Lockstep, Contents.Contents, Represents.Represents}
use Rattle.dn_lockstep.proofs.{Lowest.{lowest_same, lowest_passes}, Shown.below, Keeping.{get_kept, get_some}}
use Rattle.dn_demo.specs.Text.{IsRecordable}
use Rattle.dn_machine.specs.Node as machine

-- a seat of a whole row
pub whole_seat : (b : Bool) (a x : Option Move) → a ≡ cond b x None → (b ≡ true → is_none a ≡ false) → is_some a ≡ b
whole_seat b a x e h = grind arith

pub whole_each : (players : ℕ) (row : List (Option Move)) → is_whole players row ≡ true → (p : ℕ)
    → ltb p players ≡ true → lacks row p ≡ false
whole_each players row e p l = lowest_none_each players (lacks row) (none_is (lowest players (lacks row)) e) p
    (ltb-true p players l)

-- the seats of a whole row are those of the players
pub seats_whole : (players : ℕ) (f : ℕ → Option TicCmd) → is_whole players (row_of players f) ≡ true
    → map is_some (row_of players f) ≡ seats_of players
unfolding row_of
seats_whole players f e = grind (arith, whole_each players (row_of players f) e, whole_seat)

-- a row is whole where nobody is gone
pub whole_gone : (row : List (Option Move)) (players : ℕ) (gone : ℕ → Bool)
    → ((p : ℕ) → p < players → lacks row p ≡ gone p) → is_whole players row ≡ not (is_some (lowest players gone))
whole_gone row players gone seat = grind (arith, lowest_same)

-- where nobody's command is missing, that of a player who is not gone is there
pub here_all : (rings : ℕ → Ring) (peers : ℕ → Peer) (players tic : ℕ)
    → lowest players (is_missing rings peers tic) ≡ None
    → (p : ℕ) → p < players → is_gone peers tic p ≡ false → tic < count_of rings p
here_all rings peers players tic none p l stays = elim (cases_lt tic (count_of rings p)) [
  | inl here ↦ here
  | inr past ↦
      let waits = and_from (not (is_gone peers tic p)) (leb (count_of rings p) tic) (ap not stays)
      (le-leb (count_of rings p) tic past) in
      absurd (true≢false (sym waits ∙ lowest_none_each players (is_missing rings peers tic) none p l))
]

module _ (rings : ℕ → Ring) (peers : ℕ → Peer) (tic : ℕ) where
  -- the move of a player of the game
  abbrev pub own : ℕ → Option Move
  own player = option_map used (if is_gone peers tic player then None else get (rings player) tic)

  -- the seats of the players below this one
  abbrev pub seats_below : ℕ → List (Option Move)
  seats_below players = four (move_held rings peers players tic)

  -- one seat more
  pub seat_more : (player : ℕ) (step : Option Move) → player < 4 → own player ≡ step
      → set (seats_below player) player step ≡ seats_below (player + 1)
  seat_more zero step l e = λ i. sym e i ∷ None ∷ None ∷ None ∷ []
  seat_more (suc zero) step l e = λ i. own 0 ∷ sym e i ∷ None ∷ None ∷ []
  seat_more (suc (suc zero)) step l e = λ i. own 0 ∷ own 1 ∷ sym e i ∷ None ∷ []
  seat_more (suc (suc (suc zero))) step l e = λ i. own 0 ∷ own 1 ∷ own 2 ∷ sym e i ∷ []
  seat_more (suc (suc (suc (suc player)))) step l e = absurd (omega arith)

  -- a seat that is still to be filled in is empty
  pub seat_free : (player : ℕ) → player < 4 → lacks (seats_below player) player ≡ true
  seat_free zero l = refl
  seat_free (suc zero) l = refl
  seat_free (suc (suc zero)) l = refl
  seat_free (suc (suc (suc zero))) l = refl
  seat_free (suc (suc (suc (suc player)))) l = absurd (omega arith)

  -- and none, of a player who is gone
  pub seat_none : (player : ℕ) → player < 4 → own player ≡ None → seats_below player ≡ seats_below (player + 1)
  seat_none player l e = grind (arith, set-get_or, none_is, seat_more)

  pub own_gone : (player : ℕ) → is_gone peers tic player ≡ true → own player ≡ None
  own_gone player gone = rw gone refl

  -- the seats of a whole row are those of the players
  pub whole_below : (players : ℕ) → is_whole players (seats_below players) ≡ true
      → map is_some (seats_below players) ≡ seats_of players
  unfolding row_of
  whole_below players whole =
      seats_whole players (λ p. if is_gone peers tic p then None else get (rings p) tic) whole

-- one seat more that is empty where its player is gone
pub seats_more : (row : List (Option Move)) (gone : ℕ → Bool) (player : ℕ) → lacks row player ≡ gone player
    → ((p : ℕ) → p < player → lacks row p ≡ gone p) → (p : ℕ) → p < player + 1 → lacks row p ≡ gone p
seats_more row gone player this others p l = grind arith

-- a seat that was filled in, and the others
pub seats_set : (row : List (Option Move)) (gone : ℕ → Bool) (player : ℕ) (step : Option Move)
    → player < length row → is_none step ≡ gone player
    → ((p : ℕ) → p < player → lacks row p ≡ gone p) → (p : ℕ) → p < player + 1
    → lacks (set row player step) p ≡ gone p
seats_set row gone player step inside this others = grind (arith, seats_more, get_or-set_same, get_or-set_other)

-- a command that is no stop can be recorded
pub used_recordable : (command : TicCmd) → command.forward ≢ negsuc 127 → IsRecordable (used command)
unfolding used
used_recordable command no_stop = no_stop

-- What a run looks up in a node is what the machine looks up in the node that it represents.

pub fits : (n : Lockstep) (p : ℕ) → p < n.players → count_of (ring_at n.rings) p ≤ n.ran + 32
fits n p inside = let near = n.window p inside in let few = n.inside in omega arith

-- the mark of a command that may be missing
mark_or_blank : (commands : List TicCmd) (tic : ℕ) → mark_in_command (slice_get commands tic)
    ≡ (get_or commands tic blank).mark
mark_or_blank [] tic = refl
mark_or_blank (c ∷ commands) zero = refl
mark_or_blank (c ∷ commands) (suc tic) = mark_or_blank commands tic

module _ {limits : Limits} {me : ℕ} {n : Contents} {m : machine.Node} (r : Represents limits me n m) where
  inside : (p : ℕ) → p < limits.players → p < n.players
  inside p h = let P : ℕ → Type 0 = λ k. p < k in subst P (sym r.whose.players) h

  -- who is gone is absent
  gone_is : (p : ℕ) → p < n.players → is_gone n.peers n.ran p ≡ is_absent m p
  gone_is p h = λ i. is_over ((r.peers.known p (below limits me n m r p h)) i).end (r.table.ran i)

  pub finds_awaited : (found : Option ℕ) → found ≡ lowest n.players (is_missing n.rings n.peers n.ran)
      → lowest limits.players (is_awaited m) ≡ found
  finds_awaited found e = grind (arith, lowest_same)

  -- where no ring is more than twelve ahead
  module _ (window : (p : ℕ) → p < n.players → count_of n.rings p ≤ n.ran + 32) where
    pub mark_is : (p : ℕ) → p < n.players → mark_at n.rings n.ran p ≡ (held_at m p (machine.ran m)).mark
    mark_is p h =
        let kept = get_kept (m.held p) (n.rings p) n.ran (window p h) (grind (arith, below)) in
        grind (arith, kept, mark_or_blank (m.held p) n.ran, r.table.ran)

    pub should_is : (p : ℕ) → p < n.players → is_absent m p ≡ false
        → n.marks p (n.ran % 12) ≡ own_mark m p (machine.ran m)
    should_is p h present = grind arith

    pub finds_off : (gone : ℕ → Bool) (found : Option ℕ)
        → found ≡ (if nat_lt 12 n.ran
        then lowest n.players (differs_but gone n.rings n.peers n.marks n.ran) else None)
        → first_off_but limits gone m ≡ found
    finds_off gone found e = grind (arith, lowest_same, gone_is, inside, mark_is, should_is)

    -- one whose mark is off is not absent
    pub off_present : (gone : ℕ → Bool) (p : ℕ) → first_off_but limits gone m ≡ Some p → is_absent m p ≡ false
    off_present gone p e = grind (arith, and_parts, lowest_passes, not-true, none-some)

    -- where no command is missing
    module _ (none : lowest n.players (is_missing n.rings n.peers n.ran) ≡ None) where
      move_is : (p : ℕ) → move_held n.rings n.peers n.players n.ran p
          ≡ (if nat_lt p limits.players then option_map used
          (if is_absent m p then None else Some (held_at m p (machine.ran m))) else None)
      move_is p = grind (arith, lt-ltb, below, gone_is, get_some, le-ltb, here_all)

      pub row_is : four (move_held n.rings n.peers n.players n.ran) ≡ row_held limits m
      unfolding row_of
      row_is = λ i. move_is 0 i ∷ move_is 1 i ∷ move_is 2 i ∷ move_is 3 i ∷ []

      -- a player who is not absent has a move in the row
      pub seat_held : (p : ℕ) → p < n.players → p < 4 → is_absent m p ≡ false
          → machine.lacks (row_held limits m) p ≡ false
      seat_held p h seat present = grind (arith, seat_is, below)

      -- and one who is absent has none
      pub seat_empty : (p : ℕ) → p < n.players → p < 4 → is_absent m p ≡ true
          → machine.lacks (row_held limits m) p ≡ true
      seat_empty p h seat gone = grind (arith, seat_is, gone)

      -- the tic at which it ends is that of the row by its rings
      pub full_is : {row : List (Option Move)} {full : ℕ} {whole : Bool}
          → full ≡ (if whole then n.capacity else tic_limit) → whole ≡ machine.is_whole n.players row
          → row ≡ row_held limits m → full ≡ full_at limits (row_held limits m)
      full_is e each is = grind arith
