-- A game whose nodes have a history goes on: nothing that is seen changes, or one node steps.
use Rattle.std.proofs.Common.{◌≡◌, ℕ, ◌<◌, ◌≤◌, sym, ◌∙◌, ap, subst, inl, inr, List, [], ◌∷◌, ◌++◌, length, get_or, take, refl, arith, ◌≢◌, ◌⊎◌, Bool, true, false, Some, None}
use Rattle.std.proofs.lemmas.{Bool.both_ways, List.length_push}
use Rattle.dn_tic.specs.declared.command.TicCmd.{TicCmd}
use Rattle.dn_machine.specs.{Node.{ends_of, made, has_left, put}, Game.{Game, with_node}, Worlds.Rules}
use Rattle.dn_machine.proofs.Put.{put_at, put_off, same_functions, view_put}
use Rattle.dn_remain.specs.Vanished.{Steps.{Act, Acts, Step, IsRun}, Commands.{Holder, seen, past_seen, Had, AreHanded}}
use Rattle.dn_remain.specs.{Vanished.Commands.Handed, Wary.{end_seen, rows_to, holder_of, now_of, row_had}}
use Rattle.dn_remain.proofs.{Vanished.Put.at_put, Vanished.Put.at_both, Vanished.Put.own_put, Seeing.rows_are, Vanished.Always.always, Vanished.Invariant.IsGrown, Seeing.length_rows, Known.IsTold, Known.IsEnd, Known.Follows, Known.told_later, Known.IsFit}
use Rattle.dn_machine.specs.Node as machine

-- another node, which has given up these, in one place
moved_set : (game : Game) (gone : ℕ → ℕ → Bool) (q : ℕ) (new : machine.Node) (set : ℕ → Bool)
    → now_of (with_node game q new) (put gone q set) ≡ put (now_of game gone) q (holder_of new set)
moved_set game gone q new set = grind (arith, same_functions, at_both, put_at, put_off)

module _ {S : Type 0} {known : ℕ → Holder TicCmd → Type 0} {rules : Rules S} {game : Game} {gone : ℕ → ℕ → Bool} {older : List (ℕ → Holder TicCmd)}
    (follows : Follows known rules game gone older) (q : ℕ) where
  module _ (set : ℕ → Bool) (new : machine.Node) (fit : IsFit rules.limits game.nodes gone q set new) where
    abbrev next : Game
    next = with_node game q new

    abbrev sets : ℕ → ℕ → Bool
    sets = put gone q set

    abbrev old : Holder TicCmd
    old = now_of game gone q

    endless_after : (x : ℕ) → ends_of (next.nodes x) x ≡ None
    endless_after = at_put (λ x m. ends_of m x ≡ None) game.nodes q new fit.endless (λ x n. follows.endless x)

    resend_after : (x to : ℕ) → ((next.nodes x).peers to).resend ≤ made x (next.nodes x)
    resend_after = grind (arith, at_put)

    -- an end stays one where it is one at the node in its new state
    ends_after : ((x e : ℕ) → IsEnd game.nodes gone x q e → (has_left new ≡ true) × (set x ≡ false) × (e ≡ made q new))
        → (x p e : ℕ) → ends_of (next.nodes x) p ≡ Some e → sets x p ≡ false → IsEnd next.nodes sets x p e
    ends_after stands x p e s f =
        at_both (λ p m g. IsEnd game.nodes gone x p e
        → (p ≢ x) × (has_left m ≡ true) × (g x ≡ false) × (e ≡ made p m)) game.nodes gone q new set
        (λ h. let k = stands x e h in (h.0, k.0, k.1, k.2)) (λ p n h. h) p
        (at_both (λ x m g. ends_of m p ≡ Some e → g p ≡ false → IsEnd game.nodes gone x p e) game.nodes gone q new set
        (fit.ends p e) (λ x n. follows.ends x p e) x s f)

    -- a node's rows are those of what is seen of it
    rows_after : ((tic : ℕ) → tic < machine.ran new → get_or new.rows tic [] ≡ row_had rules.limits (holder_of new set) tic)
        → (x tic : ℕ) → tic < machine.ran (next.nodes x)
        → get_or (next.nodes x).rows tic [] ≡ row_had rules.limits (now_of next sets x) tic
    rows_after at = grind (arith, at_both)

    rows_still : holder_of new set ≡ old → (tic : ℕ) → tic < machine.ran new
        → get_or new.rows tic [] ≡ row_had rules.limits (holder_of new set) tic
    rows_still same tic l =
        let a = length_rows (end_seen new) (machine.ran new) in
        let b = length_rows (end_seen (game.nodes q)) (machine.ran (game.nodes q)) in
        let c : length (rows_to (end_seen new) (machine.ran new))
        ≡ length (rows_to (end_seen (game.nodes q)) (machine.ran (game.nodes q))) =
        ap (λ (h : Holder TicCmd). length h.rows) same in
        grind (arith, length_push)

    -- nothing that is seen changes
    stays_set : holder_of new set ≡ old → Follows known rules next sets older
    stays_set same =
        let all : now_of next sets ≡ now_of game gone = moved_set game gone q new set
        ∙ (ap (λ (h : Holder TicCmd). put (now_of game gone) q h) same ∙ own_put (now_of game gone) q) in
        record {
          run = subst (λ (n : ℕ → Holder TicCmd). IsRun rules.players rules.ahead (past_seen (n ∷ older))) (sym all) follows.run;
          handed = handed_at older (sym all) follows.handed;
          flights = λ which flight h. subst (λ (n : ℕ → Holder TicCmd). IsTold rules.players (n ∷ older) flight) (sym all)
              (follows.flights which flight h);
          ends = ends_after (λ x e h. (
            ap (λ (h : Holder TicCmd). h.left) same ∙ h.1,
            ap (λ (h : Holder TicCmd). h.gone x) same ∙ h.2,
            h.3 ∙ sym (ap (λ (h : Holder TicCmd). length (h.held q)) same),
          ));
          endless = endless_after;
          resend = resend_after;
          rows = rows_after (rows_still same);
          knows = λ r u k. subst (λ (n : ℕ → Holder TicCmd). Had (n ∷ older) r u) (sym all) (follows.knows r u k);
        }
      where
        handed_at : (past : List (ℕ → Holder TicCmd)) {a b : ℕ → Holder TicCmd} → a ≡ b → AreHanded (a ∷ past) → AreHanded (b ∷ past)
        handed_at past e h = subst (λ (n : ℕ → Holder TicCmd). AreHanded (n ∷ past)) e h

    -- one node steps
    pub steps_set : q < rules.players → has_left (game.nodes q) ≡ false → (act : Act)
        → Acts rules.players rules.ahead (past_seen (now_of game gone ∷ older)) q act (seen (holder_of new set))
        → ((new.held q ≡ (game.nodes q).held q) ⊎ ((command : TicCmd) × (new.held q ≡ (game.nodes q).held q ++ command ∷ [])))
        → ((p : ℕ) → (p ≡ q → ⊥) → (new.held p ≡ (game.nodes q).held p)
        ⊎ ((r : ℕ) × (w : Holder TicCmd) × (end : ℕ) × Had (now_of game gone ∷ older) r w × (new.held p ≡ take end (w.held p))))
        → Follows known rules next sets (now_of game gone ∷ older)
    steps_set mine here act acts own others =
        let all = moved_set game gone q new set in
        let at : now_of next sets q ≡ holder_of new set =
        ap (λ (n : ℕ → Holder TicCmd). n q) all ∙ put_at (now_of game gone) q q (holder_of new set) refl in
        let step : Step rules.players rules.ahead (past_seen (now_of game gone ∷ older)) (λ x. seen (now_of next sets x)) =
        grind (arith, seen, holder_of, view_put, now_of) in
        let hand : Handed (now_of game gone) older (now_of next sets) =
        record { q = q; new = holder_of new set; next_is = all; own = own; others = others } in
        record {
          run = (step, follows.run);
          handed = (hand, follows.handed);
          flights = λ which flight h. told_later rules.players (now_of game gone ∷ older) _ flight (follows.flights which flight h);
          ends = ends_after (λ x e h. absurd (both_ways (has_left (game.nodes q)) here h.1));
          endless = endless_after;
          resend = resend_after;
          rows = rows_after (rows_are rules.limits (now_of next sets ∷ now_of game gone ∷ older) (hand, follows.handed)
              (step, follows.run) q old (holder_of new set) (inr (inl refl)) (inl (sym at))
              (subst (λ (h : Holder TicCmd). IsGrown (seen old) (seen h)) at
              ((always rules.players rules.ahead (past_seen (now_of next sets ∷ now_of game gone ∷ older))
              (step, follows.run)).order q (seen old) (inr (inl refl))).grown)
              (game.nodes q).rows new.rows (length_rows (end_seen (game.nodes q)) (machine.ran (game.nodes q)))
              (length_rows (end_seen new) (machine.ran new)) (follows.rows q) fit.rows);
          knows = λ r u k. inr (follows.knows r u k);
        }

  -- the node has given up nobody else
  module _ (new : machine.Node) (fit : IsFit rules.limits game.nodes gone q (gone q) new) where
    pub stays : holder_of new (gone q) ≡ now_of game gone q → Follows known rules (with_node game q new) gone older
    stays same = subst (λ (g : ℕ → ℕ → Bool). Follows known rules (with_node game q new) g older) (own_put gone q)
        (stays_set (gone q) new fit same)

    pub steps : q < rules.players → has_left (game.nodes q) ≡ false → (act : Act)
        → Acts rules.players rules.ahead (past_seen (now_of game gone ∷ older)) q act (seen (holder_of new (gone q)))
        → ((new.held q ≡ (game.nodes q).held q) ⊎ ((command : TicCmd) × (new.held q ≡ (game.nodes q).held q ++ command ∷ [])))
        → ((p : ℕ) → (p ≡ q → ⊥) → (new.held p ≡ (game.nodes q).held p)
        ⊎ ((r : ℕ) × (w : Holder TicCmd) × (end : ℕ) × Had (now_of game gone ∷ older) r w × (new.held p ≡ take end (w.held p))))
        → Follows known rules (with_node game q new) gone (now_of game gone ∷ older)
    steps mine here act acts own others =
        subst (λ (g : ℕ → ℕ → Bool). Follows known rules (with_node game q new) g (now_of game gone ∷ older)) (own_put gone q)
        (steps_set (gone q) new fit mine here act acts own others)
