-- What a node tells, and what it does when it gives up a player, keeps a report, or decides.
use Rattle.std.proofs.Common.{◌≡◌, ℕ, ◌<◌, refl, sym, ◌∙◌, ap, subst, arith, inl, List, ◌∷◌, length, true, false}
use Rattle.std.proofs.{Common.Some, lemmas.{Bool.{cond_both, and_right, true≢false}, Option.same_Some}}
use Rattle.dn_tic.specs.declared.command.TicCmd.{TicCmd}
use Rattle.dn_machine.specs.{declared.answers.Phase.Phase, Limits.Limits, Node.put, Node.got, Node.is_ended, Node.has_left, Worlds.Rules}
use Rattle.dn_machine.proofs.Put.{put_at, slice_get_push}
use Rattle.dn_remain.specs.Wary.{Report, Wary, report_of, after_news, noted_gone, with_gone, is_in_game, with_report}
use Rattle.dn_remain.specs.{Wary.{report_to, reached, rows_to, now_of}, Vanished.Commands.{Holder, Had}}
use Rattle.dn_remain.specs.Remaining.{Remaining, wary_of, with_wary, with_telling}
use Rattle.dn_remain.proofs.{Known.Follows, Known.not_left, Following.steps_set, Settling.settles, Each.news_cases, Vanished.Put.at_put, Vanished.Put.own_put, Followed.own_place, Followed.there, Followed.again, Followed.IsFollowed, Followed.AreFollowed, Followed.anchored, Followed.carried}
use Rattle.dn_machine.specs.Node as machine
use Rattle.dn_remain.specs.Vanished.Steps as step

-- a report tells all that is seen of its sender
told_is : (limits : Limits) (me : ℕ) (wary : Wary) (to : ℕ) (report : Report) → report_to limits me wary to ≡ Some report
    → report ≡ report_of wary
told_is limits me wary to report h = grind arith

-- a node that is in a game has not left
in_game_here : (phase : Phase) → is_in_game phase ≡ true → is_ended phase ≡ false
in_game_here phase h = grind (arith, true≢false)

-- the node that needs to hear no more of a player: nothing else of it is seen
pub record IsNoted (node new : machine.Node) : Type 0 where
  pub held : new.held ≡ node.held
  pub peers : new.peers ≡ node.peers
  pub rows : new.rows ≡ node.rows
  pub left : has_left new ≡ false

noted_is : (limits : Limits) (node : machine.Node) (player : ℕ) (phase : Phase) → node.phase ≡ phase
    → is_in_game phase ≡ true → IsNoted node (noted_gone limits node player phase)
noted_is limits node player phase e h = grind (arith, not_left, true≢false, cond_both, and_right)

module _ {S : Type 0} (known : ℕ → Holder TicCmd → Type 0) (rules : Rules S) where
  module _ (all : Remaining) (older : List (ℕ → Holder TicCmd)) (f : IsFollowed known rules all older) where
    -- a report that is told tells what its sender is
    pub tells : (node to : ℕ) (told : Report) → report_to rules.limits node (wary_of all node) to ≡ Some told
        → AreFollowed known rules (with_telling all node to (Some told))
    tells node to told is = (
      older,
      record {
        follows = f.follows;
        newest = f.newest;
        reports = grind (arith, slice_get_push, now_of, told_is, wary_of);
      },
    )

    -- the node decides, if it can
    newest_put : (q x r : ℕ) (report : Report) → put all.newest q (all.newest q) x r ≡ Some report
        → Had (now_of all.game all.gone ∷ older) r report
    newest_put q x r report h = f.newest x r report (sym (λ i. own_put all.newest q i x r) ∙ h)

    news : (q : ℕ) → q < rules.players → has_left (all.game.nodes q) ≡ false
        → AreFollowed known rules (with_wary all q (after_news rules.limits q (wary_of all q)))
    news q mine here = news_cases rules.limits q (wary_of all q) (λ (w : Wary). AreFollowed known rules (with_wary all q w))
        (subst (λ (r : Remaining). AreFollowed known rules r) (sym (own_place all q)) (older, f))
        (λ can. carried known rules (now_of all.game all.gone ∷ older) f.follows.knows _ (now_of all.game all.gone ∷ older)
        (settles (anchored known rules all older f) q mine here (all.newest q) (f.newest q) can) (newest_put q) f.reports)

  -- a node of which something is known is put, and decides if it can
  pub news_there : (all : Remaining) (q : ℕ) (wary : Wary) → q < rules.players → has_left wary.node ≡ false
      → AreFollowed known rules (with_wary all q wary) → AreFollowed known rules (with_wary all q (after_news rules.limits q wary))
  news_there all q wary mine here (older, f) =
      subst (λ (r : Remaining). AreFollowed known rules r) (again all q wary (after_news rules.limits q wary))
      (subst (λ (w : Wary). AreFollowed known rules (with_wary (with_wary all q wary) q (after_news rules.limits q w)))
      (there all q wary) (news (with_wary all q wary) older f q mine
      (ap has_left (put_at all.game.nodes q q wary.node refl) ∙ here)))

  module _ (all : Remaining) (older : List (ℕ → Holder TicCmd)) (f : IsFollowed known rules all older) (q : ℕ)
      (mine : q < rules.players) (phase : is_in_game (all.game.nodes q).phase ≡ true) where
    abbrev me : machine.Node
    me = all.game.nodes q

    abbrev past : List (ℕ → Holder TicCmd)
    past = now_of all.game all.gone ∷ older

    pub here : has_left me ≡ false
    here = not_left me (in_game_here me.phase phase)

    pub noted : (player : ℕ) → IsNoted me (noted_gone rules.limits me player me.phase)
    noted player = noted_is rules.limits me player me.phase refl phase

    -- it gives up a player
    pub gives : (player : ℕ) → player < rules.players → (player ≡ q → ⊥)
        → AreFollowed known rules (with_wary all q (with_gone rules.limits (wary_of all q) player))
    gives player low apart =
        let is = noted player in
        let f' = anchored known rules all older f in
        carried known rules past f.follows.knows _ past
        (steps_set f' q (put (all.gone q) player true) (noted_gone rules.limits me player me.phase) (record {
          ends = λ p e s g. f'.ends q p e (sym (λ i. (is.peers i p).end) ∙ s)
              (at_put (λ p b. b ≡ false → all.gone q p ≡ false) (all.gone q) player true
              (λ g. absurd (true≢false g)) (λ p n g. g) p g);
          endless = (λ i. (is.peers i q).end) ∙ f'.endless q;
          rows = inl is.rows;
          resend = grind arith;
        }) mine here step.GiveUp (
          player,
          low,
          apart,
          λ i. record {
            got = λ p. length (is.held i p);
            ends = λ p. reached (length (is.held i p)) (is.peers i p).end;
            gone = put (all.gone q) player true;
            left = (is.left ∙ sym here) i;
            rows = rows_to (λ p. reached (length (is.held i p)) (is.peers i p).end) (length (is.rows i));
          },
        ) (inl (λ i. is.held i q)) (λ p n. inl (λ i. is.held i p))) (newest_put all older f q) f.reports

    -- it keeps a report
    pub keeps : (from : ℕ) (told : Report) → Had past from told
        → AreFollowed known rules (with_wary all q (with_report (wary_of all q) from told))
    keeps from told had =
        let next : Remaining = with_wary all q (with_report (wary_of all q) from told) in
        let base : Follows (Had past) rules next.game next.gone older =
        subst (λ (r : Remaining). Follows (Had past) rules r.game r.gone older) (sym (own_place all q))
        (anchored known rules all older f) in
        carried known rules past f.follows.knows next older base (λ x r report. at_put
        (λ x g. g r ≡ Some report → Had past r report) all.newest q (put (all.newest q) from (Some told))
        (at_put (λ r o. o ≡ Some report → Had past r report) (all.newest q) from (Some told)
        (λ h. subst (Had past from) (same_Some told report h) had) (λ r n. f.newest q r report) r)
        (λ x n. f.newest x r report) x) f.reports
