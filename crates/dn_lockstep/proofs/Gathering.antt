-- What a gathering node makes of a peer that it hears, and of a player who is excused.
use Rattle.std.proofs.Common.{◌-◌, subst, ap, inl, inr, nat_lt, ◌≡◌, ◌≢◌, ◌<◌, ℕ, Bool, true, false, refl, sym, ◌∙◌}
use Rattle.std.proofs.{Common.{arith, ◌≤◌, ◌+◌, zero, suc, Some}, lemmas.Bool.{cases_Bool, ltb-true}}
use Rattle.dn_machine.specs.{Game.fresh, Started.{started_node, heard_by, key_node}, declared.answers.Heard.Heard}
use Rattle.dn_machine.specs.{declared.answers.Phase.TheVariants.Gathering, Limits.Limits, Node.put}
use Rattle.dn_machine.specs.Hearing.{on_gathering, started}
use Rattle.dn_machine.proofs.Started.{key_first, key_gathers, hears_next}
use Rattle.dn_lockstep.specs.{Opening.IsGame, Steps.{Steps, Becomes, IsAfter}, Contents.Contents, Represents.Represents}
use Rattle.dn_lockstep.specs.Settling.{is_no_peer, is_start, on_excuse, on_excuse_in}
use Rattle.dn_lockstep.proofs.After.{along, after}
use Rattle.std.specs.{Prelude.{◌||◌, ◌&&◌, ◌==◌}, List.{list_all, range_with_len}}
use Rattle.dn_setup.specs.{Settings.Settings, Gathered.{Gathered, is_noted, is_peer, all_noted}}
use Rattle.dn_machine.specs.Node as machine

-- another player has a number of the game
pub peer_below : (players me player : ℕ) → is_no_peer players me player ≡ false → player < players
peer_below players me player e = grind arith

pub peer_apart : (players me player : ℕ) → is_no_peer players me player ≡ false → player ≢ me
peer_apart players me player e same = grind arith

module _ {limits : Limits} {me : ℕ} {n : Contents} {m : machine.Node} (r : Represents limits me n m)
    (player : ℕ) where
  pub same_test : is_no_peer n.players n.me player ≡ is_no_peer limits.players me player
  same_test = λ i. is_no_peer (r.whose.players i) (r.whose.number i) player

  pub stranger_excused : is_no_peer n.players n.me player ≡ true
      → IsAfter limits me n (on_excuse limits me m player) (λ started. false ≡ started)
  unfolding on_excuse
  stranger_excused e = let test = sym same_test ∙ e in after m false (rw test refl) r refl

  module _ (peer : is_no_peer n.players n.me player ≡ false) where
    by_its_phase : on_excuse limits me m player ≡ on_excuse_in limits m player m.phase
    unfolding on_excuse
    by_its_phase = let test = sym same_test ∙ peer in rw test refl

    pub other_excused : n.phase ≢ Gathering
        → IsAfter limits me n (on_excuse limits me m player) (λ started. false ≡ started)
    other_excused other = grind (arith, after, by_its_phase)

    pub gathering_excused : n.phase ≡ Gathering → (heard : Heard) (new : Contents)
        → IsAfter limits me new (on_gathering limits m player) (λ answer. heard ≡ answer)
        → IsAfter limits me new (on_excuse limits me m player) (λ started. is_start heard ≡ started)
    gathering_excused at heard new shows = grind (arith, by_its_phase, after)

-- two tests that agree on each number of a range
all_same : (one other : ℕ → Bool) (low count : ℕ) → ((p : ℕ) → low ≤ p → p < low + count → one p ≡ other p)
    → list_all one (range_with_len low count) ≡ list_all other (range_with_len low count)
all_same one other low zero same = refl
all_same one other low (suc count) same =
    let first = same low (omega arith) (omega arith) in
    let rest = all_same one other (low + 1) count (λ p h k. same p (omega arith) (omega arith)) in
    λ i. first i && rest i

-- the peers are noted by one as by the other
noted_same : (players : ℕ) (one other : ℕ → Bool) → ((p : ℕ) → is_peer players p ≡ true → one p ≡ other p)
    → all_noted players one ≡ all_noted players other
noted_same players one other same = grind (arith, all_same)

module _ (limits : Limits) (me : ℕ) (n : Contents) (m : machine.Node) (r : Represents limits me n m)
    (from : ℕ) (gather : Gathered) (players : gather.players ≡ n.gather.players)
    (heard : (p : ℕ) → is_noted gather p ≡ (is_noted n.gather p || (p == from && is_peer n.gather.players p))) where
  now_noted : (p : ℕ) → is_peer limits.players p ≡ true → is_noted gather p ≡ put m.noted from true p
  now_noted p peer = grind arith

  pub shows_noted : Represents limits me (record n { gather = gather })
      (record m { noted = put m.noted from true })
  shows_noted = grind (arith, now_noted)

  all_heard : (complete : Bool) → complete ≡ all_noted gather.players (is_noted gather)
      → all_noted limits.players (put m.noted from true) ≡ complete
  all_heard complete is = grind (arith, noted_same, now_noted)

  pub noted_shows : false ≡ all_noted gather.players (is_noted gather)
      → IsAfter limits me (record n { gather = gather }) (on_gathering limits m from)
      (λ answer. Heard.Noted ≡ answer)
  noted_shows some =
      let more = all_heard false some in
      after (record m { noted = put m.noted from true }) Heard.Noted (rw more refl) shows_noted refl

  pub started_shows : (settings : Settings) (started_as : Contents)
      → true ≡ all_noted gather.players (is_noted gather) → n.settings ≡ Some settings
      → Represents limits me started_as (started (record m { noted = put m.noted from true }) settings)
      → IsAfter limits me started_as (on_gathering limits m from) (λ answer. Heard.Started ≡ answer)
  started_shows settings started_as every known shows = grind (arith, all_heard true every, after)

-- where each player was given the settings: how player 0 comes to play, by those that it need not wait for
module _ (limits : Limits) (settings : Settings) where
  abbrev key : ℕ → machine.Node
  key others = key_node limits.players settings others

  pub noted_next : (player : ℕ) (n : Contents) → 1 ≤ player → player < n.players → Represents limits 0 n (key (player - 1))
      → (new : Contents) (IsAnswer : Heard → Type 0) → Steps n new (λ limits me m. on_gathering limits m player) IsAnswer
      → Represents limits 0 new (key player)
  noted_next player n some below r new IsAnswer steps = grind (arith, key_gathers, along, hears_next)

  pub plays_on : (player : ℕ) (n : Contents) → 1 ≤ player → (n.phase ≡ Gathering → n.players ≤ player)
      → Represents limits 0 n (key (player - 1)) → Represents limits 0 n (key player)
  plays_on player n some off r = grind (arith, nat_lt, key_gathers, ltb-true, along)

  pub last_noted : (me : ℕ) → IsGame limits.players → (n new : Contents) → n.me ≡ 0
      → Represents limits me n (fresh settings me)
      → (Represents limits 0 n (key 0) → Represents limits 0 new (key 3))
      → Represents limits me new (started_node limits.players settings me)
  last_noted me few n new first r on = grind (arith, along, key_first)

  pub other_starts : (me : ℕ) (n new : Contents) → n.me ≢ 0 → Represents limits me n (fresh settings me)
      → Becomes n new (λ limits me m. started m settings)
      → Represents limits me new (started_node limits.players settings me)
  other_starts me n new other r becomes = along (grind arith) (becomes.step limits me (fresh settings me) r).node
