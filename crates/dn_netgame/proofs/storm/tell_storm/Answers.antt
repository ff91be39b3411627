-- What is told of a storm and of the calm after it.
use Rattle.std.proofs.Common.{◌≡◌, ℕ, Bool, true, false, List, Option, Some, None, inl, inr, refl, subst, rules}
use Rattle.dn_world.specs.Plane.{Spots}
use Rattle.dn_demo.specs.Recorded.{capacity}
use Rattle.dn_game.specs.{declared.config.GameConfig.GameConfig, declared.played.Played.Played, Contents.contents}
use Rattle.dn_netgame.specs.{StormShown.{Calms, CalmsAfter, too_many, WalksUnder, IsStorm}, Told.Account}
use Rattle.dn_netgame.proofs.Showing.{prints_such}
use Rattle.dn_netgame.proofs.storm.tell_storm.Goals as goal

module _ (IsText : Account) (config : GameConfig) (players seed count : ℕ) (before played : Played Spots)
    (s : WalksUnder config players seed count before) (calmed : Bool) where
  storm_told : (calm : Option ℕ) (lines : List ℕ) → CalmsAfter calm before played calmed → calmed ≡ true
      → IsText s.events s.answers played lines → IsStorm IsText config players seed count calm lines 0
  storm_told (Some calm) lines after on told =
      let calms = subst (Calms calm before played) on after players config.extra (capacity config.limit players)
      s.last s.game in
      inl (before, s, (played, calms, told, refl))
  storm_told None lines after on told =
      let Told : Played Spots → Type 0 = λ p. IsText s.events s.answers p lines in
      (before, s, subst Told after.0 told, refl)

  storm_cut : (calm : Option ℕ) → CalmsAfter calm before played calmed → calmed ≡ false
      → IsStorm IsText config players seed count calm too_many 3
  storm_cut (Some calm) after off =
      let cut = subst (Calms calm before played) off after players config.extra (capacity config.limit players)
      s.last s.game in
      inr ((before, s, (contents played.game, cut)), refl, refl)
  storm_cut None after off = absurd (cc)

pub returns-then-not-branch : goal.returns-then-not-branch
returns-then-not-branch g c =
    let a = c.args in
    let off : c.in_ok-calm_after.field-0 ≡ false = search rules in
    prints_such g.W.Write.contents _ a.output.now c.print.new.output _ _ 3 c.print.result c.print.ensures.printed
    c.as_bytes.ensures.value
    (storm_cut g.T.Teller.account a.config a.players a.storm.seed a.storm.count c.in_ok-played.played _
    c.in_ok-played.ensures.0 _ a.storm.calm c.in_ok-calm_after.ensures off)

pub returns : goal.returns
returns g c =
    let a = c.args in
    let s = c.in_ok-played.ensures.0 in
    let on : c.in_ok-calm_after.field-0 ≡ true = search rules in
    prints_such g.W.Write.contents _ a.output.now c.print-2.new.output _ _ 0 c.print-2.result
    c.print-2.ensures.printed c.as_bytes-2.ensures.value
    (storm_told g.T.Teller.account a.config a.players a.storm.seed a.storm.count c.in_ok-played.played _ s _
    a.storm.calm _ c.in_ok-calm_after.ensures on
    (c.in_ok-text.ensures _ s.events s.answers c.new-teller.ensures c.in_ok-played.ensures.1))
