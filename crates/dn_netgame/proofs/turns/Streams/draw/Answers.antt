use Rattle.std.proofs.Common.{◌%◌, ◌^◌, ap, ◌∙◌}
use Rattle.rand_pcg.specs.{Lcg.{Lcg, next}, Pcg.{multiplier_64, pcg32}}
use Rattle.dn_tic.specs.declared.input.Input.TheVariants.{Pressed}
use Rattle.dn_netgame.specs.Turning.{drawn_in}
use Rattle.dn_netgame.proofs.Turning.{one_more, of_four}
use Rattle.dn_netgame.proofs.turns.Streams.draw.Goals as goal

pub returns-clause-keys : goal.returns-clause-keys
returns-clause-keys c seed round at =
    let drawn = λ (l : Lcg). (pcg32 l).0 % 2 ^ 18 in
    of_four (drawn_in seed round) _ _ _ _ (ap Pressed (c.drawn.ensures.keys ∙ ap drawn at.zero))
    (ap Pressed (c.drawn-2.ensures.keys ∙ ap drawn at.one)) (ap Pressed (c.drawn-3.ensures.keys ∙ ap drawn at.two))
    (ap Pressed (c.drawn-4.ensures.keys ∙ ap drawn at.three))

pub returns-clause-next : goal.returns-clause-next
returns-clause-next c seed round at = record {
  zero = c.drawn.ensures.stream ∙ ap (next 64 multiplier_64) at.zero ∙ one_more 64 multiplier_64 round _;
  one = c.drawn-2.ensures.stream ∙ ap (next 64 multiplier_64) at.one ∙ one_more 64 multiplier_64 round _;
  two = c.drawn-3.ensures.stream ∙ ap (next 64 multiplier_64) at.two ∙ one_more 64 multiplier_64 round _;
  three = c.drawn-4.ensures.stream ∙ ap (next 64 multiplier_64) at.three ∙ one_more 64 multiplier_64 round _;
}
