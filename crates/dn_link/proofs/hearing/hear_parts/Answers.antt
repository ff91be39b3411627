use Rattle.std.proofs.{Common.{rules, ◌≡◌, ◌∷◌, ℕ, Bool, refl, subst, List}, lemmas.List.nil_from_length}
use Rattle.std.specs.List.{flat_map}
use Rattle.dn_lockstep.specs.Contents.{Contents, contents}
use Rattle.dn_link.specs.{declared.bundle.Part.Part, Packets.{heard_of, takes_relay}}
use Rattle.dn_survivor.specs.OfOthers.{has}
use Rattle.dn_link.proofs.Hearings.{LeadsOn, lists_go_on}
use Rattle.dn_link.specs.declared.bundle.Relay as relay
use Rattle.dn_link.proofs.hearing.hear_parts.Goals as goal

-- the same rest leads on
leads_same : (takes : relay.Relay → Bool) (from : ℕ) (parts : List Part) (old mid : Contents) {rest told : List Part} → rest ≡ told
    → LeadsOn (flat_map (heard_of takes from) parts) old (flat_map (heard_of takes from) rest) mid
    → LeadsOn (flat_map (heard_of takes from) parts) old (flat_map (heard_of takes from) told) mid
leads_same takes from parts old mid same leads =
    subst (λ (xs : List Part). LeadsOn (flat_map (heard_of takes from) parts) old (flat_map (heard_of takes from) xs) mid)
    same leads

pub parts-preserved : goal.parts-preserved
parts-preserved c =
    let takes = takes_relay (has c.args.gone.now) c.args.counts.now in
    let split : c.parts.rest.now ≡ c.in-Some.part.now ∷ c.in-Some.after.now = search rules in
    let on = leads_same takes c.args.from c.args.parts.now (contents c.args.lockstep.now) (contents c.parts.lockstep)
    split c.parts.invariant in
    λ new then. on new (lists_go_on (heard_of takes c.args.from c.in-Some.part.now)
    (flat_map (heard_of takes c.args.from) c.in-Some.after.now) (contents c.parts.lockstep)
    (contents c.hear_part.new.lockstep) c.hear_part.ensures new then)

pub returns : goal.returns
returns c =
    let none = nil_from_length c.parts.rest.now c.in_default.ensures.cases in
    leads_same (takes_relay (has c.args.gone.now) c.args.counts.now) c.args.from c.args.parts.now
    (contents c.args.lockstep.now) (contents c.parts.lockstep) none c.parts.invariant (contents c.parts.lockstep) refl
