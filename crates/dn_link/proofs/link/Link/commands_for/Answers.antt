use Rattle.std.proofs.Common.{rules, ◌<◌, ◌≤◌, ℕ, length, refl, ap, subst, arith, ◌≡◌}
use Rattle.dn_lockstep.specs.Contents.{Contents}
use Rattle.dn_link.specs.{declared.bundle.Part.TheVariants.Relay, Linking.linked, Relays.AreTold, Relays.IsFrom}
use Rattle.dn_link.proofs.Handing.{length_commands, none_from}
use Rattle.dn_link.proofs.link.Link.commands_for.Goals as goal

pub returns-then-is_empty : goal.returns-then-is_empty
returns-then-is_empty c =
    let told = c.relay_of-relay.ensures.told in
    let long = ap (length {A = ℕ}) told.1 in
    let eight = length_commands told.0 in
    let none : length c.relay_of-relay.result.run.commands.items ≡ 0 = search rules in
    none_from (linked c.args.self.now).node c.args.player c.args.start c.args.most told.0 (omega (arith, none, long, eight))
    (subst (λ (n : Contents). IsFrom n c.args.player c.args.start c.args.most told.0) c.lockstep.ensures told.4)

pub returns : goal.returns
returns c =
    let link = linked c.args.self.now in
    let told = c.relay_of-relay.ensures.told in
    let long = ap (length {A = ℕ}) told.1 in
    let eight = length_commands told.0 in
    let few = told.4.0 in
    let start : c.args.start < 4294967296 = search rules in
    let some : 1 ≤ length c.relay_of-relay.result.run.commands.items = search rules in (
      record {
        handed = record { player = c.args.player; start = c.args.start; commands = told.0 };
        is = λ i. Relay (record {
          player = c.relay_of-relay.ensures.player i;
          run = record { start = c.relay_of-relay.ensures.start i; commands = record { items = told.1 i } };
        });
        its = refl;
        on = record {
          player = c.requires.maker;
          there = c.requires.peer;
          small = c.requires.small;
          third = c.requires.apart;
          low = told.3;
          told = subst (λ (n : Contents). AreTold n c.args.player c.args.start told.0) c.lockstep.ensures told.2;
        };
        lacked = c.requires.lacked;
        some = omega (arith, some, long, eight);
        few = omega (arith, few, c.requires.few);
        stays = c.requires.stays;
        run = record {
          start = omega (arith, start, c.relay_of-relay.ensures.start);
          some = omega (arith, some, long, eight);
          few = omega (arith, long, eight, few, c.requires.few);
          whole = omega (arith, long, eight);
        };
      },
      refl,
      subst (λ (n : Contents). IsFrom n c.args.player c.args.start c.args.most told.0) c.lockstep.ensures told.4,
    )
