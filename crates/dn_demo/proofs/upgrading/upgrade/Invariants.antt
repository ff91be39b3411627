use Rattle.std.proofs.Common.{◌≡◌, ◌*◌, false, length, take}
use Rattle.dn_demo.specs.{Layout.long_tics, Text.{player_count, demo_text}, Places.{place, seats_in}, declared.recorder.Stage.TheVariants.Open}
use Rattle.dn_demo.proofs.upgrading.upgrade.Given as goal

abbrev pub invariant-loop-tic : goal.invariant-loop-tic
invariant-loop-tic l = record {
  limit : l.recorder.limit ≡ l.limit;
  stage : l.recorder.stage ≡ Open;
  text : l.recorder.bytes ≡ demo_text long_tics l.demo.start l.demo.view l.demo.present
      (take l.tic l.demo.rows) false;
  size : length l.recorder.bytes ≡ place long_tics (player_count l.demo.present * l.tic);
  seats : seats_in l.recorder.bytes ≡ l.demo.present;
}
