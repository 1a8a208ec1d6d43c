use Rattle.std.proofs.Common.{arith}
use Rattle.std.proofs.lemmas.List.{take_all}
use Rattle.world_text.proofs.Appending.{before, still_before}
use Rattle.world_text.proofs.Places.{none-put, places-more}
use Rattle.world_text.proofs.network.put_places.Goals as goal

pub loop-place-init : goal.loop-place-init
loop-place-init c = record {
  put = λ posts same. none-put c.args.first posts c.args.out.now;
  kept = take_all _ c.args.out.now (omega arith);
}

pub loop-place-preserved : goal.loop-place-preserved
loop-place-preserved c =
    let put = c.in_ok-put_number.ensures.ok in
    record {
      put = λ posts same. places-more c.args.first c.loop-place.place posts c.args.out.now c.loop-place.out _ (omega (arith, same)) (c.loop-place.invariant.put posts same) put;
      kept = still_before c.args.out.now c.loop-place.out _ c.loop-place.invariant.kept (before c.loop-place.out _ _ put);
    }
