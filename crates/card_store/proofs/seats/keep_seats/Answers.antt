use Rattle.std.proofs.Common.{◌+◌, length, refl, sym, subst, ℕ, List}
use Rattle.std.specs.Prelude.{Option}
use Rattle.std.proofs.lemmas.Option.{slice_get_read}
use Rattle.card_store.specs.Seats.{Keeping}
use Rattle.card_store.proofs.Keeping.{keep_step, keep_skip}
use Rattle.card_store.proofs.seats.keep_seats.Goals as goal
use Rattle.card_store.proofs.seats.keep_seats.Goals.{in-Some, in-None}

pub loop-index-preserved : goal.loop-index-preserved
loop-index-preserved c =
    let i = c.loop-index.index in
    let kept = c.index-pending-index.result in
    let pending = c.args.pending.now in
    let is = slice_get_read pending (length pending) i kept refl c.loop-index-test.true c.index-pending-index.is in
    elim c.match-slot_of.branch [
      | in-Some w ↦ subst (λ (l : List (Option ℕ)). Keeping c.args.numbers.now pending (i + 1) l) (sym w.seats-is) (keep_step c.args.numbers.now pending i w.in-Some.slot kept c.loop-index.seats c.requires c.told-numbers is (sym w.in-Some.ensures) c.loop-index.invariant)
      | in-None w ↦ subst (λ (l : List (Option ℕ)). Keeping c.args.numbers.now pending (i + 1) l) (sym w.seats-is) (keep_skip c.args.numbers.now pending i kept c.loop-index.seats is (sym w.in-None.ensures) c.loop-index.invariant)
    ]
