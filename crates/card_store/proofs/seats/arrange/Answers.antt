use Rattle.std.proofs.Common.{◌∙◌, ◌+◌, length, refl, sym, subst, ℕ, List, arith}
use Rattle.std.specs.Prelude.{Option}
use Rattle.std.proofs.lemmas.Option.{slice_get_read}
use Rattle.card_store.specs.Seats.{Filling}
use Rattle.card_store.proofs.Keeping.{fill_step, fill_skip, fill_room}
use Rattle.card_store.proofs.Kept.{filled_kept}
use Rattle.card_store.proofs.seats.arrange.Goals as goal
use Rattle.card_store.proofs.seats.arrange.Goals.{then-not-stands, else-not-stands}

pub slot_of_new-slot-requires : goal.slot_of_new-slot-requires
slot_of_new-slot-requires c =
    let i = c.loop-index.index in
    let kept = c.index-pending-index.result in
    let pending = c.args.pending.now in
    let is = slice_get_read pending (length pending) i kept refl c.loop-index-test.true c.index-pending-index.is in
    fill_room c.args.numbers.now pending i kept c.loop-index.seats is (sym c.stands.ensures ∙ c.if-not-stands.true) c.requires.few c.loop-index.invariant

pub loop-index-preserved : goal.loop-index-preserved
loop-index-preserved c =
    let i = c.loop-index.index in
    let kept = c.index-pending-index.result in
    let pending = c.args.pending.now in
    let is = slice_get_read pending (length pending) i kept refl c.loop-index-test.true c.index-pending-index.is in
    elim c.if-not-stands.branch [
      | then-not-stands w ↦ subst (λ (l : List (Option ℕ)). Filling c.args.numbers.now pending (i + 1) l) (sym w.seats-is)
          (fill_step c.args.numbers.now pending i w.slot_of_new-slot.result kept c.loop-index.seats c.requires.rising is (sym c.stands.ensures ∙ w.if-not-stands.true) w.slot_of_new-slot.ensures.within w.slot_of_new-slot.ensures.place c.loop-index.invariant)
      | else-not-stands w ↦ subst (λ (l : List (Option ℕ)). Filling c.args.numbers.now pending (i + 1) l) (sym w.seats-is)
          (fill_skip c.args.numbers.now pending i kept c.loop-index.seats is (sym c.stands.ensures ∙ w.if-not-stands.false) c.loop-index.invariant)
    ]

pub returns-clause-kept : goal.returns-clause-kept
returns-clause-kept c = filled_kept c.args.numbers.now c.args.pending.now c.loop-index.index c.loop-index.seats c.requires.rising (omega (arith, c.loop-index-test.false)) c.loop-index.invariant
