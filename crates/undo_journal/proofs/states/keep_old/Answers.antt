use Rattle.std.proofs.Common.{◌≡◌, ◌∙◌, ap, sym, refl, subst, arith, List, ℕ, true, false}
use Rattle.chip_port.proofs.Runs.{ran_none, ran_sync, ran_then, ran_most, not_ok}
use Rattle.undo_journal.specs.Home.{home, home_in}
use Rattle.undo_journal.specs.States.{IsRecorded}
use Rattle.undo_journal.proofs.Keeping.{behind_shut}
use Rattle.undo_journal.proofs.states.keep_old.Goals as goal

pub returns-in_err-copy_old-clause-told : goal.returns-in_err-copy_old-clause-told
returns-in_err-copy_old-clause-told g c = λ told.
    let s0 = g.C.Chip.sees c.args.chip.now in
    let idle = c.requires.idle told in
    let copied = rw c.as_slice.ensures at (c.in_err-copy_old.ensures.told told) in
    let start = ran_none (λ i. home i ≡ home s0.reads) s0 told (λ i was. ap home (idle.settled i was)) in
    rw (not_ok _ c.from_residual.ensures.0) (record {
      ran = ran_most (omega arith) (ran_then {ok = false} start copied.ran (λ i t. behind_shut s0.reads i idle.front idle.shut t));
      recorded = λ ok. absurd (cc ok);
    })

pub returns-in-Err-clause-told : goal.returns-in-Err-clause-told
returns-in-Err-clause-told g c = λ told.
    let s0 = g.C.Chip.sees c.args.chip.now in
    let idle = c.requires.idle told in
    let copied = rw c.as_slice.ensures at (c.in_ok-copy_old.ensures.told told) in
    let y = c.in-Err.ensures in
    let start = ran_none (λ i. home i ≡ home s0.reads) s0 told (λ i was. ap home (idle.settled i was)) in
    record {
      ran = ran_most (omega arith) (ran_sync (ran_then {ok = true} start copied.ran (λ i t. behind_shut s0.reads i idle.front idle.shut t)) y.cause y.told);
      recorded = λ ok. absurd (cc ok);
    }

pub returns-in-Ok-clause-told : goal.returns-in-Ok-clause-told
returns-in-Ok-clause-told g c = λ told.
    let s0 = g.C.Chip.sees c.args.chip.now in
    let idle = c.requires.idle told in
    let copied = rw c.as_slice.ensures at (c.in_ok-copy_old.ensures.told told) in
    let y = c.in-Ok.ensures in
    let start = ran_none (λ i. home i ≡ home s0.reads) s0 told (λ i was. ap home (idle.settled i was)) in
    record {
      ran = ran_most (omega arith) (ran_sync (ran_then {ok = true} start copied.ran (λ i t. behind_shut s0.reads i idle.front idle.shut t)) y.cause y.told);
      recorded = λ ok i now. subst (λ (l : List ℕ). IsRecorded c.args.blocks (home_in s0.reads) l) (sym ((y.told copied.ran.told).done i now)) (copied.content refl);
    }

pub returns-in-Ok-clause-recorded : goal.returns-in-Ok-clause-recorded
returns-in-Ok-clause-recorded g c = λ told.
    let s0 = g.C.Chip.sees c.args.chip.now in
    let y = c.in-Ok.ensures in
    let told1 = sym y.cause.told ∙ told in
    let copied = rw c.as_slice.ensures at (c.in_ok-copy_old.ensures.told (sym c.in_ok-copy_old.ensures.cause.told ∙ told1)) in
    (home_in s0.reads, λ i now. subst (λ (l : List ℕ). IsRecorded c.args.blocks (home_in s0.reads) l) (sym ((y.told told1).done i now)) (copied.content refl))
