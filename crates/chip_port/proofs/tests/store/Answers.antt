use Rattle.std.proofs.Common.{List, ℕ, arith, refl, ◌∙◌, ap, [], ◌∷◌}
use Rattle.chip_port.specs.Rules.{put}
use Rattle.chip_port.specs.Example.{KeepsRest}
use Rattle.chip_port.proofs.Runs.{ran_none, ran_write, ran_sync, ran_most, ran_closed, not_ok}
use Rattle.chip_port.proofs.tests.store.Goals as goal

pub returns-in_err-write_at-clause-told : goal.returns-in_err-write_at-clause-told
returns-in_err-write_at-clause-told g c = λ told.
    let s0 = g.C.Chip.sees c.args.chip.now in
    let w = c.in_err-write_at.ensures in
    let start = ran_none (KeepsRest s0) s0 told (λ i was. (i, was, refl)) in
    rw (not_ok _ c.from_residual.ensures.0) (ran_most (omega arith) (ran_write start w.cause w.told (λ d i was torn. (d, was, torn.after))))

pub returns-in_err-sync-clause-told : goal.returns-in_err-sync-clause-told
returns-in_err-sync-clause-told g c = λ told.
    let s0 = g.C.Chip.sees c.args.chip.now in
    let w = c.in_ok-write_at.ensures in
    let y = c.in_err-sync.ensures in
    let start = ran_none (KeepsRest s0) s0 told (λ i was. (i, was, refl)) in
    let one = ran_write start w.cause w.told (λ d i was torn. (d, was, torn.after)) in
    rw (not_ok _ c.from_residual-in_err-sync.ensures.0) (ran_most (omega arith) (ran_sync one y.cause y.told))

pub returns-in_err-write_at-2-clause-told : goal.returns-in_err-write_at-2-clause-told
returns-in_err-write_at-2-clause-told g c = λ told.
    let s0 = g.C.Chip.sees c.args.chip.now in
    let w = c.in_ok-write_at.ensures in
    let y = c.in_ok-sync.ensures in
    let v = c.in_err-write_at-2.ensures in
    let start = ran_none (KeepsRest s0) s0 told (λ i was. (i, was, refl)) in
    let one = ran_write start w.cause w.told (λ d i was torn. (d, was, torn.after)) in
    let synced = ran_sync one y.cause y.told in
    rw (not_ok _ c.from_residual-in_err-write_at-2.ensures.0) (ran_most (omega arith) (ran_write synced v.cause v.told (λ d i was torn. let from = synced.here d was in (from.0, from.1, torn.after ∙ from.2))))

pub returns-in_err-sync-2-clause-told : goal.returns-in_err-sync-2-clause-told
returns-in_err-sync-2-clause-told g c = λ told.
    let s0 = g.C.Chip.sees c.args.chip.now in
    let w = c.in_ok-write_at.ensures in
    let y = c.in_ok-sync.ensures in
    let v = c.in_ok-write_at-2.ensures in
    let z = c.in_err-sync-2.ensures in
    let start = ran_none (KeepsRest s0) s0 told (λ i was. (i, was, refl)) in
    let one = ran_write start w.cause w.told (λ d i was torn. (d, was, torn.after)) in
    let synced = ran_sync one y.cause y.told in
    let two = ran_write synced v.cause v.told (λ d i was torn. let from = synced.here d was in (from.0, from.1, torn.after ∙ from.2)) in
    rw (not_ok _ c.from_residual-in_err-sync-2.ensures.0) (ran_most (omega arith) (ran_sync two z.cause z.told))

pub returns-clause-told : goal.returns-clause-told
returns-clause-told g c = λ told.
    let s0 = g.C.Chip.sees c.args.chip.now in
    let w = c.in_ok-write_at.ensures in
    let y = c.in_ok-sync.ensures in
    let v = c.in_ok-write_at-2.ensures in
    let z = c.in_ok-sync-2.ensures in
    let start = ran_none (KeepsRest s0) s0 told (λ i was. (i, was, refl)) in
    let one = ran_write start w.cause w.told (λ d i was torn. (d, was, torn.after)) in
    let synced = ran_sync one y.cause y.told in
    let two = ran_write synced v.cause v.told (λ d i was torn. let from = synced.here d was in (from.0, from.1, torn.after ∙ from.2)) in
    let both = ran_sync two z.cause z.told in
    let content = (v.told synced.told).done ∙ ap (λ (l : List ℕ). put l 1 (3 ∷ [])) ((y.told one.told).reads ∙ (w.told told).done) in
    ran_closed c.answer.result both c.answer.ensures.cause c.answer.ensures.told (λ i left. (z.told two.told).done i left ∙ content)
