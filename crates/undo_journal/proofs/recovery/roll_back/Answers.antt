use Rattle.std.proofs.Common.{◌≡◌, ⊎_elim, arith, List, ℕ, ◌∙◌, sym, refl, ap}
use Rattle.std.specs.Prelude.{Some}
use Rattle.std.proofs.lemmas.Result.{err_from_is_err_and}
use Rattle.chip_port.proofs.Runs.{ran_none, ran_read, ran_then, ran_most}
use Rattle.undo_journal.specs.Home.{entries, home}
use Rattle.undo_journal.proofs.Gates.{opened_home}
use Rattle.undo_journal.proofs.Restoring.{found_home, foreign_directory}
use Rattle.undo_journal.proofs.Whole.{wrote_nothing}
use Rattle.undo_journal.proofs.Idle.{idle_home}
use Rattle.undo_journal.proofs.recovery.roll_back.Goals as goal

pub returns-in_err-read-clause-told : goal.returns-in_err-read-clause-told
returns-in_err-read-clause-told g c = λ told.
    let s0 = g.C.Chip.sees c.args.chip.now in
    let f = c.requires.found told in
    let r = c.in_err-read.ensures in
    let p = err_from_is_err_and c.from_residual.result c.from_residual.ensures.1 in
    rw (p.1, p.2) (record { ran = ran_most (omega arith) (ran_read (ran_none (λ i. home i ≡ home s0.reads) s0 told (λ i was. ap home (f.settled i was))) r.cause r.told); foreign = tt; no_memory = tt; done = tt; gate = tt })

pub returns-then-not-is_fit-clause-told : goal.returns-then-not-is_fit-clause-told
returns-then-not-is_fit-clause-told g c = λ told.
    let s0 = g.C.Chip.sees c.args.chip.now in
    let f = c.requires.found told in
    let r = c.in_ok-read.ensures in
    record {
      ran = ran_most (omega arith) (ran_read (ran_none (λ i. home i ≡ home s0.reads) s0 told (λ i was. ap home (f.settled i was))) r.cause r.told);
      foreign = record {
        none = foreign_directory s0.reads c.read.new.out f.front f.opened (r.told told).done (sym c.is_fit.ensures ∙ c.if-not-is_fit.true);
        nothing = wrote_nothing (ran_read (ran_none s0.leaves s0 told (λ i was. was)) r.cause r.told) (g.met.C.Chip.sound c.args.chip.now told).counts_now (r.told told).keeps.reads;
      };
      no_memory = tt;
      done = tt;
      gate = tt;
    }

pub returns-in_err-put_back-clause-told : goal.returns-in_err-put_back-clause-told
returns-in_err-put_back-clause-told g c = λ told.
    let s0 = g.C.Chip.sees c.args.chip.now in
    let f = c.requires.found told in
    let r = c.in_ok-read.ensures in
    let D = c.read.new.out in
    let read = ran_read (ran_none (λ i. home i ≡ home s0.reads) s0 told (λ i was. ap home (f.settled i was))) r.cause r.told in
    let found = found_home D s0 (g.C.Chip.sees c.read.new.self) f (g.met.C.Chip.sound c.args.chip.now told) (r.told told).done (sym c.is_fit.ensures ∙ c.if-not-is_fit.false) (λ i now. ((r.told told).keeps.leaves i).1 now) in
    let put = c.in_err-put_back.ensures.told read.told _ _ found.1 in
    let p = err_from_is_err_and c.from_residual-in_err-put_back.result c.from_residual-in_err-put_back.ensures.1 in
    rw (p.1, p.2) (record { ran = ran_most (omega arith) (ran_then read put.ran (λ i now. opened_home (entries D) _ _ i found.0 now ∙ sym found.2)); foreign = tt; no_memory = tt; done = tt; gate = tt })

pub returns-in_err-close-clause-told : goal.returns-in_err-close-clause-told
returns-in_err-close-clause-told g c = λ told.
    let s0 = g.C.Chip.sees c.args.chip.now in
    let f = c.requires.found told in
    let r = c.in_ok-read.ensures in
    let D = c.read.new.out in
    let read = ran_read (ran_none (λ i. home i ≡ home s0.reads) s0 told (λ i was. ap home (f.settled i was))) r.cause r.told in
    let found = found_home D s0 (g.C.Chip.sees c.read.new.self) f (g.met.C.Chip.sound c.args.chip.now told) (r.told told).done (sym c.is_fit.ensures ∙ c.if-not-is_fit.false) (λ i now. ((r.told told).keeps.leaves i).1 now) in
    let put = c.in_ok-put_back.ensures.told read.told _ _ found.1 in
    let closed = c.in_err-close.ensures.told put.ran.told (entries D) _ _ found.0 put.ran.here in
    let p = err_from_is_err_and c.from_residual-in_err-close.result c.from_residual-in_err-close.ensures.1 in
    rw (p.1, p.2) (record {
      ran = ran_most (omega arith) (ran_then (ran_then read put.ran (λ i now. opened_home (entries D) _ _ i found.0 now ∙ sym found.2)) closed.ran
          (λ i either. ⊎_elim (λ e. e ∙ sym found.2) (λ e. e ∙ ap (λ (l : List ℕ). Some l) (put.home_now refl) ∙ sym found.2) either));
      foreign = tt;
      no_memory = tt;
      done = tt;
      gate = tt;
    })

pub returns-clause-told : goal.returns-clause-told
returns-clause-told g c = λ told.
    let s0 = g.C.Chip.sees c.args.chip.now in
    let f = c.requires.found told in
    let r = c.in_ok-read.ensures in
    let D = c.read.new.out in
    let read = ran_read (ran_none (λ i. home i ≡ home s0.reads) s0 told (λ i was. ap home (f.settled i was))) r.cause r.told in
    let found = found_home D s0 (g.C.Chip.sees c.read.new.self) f (g.met.C.Chip.sound c.args.chip.now told) (r.told told).done (sym c.is_fit.ensures ∙ c.if-not-is_fit.false) (λ i now. ((r.told told).keeps.leaves i).1 now) in
    let put = c.in_ok-put_back.ensures.told read.told _ _ found.1 in
    let closed = c.in_ok-close.ensures.told put.ran.told (entries D) _ _ found.0 put.ran.here in
    let same = closed.home_now refl ∙ put.home_now refl in
    record {
      ran = ran_then (ran_then read put.ran (λ i now. opened_home (entries D) _ _ i found.0 now ∙ sym found.2)) closed.ran
          (λ i either. ⊎_elim (λ e. e ∙ sym found.2) (λ e. e ∙ ap (λ (l : List ℕ). Some l) (put.home_now refl) ∙ sym found.2) either);
      foreign = tt;
      no_memory = tt;
      gate = closed.gate refl;
      done = record {
        idle = closed.idle refl;
        home_was = found.2 ∙ ap (λ (l : List ℕ). Some l) (sym same);
        home_is = idle_home _ (closed.idle refl) ∙ ap (λ (l : List ℕ). Some l) same ∙ sym found.2;
      };
    }
