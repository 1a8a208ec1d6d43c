use Rattle.std.proofs.Common.{arith, List, ℕ, ◌∙◌, ◌≡◌, take, ap, sym}
use Rattle.std.proofs.lemmas.List.{take-take, get_or-take}
use Rattle.std.specs.Prelude.{◌==◌, get_or}
use Rattle.undo_journal.specs.Home.{same_octets, magic}
use Rattle.undo_journal.proofs.Restoring.{foreign_magic}
use Rattle.undo_journal.proofs.Whole.{wrote_nothing}
use Rattle.std.proofs.lemmas.Result.{err_from_is_err_and}
use Rattle.chip_port.proofs.Runs.{ran_none, ran_read, ran_sync, ran_most, ran_untouched}
use Rattle.undo_journal.proofs.recovery.begin.Goals as goal

pub returns-then-is_err-clause-told : goal.returns-then-is_err-clause-told
returns-then-is_err-clause-told g c = λ told.
    let s0 = g.C.Chip.sees c.args.chip.now in
    let ready = ran_untouched (ran_none s0.leaves s0 told (λ i was. was)) (c.prepare.ensures.told told) in
    record { ran = ran_most (omega arith) ready; nothing = wrote_nothing ready (g.met.C.Chip.sound c.args.chip.now told).counts_now (c.prepare.ensures.told told).keeps.reads; foreign = tt; found = tt; no_memory = c.prepare.ensures.told told }

pub returns-in_err-sync-clause-told : goal.returns-in_err-sync-clause-told
returns-in_err-sync-clause-told g c = λ told.
    let s0 = g.C.Chip.sees c.args.chip.now in
    let ready = ran_untouched (ran_none s0.leaves s0 told (λ i was. was)) (c.prepare.ensures.told told) in
    let y = c.in_err-sync.ensures in
    let p = err_from_is_err_and c.from_residual.result c.from_residual.ensures.1 in
    let run = ran_sync ready y.cause y.told in
    rw (p.1, p.2) (record {
      ran = ran_most (omega arith) run;
      nothing = wrote_nothing run (g.met.C.Chip.sound c.args.chip.now told).counts_now ((y.told ready.told).reads ∙ (c.prepare.ensures.told told).keeps.reads);
      foreign = tt;
      found = tt;
      no_memory = tt;
    })

pub returns-in_err-read-clause-told : goal.returns-in_err-read-clause-told
returns-in_err-read-clause-told g c = λ told.
    let s0 = g.C.Chip.sees c.args.chip.now in
    let ready = ran_untouched (ran_none s0.leaves s0 told (λ i was. was)) (c.prepare.ensures.told told) in
    let y = c.in_ok-sync.ensures in
    let r = c.in_err-read.ensures in
    let p = err_from_is_err_and c.from_residual-in_err-read.result c.from_residual-in_err-read.ensures.1 in
    let run = ran_read (ran_sync ready y.cause y.told) r.cause r.told in
    let same = (r.told (y.cause.told ∙ ready.told)).keeps.reads ∙ (y.told ready.told).reads ∙ (c.prepare.ensures.told told).keeps.reads in
    rw (p.1, p.2) (record { ran = run; nothing = wrote_nothing run (g.met.C.Chip.sound c.args.chip.now told).counts_now same; foreign = tt; found = tt; no_memory = tt })

pub returns-then-not-is_magic-clause-told : goal.returns-then-not-is_magic-clause-told
returns-then-not-is_magic-clause-told g c = λ told.
    let s0 = g.C.Chip.sees c.args.chip.now in
    let ready = ran_untouched (ran_none s0.leaves s0 told (λ i was. was)) (c.prepare.ensures.told told) in
    let y = c.in_ok-sync.ensures in
    let r = c.in_ok-read.ensures in
    let before = (y.told ready.told).reads ∙ (c.prepare.ensures.told told).keeps.reads in
    let read = r.told (y.cause.told ∙ ready.told) in
    let run = ran_read (ran_sync ready y.cause y.told) r.cause r.told in
    let out = read.done ∙ ap (λ (l : List ℕ). take 257 l) before in
    let front : take 8 c.read.new.out ≡ take 8 s0.reads = ap (λ (l : List ℕ). take 8 l) out ∙ take-take 8 257 s0.reads (omega arith) in
    let nothing = wrote_nothing run (g.met.C.Chip.sound c.args.chip.now told).counts_now (read.keeps.reads ∙ before) in
    record {
      ran = run;
      nothing = nothing;
      found = tt;
      no_memory = tt;
      foreign = record { none = foreign_magic s0.reads (sym (c.if-not-is_magic.ensures ∙ ap (λ (l : List ℕ). same_octets l magic) front)); nothing = nothing };
    }

pub returns-clause-told : goal.returns-clause-told
returns-clause-told g c = λ told.
    let s0 = g.C.Chip.sees c.args.chip.now in
    let p = c.prepare.ensures.told told in
    let ready = ran_untouched (ran_none s0.leaves s0 told (λ i was. was)) p in
    let y = c.in_ok-sync.ensures in
    let r = c.in_ok-read.ensures in
    let synced = y.told ready.told in
    let read = r.told (y.cause.told ∙ ready.told) in
    let same = read.keeps.reads ∙ synced.reads ∙ p.keeps.reads in
    let out = read.done ∙ ap (λ (l : List ℕ). take 257 l) (synced.reads ∙ p.keeps.reads) in
    let front : take 8 c.read.new.out ≡ take 8 s0.reads = ap (λ (l : List ℕ). take 8 l) out ∙ take-take 8 257 s0.reads (omega arith) in
    let run = ran_read (ran_sync ready y.cause y.told) r.cause r.told in
    record {
      ran = run;
      nothing = wrote_nothing run (g.met.C.Chip.sound c.args.chip.now told).counts_now same;
      foreign = tt;
      no_memory = tt;
      found = record {
        same = same;
        settled = λ i now. synced.done i ((read.keeps.leaves i).1 now) ∙ sym (read.keeps.reads ∙ synced.reads);
        front = ap (λ (l : List ℕ). same_octets l magic) (sym front) ∙ sym c.is_magic.ensures ∙ c.if-not-is_magic.false;
        gate = ap (λ (n : ℕ). n == 165) (ap (λ (l : List ℕ). get_or l 256 0) out ∙ get_or-take 257 s0.reads 256 0 (omega arith));
      };
    }
