use Rattle.std.proofs.Common.{◌≡◌, ◌⊎◌, ◌∙◌, arith, ℕ, List}
use Rattle.std.specs.Prelude.{Some, None}
use Rattle.chip_port.specs.PastLaws.{torn_same}
use Rattle.chip_port.proofs.Runs.{ran_none, ran_write, ran_sync, ran_most, not_ok}
use Rattle.undo_journal.specs.Home.{home, home_in}
use Rattle.undo_journal.proofs.Torn.{gate_opened}
use Rattle.card_store.proofs.Making.{signing, signed}
use Rattle.card_store.proofs.formatting.sign.Goals as goal

-- no home, or this one
abbrev NoneOr : List ℕ → List ℕ → Type 0
NoneOr r i = (home i ≡ None) ⊎ (home i ≡ Some (home_in r))

pub returns-in_err-write_at-clause-told : goal.returns-in_err-write_at-clause-told
returns-in_err-write_at-clause-told g c = λ told.
    let s0 = g.C.Chip.sees c.args.chip.now in
    let shut = c.requires.shut told in
    let w = c.in_err-write_at.ensures in
    let start = ran_none (NoneOr s0.reads) s0 told (λ i was. signing s0.reads i i shut (c.requires.alone told i was) (torn_same 0 8 i)) in
    rw (not_ok _ c.from_residual.ensures.0) (record {
      ran = ran_most (omega arith) (ran_write start w.cause w.told (λ d i was torn. signing s0.reads d i shut (c.requires.alone told d was) torn));
      idle = λ ok. absurd (cc ok);
      home_now = λ ok. absurd (cc ok);
    })

pub returns-clause-told : goal.returns-clause-told
returns-clause-told g c = λ told.
    let s0 = g.C.Chip.sees c.args.chip.now in
    let sound = g.met.C.Chip.sound c.args.chip.now told in
    let shut = c.requires.shut told in
    let w = c.in_ok-write_at.ensures in
    let y = c.sync.ensures in
    let start = ran_none (NoneOr s0.reads) s0 told (λ i was. signing s0.reads i i shut (c.requires.alone told i was) (torn_same 0 8 i)) in
    record {
      ran = ran_sync (ran_write start w.cause w.told (λ d i was torn. signing s0.reads d i shut (c.requires.alone told d was) torn)) y.cause y.told;
      idle = λ ok.
          let last = gate_opened _ (w.told told) (y.told (w.cause.told ∙ told)) ok in
          let s = signed s0.reads _ (sound.sized s0.reads sound.reads_now) shut last.0 in
          record { settled = last.1; front = s.front; shut = s.shut };
      home_now = λ ok. (signed s0.reads _ (sound.sized s0.reads sound.reads_now) shut (gate_opened _ (w.told told) (y.told (w.cause.told ∙ told)) ok).0).home_now;
    }
