use Rattle.std.proofs.Common.{◌≡◌, ◌∙◌, ap, arith, false, ℕ, List}
use Rattle.chip_port.proofs.Runs.{ran_none, ran_write, ran_sync, ran_most, not_ok}
use Rattle.undo_journal.specs.Home.{has_magic}
use Rattle.undo_journal.proofs.Torn.{gate_opened}
use Rattle.card_store.proofs.Making.{magic_stays, filled}
use Rattle.card_store.proofs.formatting.fill.Goals as goal

-- no magic is there
abbrev Unsigned : List ℕ → Type 0
Unsigned i = has_magic i ≡ false

pub returns-in_err-write_at-clause-told : goal.returns-in_err-write_at-clause-told
returns-in_err-write_at-clause-told g c = λ told.
    let s0 = g.C.Chip.sees c.args.chip.now in
    let w = c.in_err-write_at.ensures in
    let start = ran_none Unsigned s0 told (λ i was. ap has_magic (c.requires.alone told i was) ∙ c.requires.blank told) in
    rw (not_ok _ c.from_residual.ensures.0) (record {
      ran = ran_most (omega arith) (ran_write start w.cause w.told (λ d i was torn. magic_stays 256 1 d i (omega arith) torn (start.here d was)));
      alone = λ ok. absurd (cc ok);
      shut = λ ok. absurd (cc ok);
      home_now = λ ok. absurd (cc ok);
    })

pub returns-in_err-write_at-2-clause-told : goal.returns-in_err-write_at-2-clause-told
returns-in_err-write_at-2-clause-told g c = λ told.
    let s0 = g.C.Chip.sees c.args.chip.now in
    let w = c.in_ok-write_at.ensures in
    let v = c.in_err-write_at-2.ensures in
    let start = ran_none Unsigned s0 told (λ i was. ap has_magic (c.requires.alone told i was) ∙ c.requires.blank told) in
    let one = ran_write start w.cause w.told (λ d i was torn. magic_stays 256 1 d i (omega arith) torn (start.here d was)) in
    rw (not_ok _ c.from_residual-in_err-write_at-2.ensures.0) (record {
      ran = ran_most (omega arith) (ran_write one v.cause v.told (λ d i was torn. magic_stays 174336 _ d i (omega arith) torn (one.here d was)));
      alone = λ ok. absurd (cc ok);
      shut = λ ok. absurd (cc ok);
      home_now = λ ok. absurd (cc ok);
    })

pub returns-clause-told : goal.returns-clause-told
returns-clause-told g c = λ told.
    let s0 = g.C.Chip.sees c.args.chip.now in
    let sound = g.met.C.Chip.sound c.args.chip.now told in
    let w = c.in_ok-write_at.ensures in
    let v = c.in_ok-write_at-2.ensures in
    let y = c.sync.ensures in
    let told1 = w.cause.told ∙ told in
    let told2 = v.cause.told ∙ told1 in
    let start = ran_none Unsigned s0 told (λ i was. ap has_magic (c.requires.alone told i was) ∙ c.requires.blank told) in
    let one = ran_write start w.cause w.told (λ d i was torn. magic_stays 256 1 d i (omega arith) torn (start.here d was)) in
    let two = ran_write one v.cause v.told (λ d i was torn. magic_stays 174336 _ d i (omega arith) torn (one.here d was)) in
    record {
      ran = ran_sync two y.cause y.told;
      alone = λ ok. (gate_opened _ (v.told told1) (y.told told2) ok).1;
      shut = λ ok. (filled s0.reads _ _ c.args.home.now (sound.sized s0.reads sound.reads_now) c.requires.size (w.told told).done (gate_opened _ (v.told told1) (y.told told2) ok).0).shut;
      home_now = λ ok. (filled s0.reads _ _ c.args.home.now (sound.sized s0.reads sound.reads_now) c.requires.size (w.told told).done (gate_opened _ (v.told told1) (y.told told2) ok).0).home_now;
    }
