use Rattle.std.proofs.Common.{ℕ, ◌+◌, ◌*◌, List, sym, ◌∙◌, subst, arith}
use Rattle.chip_port.specs.Rules.{Torn}
use Rattle.undo_journal.specs.Home.{AreBlocks}
use Rattle.undo_journal.proofs.Torn.{written_done}
use Rattle.undo_journal.proofs.Keeping.{kept_below, home_put, home_written, homes_of, others_written}
use Rattle.undo_journal.proofs.states.Opened.write_home.Goals as goal

pub write_at-requires-clause-range : goal.write_at-requires-clause-range
write_at-requires-clause-range g c =
    let below = kept_below c.args.self.now c.args.block (subst (λ (l : List ℕ). AreBlocks l) c.self.view_is c.self.invariant) c.requires.kept in
    omega (arith, c.told-bytes, below, c.home_at.ensures)

pub returns-clause-opened : goal.returns-clause-opened
returns-clause-opened g c = λ told.
    let w = c.write_at.ensures in
    let written = rw c.home_at.ensures at w.told in
    let told0 = sym w.cause.told ∙ told in
    let fact = c.requires.opened told0 in
    (fact.0, (home_written c.args.block (subst (λ (l : List ℕ). AreBlocks l) c.self.view_is c.self.invariant) c.requires.kept c.told-bytes told0 fact.1 w.cause written).here)

pub returns-clause-told : goal.returns-clause-told
returns-clause-told g c = λ told before all.
    let are : AreBlocks c.args.self.now = subst (λ (l : List ℕ). AreBlocks l) c.self.view_is c.self.invariant in
    let w = c.write_at.ensures in
    let written = rw c.home_at.ensures at w.told in
    let run = home_written c.args.block are c.requires.kept c.told-bytes told all w.cause written in
    let s0 = g.C.Chip.sees c.args.chip.now in
    let s1 = g.C.Chip.sees c.write_at.new.self in
    let sound = g.met.C.Chip.sound c.args.chip.now told in
    let torn : Torn (174336 + 256 * c.args.block) 256 s0.reads s1.reads =
    subst (λ (n : ℕ). Torn (174336 + 256 * c.args.block) n s0.reads s1.reads) c.told-bytes (written told).outside in
    record {
      ran = homes_of are told all run;
      opened = run.here;
      outside = torn;
      others = λ other apart. others_written c.args.block other s0.reads s1.reads torn apart;
      home_now = λ ok. home_put s0.reads _ c.args.block c.args.bytes.now (kept_below c.args.self.now c.args.block are c.requires.kept) (sound.sized s0.reads sound.reads_now) (written_done _ (written told) ok);
      content = λ ok. written_done _ (written told) ok;
    }
