use Rattle.std.proofs.Common.{◌∙◌, ◌+◌, ◌*◌, ap, arith, length}
use Rattle.undo_journal.specs.Home.{home_in}
use Rattle.card_store.proofs.Fronts.{slot_compared, home_len}
use Rattle.card_store.proofs.Trying.{where_listed}
use Rattle.card_store.proofs.finding.compare_slot.Goals as goal

pub returns-in-Ok-clause-listed : goal.returns-in-Ok-clause-listed
returns-in-Ok-clause-listed g c =
    where_listed c.compare.result (λ lists. lists (25 + 81 * (c.args.slot + 1)) (omega (arith, ap length c.as_slice.ensures, c.in-Ok.ensures.len, c.requires.slot))) c.compare.ensures.listed

pub returns-in-Ok-clause-told : goal.returns-in-Ok-clause-told
returns-in-Ok-clause-told g c =
    let s = g.C.Chip.sees c.args.chip.now in
    where_listed c.compare.result (λ compared told f places all place fronted.
    let sound = g.met.C.Chip.sound c.args.chip.now told in
    slot_compared f places c.args.slot _ c.args.changes.now c.compare.new.changes c.as_slice.result.now (home_in s.reads) c.requires.slot all place (c.as_slice.ensures ∙ c.in-Ok.ensures.octets) (omega (arith, ap length c.as_slice.ensures, c.in-Ok.ensures.len))
    (home_len s.reads (sound.sized s.reads sound.reads_now)) (compared told (25 + 81 * (c.args.slot + 1)) (omega (arith, ap length c.as_slice.ensures, c.in-Ok.ensures.len, c.requires.slot))) fronted) c.compare.ensures.told
