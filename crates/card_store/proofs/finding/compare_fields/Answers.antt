use Rattle.std.proofs.Common.{◌∙◌, ap, arith, length}
use Rattle.home_codec.specs.FullCards.{full_card}
use Rattle.undo_journal.specs.Home.{home_in}
use Rattle.card_store.proofs.Compared.{listed_none}
use Rattle.card_store.proofs.Fronts.{fields_compared, home_len}
use Rattle.card_store.proofs.Trying.{where_listed}
use Rattle.card_store.proofs.finding.compare_fields.Goals as goal

pub returns-in-Ok-clause-listed : goal.returns-in-Ok-clause-listed
returns-in-Ok-clause-listed g c =
    where_listed c.compare.result (λ lists. lists 25 (omega (arith, ap length c.as_slice.ensures, c.in-Ok.ensures.len)) (listed_none c.args.changes.now c.requires.blocks c.requires.octets)) c.compare.ensures.listed

pub returns-in-Ok-clause-told : goal.returns-in-Ok-clause-told
returns-in-Ok-clause-told g c =
    let s = g.C.Chip.sees c.args.chip.now in
    where_listed c.compare.result (λ compared told places.
    let sound = g.met.C.Chip.sound c.args.chip.now told in
    fields_compared (full_card c.args.new.now) places c.args.changes.now c.compare.new.changes c.as_slice.result.now (home_in s.reads) (c.as_slice.ensures ∙ c.in-Ok.ensures.octets) (omega (arith, ap length c.as_slice.ensures, c.in-Ok.ensures.len))
    (home_len s.reads (sound.sized s.reads sound.reads_now)) c.requires.blocks c.requires.octets (compared told 25 (omega (arith, ap length c.as_slice.ensures, c.in-Ok.ensures.len)))) c.compare.ensures.told
