use Rattle.std.proofs.Common.{◌≡◌, true}
use Rattle.undo_journal.specs.Home.{home_in}
use Rattle.card_store.proofs.Compared.{block_compared, block_listed}
use Rattle.card_store.proofs.Trying.{tried}
use Rattle.card_store.proofs.changes.compare_block.Goals as goal

pub returns-in-Ok-clause-tries : goal.returns-in-Ok-clause-tries
returns-in-Ok-clause-tries g c = λ told. tried 1 _ _ c.add_changed.result (c.in-Ok.ensures.told told).0 c.add_changed.ensures.err

pub returns-in-Ok-clause-listed : goal.returns-in-Ok-clause-listed
returns-in-Ok-clause-listed g c =
    block_listed c.add_changed.result c.args.changes.now c.add_changed.new.changes c.args.block c.in-Ok.found c.args.piece.now c.in-Ok.ensures.len c.requires.few c.add_changed.ensures.same c.add_changed.ensures.blocks c.add_changed.ensures.octets

pub returns-in-Ok-clause-told : goal.returns-in-Ok-clause-told
returns-in-Ok-clause-told g c =
    let s = g.C.Chip.sees c.args.chip.now in
    block_compared c.add_changed.result c.args.changes.now c.add_changed.new.changes c.args.block c.in-Ok.found c.args.piece.now (home_in s.reads) (s.told ≡ true) c.requires.block c.requires.few
    c.add_changed.ensures.same c.add_changed.ensures.blocks c.add_changed.ensures.octets (λ told. (c.in-Ok.ensures.told told).1)
