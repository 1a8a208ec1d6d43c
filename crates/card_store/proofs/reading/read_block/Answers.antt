use Rattle.std.proofs.Common.{◌∙◌, ◌+◌, ◌*◌, ap, ℕ, take, drop}
use Rattle.std.proofs.lemmas.List.{length-replicate}
use Rattle.chip_port.proofs.Runs.{ran_none, ran_read}
use Rattle.card_store.proofs.Looking.{looks_read, block_in}
use Rattle.card_store.proofs.reading.read_block.Goals as goal

pub returns-in-Ok-clause-told : goal.returns-in-Ok-clause-told
returns-in-Ok-clause-told g c = λ told.
    let s = g.C.Chip.sees c.args.chip.now in
    let sound = g.met.C.Chip.sound c.args.chip.now told in
    let out = rw c.home_at.ensures at (c.in-Ok.ensures.told told).done in
    (looks_read told sound.counts_now c.in-Ok.ensures.cause c.in-Ok.ensures.told, out ∙ ap (λ (n : ℕ). take n (drop (174336 + 256 * c.args.block) s.reads)) (length-replicate {A = ℕ} 256 0) ∙ block_in s.reads c.args.block)

pub returns-in-Err-clause-told : goal.returns-in-Err-clause-told
returns-in-Err-clause-told g c = λ told.
    let s = g.C.Chip.sees c.args.chip.now in
    ran_read (ran_none s.leaves s told (λ i was. was)) c.in-Err.ensures.cause c.in-Err.ensures.told
