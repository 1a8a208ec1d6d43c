use Rattle.std.proofs.Common.{◌∙◌, ◌+◌, ◌*◌, ap, ℕ, take, drop}
use Rattle.std.proofs.lemmas.List.{length-replicate}
use Rattle.chip_port.proofs.Runs.{ran_none, ran_read}
use Rattle.card_store.proofs.Homes.{number_read}
use Rattle.card_store.proofs.Looking.{looks_read}
use Rattle.card_store.proofs.seats.read_number.Goals as goal

pub returns-in-Ok-clause-tries : goal.returns-in-Ok-clause-tries
returns-in-Ok-clause-tries g c = λ told. looks_read told (g.met.C.Chip.sound c.args.chip.now told).counts_now c.in-Ok.ensures.cause c.in-Ok.ensures.told

pub returns-in-Err-clause-tries : goal.returns-in-Err-clause-tries
returns-in-Err-clause-tries g c = λ told.
    let s = g.C.Chip.sees c.args.chip.now in
    ran_read (ran_none s.leaves s told (λ i was. was)) c.in-Err.ensures.cause c.in-Err.ensures.told

pub returns-in-Ok-clause-told : goal.returns-in-Ok-clause-told
returns-in-Ok-clause-told g c = λ told places stand.
    let s = g.C.Chip.sees c.args.chip.now in
    let out = rw c.home_at.ensures at (c.in-Ok.ensures.told told).done in
    number_read places s.reads _ c.slot_number.result c.args.slot c.requires (out ∙ ap (λ (n : ℕ). take n (drop (174336 + 256 * (25 + 81 * c.args.slot)) s.reads)) (length-replicate {A = ℕ} 32 0)) stand c.slot_number.ensures
