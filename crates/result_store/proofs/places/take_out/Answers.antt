use Rattle.std.proofs.Common.{◌≡◌, ◌∙◌, ap, sym}
use Rattle.std.specs.Prelude.{position, Some}
use Rattle.small_card.specs.Units.{has_seq}
use Rattle.small_card.proofs.ListLemmas.{removed_place, no_place}
use Rattle.result_store.proofs.Passing.{filter_place, filter_no_place, rising_one}
use Rattle.result_store.proofs.places.take_out.Goals as goal

pub returns-in-Some-clause-rest : goal.returns-in-Some-clause-rest
returns-in-Some-clause-rest c =
    let t = has_seq c.args.seq in
    let place : position t c.args.pending.now.items ≡ Some c.in-Some.at = ap (position t) (sym c.as_slice.ensures) ∙ sym c.in-Some.ensures in
    c.remove.ensures.rest ∙ removed_place t c.args.pending.now.items c.in-Some.at (rising_one c.args.seq c.args.pending.now.items c.requires) place

pub returns-in-Some-clause-taken : goal.returns-in-Some-clause-taken
returns-in-Some-clause-taken c =
    let t = has_seq c.args.seq in
    let place : position t c.args.pending.now.items ≡ Some c.in-Some.at = ap (position t) (sym c.as_slice.ensures) ∙ sym c.in-Some.ensures in
    sym (filter_place t c.args.pending.now.items c.in-Some.at c.remove.result (rising_one c.args.seq c.args.pending.now.items c.requires) place c.remove.ensures.item)

pub returns-in-None-clause-rest : goal.returns-in-None-clause-rest
returns-in-None-clause-rest c =
    let t = has_seq c.args.seq in
    sym (no_place t c.args.pending.now.items (ap (position t) (sym c.as_slice.ensures) ∙ sym c.in-None.ensures))

pub returns-in-None-clause-taken : goal.returns-in-None-clause-taken
returns-in-None-clause-taken c =
    let t = has_seq c.args.seq in
    sym (filter_no_place t c.args.pending.now.items (ap (position t) (sym c.as_slice.ensures) ∙ sym c.in-None.ensures))
