use Rattle.std.proofs.Common.{◌∙◌, ap, sym, subst}
use Rattle.std.specs.Prelude.{option_map, position}
use Rattle.esipa_codec.specs.Eims.{skip_end, skipped}
use Rattle.small_world.specs.Network.{eim_of}
use Rattle.world_network.specs.Managers.{AreManagers, has_id}
use Rattle.world_network.proofs.Places.{found_at, absent, ends, skipped_id}
use Rattle.world_network.proofs.managers.skip.Goals as goal

pub returns-in-Some-clause-end : goal.returns-in-Some-clause-end
returns-in-Some-clause-end c = λ es h.
    let f = found_at c.args.id.now c.args.managers.now.items es c.in-Some.at c.index_mut.result.now h (ap (position (has_id c.args.id.now)) (sym c.deref.ensures.value) ∙ sym c.place.ensures ∙ c.in-Some.is) c.index_mut.ensures.value in
    ends (skip_end) (eim_of c.args.id.now es) f.e c.skip.result f.named (c.skip.ensures.end f.e f.is.queue_is)

pub returns-in-Some-clause-stands : goal.returns-in-Some-clause-stands
returns-in-Some-clause-stands c = λ es h apart.
    let f = found_at c.args.id.now c.args.managers.now.items es c.in-Some.at c.index_mut.result.now h (ap (position (has_id c.args.id.now)) (sym c.deref.ensures.value) ∙ sym c.place.ensures ∙ c.in-Some.is) c.index_mut.ensures.value in
    f.put apart (skipped) c.skip.new.self (skipped_id f.e) (c.skip.ensures.stands f.e f.is.queue_is)

pub returns-in-None-clause-end : goal.returns-in-None-clause-end
returns-in-None-clause-end c = λ es h.
    let a = absent c.args.id.now c.args.managers.now.items es h (ap (position (has_id c.args.id.now)) (sym c.deref.ensures.value) ∙ sym c.place.ensures ∙ c.in-None.is) in
    sym (ap (option_map (skip_end)) a.named)

pub returns-in-None-clause-stands : goal.returns-in-None-clause-stands
returns-in-None-clause-stands c = λ es h apart.
    let a = absent c.args.id.now c.args.managers.now.items es h (ap (position (has_id c.args.id.now)) (sym c.deref.ensures.value) ∙ sym c.place.ensures ∙ c.in-None.is) in
    subst (AreManagers c.args.managers.now.items) (sym (a.stays (skipped))) h
