use Rattle.std.proofs.Common.{◌∙◌, ap, sym, subst}
use Rattle.std.specs.Prelude.{option_map, position}
use Rattle.esipa_codec.specs.Eims.{message_end, heard}
use Rattle.small_world.specs.Network.{eim_of}
use Rattle.world_network.specs.Managers.{AreManagers, has_id}
use Rattle.world_network.proofs.Places.{found_at, absent, ends, heard_id, served_then, said_ends, said_stands, said_range, said_served}
use Rattle.world_network.proofs.managers.hear.Goals as goal

pub returns-in-Some-clause-end : goal.returns-in-Some-clause-end
returns-in-Some-clause-end c = λ es h.
    let f = found_at c.args.id.now c.args.managers.now.items es c.in-Some.at c.index_mut.result.now h (ap (position (has_id c.args.id.now)) (sym c.deref.ensures.value) ∙ sym c.place.ensures ∙ c.in-Some.is) c.index_mut.ensures.value in
    said_ends c.served.result c.on_message.result _ c.served.ensures (served_then c.on_message.result _ _ (ends (message_end c.args.message) (eim_of c.args.id.now es) f.e c.on_message.result f.named) (c.on_message.ensures.end f.e f.is.queue_is))

pub returns-in-Some-clause-stands : goal.returns-in-Some-clause-stands
returns-in-Some-clause-stands c = λ es h apart.
    let f = found_at c.args.id.now c.args.managers.now.items es c.in-Some.at c.index_mut.result.now h (ap (position (has_id c.args.id.now)) (sym c.deref.ensures.value) ∙ sym c.place.ensures ∙ c.in-Some.is) c.index_mut.ensures.value in
    said_stands c.served.result c.on_message.result _ c.served.ensures (served_then c.on_message.result _ _ (f.put apart (heard c.args.message) c.on_message.new.self (heard_id c.args.message f.e)) (c.on_message.ensures.stands f.e f.is.queue_is))

pub returns-in-None-clause-end : goal.returns-in-None-clause-end
returns-in-None-clause-end c = λ es h.
    let a = absent c.args.id.now c.args.managers.now.items es h (ap (position (has_id c.args.id.now)) (sym c.deref.ensures.value) ∙ sym c.place.ensures ∙ c.in-None.is) in
    sym (ap (option_map (message_end c.args.message)) a.named)

pub returns-in-None-clause-stands : goal.returns-in-None-clause-stands
returns-in-None-clause-stands c = λ es h apart.
    let a = absent c.args.id.now c.args.managers.now.items es h (ap (position (has_id c.args.id.now)) (sym c.deref.ensures.value) ∙ sym c.place.ensures ∙ c.in-None.is) in
    subst (AreManagers c.args.managers.now.items) (sym (a.stays (heard c.args.message))) h

pub returns-in-Some-clause-served : goal.returns-in-Some-clause-served
returns-in-Some-clause-served c = said_served c.served.result c.on_message.result c.served.ensures

pub returns-in-Some-clause-range : goal.returns-in-Some-clause-range
returns-in-Some-clause-range c = λ fits. said_range c.served.result c.on_message.result c.served.ensures (c.on_message.ensures.range fits)
