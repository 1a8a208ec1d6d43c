use Rattle.std.proofs.Common.{◌∙◌, ap, sym, get_or, List}
use Rattle.std.specs.Prelude.{option_map}
use Rattle.esipa_codec.specs.Records.{records_of}
use Rattle.small_world.specs.Network.{eim_of}
use Rattle.world_network.specs.declared.managers.Manager.{Manager}
use Rattle.world_network.proofs.Places.{found_at, absent, ends}
use Rattle.world_network.proofs.managers.records.Goals as goal

pub returns-in-Some : goal.returns-in-Some
returns-in-Some c = λ es h.
    let ms : List Manager = c.args.managers.now in
    let m : Manager = get_or ms c.in-Some.at c.index-managers-at.result in
    let f = found_at c.args.id.now ms es c.in-Some.at m h (sym c.place.ensures ∙ c.in-Some.is) (ap (λ (d : Manager). get_or ms c.in-Some.at d) c.index-managers-at.is) in
    ends (λ e. records_of e.received) (eim_of c.args.id.now es) f.e c.records.result.now f.named (c.records.ensures f.e f.is.queue_is)

pub returns-in-None : goal.returns-in-None
returns-in-None c = λ es h.
    let a = absent c.args.id.now c.args.managers.now es h (sym c.place.ensures ∙ c.in-None.is) in
    sym (ap (option_map (λ e. records_of e.received)) a.named)
