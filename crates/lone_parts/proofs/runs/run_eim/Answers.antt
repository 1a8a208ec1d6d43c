use Rattle.std.proofs.Common.{◌∙◌, sym}
use Rattle.lone_parts.specs.Eims.{eim_rule}
use Rattle.esipa_codec.specs.Eims.{new_eim}
use Rattle.run_loop.proofs.Mapping.{not_one}
use Rattle.lone_parts.proofs.Ending.{ran, has_causes, complete, stops}
use Rattle.lone_parts.proofs.runs.run_eim.Goals as goal

pub returns-clause-ran : goal.returns-clause-ran
returns-clause-ran g c = ran eim_rule (new_eim c.args.id c.args.eid) _ _ c.status.result _ _ c.serve.result (λ fs text led. (led _ c.new-part.ensures).answered) (λ fs text f stop stopped. stopped _ c.new-part.ensures) c.status.ensures c.serve.ensures

pub returns-clause-own : goal.returns-clause-own
returns-clause-own g c = λ one. not_one c.serve.result.halt c.serve.result.closing (sym c.status.ensures ∙ one)

pub returns-clause-causes : goal.returns-clause-causes
returns-clause-causes g c = has_causes eim_rule (new_eim c.args.id c.args.eid) c.status.result _ _ (ran eim_rule (new_eim c.args.id c.args.eid) _ _ c.status.result _ _ c.serve.result (λ fs text led. (led _ c.new-part.ensures).answered) (λ fs text f stop stopped. stopped _ c.new-part.ensures) c.status.ensures c.serve.ensures)

pub returns-clause-complete : goal.returns-clause-complete
returns-clause-complete g c = λ input fs told is handled no_read no_write.
    complete eim_rule (new_eim c.args.id c.args.eid) c.status.result _ _ input fs (ran eim_rule (new_eim c.args.id c.args.eid) _ _ c.status.result _ _ c.serve.result (λ fs text led. (led _ c.new-part.ensures).answered) (λ fs text f stop stopped. stopped _ c.new-part.ensures) c.status.ensures c.serve.ensures) told is handled no_read no_write

pub returns-clause-stops : goal.returns-clause-stops
returns-clause-stops g c = λ input fs tail told is handled no_read no_write.
    stops eim_rule (new_eim c.args.id c.args.eid) c.status.result _ _ input fs tail (ran eim_rule (new_eim c.args.id c.args.eid) _ _ c.status.result _ _ c.serve.result (λ fs text led. (led _ c.new-part.ensures).answered) (λ fs text f stop stopped. stopped _ c.new-part.ensures) c.status.ensures c.serve.ensures) told is handled no_read no_write
