use Rattle.std.proofs.Common.{◌∙◌, sym}
use Rattle.run_loop.proofs.Mapping.{not_one}
use Rattle.lone_card.proofs.Ending.{complete, stops, has_faults, has_causes}
use Rattle.lone_card.proofs.run.run_card.Goals as goal

pub returns-clause-served : goal.returns-clause-served
returns-clause-served g c = record { end = c.open_and_serve.result; says = c.status.ensures; ran = c.open_and_serve.ensures }

pub returns-clause-own : goal.returns-clause-own
returns-clause-own g c = λ one. not_one c.open_and_serve.result.halt c.open_and_serve.result.closing (sym c.status.ensures ∙ one)

pub returns-clause-causes : goal.returns-clause-causes
returns-clause-causes g c = has_causes c.status.result _ _ _ _ (record { end = c.open_and_serve.result; says = c.status.ensures; ran = c.open_and_serve.ensures })

pub returns-clause-faults : goal.returns-clause-faults
returns-clause-faults g c = has_faults c.status.result _ _ _ _ (record { end = c.open_and_serve.result; says = c.status.ensures; ran = c.open_and_serve.ensures })

pub returns-clause-complete : goal.returns-clause-complete
returns-clause-complete g c = λ input fs.
    complete c.status.result _ _ _ _ input fs (record { end = c.open_and_serve.result; says = c.status.ensures; ran = c.open_and_serve.ensures })

pub returns-clause-stops : goal.returns-clause-stops
returns-clause-stops g c = λ input fs tail.
    stops c.status.result _ _ _ _ input fs tail (record { end = c.open_and_serve.result; says = c.status.ensures; ran = c.open_and_serve.ensures })
