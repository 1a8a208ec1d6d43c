use Rattle.std.proofs.Common.{◌∙◌, sym}
use Rattle.schedule_forms.proofs.Piecing.{gen_three, gen_complete, gen_statuses}
use Rattle.schedule_forms.proofs.generating.run_gen.Goals as goal

pub returns-clause-generated : goal.returns-clause-generated
returns-clause-generated g c = record { end = c.generate.result; says = c.status_of.ensures; generates = c.generate.ensures.generated }

pub returns-clause-fault : goal.returns-clause-fault
returns-clause-fault g c = λ three. c.generate.ensures.fault (gen_three c.generate.result (sym c.status_of.ensures ∙ three))

pub returns-clause-complete : goal.returns-clause-complete
returns-clause-complete g c = λ none. gen_complete c.generate.result c.status_of.result c.status_of.ensures (λ at. none (c.generate.ensures.fault at))

pub returns-clause-statuses : goal.returns-clause-statuses
returns-clause-statuses g c = gen_statuses c.generate.result c.status_of.result c.status_of.ensures
