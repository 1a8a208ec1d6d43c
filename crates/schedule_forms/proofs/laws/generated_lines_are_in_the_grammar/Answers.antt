use Rattle.schedule_forms.proofs.Made.{device_in, step_in, made_in_grammar}
use Rattle.schedule_forms.proofs.laws.generated_lines_are_in_the_grammar.Goals as goal

pub returns-clause-first : goal.returns-clause-first
returns-clause-first c = device_in

pub returns-clause-later : goal.returns-clause-later
returns-clause-later c = step_in

pub returns-clause-all : goal.returns-clause-all
returns-clause-all c = made_in_grammar
