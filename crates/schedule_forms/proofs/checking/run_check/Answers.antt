use Rattle.schedule_forms.proofs.Ending.{checked, has_causes, has_ended, is_done, not_one}
use Rattle.schedule_forms.proofs.Stopping.{complete, stops}
use Rattle.schedule_forms.proofs.checking.run_check.Goals as goal

pub returns-clause-ran : goal.returns-clause-ran
returns-clause-ran g c = checked c.new-part.result.count c.serve_lines.new.part.count c.status.result _ _ c.serve_lines.result c.new-part.ensures c.status.ensures c.serve_lines.ensures

pub returns-clause-own : goal.returns-clause-own
returns-clause-own g c = not_one c.status.result _ _ (checked c.new-part.result.count c.serve_lines.new.part.count c.status.result _ _ c.serve_lines.result c.new-part.ensures c.status.ensures c.serve_lines.ensures)

pub returns-clause-causes : goal.returns-clause-causes
returns-clause-causes g c = has_causes c.status.result _ _ (checked c.new-part.result.count c.serve_lines.new.part.count c.status.result _ _ c.serve_lines.result c.new-part.ensures c.status.ensures c.serve_lines.ensures)

pub returns-clause-done : goal.returns-clause-done
returns-clause-done g c = λ input told zero. is_done c.status.result _ _ input (checked c.new-part.result.count c.serve_lines.new.part.count c.status.result _ _ c.serve_lines.result c.new-part.ensures c.status.ensures c.serve_lines.ensures) told zero

pub returns-clause-complete : goal.returns-clause-complete
returns-clause-complete g c = λ input told some handled no_read no_write.
    complete c.status.result input _ _ (has_ended c.status.result _ _ input (checked c.new-part.result.count c.serve_lines.new.part.count c.status.result _ _ c.serve_lines.result c.new-part.ensures c.status.ensures c.serve_lines.ensures) told no_read no_write) some handled

pub returns-clause-stops : goal.returns-clause-stops
returns-clause-stops g c = λ input ls more told is handled no_read no_write.
    stops c.status.result input ls more _ _ (has_ended c.status.result _ _ input (checked c.new-part.result.count c.serve_lines.new.part.count c.status.result _ _ c.serve_lines.result c.new-part.ensures c.status.ensures c.serve_lines.ensures) told no_read no_write) is handled
