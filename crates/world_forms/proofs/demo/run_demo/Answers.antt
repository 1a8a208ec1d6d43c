use Rattle.std.proofs.Common.{◌∙◌, sym}
use Rattle.world_forms.proofs.Statuses.{ends_four, ends_own, ends_three}
use Rattle.world_forms.proofs.demo.run_demo.Goals as goal

pub returns-clause-demonstrated : goal.returns-clause-demonstrated
returns-clause-demonstrated g c = λ view tells puts. record {
  end = c.play_lines-end.result;
  closing = c.close-closing.result;
  within = c.play_lines-end.ensures.within;
  says = rw c.halt_of-halt.ensures at c.status.ensures;
  sends = c.close-closing.ensures.closes;
  told = c.play_lines-end.ensures.went view tells puts;
}

pub returns-clause-own : goal.returns-clause-own
returns-clause-own g c = ends_own c.play_lines-end.result c.close-closing.result c.status.result (rw c.halt_of-halt.ensures at c.status.ensures) c.play_lines-end.ensures.fits

pub returns-clause-fault : goal.returns-clause-fault
returns-clause-fault g c = λ three. c.close-closing.ensures.fault (ends_three c.play_lines-end.result c.close-closing.result (sym (rw c.halt_of-halt.ensures at c.status.ensures) ∙ three))

pub returns-clause-broke : goal.returns-clause-broke
returns-clause-broke g c = λ four. ends_four _ c.play_lines-end.result c.close-closing.result c.play_lines-end.ensures.cause (sym (rw c.halt_of-halt.ensures at c.status.ensures) ∙ four)
