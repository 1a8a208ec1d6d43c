use Rattle.std.proofs.Common.{◌≡◌, ◌∙◌, [], sym, List, ℕ, subst}
use Rattle.run_loop.specs.declared.halt.RunEnd.{RunEnd}
use Rattle.run_loop.specs.Edges.{Edge}
use Rattle.run_loop.specs.Runs.{Ended}
use Rattle.run_loop.specs.Status.{exit_status}
use Rattle.ipa_core.specs.Assistants.{IsIpa}
use Rattle.lone_parts.specs.Ipas.{Alone, ipa_rule, LedTo, StoppedAt}
use Rattle.lone_parts.specs.Runs.{Ran}
use Rattle.run_loop.proofs.Mapping.{not_one}
use Rattle.lone_parts.proofs.Ending.{ran, has_causes, complete, stops}
use Rattle.lone_parts.proofs.runs.run_ipa.Goals as goal

-- a run of an assistant to which nothing had happened
ran_alone : (first now : Alone) (eid : List ℕ) (status : ℕ) (old new : Edge) (end : RunEnd) → IsIpa first.ipa [] → first.eid ≡ eid → status ≡ exit_status end.halt end.closing → Ended (LedTo first now) (StoppedAt first) old new end → Ran (ipa_rule eid) [] status old new
ran_alone first now eid status old new end fresh same says ended =
    subst (λ (e : List ℕ). Ran (ipa_rule e) [] status old new) same
    (ran (ipa_rule first.eid) [] (LedTo first now) (StoppedAt first) status old new end (λ fs text led. (led.1 [] fresh).answered) (λ fs text f stop stopped. stopped [] fresh) says ended)

pub returns-clause-ran : goal.returns-clause-ran
returns-clause-ran g c = ran_alone c.new-part.result c.serve.new.part c.args.eid c.status.result _ _ c.serve.result c.new-part.ensures.ipa c.new-part.ensures.eid c.status.ensures c.serve.ensures

pub returns-clause-own : goal.returns-clause-own
returns-clause-own g c = λ one. not_one c.serve.result.halt c.serve.result.closing (sym c.status.ensures ∙ one)

pub returns-clause-causes : goal.returns-clause-causes
returns-clause-causes g c = has_causes (ipa_rule c.args.eid) [] c.status.result _ _ (ran_alone c.new-part.result c.serve.new.part c.args.eid c.status.result _ _ c.serve.result c.new-part.ensures.ipa c.new-part.ensures.eid c.status.ensures c.serve.ensures)

pub returns-clause-complete : goal.returns-clause-complete
returns-clause-complete g c = λ input fs told is handled no_read no_write.
    complete (ipa_rule c.args.eid) [] c.status.result _ _ input fs (ran_alone c.new-part.result c.serve.new.part c.args.eid c.status.result _ _ c.serve.result c.new-part.ensures.ipa c.new-part.ensures.eid c.status.ensures c.serve.ensures) told is handled no_read no_write

pub returns-clause-stops : goal.returns-clause-stops
returns-clause-stops g c = λ input fs tail told is handled no_read no_write.
    stops (ipa_rule c.args.eid) [] c.status.result _ _ input fs tail (ran_alone c.new-part.result c.serve.new.part c.args.eid c.status.result _ _ c.serve.result c.new-part.ensures.ipa c.new-part.ensures.eid c.status.ensures c.serve.ensures) told is handled no_read no_write
