use Rattle.std.proofs.Common.{◌∙◌}
use Rattle.small_card.specs.Packages.{Executed}
use Rattle.home_codec.specs.FullCards.{full_card, small_card}
use Rattle.card_steps.proofs.OneStep.{executed_on, took, result_is}
use Rattle.card_steps.proofs.loading.take.Goals as goal

pub returns-clause-unit : goal.returns-clause-unit
returns-clause-unit c =
    let card = c.args.card.now in
    let p = c.args.load.now in
    let done = c.in_ok-done.done in
    let x : Executed = record { profiles = done.profiles; eims = done.eims; items = done.items; armed = done.armed } in
    let e = executed_on (small_card card) p c.in_ok-eims.eims c.accept.new.self x c.in_ok-eims.ensures.equal c.accept.ensures.counted c.in_ok-done.ensures.executed in
    took (full_card card) p x c.in_ok-store.store c.put-seq.new.self c.put-seq.result c.armed_with-armed.result e c.in_ok-store.ensures c.put-seq.ensures.number c.put-seq.ensures.kept c.armed_with-armed.ensures.armed

pub returns-clause-answer : goal.returns-clause-answer
returns-clause-answer c =
    let card = c.args.card.now in
    let p = c.args.load.now in
    let done = c.in_ok-done.done in
    let x : Executed = record { profiles = done.profiles; eims = done.eims; items = done.items; armed = done.armed } in
    let e = executed_on (small_card card) p c.in_ok-eims.eims c.accept.new.self x c.in_ok-eims.ensures.equal c.accept.ensures.counted c.in_ok-done.ensures.executed in
    result_is (small_card card) p x c.in_ok-store.store c.put-seq.result c.in_ok-items.items e c.in_ok-store.ensures c.put-seq.ensures.number (c.in_ok-items.ensures.equal ∙ c.as_slice.ensures)
