use Rattle.std.proofs.Common.{◌∙◌, ap, arith, refl, Err}
use Rattle.std.proofs.lemmas.Result.{err_from_is_err_and}
use Rattle.run_loop.specs.declared.halt.ReadStop.{ReadStop}
use Rattle.run_loop.specs.declared.halt.ReadStop.TheVariants.{NoMemory}
use Rattle.run_loop.proofs.Ending.{answered, read_no_more, answer_no_more, cut_short, nothing_taken}
use Rattle.run_loop.proofs.serving.turn.Goals as goal

pub returns-in_err-begin_answer-clause-turned : goal.returns-in_err-begin_answer-clause-turned
returns-in_err-begin_answer-clause-turned g c = λ first start count few p.
    let e = err_from_is_err_and c.from_residual.result c.from_residual.ensures.1 in
    rw (e.1, e.2, c.in_err-begin_answer.ensures.memory) (read_no_more _ _ _ _ _ count NoMemory (omega (arith, few)) p (λ octets is. nothing_taken octets _ is) refl (omega arith) (omega arith) (λ no. absurd cc))

pub returns-in_err-frame-clause-turned : goal.returns-in_err-frame-clause-turned
returns-in_err-frame-clause-turned g c = λ first start count few p.
    let e = err_from_is_err_and c.from_residual-in_err-frame.result c.from_residual-in_err-frame.ensures.1 in
    let read = c.in_err-frame.ensures in
    rw (e.1, e.2) (read_no_more _ _ _ _ _ count c.in_err-frame.field-0.0 (omega (arith, few)) p (read.next count) refl read.monotone (omega arith) (λ at. read.fault (ap (λ (s : ReadStop). Err s) at)))

pub returns-in_err-reply-clause-turned : goal.returns-in_err-reply-clause-turned
returns-in_err-reply-clause-turned g c = λ first start count few p.
    let e = err_from_is_err_and c.from_residual-in_err-reply.result c.from_residual-in_err-reply.ensures.1 in
    let read = c.in_ok-frame.ensures in
    rw (e.1, e.2) (answer_no_more _ _ _ _ _ _ count c.in_ok-frame.frame c.in_err-reply.field-0.0 few p ((rw c.as_slice.ensures at c.in_err-reply.ensures.replies) first) (read.next count) refl read.monotone (omega arith))

pub returns-in_err-send_octets-clause-turned : goal.returns-in_err-send_octets-clause-turned
returns-in_err-send_octets-clause-turned g c = λ first start count few p.
    let e = err_from_is_err_and c.from_residual-in_err-send_octets.result c.from_residual-in_err-send_octets.ensures.1 in
    let read = c.in_ok-frame.ensures in
    let replied = rw c.as_slice.ensures at c.in_ok-reply.ensures.replies in
    let send = c.in_err-send_octets.ensures in
    rw (e.1, e.2) (cut_short _ _ _ _ _ _ count c.in_ok-frame.frame replied.content few p (replied.stands first) (read.next count) (rw (c.as_slice-2.ensures ∙ replied.framed) at send.sent) read.monotone send.monotone send.fault)

pub returns-clause-turned : goal.returns-clause-turned
returns-clause-turned g c = λ first start count few p.
    let read = c.in_ok-frame.ensures in
    let replied = rw c.as_slice.ensures at c.in_ok-reply.ensures.replies in
    let send = c.in_ok-send_octets.ensures in
    answered _ _ _ _ _ count c.in_ok-frame.frame replied.content p (replied.stands first) (read.next count) (rw (c.as_slice-2.ensures ∙ replied.framed) at send.sent) read.monotone send.monotone
