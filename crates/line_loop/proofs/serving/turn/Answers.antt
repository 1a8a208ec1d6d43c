use Rattle.std.proofs.Common.{◌≡◌, ◌∙◌, ◌++◌, ap, arith, refl, Err, List, ℕ}
use Rattle.std.proofs.lemmas.Result.{err_from_is_err_and}
use Rattle.line_loop.specs.declared.halt.NoLine.{NoLine}
use Rattle.line_loop.proofs.Ending.{handled, read_no_more, handle_no_more, cut_short}
use Rattle.line_loop.proofs.serving.turn.Goals as goal

pub returns-in_err-line-clause-turned : goal.returns-in_err-line-clause-turned
returns-in_err-line-clause-turned g c = λ first start count few p.
    let e = err_from_is_err_and c.from_residual.result c.from_residual.ensures.1 in
    let read = c.in_err-line.ensures in
    rw (e.1, e.2) (read_no_more _ _ _ _ _ count c.in_err-line.field-0.0 (omega (arith, few)) p (read.next count) refl read.monotone (omega arith) (λ at. read.fault (ap (λ (s : NoLine). Err s) at)))

pub returns-in_err-handle-clause-turned : goal.returns-in_err-handle-clause-turned
returns-in_err-handle-clause-turned g c = λ first start count few p.
    let e = err_from_is_err_and c.from_residual-in_err-handle.result c.from_residual-in_err-handle.ensures.1 in
    let read = c.in_ok-line.ensures in
    rw (e.1, e.2) (handle_no_more _ _ _ _ _ _ count c.in_ok-line.line c.in_err-handle.field-0.0 few p ((rw c.as_slice.ensures at c.in_err-handle.ensures.handles) first) (read.next count) refl read.monotone (omega arith))

pub returns-in_err-send_octets-clause-turned : goal.returns-in_err-send_octets-clause-turned
returns-in_err-send_octets-clause-turned g c = λ first start count few p.
    let e = err_from_is_err_and c.from_residual-in_err-send_octets.result c.from_residual-in_err-send_octets.ensures.1 in
    let read = c.in_ok-line.ensures in
    let did = rw c.as_slice.ensures at c.in_ok-handle.ensures.handles in
    let text : c.as_slice-2.result.now ≡ did.text = c.as_slice-2.ensures ∙ did.appended ∙ ap (λ (x : List ℕ). x ++ did.text) c.new-out.ensures in
    let send = c.in_err-send_octets.ensures in
    rw (e.1, e.2) (cut_short _ _ _ _ _ _ count c.in_ok-line.line did.text few p (did.stands first) (read.next count) (rw text at send.sent) read.monotone send.monotone send.fault)

pub returns-clause-turned : goal.returns-clause-turned
returns-clause-turned g c = λ first start count few p.
    let read = c.in_ok-line.ensures in
    let did = rw c.as_slice.ensures at c.in_ok-handle.ensures.handles in
    let text : c.as_slice-2.result.now ≡ did.text = c.as_slice-2.ensures ∙ did.appended ∙ ap (λ (x : List ℕ). x ++ did.text) c.new-out.ensures in
    let send = c.in_ok-send_octets.ensures in
    handled _ _ _ _ _ count c.in_ok-line.line did.text p (did.stands first) (read.next count) (rw text at send.sent) read.monotone send.monotone
