use Rattle.std.proofs.Common.{◌≡◌, ◌∙◌, ◌++◌, ap, sym, subst, Ok, List, ℕ}
use Rattle.line_loop.specs.Parts.{scene}
use Rattle.line_loop.proofs.Ending.{finished, unfinished}
use Rattle.line_loop.proofs.serving.finish.Goals as goal

pub returns-in-Ok : goal.returns-in-Ok
returns-in-Ok g c = λ bench modems first start rest reads h.
    let now = scene c.args.part.now bench modems in
    let did = c.in-Ok.ensures bench modems in
    let same : did.closing ≡ c.as_slice.result.now = sym (c.as_slice.ensures ∙ did.appended ∙ ap (λ (x : List ℕ). x ++ did.closing) c.new-out.ensures) in
    let send = c.send_last-closing.ensures in
    finished _ _ _ _ _ _ _ _ _ _ c.args.number c.as_slice.result.now c.send_last-closing.result h
    (λ ls text behind. subst (λ (z : List ℕ). g.P.LinePart.ends first now ls text (Ok z)) same (did.closes first ls text behind)) send.sent send.monotone send.fault

pub returns : goal.returns
returns g c = λ bench modems first start rest reads h.
    let close = c.send_stop_line-closing.ensures in
    unfinished _ _ _ _ _ _ _ _ _ _ c.args.number c.in-Err.stop c.send_stop_line-closing.result h (c.in-Err.ensures bench modems first) close.closes close.monotone close.fault
