use Rattle.std.proofs.Common.{◌≡◌, ◌≢◌, ◌∙◌, ap, sym}
use Rattle.line_loop.specs.declared.halt.NoLine.TheVariants as reading
use Rattle.line_loop.specs.declared.halt.Halt.TheVariants.{Reading}
use Rattle.line_loop.specs.Parts.{scene}
use Rattle.line_loop.specs.Status.{is_end}
use Rattle.line_loop.proofs.Ending.{at_end, halted_at, stopped_early}
use Rattle.line_loop.proofs.serving.serve_lines.Goals as goal

pub returns-then-is_end : goal.returns-then-is_end
returns-then-is_end g c =
    let is : c.handle-last.result.halt ≡ Reading reading.End = at_end c.handle-last.result.halt (sym c.is_end.ensures ∙ c.if-is_end.true) in
    c.finish.ensures c.handle-last.new.bench c.handle-last.new.modems (scene c.args.part.now c.args.bench.now c.args.modems.now) _ _ _ (halted_at _ _ _ _ _ _ _ is c.handle-last.ensures)

pub returns : goal.returns
returns g c =
    let not_end : c.handle-last.result.halt ≢ Reading reading.End = λ at. let both = sym c.if-is_end.false ∙ c.is_end.ensures ∙ ap is_end at in absurd cc in
    let close = c.send_stop_line-closing.ensures in
    stopped_early _ _ _ _ _ _ _ _ _ _ c.handle-last.result.number c.handle-last.result.halt c.send_stop_line-closing.result not_end c.handle-last.ensures close.closes close.monotone close.fault
