use Rattle.lone_card.proofs.Serving.{served, unserved}
use Rattle.lone_card.proofs.run.open_and_serve.Goals as goal

pub returns-in-Ok : goal.returns-in-Ok
returns-in-Ok g c =
    served c.in-Ok.part.card c.serve.new.part.card _ _ _ _ _ c.serve.result (record { told = c.in-Ok.ensures.chip.told; monotone = c.in-Ok.ensures.chip.monotone }) c.in-Ok.ensures.to c.serve.ensures

pub returns-in-Err : goal.returns-in-Err
returns-in-Err g c =
    unserved _ _ _ _ c.end_unopened.result c.in-Err.stop c.in-Err.ensures.chip c.in-Err.ensures.to.0 c.in-Err.ensures.to.1 (c.end_unopened.ensures _ _)
