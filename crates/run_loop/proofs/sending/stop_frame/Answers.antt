use Rattle.std.proofs.Common.{◌≡◌, ◌∙◌, ◌++◌, ap, length, length-append, arith, List, ℕ}
use Rattle.iot_bytes.specs.Frames.{blank_head}
use Rattle.es10_codec.specs.Spelling.{stopped}
use Rattle.run_loop.proofs.StopRecord.{stopped_short}
use Rattle.run_loop.proofs.sending.stop_frame.Goals as goal

pub end_frame-requires-clause-len : goal.end_frame-requires-clause-len
end_frame-requires-clause-len c =
    let spelled = stopped c.args.status c.args.number in
    let whole : c.write_stopped.new.out ≡ blank_head ++ spelled = c.in_ok-write_stopped.ensures.ok ∙ ap (λ (x : List ℕ). x ++ spelled) c.in_ok-begin_frame.ensures.ok in
    omega (arith, ap length whole, length-append blank_head spelled, stopped_short c.args.status c.args.number (omega (arith, c.ranges.status)) (omega (arith, c.ranges.number)))
