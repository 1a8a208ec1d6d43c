use Rattle.iot_bytes.proofs.FrameEnds.{frames_are_one}
use Rattle.iot_bytes.proofs.frame.frames_are_one.Goals as goal

pub returns : goal.returns
returns c = frames_are_one
