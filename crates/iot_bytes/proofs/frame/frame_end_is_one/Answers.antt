use Rattle.iot_bytes.proofs.FrameEnds.{frame_end_is_one}
use Rattle.iot_bytes.proofs.frame.frame_end_is_one.Goals as goal

pub returns : goal.returns
returns c = frame_end_is_one
