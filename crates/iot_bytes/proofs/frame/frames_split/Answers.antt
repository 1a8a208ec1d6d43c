use Rattle.iot_bytes.proofs.FrameEnds.{frames_split}
use Rattle.iot_bytes.proofs.frame.frames_split.Goals as goal

pub returns : goal.returns
returns c = frames_split
