use Rattle.iot_bytes.proofs.LineEnds.{line_end_is_one}
use Rattle.iot_bytes.proofs.line.line_end_is_one.Goals as goal

pub returns : goal.returns
returns c = line_end_is_one
