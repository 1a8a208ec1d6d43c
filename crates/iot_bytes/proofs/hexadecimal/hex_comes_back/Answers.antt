use Rattle.iot_bytes.proofs.HexText.{hex_comes_back}
use Rattle.iot_bytes.proofs.hexadecimal.hex_comes_back.Goals as goal

pub returns : goal.returns
returns c = hex_comes_back
