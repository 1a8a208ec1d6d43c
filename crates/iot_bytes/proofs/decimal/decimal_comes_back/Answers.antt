use Rattle.iot_bytes.proofs.Numerals.{decimal_comes_back}
use Rattle.iot_bytes.proofs.decimal.decimal_comes_back.Goals as goal

pub returns : goal.returns
returns c = decimal_comes_back
