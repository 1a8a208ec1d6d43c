use Rattle.iot_bytes.proofs.Numerals.{decimal_is_digits}
use Rattle.iot_bytes.proofs.decimal.decimal_is_digits.Goals as goal

pub returns : goal.returns
returns c = decimal_is_digits
