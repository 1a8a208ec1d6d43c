use Rattle.iot_bytes.proofs.Spaces.{token_stands}
use Rattle.iot_bytes.proofs.token.token_stands.Goals as goal

pub returns : goal.returns
returns c = token_stands
