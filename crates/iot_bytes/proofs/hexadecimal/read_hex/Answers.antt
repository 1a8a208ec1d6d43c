use Rattle.std.proofs.Common.{◌≡◌, Ok}
use Rattle.hex.specs.Hex.{decode_of}
use Rattle.iot_bytes.proofs.HexText.{IsHex-decodes, refused}
use Rattle.iot_bytes.proofs.hexadecimal.read_hex.Goals as goal

pub returns-in-Ok : goal.returns-in-Ok
returns-in-Ok c =
    let spelled : decode_of c.args.token.now ≡ Ok c.from_vec.result = cc (c.in-Ok.ensures.ok, c.from_vec.ensures) in
    (IsHex-decodes c.args.token.now c.from_vec.result spelled, spelled)

pub returns-in-Err : goal.returns-in-Err
returns-in-Err c = refused c.args.token.now c.in-Err.error c.refusal.result c.in-Err.ensures.err c.refusal.ensures
