use Rattle.std.proofs.Common.{◌≡◌, ◌∙◌, ap, sym, Ok}
use Rattle.std.specs.Cmp.Lexicographic.{other_text}
use Rattle.std.specs.Fmt.{decimal}
use Rattle.iot_bytes.proofs.Numerals.{decimal_is_text, decimal_parses}
use Rattle.iot_bytes.proofs.decimal.read_decimal.Goals as goal

pub returns-in_default : goal.returns-in_default
returns-in_default c = decimal_is_text c.args.token.now c.in_default.ensures.cases.0

pub returns-in_default-parse : goal.returns-in_default-parse
returns-in_default-parse c = λ n d.
    let h : c.parse.result ≡ Ok n = decimal_parses c.args.token.now c.in-Ok.text.now c.parse.result c.in-Ok.ensures.cases.0 c.parse.ensures.value.0 n d in
    cc (h, c.in_default-parse.is)

pub returns-else-is_spelling : goal.returns-else-is_spelling
returns-else-is_spelling c = λ n d.
    let h : c.parse.result ≡ Ok n = decimal_parses c.args.token.now c.in-Ok.text.now c.parse.result c.in-Ok.ensures.cases.0 c.parse.ensures.value.0 n d in
    let same : c.in-Ok-parse.number ≡ n = cc (h, c.in-Ok-parse.is) in
    let spelled : c.as_bytes.result.now ≡ c.args.token.now = c.as_bytes.ensures.value ∙ c.format.ensures.text ∙ ap decimal same ∙ sym d.1 in
    other_text c.as_bytes.result.now c.args.token.now c.if-is_spelling.ensures spelled
