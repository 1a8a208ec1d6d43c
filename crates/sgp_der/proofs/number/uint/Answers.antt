use Rattle.std.proofs.Common.{arith}
use Rattle.sgp_der.proofs.Values.{too_long, too_long_of}
use Rattle.sgp_der.proofs.number.uint.Goals as goal

pub returns-then-content-gt-MOST_UINT : goal.returns-then-content-gt-MOST_UINT
returns-then-content-gt-MOST_UINT c = record {
  number = too_long c.args.content.now (λ i. omega (arith, c.type_inv.content i)) c.if-content-gt-MOST_UINT.true;
  exact = too_long_of c.args.content.now (λ i. omega (arith, c.type_inv.content i)) c.if-content-gt-MOST_UINT.true;
}
