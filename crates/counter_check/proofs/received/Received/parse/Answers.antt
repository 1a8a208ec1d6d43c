use Rattle.std.proofs.Common.{◌≡◌, ◌∙◌, sym, arith}
use Rattle.counter_check.proofs.Deciding.{too_long, unread, read, one_refusal}
use Rattle.counter_check.proofs.received.Received.parse.Goals as goal

pub returns-then-bytes-gt-MOST_PACKAGE_OCTETS-clause-refused : goal.returns-then-bytes-gt-MOST_PACKAGE_OCTETS-clause-refused
returns-then-bytes-gt-MOST_PACKAGE_OCTETS-clause-refused c = λ why is h.
    let same : c.refused.result ≡ why = cc in
    one_refusal _ _ why (too_long h c.args.good c.args.bytes.now (omega arith)) (sym c.refused.ensures ∙ same)

pub returns-in-Ok-clause-checked : goal.returns-in-Ok-clause-checked
returns-in-Ok-clause-checked c = λ h. read h c.args.good c.args.bytes.now c.in-Ok.signed (omega arith) c.in-Ok.ensures.exact

pub returns-in-Err-Malformed-clause-refused : goal.returns-in-Err-Malformed-clause-refused
returns-in-Err-Malformed-clause-refused c = λ why is h.
    let same : c.refused-in-Err-Malformed.result ≡ why = cc in
    one_refusal _ _ why (unread h c.args.good c.args.bytes.now (omega arith) (rw c.in-Err-Malformed.field-0-is at c.in-Err-Malformed.ensures.exact)) (sym c.refused-in-Err-Malformed.ensures ∙ same)
