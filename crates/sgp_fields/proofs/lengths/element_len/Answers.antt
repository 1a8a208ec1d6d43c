use Rattle.std.proofs.Common.{arith, ap}
use Rattle.sgp_der.specs.Element.{len_octets}
use Rattle.std.proofs.Common.{length, ◌≡◌}
use Rattle.sgp_der.proofs.Elements.{length-element}
use Rattle.sgp_fields.proofs.lengths.element_len.Goals as goal

pub returns-clause-len : goal.returns-clause-len
returns-clause-len c = λ tag octets is.
    let same : length (len_octets (length octets)) ≡ length (len_octets c.args.content) = ap (λ n. length (len_octets n)) is in
    omega (arith, length-element tag octets)
