use Rattle.std.proofs.Common.{◌≡◌, ℕ, List, ◌++◌, ◌∷◌, ◌<◌, ◌≤◌, ◌+◌, ◌^◌, length, false, Result, Ok, Err, OnOk, arith, ap, sym, length-append}
use Rattle.std.specs.Result.{is_err}
use Rattle.sgp_der.specs.Element.{len_octets}
use Rattle.sgp_der.specs.Number.{uint}
use Rattle.sgp_der.specs.declared.number.TheConstants.{MOST_UINT}
use Rattle.sgp_der.proofs.Lengths.{len_low}
use Rattle.sgp_der.proofs.Values.{uint_few}
use Rattle.sgp_der.proofs.put.put_uint.Goals as goal

given : {T E P : Type 0} (r : Result T E) → is_err r ≡ false → OnOk r P → P
given (Ok x) e h = h
given (Err x) e h = absurd cc

grown : (old out new : List ℕ) (tag len n : ℕ) → n < 2 ^ 64 → len ≤ 9 → out ≡ old ++ tag ∷ len_octets len → new ≡ out ++ uint n → length new ≤ length old + 2 + MOST_UINT
grown old out new tag len n fits few head number =
    let low = ap length (len_low len (omega arith)) in
    omega (arith, ap length head, ap length number, length-append old (tag ∷ len_octets len), length-append out (uint n), uint_few n fits)

pub returns-clause-len : goal.returns-clause-len
returns-clause-len c =
    let number = given c.put_number.result (sym c.if-is_err.ensures.value) c.put_number.ensures.ok in
    grown c.args.out.now c.put_head.new.out c.put_number.new.out c.args.tag c.uint_len.result c.args.n (omega arith) (omega arith) c.in_ok-put_head.ensures.ok number
