use Rattle.std.proofs.Common.{◌≡◌, ◌++◌, ◌%◌, [], ◌∷◌, refl, arith, append_assoc}
use Rattle.sgp_der.specs.Number.{uint}
use Rattle.sgp_der.proofs.Values.{uint_low, uint_step}
use Rattle.sgp_der.proofs.put.+put_number.Goals as goal
use Rattle.sgp_der.proofs.put.+put_number.Goals.{then-n-ge-FROM_TWO+in_ok-put_number, else-n-ge-FROM_TWO}

pub returns-clause-ok : goal.returns-clause-ok
returns-clause-ok t c =
    let whole : c.if-n-ge-FROM_TWO.out ++ (c.args.n % 256 ∷ []) ≡ c.args.out.now ++ uint c.args.n = elim c.if-n-ge-FROM_TWO.branch [
      | then-n-ge-FROM_TWO+in_ok-put_number w ↦ rw (w.out-is, w.in_ok-put_number.ensures.ok, uint_step c.args.n w.if-n-ge-FROM_TWO.true, append_assoc) refl
      | else-n-ge-FROM_TWO w ↦
          let low : c.args.n % 256 ≡ c.args.n = omega (arith, w.if-n-ge-FROM_TWO.false) in
          rw (w.out-is, low, uint_low c.args.n w.if-n-ge-FROM_TWO.false) refl
    ] in
    let ok = rw c.deref_mut.ensures.items at c.append.ensures.ok in
    rw whole at ok
