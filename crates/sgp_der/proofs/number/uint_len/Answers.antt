use Rattle.std.proofs.Common.{arith, ap, length, length-append, [], ◌∷◌, ◌/◌, ◌%◌}
use Rattle.sgp_der.specs.Number.{uint}
use Rattle.sgp_der.proofs.Values.{uint_few, uint_some, uint_low, uint_step}
use Rattle.sgp_der.proofs.number.uint_len.Goals as goal

pub overflow_add-len : goal.overflow_add-len
overflow_add-len c = omega (arith, c.loop-left.invariant, uint_few c.args.n (omega arith), uint_some c.loop-left.left)

pub loop-left-preserved : goal.loop-left-preserved
loop-left-preserved c =
    let step = uint_step c.loop-left.left (omega arith) in
    omega (arith, c.loop-left.invariant, ap length step, length-append (uint (c.loop-left.left / 256)) (c.loop-left.left % 256 ∷ []))

pub returns-clause-len : goal.returns-clause-len
returns-clause-len c = omega (arith, c.loop-left.invariant, ap length (uint_low c.loop-left.left (omega arith)))

pub returns-clause-few : goal.returns-clause-few
returns-clause-few c = omega (arith, c.loop-left.invariant, ap length (uint_low c.loop-left.left (omega arith)), uint_few c.args.n (omega arith))
