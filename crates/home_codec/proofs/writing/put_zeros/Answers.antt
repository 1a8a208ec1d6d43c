use Rattle.std.proofs.Common.{◌≡◌, ◌++◌, ◌∷◌, [], arith}
use Rattle.home_codec.proofs.Appending.{none_yet, zero_put}
use Rattle.home_codec.proofs.writing.put_zeros.Goals as goal

pub loop-i-init : goal.loop-i-init
loop-i-init c = none_yet c.args.out.now

pub loop-i-preserved : goal.loop-i-preserved
loop-i-preserved c =
    let put : c.append.new.self.items ≡ c.loop-i.out ++ 0 ∷ [] = grind arith in
    zero_put c.loop-i.out c.args.out.now _ c.loop-i.i c.loop-i.invariant put
