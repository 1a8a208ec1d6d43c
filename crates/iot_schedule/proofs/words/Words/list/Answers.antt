use Rattle.std.proofs.Common.{◌≡◌, ◌++◌, ◌∷◌, [], arith, length-append}
use Rattle.std.proofs.lemmas.Result.{err_from_is_err_and}
use Rattle.iot_schedule.proofs.Listing.{goes_on, not_read, too_many, all_read}
use Rattle.iot_schedule.proofs.words.Words.list.Goals as goal

pub returns-then-len-most : goal.returns-then-len-most
returns-then-len-most g c =
    too_many g.T.Word.value_of c.args.most c.loop-alloc.values c.loop-alloc.self _ (omega arith) c.loop-alloc-test.ensures c.loop-alloc.invariant.so_far

pub returns-in_err-value : goal.returns-in_err-value
returns-in_err-value g c =
    let p = err_from_is_err_and c.from_residual.result c.from_residual.ensures.1 in
    rw (p.1, p.2) (not_read g.T.Word.value_of c.args.most c.loop-alloc.values c.loop-alloc.self _ _ c.in_err-value.field-0.0 (omega arith) c.loop-alloc-test.ensures c.in_err-value.ensures c.loop-alloc.invariant.so_far)

pub loop-alloc-preserved : goal.loop-alloc-preserved
loop-alloc-preserved g c =
    let pushed : c.push.new.self.items ≡ c.loop-alloc.values ++ c.in_ok-value.value ∷ [] = grind arith in
    rw pushed (record {
      few = omega (arith, length-append c.loop-alloc.values (c.in_ok-value.value ∷ []));
      so_far = goes_on g.T.Word.value_of c.args.most c.loop-alloc.values c.loop-alloc.self _ c.in_ok-value.value _ (omega arith) c.loop-alloc-test.ensures c.in_ok-value.ensures c.loop-alloc.invariant.so_far;
    })

pub returns : goal.returns
returns g c = all_read g.T.Word.value_of c.loop-alloc.values _ c.loop-alloc.self _ c.loop-alloc-test.ensures c.loop-alloc.invariant.so_far
