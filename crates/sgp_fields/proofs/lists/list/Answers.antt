use Rattle.std.proofs.Common.{◌≡◌, ◌≢◌, ◌++◌, ◌∷◌, [], arith, length-append}
use Rattle.std.proofs.lemmas.Bool.Decides.{nat_tests}
use Rattle.std.proofs.lemmas.List.{nil_from_length}
use Rattle.std.proofs.lemmas.Result.{err_from_is_err_and}
use Rattle.sgp_fields.proofs.Loop.{goes_on, no_part, not_read, too_many, all_read}
use Rattle.sgp_fields.proofs.lists.list.Goals as goal

pub returns-then-len-most : goal.returns-then-len-most
returns-then-len-most g c =
    let ne : c.loop-rest.rest.now ≢ [] = grind (arith, nat_tests) in
    too_many g.R.Listed.entry_of c.args.most c.loop-rest.rows c.loop-rest.rest.now _ (omega arith) ne c.loop-rest.invariant.so_far

pub returns-in_default : goal.returns-in_default
returns-in_default g c =
    let ne : c.loop-rest.rest.now ≢ [] = grind (arith, nat_tests) in
    no_part g.R.Listed.entry_of c.args.most c.loop-rest.rows c.loop-rest.rest.now _ (omega arith) ne c.in_default.ensures c.loop-rest.invariant.so_far

pub returns-in_err-row : goal.returns-in_err-row
returns-in_err-row g c =
    let ne : c.loop-rest.rest.now ≢ [] = grind (arith, nat_tests) in
    let p = err_from_is_err_and c.from_residual.result c.from_residual.ensures.1 in
    rw (p.1, p.2) (not_read g.R.Listed.entry_of c.args.most c.loop-rest.rows c.loop-rest.rest.now _ _ c.in_err-row.field-0.0 (omega arith) ne c.in-Some.ensures (c.in_err-row.ensures) c.loop-rest.invariant.so_far)

pub loop-rest-preserved : goal.loop-rest-preserved
loop-rest-preserved g c =
    let ne : c.loop-rest.rest.now ≢ [] = grind (arith, nat_tests) in
    let pushed : c.push.new.self.items ≡ c.loop-rest.rows ++ c.in_ok-row.row ∷ [] = grind arith in
    rw pushed (record {
      few = omega (arith, length-append c.loop-rest.rows (c.in_ok-row.row ∷ []));
      so_far = goes_on g.R.Listed.entry_of c.args.most c.loop-rest.rows c.loop-rest.rest.now _ c.in_ok-row.row _ (omega arith) ne c.in-Some.ensures c.in_ok-row.ensures c.loop-rest.invariant.so_far;
    })

pub returns : goal.returns
returns g c =
    let e : c.loop-rest.rest.now ≡ [] = nil_from_length c.loop-rest.rest.now (grind (arith, nat_tests)) in
    all_read g.R.Listed.entry_of c.loop-rest.rows _ c.loop-rest.rest.now _ e c.loop-rest.invariant.so_far
