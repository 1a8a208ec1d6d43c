use Rattle.sgp_der.proofs.Values.{below_bytes, one_content, uint_few, uint_is, uint_some}
use Rattle.sgp_der.proofs.laws.integers_have_one_content.Goals as goal

pub returns : goal.returns
returns c = record {
  spelled = uint_is;
  one = λ a b n fits_a fits_b. one_content a b n (below_bytes a fits_a) (below_bytes b fits_b);
  some = uint_some;
  few = uint_few;
}
