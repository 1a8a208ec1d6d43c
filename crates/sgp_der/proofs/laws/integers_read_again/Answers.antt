use Rattle.sgp_der.proofs.Values.{is_uint_of, uint_again, uint_of_is}
use Rattle.sgp_der.proofs.laws.integers_read_again.Goals as goal

pub returns : goal.returns
returns c = record {
  again = uint_again;
  exact = λ content n. (uint_of_is content n, λ is. is_uint_of content n is.0 is.1);
}
