use Rattle.sgp_values.proofs.Octets.{bounds_from_AllPass}
use Rattle.home_codec.proofs.Whole.{card_takes, card_again}
use Rattle.home_codec.proofs.Written.{written_home}
use Rattle.home_codec.proofs.laws.homes_are_read_back.Goals as goal

pub returns : goal.returns
returns c = record {
  taken = λ home f octets e. card_takes home f (bounds_from_AllPass home octets) e;
  again = λ home f h. card_again home f h.fields h.valid;
  written = written_home;
}
