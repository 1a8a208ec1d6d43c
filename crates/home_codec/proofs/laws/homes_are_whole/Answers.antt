use Rattle.home_codec.proofs.Written.{length-home}
use Rattle.home_codec.proofs.laws.homes_are_whole.Goals as goal

pub returns : goal.returns
returns c = λ home f h. length-home f home h
