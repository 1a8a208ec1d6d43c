use Rattle.std.proofs.Common.{◌≡◌, ℕ, List, length}
use Rattle.home_codec.specs.FullCards.{full_card}
use Rattle.home_codec.specs.Homes.{IsHomeOf, home_of}
use Rattle.home_codec.proofs.Written.{length-home, written_home, on_written}
use Rattle.home_codec.proofs.octets.home_octets.Goals as goal

pub returns-clause-len : goal.returns-clause-len
returns-clause-len c =
    let f = full_card c.args.card.now in
    on_written (λ (home : List ℕ). length home ≡ 172288) (home_of f) c.home_with.result (length-home f (home_of f) (written_home f c.requires)) c.home_with.ensures

pub returns-clause-home : goal.returns-clause-home
returns-clause-home c =
    let f = full_card c.args.card.now in
    on_written (λ (home : List ℕ). IsHomeOf f home) (home_of f) c.home_with.result (written_home f c.requires) c.home_with.ensures
