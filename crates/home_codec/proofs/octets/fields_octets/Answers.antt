use Rattle.std.proofs.Common.{◌≡◌, ℕ, List, length}
use Rattle.home_codec.specs.FullCards.{full_card}
use Rattle.home_codec.specs.Homes.{fields}
use Rattle.home_codec.proofs.Written.{length-fields, on_written}
use Rattle.home_codec.proofs.octets.fields_octets.Goals as goal

pub returns-clause-len : goal.returns-clause-len
returns-clause-len c =
    let f = full_card c.args.card.now in
    on_written (λ (octets : List ℕ). length octets ≡ 6400) (fields f) c.fields_of.result (length-fields f c.requires) c.fields_of.ensures
