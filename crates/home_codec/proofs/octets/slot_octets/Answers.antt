use Rattle.std.proofs.Common.{◌≤◌, ℕ, List, length}
use Rattle.std.specs.Option.{option_copied}
use Rattle.home_codec.specs.Layout.{slot_front}
use Rattle.home_codec.proofs.Written.{length-slot_front, on_written, results_copied}
use Rattle.home_codec.proofs.octets.slot_octets.Goals as goal

pub returns-clause-len : goal.returns-clause-len
returns-clause-len c =
    let place = option_copied c.args.place in
    on_written (λ (octets : List ℕ). length octets ≤ 18313) (slot_front place) c.front_of.result (length-slot_front place (results_copied c.args.place c.requires)) c.front_of.ensures
