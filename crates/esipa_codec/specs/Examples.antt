-- Values of the worked examples.
use Rattle.std.specs.Prelude.{ℕ, Bool, List, [], ◌∷◌}
use Rattle.small_card.specs.Examples.{e1, card_eid}
use Rattle.small_card.specs.declared.types.Body.{Body}
use Rattle.small_card.specs.declared.types.Body.TheVariants.{Psmos}
use Rattle.small_card.specs.declared.types.Psmo.TheVariants as psmo
use Rattle.small_card.specs.declared.types.PackageResult.{PackageResult}
use Rattle.esipa_codec.specs.declared.messages.ToEim.TheVariants as to_eim
use Rattle.esipa_codec.specs.Eims.{EimState}
use Rattle.esipa_codec.specs.Events.{EimEvent, message, after_events}

abbrev pub listing : Body
listing = Psmos (psmo.List ∷ [])

-- A result of association 1 with this number, counter and mark.
abbrev pub copy : ℕ → ℕ → Bool → PackageResult
copy seq counter rolled =
    record { seq = seq; eim = e1; association = 1; counter = counter; items = []; rolled = rolled }

abbrev pub got : PackageResult → EimEvent
got r = message (to_eim.Result r)

-- The first eIM after these events, the newest first.
abbrev pub eim_after : List EimEvent → EimState
eim_after events = after_events e1 card_eid events
