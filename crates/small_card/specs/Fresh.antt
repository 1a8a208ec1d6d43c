-- A card directly after its personalisation.
use Rattle.std.specs.Prelude.{ℕ, [], List, None}
use Rattle.small_card.specs.Cards.{FullCard}
use Rattle.small_card.specs.declared.types.Profile.{Profile}

-- It has no eIM and no result, both next numbers are 1, and nothing is armed.
unfoldable pub fresh : List ℕ → List Profile → FullCard
fresh eid profiles = record {
  card = record {
    eid = eid;
    profiles = profiles;
    eims = record { entries = []; next = 1 };
    results = record { pending = []; next = 1 };
  };
  armed = None;
}
