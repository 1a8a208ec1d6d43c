-- A card directly after its personalisation is valid.
use Rattle.std.proofs.Common.{ℕ, List, arith}
use Rattle.sgp_values.specs.Eids.{IsEid}
use Rattle.small_card.specs.Fresh.{fresh}
use Rattle.small_card.specs.Ranges.{IsTable}
use Rattle.small_card.specs.Valid.{IsValid}
use Rattle.small_card.specs.declared.types.Profile.{Profile}

pub fresh_valid : (eid : List ℕ) (profiles : List Profile) → IsEid eid → IsTable profiles → IsValid (fresh eid profiles)
unfolding fresh
fresh_valid eid profiles e t = record {
  card = record {
    eid = e;
    profiles = t;
    eims = record { few = omega arith; each = tt; apart = tt; next = record { some = omega arith; fits = omega arith } };
    results = record { few = omega arith; each = tt; rising = tt; next = record { some = omega arith; fits = omega arith } };
  };
  armed = λ a k. absurd (cc);
}
