-- The home of a card: its fields with the card's values.
use Rattle.std.specs.Prelude.{ℕ, ◌≡◌, ◌*◌, List, [], ◌∷◌, ◌++◌, length, take, drop, Option}
use Rattle.small_card.specs.Cards.{FullCard}
use Rattle.small_card.specs.Valid.{IsValid}
use Rattle.small_card.specs.declared.types.PackageResult.{PackageResult}
use Rattle.home_codec.specs.Fixed.{slots}
use Rattle.home_codec.specs.Layout.{head, head_of, profile_slot, eim_slot, slot_front, result_slot}
use Rattle.home_codec.specs.Ordering.{somes, in_order}

-- the octets begin so
abbrev pub Begins : List ℕ → List ℕ → Type 0
Begins front octets = take (length front) octets ≡ front

-- slot after slot begins with a result, or is free; what stands behind isn't looked at
abbrev pub AreSlots : List (Option PackageResult) → List ℕ → Type 0
AreSlots [] area = area ≡ []
AreSlots (place ∷ places) area = Begins (slot_front place) area × AreSlots places (drop 20736 area)

-- each pending result stands in exactly one of the 8 slots, in any order of slots
pub record HasResults (pending : List PackageResult) (area : List ℕ) : Type 0 where
  pub places : List (Option PackageResult)
  pub all : length places ≡ 8
  pub size : length area ≡ 20736 * 8
  pub stand : AreSlots places area
  pub each : in_order (somes places) ≡ pending

-- the head, the profile slots and the eIM slots
abbrev pub fields : FullCard → List ℕ
fields f =
    head (head_of f)
    ++ (slots profile_slot 128 16 f.card.profiles ++ slots eim_slot 512 8 f.card.eims.entries)

-- the home has exactly the fields of the card
pub record HasFields (f : FullCard) (home : List ℕ) : Type 0 where
  pub area : List ℕ
  pub parts : home ≡ fields f ++ area
  pub results : HasResults f.card.results.pending area

-- the home of a valid card
pub record IsHomeOf (f : FullCard) (home : List ℕ) : Type 0 where
  pub fields : HasFields f home
  pub valid : IsValid f

-- the home as it is written: the pending results stand in the first slots, in their order
abbrev pub home_of : FullCard → List ℕ
home_of f = fields f ++ slots result_slot 20736 8 f.card.results.pending
