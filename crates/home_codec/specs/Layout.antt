-- What stands in the head, in a profile slot, in an eIM slot and in a result slot.
use Rattle.std.specs.Prelude.{ℕ, ◌-◌, List, ◌∷◌, ◌++◌, length, Option, Some, None}
use Rattle.sgp_fields.specs.Values.{flag}
use Rattle.small_card.specs.Cards.{FullCard}
use Rattle.small_card.specs.declared.types.Profile.{Profile}
use Rattle.small_card.specs.declared.types.EimEntry.{EimEntry}
use Rattle.small_card.specs.declared.types.PackageResult.{PackageResult}
use Rattle.small_card.specs.declared.types.Armed.{Armed}
use Rattle.result_codec.specs.Spelling.{result}
use Rattle.home_codec.specs.declared.head.Head.{Head}
use Rattle.home_codec.specs.Fixed.{zeros, word, long, text}

-- what the head says of a card
abbrev pub head_of : FullCard → Head
head_of f = record {
  eid = f.card.eid;
  profiles = length f.card.profiles;
  eims = length f.card.eims.entries;
  association = f.card.eims.next;
  seq = f.card.results.next;
  armed = f.armed;
}

-- the version that is written
abbrev pub version : ℕ
version = 1

-- 01, the former profile and the number of the armed result; or zeros
unfoldable pub armed_field : Option Armed → List ℕ
armed_field None = 0 ∷ zeros 14
armed_field (Some a) = 1 ∷ a.former ++ word a.seq

-- the 256 octets of block 0
unfoldable pub head : Head → List ℕ
head h =
    version ∷ h.eid
    ++ (h.profiles ∷ h.eims ∷ word h.association ++ (word h.seq ++ (armed_field h.armed ++ zeros 214)))

-- the state of a profile in one octet
unfoldable pub state : Profile → ℕ
state p = flag p.enabled

-- the 128 octets of a profile
unfoldable pub profile_slot : Profile → List ℕ
profile_slot p = p.iccid ++ (state p ∷ text 64 p.nickname ++ zeros 52)

-- the 512 octets of an eIM
unfoldable pub eim_slot : EimEntry → List ℕ
eim_slot e =
    text 128 e.id
    ++ (text 128 e.address ++ (text 128 e.key ++ (long e.counter ++ (word e.association ++ zeros 113))))

-- the length of a result, and the result
unfoldable pub kept_front : PackageResult → List ℕ
kept_front r = word (length (result r)) ++ result r

-- what a result slot begins with: the length 0 where the slot is free
unfoldable pub slot_front : Option PackageResult → List ℕ
slot_front None = word 0
slot_front (Some r) = kept_front r

-- the 20,736 octets of a result slot as it is written, with zeros behind the result
unfoldable pub result_slot : PackageResult → List ℕ
result_slot r = kept_front r ++ zeros (20732 - length (result r))
