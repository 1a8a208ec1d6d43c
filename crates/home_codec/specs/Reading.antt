-- Reading a home from left to right.
use Rattle.std.specs.Prelude.{ℕ, ◌==◌, ◌&&◌, nat_le, Bool, true, List, take, Option, Some, None, if◌then◌else◌}
use Rattle.std.specs.List.{list_all}
use Rattle.sgp_der.specs.Fields.{◌>>=◌, ended}
use Rattle.sgp_values.specs.Reading.{iccid_of, eid_of, eim_id_of, address_of, key_of, nickname_of}
use Rattle.sgp_fields.specs.Values.{only_if, flag_of_number}
use Rattle.small_card.specs.Cards.{FullCard, Results}
use Rattle.small_card.specs.Pairs.{each_pair, are_profiles_apart}
use Rattle.small_card.specs.Profiles.{has_profile}
use Rattle.small_card.specs.Ranges.{greatest_counter}
use Rattle.small_card.specs.Valid.{is_unmarked}
use Rattle.small_card.specs.declared.types.Profile.{Profile}
use Rattle.small_card.specs.declared.types.EimEntry.{EimEntry}
use Rattle.small_card.specs.declared.types.PackageResult.{PackageResult}
use Rattle.small_card.specs.declared.types.Armed.{Armed}
use Rattle.eim_table.specs.Entries.{are_eims}
use Rattle.result_store.specs.Stores.{is_store}
use Rattle.result_codec.specs.Reading.{result_at}
use Rattle.home_codec.specs.declared.head.Head.{Head}
use Rattle.home_codec.specs.Fixed.{octet_at, fixed_at, blank_at, word_at, long_at, text_at, many_at, slots_at}
use Rattle.home_codec.specs.Layout.{version}
use Rattle.home_codec.specs.Ordering.{somes, in_order}

unfoldable pub armed_fields : List ℕ → Option (Option Armed × List ℕ)
armed_fields bytes = do
  former ← fixed_at iccid_of 10 bytes
  seq ← word_at former.1
  Some (Some (record { former = former.0; seq = seq.0 }), seq.1)

unfoldable pub not_armed : List ℕ → Option (Option Armed × List ℕ)
not_armed bytes = do
  rest ← blank_at 14 bytes
  Some (None, rest)

-- what is armed
unfoldable pub armed_at : List ℕ → Option (Option Armed × List ℕ)
armed_at bytes = do
  flag ← octet_at bytes
  if flag.0 == 1 then armed_fields flag.1 else if flag.0 == 0 then not_armed flag.1 else None

-- behind the version
unfoldable pub head_fields : List ℕ → Option (Head × List ℕ)
head_fields bytes = do
  eid ← fixed_at eid_of 16 bytes
  profiles ← octet_at eid.1
  eims ← octet_at profiles.1
  association ← word_at eims.1
  seq ← word_at association.1
  armed ← armed_at seq.1
  rest ← blank_at 214 armed.1
  Some (
    record {
      eid = eid.0;
      profiles = profiles.0;
      eims = eims.0;
      association = association.0;
      seq = seq.0;
      armed = armed.0;
    },
    rest,
  )

unfoldable pub head_at : List ℕ → Option (Head × List ℕ)
head_at bytes = do
  first ← octet_at bytes
  rest ← only_if (first.0 == version) first.1
  head_fields rest

-- the state of a profile
unfoldable pub state_at : List ℕ → Option (Bool × List ℕ)
state_at bytes = do
  octet ← octet_at bytes
  enabled ← flag_of_number octet.0
  Some (enabled, octet.1)

unfoldable pub profile_at : List ℕ → Option (Profile × List ℕ)
profile_at bytes = do
  iccid ← fixed_at iccid_of 10 bytes
  enabled ← state_at iccid.1
  nickname ← text_at nickname_of 64 enabled.1
  rest ← blank_at 52 nickname.1
  Some (record { iccid = iccid.0; enabled = enabled.0; nickname = nickname.0 }, rest)

unfoldable pub eim_at : List ℕ → Option (EimEntry × List ℕ)
eim_at bytes = do
  id ← text_at eim_id_of 128 bytes
  address ← text_at address_of 128 id.1
  key ← text_at key_of 128 address.1
  counter ← long_at key.1
  association ← word_at counter.1
  rest ← blank_at 113 association.1
  Some (
    record {
      id = id.0;
      address = address.0;
      key = key.0;
      counter = counter.0;
      association = association.0;
    },
    rest,
  )

-- the result of this length at the front of what follows
unfoldable pub held_in : ℕ → List ℕ → Option (Option PackageResult)
held_in len bytes =
    if len == 0 then Some None
    else if nat_le len 18309 then (result_at (take len bytes) >>= λ r. Some (Some r)) else None

-- what a slot holds
unfoldable pub slot_of : List ℕ → Option (Option PackageResult)
slot_of slot = do
  len ← word_at slot
  held_in len.0 len.1

-- the results in 8 slots, by rising numbers
unfoldable pub results_at : List ℕ → Option (List PackageResult)
results_at bytes = do
  places ← many_at (fixed_at slot_of 20736) 8 bytes
  end ← ended places.1
  Some (in_order (somes places.0))

-- the counter is in its range
abbrev pub is_counted : EimEntry → Bool
is_counted e = nat_le e.counter greatest_counter

-- what is armed is on the card
abbrev pub is_armed : List Profile → Results → Option Armed → Bool
is_armed profiles rs None = true
is_armed profiles rs (Some a) =
    has_profile a.former profiles && is_unmarked a.seq rs.pending && nat_le rs.next 4294967294

-- the parts of a card fit together
unfoldable pub fits_together : FullCard → Bool
fits_together f =
    each_pair are_profiles_apart f.card.profiles
    && (are_eims f.card.eims && is_store f.card.results
    && list_all is_counted f.card.eims.entries
    && is_armed f.card.profiles f.card.results f.armed)

-- the card of these parts, where they fit together
abbrev pub card_of_parts : Head → List Profile → List EimEntry → List PackageResult → FullCard
card_of_parts h profiles eims pending = record {
  card = record {
    eid = h.eid;
    profiles = profiles;
    eims = record { entries = eims; next = h.association };
    results = record { pending = pending; next = h.seq };
  };
  armed = h.armed;
}

abbrev pub whole : FullCard → Option FullCard
whole f = only_if (fits_together f) f

-- the card whose home this is
unfoldable pub card_at : List ℕ → Option FullCard
card_at home = do
  h ← head_at home
  profiles ← slots_at profile_at 128 16 h.0.profiles h.1
  eims ← slots_at eim_at 512 8 h.0.eims profiles.1
  pending ← results_at eims.1
  whole (card_of_parts h.0 profiles.0 eims.0 pending)
