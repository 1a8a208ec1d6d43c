-- Reading results, the lists in them, and refusals, from left to right.
use Rattle.std.specs.Prelude.{ℕ, ◌==◌, ◌&&◌, ◌||◌, Bool, List, Option, Some, None, if◌then◌else◌}
use Rattle.sgp_der.specs.Fields.{◌>>=◌, field_at, ended}
use Rattle.sgp_values.specs.Reading.{iccid_of, eim_id_of, address_of, nickname_of}
use Rattle.sgp_fields.specs.Values.{only_if, flag_of, number_of}
use Rattle.sgp_fields.specs.Fields.{value_at, last_at, last_mark_at}
use Rattle.sgp_fields.specs.Elements.{tagged_as}
use Rattle.sgp_fields.specs.Alone.{made_of, number_alone_of}
use Rattle.sgp_fields.specs.Lists.{list_at, some_of}
use Rattle.small_card.specs.Ranges.{greatest_counter}
use Rattle.small_card.specs.Pairs.{each_pair, are_profiles_apart, are_lines_apart}
use Rattle.small_card.specs.declared.types.Profile.{Profile}
use Rattle.small_card.specs.declared.types.EimLine.{EimLine}
use Rattle.small_card.specs.declared.types.Item.{Item}
use Rattle.small_card.specs.declared.types.Item.TheVariants as done
use Rattle.small_card.specs.declared.types.PackageResult.{PackageResult}
use Rattle.small_card.specs.declared.types.Refused.{Refused}

-- the profile whose fields the content is
unfoldable pub profile_fields : List ℕ → Option Profile
profile_fields content = do
  iccid ← value_at iccid_of 0x80 content
  enabled ← value_at flag_of 0x81 iccid.1
  nickname ← last_at nickname_of 0x82 enabled.1
  Some (record { iccid = iccid.0; enabled = enabled.0; nickname = nickname })

-- the profile that a tag and a content are
abbrev pub profile_of : ℕ → List ℕ → Option Profile
profile_of tag content = tagged_as 0x30 profile_fields tag content

-- the table of profiles that the content is
unfoldable pub profiles_at : List ℕ → Option (List Profile)
profiles_at content = do
  rows ← list_at profile_of 16 content
  only_if (each_pair are_profiles_apart rows) rows

-- the line whose fields the content is
unfoldable pub eim_line_fields : List ℕ → Option EimLine
eim_line_fields content = do
  id ← value_at eim_id_of 0x80 content
  address ← value_at address_of 0x81 id.1
  association ← value_at (number_of 1 4294967295) 0x82 address.1
  counter ← last_at (number_of 0 greatest_counter) 0x83 association.1
  Some (record { id = id.0; address = address.0; association = association.0; counter = counter })

-- the line that a tag and a content are
abbrev pub eim_line_of : ℕ → List ℕ → Option EimLine
eim_line_of tag content = tagged_as 0x30 eim_line_fields tag content

-- the eIM list that the content is
unfoldable pub eim_lines_at : List ℕ → Option (List EimLine)
eim_lines_at content = do
  rows ← list_at eim_line_of 8 content
  only_if (each_pair are_lines_apart rows) rows

-- an add that was done, with its association
unfoldable pub done_at : List ℕ → Option Item
done_at rest = do
  association ← last_at (number_of 1 4294967295) 0x81 rest
  Some (done.Add 0 association)

-- an add that wasn't done has no association
unfoldable pub not_done_at : ℕ → List ℕ → Option Item
not_done_at code rest = do
  end ← ended rest
  Some (done.Add code 0)

-- what came of an add
unfoldable pub add_at : List ℕ → Option Item
add_at content = do
  code ← value_at (number_of 0 3) 0x80 content
  if code.0 == 0 then done_at code.1 else not_done_at code.0 code.1

-- the item that a tag and a content are: where it has a code, the greatest stands in its line
unfoldable pub item_of : ℕ → List ℕ → Option Item
item_of tag content =
    if tag == 0xa0 then made_of (number_alone_of 0 2) done.Enable content
    else if tag == 0xa1 then made_of (number_alone_of 0 2) done.Disable content
    else if tag == 0xa2 then made_of (number_alone_of 0 3) done.Delete content
    else if tag == 0xa3 then made_of profiles_at done.Profiles content
    else if tag == 0xa8 then add_at content
    else if tag == 0xa9 then made_of (number_alone_of 0 1) done.Update content
    else if tag == 0xaa then made_of (number_alone_of 0 2) done.Dropped content
    else if tag == 0xab then made_of eim_lines_at done.Eims content
    else None

-- the items that the content is, from 1 to 8
unfoldable pub items_at : List ℕ → Option (List Item)
items_at content = do
  rows ← list_at item_of 8 content
  some_of rows

-- the result whose fields the content is
unfoldable pub result_of : List ℕ → Option PackageResult
result_of content = do
  seq ← value_at (number_of 1 4294967295) 0x80 content
  eim ← value_at eim_id_of 0x81 seq.1
  association ← value_at (number_of 1 4294967295) 0x82 eim.1
  counter ← value_at (number_of 1 greatest_counter) 0x83 association.1
  field ← field_at 0xa4 counter.1
  rows ← items_at field.content
  rolled ← last_mark_at 0x85 field.rest
  Some (record { seq = seq.0; eim = eim.0; association = association.0; counter = counter.0; items = rows; rolled = rolled })

-- the result that the bytes spell
unfoldable pub result_at : List ℕ → Option PackageResult
result_at bytes = last_at result_of 0x30 bytes

-- a refusal may carry counters only where it is a replay
abbrev pub may_carry : ℕ → ℕ → ℕ → Bool
may_carry code kept received = code == 6 || (kept == 0 && received == 0)

-- the refusal whose fields the content is
unfoldable pub refusal_of : List ℕ → Option Refused
refusal_of content = do
  code ← value_at (number_of 1 8) 0x80 content
  kept ← value_at (number_of 0 greatest_counter) 0x81 code.1
  received ← last_at (number_of 0 greatest_counter) 0x82 kept.1
  only_if (may_carry code.0 kept.0 received) (record { code = code.0; kept = kept.0; received = received })
