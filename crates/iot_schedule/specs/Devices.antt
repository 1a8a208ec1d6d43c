-- The first line of a schedule.
use Rattle.std.specs.Prelude.{ℕ, List, [], ◌∷◌, Option, None, if◌then◌else◌, codes}
use Rattle.sgp_der.specs.Fields.{◌>>=◌}
use Rattle.sgp_fields.specs.Values.{only_if}
use Rattle.small_card.specs.Lists.{same}
use Rattle.small_card.specs.Pairs.{each_pair, are_profiles_apart}
use Rattle.iot_schedule.specs.declared.types.Device.{Device}
use Rattle.iot_schedule.specs.Words.{words, word_at, list_of}
use Rattle.iot_schedule.specs.Tokens.{eid_word, profile_word}

-- an EID, and at most 16 profiles with distinct ICCIDs, of which at most one is enabled
unfoldable pub device_of : List (List ℕ) → Option Device
device_of ws = do
  eid ← word_at eid_word ws
  profiles ← list_of profile_word 16 eid.1
  only_if (each_pair are_profiles_apart profiles) (record { eid = eid.0; profiles = profiles })

-- the keyword `device` before it
unfoldable pub device_line : List (List ℕ) → Option Device
device_line [] = None
device_line (name ∷ ws) = if same name (codes "device") then device_of ws else None

-- the device that a text spells
unfoldable pub device_at : List ℕ → Option Device
device_at text = device_line (words text)
