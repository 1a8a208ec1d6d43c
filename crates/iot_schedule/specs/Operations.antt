-- The operations that an order names, one word each, all of one kind.
use Rattle.std.specs.Prelude.{ℕ, true, false, List, [], ◌∷◌, is_some, Option, Some, None, if◌then◌else◌, codes}
use Rattle.sgp_der.specs.Fields.{◌>>=◌}
use Rattle.sgp_values.specs.Reading.{eim_id_of, address_of}
use Rattle.small_card.specs.Lists.{same}
use Rattle.small_card.specs.declared.types.Psmo.{Psmo}
use Rattle.small_card.specs.declared.types.Psmo.TheVariants as psmo_op
use Rattle.small_card.specs.declared.types.Eco.{Eco}
use Rattle.small_card.specs.declared.types.Eco.TheVariants as eco_op
use Rattle.small_card.specs.declared.types.Body.{Body}
use Rattle.small_card.specs.declared.types.Body.TheVariants.{Psmos, Ecos}
use Rattle.iot_schedule.specs.Words.{list_of}
use Rattle.iot_schedule.specs.Tokens.{before, behind, iccid_word, key_digits}

-- an operation on the profile of an ICCID
unfoldable pub psmo_named : List ℕ → List ℕ → Option Psmo
psmo_named name iccid =
    if same name (codes "enable") then Some (psmo_op.Enable iccid false)
    else if same name (codes "enable!") then Some (psmo_op.Enable iccid true)
    else if same name (codes "disable") then Some (psmo_op.Disable iccid)
    else if same name (codes "delete") then Some (psmo_op.Delete iccid)
    else None

-- an operation on profiles: `list`, or a name, ':' and an ICCID
unfoldable pub psmo_word : List ℕ → Option Psmo
psmo_word token =
    if same token (codes "list") then Some psmo_op.List
    else do
      digits ← behind 58 token
      iccid ← iccid_word digits
      psmo_named (before 58 token) iccid

-- a part that may be left out, read where it is there
abbrev pub optional_of : {X : Type 0} → (List ℕ → Option X) → Option (List ℕ) → Option (Option X)
optional_of of None = Some None
optional_of of (Some text) = do
  x ← of text
  Some (Some x)

-- an eIM to be added: its identifier, '@' and its address, '#' and its key
unfoldable pub add_of : List ℕ → Option Eco
add_of text = do
  digits ← behind 35 text
  address ← behind 64 (before 35 text)
  i ← eim_id_of (before 64 (before 35 text))
  a ← address_of address
  k ← key_digits digits
  Some (eco_op.Add i a k)

-- an eIM to be updated: its identifier, and the address, the key, both or none
unfoldable pub update_of : List ℕ → Option Eco
update_of text = do
  i ← eim_id_of (before 64 (before 35 text))
  a ← optional_of address_of (behind 64 (before 35 text))
  k ← optional_of key_digits (behind 35 text)
  Some (eco_op.Update i a k)

-- an eIM to be deleted
unfoldable pub drop_of : List ℕ → Option Eco
drop_of text = do
  i ← eim_id_of text
  Some (eco_op.Delete i)

-- an operation on an eIM
unfoldable pub eco_named : List ℕ → List ℕ → Option Eco
eco_named name text =
    if same name (codes "add") then add_of text
    else if same name (codes "update") then update_of text
    else if same name (codes "drop") then drop_of text
    else None

-- an operation on eIMs: `eims`, or a name, ':' and what it is about
unfoldable pub eco_word : List ℕ → Option Eco
eco_word token =
    if same token (codes "eims") then Some eco_op.List
    else do
      text ← behind 58 token
      eco_named (before 58 token) text

-- operations on profiles, at most 8
unfoldable pub psmos_of : List (List ℕ) → Option Body
psmos_of ws = do
  ops ← list_of psmo_word 8 ws
  Some (Psmos ops)

-- operations on eIMs, at most 8
unfoldable pub ecos_of : List (List ℕ) → Option Body
ecos_of ws = do
  ops ← list_of eco_word 8 ws
  Some (Ecos ops)

-- a package's operations, at least one, and all of the kind of the first
unfoldable pub body_of : List (List ℕ) → Option Body
body_of [] = None
body_of (w ∷ ws) = if is_some (psmo_word w) then psmos_of (w ∷ ws) else ecos_of (w ∷ ws)
