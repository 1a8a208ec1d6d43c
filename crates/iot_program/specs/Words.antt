-- The words of the command line.
use Rattle.std.specs.Prelude.{ℕ, ◌≤◌, ◌==◌, ◌&&◌, not, List, [], ◌∷◌, length, codes, if◌then◌else◌, Option, Some, None}
use Rattle.hex.specs.Hex.{decode_sized}
use Rattle.sgp_der.specs.Fields.{◌>>=◌}
use Rattle.sgp_values.specs.Reading.{eid_of, eim_id_of}
use Rattle.small_card.specs.Lists.{same}
use Rattle.iot_schedule.specs.Tokens.{number_of, octets_of}
use Rattle.iot_program.specs.declared.words.Form.{Form}
use Rattle.iot_program.specs.declared.words.Form.TheVariants.{Card, Eim, Ipa, Check, Gen, Replay, Demo}

-- an EID: 32 hexadecimal digits of either case
abbrev pub eid_word : List ℕ → Option (List ℕ)
eid_word word = do
  octets ← octets_of (decode_sized word 16)
  eid_of octets

-- an EID is all that an assistant needs
abbrev pub ipa_form : List ℕ → Option Form
ipa_form eid = do
  card ← eid_word eid
  Some (Ipa card)

-- a manager's identifier, and the EID of its card
abbrev pub eim_form : List ℕ → List ℕ → Option Form
eim_form id eid = do
  eim ← eim_id_of id
  card ← eid_word eid
  Some (Eim eim card)

-- a start below 2^31, and 1 to 100,000 lines, as decimals without needless zeros
abbrev pub generated_of : List ℕ → List ℕ → Option (ℕ × ℕ)
generated_of first count = do
  start ← number_of 0 2147483647 first
  lines ← number_of 1 100000 count
  Some (start, lines)

abbrev pub gen_form : List ℕ → List ℕ → Option Form
gen_form first count = do
  numbers ← generated_of first count
  Some (Gen numbers.0 numbers.1)

abbrev pub demo_form : List ℕ → List ℕ → Option Form
demo_form first count = do
  numbers ← generated_of first count
  Some (Demo numbers.0 numbers.1)

-- the form of three words
abbrev pub form_of_three : List ℕ → List ℕ → List ℕ → Option Form
form_of_three word second third =
    if same word (codes "eim") then eim_form second third
    else if same word (codes "gen") then gen_form second third
    else if same word (codes "demo") then demo_form second third
    else None

-- the numbers of a generated schedule are in their ranges
abbrev pub AreGenerated : ℕ × ℕ → Type 0
AreGenerated numbers = (numbers.0 ≤ 2147483647) × ((1 ≤ numbers.1) × (numbers.1 ≤ 100000))

abbrev pub IsForm : Form → Type 0
IsForm (Gen start lines) = AreGenerated (start, lines)
IsForm (Demo start lines) = AreGenerated (start, lines)
IsForm other = Unit {0}

-- the form that the words have: `card PATH`, where PATH is any text but the empty one, `ipa EID`,
-- `eim ID EID`, `check`, `gen START LINES`, `replay` or `demo START LINES`
unfoldable pub form_of : List (List ℕ) → Option Form
form_of (word ∷ []) =
    if same word (codes "check") then Some Check
    else if same word (codes "replay") then Some Replay
    else None
form_of (word ∷ other ∷ []) =
    if same word (codes "card") && not (length other == 0) then Some Card
    else if same word (codes "ipa") then ipa_form other
    else None
form_of (word ∷ second ∷ third ∷ []) = form_of_three word second third
form_of words = None
