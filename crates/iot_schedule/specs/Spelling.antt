-- How a writer spells each line: lower-case digits, and one space between each two words.
use Rattle.std.specs.Prelude.{ℕ, Bool, true, false, List, [], ◌∷◌, ◌++◌, map, Option, Some, None, if◌then◌else◌, codes}
use Rattle.std.specs.Fmt.{decimal}
use Rattle.iot_bytes.specs.Hexes.{hex}
use Rattle.small_card.specs.declared.types.Profile.{Profile}
use Rattle.small_card.specs.declared.types.Psmo.{Psmo}
use Rattle.small_card.specs.declared.types.Psmo.TheVariants as psmo_op
use Rattle.small_card.specs.declared.types.Eco.{Eco}
use Rattle.small_card.specs.declared.types.Eco.TheVariants as eco_op
use Rattle.small_card.specs.declared.types.Body.{Body}
use Rattle.small_card.specs.declared.types.Body.TheVariants.{Psmos, Ecos}
use Rattle.chip_port.specs.declared.chip.Tear.{Tear}
use Rattle.chip_port.specs.declared.chip.Tear.TheVariants.{Old, New, Half, Junk}
use Rattle.iot_schedule.specs.declared.types.Device.{Device}
use Rattle.iot_schedule.specs.declared.types.Pick.{Pick}
use Rattle.iot_schedule.specs.declared.types.Pick.TheVariants.{At, Last}
use Rattle.iot_schedule.specs.declared.types.Line.{Line}
use Rattle.iot_schedule.specs.declared.types.Line.TheVariants as line
use Rattle.iot_schedule.specs.Words.{spaced, joined}

abbrev pub address_text : List ℕ → List ℕ
address_text address = codes "@" ++ address

abbrev pub key_text : List ℕ → List ℕ
key_text key = codes "#" ++ hex key

abbrev pub sign_text : Bool → List ℕ
sign_text enabled = if enabled then codes "+" else codes "-"

unfoldable pub profile_text : Profile → List ℕ
profile_text p = sign_text p.enabled ++ (hex p.iccid ++ (codes "%" ++ hex p.nickname))

-- a profile behind a space
unfoldable pub profile_entry : Profile → List ℕ
profile_entry p = spaced (profile_text p)

abbrev pub pick_text : Pick → List ℕ
pick_text (At n) = decimal n
pick_text Last = codes "last"

abbrev pub bytes_text : List ℕ → List ℕ
bytes_text [] = codes "-"
bytes_text (b ∷ bs) = hex (b ∷ bs)

abbrev pub tear_text : Tear → List ℕ
tear_text Old = codes "old"
tear_text New = codes "new"
tear_text Half = codes "half"
tear_text Junk = codes "junk"

abbrev pub enable_text : Bool → List ℕ
enable_text rollback = if rollback then codes "enable!:" else codes "enable:"

unfoldable pub psmo_text : Psmo → List ℕ
psmo_text (psmo_op.Enable iccid rollback) = enable_text rollback ++ hex iccid
psmo_text (psmo_op.Disable iccid) = codes "disable:" ++ hex iccid
psmo_text (psmo_op.Delete iccid) = codes "delete:" ++ hex iccid
psmo_text psmo_op.List = codes "list"

unfoldable pub psmo_entry : Psmo → List ℕ
psmo_entry op = spaced (psmo_text op)

abbrev pub optional_text : (List ℕ → List ℕ) → Option (List ℕ) → List ℕ
optional_text text None = []
optional_text text (Some x) = text x

unfoldable pub eco_text : Eco → List ℕ
eco_text (eco_op.Add id address key) = codes "add:" ++ (id ++ (address_text address ++ key_text key))
eco_text (eco_op.Update id address key) = codes "update:" ++ (id ++ (optional_text address_text address ++ optional_text key_text key))
eco_text (eco_op.Delete id) = codes "drop:" ++ id
eco_text eco_op.List = codes "eims"

unfoldable pub eco_entry : Eco → List ℕ
eco_entry op = spaced (eco_text op)

-- the words of a package's operations
unfoldable pub body_words : Body → List (List ℕ)
body_words (Psmos ops) = map psmo_text ops
body_words (Ecos ops) = map eco_text ops

-- the words of the first line
unfoldable pub device_words : Device → List (List ℕ)
device_words d = codes "device" ∷ hex d.eid ∷ map profile_text d.profiles

abbrev pub verdict_words : Bool → List (List ℕ)
verdict_words true = []
verdict_words false = codes "bad" ∷ []

abbrev pub good_text : Bool → List ℕ
good_text good = if good then codes "good" else codes "bad"

abbrev pub probe_text : Bool → List ℕ
probe_text passed = if passed then codes "ok" else codes "fail"

-- the words of each other line
unfoldable pub step_words : Line → List (List ℕ)
step_words (line.Eim id) = codes "eim" ∷ id ∷ []
step_words (line.Initial id address key) = codes "initial" ∷ id ∷ address_text address ∷ key_text key ∷ []
step_words (line.Bind id association last) = codes "bind" ∷ id ∷ decimal association ∷ decimal last ∷ []
step_words (line.Order id operations) = codes "order" ∷ id ∷ body_words operations
step_words (line.Skip id) = codes "skip" ∷ id ∷ []
step_words (line.Poll id) = codes "poll" ∷ id ∷ []
step_words (line.Up pick) = codes "up" ∷ pick_text pick ∷ []
step_words (line.Down pick good) = codes "down" ∷ pick_text pick ∷ verdict_words good
step_words (line.Load good bytes) = codes "load" ∷ good_text good ∷ bytes_text bytes ∷ []
step_words line.Push = codes "push" ∷ []
step_words (line.Probe passed) = codes "probe" ∷ probe_text passed ∷ []
step_words line.Rollback = codes "rollback" ∷ []
step_words line.Restart = codes "restart" ∷ []
step_words (line.Cut calls tear) = codes "cut" ∷ decimal calls ∷ tear_text tear ∷ []
step_words line.Boot = codes "boot" ∷ []
step_words line.Show = codes "show" ∷ []
step_words (line.Kept id) = codes "kept" ∷ id ∷ []
step_words (line.Detach at) = codes "detach" ∷ decimal at ∷ []
step_words line.Modems = codes "modems" ∷ []

-- the text of the first line, and of each other one
unfoldable pub device_text : Device → List ℕ
device_text d = joined (device_words d)

unfoldable pub step_text : Line → List ℕ
step_text l = joined (step_words l)
