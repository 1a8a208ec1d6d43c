-- What a source's octets and a buffer are after the buffer was filled.
use Rattle.std.specs.Prelude.{◌≡◌, ℕ, ◌<◌, ◌≤◌, List, [], length, take, drop, Option, Some}
use Rattle.iot_bytes.specs.declared.frame.FillEnd.{FillEnd}
use Rattle.iot_bytes.specs.declared.frame.FillEnd.TheVariants.{Full, Ended, Fault}
use Rattle.iot_bytes.specs.Frames.{IsLeftShort}

-- the buffer has the front of the octets, or the octets ended inside it, or the source failed inside it
abbrev pub Fills : List ℕ → List ℕ → Option (List ℕ) → FillEnd → Type 0
Fills bytes out left Full = (length out ≤ length bytes) × (out ≡ take (length out) bytes) × (left ≡ Some (drop (length out) bytes))
Fills bytes out left (Ended n) = (n < length out) × (n ≡ length bytes) × (left ≡ Some [])
Fills bytes out left Fault = IsLeftShort bytes left (length out)
