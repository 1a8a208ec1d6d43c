-- The ranges of messages.
use Rattle.std.specs.Prelude.{ℕ, ◌≤◌, List, length}
use Rattle.std.specs.List.{AllPass}
use Rattle.sgp_der.specs.declared.form.TheConstants.{MOST_CONTENT}
use Rattle.sgp_values.specs.Eids.{IsEid}
use Rattle.sgp_values.specs.Ranges.{is_octet}
use Rattle.small_card.specs.Ranges.{IsNumber, IsRefused, IsResult}
use Rattle.esipa_codec.specs.declared.messages.ToEim.{ToEim}
use Rattle.esipa_codec.specs.declared.messages.ToEim.TheVariants as up
use Rattle.esipa_codec.specs.declared.messages.ToIpa.{ToIpa}
use Rattle.esipa_codec.specs.declared.messages.ToIpa.TheVariants as down

-- A message to an eIM is in range where what it carries is.
unfoldable pub IsToEim : ToEim → Type 0
IsToEim (up.Poll eid) = IsEid eid
IsToEim (up.Result r) = IsResult r
IsToEim (up.Refused f) = IsRefused f

-- A package is any octets, as many as three length octets say.
pub record IsCarried (bytes : List ℕ) : Type 0 where
  pub few : length bytes ≤ MOST_CONTENT
  pub each : AllPass is_octet bytes

-- A message to the assistant is in range where what it carries is.
unfoldable pub IsToIpa : ToIpa → Type 0
IsToIpa (down.Package bytes) = IsCarried bytes
IsToIpa down.Nothing = Unit {0}
IsToIpa (down.Ack seq) = IsNumber seq
