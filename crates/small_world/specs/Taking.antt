-- A package that a line hands to the card, and what its text begins with.
use Rattle.std.specs.Prelude.{◌≡◌, ℕ, Bool, List, ◌++◌, Some, codes}
use Rattle.small_card.specs.declared.types.Command.TheVariants as command
use Rattle.small_card.specs.declared.types.Package.{Package}
use Rattle.small_card.specs.declared.types.Signed.{Signed}
use Rattle.iot_schedule.specs.declared.types.Line.{Line}
use Rattle.package_codec.specs.Reading.{signed_at}
use Rattle.small_world.specs.Runs.{given}
use Rattle.small_world.specs.Worlds.{SmallWorld}

-- The line hands these octets to the card, with this verdict on their signature.
abbrev pub Hands : SmallWorld → Line → Bool → List ℕ → Type 0
Hands w l good bytes = given w l ≡ Some (command.Load good bytes)

-- The text begins with `loaded`.
abbrev pub SaysLoaded : List ℕ → Type 0
SaysLoaded text = (rest : List ℕ) × (text ≡ codes "loaded " ++ rest)

-- The octets spell a signed package of these values.
abbrev pub Carries : List ℕ → Package → Type 0
Carries bytes p = (s : Signed) × (signed_at bytes ≡ Some s) × (s.«package» ≡ p)
