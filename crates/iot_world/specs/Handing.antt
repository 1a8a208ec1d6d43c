-- A package comes to the card without a message to the assistant.
use Rattle.std.specs.Prelude.{◌≡◌, ℕ, Bool, true, false, List, ◌++◌, Result, Ok, Err}
use Rattle.small_card.specs.declared.types.Answer.{Answer}
use Rattle.small_card.specs.declared.types.Answer.TheVariants as answer
use Rattle.small_card.specs.declared.types.Command.{Command}
use Rattle.small_world.specs.Lines.{told_loaded}
use Rattle.small_world.specs.Texts.{said}
use Rattle.small_world.specs.Worlds.{SmallWorld}
use Rattle.world_network.specs.Networks.{Parts, IsNetwork}
use Rattle.iot_world.specs.declared.ends.Halt.{Halt}
use Rattle.iot_world.specs.declared.ends.Halt.TheVariants.{Limit, Foreign, NoMemory}

-- the card took the package
unfoldable pub is_loaded : Answer → Bool
is_loaded (answer.Loaded r) = true
is_loaded a = false

-- the answer was printed, and the assistant heard that a package was taken
pub record IsHanded (w : SmallWorld) (c : Command) (a : Answer) (now : Parts) (before out : List ℕ) : Type 0 where
  pub says : out ≡ before ++ said c a
  pub network : IsNetwork now (told_loaded a w)

-- no message is sent for it, so none passes the limit
abbrev pub Hands : SmallWorld → Command → Answer → Result (Unit {0}) Halt → Parts → List ℕ → List ℕ → Type 0
Hands w c a (Ok done) now before out = IsHanded w c a now before out
Hands w c a (Err Limit) now before out = ⊥
Hands w c a (Err Foreign) now before out = ⊥
Hands w c a (Err NoMemory) now before out = Unit {0}
