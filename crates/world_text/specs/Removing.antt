-- What a command says of a result.
use Rattle.std.specs.Prelude.{ℕ, Option, Some, None}
use Rattle.small_card.specs.declared.types.Command.{Command}
use Rattle.small_card.specs.declared.types.Command.TheVariants as command

-- the number of the result that a command removes
abbrev pub removed_by : Command → Option ℕ
removed_by (command.Remove seq) = Some seq
removed_by c = None
