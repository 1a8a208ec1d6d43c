-- How a line ends.
use Rattle.world_network.specs.declared.mail.SendEnd.{SendEnd}
use Rattle.world_network.specs.declared.mail.SendEnd.TheVariants as send
use Rattle.iot_world.specs.declared.ends.Halt.{Halt}
use Rattle.iot_world.specs.declared.ends.Halt.TheVariants as halt

abbrev pub of_send : SendEnd → Halt
of_send send.Limit = halt.Limit
of_send send.NoMemory = halt.NoMemory
