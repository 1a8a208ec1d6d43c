-- What an addition says to the package that asked for it.
use Rattle.small_card.specs.declared.types.Item.{Item}
use Rattle.small_card.specs.declared.types.Item.TheVariants as item
use Rattle.eim_table.specs.declared.table.AddEnd.{AddEnd}
use Rattle.eim_table.specs.declared.table.AddEnd.TheVariants.{Added, Refused}

-- The item of an addition has the association that was given out, or the code of the refusal.
unfoldable pub item_of : AddEnd → Item
item_of (Added association) = item.Add 0 association
item_of (Refused code) = item.Add code 0
