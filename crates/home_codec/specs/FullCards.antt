-- The full card that a card's parts are.
use Rattle.std.specs.Prelude.{◌≡◌, Option, Some, None, Result, Ok, Err}
use Rattle.iot_bytes.specs.declared.memory.ReadError.{ReadError}
use Rattle.iot_bytes.specs.declared.memory.ReadError.TheVariants.{Malformed, NoMemory}
use Rattle.small_card.specs.Cards.{SmallCard, FullCard}
use Rattle.home_codec.specs.declared.card.Card.{Card}

-- The EID, the profiles, the eIMs and the pending results.
abbrev pub small_card : Card → SmallCard
small_card c = record { eid = c.eid; profiles = c.profiles; eims = c.eims; results = c.store }

-- The same, with what is armed.
abbrev pub full_card : Card → FullCard
full_card c = record { card = small_card c; armed = c.armed }

-- what a reader answers is the card that the octets read as, unless memory ran out
abbrev pub GivesCard : Result Card ReadError → Option FullCard → Type 0
GivesCard (Ok card) read = read ≡ Some (full_card card)
GivesCard (Err Malformed) read = read ≡ None
GivesCard (Err NoMemory) read = Unit {0}
