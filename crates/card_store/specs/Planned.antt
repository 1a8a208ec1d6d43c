-- What the fields of a staged unit stand for.
use Rattle.home_codec.specs.FullCards.{full_card}
use Rattle.card_store.specs.Staging.{Plan, IsPlan}
use Rattle.card_store.specs.declared.staging.Staged.TheInside.{Inside}

-- the blocks, their octets and the card that they make
abbrev pub plan_of : Inside → Plan
plan_of s = record { blocks = s.blocks; octets = s.octets; card = full_card s.card }

abbrev pub IsStaged : Inside → Type 0
IsStaged s = IsPlan (plan_of s)
