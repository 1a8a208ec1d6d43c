-- The associations that operations give out.
use Rattle.std.specs.Prelude.{ℕ, ◌≤◌, ◌<◌, ◌==◌, List, [], ◌∷◌, ◌++◌, if◌then◌else◌}
use Rattle.small_card.specs.Lists.{Every, EveryPair}
use Rattle.small_card.specs.Cards.{EimList}
use Rattle.small_card.specs.EimOperations.{do_eco}
use Rattle.small_card.specs.declared.types.Eco.{Eco}
use Rattle.small_card.specs.declared.types.Item.{Item}
use Rattle.small_card.specs.declared.types.Item.TheVariants as item

-- The association that an operation gives out, by its item: an addition that was done gives one.
unfoldable pub given_by : Item → List ℕ
given_by (item.Add code association) = if code == 0 then association ∷ [] else []
given_by it = []

-- The operations are executed in turn, whatever comes of each.
unfoldable pub after_ops : EimList → List Eco → EimList
after_ops ms [] = ms
after_ops ms (op ∷ ops) = after_ops (do_eco ms op).0 ops

-- The associations that the operations give out, in their order.
unfoldable pub given_out : EimList → List Eco → List ℕ
given_out ms [] = []
given_out ms (op ∷ ops) = given_by (do_eco ms op).1 ++ given_out (do_eco ms op).0 ops

-- Between two next numbers each number given out is new: from the first on, rising, below the second.
pub record AreNew (before after : ℕ) (numbers : List ℕ) : Type 0 where
  pub from : Every (λ n. before ≤ n) numbers
  pub rising : EveryPair (λ m n. m < n) numbers
  pub below : Every (λ n. n < after) numbers
  pub next : before ≤ after
