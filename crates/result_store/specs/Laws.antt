-- What it means that results are kept, and that numbers rise.
use Rattle.std.specs.Prelude.{ℕ, ◌≡◌, ◌≤◌, ◌<◌, ◌⊎◌, true, List, [], ◌∷◌, ◌++◌, Some, Contains}
use Rattle.small_card.specs.Cards.{Results}
use Rattle.small_card.specs.Lists.{Every, EveryPair}
use Rattle.small_card.specs.declared.types.Item.{Item}
use Rattle.small_card.specs.declared.types.PackageResult.{PackageResult}
use Rattle.result_store.specs.Calls.{Call, put, remove, after_calls, stands, given_out}
use Rattle.result_store.specs.Stores.{numbered}

-- A result is as it was, or it is marked and has a later number; its content is the same.
pub record IsSameResult (r q : PackageResult) : Type 0 where
  pub eim : q.eim ≡ r.eim
  pub association : q.association ≡ r.association
  pub counter : q.counter ≡ r.counter
  pub items : q.items ≡ r.items
  pub mark : (q ≡ r) ⊎ ((q.rolled ≡ true) × (r.seq < q.seq))

-- One of the calls removed the result, by the number that it had then.
pub record WasRemoved (rs : Results) (cs : List Call) (r : PackageResult) : Type 0 where
  pub before : List Call
  pub later : List Call
  pub last : PackageResult
  pub calls : cs ≡ before ++ remove last.seq ∷ later
  pub stood : stands rs before (Some r) ≡ Some last

-- A result was pending before the calls, and they left it.
pub record WasPending (rs : Results) (cs : List Call) (q : PackageResult) : Type 0 where
  pub first : PackageResult
  pub pending : Contains rs.pending first
  pub stood : stands rs cs (Some first) ≡ Some q

-- A result was put by one of the calls, and the later ones left it.
pub record WasPut (rs : Results) (cs : List Call) (q : PackageResult) : Type 0 where
  pub before : List Call
  pub later : List Call
  pub eim : List ℕ
  pub association : ℕ
  pub counter : ℕ
  pub items : List Item
  pub calls : cs ≡ before ++ put eim association counter items ∷ later
  pub stood : stands (after_calls rs (before ++ put eim association counter items ∷ [])) later (Some (numbered (after_calls rs before).next eim association counter items)) ≡ Some q

-- A pending result was pending before the calls, or was put by one of them.
abbrev pub ComesFrom : Results → List Call → PackageResult → Type 0
ComesFrom rs cs q = WasPending rs cs q ⊎ WasPut rs cs q

-- One number is below another.
abbrev pub IsLess : ℕ → ℕ → Type 0
IsLess m n = m < n

-- The numbers given out rise, none was given out before, and the next number is above each.
pub record NumbersRise (rs : Results) (cs : List Call) : Type 0 where
  pub rising : EveryPair IsLess (given_out rs cs)
  pub new : Every (λ n. rs.next ≤ n) (given_out rs cs)
  pub below : Every (λ n. n < (after_calls rs cs).next) (given_out rs cs)
  pub next : rs.next ≤ (after_calls rs cs).next
