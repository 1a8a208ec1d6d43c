-- Where the item of each association and counter stands in a list.
use Rattle.std.specs.Prelude.{◌≡◌, ℕ, ◌==◌, ◌&&◌, Bool, List, Option, None, Some, false, slice_get}
use Rattle.std.specs.declared.cmp.Ordering.{Ordering}
use Rattle.std.specs.Ordering.{nat_cmp, ordering_then}
use Rattle.std.specs.BTreeMap.{BTreeMap, get}
use Rattle.esipa_codec.specs.Records.{Key}

-- The key is of this association and counter.
abbrev pub is_key : ℕ → ℕ → Key → Bool
is_key association counter k = k.0 == association && k.1 == counter

-- Keys are told apart by their associations, and then by their counters.
abbrev pub key_cmp : Key → Key → Ordering
key_cmp j k = ordering_then (nat_cmp j.0 k.0) (nat_cmp j.1 k.1)

-- The place that is kept for a key.
abbrev pub place_in : BTreeMap Key ℕ → Key → Option ℕ
place_in places k = get key_cmp places k

-- Each key of the list has the place at which it stands. A place may be kept for other keys too.
abbrev pub ArePlaces : BTreeMap Key ℕ → List Key → Type 0
ArePlaces places ks = (at : ℕ) (k : Key) → slice_get ks at ≡ Some k → place_in places k ≡ Some at

-- Something is there, and passes the test.
abbrev pub some_passes : {X : Type 0} → (X → Bool) → Option X → Bool
some_passes test None = false
some_passes test (Some x) = test x
