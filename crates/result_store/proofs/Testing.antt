-- The test of a store's results is exact.
use Rattle.std.proofs.Common.{◌≡◌, ◌≤◌, true}
use Rattle.std.specs.Prelude.{◌↔◌}
use Rattle.small_card.specs.Lists.{Every}
use Rattle.small_card.specs.Cards.{Results}
use Rattle.small_card.specs.Numbered.{IsGiven}
use Rattle.small_card.specs.Ranges.{IsResult}
use Rattle.small_card.specs.Valid.{IsPending, AreResults}
use Rattle.small_card.specs.declared.limits.TheConstants.{MOST_PENDING}
use Rattle.small_card.proofs.ListLemmas.{every_mono, every_both}
use Rattle.small_card.proofs.NumberTests.{numbered_exactly}
use Rattle.small_card.proofs.PairTests.{rising_pairs}
use Rattle.result_store.specs.Stores.{IsStore, is_store}

-- the test says exactly whether the results may stand in a store
pub tested_exactly : (rs : Results) → rs.next ≤ 4294967295 → (is_store rs ≡ true) ↔ IsStore rs
unfolding is_store
tested_exactly rs fits = numbered_exactly rising_pairs MOST_PENDING (λ r. r.seq) rs.next rs.pending fits

pub valid_ranges : (rs : Results) → AreResults rs → Every IsResult rs.pending
valid_ranges rs h = every_mono (IsPending rs.next) IsResult (λ r p. p.result) rs.pending h.each

pub store_valid : (rs : Results) → IsStore rs → Every IsResult rs.pending → AreResults rs
store_valid rs h k = record {
  few = h.few;
  each = every_both (λ r. IsGiven rs.next r.seq) IsResult (IsPending rs.next) (λ r g f. record { result = f; given = g.given }) rs.pending h.each k;
  rising = h.pairs;
  next = h.next;
}
