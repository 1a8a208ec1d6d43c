use Rattle.small_card.proofs.PairTests.{pairs_both, profile_pairs, line_pairs, entry_pairs, rising_pairs}
use Rattle.small_card.proofs.laws.pairs_are_tested.Goals as goal

pub returns : goal.returns
returns c = record {
  profiles = pairs_both profile_pairs;
  lines = pairs_both line_pairs;
  entries = pairs_both entry_pairs;
  results = pairs_both rising_pairs;
}
