-- Numbers that are given out only rise.
use Rattle.std.proofs.Common.{ℕ, ◌+◌, ◌≤◌, ◌<◌, List, [], ◌∷◌, arith}
use Rattle.small_card.specs.Lists.{Every, EveryPair}
use Rattle.small_card.specs.Cards.{Results}
use Rattle.small_card.specs.Packages.{with_result}
use Rattle.small_card.specs.Units.{without_result, marked}
use Rattle.small_card.proofs.ListLemmas.{every_mono}
use Rattle.result_store.specs.Stores.{passed}
use Rattle.result_store.specs.Calls.{Call, put, remove, mark_rolled, pass_number, after_call, after_calls, gives_out, given_out}
use Rattle.result_store.specs.Laws.{IsLess, NumbersRise}

-- the next number is given out, and later ones are above it
one_more : (n end : ℕ) (ns : List ℕ) → EveryPair IsLess ns → Every (λ m. n + 1 ≤ m) ns → Every (λ m. m < end) ns → n + 1 ≤ end
    → EveryPair IsLess (n ∷ ns) × Every (λ m. n ≤ m) (n ∷ ns) × Every (λ m. m < end) (n ∷ ns) × (n ≤ end)
one_more n end ns rising new below next = (
  (every_mono (λ m. n + 1 ≤ m) (λ m. n < m) (λ m (l : n + 1 ≤ m). omega arith) ns new, rising),
  (omega arith, every_mono (λ m. n + 1 ≤ m) (λ m. n ≤ m) (λ m (l : n + 1 ≤ m). omega arith) ns new),
  (omega arith, below),
  omega arith,
)

pub numbers_go_up : (rs : Results) (cs : List Call) → NumbersRise rs cs
unfolding after_calls given_out gives_out with_result without_result marked passed
numbers_go_up rs [] = record { rising = tt; new = tt; below = tt; next = omega arith }
numbers_go_up rs (put eim association counter items ∷ cs) =
    let rs1 = after_call rs (put eim association counter items) in
    let more = numbers_go_up rs1 cs in
    let all = one_more rs.next (after_calls rs1 cs).next (given_out rs1 cs) more.rising more.new more.below more.next in
    record { rising = all.0; new = all.1; below = all.2; next = all.3 }
numbers_go_up rs (remove seq ∷ cs) =
    let more = numbers_go_up (after_call rs (remove seq)) cs in
    record { rising = more.rising; new = more.new; below = more.below; next = more.next }
numbers_go_up rs (mark_rolled seq ∷ cs) =
    let rs1 = after_call rs (mark_rolled seq) in
    let more = numbers_go_up rs1 cs in
    let all = one_more rs.next (after_calls rs1 cs).next (given_out rs1 cs) more.rising more.new more.below more.next in
    record { rising = all.0; new = all.1; below = all.2; next = all.3 }
numbers_go_up rs (pass_number ∷ cs) =
    let rs1 = after_call rs pass_number in
    let more = numbers_go_up rs1 cs in
    let all = one_more rs.next (after_calls rs1 cs).next (given_out rs1 cs) more.rising more.new more.below more.next in
    record { rising = all.0; new = all.1; below = all.2; next = all.3 }
