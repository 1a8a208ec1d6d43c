-- The associations that operations give out are new.
use Rattle.std.proofs.Common.{ℕ, ◌≤◌, ◌<◌, not, cond, List, [], ◌∷◌, ◌++◌, length, arith}
use Rattle.std.specs.Prelude.{nat_le, ◌==◌}
use Rattle.std.proofs.lemmas.Bool.{cond_both}
use Rattle.small_card.specs.Lists.{Every}
use Rattle.small_card.specs.Cards.{EimList}
use Rattle.small_card.specs.EimOperations.{has_eim, without_eim, updated, added, last_association, is_empty_list, do_eco}
use Rattle.small_card.specs.declared.types.Eco.{Eco}
use Rattle.small_card.specs.declared.types.Eco.TheVariants as eco
use Rattle.small_card.specs.declared.types.Item.{Item}
use Rattle.small_card.specs.declared.types.Item.TheVariants as item
use Rattle.small_card.proofs.ListLemmas.{every_mono, every_append, pair_append}
use Rattle.eim_table.specs.Numbers.{given_by, after_ops, given_out, AreNew}

pub none_new : (n : ℕ) → AreNew n n []
none_new n = record { from = tt; rising = tt; below = tt; next = omega arith }

pub eco_new : (ms : EimList) (op : Eco) → AreNew ms.next (do_eco ms op).0.next (given_by (do_eco ms op).1)
unfolding do_eco added given_by
eco_new ms (eco.Add id address key) =
    cond_both {A = EimList × Item} (has_eim id ms.entries) (ms, item.Add 1 0) _ (λ r. AreNew ms.next r.0.next (given_by r.1)) (λ _. none_new ms.next) (λ _.
    cond_both {A = EimList × Item} (nat_le 8 (length ms.entries)) (ms, item.Add 2 0) _ (λ r. AreNew ms.next r.0.next (given_by r.1)) (λ _. none_new ms.next) (λ _.
    cond_both {A = EimList × Item} (ms.next == last_association) (ms, item.Add 3 0) (added id address key ms, item.Add 0 ms.next) (λ r. AreNew ms.next r.0.next (given_by r.1)) (λ _. none_new ms.next) (λ _.
    record { from = (omega arith, tt); rising = (tt, tt); below = (omega arith, tt); next = omega arith })))
eco_new ms (eco.Update id address key) =
    cond_both {A = EimList × Item} (not (has_eim id ms.entries)) (ms, item.Update 1) (record ms { entries = updated id address key ms.entries }, item.Update 0) (λ r. AreNew ms.next r.0.next (given_by r.1)) (λ _. none_new ms.next) (λ _. none_new ms.next)
eco_new ms (eco.Delete id) =
    cond_both {A = EimList × Item} (not (has_eim id ms.entries)) (ms, item.Dropped 1) (record ms { entries = without_eim id ms.entries }, item.Dropped (cond (is_empty_list (without_eim id ms.entries)) 2 0)) (λ r. AreNew ms.next r.0.next (given_by r.1)) (λ _. none_new ms.next) (λ _. none_new ms.next)
eco_new ms eco.List = none_new ms.next

pub new_join : (a b c : ℕ) (ms ns : List ℕ) → AreNew a b ms → AreNew b c ns → AreNew a c (ms ++ ns)
new_join a b c ms ns h k = record {
  from = every_append (λ n. a ≤ n) ms ns h.from (every_mono (λ n. b ≤ n) (λ n. a ≤ n) (λ n. λ (le : b ≤ n). omega (arith, le, h.next)) ns k.from);
  rising = pair_append (λ m n. m < n) ms ns h.rising k.rising
      (every_mono (λ m. m < b) (λ m. Every (λ n. m < n) ns) (λ m. λ (lt : m < b). every_mono (λ n. b ≤ n) (λ n. m < n) (λ n. λ (le : b ≤ n). omega (arith, lt, le)) ns k.from) ms h.below);
  below = every_append (λ n. n < c) ms ns (every_mono (λ n. n < b) (λ n. n < c) (λ n. λ (lt : n < b). omega (arith, lt, k.next)) ms h.below) k.below;
  next = omega (arith, h.next, k.next);
}

pub ops_new : (ops : List Eco) (ms : EimList) → AreNew ms.next (after_ops ms ops).next (given_out ms ops)
unfolding after_ops given_out
ops_new [] ms = none_new ms.next
ops_new (op ∷ ops) ms = new_join ms.next (do_eco ms op).0.next (after_ops (do_eco ms op).0 ops).next (given_by (do_eco ms op).1) (given_out (do_eco ms op).0 ops) (eco_new ms op) (ops_new ops (do_eco ms op).0)
