-- What is armed on a valid card may be rolled back.
use Rattle.std.proofs.Common.{◌≡◌, not, ◌&&◌, Some}
use Rattle.std.proofs.lemmas.Bool.{and_parts}
use Rattle.small_card.specs.Cards.{SmallCard, FullCard}
use Rattle.small_card.specs.Units.{has_seq, is_pending}
use Rattle.small_card.specs.Valid.{IsArmed, IsValid}
use Rattle.small_card.specs.declared.types.Armed.{Armed}
use Rattle.small_card.proofs.ListLemmas.{any_mono}
use Rattle.rollback_unit.specs.Rolls.{MayRoll}

pub may_roll : (c : SmallCard) (a : Armed) → IsArmed c a → MayRoll c.profiles c.results a
unfolding is_pending
may_roll c a h = record {
  former = h.former;
  pending = any_mono (λ r. has_seq a.seq r && not r.rolled) (has_seq a.seq) (λ r e. (and_parts (has_seq a.seq r) (not r.rolled) e).0) c.results.pending h.result;
  number = h.room;
}

pub valid_may_roll : (f : FullCard) (a : Armed) → IsValid f → f.armed ≡ Some a → MayRoll f.card.profiles f.card.results a
valid_may_roll f a v e = may_roll f.card a (v.armed a e)
