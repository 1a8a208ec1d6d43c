-- Homes, and the cards that they stand for.
use Rattle.std.proofs.Common.{◌≡◌, ⊎_elim, ℕ, Bool, true, List, [], sym, ap, subst, ◌∙◌, arith, inl, inr}
use Rattle.chip_port.specs.Seen.{Seen}
use Rattle.chip_port.specs.Rules.{Same}
use Rattle.chip_port.proofs.Runs.{ran_none, ran_then, ran_most}
use Rattle.undo_journal.specs.Home.{home, home_in, is_open, put_back}
use Rattle.undo_journal.specs.States.{IsIdle}
use Rattle.undo_journal.proofs.Gates.{home_shut, home_magic}
use Rattle.small_card.specs.Cards.{FullCard}
use Rattle.small_card.specs.Valid.{IsValid}
use Rattle.home_codec.specs.Homes.{HasFields}
use Rattle.home_codec.proofs.Whole.{one_card}
use Rattle.std.proofs.lemmas.Option.{same_Some}
use Rattle.card_store.specs.Standing.{Stands, StandsForEither, IsSettled}
use Rattle.card_store.specs.Staging.{Plan, IsPlan, IsStagedOn, Rewrites, Commits}
use Rattle.card_store.specs.Slots.{HomesKeepSlots}

-- images with one home stand for the same card
pub stands_same : (f : FullCard) (i j : List ℕ) → home i ≡ home j → Stands f j → Stands f i
stands_same f i j e s = record { blocks = s.blocks; there = e ∙ s.there; fields = s.fields; valid = s.valid }

-- an image stands for at most one card
pub stands_for_one : (f g : FullCard) (i : List ℕ) → Stands f i → Stands g i → f ≡ g
stands_for_one f g i a b =
    let same : a.blocks ≡ b.blocks = same_Some a.blocks b.blocks (sym a.there ∙ b.there) in
    one_card b.blocks f g (record { fields = subst (λ (l : List ℕ). HasFields f l) same a.fields; valid = a.valid }) (record { fields = b.fields; valid = b.valid })

-- an idle chip whose home is a card's is settled on it
pub idle_settled : (f : FullCard) (s : Seen) → IsIdle s → HasFields f (home_in s.reads) → IsValid f → IsSettled f s
idle_settled f s idle fields valid = record {
  alone = idle.settled;
  shut = idle.shut;
  stands = record { blocks = home_in s.reads; there = home_shut s.reads idle.front idle.shut; fields = fields; valid = valid };
}

-- a settled chip is idle, and its home is the card's
pub settled_idle : (f : FullCard) (s : Seen) → IsSettled f s → IsIdle s × HasFields f (home_in s.reads)
settled_idle f s h =
    let front = home_magic s.reads h.stands.blocks h.stands.there in
    let same : home_in s.reads ≡ h.stands.blocks = same_Some _ _ (sym (home_shut s.reads front h.shut) ∙ h.stands.there) in
    (record { settled = h.alone; front = front; shut = h.shut }, subst (λ (l : List ℕ). HasFields f l) (sym same) h.stands.fields)

-- a unit of blocks that make the new card of the old one's home
pub commits : (c : FullCard) (p : Plan) (ok : Bool) (a b : Seen) → a.told ≡ true → IsPlan p → IsSettled c a → IsStagedOn p a → Rewrites p.blocks p.octets ok a b → Commits c p ok a b
commits c p ok a b told plan settled staged r = record {
  ran = ran_most (omega (arith, plan.few)) (ran_then (ran_none (StandsForEither c p.card) a told (λ i was. inl (stands_same c i a.reads (ap home (settled.alone i was)) settled.stands))) r.ran
      (λ i e. ⊎_elim (λ old. inl (stands_same c i a.reads old settled.stands)) (λ new. inr (record { blocks = put_back p.blocks p.octets (home_in a.reads); there = new; fields = staged.makes; valid = plan.valid })) e));
  settled = λ done. idle_settled p.card b (r.idle done) (subst (λ (l : List ℕ). HasFields p.card l) (sym (r.home_now done)) staged.makes) plan.valid;
  home_now = r.home_now;
  slots = λ done. subst (λ (l : List ℕ). HomesKeepSlots (home_in a.reads) l) (sym (r.home_now done)) staged.slots;
}

-- the same, over the octets as the code holds them
pub committed : (c : FullCard) (p : Plan) (blocks octets : List ℕ) (ok : Bool) (a b : Seen) → blocks ≡ p.blocks → octets ≡ p.octets → a.told ≡ true → IsPlan p → IsSettled c a → IsStagedOn p a → Rewrites blocks octets ok a b → Commits c p ok a b
committed c p blocks octets ok a b e f told plan settled staged r =
    let first : Rewrites p.blocks octets ok a b = subst (λ (l : List ℕ). Rewrites l octets ok a b) e r in
    commits c p ok a b told plan settled staged (subst (λ (l : List ℕ). Rewrites p.blocks l ok a b) f first)

-- without a block to be written the card stands already
pub unwritten : (c : FullCard) (p : Plan) (a : Seen) → a.told ≡ true → p.blocks ≡ [] → IsPlan p → IsSettled c a → IsStagedOn p a → Commits c p true a a
unwritten c p a told none plan settled staged =
    let same : put_back p.blocks p.octets (home_in a.reads) ≡ home_in a.reads = ap (λ (l : List ℕ). put_back l p.octets (home_in a.reads)) none in
    record {
      ran = ran_most (omega arith) (ran_none (StandsForEither c p.card) a told (λ i was. inl (stands_same c i a.reads (ap home (settled.alone i was)) settled.stands)));
      settled = λ done. idle_settled p.card a staged.idle (subst (λ (l : List ℕ). HasFields p.card l) same staged.makes) plan.valid;
      home_now = λ done. sym same;
      slots = λ done. subst (λ (l : List ℕ). HomesKeepSlots (home_in a.reads) l) same staged.slots;
    }

-- what keeps the content and what a cut may leave keeps the chip settled
pub settled_stays : (c : FullCard) (a b : Seen) → b.reads ≡ a.reads → Same a.leaves b.leaves → IsSettled c a → IsSettled c b
settled_stays c a b reads leaves h = record {
  alone = λ i now. h.alone i ((leaves i).1 now) ∙ sym reads;
  shut = ap is_open reads ∙ h.shut;
  stands = subst (λ (l : List ℕ). Stands c l) (sym reads) h.stands;
}
