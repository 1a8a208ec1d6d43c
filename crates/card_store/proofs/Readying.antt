-- A unit that is staged on the chip.
use Rattle.std.proofs.Common.{◌≡◌, ℕ, ◌≤◌, true, List, length, sym, ◌∙◌, ap, subst, arith}
use Rattle.std.specs.Prelude.{Option, Result, Ok, Err, IfOk}
use Rattle.chip_port.specs.Seen.{Seen}
use Rattle.chip_port.specs.Rules.{Untouched}
use Rattle.chip_port.proofs.Runs.{ran_most}
use Rattle.undo_journal.specs.Home.{home_in, put_back}
use Rattle.small_card.specs.Cards.{FullCard}
use Rattle.small_card.specs.Valid.{IsValid}
use Rattle.small_card.specs.declared.types.PackageResult.{PackageResult}
use Rattle.home_codec.specs.Homes.{HasFields}
use Rattle.card_store.specs.declared.ends.StageError.{StageError}
use Rattle.card_store.specs.declared.ends.StageError.TheVariants as stage
use Rattle.card_store.specs.declared.changes.Changes.{Changes}
use Rattle.card_store.specs.Standing.{IsSettled}
use Rattle.card_store.specs.Changed.{changed}
use Rattle.card_store.specs.Looking.{Looks}
use Rattle.card_store.specs.Comparing.{IsListed, IsFound, KeepsAll, Tries}
use Rattle.card_store.specs.Slots.{HomesKeepSlots, KeepsSlots, StandIn, numbers_of}
use Rattle.card_store.specs.Seats.{AreApart, TellsNumbers}
use Rattle.card_store.specs.Staging.{Plan, IsPlan, IsStagedOn, Stages, Readies, planned}
use Rattle.card_store.proofs.Compared.{between_few, between_rises}
use Rattle.card_store.proofs.Cards.{settled_stays, settled_idle}
use Rattle.card_store.proofs.Homes.{homes_keep}
use Rattle.card_store.proofs.Looking.{looks_then, looks_most, untouched_looks}

-- what is listed is a plan
pub listed_plan : (c : Changes) (f : FullCard) → IsListed c 673 → IsValid f → IsPlan (record { blocks = c.blocks; octets = c.octets; card = f })
listed_plan c f is valid = record {
  few = omega (arith, between_few 0 c.blocks 673 is.blocks);
  rising = between_rises 0 c.blocks 673 is.blocks (omega arith);
  size = is.size;
  valid = valid;
}

-- a plan of what was found on a settled chip
found_staged : (d f : FullCard) (p : Plan) (c : Changes) (a b : Seen) → p.blocks ≡ c.blocks → p.octets ≡ c.octets → p.card ≡ f → IsSettled d b → IsFound f c (home_in a.reads) → KeepsAll c (home_in a.reads) → b.reads ≡ a.reads → IsStagedOn p b
found_staged d f p c a b blocks octets card settled found slots same =
    let home : home_in b.reads ≡ home_in a.reads = ap home_in same in
    let is : planned p (home_in b.reads) ≡ put_back c.blocks c.octets (home_in a.reads) =
    ap (λ (l : List ℕ). put_back l p.octets (home_in b.reads)) blocks ∙ ap (λ (l : List ℕ). put_back c.blocks l (home_in b.reads)) octets ∙ ap (λ (l : List ℕ). put_back c.blocks c.octets l) home in
    record {
      idle = (settled_idle d b settled).0;
      makes = subst (λ (l : List ℕ). HasFields p.card l) (sym is) (subst (λ (x : FullCard). HasFields x (put_back c.blocks c.octets (home_in a.reads))) (sym card) found.fields);
      each = blocks ∙ found.each ∙ ap (λ (l : List ℕ). changed l (put_back c.blocks c.octets (home_in a.reads))) (sym home) ∙ ap (λ (l : List ℕ). changed (home_in b.reads) l) (sym is);
      slots = subst (λ (l : List ℕ). HomesKeepSlots l (planned p (home_in b.reads))) (sym home) (subst (λ (l : List ℕ). HomesKeepSlots (home_in a.reads) l) (sym is) slots);
    }

looked : (n : ℕ) (a b c : Seen) → n ≤ 2000 → Looks n a b → Untouched (λ t. t) b c → Looks 3000 a c
looked n a b c le ab u = looks_most (omega (arith, le)) (looks_then ab (untouched_looks 1000 b c ab.told u))

-- room was made for what was found
pub found_ready : (r : Result Plan StageError) (d f : FullCard) (ch : Changes) (a b c : Seen) → IsSettled d a → Looks 656 a b → IsFound f ch (home_in a.reads) → KeepsAll ch (home_in a.reads) → Readies r b c
    → IfOk r (λ p. p.blocks ≡ ch.blocks) → IfOk r (λ p. p.octets ≡ ch.octets) → IfOk r (λ p. p.card ≡ f) → Stages d r a c
found_ready (Ok p) d f ch a b c settled ab found slots ready blocks octets card =
    let u = looked 656 a b c (omega arith) ab ready in
    let settled' = settled_stays d a c u.keeps.reads u.keeps.leaves settled in
    (u, settled', found_staged d f p ch a c blocks octets card settled' found slots u.keeps.reads)
found_ready (Err stage.Failed) d f ch a b c settled ab found slots ready blocks octets card = absurd ready
found_ready (Err stage.NoMemory) d f ch a b c settled ab found slots ready blocks octets card =
    let u = looked 656 a b c (omega arith) ab ready in
    (u, settled_stays d a c u.keeps.reads u.keeps.leaves settled)

-- nothing was found
pub not_found : (T : Type 0) (e : StageError) (d : FullCard) (a b : Seen) → IsSettled d a → Tries {T = T} 656 (Err e) a b → Stages d (Err e) a b
not_found T stage.Failed d a b settled t = ran_most (omega arith) t
not_found T stage.NoMemory d a b settled t = (looks_most (omega arith) t, settled_stays d a b t.keeps.reads t.keeps.leaves settled)

-- where it is staged
pub staged_where : (r : Result Plan StageError) (d : FullCard) (a b : Seen) (told : Type 0) → (told → Stages d r a b) → IfOk r (λ p. told → IsStagedOn p b)
staged_where (Ok p) d a b told h = λ t. (h t).2
staged_where (Err e) d a b told h = tt

-- what was found after a look was to be found before
pub found_before : (r : Result Changes StageError) (n : ℕ) (f : FullCard) (a b : Seen) → (a.told ≡ true → Looks n a b) → IfOk r (λ c. b.told ≡ true → IsFound f c (home_in b.reads)) → IfOk r (λ c. a.told ≡ true → IsFound f c (home_in a.reads))
found_before (Ok c) n f a b looks h = λ told. let l = looks told in subst (λ (i : List ℕ). IsFound f c (home_in i)) l.keeps.reads (h l.told)
found_before (Err e) n f a b looks h = tt

-- results keep their slots in what was found
pub found_kept : (r : Result Changes StageError) (n : ℕ) (a b : Seen) (numbers : List (Option ℕ)) (places : List (Option PackageResult)) → (a.told ≡ true → Looks n a b) → (a.told ≡ true → length (home_in a.reads) ≡ 172288)
    → (a.told ≡ true → TellsNumbers numbers (home_in a.reads)) → (AreApart numbers → KeepsSlots numbers (numbers_of places))
    → IfOk r (λ c. b.told ≡ true → StandIn places (put_back c.blocks c.octets (home_in b.reads)))
    → IfOk r (λ c. a.told ≡ true → (d : FullCard) → IsSettled d a → KeepsAll c (home_in a.reads))
found_kept (Ok c) n a b numbers places looks size tells kept stand = λ told d settled.
    let l = looks told in
    homes_keep d a numbers places (put_back c.blocks c.octets (home_in a.reads)) (size told) settled (tells told) kept (subst (λ (i : List ℕ). StandIn places (put_back c.blocks c.octets (home_in i))) l.keeps.reads (stand l.told))
found_kept (Err e) n a b numbers places looks size tells kept stand = tt
