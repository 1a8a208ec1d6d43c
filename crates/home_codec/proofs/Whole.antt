-- The home: what is read as a card has the card's fields, and what has the fields of a valid card is read as it.
use Rattle.std.proofs.Common.{◌≡◌, ℕ, true, List, ◌++◌, length, Some, sym, ap, subst, ◌∙◌, arith, append_assoc}
use Rattle.sgp_der.proofs.Fields.{on_some, guard_some}
use Rattle.sgp_fields.proofs.Steps.{only_if_again, on_front}
use Rattle.small_card.specs.Cards.{FullCard}
use Rattle.small_card.specs.Valid.{IsValid}
use Rattle.small_card.specs.declared.types.Profile.{Profile}
use Rattle.small_card.specs.declared.types.EimEntry.{EimEntry}
use Rattle.small_card.specs.declared.types.PackageResult.{PackageResult}
use Rattle.std.proofs.lemmas.Option.{same_Some}
use Rattle.iot_bytes.proofs.Framing.{IsBytes}
use Rattle.home_codec.specs.declared.head.Head.{Head}
use Rattle.home_codec.specs.Fixed.{slots}
use Rattle.home_codec.specs.Layout.{head, head_of, profile_slot, eim_slot}
use Rattle.home_codec.specs.Homes.{HasFields, IsHomeOf}
use Rattle.home_codec.specs.Reading.{results_at, fits_together, card_of_parts, card_at}
use Rattle.sgp_fields.proofs.Codecs.{IsFront}
use Rattle.home_codec.proofs.FixedFields.{AreSlotted, on_slots, slots_again}
use Rattle.home_codec.proofs.Sections.{IsHead, head_codec, profile_codec, eim_codec, IsEimSlot}
use Rattle.home_codec.proofs.ResultSlots.{AreRead, results_take, results_again}
use Rattle.home_codec.proofs.Parts.{entries_fit, pending_fit, valid_head, valid_fits, fits_valid}
use Rattle.small_card.specs.Ranges.{IsProfile}

same_counts : (h : Head) (p q : ℕ) → p ≡ h.profiles → q ≡ h.eims → record h { profiles = p; eims = q } ≡ h
same_counts h p q e g = ap (λ (n : ℕ). record h { profiles = n; eims = q }) e ∙ ap (λ (n : ℕ). record h { eims = n }) g

card_made : (home r1 r2 r3 : List ℕ) (h : Head) (ps : List Profile) (es : List EimEntry) (rs : List PackageResult) → IsFront head IsHead home h r1 → AreSlotted profile_slot IsProfile 128 16 h.profiles r1 ps r2
    → AreSlotted eim_slot IsEimSlot 512 8 h.eims r2 es r3 → AreRead rs r3 → fits_together (card_of_parts h ps es rs) ≡ true → IsHomeOf (card_of_parts h ps es rs) home
card_made home r1 r2 r3 h ps es rs a b c d fit =
    let f = card_of_parts h ps es rs in
    let counts : head_of f ≡ h = same_counts h (length ps) (length es) b.count c.count in
    let first : home ≡ head (head_of f) ++ r1 = a.parts ∙ ap (λ (k : Head). head k ++ r1) (sym counts) in
    let others : r1 ≡ (slots profile_slot 128 16 ps ++ slots eim_slot 512 8 es) ++ r3 =
    b.parts ∙ ap (λ (l : List ℕ). slots profile_slot 128 16 ps ++ l) c.parts ∙ sym (append_assoc (slots profile_slot 128 16 ps) (slots eim_slot 512 8 es) r3) in
    record {
      fields = record {
        area = r3;
        parts = first ∙ ap (λ (l : List ℕ). head (head_of f) ++ l) others ∙ sym (append_assoc (head (head_of f)) (slots profile_slot 128 16 ps ++ slots eim_slot 512 8 es) r3);
        results = d.results;
      };
      valid = fits_valid f (record {
        head = subst (λ (k : Head). IsHead k) (sym counts) a.fits;
        profiles_few = omega (arith, b.count, b.few);
        profiles = b.each;
        eims_few = omega (arith, c.count, c.few);
        eims = c.each;
        pending_few = d.few;
        pending = d.each;
      }) fit;
    }

-- what is read as a card is its home
pub card_takes : (home : List ℕ) (f : FullCard) → IsBytes home → card_at home ≡ Some f → IsHomeOf f home
unfolding card_at
card_takes home f fits e =
    on_front head_codec home _ f fits e (λ h r1 a e1.
    on_slots profile_codec 128 16 h.profiles r1 _ f a.others e1 (λ ps r2 b e2.
    on_slots eim_codec 512 8 h.eims r2 _ f b.others e2 (λ es r3 c e3.
    on_some (results_at r3) _ f e3 (λ rs d e4.
    let g = guard_some (fits_together (card_of_parts h ps es rs)) (card_of_parts h ps es rs) f e4 in
    subst (λ (x : FullCard). IsHomeOf x home) g.1 (card_made home r1 r2 r3 h ps es rs a b c (results_take r3 rs c.others d) g.0)))))

-- the home of a valid card is read as it
pub card_again : (home : List ℕ) (f : FullCard) → HasFields f home → IsValid f → card_at home ≡ Some f
unfolding card_at
card_again home f h valid =
    let ps = f.card.profiles in
    let es = f.card.eims.entries in
    let P = slots profile_slot 128 16 ps in
    let E = slots eim_slot 512 8 es in
    let table = valid.card.profiles in
    let eims = valid.card.eims in
    let results = valid.card.results in
    let grouped : home ≡ head (head_of f) ++ (P ++ (E ++ h.area)) = h.parts ∙ append_assoc (head (head_of f)) (P ++ E) h.area ∙ ap (λ (l : List ℕ). head (head_of f) ++ l) (append_assoc P E h.area) in
    ap card_at grouped
    ∙ rw (head_codec.again (head_of f) (P ++ (E ++ h.area)) (valid_head f valid))
    (rw (slots_again profile_codec 128 16 ps (E ++ h.area) table.few table.each)
    (rw (slots_again eim_codec 512 8 es h.area eims.few (entries_fit f.card.eims.next es eims.next.fits eims.each))
    (rw (results_again h.area f.card.results.pending h.results (pending_fit f.card.results.next f.card.results.pending results.each))
    (only_if_again (fits_together f) f (valid_fits f valid)))))

-- a home is that of at most one valid card
pub one_card : (home : List ℕ) (f g : FullCard) → IsHomeOf f home → IsHomeOf g home → f ≡ g
one_card home f g a b = same_Some f g (sym (card_again home f a.fields a.valid) ∙ card_again home g b.fields b.valid)
