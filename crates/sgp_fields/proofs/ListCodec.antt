-- A list that is read was spelled so, and one that is spelled is read again.
use Rattle.std.proofs.Common.{◌≡◌, ◌≢◌, ℕ, zero, suc, ◌≤◌, List, [], ◌∷◌, ◌++◌, length, Some, refl, ap, subst, ◌∙◌, arith}
use Rattle.std.specs.List.{flat_map}
use Rattle.std.specs.Prelude.{Option}
use Rattle.sgp_der.specs.Element.{element}
use Rattle.sgp_der.specs.Fields.{part_at}
use Rattle.sgp_der.proofs.Fields.{on_some, part_takes, part_again}
use Rattle.small_card.specs.Lists.{Every}
use Rattle.std.proofs.lemmas.Option.{same_Some}
use Rattle.iot_bytes.proofs.Framing.{IsBytes}
use Rattle.sgp_fields.specs.Lists.{list_at, some_of}
use Rattle.sgp_fields.proofs.Codecs.{IsCodec, IsListed, IsSpelled}
use Rattle.sgp_fields.proofs.Loop.{step, at_end}

joined : (x y z w : List ℕ) → x ≡ y → z ≡ w → x ++ z ≡ y ++ w
joined x y z w e f = cc (e, f)

-- a list of at most so many entries, each in range
pub record IsList {X : Type 0} (Fits : X → Type 0) (most : ℕ) (xs : List X) : Type 0 where
  pub few : length xs ≤ most
  pub each : Every Fits xs

list_takes : {X : Type 0} {entry : ℕ → List ℕ → Option X} {spell : X → List ℕ} {Fits : X → Type 0} → IsListed entry spell Fits → (n : ℕ) (bytes : List ℕ) (xs : List X) → IsBytes bytes
    → list_at entry n bytes ≡ Some xs → (bytes ≡ flat_map spell xs) × IsList Fits n xs
unfolding list_at
list_takes {X} {entry} {spell} {Fits} law n [] xs fits e =
    let is : [] ≡ xs = cc in
    subst (λ (x : List X). ([] ≡ flat_map spell x) × IsList Fits n x) is (refl, record { few = omega arith; each = tt })
list_takes law zero (b ∷ bs) xs fits e = absurd cc
list_takes {X} {entry} {spell} {Fits} law (suc n) (b ∷ bs) xs fits e =
    on_some (part_at (b ∷ bs)) _ xs e (λ p a e1.
    on_some (entry p.tag p.content) _ xs e1 (λ first o e2.
    on_some (list_at entry n p.rest) _ xs e2 (λ others m e3.
    let t = part_takes (b ∷ bs) p fits a in
    let f = law.takes p.tag p.content first t.content t.few o in
    let r = list_takes law n p.rest others t.rest m in
    let is : first ∷ others ≡ xs = cc in
    let whole : b ∷ bs ≡ spell first ++ flat_map spell others = t.parts ∙ joined _ _ _ _ f.octets r.0 in
    subst (λ (x : List X). (b ∷ bs ≡ flat_map spell x) × IsList Fits (suc n) x) is (whole, record { few = omega (arith, r.1.few); each = (f.fits, r.1.each) }))))

element_some : (tag : ℕ) (content rest : List ℕ) → element tag content ++ rest ≢ []
unfolding element
element_some tag content rest e = absurd cc

one_again : {X : Type 0} (entry : ℕ → List ℕ → Option X) (spell : X → List ℕ) (x : X) (n : ℕ) (rest : List ℕ) (xs : List X) → IsSpelled entry spell x → list_at entry n rest ≡ Some xs → list_at entry (suc n) (spell x ++ rest) ≡ Some (x ∷ xs)
one_again entry spell x n rest xs s others =
    ap (λ (octets : List ℕ). list_at entry (suc n) (octets ++ rest)) s.octets
    ∙ step entry n (element s.tag s.content ++ rest) (element_some s.tag s.content rest)
    ∙ rw (part_again s.tag s.content rest s.low s.few) (rw s.read (rw others refl))

list_again : {X : Type 0} {entry : ℕ → List ℕ → Option X} {spell : X → List ℕ} {Fits : X → Type 0} → IsListed entry spell Fits → (n : ℕ) (xs : List X) → length xs ≤ n → Every Fits xs → list_at entry n (flat_map spell xs) ≡ Some xs
list_again {X} {entry} law n [] le fits = at_end entry n
list_again law zero (x ∷ xs) le fits = absurd (omega arith)
list_again {X} {entry} {spell} law (suc n) (x ∷ xs) le fits =
    one_again entry spell x n (flat_map spell xs) xs (law.again x fits.0) (list_again law n xs (omega arith) fits.1)

-- a list that isn't empty
pub some_takes : {X : Type 0} (xs some : List X) → some_of xs ≡ Some some → (xs ≡ some) × (1 ≤ length xs)
some_takes [] some e = absurd cc
some_takes (x ∷ xs) some e = (same_Some _ _ e, omega arith)

pub some_again : {X : Type 0} (xs : List X) → 1 ≤ length xs → some_of xs ≡ Some xs
some_again [] h = absurd (omega arith)
some_again (x ∷ xs) h = refl

-- lists and their contents
pub list_codec : {X : Type 0} {entry : ℕ → List ℕ → Option X} {spell : X → List ℕ} {Fits : X → Type 0} → IsListed entry spell Fits → (most : ℕ) → IsCodec (list_at entry most) (flat_map spell) (IsList Fits most)
list_codec law most = record {
  takes = λ content xs fits e. list_takes law most content xs fits e;
  again = λ xs h. list_again law most xs h.few h.each;
}
