-- Values that are one element: read from its tag and content.
use Rattle.std.proofs.Common.{◌≡◌, ℕ, ◌≤◌, ◌/◌, Bool, true, false, cond, List, [], ◌++◌, length, get_or, Option, Some, None, refl, sym, ap, ◌∙◌, arith, inl, inr}
use Rattle.std.specs.Prelude.{◌==◌}
use Rattle.std.proofs.lemmas.Bool.{eqb-true, eq-eqb, cases_lt}
use Rattle.std.proofs.lemmas.Bool.Decides.{nat_tests}
use Rattle.std.proofs.lemmas.List.{append-nil}
use Rattle.sgp_der.specs.Element.{element, len_octets, IsTag}
use Rattle.sgp_der.specs.Fields.{part_at}
use Rattle.sgp_der.proofs.Elements.{element_split}
use Rattle.sgp_der.proofs.Fields.{on_some, part_takes, part_again}
use Rattle.std.proofs.lemmas.Option.{same_Some}
use Rattle.iot_bytes.proofs.Framing.{IsBytes}
use Rattle.sgp_fields.specs.Elements.{whole_at, tagged_as}
use Rattle.sgp_fields.specs.Fields.{last_at}
use Rattle.sgp_fields.specs.Laws.{OneSpelling}
use Rattle.sgp_fields.proofs.Codecs.{IsCodec, IsListed, IsTaken}
use Rattle.sgp_fields.proofs.Steps.{on_end, last_again, last_takes}

-- the content was read where the tag was found
pub tagged_some : {A : Type 0} (test : Bool) (read : Option A) (x : A) → cond test read None ≡ Some x → (test ≡ true) × (read ≡ Some x)
tagged_some true read x e = (refl, e)
tagged_some false read x e = absurd cc

-- what is taken under a tag is taken under a tag that equals it
pub retagged : {X : Type 0} {spell : X → List ℕ} {Fits : X → Type 0} (tag n : ℕ) (content : List ℕ) (x : X) → (tag == n) ≡ true → IsTaken spell Fits n content x → IsTaken spell Fits tag content x
retagged tag n content x e h = record { octets = ap (λ (k : ℕ). element k content) (eqb-true tag n e) ∙ h.octets; fits = h.fits }

on_choice : {A P : Type 0} (test : Bool) (this other : Option A) (y : A) → cond test this other ≡ Some y → (test ≡ true → this ≡ Some y → P) → (other ≡ Some y → P) → P
on_choice true this other y e here there = here refl e
on_choice false this other y e here there = there e

-- a choice by the tag: taken under this one, or as the other
pub on_tag : {X : Type 0} {spell : X → List ℕ} {Fits : X → Type 0} (tag n : ℕ) (content : List ℕ) (this other : Option X) (x : X) → cond (tag == n) this other ≡ Some x
    → (this ≡ Some x → IsTaken spell Fits n content x) → (other ≡ Some x → IsTaken spell Fits tag content x) → IsTaken spell Fits tag content x
on_tag tag n content this other x e here there = on_choice (tag == n) this other x e (λ same is. retagged tag n content x same (here is)) there

whole_takes : {X : Type 0} {entry : ℕ → List ℕ → Option X} {spell : X → List ℕ} {Fits : X → Type 0} → IsListed entry spell Fits → (bytes : List ℕ) (x : X) → IsBytes bytes → whole_at entry bytes ≡ Some x → (bytes ≡ spell x) × Fits x
unfolding whole_at
whole_takes law bytes x fits e =
    on_some (part_at bytes) _ x e (λ p e0 r0.
    on_end p.rest _ x r0 (λ none r1.
    let t = part_takes bytes p fits e0 in
    let q = law.takes p.tag p.content x t.content t.few r1 in
    (t.parts ∙ ap (λ (rest : List ℕ). element p.tag p.content ++ rest) none ∙ append-nil (element p.tag p.content) ∙ q.octets, q.fits)))

whole_again : {X : Type 0} {entry : ℕ → List ℕ → Option X} {spell : X → List ℕ} {Fits : X → Type 0} → IsListed entry spell Fits → (x : X) → Fits x → whole_at entry (spell x) ≡ Some x
unfolding whole_at
whole_again {X} {entry} law x h =
    let s = law.again x h in
    let part : part_at (element s.tag s.content) ≡ Some (record { tag = s.tag; content = s.content; rest = [] }) = ap part_at (sym (append-nil (element s.tag s.content))) ∙ part_again s.tag s.content [] s.low s.few in
    ap (whole_at entry) s.octets ∙ rw part s.read

-- whole elements and their octets
pub whole_codec : {X : Type 0} {entry : ℕ → List ℕ → Option X} {spell : X → List ℕ} {Fits : X → Type 0} → IsListed entry spell Fits → IsCodec (whole_at entry) spell Fits
whole_codec law = record { takes = whole_takes law; again = whole_again law }

-- a value whose fields stand in one element of this tag
pub record_codec : {X : Type 0} {of : List ℕ → Option X} {spell : X → List ℕ} {Fits : X → Type 0} → IsCodec of spell Fits → (tag : ℕ) → IsTag tag → ((x : X) → Fits x → length (spell x) ≤ 16777215)
    → IsCodec (last_at of tag) (λ x. element tag (spell x)) Fits
record_codec codec tag low few = record {
  takes = λ bytes x fits e. let t = last_takes codec tag bytes x fits e in (t.octets, t.fits);
  again = λ x fits. last_again codec tag x low (few x fits) fits;
}

-- the same, as an entry of a list
pub record_listed : {X : Type 0} {of : List ℕ → Option X} {spell : X → List ℕ} {Fits : X → Type 0} → IsCodec of spell Fits → (tag : ℕ) → IsTag tag → ((x : X) → Fits x → length (spell x) ≤ 16777215)
    → IsListed (tagged_as tag of) (λ x. element tag (spell x)) Fits
record_listed {X} {of} {spell} {Fits} codec tag low few = record {
  takes = λ n content x fits short e.
      let g = tagged_some (n == tag) (of content) x e in
      let t = codec.takes content x fits g.1 in
      retagged n tag content x g.0 (record { octets = ap (element tag) t.0; fits = t.1 });
  again = λ x fits. record { tag = tag; content = spell x; octets = refl; low = low; few = few x fits; read = rw (eq-eqb tag tag refl) (codec.again x fits) };
}

-- one spelling is of one value, and no spelling is a proper prefix of another
pub one_spelling : {X : Type 0} {entry : ℕ → List ℕ → Option X} {spell : X → List ℕ} {Fits : X → Type 0} → IsListed entry spell Fits → OneSpelling spell Fits
one_spelling {X} {entry} {spell} law a b x y g h e =
    let s = law.again a g in
    let t = law.again b h in
    let same : element s.tag s.content ++ x ≡ element t.tag t.content ++ y = ap (λ (o : List ℕ). o ++ x) (sym s.octets) ∙ e ∙ ap (λ (o : List ℕ). o ++ y) t.octets in
    let k = element_split s.tag t.tag s.content t.content x y s.low t.low s.few t.few same in
    let read : entry s.tag s.content ≡ entry t.tag t.content = cc (k.tag, k.content) in
    (same_Some a b (sym s.read ∙ read ∙ t.read), k.rest)

-- an element whose octets are octets has at most three length octets
long_first : (n : ℕ) (rest : List ℕ) → 65536 ≤ n → get_or (len_octets n ++ rest) 1 0 ≡ n / 65536
unfolding len_octets
long_first n rest le = grind (arith, nat_tests)

pub short_from_bytes : (tag : ℕ) (content : List ℕ) → IsBytes (element tag content) → length content ≤ 16777215
unfolding element
short_from_bytes tag content fits =
    elim (cases_lt (length content) 65536) [
      | inl lt ↦ omega arith
      | inr le ↦ omega (arith, fits 2, long_first (length content) content le)
    ]
