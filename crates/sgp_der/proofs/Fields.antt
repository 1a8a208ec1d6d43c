-- A field that is read was spelled so, and one that is spelled is read again.
use Rattle.std.proofs.Common.{◌≡◌, ℕ, suc, ◌+◌, ◌≤◌, Bool, true, false, cond, List, [], ◌∷◌, ◌++◌, length, Option, Some, None, Result, Ok, Err, refl, sym, ap, subst, ◌∙◌, arith}
use Rattle.std.proofs.lemmas.Bool.{eqb-true, eq-eqb}
use Rattle.std.proofs.lemmas.List.{append-nil, get_or_append_left, get_or-append-add, get_or_past}
use Rattle.std.proofs.lemmas.Bool.{cases_lt}
use Rattle.std.proofs.Common.{inl, inr}
use Rattle.iot_bytes.proofs.Framing.{IsBytes}
use Rattle.sgp_der.specs.declared.element.DerFault.{DerFault}
use Rattle.sgp_der.specs.Element.{element, len_octets, IsTag}
use Rattle.sgp_der.specs.Reading.{Part, element_at}
use Rattle.sgp_der.proofs.Elements.{element_takes, element_again}
use Rattle.sgp_der.specs.Fields.{◌>>=◌, part_of, part_at, tagged, field_at, ended, only_at}
use Rattle.sgp_der.specs.declared.form.TheConstants.{MOST_CONTENT}

-- the value of a step that did not fail
pub bind_some : {A B : Type 0} (r : Option A) (f : A → Option B) (y : B) → (r >>= f) ≡ Some y → (x : A) × (r ≡ Some x) × (f x ≡ Some y)
bind_some (Some x) f y e = (x, refl, e)
bind_some None f y e = absurd cc

-- the same, with the value as a variable
pub on_some : {A B P : Type 0} (r : Option A) (f : A → Option B) (y : B) → (r >>= f) ≡ Some y → ((x : A) → r ≡ Some x → f x ≡ Some y → P) → P
on_some (Some x) f y e go = go x refl e
on_some None f y e go = absurd cc

-- a test that did not fail
pub guard_some : {A : Type 0} (b : Bool) (x y : A) → cond b (Some x) None ≡ Some y → (b ≡ true) × (x ≡ y)
guard_some true x y e = (refl, cc)
guard_some false x y e = absurd cc

pub IsBytes-right : (xs ys : List ℕ) → IsBytes (xs ++ ys) → IsBytes ys
IsBytes-right xs ys h i = rw get_or-append-add at (h (length xs + i))

pub IsBytes-left : (xs ys : List ℕ) → IsBytes (xs ++ ys) → IsBytes xs
IsBytes-left xs ys h i =
    elim (cases_lt i (length xs)) [
      | inl lt ↦ rw (← get_or_append_left xs ys 0 i lt) (h i)
      | inr le ↦ rw (get_or_past xs i 0 le) (omega arith)
    ]

pub record IsField (tag : ℕ) (bytes : List ℕ) (p : Part) : Type 0 where
  pub parts : bytes ≡ element tag p.content ++ p.rest
  pub content : IsBytes p.content
  pub rest : IsBytes p.rest
  pub few : length p.content ≤ MOST_CONTENT

content_fits : (tag : ℕ) (content rest : List ℕ) → IsBytes (element tag content ++ rest) → IsBytes content
unfolding element
content_fits tag content rest h = IsBytes-right (len_octets (length content)) content (IsBytes-left (len_octets (length content) ++ content) rest (λ i. h (suc i)))

part_ok : (r : Result Part DerFault) (p : Part) → part_of r ≡ Some p → r ≡ Ok p
part_ok (Ok q) p e = cc
part_ok (Err d) p e = absurd cc

pub part_takes : (bytes : List ℕ) (p : Part) → IsBytes bytes → part_at bytes ≡ Some p → IsField p.tag bytes p
part_takes bytes p fits e =
    let t = element_takes bytes p fits (part_ok (element_at bytes) p e) in
    let all : IsBytes (element p.tag p.content ++ p.rest) = subst IsBytes t.0 fits in
    record { parts = t.0; content = content_fits p.tag p.content p.rest all; rest = IsBytes-right (element p.tag p.content) p.rest all; few = t.2 }

pub field_takes : (tag : ℕ) (bytes : List ℕ) (p : Part) → IsBytes bytes → field_at tag bytes ≡ Some p → IsField tag bytes p
unfolding field_at
field_takes tag bytes p fits e =
    let a = bind_some (part_at bytes) (tagged tag) p e in
    let g = guard_some _ _ _ a.2 in
    let same : a.0.tag ≡ tag = eqb-true _ _ g.0 in
    let t = part_takes bytes a.0 fits a.1 in
    subst (λ (q : Part). IsField tag bytes q) g.1 (rw same at t)

pub part_again : (tag : ℕ) (content rest : List ℕ) → IsTag tag → length content ≤ MOST_CONTENT → part_at (element tag content ++ rest) ≡ Some (record { tag = tag; content = content; rest = rest })
part_again tag content rest low few = rw (element_again tag content rest low few) refl

pub field_again : (tag : ℕ) (content rest : List ℕ) → IsTag tag → length content ≤ MOST_CONTENT → field_at tag (element tag content ++ rest) ≡ Some (record { tag = tag; content = content; rest = rest })
unfolding field_at
field_again tag content rest low few = rw (part_again tag content rest low few, eq-eqb tag tag refl) refl

pub nothing : (xs : List ℕ) (u : Unit {0}) → ended xs ≡ Some u → xs ≡ []
nothing [] u e = refl
nothing (x ∷ xs) u e = absurd cc

pub only_takes : (tag : ℕ) (bytes content : List ℕ) → IsBytes bytes → only_at tag bytes ≡ Some content → (bytes ≡ element tag content) × IsBytes content × (length content ≤ MOST_CONTENT)
unfolding only_at
only_takes tag bytes content fits e =
    let a = bind_some (field_at tag bytes) _ content e in
    let b = bind_some (ended a.0.rest) _ content a.2 in
    let t = field_takes tag bytes a.0 fits a.1 in
    let same : a.0.content ≡ content = cc in
    let none : a.0.rest ≡ [] = nothing a.0.rest b.0 b.1 in
    subst (λ (c : List ℕ). (bytes ≡ element tag c) × IsBytes c × (length c ≤ MOST_CONTENT)) same (t.parts ∙ ap (λ (r : List ℕ). element tag a.0.content ++ r) none ∙ append-nil _, t.content, t.few)

pub only_again : (tag : ℕ) (content : List ℕ) → IsTag tag → length content ≤ MOST_CONTENT → only_at tag (element tag content) ≡ Some content
unfolding only_at
only_again tag content low few =
    let e : field_at tag (element tag content) ≡ Some (record { tag = tag; content = content; rest = [] }) = ap (field_at tag) (sym (append-nil (element tag content))) ∙ field_again tag content [] low few in
    rw e refl
