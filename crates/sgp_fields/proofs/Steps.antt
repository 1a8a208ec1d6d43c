-- The steps of a reader, each with what it found as variables; and each read again from its spelling.
use Rattle.std.proofs.Common.{◌≡◌, ◌≢◌, ℕ, ◌≤◌, Bool, true, false, List, [], ◌∷◌, ◌++◌, length, Option, Some, None, IfSome, refl, ap, ◌∙◌}
use Rattle.std.proofs.lemmas.Bool.{ne_eqb}
use Rattle.sgp_der.specs.Element.{element, IsTag}
use Rattle.sgp_der.specs.Reading.{Part, element_at}
use Rattle.sgp_der.specs.Fields.{◌>>=◌, field_at, only_at, ended}
use Rattle.sgp_der.proofs.Fields.{on_some, part_again, field_takes, field_again, only_takes, only_again, IsField}
use Rattle.std.proofs.lemmas.Option.{same_Some}
use Rattle.iot_bytes.proofs.Framing.{IsBytes}
use Rattle.sgp_fields.specs.Values.{only_if}
use Rattle.sgp_fields.specs.Fields.{value_at, last_at, found_or_out, optional_at, optional}
use Rattle.sgp_fields.proofs.Codecs.{IsCodec, IsFront, IsPrefix, IsValue, IsOptional, IsLast, IsWhole}

-- a test that was passed
pub on_test : {A B P : Type 0} (test : Bool) (x : A) (f : A → Option B) (y : B) → (only_if test x >>= f) ≡ Some y → (test ≡ true → f x ≡ Some y → P) → P
on_test true x f y e go = go refl e
on_test false x f y e go = absurd cc

pub only_if_again : {A : Type 0} (test : Bool) (x : A) → test ≡ true → only_if test x ≡ Some x
only_if_again true x e = refl
only_if_again false x e = absurd cc

-- no octet was left
pub on_end : {A P : Type 0} (bytes : List ℕ) (f : Unit {0} → Option A) (y : A) → (ended bytes >>= f) ≡ Some y → (bytes ≡ [] → f tt ≡ Some y → P) → P
on_end [] f y e go = go refl e
on_end (b ∷ bs) f y e go = absurd cc

-- the one element of a tag
pub on_only : {A P : Type 0} (tag : ℕ) (bytes : List ℕ) (f : List ℕ → Option A) (y : A) → IsBytes bytes → (only_at tag bytes >>= f) ≡ Some y
    → ((content : List ℕ) → IsWhole tag bytes content → f content ≡ Some y → P) → P
on_only tag bytes f y fits e go =
    on_some (only_at tag bytes) f y e (λ content a e1.
    let t = only_takes tag bytes content fits a in
    go content (record { octets = t.0; within = t.1; few = t.2 }) e1)

-- a value that is read from the front
pub on_front : {X A P : Type 0} {read : List ℕ → Option (X × List ℕ)} {spell : X → List ℕ} {Fits : X → Type 0} → IsPrefix read spell Fits → (bytes : List ℕ) (f : X × List ℕ → Option A) (y : A) → IsBytes bytes
    → (read bytes >>= f) ≡ Some y → ((x : X) (rest : List ℕ) → IsFront spell Fits bytes x rest → f (x, rest) ≡ Some y → P) → P
on_front {X} {A} {P} {read} law bytes f y fits e go = on_some (read bytes) f y e (λ r a e1. go r.0 r.1 (law.takes bytes r.0 r.1 fits a) e1)

-- a field
pub on_field : {A P : Type 0} (tag : ℕ) (bytes : List ℕ) (f : Part → Option A) (y : A) → IsBytes bytes → (field_at tag bytes >>= f) ≡ Some y
    → ((p : Part) → IsField tag bytes p → f p ≡ Some y → P) → P
on_field tag bytes f y fits e go =
    on_some (field_at tag bytes) f y e (λ p a e1. go p (field_takes tag bytes p fits a) e1)

value_parts : {X : Type 0} (of : List ℕ → Option X) (spell : X → List ℕ) (Fits : X → Type 0) → IsCodec of spell Fits → (tag : ℕ) (bytes : List ℕ) (p : Part) (x : X) → IsField tag bytes p → of p.content ≡ Some x → IsValue spell Fits tag bytes x p.rest
value_parts of spell Fits codec tag bytes p x field read =
    let t = codec.takes p.content x field.content read in
    record { parts = field.parts ∙ ap (λ (c : List ℕ). element tag c ++ p.rest) t.0; fits = t.1; others = field.rest }

-- a field's value, and what follows
pub on_value : {X A P : Type 0} {of : List ℕ → Option X} {spell : X → List ℕ} {Fits : X → Type 0} → IsCodec of spell Fits → (tag : ℕ) (bytes : List ℕ) (f : X × List ℕ → Option A) (y : A) → IsBytes bytes
    → (value_at of tag bytes >>= f) ≡ Some y → ((x : X) (rest : List ℕ) → IsValue spell Fits tag bytes x rest → f (x, rest) ≡ Some y → P) → P
unfolding value_at
on_value {X} {A} {P} {of} {spell} {Fits} codec tag bytes f y fits e go =
    on_some (field_at tag bytes >>= λ p. of p.content >>= λ x. Some (x, p.rest)) f y e (λ r a e1.
    on_some (field_at tag bytes) (λ p. of p.content >>= λ x. Some (x, p.rest)) r a (λ p b a1.
    on_some (of p.content) (λ x. Some (x, p.rest)) r a1 (λ x c a2.
    let same : (x, p.rest) ≡ r = same_Some (x, p.rest) r a2 in
    go x p.rest (value_parts of spell Fits codec tag bytes p x (field_takes tag bytes p fits b) c) (ap f same ∙ e1))))

pub value_again : {X : Type 0} {of : List ℕ → Option X} {spell : X → List ℕ} {Fits : X → Type 0} → IsCodec of spell Fits → (tag : ℕ) (x : X) (rest : List ℕ) → IsTag tag → length (spell x) ≤ 16777215 → Fits x
    → value_at of tag (element tag (spell x) ++ rest) ≡ Some (x, rest)
unfolding value_at
value_again {X} {of} {spell} codec tag x rest low few fits = rw (field_again tag (spell x) rest low few) (rw (codec.again x fits) refl)

pub last_takes : {X : Type 0} {of : List ℕ → Option X} {spell : X → List ℕ} {Fits : X → Type 0} → IsCodec of spell Fits → (tag : ℕ) (bytes : List ℕ) (x : X) → IsBytes bytes → last_at of tag bytes ≡ Some x → IsLast spell Fits tag bytes x
unfolding last_at
last_takes {X} {of} codec tag bytes x fits e =
    on_some (only_at tag bytes) of x e (λ content b a1.
    let t = only_takes tag bytes content fits b in
    let v = codec.takes content x t.1 a1 in
    record { octets = t.0 ∙ ap (element tag) v.0; fits = v.1 })

-- the value of the one field
pub on_last : {X A P : Type 0} {of : List ℕ → Option X} {spell : X → List ℕ} {Fits : X → Type 0} → IsCodec of spell Fits → (tag : ℕ) (bytes : List ℕ) (f : X → Option A) (y : A) → IsBytes bytes
    → (last_at of tag bytes >>= f) ≡ Some y → ((x : X) → IsLast spell Fits tag bytes x → f x ≡ Some y → P) → P
on_last {X} {A} {P} {of} codec tag bytes f y fits e go = on_some (last_at of tag bytes) f y e (λ x a e1. go x (last_takes codec tag bytes x fits a) e1)

pub last_again : {X : Type 0} {of : List ℕ → Option X} {spell : X → List ℕ} {Fits : X → Type 0} → IsCodec of spell Fits → (tag : ℕ) (x : X) → IsTag tag → length (spell x) ≤ 16777215 → Fits x
    → last_at of tag (element tag (spell x)) ≡ Some x
unfolding last_at
last_again {X} {of} {spell} codec tag x low few fits = rw (only_again tag (spell x) low few) (codec.again x fits)

optional_found : {X A P : Type 0} (of : List ℕ → Option X) (spell : X → List ℕ) (Fits : X → Type 0) → IsCodec of spell Fits → (tag : ℕ) (bytes : List ℕ) (f : Option X × List ℕ → Option A) (y : A) → IsBytes bytes → (read : Option Part) → field_at tag bytes ≡ read
    → (found_or_out of bytes read >>= f) ≡ Some y → ((x : Option X) (rest : List ℕ) → IsOptional spell Fits tag bytes x rest → f (x, rest) ≡ Some y → P) → P
optional_found of spell Fits codec tag bytes f y fits None is e go = go None bytes (record { parts = refl; fits = tt; others = fits }) e
optional_found {X} of spell Fits codec tag bytes f y fits (Some p) is e go =
    let Found : Type 0 = Option X × List ℕ in
    on_some {A = Found} (of p.content >>= λ x. Some (Some x, p.rest)) f y e (λ r a e1.
    on_some {B = Found} (of p.content) (λ x. Some (Some x, p.rest)) r a (λ x c a1.
    let same : (Some x, p.rest) ≡ r = same_Some (Some x, p.rest) r a1 in
    let v = value_parts of spell Fits codec tag bytes p x (field_takes tag bytes p fits is) c in
    go (Some x) p.rest (record { parts = v.parts; fits = v.fits; others = v.others }) (ap f same ∙ e1)))

-- a field's value where it is there, and what follows
pub on_optional : {X A P : Type 0} {of : List ℕ → Option X} {spell : X → List ℕ} {Fits : X → Type 0} → IsCodec of spell Fits → (tag : ℕ) (bytes : List ℕ) (f : Option X × List ℕ → Option A) (y : A) → IsBytes bytes
    → (optional_at of tag bytes >>= f) ≡ Some y → ((x : Option X) (rest : List ℕ) → IsOptional spell Fits tag bytes x rest → f (x, rest) ≡ Some y → P) → P
unfolding optional_at
on_optional {X} {A} {P} {of} {spell} {Fits} codec tag bytes f y fits e go = optional_found of spell Fits codec tag bytes f y fits (field_at tag bytes) refl e go

-- no field of this tag at the end
pub no_field_left : (tag : ℕ) → field_at tag [] ≡ None
unfolding field_at element_at
no_field_left tag = refl

-- no field of this tag where another tag stands
pub no_field_other : (tag other : ℕ) (content rest : List ℕ) → other ≢ tag → IsTag other → length content ≤ 16777215 → field_at tag (element other content ++ rest) ≡ None
unfolding field_at
no_field_other tag other content rest ne low few = rw (part_again other content rest low few) (rw (ne_eqb other tag ne) refl)

pub optional_again : {X : Type 0} {of : List ℕ → Option X} {spell : X → List ℕ} {Fits : X → Type 0} → IsCodec of spell Fits → (tag : ℕ) (x : Option X) (rest : List ℕ) → IsTag tag → IfSome x (λ v. length (spell v) ≤ 16777215) → IfSome x Fits
    → field_at tag rest ≡ None → optional_at of tag (optional spell tag x ++ rest) ≡ Some (x, rest)
unfolding optional_at
optional_again codec tag None rest low few fits out = rw out refl
optional_again {X} {of} {spell} codec tag (Some x) rest low few fits out = rw (field_again tag (spell x) rest low few) (rw (codec.again x fits) refl)
