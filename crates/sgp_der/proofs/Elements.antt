-- An element that is read was spelled so, and one that is spelled is read again.
use Rattle.std.proofs.Common.{◌≡◌, ℕ, suc, ◌+◌, ◌%◌, ◌≤◌, Bool, true, false, cond, ltb, eqb, List, [], ◌∷◌, ◌++◌, length, take, drop, Result, Ok, Err, refl, ap, subst, ◌∙◌, arith, append_assoc, length-append, sym}
use Rattle.std.proofs.lemmas.Bool.{ltb-false, le-ltb, eqb-false, ne_eqb}
use Rattle.std.proofs.lemmas.List.{append-nil, take_at, drop_at, take-append-drop, length-take-le}
use Rattle.iot_bytes.proofs.Framing.{IsBytes}
use Rattle.sgp_der.specs.declared.element.DerFault.{DerFault}
use Rattle.sgp_der.specs.declared.element.DerFault.TheVariants.{Short, Tag}
use Rattle.sgp_der.specs.Element.{len_octets, element, IsTag, Tlv, Begins, SameElement}
use Rattle.sgp_der.specs.Reading.{◌>>=◌, Part, len_at, element_at}
use Rattle.sgp_der.proofs.Lengths.{len_again, len_takes, len_few}
use Rattle.sgp_der.specs.declared.form.TheConstants.{MOST_CONTENT}

-- the value of a step that did not fail
pub bind_ok : {A B : Type 0} (r : Result A DerFault) (f : A → Result B DerFault) (y : B) → (r >>= f) ≡ Ok y → (x : A) × (r ≡ Ok x) × (f x ≡ Ok y)
bind_ok (Ok x) f y e = (x, refl, e)
bind_ok (Err d) f y e = absurd cc

-- a test that did not fail
pub guard_ok : {A : Type 0} (b : Bool) (d : DerFault) (r : Result A DerFault) (y : A) → cond b (Err d) r ≡ Ok y → (b ≡ false) × (r ≡ Ok y)
guard_ok true d x y e = absurd cc
guard_ok false d x y e = (refl, e)

pub element_again : (tag : ℕ) (content rest : List ℕ) → IsTag tag → length content ≤ MOST_CONTENT → element_at (element tag content ++ rest) ≡ Ok (record { tag = tag; content = content; rest = rest })
unfolding element_at element
element_again tag content rest low few =
    let n = length content in
    let regroup : (len_octets n ++ content) ++ rest ≡ len_octets n ++ (content ++ rest) = append_assoc (len_octets n) content rest in
    let long : ltb (length (content ++ rest)) n ≡ false = le-ltb _ _ (omega (arith, length-append content rest)) in
    rw (ne_eqb (tag % 32) 31 low, regroup, len_again n (content ++ rest) few, long, take_at content rest n refl, drop_at content rest n refl) refl

pub element_takes : (bytes : List ℕ) (p : Part) → IsBytes bytes → element_at bytes ≡ Ok p → (bytes ≡ element p.tag p.content ++ p.rest) × IsTag p.tag × (length p.content ≤ MOST_CONTENT)
unfolding element_at element
element_takes [] p fits e = absurd cc
element_takes (tag ∷ after) p fits e =
    let g = guard_ok (eqb (tag % 32) 31) Tag (len_at after >>= λ len. cond (ltb (length len.1) len.0) (Err Short) (Ok (record { tag = tag; content = take len.0 len.1; rest = drop len.0 len.1 }))) p e in
    let a = bind_ok (len_at after) (λ len. cond (ltb (length len.1) len.0) (Err Short) (Ok (record { tag = tag; content = take len.0 len.1; rest = drop len.0 len.1 }))) p g.1 in
    let h = guard_ok (ltb (length a.0.1) a.0.0) Short (Ok (record { tag = tag; content = take a.0.0 a.0.1; rest = drop a.0.0 a.0.1 })) p a.2 in
    let t = len_takes after a.0 (λ i. fits (suc i)) a.1 in
    let len : length (take a.0.0 a.0.1) ≡ a.0.0 = length-take-le a.0.0 a.0.1 (ltb-false _ _ h.0) in
    let made : Part = record { tag = tag; content = take a.0.0 a.0.1; rest = drop a.0.0 a.0.1 } in
    let same : made ≡ p = cc in
    let whole : tag ∷ after ≡ element tag (take a.0.0 a.0.1) ++ drop a.0.0 a.0.1 =
    ap (λ (x : List ℕ). tag ∷ x) (t.0 ∙ rw (append_assoc, take-append-drop, len) refl) in
    subst (λ (q : Part). (tag ∷ after ≡ element q.tag q.content ++ q.rest) × IsTag q.tag × (length q.content ≤ MOST_CONTENT)) same (whole, eqb-false _ _ g.0, omega (arith, t.1))

pub element_begins : (bytes : List ℕ) (p : Part) → IsBytes bytes → element_at bytes ≡ Ok p → Begins bytes p.tag p.content p.rest
element_begins bytes p fits e =
    let t = element_takes bytes p fits e in
    record { octets = t.0; low = t.1; few = t.2 }

pub begins_again : (bytes : List ℕ) (tag : ℕ) (content rest : List ℕ) → Begins bytes tag content rest → element_at bytes ≡ Ok (record { tag = tag; content = content; rest = rest })
begins_again bytes tag content rest is = ap element_at is.octets ∙ element_again tag content rest is.low is.few

pub whole_begins : (bytes : List ℕ) (tag : ℕ) (content : List ℕ) → Tlv bytes tag content → Begins bytes tag content []
whole_begins bytes tag content is = record { octets = is.octets ∙ sym (append-nil (element tag content)); low = is.low; few = is.few }

same_part : (read : Result Part DerFault) (p q : Part) → read ≡ Ok p → read ≡ Ok q → p ≡ q
same_part read p q one other = cc

-- the bytes begin with one element alone
pub begins_same : (bytes : List ℕ) (a b : ℕ) (c d x y : List ℕ) → Begins bytes a c x → Begins bytes b d y → SameElement a b c d x y
begins_same bytes a b c d x y one other =
    let same = same_part (element_at bytes) (record { tag = a; content = c; rest = x }) (record { tag = b; content = d; rest = y }) (begins_again bytes a c x one) (begins_again bytes b d y other) in
    record { tag = ap (λ (p : Part). p.tag) same; content = ap (λ (p : Part). p.content) same; rest = ap (λ (p : Part). p.rest) same }

pub element_split : (a b : ℕ) (c d x y : List ℕ) → IsTag a → IsTag b → length c ≤ MOST_CONTENT → length d ≤ MOST_CONTENT → element a c ++ x ≡ element b d ++ y → SameElement a b c d x y
element_split a b c d x y low_a low_b few_c few_d same =
    begins_same (element a c ++ x) a b c d x y (record { octets = refl; low = low_a; few = few_c }) (record { octets = same; low = low_b; few = few_d })

-- how long an element is
pub length-element : (tag : ℕ) (content : List ℕ) → length (element tag content) ≡ 1 + length (len_octets (length content)) + length content
unfolding element
length-element tag content = omega (arith, length-append (len_octets (length content)) content)

pub element_few : (tag : ℕ) (content : List ℕ) → length (element tag content) ≤ length content + 5
element_few tag content = omega (arith, length-element tag content, len_few (length content))
