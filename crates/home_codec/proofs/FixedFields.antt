-- Fields of fixed size that are read were spelled so, and what is spelled is read again.
use Rattle.std.proofs.Common.{◌≡◌, ℕ, zero, suc, ◌-◌, ◌*◌, ◌≤◌, ◌<◌, ◌^◌, Bool, true, false, List, [], ◌∷◌, ◌++◌, length, take, drop, replicate, Option, Some, None, refl, sym, ap, subst, ◌∙◌, arith, append_assoc, length-append}
use Rattle.std.specs.Prelude.{◌==◌, nat_le, if◌then◌else◌}
use Rattle.std.specs.List.{flat_map}
use Rattle.std.specs.Int.{w32, w64, to_be_bytes, from_be_bytes}
use Rattle.std.proofs.Math.Seq.{take-append_seam, drop-append_seam}
use Rattle.std.proofs.lemmas.List.{take-append-drop, length-take-le, length-drop, length-replicate}
use Rattle.std.proofs.lemmas.Bool.{eqb-true, leb-true, le-leb, and_parts}
use Rattle.std.proofs.lemmas.Nat.{be_bytes_4, be_bytes_8, from_be_bytes-to_be_bytes_4, from_be_bytes-to_be_bytes_8}
use Rattle.sgp_der.specs.Fields.{◌>>=◌}
use Rattle.sgp_der.proofs.Fields.{on_some, guard_some, IsBytes-left, IsBytes-right}
use Rattle.sgp_fields.specs.Values.{only_if}
use Rattle.sgp_fields.proofs.Codecs.{IsCodec, IsFront, IsPrefix}
use Rattle.sgp_fields.proofs.Steps.{on_front, only_if_again}
use Rattle.sgp_fields.proofs.ValueCodecs.{octets}
use Rattle.small_card.specs.Lists.{Every}
use Rattle.std.proofs.lemmas.Option.{same_Some}
use Rattle.iot_bytes.proofs.Framing.{IsBytes}
use Rattle.home_codec.specs.Fixed.{zeros, word, long, text, slots, octet_at, octets_at, fixed_at, is_blank, blank_at, word_at, long_at, text_in, text_at, many_at, slots_at}

-- one octet at the front
pub on_octet : {A P : Type 0} (bytes : List ℕ) (f : ℕ × List ℕ → Option A) (y : A) → IsBytes bytes → (octet_at bytes >>= f) ≡ Some y
    → ((b : ℕ) (rest : List ℕ) → bytes ≡ b ∷ rest → b < 256 → IsBytes rest → f (b, rest) ≡ Some y → P) → P
on_octet [] f y fits e go = absurd cc
on_octet (b ∷ bs) f y fits e go = go b bs refl (fits 0) (λ i. fits (suc i)) e

-- the first octets, and what follows
pub record IsSplit (n : ℕ) (bytes front rest : List ℕ) : Type 0 where
  pub parts : bytes ≡ front ++ rest
  pub len : length front ≡ n
  pub within : IsBytes front
  pub others : IsBytes rest

split_at : (n : ℕ) (bytes : List ℕ) → n ≤ length bytes → IsBytes bytes → IsSplit n bytes (take n bytes) (drop n bytes)
split_at n bytes le fits =
    let whole : take n bytes ++ drop n bytes ≡ bytes = take-append-drop n bytes in
    let all : IsBytes (take n bytes ++ drop n bytes) = subst (λ (l : List ℕ). IsBytes l) (sym whole) fits in
    record { parts = sym whole; len = length-take-le n bytes le; within = IsBytes-left (take n bytes) (drop n bytes) all; others = IsBytes-right (take n bytes) (drop n bytes) all }

pub on_octets : {A P : Type 0} (n : ℕ) (bytes : List ℕ) (f : List ℕ × List ℕ → Option A) (y : A) → IsBytes bytes → (octets_at n bytes >>= f) ≡ Some y
    → ((front rest : List ℕ) → IsSplit n bytes front rest → f (front, rest) ≡ Some y → P) → P
unfolding octets_at
on_octets {A} {P} n bytes f y fits e go =
    on_some (octets_at n bytes) f y e (λ p a e1.
    let g = guard_some (nat_le n (length bytes)) _ p a in
    let same : (take n bytes, drop n bytes) ≡ p = g.1 in
    go (take n bytes) (drop n bytes) (split_at n bytes (leb-true _ _ g.0) fits) (ap f same ∙ e1))

pub octets_again : (n : ℕ) (front rest : List ℕ) → length front ≡ n → octets_at n (front ++ rest) ≡ Some (front, rest)
unfolding octets_at
octets_again n front rest len =
    let test : nat_le n (length (front ++ rest)) ≡ true = le-leb _ _ (omega (arith, length-append front rest)) in
    let first : take n (front ++ rest) ≡ front = ap (λ (k : ℕ). take k (front ++ rest)) (sym len) ∙ take-append_seam front rest in
    let second : drop n (front ++ rest) ≡ rest = ap (λ (k : ℕ). drop k (front ++ rest)) (sym len) ∙ drop-append_seam front rest in
    rw test (rw first (rw second refl))

fixed_takes : {X : Type 0} {of : List ℕ → Option X} {spell : X → List ℕ} {Fits : X → Type 0} → IsCodec of spell Fits → (n : ℕ) (bytes : List ℕ) (x : X) (rest : List ℕ) → IsBytes bytes → fixed_at of n bytes ≡ Some (x, rest) → IsFront spell Fits bytes x rest
unfolding fixed_at
fixed_takes {X} {of} {spell} {Fits} codec n bytes x rest fits e =
    on_octets n bytes _ (x, rest) fits e (λ front others s e1.
    on_some (of front) _ (x, rest) e1 (λ z a e2.
    let t = codec.takes front z s.within a in
    let same : (z, others) ≡ (x, rest) = same_Some _ _ e2 in
    subst (λ (p : X × List ℕ). IsFront spell Fits bytes p.0 p.1) same (record { parts = s.parts ∙ ap (λ (l : List ℕ). l ++ others) t.0; fits = t.1; others = s.others })))

fixed_again : {X : Type 0} {of : List ℕ → Option X} {spell : X → List ℕ} {Fits : X → Type 0} → IsCodec of spell Fits → (n : ℕ) → ((x : X) → Fits x → length (spell x) ≡ n) → (x : X) (rest : List ℕ) → Fits x → fixed_at of n (spell x ++ rest) ≡ Some (x, rest)
unfolding fixed_at
fixed_again {X} {of} {spell} codec n len x rest fits = rw (octets_again n (spell x) rest (len x fits)) (rw (codec.again x fits) refl)

-- a field of a fixed number of octets
pub fixed_field : {X : Type 0} {of : List ℕ → Option X} {spell : X → List ℕ} {Fits : X → Type 0} → IsCodec of spell Fits → (n : ℕ) → ((x : X) → Fits x → length (spell x) ≡ n) → IsPrefix (fixed_at of n) spell Fits
fixed_field {X} {of} {spell} {Fits} codec n len = record { takes = fixed_takes codec n; again = fixed_again codec n len }

pub length-zeros : (n : ℕ) → length (zeros n) ≡ n
unfolding zeros
length-zeros n = length-replicate n 0

pub zeros_blank : (n : ℕ) → is_blank (zeros n) ≡ true
unfolding zeros
zeros_blank zero = refl
zeros_blank (suc n) = zeros_blank n

pub blank_zeros : (xs : List ℕ) → is_blank xs ≡ true → xs ≡ zeros (length xs)
unfolding zeros
blank_zeros [] e = refl
blank_zeros (x ∷ xs) e =
    let k = and_parts (x == 0) (is_blank xs) e in
    let first : x ≡ 0 = eqb-true x 0 k.0 in
    let others : xs ≡ replicate (length xs) 0 = blank_zeros xs k.1 in
    cc

-- zeros at the front
pub on_blank : {A P : Type 0} (n : ℕ) (bytes : List ℕ) (f : List ℕ → Option A) (y : A) → IsBytes bytes → (blank_at n bytes >>= f) ≡ Some y
    → ((rest : List ℕ) → bytes ≡ zeros n ++ rest → IsBytes rest → f rest ≡ Some y → P) → P
unfolding blank_at
on_blank {A} {P} n bytes f y fits e go =
    on_some (blank_at n bytes) f y e (λ r a e1.
    on_octets n bytes _ r fits a (λ front rest s a1.
    let g = guard_some (is_blank front) rest r a1 in
    let same : front ≡ zeros n = blank_zeros front g.0 ∙ ap zeros s.len in
    go rest (s.parts ∙ ap (λ (l : List ℕ). l ++ rest) same) s.others (ap f g.1 ∙ e1)))

pub blank_again : (n : ℕ) (rest : List ℕ) → blank_at n (zeros n ++ rest) ≡ Some rest
unfolding blank_at
blank_again n rest = rw (octets_again n (zeros n) rest (length-zeros n)) (only_if_again (is_blank (zeros n)) rest (zeros_blank n))

-- a number in four octets
abbrev pub IsWord : ℕ → Type 0
IsWord n = n ≤ 4294967295

four_octets : (ds : List ℕ) → length ds ≡ 4 → IsBytes ds → from_be_bytes w32 ds ≤ 4294967295
four_octets [] len fits = absurd (omega arith)
four_octets (a ∷ []) len fits = absurd (omega arith)
four_octets (a ∷ b ∷ []) len fits = absurd (omega arith)
four_octets (a ∷ b ∷ c ∷ []) len fits = absurd (omega arith)
four_octets (a ∷ b ∷ c ∷ d ∷ []) len fits =
    let fa : a < 256 = fits 0 in
    let fb : b < 256 = fits 1 in
    let fc : c < 256 = fits 2 in
    let fd : d < 256 = fits 3 in
    omega arith
four_octets (a ∷ b ∷ c ∷ d ∷ e ∷ ds) len fits = absurd (omega arith)

pub length-word : (n : ℕ) → length (word n) ≡ 4
unfolding word
length-word n = refl

pub length-long : (n : ℕ) → length (long n) ≡ 8
unfolding long
length-long n = refl

word_takes : (bytes : List ℕ) (x : ℕ) (rest : List ℕ) → IsBytes bytes → word_at bytes ≡ Some (x, rest) → IsFront word IsWord bytes x rest
unfolding word_at word
word_takes bytes x rest fits e =
    on_octets 4 bytes _ (x, rest) fits e (λ front others s e1.
    let same : (from_be_bytes w32 front, others) ≡ (x, rest) = same_Some _ _ e1 in
    let spelled : to_be_bytes w32 (from_be_bytes w32 front) ≡ front = be_bytes_4 front _ s.len s.within refl in
    subst (λ (p : ℕ × List ℕ). IsFront word IsWord bytes p.0 p.1) same
    (record { parts = s.parts ∙ ap (λ (l : List ℕ). l ++ others) (sym spelled); fits = four_octets front s.len s.within; others = s.others }))

word_back : (x : ℕ) → IsWord x → from_be_bytes w32 (word x) ≡ x
unfolding word
word_back x fits = from_be_bytes-to_be_bytes_4 x (omega arith)

word_again : (x : ℕ) (rest : List ℕ) → IsWord x → word_at (word x ++ rest) ≡ Some (x, rest)
unfolding word_at
word_again x rest fits = rw (octets_again 4 (word x) rest (length-word x)) (rw (word_back x fits) refl)

pub word_field : IsPrefix word_at word IsWord
word_field = record { takes = word_takes; again = word_again }

-- any number: its octets say how great it can be
abbrev pub IsLong : ℕ → Type 0
IsLong n = n < 2 ^ 64

eight_octets : (ds : List ℕ) → length ds ≡ 8 → IsBytes ds → from_be_bytes w64 ds < 2 ^ 64
eight_octets [] len fits = absurd (omega arith)
eight_octets (a ∷ []) len fits = absurd (omega arith)
eight_octets (a ∷ b ∷ []) len fits = absurd (omega arith)
eight_octets (a ∷ b ∷ c ∷ []) len fits = absurd (omega arith)
eight_octets (a ∷ b ∷ c ∷ d ∷ []) len fits = absurd (omega arith)
eight_octets (a ∷ b ∷ c ∷ d ∷ e ∷ []) len fits = absurd (omega arith)
eight_octets (a ∷ b ∷ c ∷ d ∷ e ∷ f ∷ []) len fits = absurd (omega arith)
eight_octets (a ∷ b ∷ c ∷ d ∷ e ∷ f ∷ g ∷ []) len fits = absurd (omega arith)
eight_octets (a ∷ b ∷ c ∷ d ∷ e ∷ f ∷ g ∷ h ∷ []) len fits =
    let fa : a < 256 = fits 0 in
    let fb : b < 256 = fits 1 in
    let fc : c < 256 = fits 2 in
    let fd : d < 256 = fits 3 in
    let fe : e < 256 = fits 4 in
    let ff : f < 256 = fits 5 in
    let fg : g < 256 = fits 6 in
    let fh : h < 256 = fits 7 in
    omega arith
eight_octets (a ∷ b ∷ c ∷ d ∷ e ∷ f ∷ g ∷ h ∷ i ∷ ds) len fits = absurd (omega arith)

long_takes : (bytes : List ℕ) (x : ℕ) (rest : List ℕ) → IsBytes bytes → long_at bytes ≡ Some (x, rest) → IsFront long IsLong bytes x rest
unfolding long_at long
long_takes bytes x rest fits e =
    on_octets 8 bytes _ (x, rest) fits e (λ front others s e1.
    let same : (from_be_bytes w64 front, others) ≡ (x, rest) = same_Some _ _ e1 in
    let spelled : to_be_bytes w64 (from_be_bytes w64 front) ≡ front = be_bytes_8 front _ s.len s.within refl in
    subst (λ (p : ℕ × List ℕ). IsFront long IsLong bytes p.0 p.1) same
    (record { parts = s.parts ∙ ap (λ (l : List ℕ). l ++ others) (sym spelled); fits = eight_octets front s.len s.within; others = s.others }))

long_back : (x : ℕ) → IsLong x → from_be_bytes w64 (long x) ≡ x
unfolding long
long_back x fits = from_be_bytes-to_be_bytes_8 x fits

long_again : (x : ℕ) (rest : List ℕ) → IsLong x → long_at (long x ++ rest) ≡ Some (x, rest)
unfolding long_at
long_again x rest fits = rw (octets_again 8 (long x) rest (length-long x)) (rw (long_back x fits) refl)

pub long_field : IsPrefix long_at long IsLong
long_field = record { takes = long_takes; again = long_again }

-- a text in a field of n octets
text_taken : (n len : ℕ) (field x : List ℕ) → len ≤ n → length field ≡ n → is_blank (drop len field) ≡ true → take len field ≡ x → (field ≡ x ++ zeros (n - length x)) × (length x ≡ len)
text_taken n len field x few size blank is =
    let count : length x ≡ len = ap length (sym is) ∙ length-take-le len field (omega arith) in
    let behind : drop len field ≡ zeros (n - length x) = blank_zeros (drop len field) blank ∙ ap zeros (omega (arith, length-drop len field)) in
    (sym (take-append-drop len field) ∙ ap (λ (l : List ℕ). l ++ drop len field) is ∙ ap (λ (l : List ℕ). x ++ l) behind, count)

on_true : (b : Bool) (r : Option (List ℕ)) (z : List ℕ) → (if b then r else None) ≡ Some z → (b ≡ true) × (r ≡ Some z)
on_true true r z e = (refl, e)
on_true false r z e = absurd cc

text_takes : {of : List ℕ → Option (List ℕ)} {Fits : List ℕ → Type 0} → IsCodec of octets Fits → (n : ℕ) (bytes x rest : List ℕ) → IsBytes bytes → text_at of n bytes ≡ Some (x, rest) → IsFront (text n) Fits bytes x rest
unfolding text_at text
text_takes {of} {Fits} codec n bytes x rest fits e =
    on_octet bytes _ (x, rest) fits e (λ len behind first below others e1.
    on_octets n behind _ (x, rest) others e1 (λ field after s e2.
    on_some (only_if (nat_le len n) len) _ (x, rest) e2 (λ m a e3.
    let g = guard_some (nat_le len n) len m a in
    on_some (text_in of m field) _ (x, rest) e3 (λ z b e4.
    let h = on_true (is_blank (drop m field)) (of (take m field)) z b in
    let within : IsBytes (take m field) = IsBytes-left (take m field) (drop m field) (subst (λ (l : List ℕ). IsBytes l) (sym (take-append-drop m field)) s.within) in
    let t = codec.takes (take m field) z within h.1 in
    let same : (z, after) ≡ (x, rest) = same_Some _ _ e4 in
    let few : m ≤ n = omega (arith, leb-true len n g.0, g.1) in
    let k = text_taken n m field z few s.len h.0 t.0 in
    subst (λ (p : List ℕ × List ℕ). IsFront (text n) Fits bytes p.0 p.1) same
    (record { parts = first ∙ ap (λ (l : List ℕ). len ∷ l) s.parts ∙ ap (λ (c : ℕ). c ∷ field ++ after) (g.1 ∙ sym k.1) ∙ ap (λ (l : List ℕ). length z ∷ l ++ after) k.0; fits = t.1; others = s.others })))))

text_again : {of : List ℕ → Option (List ℕ)} {Fits : List ℕ → Type 0} → IsCodec of octets Fits → (n : ℕ) → ((x : List ℕ) → Fits x → length x ≤ n) → (x rest : List ℕ) → Fits x → text_at of n (text n x ++ rest) ≡ Some (x, rest)
unfolding text_at text
text_again {of} codec n few x rest fits =
    let room : length (x ++ zeros (n - length x)) ≡ n = omega (arith, length-append x (zeros (n - length x)), length-zeros (n - length x), few x fits) in
    let front : take (length x) (x ++ zeros (n - length x)) ≡ x = take-append_seam x (zeros (n - length x)) in
    let back : drop (length x) (x ++ zeros (n - length x)) ≡ zeros (n - length x) = drop-append_seam x (zeros (n - length x)) in
    rw (octets_again n (x ++ zeros (n - length x)) rest room)
    (rw (le-leb (length x) n (few x fits)) (rw back (rw (zeros_blank (n - length x)) (rw front (rw (codec.again x fits) refl)))))

pub text_field : {of : List ℕ → Option (List ℕ)} {Fits : List ℕ → Type 0} → IsCodec of octets Fits → (n : ℕ) → ((x : List ℕ) → Fits x → length x ≤ n) → IsPrefix (text_at of n) (text n) Fits
text_field codec n few = record { takes = text_takes codec n; again = text_again codec n few }

-- so many entries
pub record AreMany {X : Type 0} (spell : X → List ℕ) (Fits : X → Type 0) (n : ℕ) (bytes : List ℕ) (xs : List X) (rest : List ℕ) : Type 0 where
  pub parts : bytes ≡ flat_map spell xs ++ rest
  pub count : length xs ≡ n
  pub each : Every Fits xs
  pub others : IsBytes rest

pub many_takes : {X : Type 0} {entry : List ℕ → Option (X × List ℕ)} {spell : X → List ℕ} {Fits : X → Type 0} → IsPrefix entry spell Fits → (n : ℕ) (bytes : List ℕ) (xs : List X) (rest : List ℕ) → IsBytes bytes
    → many_at entry n bytes ≡ Some (xs, rest) → AreMany spell Fits n bytes xs rest
unfolding many_at
many_takes {X} {entry} {spell} {Fits} field zero bytes xs rest fits e =
    let same : ([], bytes) ≡ (xs, rest) = same_Some _ _ e in
    subst (λ (p : List X × List ℕ). AreMany spell Fits zero bytes p.0 p.1) same (record { parts = refl; count = refl; each = tt; others = fits })
many_takes {X} {entry} {spell} {Fits} field (suc n) bytes xs rest fits e =
    on_front field bytes _ (xs, rest) fits e (λ x after a e1.
    on_some (many_at entry n after) _ (xs, rest) e1 (λ p b e2.
    let t = many_takes field n after p.0 p.1 a.others b in
    let same : (x ∷ p.0, p.1) ≡ (xs, rest) = same_Some _ _ e2 in
    subst (λ (q : List X × List ℕ). AreMany spell Fits (suc n) bytes q.0 q.1) same
    (record { parts = a.parts ∙ ap (λ (l : List ℕ). spell x ++ l) t.parts ∙ sym (append_assoc (spell x) (flat_map spell p.0) p.1); count = omega (arith, t.count); each = (a.fits, t.each); others = t.others })))

pub many_again : {X : Type 0} {entry : List ℕ → Option (X × List ℕ)} {spell : X → List ℕ} {Fits : X → Type 0} → IsPrefix entry spell Fits → (xs : List X) (rest : List ℕ) → Every Fits xs
    → many_at entry (length xs) (flat_map spell xs ++ rest) ≡ Some (xs, rest)
unfolding many_at
many_again field [] rest each = refl
many_again {X} {entry} {spell} field (x ∷ xs) rest each =
    ap (many_at entry (suc (length xs))) (append_assoc (spell x) (flat_map spell xs) rest)
    ∙ rw (field.again x (flat_map spell xs ++ rest) each.0) (rw (many_again field xs rest each.1) refl)

-- entries in the first slots, and zeros in the others
pub record AreSlotted {X : Type 0} (spell : X → List ℕ) (Fits : X → Type 0) (size all n : ℕ) (bytes : List ℕ) (xs : List X) (rest : List ℕ) : Type 0 where
  pub parts : bytes ≡ slots spell size all xs ++ rest
  pub few : n ≤ all
  pub count : length xs ≡ n
  pub each : Every Fits xs
  pub others : IsBytes rest

pub on_slots : {X A P : Type 0} {entry : List ℕ → Option (X × List ℕ)} {spell : X → List ℕ} {Fits : X → Type 0} → IsPrefix entry spell Fits → (size all n : ℕ) (bytes : List ℕ) (f : List X × List ℕ → Option A) (y : A) → IsBytes bytes
    → (slots_at entry size all n bytes >>= f) ≡ Some y → ((xs : List X) (rest : List ℕ) → AreSlotted spell Fits size all n bytes xs rest → f (xs, rest) ≡ Some y → P) → P
unfolding slots_at slots
on_slots {X} {A} {P} {entry} {spell} {Fits} field size all n bytes f y fits e go =
    on_some (slots_at entry size all n bytes) f y e (λ r a e1.
    on_some (only_if (nat_le n all) n) _ r a (λ m b a1.
    let g = guard_some (nat_le n all) n m b in
    on_some (many_at entry m bytes) _ r a1 (λ p c a2.
    let t = many_takes field m bytes p.0 p.1 fits c in
    on_blank (size * (all - n)) p.1 _ r t.others a2 (λ rest blank others a3.
    let same : (p.0, rest) ≡ r = same_Some _ _ a3 in
    let zero_count : size * (all - n) ≡ size * (all - length p.0) = ap (λ (k : ℕ). size * (all - k)) (g.1 ∙ sym t.count) in
    go p.0 rest (record {
      parts = t.parts ∙ ap (λ (l : List ℕ). flat_map spell p.0 ++ l) (blank ∙ ap (λ (k : ℕ). zeros k ++ rest) zero_count) ∙ sym (append_assoc (flat_map spell p.0) (zeros (size * (all - length p.0))) rest);
      few = leb-true n all g.0;
      count = t.count ∙ sym g.1;
      each = t.each;
      others = others;
    }) (ap f same ∙ e1)))))

pub slots_again : {X : Type 0} {entry : List ℕ → Option (X × List ℕ)} {spell : X → List ℕ} {Fits : X → Type 0} → IsPrefix entry spell Fits → (size all : ℕ) (xs : List X) (rest : List ℕ) → length xs ≤ all → Every Fits xs
    → slots_at entry size all (length xs) (slots spell size all xs ++ rest) ≡ Some (xs, rest)
unfolding slots_at slots
slots_again {X} {entry} {spell} field size all xs rest few each =
    rw (le-leb (length xs) all few)
    (rw (append_assoc (flat_map spell xs) (zeros (size * (all - length xs))) rest)
    (rw (many_again field xs (zeros (size * (all - length xs)) ++ rest) each)
    (rw (blank_again (size * (all - length xs)) rest) refl)))
