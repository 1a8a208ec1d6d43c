-- What a codec gives for the clauses of its reader, and for its laws.
use Rattle.std.proofs.Common.{◌≡◌, ℕ, List, Option, Some, Result, Ok, Err, sym, ap, subst, ◌∙◌}
use Rattle.std.specs.Prelude.{IfOk, IsErrOf}
use Rattle.iot_bytes.specs.declared.memory.ReadError.{ReadError}
use Rattle.iot_bytes.specs.declared.memory.ReadError.TheVariants.{Malformed, NoMemory}
use Rattle.sgp_der.specs.Fields.{Gives}
use Rattle.sgp_values.proofs.Octets.{bounds_from_AllPass}
use Rattle.std.proofs.lemmas.Option.{same_Some}
use Rattle.iot_bytes.proofs.Framing.{IsBytes}
use Rattle.sgp_fields.specs.Fields.{Finds}
use Rattle.sgp_fields.specs.Laws.{ReadsSpelled, ReadAgain}
use Rattle.sgp_fields.proofs.Codecs.{IsCodec}

-- what is read is spelled so
pub found_by : {X : Type 0} {read : List ℕ → Option X} {spell : X → List ℕ} {Fits : X → Type 0} → IsCodec read spell Fits → (bytes : List ℕ) (r : Result X ReadError) → IsBytes bytes → Gives r (read bytes) → IfOk r (λ x. Fits x × (bytes ≡ spell x))
found_by codec bytes (Ok x) fits e = let t = codec.takes bytes x fits e in (t.1, t.0)
found_by codec bytes (Err error) fits e = tt

-- what is spelled so is read
pub only_by : {X : Type 0} {read : List ℕ → Option X} {spell : X → List ℕ} {Fits : X → Type 0} → IsCodec read spell Fits → (bytes : List ℕ) (r : Result X ReadError) → Gives r (read bytes) → (x : X) → Fits x → bytes ≡ spell x → Gives r (Some x)
only_by {X} {read} codec bytes (Ok y) e x fits is = sym (codec.again x fits) ∙ ap read (sym is) ∙ e
only_by {X} {read} codec bytes (Err Malformed) e x fits is = sym (codec.again x fits) ∙ ap read (sym is) ∙ e
only_by codec bytes (Err NoMemory) e x fits is = tt

-- what isn't read is spelled by no value
pub malformed_by : {X : Type 0} {read : List ℕ → Option X} {spell : X → List ℕ} {Fits : X → Type 0} → IsCodec read spell Fits → (bytes : List ℕ) (r : Result X ReadError) → Gives r (read bytes) → IsErrOf r Malformed → (x : X) → Fits x → bytes ≡ spell x → ⊥
malformed_by {X} {read} codec bytes r e wrong x fits is =
    let none : Gives (Err Malformed) (read bytes) = subst (λ (s : Result X ReadError). Gives s (read bytes)) wrong e in
    let some : read bytes ≡ Some x = ap read is ∙ codec.again x fits in
    absurd cc

-- two values with one spelling are the same
pub one_by : {X : Type 0} {read : List ℕ → Option X} {spell : X → List ℕ} {Fits : X → Type 0} → IsCodec read spell Fits → (a b : X) → Fits a → Fits b → spell a ≡ spell b → a ≡ b
one_by {X} {read} codec a b g h e = same_Some a b (sym (codec.again a g) ∙ ap read e ∙ codec.again b h)

-- the two laws of reading
pub reads_spelled : {X : Type 0} {read : List ℕ → Option X} {spell : X → List ℕ} {Fits : X → Type 0} → IsCodec read spell Fits → ReadsSpelled read spell Fits
reads_spelled codec bytes x octets e =
    let t = codec.takes bytes x (bounds_from_AllPass bytes octets) e in
    (t.1, t.0)

pub reads_again : {X : Type 0} {read : List ℕ → Option X} {spell : X → List ℕ} {Fits : X → Type 0} → IsCodec read spell Fits → ReadAgain read spell Fits
reads_again codec = codec.again

-- the same of a reader that takes no memory: what is read is spelled so
pub found_where : {X : Type 0} {read : List ℕ → Option X} {spell : X → List ℕ} {Fits : X → Type 0} → IsCodec read spell Fits → (bytes : List ℕ) (r : Result X ReadError) → IsBytes bytes → Finds r (read bytes) → IfOk r (λ x. Fits x × (bytes ≡ spell x))
found_where codec bytes (Ok x) fits e = let t = codec.takes bytes x fits e in (t.1, t.0)
found_where codec bytes (Err error) fits e = tt

-- what is spelled so is read
pub only_where : {X : Type 0} {read : List ℕ → Option X} {spell : X → List ℕ} {Fits : X → Type 0} → IsCodec read spell Fits → (bytes : List ℕ) (r : Result X ReadError) → Finds r (read bytes) → (x : X) → Fits x → bytes ≡ spell x → r ≡ Ok x
only_where {X} {read} codec bytes (Ok y) e x fits is = ap (λ (z : X). Ok z) (same_Some y x (sym e ∙ ap read is ∙ codec.again x fits))
only_where {X} {read} codec bytes (Err error) e x fits is =
    let some : read bytes ≡ Some x = ap read is ∙ codec.again x fits in
    absurd cc

-- what isn't read is spelled by no value
pub malformed_where : {X : Type 0} {read : List ℕ → Option X} {spell : X → List ℕ} {Fits : X → Type 0} → IsCodec read spell Fits → (bytes : List ℕ) (r : Result X ReadError) → Finds r (read bytes) → IsErrOf r Malformed → (x : X) → Fits x → bytes ≡ spell x → ⊥
malformed_where codec bytes r e wrong x fits is =
    let read : r ≡ Ok x = only_where codec bytes r e x fits is in
    absurd cc
