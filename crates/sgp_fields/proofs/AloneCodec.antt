-- Contents that are one number, or that a value is made of.
use Rattle.std.proofs.Common.{◌≡◌, ℕ, ◌^◌, ◌<◌, List, cond, Option, Some, refl, sym, subst, arith}
use Rattle.std.specs.Prelude.{◌==◌}
use Rattle.sgp_der.proofs.Fields.{on_some}
use Rattle.sgp_der.proofs.Values.{uint_few}
use Rattle.small_card.specs.Ranges.{IsNumber}
use Rattle.std.proofs.lemmas.Option.{same_Some}
use Rattle.iot_bytes.proofs.Framing.{IsBytes}
use Rattle.sgp_fields.specs.Alone.{made_of, number_alone, number_alone_of}
use Rattle.sgp_fields.proofs.Codecs.{IsCodec, IsTaken}
use Rattle.sgp_fields.proofs.Elements.{on_tag, record_codec}
use Rattle.sgp_fields.proofs.Numbers.{card_number_codec}
use Rattle.sgp_fields.proofs.ValueCodecs.{number_codec, IsIn}

-- a content that is one number
pub number_alone_codec : (least greatest : ℕ) → greatest < 2 ^ 64 → IsCodec (number_alone_of least greatest) number_alone (IsIn least greatest)
number_alone_codec least greatest low = record_codec (number_codec least greatest low) 0x80 (omega arith) (λ n h. omega (arith, uint_few n (omega (arith, h.high))))

-- a content that is one association or sequence number
pub card_number_alone_codec : IsCodec (number_alone_of 1 4294967295) number_alone IsNumber
card_number_alone_codec = record_codec card_number_codec 0x80 (omega arith) (λ n h. omega (arith, uint_few n (omega (arith, h.fits))))

-- what is made of a content is taken under its tag
pub made_taken : {X Y : Type 0} {of : List ℕ → Option X} {inner : X → List ℕ} {Inner : X → Type 0} {spell : Y → List ℕ} {Fits : Y → Type 0} → IsCodec of inner Inner → (made : X → Y) (tag : ℕ) (content : List ℕ) (y : Y) → IsBytes content
    → ((x : X) → Inner x → IsTaken spell Fits tag (inner x) (made x)) → made_of of made content ≡ Some y → IsTaken spell Fits tag content y
made_taken {X} {Y} {of} {inner} {Inner} {spell} {Fits} codec made tag content y fits each e =
    on_some (of content) _ y e (λ x a e1.
    let t = codec.takes content x fits a in
    let here : IsTaken spell Fits tag content (made x) = subst (λ (c : List ℕ). IsTaken spell Fits tag c (made x)) (sym t.0) (each x t.1) in
    subst (λ (z : Y). IsTaken spell Fits tag content z) (same_Some (made x) y e1) here)

-- and is made again
pub made_again : {X Y : Type 0} {of : List ℕ → Option X} {inner : X → List ℕ} {Inner : X → Type 0} → IsCodec of inner Inner → (made : X → Y) (x : X) → Inner x → made_of of made (inner x) ≡ Some (made x)
made_again codec made x h = rw (codec.again x h) refl

-- a choice by the tag: made of the content under this one, or taken as the other
pub on_made : {X Y : Type 0} {of : List ℕ → Option X} {inner : X → List ℕ} {Inner : X → Type 0} {spell : Y → List ℕ} {Fits : Y → Type 0} → IsCodec of inner Inner → (made : X → Y) (tag n : ℕ) (content : List ℕ) (other : Option Y) (y : Y) → IsBytes content
    → cond (tag == n) (made_of of made content) other ≡ Some y → ((x : X) → Inner x → IsTaken spell Fits n (inner x) (made x)) → (other ≡ Some y → IsTaken spell Fits tag content y) → IsTaken spell Fits tag content y
on_made {of = of} codec made tag n content other y fits e each there =
    on_tag tag n content (made_of of made content) other y e (made_taken codec made n content y fits each) there
