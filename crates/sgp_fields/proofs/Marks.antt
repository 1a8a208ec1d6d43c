-- A mark that is read was spelled so, and one that is spelled is read again.
use Rattle.std.proofs.Common.{◌≡◌, ℕ, ◌≤◌, Bool, true, false, List, [], ◌∷◌, length, Some, refl, ap, ◌∙◌, arith}
use Rattle.sgp_der.specs.Element.{element, len_octets, IsTag}
use Rattle.sgp_der.specs.Fields.{only_at}
use Rattle.sgp_der.proofs.Fields.{only_again}
use Rattle.std.proofs.lemmas.Option.{same_Some}
use Rattle.iot_bytes.proofs.Framing.{IsBytes}
use Rattle.sgp_fields.specs.Fields.{last_mark_at, mark}
use Rattle.sgp_fields.proofs.Codecs.{IsCodec}
use Rattle.sgp_fields.proofs.Steps.{on_only, on_end}
use Rattle.sgp_fields.proofs.ValueCodecs.{IsAny}

takes : (tag : ℕ) (bytes : List ℕ) (set : Bool) → IsBytes bytes → last_mark_at tag bytes ≡ Some set → bytes ≡ mark tag set
unfolding last_mark_at
takes tag [] set fits e = ap (mark tag) (same_Some false set e)
takes tag (b ∷ bs) set fits e =
    on_only tag (b ∷ bs) _ set fits e (λ content w e1.
    on_end content _ set e1 (λ end e2.
    w.octets ∙ ap (element tag) end ∙ ap (mark tag) (same_Some true set e2)))

one_left : (tag a : ℕ) (rest : List ℕ) → only_at tag (a ∷ rest) ≡ Some [] → last_mark_at tag (a ∷ rest) ≡ Some true
unfolding last_mark_at
one_left tag a rest e = rw e refl

again : (tag : ℕ) → IsTag tag → (set : Bool) → last_mark_at tag (mark tag set) ≡ Some set
unfolding last_mark_at element
again tag low true = one_left tag tag _ (only_again tag [] low (omega arith))
again tag low false = refl

-- marks and their octets
pub last_mark_codec : (tag : ℕ) → IsTag tag → IsCodec (last_mark_at tag) (mark tag) IsAny
last_mark_codec tag low = record { takes = λ bytes set fits e. (takes tag bytes set fits e, tt); again = λ set h. again tag low set }

pub mark_few : (tag : ℕ) (set : Bool) → length (mark tag set) ≤ 2
unfolding element len_octets
mark_few tag true = omega arith
mark_few tag false = omega arith
