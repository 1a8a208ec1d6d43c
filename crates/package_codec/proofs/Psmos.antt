-- An operation on profiles that is read was spelled so, and one that is spelled is read again.
use Rattle.std.proofs.Common.{◌≡◌, ℕ, ◌≤◌, Bool, List, [], ◌++◌, length, Some, refl, ap, subst, ◌∙◌, arith, length-append}
use Rattle.sgp_der.specs.Element.{element}
use Rattle.sgp_der.proofs.Elements.{element_few}
use Rattle.sgp_der.proofs.Fields.{on_some}
use Rattle.sgp_fields.specs.Fields.{mark, last_mark_at}
use Rattle.sgp_fields.proofs.Codecs.{IsListed, IsSpelled, IsTaken}
use Rattle.sgp_fields.proofs.Elements.{on_tag}
use Rattle.sgp_fields.proofs.Marks.{last_mark_codec, mark_few}
use Rattle.sgp_fields.proofs.Steps.{on_value, on_last, on_end, value_again, last_again}
use Rattle.sgp_fields.proofs.ValueCodecs.{iccid_codec}
use Rattle.sgp_values.specs.Iccids.{IsIccid}
use Rattle.small_card.specs.Ranges.{IsPsmo}
use Rattle.small_card.specs.declared.types.Psmo.{Psmo}
use Rattle.small_card.specs.declared.types.Psmo.TheVariants as psmo_op
use Rattle.std.proofs.lemmas.Option.{same_Some}
use Rattle.iot_bytes.proofs.Framing.{IsBytes}
use Rattle.package_codec.specs.Spelling.{iccid_content, enable_content, psmo}
use Rattle.package_codec.specs.Reading.{enable_of, disable_of, delete_of, list_profiles_of, psmo_of}

enable_taken : (content : List ℕ) (op : Psmo) → IsBytes content → enable_of content ≡ Some op → IsTaken psmo IsPsmo 0xa0 content op
unfolding enable_of enable_content psmo IsPsmo
enable_taken content op fits e =
    on_value iccid_codec 0x80 content _ op fits e (λ iccid rest v e1.
    on_some (last_mark_at 0x81 rest) _ op e1 (λ rollback m e2.
    let t = (last_mark_codec 0x81 (omega arith)).takes rest rollback v.others m in
    let whole : content ≡ element 0x80 iccid ++ mark 0x81 rollback = v.parts ∙ ap (λ (r : List ℕ). element 0x80 iccid ++ r) t.0 in
    subst (IsTaken psmo IsPsmo 0xa0 content) (same_Some _ _ e2) (record { octets = ap (element 0xa0) whole; fits = v.fits })))

disable_taken : (content : List ℕ) (op : Psmo) → IsBytes content → disable_of content ≡ Some op → IsTaken psmo IsPsmo 0xa1 content op
unfolding disable_of iccid_content psmo IsPsmo
disable_taken content op fits e =
    on_last iccid_codec 0x80 content _ op fits e (λ iccid l e1.
    subst (IsTaken psmo IsPsmo 0xa1 content) (same_Some _ _ e1) (record { octets = ap (element 0xa1) l.octets; fits = l.fits }))

delete_taken : (content : List ℕ) (op : Psmo) → IsBytes content → delete_of content ≡ Some op → IsTaken psmo IsPsmo 0xa2 content op
unfolding delete_of iccid_content psmo IsPsmo
delete_taken content op fits e =
    on_last iccid_codec 0x80 content _ op fits e (λ iccid l e1.
    subst (IsTaken psmo IsPsmo 0xa2 content) (same_Some _ _ e1) (record { octets = ap (element 0xa2) l.octets; fits = l.fits }))

list_taken : (content : List ℕ) (op : Psmo) → list_profiles_of content ≡ Some op → IsTaken psmo IsPsmo 0x83 content op
unfolding list_profiles_of psmo IsPsmo
list_taken content op e =
    on_end content _ op e (λ end e1.
    subst (IsTaken psmo IsPsmo 0x83 content) (same_Some _ _ e1) (record { octets = ap (element 0x83) end; fits = tt }))

psmo_taken : (tag : ℕ) (content : List ℕ) (op : Psmo) → IsBytes content → psmo_of tag content ≡ Some op → IsTaken psmo IsPsmo tag content op
unfolding psmo_of
psmo_taken tag content op fits e =
    on_tag tag 0xa0 content _ _ op e (enable_taken content op fits) (λ e1.
    on_tag tag 0xa1 content _ _ op e1 (disable_taken content op fits) (λ e2.
    on_tag tag 0xa2 content _ _ op e2 (delete_taken content op fits) (λ e3.
    on_tag tag 0x83 content _ _ op e3 (list_taken content op) (λ none. absurd cc))))

enable_again : (iccid : List ℕ) (rollback : Bool) → IsIccid iccid → enable_of (enable_content iccid rollback) ≡ Some (psmo_op.Enable iccid rollback)
unfolding enable_of enable_content
enable_again iccid rollback fits =
    rw (value_again iccid_codec 0x80 iccid (mark 0x81 rollback) (omega arith) (omega (arith, fits.len)) fits)
    (rw ((last_mark_codec 0x81 (omega arith)).again rollback tt) refl)

disable_again : (iccid : List ℕ) → IsIccid iccid → disable_of (iccid_content iccid) ≡ Some (psmo_op.Disable iccid)
unfolding disable_of iccid_content
disable_again iccid fits = rw (last_again iccid_codec 0x80 iccid (omega arith) (omega (arith, fits.len)) fits) refl

delete_again : (iccid : List ℕ) → IsIccid iccid → delete_of (iccid_content iccid) ≡ Some (psmo_op.Delete iccid)
unfolding delete_of iccid_content
delete_again iccid fits = rw (last_again iccid_codec 0x80 iccid (omega arith) (omega (arith, fits.len)) fits) refl

list_again : list_profiles_of [] ≡ Some psmo_op.List
unfolding list_profiles_of
list_again = refl

enable_few : (iccid : List ℕ) (rollback : Bool) → IsIccid iccid → length (enable_content iccid rollback) ≤ 17
unfolding enable_content
enable_few iccid rollback fits = omega (arith, length-append (element 0x80 iccid) (mark 0x81 rollback), element_few 0x80 iccid, mark_few 0x81 rollback, fits.len)

iccid_few : (iccid : List ℕ) → IsIccid iccid → length (iccid_content iccid) ≤ 15
unfolding iccid_content
iccid_few iccid fits = omega (arith, element_few 0x80 iccid, fits.len)

psmo_again : (op : Psmo) → IsPsmo op → IsSpelled psmo_of psmo op
unfolding psmo_of psmo IsPsmo
psmo_again (psmo_op.Enable iccid rollback) fits = record {
  tag = 0xa0;
  content = enable_content iccid rollback;
  octets = refl;
  low = omega arith;
  few = omega (arith, enable_few iccid rollback fits);
  read = enable_again iccid rollback fits;
}
psmo_again (psmo_op.Disable iccid) fits = record {
  tag = 0xa1;
  content = iccid_content iccid;
  octets = refl;
  low = omega arith;
  few = omega (arith, iccid_few iccid fits);
  read = disable_again iccid fits;
}
psmo_again (psmo_op.Delete iccid) fits = record {
  tag = 0xa2;
  content = iccid_content iccid;
  octets = refl;
  low = omega arith;
  few = omega (arith, iccid_few iccid fits);
  read = delete_again iccid fits;
}
psmo_again psmo_op.List fits = record { tag = 0x83; content = []; octets = refl; low = omega arith; few = omega arith; read = list_again }

-- operations on profiles and their elements
pub psmo_listed : IsListed psmo_of psmo IsPsmo
psmo_listed = record { takes = λ tag content op fits few e. psmo_taken tag content op fits e; again = psmo_again }

-- how long they are at most
pub psmo_few : (op : Psmo) → IsPsmo op → length (psmo op) ≤ 30
unfolding psmo IsPsmo
psmo_few (psmo_op.Enable iccid rollback) fits = omega (arith, element_few 0xa0 (enable_content iccid rollback), enable_few iccid rollback fits)
psmo_few (psmo_op.Disable iccid) fits = omega (arith, element_few 0xa1 (iccid_content iccid), iccid_few iccid fits)
psmo_few (psmo_op.Delete iccid) fits = omega (arith, element_few 0xa2 (iccid_content iccid), iccid_few iccid fits)
psmo_few psmo_op.List fits = omega (arith, element_few 0x83 [])
