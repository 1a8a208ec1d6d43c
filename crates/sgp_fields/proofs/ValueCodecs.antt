-- The codecs of the values that a field's content may be.
use Rattle.std.proofs.Common.{◌≡◌, ℕ, ◌^◌, ◌<◌, ◌≤◌, Bool, true, false, cond, List, [], length, Some, refl, ap, subst, ◌∙◌, arith, inl, inr}
use Rattle.std.specs.Prelude.{◌==◌, ◌&&◌, ◌⊎◌, nat_le}
use Rattle.std.proofs.lemmas.Bool.{eqb-true, leb-true, le-leb, and_parts, and_from}
use Rattle.sgp_der.specs.Number.{uint, uint_of}
use Rattle.sgp_der.proofs.Fields.{on_some, guard_some, nothing}
use Rattle.sgp_der.proofs.Values.{uint_takes, uint_again, uint_few}
use Rattle.sgp_values.specs.Iccids.{IsIccid}
use Rattle.sgp_values.specs.Eids.{IsEid}
use Rattle.sgp_values.specs.Ranges.{IsEimId, IsAddress, IsKey, IsNickname}
use Rattle.sgp_values.specs.Reading.{iccid_of, eid_of, eim_id_of, address_of, key_of, nickname_of}
use Rattle.sgp_values.proofs.Reading.{iccid_takes, iccid_again, eid_takes, eid_again, eim_id_takes, eim_id_again, address_takes, address_again, key_takes, key_again, nickname_takes, nickname_again}
use Rattle.std.proofs.lemmas.Option.{same_Some}
use Rattle.iot_bytes.proofs.Framing.{IsBytes}
use Rattle.sgp_fields.specs.Values.{flag, flag_content, flag_of_number, flag_of, number_of, mark_of}
use Rattle.sgp_fields.proofs.Codecs.{IsCodec}
use Rattle.sgp_fields.proofs.Steps.{only_if_again}

-- octets stand for themselves
abbrev pub octets : List ℕ → List ℕ
octets xs = xs

pub iccid_codec : IsCodec iccid_of octets IsIccid
iccid_codec = record { takes = λ content x fits e. iccid_takes content x e; again = iccid_again }

pub eid_codec : IsCodec eid_of octets IsEid
eid_codec = record { takes = λ content x fits e. eid_takes content x e; again = eid_again }

pub eim_id_codec : IsCodec eim_id_of octets IsEimId
eim_id_codec = record { takes = λ content x fits e. eim_id_takes content x e; again = eim_id_again }

pub address_codec : IsCodec address_of octets IsAddress
address_codec = record { takes = λ content x fits e. address_takes content x e; again = address_again }

pub key_codec : IsCodec key_of octets IsKey
key_codec = record { takes = λ content x fits e. key_takes content x e; again = key_again }

pub nickname_codec : IsCodec nickname_of octets IsNickname
nickname_codec = record { takes = λ content x fits e. nickname_takes content x e; again = nickname_again }

-- which way a test went
pub chosen : {A : Type 0} (b : Bool) (x y z : A) → cond b x y ≡ z → ((b ≡ true) × (x ≡ z)) ⊎ ((b ≡ false) × (y ≡ z))
chosen true x y z e = inl (refl, e)
chosen false x y z e = inr (refl, e)

pub flag_number : (n : ℕ) (b : Bool) → flag_of_number n ≡ Some b → n ≡ flag b
flag_number n b e =
    elim (chosen (n == 0) _ _ _ e) [
      | inl h ↦ eqb-true n 0 h.0 ∙ ap flag (same_Some false b h.1)
      | inr h ↦
          elim (chosen (n == 1) _ _ _ h.1) [
            | inl k ↦ eqb-true n 1 k.0 ∙ ap flag (same_Some true b k.1)
            | inr k ↦ absurd cc
          ]
    ]

flag_takes : (content : List ℕ) (b : Bool) → IsBytes content → flag_of content ≡ Some b → content ≡ flag_content b
unfolding flag_of flag_content
flag_takes content b fits e =
    on_some (uint_of content) _ b e (λ n a e1.
    let t = uint_takes content n fits a in
    t.0 ∙ ap uint (flag_number n b e1))

flag_again : (b : Bool) → flag_of (flag_content b) ≡ Some b
unfolding flag_of flag_content
flag_again true = rw (uint_again 1 (omega arith)) refl
flag_again false = rw (uint_again 0 (omega arith)) refl

-- every flag is in range
abbrev pub IsAny : {X : Type 0} → X → Type 0
IsAny x = Unit {0}

pub flag_codec : IsCodec flag_of flag_content IsAny
flag_codec = record { takes = λ content b fits e. (flag_takes content b fits e, tt); again = λ b h. flag_again b }

pub flag_few : (b : Bool) → length (flag_content b) ≤ 9
unfolding flag_content
flag_few true = uint_few 1 (omega arith)
flag_few false = uint_few 0 (omega arith)

-- a number in its range
pub record IsIn (least greatest n : ℕ) : Type 0 where
  pub low : least ≤ n
  pub high : n ≤ greatest

number_takes : (least greatest : ℕ) (content : List ℕ) (n : ℕ) → IsBytes content → number_of least greatest content ≡ Some n → (content ≡ uint n) × IsIn least greatest n
unfolding number_of
number_takes least greatest content n fits e =
    on_some (uint_of content) _ n e (λ m a e1.
    let t = uint_takes content m fits a in
    let g = guard_some (nat_le least m && nat_le m greatest) m n e1 in
    let p = and_parts (nat_le least m) (nat_le m greatest) g.0 in
    subst (λ (k : ℕ). (content ≡ uint k) × IsIn least greatest k) g.1 (t.0, record { low = leb-true least m p.0; high = leb-true m greatest p.1 }))

number_again : (least greatest n : ℕ) → greatest < 2 ^ 64 → IsIn least greatest n → number_of least greatest (uint n) ≡ Some n
unfolding number_of
number_again least greatest n low fits =
    rw (uint_again n (omega (arith, fits.high))) (only_if_again (nat_le least n && nat_le n greatest) n (and_from (nat_le least n) (nat_le n greatest) (le-leb least n fits.low) (le-leb n greatest fits.high)))

pub number_codec : (least greatest : ℕ) → greatest < 2 ^ 64 → IsCodec (number_of least greatest) uint (IsIn least greatest)
number_codec least greatest low = record { takes = λ content n fits e. number_takes least greatest content n fits e; again = λ n h. number_again least greatest n low h }

-- a mark has no content
abbrev pub no_content : Unit {0} → List ℕ
no_content u = []

mark_takes : (content : List ℕ) (u : Unit {0}) → mark_of content ≡ Some u → content ≡ []
unfolding mark_of
mark_takes content u e = nothing content u e

mark_again : (u : Unit {0}) → mark_of [] ≡ Some u
unfolding mark_of
mark_again u = refl

pub mark_codec : IsCodec mark_of no_content IsAny
mark_codec = record { takes = λ content u fits e. (mark_takes content u e, tt); again = λ u h. mark_again u }
