-- What the reading of a value says, both ways.
use Rattle.std.specs.Prelude.{◌≡◌, ◌==◌, ◌&&◌, ℕ, nat_le, ◌↔◌, IsTrue, Bool, true, false, List, length, Some, None, if◌then◌else◌}
use Rattle.std.specs.Bool.{Decides}
use Rattle.std.specs.List.{AllPass, list_all}
use Rattle.std.specs.Str.{IsUtf8, is_utf8}
use Rattle.std.proofs.Common.{◌≤◌, refl, subst}
use Rattle.std.proofs.lemmas.Bool.{leb-true, le-leb, false_from_ne_true}
use Rattle.std.proofs.lemmas.Bool.Decides.{Decides-and, Decides-eqb, Decides-like}
use Rattle.std.proofs.lemmas.List.Sums.{AllPass-from_list_all, list_all-from_AllPass}
use Rattle.std.proofs.lemmas.Str.{IsUtf8-from_is_utf8, is_utf8-from_IsUtf8}
use Rattle.sgp_values.specs.Iccids.{IsIccid}
use Rattle.sgp_values.specs.Eids.{IsEid}
use Rattle.sgp_values.specs.Ranges.{is_octet, is_name_octet, is_address_octet, IsEimId, IsAddress, IsKey, IsNickname}
use Rattle.sgp_values.specs.Reading.{is_iccid, iccid_of, is_eid, eid_of, is_eim_id, eim_id_of, is_address, address_of, is_key, key_of, is_nickname, nickname_of}

-- a value that was read passed the test, and is the octets
takes_by : {P : Type 0} (b : Bool) (octets value : List ℕ) → Decides b P → (if b then Some octets else None) ≡ Some value → (octets ≡ value) × P
takes_by true octets value d e = ((cc), d.0 refl)
takes_by false octets value d e = absurd ((cc))

-- what passes the test is read as itself
again_by : {P : Type 0} (b : Bool) (octets : List ℕ) → Decides b P → P → (if b then Some octets else None) ≡ Some octets
again_by b octets d h = rw (d.1 h) refl

-- what does not pass the test is not read
refuses_by : {P : Type 0} (b : Bool) (octets : List ℕ) → Decides b P → ¬ P → (if b then Some octets else None) ≡ None
refuses_by b octets d h = rw (false_from_ne_true b (λ e. h (d.0 e))) refl

Decides-le : (m n : ℕ) → Decides (nat_le m n) (m ≤ n)
Decides-le m n = (leb-true m n, le-leb m n)

Decides-list_all : (p : ℕ → Bool) (octets : List ℕ) → Decides (list_all p octets) (AllPass p octets)
Decides-list_all p octets = (AllPass-from_list_all p octets, list_all-from_AllPass p octets)

-- a test of all octets decides whether each passes
pub decided_all : (p : ℕ → Bool) (octets : List ℕ) (b : Bool) → b ≡ list_all p octets → IsTrue b ↔ AllPass p octets
decided_all p octets b e = rw e (Decides-list_all p octets)

Decides-is_utf8 : (octets : List ℕ) → Decides (is_utf8 octets) (IsUtf8 octets)
Decides-is_utf8 octets = (IsUtf8-from_is_utf8 octets, is_utf8-from_IsUtf8 octets)

Decides-is_iccid : (octets : List ℕ) → Decides (is_iccid octets) (IsIccid octets)
Decides-is_iccid octets =
    Decides-like (is_iccid octets) (λ h. record { len = h.0; each = h.1 }) (λ h. (h.len, h.each))
    (Decides-and (length octets == 10) (list_all is_octet octets) (Decides-eqb (length octets) 10) (Decides-list_all is_octet octets))

Decides-is_eid : (octets : List ℕ) → Decides (is_eid octets) (IsEid octets)
Decides-is_eid octets =
    Decides-like (is_eid octets) (λ h. record { len = h.0; each = h.1 }) (λ h. (h.len, h.each))
    (Decides-and (length octets == 16) (list_all is_octet octets) (Decides-eqb (length octets) 16) (Decides-list_all is_octet octets))

Decides-is_eim_id : (octets : List ℕ) → Decides (is_eim_id octets) (IsEimId octets)
Decides-is_eim_id octets =
    Decides-like (is_eim_id octets) (λ h. record { some = h.0.0; few = h.0.1; each = h.1 }) (λ h. ((h.some, h.few), h.each))
    (Decides-and (nat_le 1 (length octets) && nat_le (length octets) 128) (list_all is_name_octet octets)
    (Decides-and (nat_le 1 (length octets)) (nat_le (length octets) 128) (Decides-le 1 (length octets)) (Decides-le (length octets) 128))
    (Decides-list_all is_name_octet octets))

Decides-is_address : (octets : List ℕ) → Decides (is_address octets) (IsAddress octets)
Decides-is_address octets =
    Decides-like (is_address octets) (λ h. record { few = h.0; each = h.1 }) (λ h. (h.few, h.each))
    (Decides-and (nat_le (length octets) 128) (list_all is_address_octet octets) (Decides-le (length octets) 128) (Decides-list_all is_address_octet octets))

Decides-is_key : (octets : List ℕ) → Decides (is_key octets) (IsKey octets)
Decides-is_key octets =
    Decides-like (is_key octets) (λ h. record { few = h.0; each = h.1 }) (λ h. (h.few, h.each))
    (Decides-and (nat_le (length octets) 128) (list_all is_octet octets) (Decides-le (length octets) 128) (Decides-list_all is_octet octets))

Decides-is_nickname : (octets : List ℕ) → Decides (is_nickname octets) (IsNickname octets)
Decides-is_nickname octets =
    Decides-like (is_nickname octets) (λ h. record { few = h.0; utf8 = h.1 }) (λ h. (h.few, h.utf8))
    (Decides-and (nat_le (length octets) 64) (is_utf8 octets) (Decides-le (length octets) 64) (Decides-is_utf8 octets))

-- an ICCID that was read is the octets
pub iccid_takes : (octets value : List ℕ) → iccid_of octets ≡ Some value → (octets ≡ value) × IsIccid value
unfolding iccid_of
iccid_takes octets value e =
    let t = takes_by (is_iccid octets) octets value (Decides-is_iccid octets) e in (t.0, subst IsIccid t.0 t.1)

-- an ICCID is read as itself
pub iccid_again : (octets : List ℕ) → IsIccid octets → iccid_of octets ≡ Some octets
unfolding iccid_of
iccid_again octets h = again_by (is_iccid octets) octets (Decides-is_iccid octets) h

-- nothing else is read as an ICCID
pub iccid_refuses : (octets : List ℕ) → ¬ IsIccid octets → iccid_of octets ≡ None
unfolding iccid_of
iccid_refuses octets h = refuses_by (is_iccid octets) octets (Decides-is_iccid octets) h

-- an EID that was read is the octets
pub eid_takes : (octets value : List ℕ) → eid_of octets ≡ Some value → (octets ≡ value) × IsEid value
unfolding eid_of
eid_takes octets value e =
    let t = takes_by (is_eid octets) octets value (Decides-is_eid octets) e in (t.0, subst IsEid t.0 t.1)

-- an EID is read as itself
pub eid_again : (octets : List ℕ) → IsEid octets → eid_of octets ≡ Some octets
unfolding eid_of
eid_again octets h = again_by (is_eid octets) octets (Decides-is_eid octets) h

-- nothing else is read as an EID
pub eid_refuses : (octets : List ℕ) → ¬ IsEid octets → eid_of octets ≡ None
unfolding eid_of
eid_refuses octets h = refuses_by (is_eid octets) octets (Decides-is_eid octets) h

-- an identifier of an eIM that was read is the octets
pub eim_id_takes : (octets value : List ℕ) → eim_id_of octets ≡ Some value → (octets ≡ value) × IsEimId value
unfolding eim_id_of
eim_id_takes octets value e =
    let t = takes_by (is_eim_id octets) octets value (Decides-is_eim_id octets) e in (t.0, subst IsEimId t.0 t.1)

-- an identifier of an eIM is read as itself
pub eim_id_again : (octets : List ℕ) → IsEimId octets → eim_id_of octets ≡ Some octets
unfolding eim_id_of
eim_id_again octets h = again_by (is_eim_id octets) octets (Decides-is_eim_id octets) h

-- nothing else is read as an identifier of an eIM
pub eim_id_refuses : (octets : List ℕ) → ¬ IsEimId octets → eim_id_of octets ≡ None
unfolding eim_id_of
eim_id_refuses octets h = refuses_by (is_eim_id octets) octets (Decides-is_eim_id octets) h

-- an address that was read is the octets
pub address_takes : (octets value : List ℕ) → address_of octets ≡ Some value → (octets ≡ value) × IsAddress value
unfolding address_of
address_takes octets value e =
    let t = takes_by (is_address octets) octets value (Decides-is_address octets) e in (t.0, subst IsAddress t.0 t.1)

-- an address is read as itself
pub address_again : (octets : List ℕ) → IsAddress octets → address_of octets ≡ Some octets
unfolding address_of
address_again octets h = again_by (is_address octets) octets (Decides-is_address octets) h

-- nothing else is read as an address
pub address_refuses : (octets : List ℕ) → ¬ IsAddress octets → address_of octets ≡ None
unfolding address_of
address_refuses octets h = refuses_by (is_address octets) octets (Decides-is_address octets) h

-- a key that was read is the octets
pub key_takes : (octets value : List ℕ) → key_of octets ≡ Some value → (octets ≡ value) × IsKey value
unfolding key_of
key_takes octets value e =
    let t = takes_by (is_key octets) octets value (Decides-is_key octets) e in (t.0, subst IsKey t.0 t.1)

-- a key is read as itself
pub key_again : (octets : List ℕ) → IsKey octets → key_of octets ≡ Some octets
unfolding key_of
key_again octets h = again_by (is_key octets) octets (Decides-is_key octets) h

-- nothing else is read as a key
pub key_refuses : (octets : List ℕ) → ¬ IsKey octets → key_of octets ≡ None
unfolding key_of
key_refuses octets h = refuses_by (is_key octets) octets (Decides-is_key octets) h

-- a nickname that was read is the octets
pub nickname_takes : (octets value : List ℕ) → nickname_of octets ≡ Some value → (octets ≡ value) × IsNickname value
unfolding nickname_of
nickname_takes octets value e =
    let t = takes_by (is_nickname octets) octets value (Decides-is_nickname octets) e in (t.0, subst IsNickname t.0 t.1)

-- a nickname is read as itself
pub nickname_again : (octets : List ℕ) → IsNickname octets → nickname_of octets ≡ Some octets
unfolding nickname_of
nickname_again octets h = again_by (is_nickname octets) octets (Decides-is_nickname octets) h

-- nothing else is read as a nickname
pub nickname_refuses : (octets : List ℕ) → ¬ IsNickname octets → nickname_of octets ≡ None
unfolding nickname_of
nickname_refuses octets h = refuses_by (is_nickname octets) octets (Decides-is_nickname octets) h
