-- What is read is in range.
use Rattle.std.proofs.Common.{◌≡◌, ℕ, ◌≤◌, zero, suc, Bool, true, false, cond, List, [], ◌∷◌, length, Option, Some, None, IfSome, Result, Ok, Err, refl, subst, arith}
use Rattle.std.specs.Prelude.{◌&&◌, nat_le, codes, is_some}
use Rattle.std.specs.List.{AllPass}
use Rattle.std.proofs.lemmas.Bool.{and_parts, leb-true}
use Rattle.hex.specs.Hex.{decode_of}
use Rattle.hex.specs.declared.error.FromHexError.{FromHexError}
use Rattle.hex.proofs.HexLemmas.{decode_of-ok}
use Rattle.sgp_der.proofs.Fields.{on_some, guard_some}
use Rattle.sgp_values.specs.Iccids.{IsIccid}
use Rattle.sgp_values.specs.Eids.{IsEid}
use Rattle.sgp_values.specs.Ranges.{IsEimId, IsAddress, IsKey, IsNickname, is_octet}
use Rattle.sgp_values.specs.Reading.{iccid_of, eid_of, eim_id_of, address_of, key_of, nickname_of}
use Rattle.sgp_values.proofs.Octets.{AllPass-from_bounds}
use Rattle.sgp_values.proofs.Reading.{iccid_takes, eid_takes, eim_id_takes, address_takes, key_takes, nickname_takes}
use Rattle.small_card.specs.Lists.{same}
use Rattle.small_card.specs.Ranges.{IsProfile, IsPsmo, IsEco, IsBody}
use Rattle.small_card.specs.declared.types.Psmo.{Psmo}
use Rattle.small_card.specs.declared.types.Psmo.TheVariants as psmo_op
use Rattle.small_card.specs.declared.types.Eco.TheVariants as eco_op
use Rattle.small_card.specs.declared.types.Body.{Body}
use Rattle.small_card.specs.declared.types.Body.TheVariants.{Psmos, Ecos}
use Rattle.sgp_fields.proofs.ListCodec.{IsList}
use Rattle.sgp_fields.proofs.ValueCodecs.{IsIn}
use Rattle.std.proofs.lemmas.Option.{same_Some}
use Rattle.iot_schedule.specs.declared.types.Pick.TheVariants.{At, Last}
use Rattle.iot_schedule.specs.Words.{word_at, last_word, list_of}
use Rattle.iot_schedule.specs.Tokens.{before, behind, marked, octets_of, hex_of, decimal_of, number_of, eid_word, iccid_word, address_word, key_digits, key_word, sign_of, nickname_digits, profile_word, pick_word, bytes_word}
use Rattle.iot_schedule.specs.Operations.{psmo_named, psmo_word, optional_of, add_of, update_of, drop_of, eco_named, eco_word, psmos_of, ecos_of, body_of}
use Rattle.iot_schedule.specs.Ranges.{IsPick}

-- whatever a word is read as is in range
abbrev pub Fitting : {X : Type 0} → (List ℕ → Option X) → (X → Type 0) → Type 0
Fitting {X} of P = (w : List ℕ) (x : X) → of w ≡ Some x → P x

-- which way a test went
pub branch : {A P : Type 0} (test : Bool) (x y : Option A) (z : A) → cond test x y ≡ Some z → (x ≡ Some z → P) → (y ≡ Some z → P) → P
branch true x y z e yes_way no_way = yes_way e
branch false x y z e yes_way no_way = no_way e

pub last_fits : {X : Type 0} {of : List ℕ → Option X} {P : X → Type 0} → Fitting of P → (ws : List (List ℕ)) (x : X) → last_word of ws ≡ Some x → P x
unfolding last_word
last_fits fits [] x e = absurd cc
last_fits fits (w ∷ []) x e = fits w x e
last_fits fits (w ∷ v ∷ ws) x e = absurd cc

pub word_fits : {X : Type 0} {of : List ℕ → Option X} {P : X → Type 0} → Fitting of P → (ws : List (List ℕ)) (r : X × List (List ℕ)) → word_at of ws ≡ Some r → P r.0
unfolding word_at
word_fits fits [] r e = absurd cc
word_fits {X} {of} {P} fits (w ∷ ws) r e =
    on_some {B = X × List (List ℕ)} (of w) (λ x. Some (x, ws)) r e (λ x a e1.
    let is : (x, ws) ≡ r = same_Some (x, ws) r e1 in
    subst (λ (q : X × List (List ℕ)). P q.0) is (fits w x a))

pub list_fits : {X : Type 0} {of : List ℕ → Option X} {P : X → Type 0} → Fitting of P → (most : ℕ) (ws : List (List ℕ)) (xs : List X) → list_of of most ws ≡ Some xs → IsList P most xs
unfolding list_of
list_fits {X} {of} {P} fits most [] xs e = subst (IsList P most) (same_Some [] xs e) (record { few = omega arith; each = tt })
list_fits fits zero (w ∷ ws) xs e = absurd cc
list_fits {X} {of} {P} fits (suc more) (w ∷ ws) xs e =
    on_some (of w) _ xs e (λ x a e1.
    on_some (list_of of more ws) (λ others. Some (x ∷ others)) xs e1 (λ others b e2.
    let rest = list_fits fits more ws others b in
    subst (IsList P (suc more)) (same_Some (x ∷ others) xs e2) (record { few = omega (arith, rest.few); each = (fits w x a, rest.each) })))

pub number_fits : (least greatest : ℕ) → Fitting (number_of least greatest) (IsIn least greatest)
unfolding number_of
number_fits least greatest w n e =
    on_some (decimal_of w) _ n e (λ m a e1.
    let g = guard_some (nat_le least m && nat_le m greatest) m n e1 in
    let parts = and_parts (nat_le least m) (nat_le m greatest) g.0 in
    subst (IsIn least greatest) g.1 (record { low = leb-true least m parts.0; high = leb-true m greatest parts.1 }))

pub eid_fits : Fitting eid_word IsEid
unfolding eid_word
eid_fits w x e = on_some (hex_of w) eid_of x e (λ o a e1. (eid_takes o x e1).1)

iccid_fits : Fitting iccid_word IsIccid
unfolding iccid_word
iccid_fits w x e = on_some (hex_of w) iccid_of x e (λ o a e1. (iccid_takes o x e1).1)

pub name_fits : Fitting eim_id_of IsEimId
name_fits w x e = (eim_id_takes w x e).1

address_fits : Fitting address_of IsAddress
address_fits w x e = (address_takes w x e).1

pub address_word_fits : Fitting address_word IsAddress
unfolding address_word
address_word_fits w x e = on_some (marked 64 w) address_of x e (λ t a e1. address_fits t x e1)

key_fits : Fitting key_digits IsKey
unfolding key_digits
key_fits w x e = on_some (hex_of w) key_of x e (λ o a e1. (key_takes o x e1).1)

pub key_word_fits : Fitting key_word IsKey
unfolding key_word
key_word_fits w x e = on_some (marked 35 w) key_digits x e (λ t a e1. key_fits t x e1)

nickname_fits : Fitting nickname_digits IsNickname
unfolding nickname_digits
nickname_fits w x e = on_some (hex_of w) nickname_of x e (λ o a e1. (nickname_takes o x e1).1)

pub profile_fits : Fitting profile_word IsProfile
unfolding profile_word
profile_fits [] p e = absurd cc
profile_fits (sign ∷ text) p e =
    on_some (sign_of sign) _ p e (λ enabled a e1.
    on_some (iccid_word (before 37 text)) _ p e1 (λ iccid b e2.
    on_some (behind 37 text) _ p e2 (λ digits c e3.
    on_some (nickname_digits digits) (λ nickname. Some (record { iccid = iccid; enabled = enabled; nickname = nickname })) p e3 (λ nickname d e4.
    subst IsProfile (same_Some (record { iccid = iccid; enabled = enabled; nickname = nickname }) p e4)
    (record { iccid = iccid_fits (before 37 text) iccid b; nickname = nickname_fits digits nickname d })))))

pub pick_fits : Fitting pick_word IsPick
unfolding pick_word
pick_fits w p e =
    branch (same w (codes "last")) (Some Last) _ p e
    (λ e1. subst IsPick (same_Some Last p e1) tt)
    (λ e1. on_some (number_of 0 4294967295 w) (λ n. Some (At n)) p e1 (λ n a e2. subst IsPick (same_Some (At n) p e2) (number_fits 0 4294967295 w n a).high))

octets_fit : (d : Result (List ℕ) FromHexError) (w x : List ℕ) → decode_of w ≡ d → octets_of d ≡ Some x → AllPass is_octet x
octets_fit (Ok o) w x is e = subst (AllPass is_octet) (same_Some o x e) (AllPass-from_bounds o (decode_of-ok w o is).3)
octets_fit (Err f) w x is e = absurd cc

hex_fits : Fitting hex_of (AllPass is_octet)
unfolding hex_of
hex_fits w x e = octets_fit (decode_of w) w x refl e

no_octets : AllPass is_octet []
no_octets k d lt = absurd (omega arith)

pub bytes_fits : Fitting bytes_word (AllPass is_octet)
unfolding bytes_word
bytes_fits [] x e = absurd cc
bytes_fits (b ∷ bs) x e =
    branch (same (b ∷ bs) (codes "-")) (Some []) (hex_of (b ∷ bs)) x e
    (λ e1. subst (AllPass is_octet) (same_Some [] x e1) no_octets)
    (λ e1. hex_fits (b ∷ bs) x e1)

psmo_named_fits : (name iccid : List ℕ) (op : Psmo) → IsIccid iccid → psmo_named name iccid ≡ Some op → IsPsmo op
unfolding psmo_named IsPsmo
psmo_named_fits name iccid op fits e =
    branch (same name (codes "enable")) _ _ op e (λ e1. subst IsPsmo (same_Some (psmo_op.Enable iccid false) op e1) fits) (λ e1.
    branch (same name (codes "enable!")) _ _ op e1 (λ e2. subst IsPsmo (same_Some (psmo_op.Enable iccid true) op e2) fits) (λ e2.
    branch (same name (codes "disable")) _ _ op e2 (λ e3. subst IsPsmo (same_Some (psmo_op.Disable iccid) op e3) fits) (λ e3.
    branch (same name (codes "delete")) _ _ op e3 (λ e4. subst IsPsmo (same_Some (psmo_op.Delete iccid) op e4) fits) (λ e4. absurd cc))))

psmo_fits : Fitting psmo_word IsPsmo
unfolding psmo_word IsPsmo
psmo_fits w op e =
    branch (same w (codes "list")) _ _ op e (λ e1. subst IsPsmo (same_Some psmo_op.List op e1) tt) (λ e1.
    on_some (behind 58 w) _ op e1 (λ digits a e2.
    on_some (iccid_word digits) (psmo_named (before 58 w)) op e2 (λ iccid b e3.
    psmo_named_fits (before 58 w) iccid op (iccid_fits digits iccid b) e3)))

optional_fits : {of : List ℕ → Option (List ℕ)} {P : List ℕ → Type 0} → Fitting of P → (w : Option (List ℕ)) (x : Option (List ℕ)) → optional_of of w ≡ Some x → IfSome x (λ y. P y)
optional_fits {of} {P} fits None x e = subst (λ (y : Option (List ℕ)). IfSome y (λ z. P z)) (same_Some None x e) tt
optional_fits {of} {P} fits (Some w) x e =
    on_some (of w) (λ y. Some (Some y)) x e (λ y a e1. subst (λ (z : Option (List ℕ)). IfSome z (λ v. P v)) (same_Some (Some y) x e1) (fits w y a))

add_fits : Fitting add_of IsEco
unfolding add_of IsEco
add_fits text op e =
    on_some (behind 35 text) _ op e (λ digits a e1.
    on_some (behind 64 (before 35 text)) _ op e1 (λ rest b e2.
    on_some (eim_id_of (before 64 (before 35 text))) _ op e2 (λ id c e3.
    on_some (address_of rest) _ op e3 (λ address d e4.
    on_some (key_digits digits) (λ key. Some (eco_op.Add id address key)) op e4 (λ key f e5.
    subst IsEco (same_Some (eco_op.Add id address key) op e5) (name_fits _ id c, address_fits rest address d, key_fits digits key f))))))

update_fits : Fitting update_of IsEco
unfolding update_of IsEco
update_fits text op e =
    on_some (eim_id_of (before 64 (before 35 text))) _ op e (λ id c e1.
    on_some (optional_of address_of (behind 64 (before 35 text))) _ op e1 (λ address d e2.
    on_some (optional_of key_digits (behind 35 text)) (λ key. Some (eco_op.Update id address key)) op e2 (λ key f e3.
    subst IsEco (same_Some (eco_op.Update id address key) op e3) (name_fits _ id c, optional_fits address_fits _ address d, optional_fits key_fits _ key f))))

drop_fits : Fitting drop_of IsEco
unfolding drop_of IsEco
drop_fits text op e = on_some (eim_id_of text) (λ id. Some (eco_op.Delete id)) op e (λ id a e1. subst IsEco (same_Some (eco_op.Delete id) op e1) (name_fits text id a))

eco_fits : Fitting eco_word IsEco
unfolding eco_word eco_named IsEco
eco_fits w op e =
    branch (same w (codes "eims")) _ _ op e (λ e1. subst IsEco (same_Some eco_op.List op e1) tt) (λ e1.
    on_some (behind 58 w) _ op e1 (λ text a e2.
    branch (same (before 58 w) (codes "add")) _ _ op e2 (λ e3. add_fits text op e3) (λ e3.
    branch (same (before 58 w) (codes "update")) _ _ op e3 (λ e4. update_fits text op e4) (λ e4.
    branch (same (before 58 w) (codes "drop")) _ _ op e4 (λ e5. drop_fits text op e5) (λ e5. absurd cc)))))

-- a list of at least one word isn't read as no value
some_read : {X : Type 0} (of : List ℕ → Option X) (most : ℕ) (w : List ℕ) (ws : List (List ℕ)) (xs : List X) → list_of of most (w ∷ ws) ≡ Some xs → 1 ≤ length xs
unfolding list_of
some_read of zero w ws xs e = absurd cc
some_read {X} of (suc more) w ws xs e =
    on_some (of w) _ xs e (λ x a e1.
    on_some (list_of of more ws) (λ others. Some (x ∷ others)) xs e1 (λ others b e2.
    subst (λ (ys : List X). 1 ≤ length ys) (same_Some (x ∷ others) xs e2) (omega arith)))

pub body_fits : (ws : List (List ℕ)) (b : Body) → body_of ws ≡ Some b → IsBody b
unfolding body_of psmos_of ecos_of IsBody
body_fits [] b e = absurd cc
body_fits (w ∷ ws) b e =
    branch (is_some (psmo_word w)) _ _ b e
    (λ e1. on_some (list_of psmo_word 8 (w ∷ ws)) (λ ops. Some (Psmos ops)) b e1 (λ ops a e2.
    let l = list_fits psmo_fits 8 (w ∷ ws) ops a in
    subst IsBody (same_Some (Psmos ops) b e2) (record { some = some_read psmo_word 8 w ws ops a; few = l.few }, l.each)))
    (λ e1. on_some (list_of eco_word 8 (w ∷ ws)) (λ ops. Some (Ecos ops)) b e1 (λ ops a e2.
    let l = list_fits eco_fits 8 (w ∷ ws) ops a in
    subst IsBody (same_Some (Ecos ops) b e2) (record { some = some_read eco_word 8 w ws ops a; few = l.few }, l.each)))
