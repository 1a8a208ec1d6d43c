-- Each operation that is spelled is read again.
use Rattle.std.proofs.Common.{◌≡◌, ℕ, ◌≤◌, zero, suc, true, false, List, [], ◌∷◌, ◌++◌, map, length, Option, Some, None, IfSome, refl, sym, arith, append_assoc}
use Rattle.std.proofs.lemmas.List.{append-nil}
use Rattle.iot_bytes.specs.Hexes.{hex}
use Rattle.sgp_der.specs.Fields.{◌>>=◌}
use Rattle.sgp_values.specs.Ranges.{IsEimId, IsAddress, IsKey, is_name_octet, is_address_octet}
use Rattle.sgp_values.specs.Reading.{address_of}
use Rattle.sgp_values.proofs.Reading.{eim_id_again, address_again}
use Rattle.small_card.specs.Lists.{Every}
use Rattle.small_card.specs.Ranges.{IsPsmo, IsEco, IsBody}
use Rattle.small_card.specs.declared.types.Psmo.{Psmo}
use Rattle.small_card.specs.declared.types.Psmo.TheVariants as psmo_op
use Rattle.small_card.specs.declared.types.Eco.{Eco}
use Rattle.small_card.specs.declared.types.Eco.TheVariants as eco_op
use Rattle.small_card.specs.declared.types.Body.{Body}
use Rattle.small_card.specs.declared.types.Body.TheVariants.{Psmos, Ecos}
use Rattle.iot_schedule.specs.Words.{list_of}
use Rattle.iot_schedule.specs.Tokens.{before, behind, iccid_word, key_digits}
use Rattle.iot_schedule.specs.Operations.{psmo_named, psmo_word, optional_of, add_of, update_of, drop_of, eco_named, eco_word, psmos_of, ecos_of, body_of}
use Rattle.iot_schedule.specs.Spelling.{address_text, key_text, psmo_text, optional_text, eco_text, body_words}
use Rattle.iot_schedule.proofs.Lacking.{lacks, lacks_both, lacks_passing, cut_front, cut_rest, whole_front, whole_rest}
use Rattle.iot_schedule.proofs.Rereading.{iccid_word_again, key_digits_again}

pub psmo_again : (op : Psmo) → IsPsmo op → psmo_word (psmo_text op) ≡ Some op
unfolding psmo_word psmo_text psmo_named before behind IsPsmo
psmo_again (psmo_op.Enable iccid true) fits = rw (iccid_word_again iccid fits) refl
psmo_again (psmo_op.Enable iccid false) fits = rw (iccid_word_again iccid fits) refl
psmo_again (psmo_op.Disable iccid) fits = rw (iccid_word_again iccid fits) refl
psmo_again (psmo_op.Delete iccid) fits = rw (iccid_word_again iccid fits) refl
psmo_again psmo_op.List fits = refl

-- neither an identifier nor an address has '#', and no identifier has '@'
name_lacks_hash : (id : List ℕ) → IsEimId id → lacks 35 id ≡ true
name_lacks_hash id fits = lacks_passing is_name_octet 35 refl id fits.each

name_lacks_at : (id : List ℕ) → IsEimId id → lacks 64 id ≡ true
name_lacks_at id fits = lacks_passing is_name_octet 64 refl id fits.each

front_lacks : (id address : List ℕ) → IsEimId id → IsAddress address → lacks 35 (id ++ address_text address) ≡ true
front_lacks id address name fits = lacks_both 35 id (address_text address) (name_lacks_hash id name) (lacks_passing is_address_octet 35 refl address fits.each)

-- an identifier, an address and a key
whole_text : (id address key : List ℕ) → id ++ (address_text address ++ key_text key) ≡ (id ++ address_text address) ++ 35 ∷ hex key
whole_text id address key = sym (append_assoc id (address_text address) (key_text key))

add_again : (id address key : List ℕ) → IsEimId id → IsAddress address → IsKey key → add_of (id ++ (address_text address ++ key_text key)) ≡ Some (eco_op.Add id address key)
unfolding add_of
add_again id address key name fits kept =
    let out = front_lacks id address name fits in
    rw (whole_text id address key)
    (rw (cut_rest 35 (id ++ address_text address) (hex key) out)
    (rw (cut_front 35 (id ++ address_text address) (hex key) out)
    (rw (cut_rest 64 id address (name_lacks_at id name))
    (rw (cut_front 64 id address (name_lacks_at id name))
    (rw (eim_id_again id name) (rw (address_again address fits) (rw (key_digits_again key kept) refl)))))))

abbrev key_rest : Option (List ℕ) → Option (List ℕ)
key_rest None = None
key_rest (Some key) = Some (hex key)

with_key : (front : List ℕ) (key : Option (List ℕ)) → lacks 35 front ≡ true → (before 35 (front ++ optional_text key_text key) ≡ front) × (behind 35 (front ++ optional_text key_text key) ≡ key_rest key)
with_key front None out = (rw (append-nil front) (whole_front 35 front out), rw (append-nil front) (whole_rest 35 front out))
with_key front (Some key) out = (cut_front 35 front (hex key) out, cut_rest 35 front (hex key) out)

with_address : (id : List ℕ) (address : Option (List ℕ)) → lacks 64 id ≡ true → (before 64 (id ++ optional_text address_text address) ≡ id) × (behind 64 (id ++ optional_text address_text address) ≡ address)
with_address id None out = (rw (append-nil id) (whole_front 64 id out), rw (append-nil id) (whole_rest 64 id out))
with_address id (Some address) out = (cut_front 64 id address out, cut_rest 64 id address out)

optional_lacks : (address : Option (List ℕ)) → IfSome address (λ a. IsAddress a) → lacks 35 (optional_text address_text address) ≡ true
optional_lacks None fits = refl
optional_lacks (Some address) fits = lacks_passing is_address_octet 35 refl address fits.each

optional_address : (address : Option (List ℕ)) → IfSome address (λ a. IsAddress a) → optional_of address_of address ≡ Some address
optional_address None fits = refl
optional_address (Some address) fits = rw (address_again address fits) refl

optional_key : (key : Option (List ℕ)) → IfSome key (λ k. IsKey k) → optional_of key_digits (key_rest key) ≡ Some key
optional_key None fits = refl
optional_key (Some key) fits = rw (key_digits_again key fits) refl

update_again : (id : List ℕ) (address key : Option (List ℕ)) → IsEimId id → IfSome address (λ a. IsAddress a) → IfSome key (λ k. IsKey k) → update_of (id ++ (optional_text address_text address ++ optional_text key_text key)) ≡ Some (eco_op.Update id address key)
unfolding update_of
update_again id address key name fits kept =
    let front = id ++ optional_text address_text address in
    let out : lacks 35 front ≡ true = lacks_both 35 id (optional_text address_text address) (name_lacks_hash id name) (optional_lacks address fits) in
    let whole : id ++ (optional_text address_text address ++ optional_text key_text key) ≡ front ++ optional_text key_text key = sym (append_assoc id (optional_text address_text address) (optional_text key_text key)) in
    let outer = with_key front key out in
    let inner = with_address id address (name_lacks_at id name) in
    rw whole (rw outer.0 (rw outer.1 (rw inner.0 (rw inner.1 (rw (eim_id_again id name) (rw (optional_address address fits) (rw (optional_key key kept) refl)))))))

drop_again : (id : List ℕ) → IsEimId id → drop_of id ≡ Some (eco_op.Delete id)
unfolding drop_of
drop_again id fits = rw (eim_id_again id fits) refl

pub eco_again : (op : Eco) → IsEco op → eco_word (eco_text op) ≡ Some op
unfolding eco_word eco_text eco_named before behind IsEco
eco_again (eco_op.Add id address key) fits = add_again id address key fits.0 fits.1 fits.2
eco_again (eco_op.Update id address key) fits = update_again id address key fits.0 fits.1 fits.2
eco_again (eco_op.Delete id) fits = drop_again id fits
eco_again eco_op.List fits = refl

pub list_again : {X : Type 0} (of : List ℕ → Option X) (text : X → List ℕ) (Fits : X → Type 0) → ((x : X) → Fits x → of (text x) ≡ Some x) → (n : ℕ) (xs : List X) → length xs ≤ n → Every Fits xs → list_of of n (map text xs) ≡ Some xs
unfolding list_of
list_again of text Fits again n [] few each = refl
list_again of text Fits again zero (x ∷ xs) few each = absurd (omega arith)
list_again of text Fits again (suc n) (x ∷ xs) few each = rw (again x each.0) (rw (list_again of text Fits again n xs (omega arith) each.1) refl)

nothing_named : (r : Option (List ℕ)) → ◌>>=◌ {B = Psmo} r (λ i. None) ≡ None
nothing_named None = refl
nothing_named (Some i) = refl

-- no operation on eIMs is read as one on profiles
eco_no_psmo : (op : Eco) → psmo_word (eco_text op) ≡ None
unfolding psmo_word eco_text psmo_named before behind
eco_no_psmo (eco_op.Add id address key) = nothing_named (iccid_word (id ++ (address_text address ++ key_text key)))
eco_no_psmo (eco_op.Update id address key) = nothing_named (iccid_word (id ++ (optional_text address_text address ++ optional_text key_text key)))
eco_no_psmo (eco_op.Delete id) = nothing_named (iccid_word id)
eco_no_psmo eco_op.List = refl

pub body_again : (b : Body) → IsBody b → body_of (body_words b) ≡ Some b
unfolding body_of body_words psmos_of ecos_of IsBody
body_again (Psmos []) fits = absurd (omega (arith, fits.0.some))
body_again (Psmos (op ∷ ops)) fits =
    rw (psmo_again op fits.1.0) (rw (list_again psmo_word psmo_text IsPsmo psmo_again 8 (op ∷ ops) fits.0.few fits.1) refl)
body_again (Ecos []) fits = absurd (omega (arith, fits.0.some))
body_again (Ecos (op ∷ ops)) fits =
    rw (eco_no_psmo op) (rw (list_again eco_word eco_text IsEco eco_again 8 (op ∷ ops) fits.0.few fits.1) refl)
