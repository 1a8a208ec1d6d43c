-- An operation on eIMs that is read was spelled so, and one that is spelled is read again.
use Rattle.std.proofs.Common.{◌≡◌, ℕ, ◌≤◌, List, [], ◌++◌, length, Option, Some, None, IfSome, refl, sym, ap, subst, ◌∙◌, arith, append_assoc, length-append}
use Rattle.std.proofs.lemmas.List.{append-nil}
use Rattle.sgp_der.specs.Element.{element}
use Rattle.sgp_der.specs.Fields.{field_at}
use Rattle.sgp_der.proofs.Elements.{element_few}
use Rattle.sgp_der.proofs.Fields.{on_some}
use Rattle.sgp_fields.specs.Config.{config_content, config_of}
use Rattle.sgp_fields.specs.Fields.{octets, optional}
use Rattle.sgp_fields.specs.declared.config.EimConfig.{EimConfig}
use Rattle.sgp_fields.proofs.Codecs.{IsListed, IsSpelled, IsTaken}
use Rattle.sgp_fields.proofs.ConfigCodec.{config_codec, config_few}
use Rattle.sgp_fields.proofs.Elements.{on_tag}
use Rattle.sgp_fields.proofs.Sizes.{middle, long}
use Rattle.sgp_fields.proofs.Steps.{on_value, on_last, on_optional, on_end, value_again, last_again, optional_again, no_field_left, no_field_other}
use Rattle.sgp_fields.proofs.ValueCodecs.{eim_id_codec, address_codec, key_codec}
use Rattle.sgp_values.specs.Ranges.{IsEimId, IsAddress, IsKey}
use Rattle.small_card.specs.Ranges.{IsEco}
use Rattle.small_card.specs.declared.types.Eco.{Eco}
use Rattle.small_card.specs.declared.types.Eco.TheVariants as eco_op
use Rattle.std.proofs.lemmas.Option.{same_Some}
use Rattle.iot_bytes.proofs.Framing.{IsBytes}
use Rattle.package_codec.specs.Spelling.{id_content, update_content, eco}
use Rattle.package_codec.specs.Reading.{add_of, update_of, drop_of, list_eims_of, eco_of}

add_taken : (content : List ℕ) (op : Eco) → IsBytes content → add_of content ≡ Some op → IsTaken eco IsEco 0xa8 content op
unfolding add_of eco IsEco
add_taken content op fits e =
    on_some (config_of content) _ op e (λ c read e1.
    let t = config_codec.takes content c fits read in
    subst (IsTaken eco IsEco 0xa8 content) (same_Some _ _ e1) (record { octets = ap (element 0xa8) t.0; fits = (t.1.id, t.1.address, t.1.key) }))

update_taken : (content : List ℕ) (op : Eco) → IsBytes content → update_of content ≡ Some op → IsTaken eco IsEco 0xa9 content op
unfolding update_of update_content eco IsEco
update_taken content op fits e =
    on_value eim_id_codec 0x80 content _ op fits e (λ id rest v e1.
    on_optional address_codec 0x81 rest _ op v.others e1 (λ address left w e2.
    on_optional key_codec 0x82 left _ op w.others e2 (λ key none l e3.
    on_end none _ op e3 (λ end e4.
    let last : left ≡ optional octets 0x82 key = l.parts ∙ rw end (append-nil _) in
    let whole : content ≡ element 0x80 id ++ (optional octets 0x81 address ++ optional octets 0x82 key) = v.parts ∙ ap (λ (r : List ℕ). element 0x80 id ++ r) (w.parts ∙ ap (λ (r : List ℕ). optional octets 0x81 address ++ r) last) in
    let grouped : content ≡ element 0x80 id ++ optional octets 0x81 address ++ optional octets 0x82 key = whole ∙ sym (append_assoc (element 0x80 id) (optional octets 0x81 address) (optional octets 0x82 key)) in
    subst (IsTaken eco IsEco 0xa9 content) (same_Some _ _ e4) (record { octets = ap (element 0xa9) grouped; fits = (v.fits, w.fits, l.fits) })))))

drop_taken : (content : List ℕ) (op : Eco) → IsBytes content → drop_of content ≡ Some op → IsTaken eco IsEco 0xaa content op
unfolding drop_of id_content eco IsEco
drop_taken content op fits e =
    on_last eim_id_codec 0x80 content _ op fits e (λ id l e1.
    subst (IsTaken eco IsEco 0xaa content) (same_Some _ _ e1) (record { octets = ap (element 0xaa) l.octets; fits = l.fits }))

list_taken : (content : List ℕ) (op : Eco) → list_eims_of content ≡ Some op → IsTaken eco IsEco 0x8b content op
unfolding list_eims_of eco IsEco
list_taken content op e =
    on_end content _ op e (λ end e1.
    subst (IsTaken eco IsEco 0x8b content) (same_Some _ _ e1) (record { octets = ap (element 0x8b) end; fits = tt }))

eco_taken : (tag : ℕ) (content : List ℕ) (op : Eco) → IsBytes content → eco_of tag content ≡ Some op → IsTaken eco IsEco tag content op
unfolding eco_of
eco_taken tag content op fits e =
    on_tag tag 0xa8 content _ _ op e (add_taken content op fits) (λ e1.
    on_tag tag 0xa9 content _ _ op e1 (update_taken content op fits) (λ e2.
    on_tag tag 0xaa content _ _ op e2 (drop_taken content op fits) (λ e3.
    on_tag tag 0x8b content _ _ op e3 (list_taken content op) (λ none. absurd cc))))

-- how long the contents are
id_few : (id : List ℕ) → IsEimId id → length (id_content id) ≤ 131
unfolding id_content
id_few id fits = middle 0x80 id 128 fits.few (omega arith)

address_few : (address : Option (List ℕ)) → IfSome address (λ a. IsAddress a) → length (optional octets 0x81 address) ≤ 131
address_few None fits = omega arith
address_few (Some address) fits = middle 0x81 address 128 fits.few (omega arith)

key_few : (key : Option (List ℕ)) → IfSome key (λ k. IsKey k) → length (optional octets 0x82 key) ≤ 131
key_few None fits = omega arith
key_few (Some key) fits = middle 0x82 key 128 fits.few (omega arith)

update_few : (id : List ℕ) (address key : Option (List ℕ)) → IsEimId id → IfSome address (λ a. IsAddress a) → IfSome key (λ k. IsKey k) → length (update_content id address key) ≤ 393
unfolding update_content
update_few id address key one two three =
    omega (
      arith,
      length-append (element 0x80 id ++ optional octets 0x81 address) (optional octets 0x82 key),
      length-append (element 0x80 id) (optional octets 0x81 address),
      middle 0x80 id 128 one.few (omega arith),
      address_few address two,
      key_few key three,
    )

add_again : (c : EimConfig) → IsEco (eco_op.Add c.id c.address c.key) → add_of (config_content c.id c.address c.key) ≡ Some (eco_op.Add c.id c.address c.key)
unfolding add_of IsEco
add_again c fits = rw (config_codec.again c (record { id = fits.0; address = fits.1; key = fits.2 })) refl

-- no address stands where the key does
no_address : (key : Option (List ℕ)) → IfSome key (λ k. IsKey k) → field_at 0x81 (optional octets 0x82 key ++ []) ≡ None
no_address None fits = no_field_left 0x81
no_address (Some key) fits = no_field_other 0x81 0x82 key [] (omega arith) (omega arith) (omega (arith, fits.few))

fields_few : (P : List ℕ → Type 0) (x : Option (List ℕ)) → ((y : List ℕ) → P y → length y ≤ 128) → IfSome x P → IfSome x (λ y. length y ≤ 16777215)
fields_few P None few fits = tt
fields_few P (Some y) few fits = omega (arith, few y fits)

update_again : (id : List ℕ) (address key : Option (List ℕ)) → IsEimId id → IfSome address (λ a. IsAddress a) → IfSome key (λ k. IsKey k) → update_of (update_content id address key) ≡ Some (eco_op.Update id address key)
unfolding update_of update_content
update_again id address key one two three =
    let grouped : element 0x80 id ++ optional octets 0x81 address ++ optional octets 0x82 key ≡ element 0x80 id ++ (optional octets 0x81 address ++ (optional octets 0x82 key ++ [])) =
    append_assoc (element 0x80 id) (optional octets 0x81 address) (optional octets 0x82 key) ∙ ap (λ (k : List ℕ). element 0x80 id ++ (optional octets 0x81 address ++ k)) (sym (append-nil (optional octets 0x82 key))) in
    ap update_of grouped
    ∙ rw (value_again eim_id_codec 0x80 id (optional octets 0x81 address ++ (optional octets 0x82 key ++ [])) (omega arith) (omega (arith, one.few)) one)
    (rw (optional_again address_codec 0x81 address (optional octets 0x82 key ++ []) (omega arith) (fields_few IsAddress address (λ y h. h.few) two) two (no_address key three))
    (rw (optional_again key_codec 0x82 key [] (omega arith) (fields_few IsKey key (λ y h. h.few) three) three (no_field_left 0x82)) refl))

drop_again : (id : List ℕ) → IsEimId id → drop_of (id_content id) ≡ Some (eco_op.Delete id)
unfolding drop_of id_content
drop_again id fits = rw (last_again eim_id_codec 0x80 id (omega arith) (omega (arith, fits.few)) fits) refl

list_again : list_eims_of [] ≡ Some eco_op.List
unfolding list_eims_of
list_again = refl

-- an add's content has at most 393 octets
add_few : (id address key : List ℕ) → IsEco (eco_op.Add id address key) → length (config_content id address key) ≤ 393
unfolding IsEco
add_few id address key fits = config_few (record { id = id; address = address; key = key }) (record { id = fits.0; address = fits.1; key = fits.2 })

eco_again : (op : Eco) → IsEco op → IsSpelled eco_of eco op
unfolding eco_of eco IsEco
eco_again (eco_op.Add id address key) fits = record {
  tag = 0xa8;
  content = config_content id address key;
  octets = refl;
  low = omega arith;
  few = omega (arith, add_few id address key fits);
  read = add_again (record { id = id; address = address; key = key }) fits;
}
eco_again (eco_op.Update id address key) fits = record {
  tag = 0xa9;
  content = update_content id address key;
  octets = refl;
  low = omega arith;
  few = omega (arith, update_few id address key fits.0 fits.1 fits.2);
  read = update_again id address key fits.0 fits.1 fits.2;
}
eco_again (eco_op.Delete id) fits = record {
  tag = 0xaa;
  content = id_content id;
  octets = refl;
  low = omega arith;
  few = omega (arith, id_few id fits);
  read = drop_again id fits;
}
eco_again eco_op.List fits = record { tag = 0x8b; content = []; octets = refl; low = omega arith; few = omega arith; read = list_again }

-- operations on eIMs and their elements
pub eco_listed : IsListed eco_of eco IsEco
eco_listed = record { takes = λ tag content op fits few e. eco_taken tag content op fits e; again = eco_again }

-- how long they are at most
pub eco_few : (op : Eco) → IsEco op → length (eco op) ≤ 397
unfolding eco IsEco
eco_few (eco_op.Add id address key) fits = long 0xa8 (config_content id address key) 393 (add_few id address key fits) (omega arith)
eco_few (eco_op.Update id address key) fits = long 0xa9 (update_content id address key) 393 (update_few id address key fits.0 fits.1 fits.2) (omega arith)
eco_few (eco_op.Delete id) fits = omega (arith, element_few 0xaa (id_content id), id_few id fits)
eco_few eco_op.List fits = omega (arith, element_few 0x8b [])
