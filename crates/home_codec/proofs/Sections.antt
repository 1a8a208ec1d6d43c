-- The head and the slots of profiles and eIMs: what is read was spelled so, and what is spelled is read again.
use Rattle.std.proofs.Common.{◌≡◌, ℕ, Bool, true, false, List, [], ◌∷◌, ◌++◌, Option, Some, None, refl, sym, ap, subst, ◌∙◌, append_assoc, inl, inr}
use Rattle.std.specs.Prelude.{◌==◌}
use Rattle.std.proofs.lemmas.Bool.{eqb-true}
use Rattle.sgp_der.proofs.Fields.{on_some, guard_some}
use Rattle.sgp_values.specs.Iccids.{IsIccid}
use Rattle.sgp_values.specs.Eids.{IsEid}
use Rattle.sgp_values.specs.Ranges.{IsEimId, IsAddress, IsKey, IsNickname}
use Rattle.sgp_values.specs.Reading.{iccid_of, eid_of, eim_id_of, address_of, key_of, nickname_of}
use Rattle.sgp_fields.specs.Values.{only_if, flag, flag_of_number}
use Rattle.sgp_fields.proofs.Steps.{on_front}
use Rattle.sgp_fields.proofs.ValueCodecs.{octets, iccid_codec, eid_codec, eim_id_codec, address_codec, key_codec, nickname_codec, chosen, flag_number, IsAny}
use Rattle.small_card.specs.Ranges.{IsProfile}
use Rattle.small_card.specs.declared.types.Profile.{Profile}
use Rattle.small_card.specs.declared.types.EimEntry.{EimEntry}
use Rattle.small_card.specs.declared.types.Armed.{Armed}
use Rattle.std.proofs.lemmas.Option.{same_Some}
use Rattle.iot_bytes.proofs.Framing.{IsBytes}
use Rattle.home_codec.specs.declared.head.Head.{Head}
use Rattle.home_codec.specs.Fixed.{zeros, word, long, text, fixed_at, text_at}
use Rattle.home_codec.specs.Layout.{version, armed_field, head, state, profile_slot, eim_slot}
use Rattle.home_codec.specs.Reading.{armed_fields, not_armed, armed_at, head_fields, head_at, state_at, profile_at, eim_at}
use Rattle.sgp_fields.proofs.Codecs.{IsFront, IsPrefix}
use Rattle.home_codec.proofs.FixedFields.{on_octet, on_blank, blank_again, fixed_field, word_field, long_field, text_field, IsWord, IsLong}

iccid_field : IsPrefix (fixed_at iccid_of 10) octets IsIccid
iccid_field = fixed_field iccid_codec 10 (λ x h. h.len)

eid_field : IsPrefix (fixed_at eid_of 16) octets IsEid
eid_field = fixed_field eid_codec 16 (λ x h. h.len)

id_field : IsPrefix (text_at eim_id_of 128) (text 128) IsEimId
id_field = text_field eim_id_codec 128 (λ x h. h.few)

address_field : IsPrefix (text_at address_of 128) (text 128) IsAddress
address_field = text_field address_codec 128 (λ x h. h.few)

key_field : IsPrefix (text_at key_of 128) (text 128) IsKey
key_field = text_field key_codec 128 (λ x h. h.few)

nickname_field : IsPrefix (text_at nickname_of 64) (text 64) IsNickname
nickname_field = text_field nickname_codec 64 (λ x h. h.few)

-- what is armed is in its range
abbrev pub IsArmedField : Option Armed → Type 0
IsArmedField None = Unit {0}
IsArmedField (Some a) = IsIccid a.former × IsWord a.seq

armed_some : (bytes : List ℕ) (x : Option Armed) (rest : List ℕ) → IsBytes bytes → armed_fields bytes ≡ Some (x, rest) → IsFront armed_field IsArmedField (1 ∷ bytes) x rest
unfolding armed_fields armed_field
armed_some bytes x rest fits e =
    on_front iccid_field bytes _ (x, rest) fits e (λ former r1 a e1.
    on_front word_field r1 _ (x, rest) a.others e1 (λ seq r2 b e2.
    let Read : Type 0 = Option Armed × List ℕ in
    let made : Read = (Some (record { former = former; seq = seq }), r2) in
    let same : made ≡ (x, rest) = same_Some made (x, rest) e2 in
    let whole : bytes ≡ (former ++ word seq) ++ r2 = a.parts ∙ ap (λ (l : List ℕ). former ++ l) b.parts ∙ sym (append_assoc former (word seq) r2) in
    subst (λ (p : Read). IsFront armed_field IsArmedField (1 ∷ bytes) p.0 p.1) same
    (record { parts = ap (λ (l : List ℕ). 1 ∷ l) whole; fits = (a.fits, b.fits); others = b.others })))

armed_none : (bytes : List ℕ) (x : Option Armed) (rest : List ℕ) → IsBytes bytes → not_armed bytes ≡ Some (x, rest) → IsFront armed_field IsArmedField (0 ∷ bytes) x rest
unfolding not_armed armed_field
armed_none bytes x rest fits e =
    on_blank 14 bytes _ (x, rest) fits e (λ r1 blank others e1.
    let Read : Type 0 = Option Armed × List ℕ in
    let made : Read = (None, r1) in
    let same : made ≡ (x, rest) = same_Some made (x, rest) e1 in
    subst (λ (p : Read). IsFront armed_field IsArmedField (0 ∷ bytes) p.0 p.1) same (record { parts = ap (λ (l : List ℕ). 0 ∷ l) blank; fits = tt; others = others }))

armed_takes : (bytes : List ℕ) (x : Option Armed) (rest : List ℕ) → IsBytes bytes → armed_at bytes ≡ Some (x, rest) → IsFront armed_field IsArmedField bytes x rest
unfolding armed_at
armed_takes bytes x rest fits e =
    on_octet bytes _ (x, rest) fits e (λ flag behind first below others e1.
    let back = λ (b : ℕ) (is : flag ≡ b) (f : IsFront armed_field IsArmedField (b ∷ behind) x rest).
    (let front : IsFront armed_field IsArmedField bytes x rest = record { parts = first ∙ ap (λ (c : ℕ). c ∷ behind) is ∙ f.parts; fits = f.fits; others = f.others } in front) in
    elim (chosen (flag == 1) _ _ _ e1) [
      | inl h ↦ back 1 (eqb-true flag 1 h.0) (armed_some behind x rest others h.1)
      | inr h ↦
          elim (chosen (flag == 0) _ _ _ h.1) [
            | inl k ↦ back 0 (eqb-true flag 0 k.0) (armed_none behind x rest others k.1)
            | inr k ↦ absurd cc
          ]
    ])

armed_again : (x : Option Armed) (rest : List ℕ) → IsArmedField x → armed_at (armed_field x ++ rest) ≡ Some (x, rest)
unfolding armed_at armed_field armed_fields not_armed
armed_again None rest h = rw (blank_again 14 rest) refl
armed_again (Some a) rest h =
    rw (append_assoc a.former (word a.seq) rest) (rw (iccid_field.again a.former (word a.seq ++ rest) h.0) (rw (word_field.again a.seq rest h.1) refl))

armed_codec : IsPrefix armed_at armed_field IsArmedField
armed_codec = record { takes = armed_takes; again = armed_again }

-- what the head says is in its ranges
pub record IsHead (h : Head) : Type 0 where
  pub eid : IsEid h.eid
  pub association : IsWord h.association
  pub seq : IsWord h.seq
  pub armed : IsArmedField h.armed

-- the head from its parts
spelled_head : Head → List ℕ → List ℕ
spelled_head h rest = h.eid ++ (h.profiles ∷ h.eims ∷ (word h.association ++ (word h.seq ++ (armed_field h.armed ++ (zeros 214 ++ rest)))))

head_is : (h : Head) (rest : List ℕ) → head h ++ rest ≡ version ∷ spelled_head h rest
unfolding head spelled_head
head_is h rest = simp append_assoc

head_fields_take : (bytes : List ℕ) (h : Head) (rest : List ℕ) → IsBytes bytes → head_fields bytes ≡ Some (h, rest) → (bytes ≡ spelled_head h rest) × IsHead h × IsBytes rest
unfolding head_fields spelled_head
head_fields_take bytes h rest fits e =
    on_front eid_field bytes _ (h, rest) fits e (λ eid r1 a e1.
    on_octet r1 _ (h, rest) a.others e1 (λ profiles r2 p1 below1 o2 e2.
    on_octet r2 _ (h, rest) o2 e2 (λ eims r3 p2 below2 o3 e3.
    on_front word_field r3 _ (h, rest) o3 e3 (λ association r4 b e4.
    on_front word_field r4 _ (h, rest) b.others e4 (λ seq r5 c e5.
    on_front armed_codec r5 _ (h, rest) c.others e5 (λ armed r6 d e6.
    on_blank 214 r6 _ (h, rest) d.others e6 (λ r7 blank o7 e7.
    let made : Head × List ℕ = (record { eid = eid; profiles = profiles; eims = eims; association = association; seq = seq; armed = armed }, r7) in
    let same : made ≡ (h, rest) = same_Some made (h, rest) e7 in
    let whole : bytes ≡ eid ++ (profiles ∷ eims ∷ (word association ++ (word seq ++ (armed_field armed ++ (zeros 214 ++ r7))))) = cc (a.parts, p1, p2, b.parts, c.parts, d.parts, blank) in
    subst (λ (q : Head × List ℕ). (bytes ≡ q.0.eid ++ (q.0.profiles ∷ q.0.eims ∷ (word q.0.association ++ (word q.0.seq ++ (armed_field q.0.armed ++ (zeros 214 ++ q.1)))))) × IsHead q.0 × IsBytes q.1) same
    (whole, record { eid = a.fits; association = b.fits; seq = c.fits; armed = d.fits }, o7))))))))

head_takes : (bytes : List ℕ) (h : Head) (rest : List ℕ) → IsBytes bytes → head_at bytes ≡ Some (h, rest) → IsFront head IsHead bytes h rest
unfolding head_at
head_takes bytes h rest fits e =
    on_octet bytes _ (h, rest) fits e (λ first behind p0 below others e1.
    on_some (only_if (first == version) behind) _ (h, rest) e1 (λ r a e2.
    let g = guard_some (first == version) behind r a in
    let t = head_fields_take r h rest (subst (λ (l : List ℕ). IsBytes l) g.1 others) e2 in
    record { parts = p0 ∙ ap (λ (b : ℕ). b ∷ behind) (eqb-true first version g.0) ∙ ap (λ (l : List ℕ). version ∷ l) (g.1 ∙ t.0) ∙ sym (head_is h rest); fits = t.1; others = t.2 }))

head_again : (h : Head) (rest : List ℕ) → IsHead h → head_at (head h ++ rest) ≡ Some (h, rest)
unfolding head_at head_fields spelled_head
head_again h rest fits =
    ap head_at (head_is h rest)
    ∙ rw (eid_field.again h.eid (h.profiles ∷ h.eims ∷ (word h.association ++ (word h.seq ++ (armed_field h.armed ++ (zeros 214 ++ rest))))) fits.eid)
    (rw (word_field.again h.association (word h.seq ++ (armed_field h.armed ++ (zeros 214 ++ rest))) fits.association)
    (rw (word_field.again h.seq (armed_field h.armed ++ (zeros 214 ++ rest)) fits.seq)
    (rw (armed_codec.again h.armed (zeros 214 ++ rest) fits.armed)
    (rw (blank_again 214 rest) refl))))

pub head_codec : IsPrefix head_at head IsHead
head_codec = record { takes = head_takes; again = head_again }

one_octet : Bool → List ℕ
one_octet b = flag b ∷ []

state_takes : (bytes : List ℕ) (b : Bool) (rest : List ℕ) → IsBytes bytes → state_at bytes ≡ Some (b, rest) → IsFront one_octet IsAny bytes b rest
unfolding state_at one_octet
state_takes bytes b rest fits e =
    on_octet bytes _ (b, rest) fits e (λ octet behind first below others e1.
    on_some (flag_of_number octet) _ (b, rest) e1 (λ c a e2.
    let same : (c, behind) ≡ (b, rest) = same_Some _ _ e2 in
    subst (λ (p : Bool × List ℕ). IsFront one_octet IsAny bytes p.0 p.1) same (record { parts = first ∙ ap (λ (n : ℕ). n ∷ behind) (flag_number octet c a); fits = tt; others = others })))

state_again : (b : Bool) (rest : List ℕ) → IsAny b → state_at (one_octet b ++ rest) ≡ Some (b, rest)
unfolding state_at one_octet
state_again true rest h = refl
state_again false rest h = refl

state_codec : IsPrefix state_at one_octet IsAny
state_codec = record { takes = state_takes; again = state_again }

profile_is : (p : Profile) (rest : List ℕ) → profile_slot p ++ rest ≡ p.iccid ++ (one_octet p.enabled ++ (text 64 p.nickname ++ (zeros 52 ++ rest)))
unfolding profile_slot state one_octet
profile_is p rest = simp append_assoc

profile_takes : (bytes : List ℕ) (p : Profile) (rest : List ℕ) → IsBytes bytes → profile_at bytes ≡ Some (p, rest) → IsFront profile_slot IsProfile bytes p rest
unfolding profile_at
profile_takes bytes p rest fits e =
    on_front iccid_field bytes _ (p, rest) fits e (λ iccid r1 a e1.
    on_front state_codec r1 _ (p, rest) a.others e1 (λ enabled r2 b e2.
    on_front nickname_field r2 _ (p, rest) b.others e2 (λ nickname r3 c e3.
    on_blank 52 r3 _ (p, rest) c.others e3 (λ r4 blank o4 e4.
    let profile : Profile = record { iccid = iccid; enabled = enabled; nickname = nickname } in
    let same : (profile, r4) ≡ (p, rest) = same_Some _ _ e4 in
    let whole : bytes ≡ iccid ++ (one_octet enabled ++ (text 64 nickname ++ (zeros 52 ++ r4))) = cc (a.parts, b.parts, c.parts, blank) in
    subst (λ (q : Profile × List ℕ). IsFront profile_slot IsProfile bytes q.0 q.1) same
    (record { parts = whole ∙ sym (profile_is profile r4); fits = record { iccid = a.fits; nickname = c.fits }; others = o4 })))))

profile_again : (p : Profile) (rest : List ℕ) → IsProfile p → profile_at (profile_slot p ++ rest) ≡ Some (p, rest)
unfolding profile_at
profile_again p rest h =
    ap profile_at (profile_is p rest)
    ∙ rw (iccid_field.again p.iccid (one_octet p.enabled ++ (text 64 p.nickname ++ (zeros 52 ++ rest))) h.iccid)
    (rw (state_codec.again p.enabled (text 64 p.nickname ++ (zeros 52 ++ rest)) tt)
    (rw (nickname_field.again p.nickname (zeros 52 ++ rest) h.nickname)
    (rw (blank_again 52 rest) refl)))

pub profile_codec : IsPrefix profile_at profile_slot IsProfile
profile_codec = record { takes = profile_takes; again = profile_again }

-- an entry's fields are in their ranges
pub record IsEimSlot (e : EimEntry) : Type 0 where
  pub id : IsEimId e.id
  pub address : IsAddress e.address
  pub key : IsKey e.key
  pub counter : IsLong e.counter
  pub association : IsWord e.association

eim_is : (e : EimEntry) (rest : List ℕ) → eim_slot e ++ rest ≡ text 128 e.id ++ (text 128 e.address ++ (text 128 e.key ++ (long e.counter ++ (word e.association ++ (zeros 113 ++ rest)))))
unfolding eim_slot
eim_is e rest = simp append_assoc

eim_takes : (bytes : List ℕ) (x : EimEntry) (rest : List ℕ) → IsBytes bytes → eim_at bytes ≡ Some (x, rest) → IsFront eim_slot IsEimSlot bytes x rest
unfolding eim_at
eim_takes bytes x rest fits e =
    on_front id_field bytes _ (x, rest) fits e (λ id r1 a e1.
    on_front address_field r1 _ (x, rest) a.others e1 (λ address r2 b e2.
    on_front key_field r2 _ (x, rest) b.others e2 (λ key r3 c e3.
    on_front long_field r3 _ (x, rest) c.others e3 (λ counter r4 d e4.
    on_front word_field r4 _ (x, rest) d.others e4 (λ association r5 f e5.
    on_blank 113 r5 _ (x, rest) f.others e5 (λ r6 blank o6 e6.
    let made : EimEntry = record { id = id; address = address; key = key; counter = counter; association = association } in
    let same : (made, r6) ≡ (x, rest) = same_Some _ _ e6 in
    let whole : bytes ≡ text 128 id ++ (text 128 address ++ (text 128 key ++ (long counter ++ (word association ++ (zeros 113 ++ r6))))) = cc (a.parts, b.parts, c.parts, d.parts, f.parts, blank) in
    subst (λ (q : EimEntry × List ℕ). IsFront eim_slot IsEimSlot bytes q.0 q.1) same
    (record { parts = whole ∙ sym (eim_is made r6); fits = record { id = a.fits; address = b.fits; key = c.fits; counter = d.fits; association = f.fits }; others = o6 })))))))

eim_again : (x : EimEntry) (rest : List ℕ) → IsEimSlot x → eim_at (eim_slot x ++ rest) ≡ Some (x, rest)
unfolding eim_at
eim_again x rest h =
    ap eim_at (eim_is x rest)
    ∙ rw (id_field.again x.id (text 128 x.address ++ (text 128 x.key ++ (long x.counter ++ (word x.association ++ (zeros 113 ++ rest))))) h.id)
    (rw (address_field.again x.address (text 128 x.key ++ (long x.counter ++ (word x.association ++ (zeros 113 ++ rest)))) h.address)
    (rw (key_field.again x.key (long x.counter ++ (word x.association ++ (zeros 113 ++ rest))) h.key)
    (rw (long_field.again x.counter (word x.association ++ (zeros 113 ++ rest)) h.counter)
    (rw (word_field.again x.association (zeros 113 ++ rest) h.association)
    (rw (blank_again 113 rest) refl)))))

pub eim_codec : IsPrefix eim_at eim_slot IsEimSlot
eim_codec = record { takes = eim_takes; again = eim_again }
