-- A body that is read was spelled so, and one that is spelled is read again.
use Rattle.std.proofs.Common.{◌≡◌, ℕ, ◌≤◌, List, length, Some, refl, ap, subst, ◌∙◌, arith}
use Rattle.std.specs.List.{flat_map}
use Rattle.sgp_der.specs.Element.{element}
use Rattle.sgp_der.proofs.Fields.{on_some}
use Rattle.sgp_fields.specs.Lists.{list_at, some_of}
use Rattle.sgp_fields.proofs.Codecs.{IsCodec, IsListed, IsSpelled, IsTaken}
use Rattle.sgp_fields.proofs.Elements.{on_tag, whole_codec}
use Rattle.sgp_fields.proofs.ListCodec.{list_codec, some_takes, some_again}
use Rattle.sgp_fields.proofs.Sizes.{long, flat_few}
use Rattle.small_card.specs.Ranges.{IsBody, IsPsmo, IsEco}
use Rattle.small_card.specs.declared.types.Psmo.{Psmo}
use Rattle.small_card.specs.declared.types.Eco.{Eco}
use Rattle.small_card.specs.declared.types.Body.{Body}
use Rattle.small_card.specs.declared.types.Body.TheVariants.{Psmos, Ecos}
use Rattle.std.proofs.lemmas.Option.{same_Some}
use Rattle.iot_bytes.proofs.Framing.{IsBytes}
use Rattle.package_codec.specs.Spelling.{psmo, eco, body}
use Rattle.package_codec.specs.Reading.{psmo_of, eco_of, psmos_of, ecos_of, body_of, body_at}
use Rattle.package_codec.proofs.Psmos.{psmo_listed, psmo_few}
use Rattle.package_codec.proofs.Ecos.{eco_listed, eco_few}

psmos_taken : (content : List ℕ) (b : Body) → IsBytes content → psmos_of content ≡ Some b → IsTaken body IsBody 0xa4 content b
unfolding psmos_of body IsBody
psmos_taken content b fits e =
    on_some (list_at psmo_of 8 content) _ b e (λ ops read e1.
    on_some (some_of ops) _ b e1 (λ some there e2.
    let t = (list_codec psmo_listed 8).takes content ops fits read in
    let s = some_takes ops some there in
    let same : Psmos ops ≡ b = ap (λ (xs : List Psmo). Psmos xs) s.0 ∙ same_Some _ _ e2 in
    subst (IsTaken body IsBody 0xa4 content) same (record { octets = ap (element 0xa4) t.0; fits = (record { some = s.1; few = t.1.few }, t.1.each) })))

ecos_taken : (content : List ℕ) (b : Body) → IsBytes content → ecos_of content ≡ Some b → IsTaken body IsBody 0xa5 content b
unfolding ecos_of body IsBody
ecos_taken content b fits e =
    on_some (list_at eco_of 8 content) _ b e (λ ops read e1.
    on_some (some_of ops) _ b e1 (λ some there e2.
    let t = (list_codec eco_listed 8).takes content ops fits read in
    let s = some_takes ops some there in
    let same : Ecos ops ≡ b = ap (λ (xs : List Eco). Ecos xs) s.0 ∙ same_Some _ _ e2 in
    subst (IsTaken body IsBody 0xa5 content) same (record { octets = ap (element 0xa5) t.0; fits = (record { some = s.1; few = t.1.few }, t.1.each) })))

body_taken : (tag : ℕ) (content : List ℕ) (b : Body) → IsBytes content → body_of tag content ≡ Some b → IsTaken body IsBody tag content b
unfolding body_of
body_taken tag content b fits e =
    on_tag tag 0xa4 content _ _ b e (psmos_taken content b fits) (λ e1.
    on_tag tag 0xa5 content _ _ b e1 (ecos_taken content b fits) (λ none. absurd cc))

pub psmos_again : (ops : List Psmo) → IsBody (Psmos ops) → psmos_of (flat_map psmo ops) ≡ Some (Psmos ops)
unfolding psmos_of IsBody
psmos_again ops fits =
    let again = (list_codec psmo_listed 8).again ops (record { few = fits.0.few; each = fits.1 }) in
    rw again (rw (some_again ops fits.0.some) refl)

pub ecos_again : (ops : List Eco) → IsBody (Ecos ops) → ecos_of (flat_map eco ops) ≡ Some (Ecos ops)
unfolding ecos_of IsBody
ecos_again ops fits =
    let again = (list_codec eco_listed 8).again ops (record { few = fits.0.few; each = fits.1 }) in
    rw again (rw (some_again ops fits.0.some) refl)

-- at most eight operations of at most 397 octets
pub psmos_few : (ops : List Psmo) → IsBody (Psmos ops) → length (flat_map psmo ops) ≤ 240
unfolding IsBody
psmos_few ops fits = omega (arith, flat_few psmo IsPsmo 30 psmo_few ops fits.1, fits.0.few)

pub ecos_few : (ops : List Eco) → IsBody (Ecos ops) → length (flat_map eco ops) ≤ 3176
unfolding IsBody
ecos_few ops fits = omega (arith, flat_few eco IsEco 397 eco_few ops fits.1, fits.0.few)

body_spelled : (b : Body) → IsBody b → IsSpelled body_of body b
unfolding body_of body
body_spelled (Psmos ops) fits = record { tag = 0xa4; content = flat_map psmo ops; octets = refl; low = omega arith; few = omega (arith, psmos_few ops fits); read = psmos_again ops fits }
body_spelled (Ecos ops) fits = record { tag = 0xa5; content = flat_map eco ops; octets = refl; low = omega arith; few = omega (arith, ecos_few ops fits); read = ecos_again ops fits }

-- bodies and their elements
pub body_listed : IsListed body_of body IsBody
body_listed = record { takes = λ tag content b fits few e. body_taken tag content b fits e; again = body_spelled }

pub body_codec : IsCodec body_at body IsBody
unfolding body_at
body_codec = whole_codec body_listed

pub body_few : (b : Body) → IsBody b → length (body b) ≤ 3180
unfolding body
body_few (Psmos ops) fits = long 0xa4 (flat_map psmo ops) 3176 (omega (arith, psmos_few ops fits)) (omega arith)
body_few (Ecos ops) fits = long 0xa5 (flat_map eco ops) 3176 (ecos_few ops fits) (omega arith)
