-- What a manager gives has one spelling, and so has what an assistant does.
use Rattle.std.proofs.Common.{◌≡◌, ◌∙◌, ℕ, ◌≤◌, List, [], ◌∷◌, ◌++◌, length, Option, Some, None, refl, sym, ap, subst, arith, inl, inr, append-nil, length-append}
use Rattle.std.specs.List.{flat_map}
use Rattle.std.specs.Prelude.{◌==◌, if◌then◌else◌}
use Rattle.std.proofs.lemmas.Bool.{eqb-true}
use Rattle.sgp_der.specs.Element.{element}
use Rattle.sgp_der.specs.Number.{uint}
use Rattle.sgp_der.specs.Fields.{◌>>=◌}
use Rattle.sgp_der.proofs.Elements.{element_few, element_split, length-element}
use Rattle.sgp_der.proofs.Fields.{on_some}
use Rattle.sgp_der.proofs.Values.{uint_few}
use Rattle.sgp_fields.specs.Alone.{made_of, empty_of, number_alone, number_alone_of}
use Rattle.sgp_fields.specs.Elements.{tagged_as}
use Rattle.sgp_fields.specs.Fields.{value_at, last_at}
use Rattle.sgp_fields.specs.Laws.{OneSpelling}
use Rattle.sgp_fields.specs.Lists.{list_at}
use Rattle.sgp_fields.specs.Values.{number_of}
use Rattle.sgp_fields.proofs.AloneCodec.{number_alone_codec, on_made, made_again}
use Rattle.sgp_fields.proofs.Clauses.{one_by}
use Rattle.sgp_fields.proofs.Codecs.{IsCodec, IsListed, IsSpelled, IsTaken}
use Rattle.sgp_fields.proofs.Elements.{on_tag, record_listed, one_spelling}
use Rattle.sgp_fields.proofs.ListCodec.{IsList, list_codec}
use Rattle.sgp_fields.proofs.Steps.{on_value, on_last, value_again, last_again}
use Rattle.sgp_fields.proofs.ValueCodecs.{chosen, eim_id_codec, number_codec, mark_codec, IsAny, IsIn}
use Rattle.sgp_values.specs.Reading.{eim_id_of}
use Rattle.small_card.specs.declared.types.Command.{Command}
use Rattle.es10_codec.specs.Spelling.{command}
use Rattle.es10_codec.proofs.CommandCodec.{command_codec}
use Rattle.esipa_codec.specs.Reading.{to_eim_at, to_ipa_at}
use Rattle.esipa_codec.specs.Spelling.{to_eim, to_ipa}
use Rattle.esipa_codec.specs.declared.messages.Post.{Post}
use Rattle.esipa_codec.proofs.ToEimCodec.{to_eim_codec, to_eim_few}
use Rattle.esipa_codec.proofs.ToIpaCodec.{to_ipa_codec}
use Rattle.std.proofs.lemmas.Option.{same_Some}
use Rattle.iot_bytes.proofs.Framing.{IsBytes}
use Rattle.part_records.specs.Ranges.{IsEimOutput, IsPost, AreDeeds, IsSaid}
use Rattle.part_records.specs.Spelling.{eim_output, refusal_code, post_content, post, deeds_content, deeds}
use Rattle.part_records.specs.declared.records.EimOutput.{EimOutput}
use Rattle.part_records.specs.declared.records.EimOutput.TheVariants as eim_out
use Rattle.part_records.specs.declared.records.EimRefusal.{EimRefusal}
use Rattle.part_records.specs.declared.records.EimRefusal.TheVariants as refusal
use Rattle.part_records.specs.declared.records.Deeds.{Deeds}
use Rattle.part_records.specs.declared.records.Deeds.TheVariants as deed
use Rattle.part_records.proofs.Outputs.{code_few, content_few}

-- reading what a manager gives
abbrev refusal_of : ℕ → Option EimRefusal
refusal_of code =
    if code == 1 then Some refusal.Unbound
    else if code == 2 then Some refusal.CounterSpent
    else if code == 3 then Some refusal.BindLow
    else if code == 4 then Some refusal.NoneWaiting
    else None

refusal_taken : (code : ℕ) (why : EimRefusal) → refusal_of code ≡ Some why → code ≡ refusal_code why
refusal_taken code why e =
    elim (chosen (code == 1) _ _ _ e) [
      | inl is ↦ eqb-true code 1 is.0 ∙ ap refusal_code (same_Some _ _ is.1)
      | inr n1 ↦
          elim (chosen (code == 2) _ _ _ n1.1) [
            | inl is ↦ eqb-true code 2 is.0 ∙ ap refusal_code (same_Some _ _ is.1)
            | inr n2 ↦
                elim (chosen (code == 3) _ _ _ n2.1) [
                  | inl is ↦ eqb-true code 3 is.0 ∙ ap refusal_code (same_Some _ _ is.1)
                  | inr n3 ↦
                      elim (chosen (code == 4) _ _ _ n3.1) [
                        | inl is ↦ eqb-true code 4 is.0 ∙ ap refusal_code (same_Some _ _ is.1)
                        | inr n4 ↦ absurd cc
                      ]
                ]
          ]
    ]

abbrev refused_of : List ℕ → Option EimRefusal
refused_of content = do
  code ← number_alone_of 1 4 content
  refusal_of code

refused_takes : (content : List ℕ) (why : EimRefusal) → IsBytes content → refused_of content ≡ Some why → (content ≡ number_alone (refusal_code why)) × IsAny why
refused_takes content why fits e =
    on_some (number_alone_of 1 4 content) _ why e (λ code read is.
    let t = (number_alone_codec 1 4 (omega arith)).takes content code fits read in
    (t.0 ∙ ap number_alone (refusal_taken code why is), tt))

refused_again : (why : EimRefusal) → IsAny why → refused_of (number_alone (refusal_code why)) ≡ Some why
refused_again refusal.Unbound h = rw ((number_alone_codec 1 4 (omega arith)).again 1 (record { low = omega arith; high = omega arith })) refl
refused_again refusal.CounterSpent h = rw ((number_alone_codec 1 4 (omega arith)).again 2 (record { low = omega arith; high = omega arith })) refl
refused_again refusal.BindLow h = rw ((number_alone_codec 1 4 (omega arith)).again 3 (record { low = omega arith; high = omega arith })) refl
refused_again refusal.NoneWaiting h = rw ((number_alone_codec 1 4 (omega arith)).again 4 (record { low = omega arith; high = omega arith })) refl

refused_codec : IsCodec refused_of (λ why. number_alone (refusal_code why)) IsAny
refused_codec = record { takes = refused_takes; again = refused_again }

counter_codec : IsCodec (number_of 0 18446744073709551615) uint (IsIn 0 18446744073709551615)
counter_codec = number_codec 0 18446744073709551615 (omega arith)

unfoldable eim_output_of : ℕ → List ℕ → Option EimOutput
eim_output_of tag content =
    if tag == 0x80 then made_of (number_of 0 18446744073709551615) eim_out.Ordered content
    else if tag == 0xa1 then made_of refused_of eim_out.Refused content
    else if tag == 0x82 then empty_of eim_out.Bound content
    else if tag == 0x83 then made_of (number_of 0 18446744073709551615) eim_out.Skipped content
    else if tag == 0xa4 then made_of to_ipa_at eim_out.Reply content
    else if tag == 0x85 then empty_of eim_out.Silent content
    else None

reply_taken : (content : List ℕ) (x : EimOutput) → IsBytes content → length content ≤ 16777215 → made_of to_ipa_at eim_out.Reply content ≡ Some x → IsTaken eim_output IsEimOutput 0xa4 content x
unfolding eim_output IsEimOutput
reply_taken content x fits few e =
    on_some (to_ipa_at content) _ x e (λ m read e1.
    let t = to_ipa_codec.takes content m fits read in
    subst (λ (y : EimOutput). IsTaken eim_output IsEimOutput 0xa4 content y) (same_Some _ _ e1)
    (record { octets = ap (element 0xa4) t.0; fits = record { range = t.1; short = subst (λ (o : List ℕ). length o ≤ 16777215) t.0 few } }))

output_taken : (tag : ℕ) (content : List ℕ) (x : EimOutput) → IsBytes content → length content ≤ 16777215 → eim_output_of tag content ≡ Some x → IsTaken eim_output IsEimOutput tag content x
unfolding eim_output_of eim_output IsEimOutput
output_taken tag content x fits few e =
    on_made counter_codec eim_out.Ordered tag 0x80 content _ x fits e (λ n h. record { octets = refl; fits = omega (arith, h.high) }) (λ e1.
    on_made refused_codec eim_out.Refused tag 0xa1 content _ x fits e1 (λ why h. record { octets = refl; fits = tt }) (λ e2.
    on_made mark_codec (λ u. eim_out.Bound) tag 0x82 content _ x fits e2 (λ u h. record { octets = refl; fits = tt }) (λ e3.
    on_made counter_codec eim_out.Skipped tag 0x83 content _ x fits e3 (λ n h. record { octets = refl; fits = omega (arith, h.high) }) (λ e4.
    on_tag tag 0xa4 content _ _ x e4 (reply_taken content x fits few) (λ e5.
    on_made mark_codec (λ u. eim_out.Silent) tag 0x85 content _ x fits e5 (λ u h. record { octets = refl; fits = tt }) (λ e6.
    absurd cc))))))

refused_few : (why : EimRefusal) → length (number_alone (refusal_code why)) ≤ 16777215
refused_few why = omega (arith, element_few 0x80 (uint (refusal_code why)), uint_few (refusal_code why) (omega (arith, code_few why)))

output_again : (x : EimOutput) → IsEimOutput x → IsSpelled eim_output_of eim_output x
unfolding eim_output_of eim_output IsEimOutput
output_again (eim_out.Ordered n) h = record { tag = 0x80; content = uint n; octets = refl; low = omega arith; few = omega (arith, uint_few n h); read = made_again counter_codec eim_out.Ordered n (record { low = omega arith; high = omega (arith, h) }) }
output_again (eim_out.Refused why) h = record { tag = 0xa1; content = number_alone (refusal_code why); octets = refl; low = omega arith; few = refused_few why; read = made_again refused_codec eim_out.Refused why tt }
output_again eim_out.Bound h = record { tag = 0x82; content = []; octets = refl; low = omega arith; few = omega arith; read = made_again mark_codec (λ u. eim_out.Bound) tt tt }
output_again (eim_out.Skipped n) h = record { tag = 0x83; content = uint n; octets = refl; low = omega arith; few = omega (arith, uint_few n h); read = made_again counter_codec eim_out.Skipped n (record { low = omega arith; high = omega (arith, h) }) }
output_again (eim_out.Reply m) h = record { tag = 0xa4; content = to_ipa m; octets = refl; low = omega arith; few = h.short; read = made_again to_ipa_codec eim_out.Reply m h.range }
output_again eim_out.Silent h = record { tag = 0x85; content = []; octets = refl; low = omega arith; few = omega arith; read = made_again mark_codec (λ u. eim_out.Silent) tt tt }

output_listed : IsListed eim_output_of eim_output IsEimOutput
output_listed = record { takes = output_taken; again = output_again }

pub output_one_spelling : OneSpelling eim_output IsEimOutput
output_one_spelling = one_spelling output_listed

-- reading a message to a manager
abbrev post_of : List ℕ → Option Post
post_of content = do
  to ← value_at eim_id_of 0x80 content
  message ← last_at to_eim_at 0xa2 to.1
  Some (record { to = to.0; message = message })

post_takes : (content : List ℕ) (p : Post) → IsBytes content → post_of content ≡ Some p → (content ≡ post_content p) × IsPost p
unfolding post_content
post_takes content p fits e =
    on_value eim_id_codec 0x80 content _ p fits e (λ to rest a e1.
    on_last to_eim_codec 0xa2 rest _ p a.others e1 (λ m b e2.
    let whole : content ≡ element 0x80 to ++ element 0xa2 (to_eim m) = cc (a.parts, b.octets) in
    subst (λ (q : Post). (content ≡ element 0x80 q.to ++ element 0xa2 (to_eim q.message)) × IsPost q) (same_Some _ _ e2) (whole, record { to = a.fits; message = b.fits })))

post_again : (p : Post) → IsPost p → post_of (post_content p) ≡ Some p
unfolding post_content
post_again p h =
    rw (value_again eim_id_codec 0x80 p.to (element 0xa2 (to_eim p.message)) (omega arith) (omega (arith, h.to.few)) h.to)
    (rw (last_again to_eim_codec 0xa2 p.message (omega arith) (omega (arith, to_eim_few p.message h.message)) h.message) refl)

post_inside : (p : Post) → IsPost p → length (post_content p) ≤ 16777215
unfolding post_content
post_inside p h =
    omega (
      arith,
      length-append (element 0x80 p.to) (element 0xa2 (to_eim p.message)),
      element_few 0x80 p.to,
      h.to.few,
      element_few 0xa2 (to_eim p.message),
      to_eim_few p.message h.message,
    )

post_listed : IsListed (tagged_as 0xa1 post_of) post IsPost
unfolding post
post_listed = record_listed (record { takes = post_takes; again = post_again }) 0xa1 (omega arith) post_inside

posts_codec : IsCodec (list_at (tagged_as 0xa1 post_of) 8) (flat_map post) (IsList IsPost 8)
posts_codec = list_codec post_listed 8

-- an element isn't empty
some_element : (tag : ℕ) (content rest : List ℕ) → [] ≡ element tag content ++ rest → ⊥
some_element tag content rest e = omega (arith, ap length e, length-append (element tag content) rest, length-element tag content)

some_post : (p : Post) (ps : List Post) → [] ≡ flat_map post (p ∷ ps) → ⊥
unfolding post
some_post p ps e = some_element 0xa1 (post_content p) (flat_map post ps) e

-- and elements of two tags differ
command_or_posts : (c : Command) (p : Post) (ps : List Post) → length (command c) ≤ 16777205 → IsPost p → element 0xa0 (command c) ≡ flat_map post (p ∷ ps) → ⊥
unfolding post
command_or_posts c p ps few fits e =
    let same : element 0xa0 (command c) ++ [] ≡ element 0xa1 (post_content p) ++ flat_map post ps = append-nil (element 0xa0 (command c)) ∙ e in
    let k = element_split 0xa0 0xa1 (command c) (post_content p) [] (flat_map post ps) (omega arith) (omega arith) (omega (arith, few)) (post_inside p fits) same in
    omega (arith, k.tag)

same_content : (a b : Deeds) → IsSaid a → IsSaid b → deeds_content a ≡ deeds_content b → a ≡ b
unfolding deeds_content AreDeeds
same_content (deed.ToCard c) (deed.ToCard d) g h e =
    let k = element_split 0xa0 0xa0 (command c) (command d) [] [] (omega arith) (omega arith) (omega (arith, g.range.short)) (omega (arith, h.range.short)) (ap (λ (o : List ℕ). o ++ []) e) in
    ap deed.ToCard (one_by command_codec c d (record { range = g.range.range; short = g.range.elements }) (record { range = h.range.range; short = h.range.elements }) k.content)
same_content (deed.ToCard c) (deed.ToEims []) g h e = absurd (h.some refl)
same_content (deed.ToCard c) (deed.ToEims (p ∷ ps)) g h e = absurd (command_or_posts c p ps g.range.short h.range.each.0 e)
same_content (deed.ToCard c) deed.Nothing g h e = absurd (some_element 0xa0 (command c) [] (sym (append-nil (element 0xa0 (command c)) ∙ e)))
same_content (deed.ToEims []) b g h e = absurd (g.some refl)
same_content (deed.ToEims (p ∷ ps)) (deed.ToCard c) g h e = absurd (command_or_posts c p ps h.range.short g.range.each.0 (sym e))
same_content (deed.ToEims (p ∷ ps)) (deed.ToEims qs) g h e =
    ap deed.ToEims (one_by posts_codec (p ∷ ps) qs (record { few = g.range.few; each = g.range.each }) (record { few = h.range.few; each = h.range.each }) e)
same_content (deed.ToEims (p ∷ ps)) deed.Nothing g h e = absurd (some_post p ps (sym e))
same_content deed.Nothing (deed.ToCard c) g h e = absurd (some_element 0xa0 (command c) [] (e ∙ sym (append-nil (element 0xa0 (command c)))))
same_content deed.Nothing (deed.ToEims []) g h e = absurd (h.some refl)
same_content deed.Nothing (deed.ToEims (p ∷ ps)) g h e = absurd (some_post p ps e)
same_content deed.Nothing deed.Nothing g h e = refl

pub deeds_one_spelling : OneSpelling deeds IsSaid
unfolding deeds
deeds_one_spelling = λ a b x y g h e.
    let k = element_split 0x30 0x30 (deeds_content a) (deeds_content b) x y (omega arith) (omega arith) (omega (arith, content_few a g.range)) (omega (arith, content_few b h.range)) e in
    (same_content a b g h k.content, k.rest)
