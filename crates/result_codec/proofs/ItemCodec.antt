-- An item that is read was spelled so, and one that is spelled is read again.
use Rattle.std.proofs.Common.{◌≡◌, ◌≢◌, ℕ, zero, suc, ◌≤◌, true, false, cond, List, [], ◌++◌, length, Some, refl, ap, subst, arith, inl, inr, length-append}
use Rattle.std.specs.Prelude.{◌==◌}
use Rattle.std.specs.List.{flat_map}
use Rattle.std.proofs.lemmas.Bool.{eqb-true, eqb-false, ne_eqb, cases_eq, cond-false}
use Rattle.sgp_der.specs.Element.{element}
use Rattle.sgp_der.specs.Number.{uint}
use Rattle.sgp_der.proofs.Fields.{on_some}
use Rattle.sgp_fields.specs.Values.{number_of}
use Rattle.sgp_fields.specs.Lists.{list_at}
use Rattle.sgp_fields.specs.Alone.{made_of, number_alone, number_alone_of}
use Rattle.sgp_fields.proofs.Codecs.{IsCodec, IsListed, IsSpelled, IsTaken, IsValue}
use Rattle.sgp_fields.proofs.Elements.{on_tag}
use Rattle.sgp_fields.proofs.AloneCodec.{number_alone_codec, on_made, made_again}
use Rattle.sgp_fields.proofs.Steps.{on_value, on_last, on_end, value_again, last_again}
use Rattle.sgp_fields.proofs.ValueCodecs.{chosen, IsIn}
use Rattle.sgp_fields.proofs.ListCodec.{list_codec, some_takes, some_again}
use Rattle.sgp_fields.proofs.Numbers.{card_number_codec, up_to_codec, IsUpTo}
use Rattle.sgp_fields.proofs.Sizes.{short, long, code_few, number_few, flat_few}
use Rattle.small_card.specs.Lists.{Every}
use Rattle.small_card.specs.Ranges.{IsAdd, IsItem, IsOneToEight}
use Rattle.small_card.specs.declared.types.Item.{Item}
use Rattle.small_card.specs.declared.types.Item.TheVariants as done
use Rattle.std.proofs.lemmas.Option.{same_Some}
use Rattle.iot_bytes.proofs.Framing.{IsBytes}
use Rattle.result_codec.specs.Spelling.{profiles, eim_lines, new_association, add_content, item, items}
use Rattle.result_codec.specs.Reading.{done_at, not_done_at, add_at, item_of, items_at}
use Rattle.result_codec.proofs.TableCodec.{profiles_codec, profiles_few}
use Rattle.result_codec.proofs.EimListCodec.{eim_lines_codec, eim_lines_few}

Taken : ℕ → List ℕ → Item → Type 0
Taken tag content i = IsTaken item IsItem tag content i

-- a code alone
codes : (greatest : ℕ) → greatest ≤ 127 → IsCodec (number_alone_of 0 greatest) number_alone (IsIn 0 greatest)
codes greatest few = number_alone_codec 0 greatest (omega arith)

code_codec : IsCodec (number_of 0 3) uint (IsUpTo 3)
code_codec = up_to_codec 3 (omega arith)

done_taken : (content rest : List ℕ) (code : ℕ) (i : Item) → IsValue uint (IsUpTo 3) 0x80 content code rest → code ≡ 0 → done_at rest ≡ Some i → Taken 0xa8 content i
unfolding Taken done_at item IsItem add_content
done_taken content rest code i a z e =
    on_last card_number_codec 0x81 rest _ i a.others e (λ n l e1.
    let whole : content ≡ element 0x80 (uint 0) ++ element 0x81 (uint n) = cc (a.parts, l.octets, z) in
    subst (λ (x : Item). IsTaken item IsItem 0xa8 content x) (same_Some _ _ e1)
    (record { octets = ap (element 0xa8) whole; fits = record { code = omega arith; fits = l.fits.fits; there = (λ h. refl, λ h. l.fits.some) } }))

not_done_taken : (content rest : List ℕ) (code : ℕ) (i : Item) → IsValue uint (IsUpTo 3) 0x80 content code rest → code ≢ 0 → not_done_at code rest ≡ Some i → Taken 0xa8 content i
unfolding Taken not_done_at item IsItem add_content
not_done_taken content rest code i a nz e =
    on_end rest _ i e (λ none e1.
    let none_added : new_association code 0 ≡ [] = cond-false (code == 0) (element 0x81 (uint 0)) [] (ne_eqb code 0 nz) in
    let whole : content ≡ element 0x80 (uint code) ++ new_association code 0 = cc (a.parts, none, none_added) in
    subst (λ (x : Item). IsTaken item IsItem 0xa8 content x) (same_Some _ _ e1)
    (record { octets = ap (element 0xa8) whole; fits = record { code = a.fits; fits = omega arith; there = (λ h. absurd (omega arith), λ h. absurd (nz h)) } }))

add_taken : (content : List ℕ) (i : Item) → IsBytes content → add_at content ≡ Some i → Taken 0xa8 content i
unfolding add_at
add_taken content i fits e =
    on_value code_codec 0x80 content _ i fits e (λ code rest a e1.
    elim (chosen (code == 0) _ _ _ e1) [
      | inl h ↦ done_taken content rest code i a (eqb-true code 0 h.0) h.1
      | inr h ↦ not_done_taken content rest code i a (eqb-false code 0 h.0) h.1
    ])

item_taken : (tag : ℕ) (content : List ℕ) (i : Item) → IsBytes content → length content ≤ 16777215 → item_of tag content ≡ Some i → IsTaken item IsItem tag content i
unfolding Taken item_of item IsItem
item_taken tag content i fits few e =
    on_made (codes 2 (omega arith)) done.Enable tag 0xa0 content _ i fits e (λ code h. record { octets = refl; fits = h.high }) (λ e1.
    on_made (codes 2 (omega arith)) done.Disable tag 0xa1 content _ i fits e1 (λ code h. record { octets = refl; fits = h.high }) (λ e2.
    on_made (codes 3 (omega arith)) done.Delete tag 0xa2 content _ i fits e2 (λ code h. record { octets = refl; fits = h.high }) (λ e3.
    on_made profiles_codec done.Profiles tag 0xa3 content _ i fits e3 (λ rows h. record { octets = refl; fits = h }) (λ e4.
    on_tag tag 0xa8 content _ _ i e4 (add_taken content i fits) (λ e5.
    on_made (codes 1 (omega arith)) done.Update tag 0xa9 content _ i fits e5 (λ code h. record { octets = refl; fits = h.high }) (λ e6.
    on_made (codes 2 (omega arith)) done.Dropped tag 0xaa content _ i fits e6 (λ code h. record { octets = refl; fits = h.high }) (λ e7.
    on_made eim_lines_codec done.Eims tag 0xab content _ i fits e7 (λ rows h. record { octets = refl; fits = h }) (λ e8.
    absurd cc))))))))

alone_few : (code : ℕ) → code ≤ 127 → length (number_alone code) ≤ 3
alone_few code le = short 0x80 (uint code) 1 (code_few code le) (omega arith)

new_few : (code association : ℕ) → association ≤ 4294967295 → length (new_association code association) ≤ 7
new_few code association le =
    elim (code == 0) as (λ b. length (cond b (element 0x81 (uint association)) []) ≤ 7) [
      | true ↦ short 0x81 (uint association) 5 (number_few association le) (omega arith)
      | false ↦ omega arith
    ]

add_content_few : (code association : ℕ) → code ≤ 127 → association ≤ 4294967295 → length (add_content code association) ≤ 10
unfolding add_content
add_content_few code association low le =
    omega (arith, length-append (element 0x80 (uint code)) (new_association code association), short 0x80 (uint code) 1 (code_few code low) (omega arith), new_few code association le)

none_there : (code association : ℕ) → (1 ≤ association → code ≡ 0) → code ≢ 0 → association ≡ 0
none_there code zero zeroed nz = refl
none_there code (suc association) zeroed nz = absurd (nz (zeroed (omega arith)))

add_again : (code association : ℕ) → IsAdd code association → add_at (add_content code association) ≡ Some (done.Add code association)
unfolding add_at add_content done_at not_done_at
add_again code association h =
    let few : length (uint code) ≤ 1 = code_few code (omega (arith, h.code)) in
    elim (cases_eq code 0) [
      | inl z ↦
          let some : 1 ≤ association = h.there.1 z in
          let zero_added : new_association code association ≡ element 0x81 (uint association) = rw z refl in
          rw zero_added
          (rw (value_again code_codec 0x80 code (element 0x81 (uint association)) (omega arith) (omega arith) h.code)
          (rw z
          (rw (last_again card_number_codec 0x81 association (omega arith) (omega (arith, number_few association h.fits)) (record { some = some; fits = h.fits })) refl)))
      | inr nz ↦
          let none : association ≡ 0 = none_there code association h.there.0 nz in
          let none_added : new_association code association ≡ [] = cond-false (code == 0) (element 0x81 (uint association)) [] (ne_eqb code 0 nz) in
          rw none_added
          (rw (value_again code_codec 0x80 code [] (omega arith) (omega arith) h.code)
          (rw (ne_eqb code 0 nz) (rw none refl)))
    ]

-- an item with a code is made again
code_again : (greatest : ℕ) (made : ℕ → Item) (code : ℕ) → greatest ≤ 127 → code ≤ greatest → made_of (number_alone_of 0 greatest) made (number_alone code) ≡ Some (made code)
code_again greatest made code few le = made_again (codes greatest few) made code (record { low = omega arith; high = le })

pub item_again : (i : Item) → IsItem i → IsSpelled item_of item i
unfolding item IsItem item_of
item_again (done.Enable code) h = record { tag = 0xa0; content = number_alone code; octets = refl; low = omega arith; few = omega (arith, alone_few code (omega arith)); read = code_again 2 done.Enable code (omega arith) h }
item_again (done.Disable code) h = record { tag = 0xa1; content = number_alone code; octets = refl; low = omega arith; few = omega (arith, alone_few code (omega arith)); read = code_again 2 done.Disable code (omega arith) h }
item_again (done.Delete code) h = record { tag = 0xa2; content = number_alone code; octets = refl; low = omega arith; few = omega (arith, alone_few code (omega arith)); read = code_again 3 done.Delete code (omega arith) h }
item_again (done.Profiles ps) h = record { tag = 0xa3; content = profiles ps; octets = refl; low = omega arith; few = omega (arith, profiles_few ps h); read = made_again profiles_codec done.Profiles ps h }
item_again (done.Add code association) h = record { tag = 0xa8; content = add_content code association; octets = refl; low = omega arith; few = omega (arith, add_content_few code association (omega (arith, h.code)) h.fits); read = add_again code association h }
item_again (done.Update code) h = record { tag = 0xa9; content = number_alone code; octets = refl; low = omega arith; few = omega (arith, alone_few code (omega arith)); read = code_again 1 done.Update code (omega arith) h }
item_again (done.Dropped code) h = record { tag = 0xaa; content = number_alone code; octets = refl; low = omega arith; few = omega (arith, alone_few code (omega arith)); read = code_again 2 done.Dropped code (omega arith) h }
item_again (done.Eims es) h = record { tag = 0xab; content = eim_lines es; octets = refl; low = omega arith; few = omega (arith, eim_lines_few es h); read = made_again eim_lines_codec done.Eims es h }

-- items and their elements
pub item_listed : IsListed item_of item IsItem
item_listed = record { takes = item_taken; again = item_again }

code_item_few : (tag code : ℕ) → code ≤ 127 → length (element tag (number_alone code)) ≤ 5
code_item_few tag code le = short tag (number_alone code) 3 (alone_few code le) (omega arith)

-- an item has at most 2,268 octets
pub item_few : (i : Item) → IsItem i → length (item i) ≤ 2268
unfolding item IsItem
item_few (done.Enable code) h = omega (arith, code_item_few 0xa0 code (omega arith))
item_few (done.Disable code) h = omega (arith, code_item_few 0xa1 code (omega arith))
item_few (done.Delete code) h = omega (arith, code_item_few 0xa2 code (omega arith))
item_few (done.Profiles ps) h = omega (arith, long 0xa3 (profiles ps) 1328 (profiles_few ps h) (omega arith))
item_few (done.Add code association) h = omega (arith, short 0xa8 (add_content code association) 10 (add_content_few code association (omega (arith, h.code)) h.fits) (omega arith))
item_few (done.Update code) h = omega (arith, code_item_few 0xa9 code (omega arith))
item_few (done.Dropped code) h = omega (arith, code_item_few 0xaa code (omega arith))
item_few (done.Eims es) h = long 0xab (eim_lines es) 2264 (eim_lines_few es h) (omega arith)

-- the items of a result: from 1 to 8, each in range
pub record IsItems (is : List Item) : Type 0 where
  pub many : IsOneToEight (length is)
  pub each : Every IsItem is

-- the items have at most 18,144 octets
pub items_few : (is : List Item) → IsItems is → length (items is) ≤ 18144
items_few is h = omega (arith, flat_few item IsItem 2268 item_few is h.each, h.many.few)

items_take : (content : List ℕ) (is : List Item) → IsBytes content → items_at content ≡ Some is → (content ≡ items is) × IsItems is
unfolding items_at
items_take content is fits e =
    on_some (list_at item_of 8 content) _ is e (λ rows a e1.
    let t = (list_codec item_listed 8).takes content rows fits a in
    let s = some_takes rows is e1 in
    subst (λ (x : List Item). (content ≡ flat_map item x) × IsItems x) s.0 (t.0, record { many = record { some = s.1; few = t.1.few }; each = t.1.each }))

items_again : (is : List Item) → IsItems is → items_at (items is) ≡ Some is
unfolding items_at
items_again is h =
    rw ((list_codec item_listed 8).again is (record { few = h.many.few; each = h.each })) (some_again is h.many.some)

-- items and their contents
pub items_codec : IsCodec items_at items IsItems
items_codec = record { takes = items_take; again = items_again }
