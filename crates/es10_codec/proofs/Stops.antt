-- A stop record has one spelling.
use Rattle.std.proofs.Common.{◌≡◌, ◌≢◌, ℕ, ◌≤◌, ◌<◌, ◌^◌, List, [], ◌++◌, length, sym, ap, ◌∙◌, arith, length-append}
use Rattle.std.proofs.lemmas.List.{append-nil}
use Rattle.sgp_der.specs.Element.{element}
use Rattle.sgp_der.specs.Number.{uint, uint_of}
use Rattle.sgp_der.proofs.Elements.{element_split, element_few}
use Rattle.sgp_der.proofs.Values.{uint_few, uint_again}
use Rattle.small_card.specs.declared.types.Answer.{Answer}
use Rattle.small_card.specs.declared.types.Answer.TheVariants as reply
use Rattle.std.proofs.lemmas.Option.{same_Some}
use Rattle.es10_codec.specs.Spelling.{answer, stop_content, stopped}
use Rattle.es10_codec.specs.Laws.{SameStop}

uint_is : (n m : ℕ) → n < 2 ^ 64 → m < 2 ^ 64 → uint n ≡ uint m → n ≡ m
uint_is n m low_n low_m e = same_Some n m (sym (uint_again n low_n) ∙ ap uint_of e ∙ uint_again m low_m)

content_few : (s n : ℕ) → s < 2 ^ 64 → n < 2 ^ 64 → length (stop_content s n) ≤ 28
unfolding stop_content
content_few s n low_s low_n =
    omega (arith, length-append (element 0x80 (uint s)) (element 0x81 (uint n)), element_few 0x80 (uint s), element_few 0x81 (uint n), uint_few s low_s, uint_few n low_n)

content_split : (s t n m : ℕ) → s < 2 ^ 64 → t < 2 ^ 64 → n < 2 ^ 64 → m < 2 ^ 64 → stop_content s n ≡ stop_content t m → (s ≡ t) × (n ≡ m)
unfolding stop_content
content_split s t n m low_s low_t low_n low_m e =
    let first = element_split 0x80 0x80 (uint s) (uint t) (element 0x81 (uint n)) (element 0x81 (uint m)) (omega arith) (omega arith) (omega (arith, uint_few s low_s)) (omega (arith, uint_few t low_t)) e in
    let second = element_split 0x81 0x81 (uint n) (uint m) [] [] (omega arith) (omega arith) (omega (arith, uint_few n low_n)) (omega (arith, uint_few m low_m)) (append-nil (element 0x81 (uint n)) ∙ first.rest ∙ sym (append-nil (element 0x81 (uint m)))) in
    (uint_is s t low_s low_t first.content, uint_is n m low_n low_m second.content)

pub stops_split : (s t n m : ℕ) (x y : List ℕ) → s < 2 ^ 64 → t < 2 ^ 64 → n < 2 ^ 64 → m < 2 ^ 64 → stopped s n ++ x ≡ stopped t m ++ y → SameStop s t n m x y
unfolding stopped
stops_split s t n m x y low_s low_t low_n low_m e =
    let outer = element_split 0xad 0xad (stop_content s n) (stop_content t m) x y (omega arith) (omega arith) (omega (arith, content_few s n low_s low_n)) (omega (arith, content_few t m low_t low_m)) e in
    let inner = content_split s t n m low_s low_t low_n low_m outer.content in
    record { status = inner.0; number = inner.1; rest = outer.rest }

first_is : (tag : ℕ) (content other : List ℕ) → tag ≢ 0xad → element tag content ≡ element 0xad other → ⊥
unfolding element
first_is tag content other ne e = ne cc

-- no answer is a stop record
pub stop_apart : (a : Answer) (status number : ℕ) → answer a ≡ stopped status number → ⊥
unfolding answer stopped
stop_apart reply.Personalised s n e = first_is 0x80 _ _ (omega arith) e
stop_apart (reply.Loaded r) s n e = first_is 0xa1 _ _ (omega arith) e
stop_apart (reply.LoadRefused r) s n e = first_is 0xa2 _ _ (omega arith) e
stop_apart (reply.RolledBack seq) s n e = first_is 0xa3 _ _ (omega arith) e
stop_apart reply.NotPermitted s n e = first_is 0x84 _ _ (omega arith) e
stop_apart reply.Removed s n e = first_is 0x85 _ _ (omega arith) e
stop_apart reply.Absent s n e = first_is 0x86 _ _ (omega arith) e
stop_apart (reply.Results rs) s n e = first_is 0xa7 _ _ (omega arith) e
stop_apart (reply.Eims es) s n e = first_is 0xa8 _ _ (omega arith) e
stop_apart (reply.Associated association) s n e = first_is 0xa9 _ _ (omega arith) e
stop_apart (reply.InitialRefused code) s n e = first_is 0xaa _ _ (omega arith) e
stop_apart reply.Malformed s n e = first_is 0x8b _ _ (omega arith) e
stop_apart reply.AlreadyPersonal s n e = first_is 0x8c _ _ (omega arith) e
