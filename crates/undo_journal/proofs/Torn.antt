-- What a torn write may leave.
use Rattle.std.proofs.Common.{◌≡◌, ℕ, ◌+◌, ◌-◌, ◌≤◌, List, take, drop, refl, sym, ◌∙◌, subst, ap, arith}
use Rattle.std.specs.Prelude.{Result, Ok, Err, is_ok, OnOk, true}
use Rattle.std.proofs.lemmas.List.{take-take, drop-drop}
use Rattle.chip_port.specs.Seen.{Seen}
use Rattle.chip_port.specs.PastLaws.{torn_same}
use Rattle.chip_port.specs.Rules.{Only, Torn, put, Written, Synced}

pub none_only : (at n : ℕ) (s : Seen) → Only s.reads s.leaves → (i : List ℕ) → s.leaves i → Torn at n s.reads i
none_only at n s only i was = subst (λ (l : List ℕ). Torn at n s.reads l) (sym (only i was)) (torn_same at n s.reads)

-- inside a wider range
pub torn_wider : (at n from m : ℕ) (d i : List ℕ) → from ≤ at → at + n ≤ from + m → Torn at n d i → Torn from m d i
torn_wider at n from m d i le ge t = record {
  before = sym (take-take from at i le) ∙ ap (λ (l : List ℕ). take from l) t.before ∙ take-take from at d le;
  after = on i ∙ ap (λ (l : List ℕ). drop (from + m - (at + n)) l) t.after ∙ sym (on d);
  size = t.size;
}
  where
    on : (l : List ℕ) → drop (from + m) l ≡ drop (from + m - (at + n)) (drop (at + n) l)
    on l = let e : from + m ≡ at + n + (from + m - (at + n)) = omega arith in ap (λ (k : ℕ). drop k l) e ∙ sym (drop-drop (from + m - (at + n)) (at + n) l)

pub torn_then : (at n : ℕ) (a b c : List ℕ) → Torn at n a b → Torn at n b c → Torn at n a c
torn_then at n a b c ab bc = record { before = bc.before ∙ ab.before; after = bc.after ∙ ab.after; size = bc.size ∙ ab.size }

-- after a write and a sync that both succeed the content is the only image
pub gate_opened : {T U E : Type 0} {at : ℕ} {octets : List ℕ} {a b c : Seen} {x : T} (r : Result U E) → Written {T = T} {E = E} at octets a b (Ok x) → Synced b c r → is_ok r ≡ true
    → (c.reads ≡ put a.reads at octets) × Only c.reads c.leaves
gate_opened (Ok y) w s ok = (s.reads ∙ w.done, λ i now. s.done i now ∙ sym s.reads)
gate_opened (Err y) w s ok = absurd (cc ok)

pub torn_inside : (image : List ℕ) (at n : ℕ) (d i : List ℕ) → 512 ≤ at → at + n ≤ 174336 → Torn 512 173824 image d → Torn at n d i → Torn 512 173824 image i
torn_inside image at n d i le ge was torn = torn_then 512 173824 image d i was (torn_wider at n 512 173824 d i le (omega arith) torn)

pub written_done : {T E : Type 0} {at : ℕ} {octets : List ℕ} {b c : Seen} (r : Result T E) → Written at octets b c r → is_ok r ≡ true → c.reads ≡ put b.reads at octets
written_done (Ok y) w ok = w.done
written_done (Err y) w ok = absurd (cc ok)

-- what holds where the test says so holds of a success
pub where_ok : {T E : Type 0} (r : Result T E) (P : Type 0) → (is_ok r ≡ true → P) → OnOk r P
where_ok (Ok x) P h = h refl
where_ok (Err e) P h = tt
