-- What stands after calls: a result stays until a removal of its number, and nothing else comes.
use Rattle.std.proofs.Common.{◌≡◌, ℕ, ◌+◌, ◌≤◌, ◌<◌, suc, Bool, true, false, not, cond, List, [], ◌∷◌, ◌++◌, map, arith, refl, ◌∙◌, ap, sym, subst, inl, inr, Option, None, Some}
use Rattle.std.specs.Prelude.{◌⊎◌}
use Rattle.std.specs.List.{filter, Contains}
use Rattle.std.proofs.lemmas.Bool.{cond_both, eqb-true, ne_eqb, not-true}
use Rattle.std.proofs.lemmas.List.Elements.{Contains-append_left, Contains-append_right, Contains-append_cases, Contains-push_cases}
use Rattle.small_card.specs.Lists.{Every, without}
use Rattle.small_card.specs.Cards.{Results}
use Rattle.small_card.specs.Packages.{with_result}
use Rattle.small_card.specs.Units.{has_seq, without_result, with_mark, marked}
use Rattle.small_card.specs.declared.types.Item.{Item}
use Rattle.small_card.specs.declared.types.PackageResult.{PackageResult}
use Rattle.std.proofs.lemmas.Option.{same_Some}
use Rattle.result_store.specs.Stores.{numbered, passed}
use Rattle.result_store.specs.Calls.{Call, put, remove, mark_rolled, pass_number, after_call, after_calls, touched, stands, IsUntouched}
use Rattle.result_store.specs.Laws.{IsSameResult, WasRemoved, WasPut, ComesFrom}

-- elements of lists

contains_here : {X : Type 0} (y x : X) (xs : List X) → y ≡ x → Contains (y ∷ xs) x
contains_here y x xs e = (0, omega arith, e)

contains_there : {X : Type 0} (y x : X) (xs : List X) → Contains xs x → Contains (y ∷ xs) x
contains_there y x xs h = let l = h.1 in (suc h.0, omega arith, h.2)

contains_none : {X : Type 0} (x : X) → Contains [] x → ⊥
contains_none x h = let l = h.1 in omega arith

contains_case : {X : Type 0} (y x : X) (xs : List X) → Contains (y ∷ xs) x → (y ≡ x) ⊎ Contains xs x
contains_case y x xs h = elim (Contains-append_cases (y ∷ []) xs x h) [
  | inl a ↦ elim (Contains-push_cases [] y x a) [ inl n ↦ absurd (contains_none x n) | inr e ↦ inl e ]
  | inr k ↦ inr k
]

contains_filter : {X : Type 0} (t : X → Bool) (xs : List X) (x : X) → Contains xs x → t x ≡ true → Contains (filter t xs) x
contains_filter t [] x h e = absurd (contains_none x h)
contains_filter t (y ∷ ys) x h e = elim (contains_case y x ys h) [
  | inl i ↦ cond_both (t y) (y ∷ filter t ys) (filter t ys) (λ zs. Contains zs x) (λ _. contains_here y x (filter t ys) i) (λ f. absurd (cc (i, e, f)))
  | inr k ↦ cond_both (t y) (y ∷ filter t ys) (filter t ys) (λ zs. Contains zs x) (λ _. contains_there y x (filter t ys) (contains_filter t ys x k e)) (λ _. contains_filter t ys x k e)
]

contains_map : {X Y : Type 0} (f : X → Y) (xs : List X) (x : X) → Contains xs x → Contains (map f xs) (f x)
contains_map f [] x h = absurd (contains_none x h)
contains_map f (y ∷ ys) x h = elim (contains_case y x ys h) [
  | inl i ↦ contains_here (f y) (f x) (map f ys) (ap f i)
  | inr k ↦ contains_there (f y) (f x) (map f ys) (contains_map f ys x k)
]

filter_contains : {X : Type 0} (t : X → Bool) (xs : List X) (x : X) → Contains (filter t xs) x → Contains xs x × (t x ≡ true)
filter_contains t [] x h = absurd (contains_none x h)
filter_contains t (y ∷ ys) x h =
    elim (t y) as (λ b. t y ≡ b → Contains (cond b (y ∷ filter t ys) (filter t ys)) x → Contains (y ∷ ys) x × (t x ≡ true)) [
      | true ↦ λ e k. elim (contains_case y x (filter t ys) k) [
        | inl i ↦ (contains_here y x ys i, ap t (sym i) ∙ e)
        | inr m ↦ let r = filter_contains t ys x m in (contains_there y x ys r.0, r.1)
      ]
      | false ↦ λ e k. let r = filter_contains t ys x k in (contains_there y x ys r.0, r.1)
    ] refl h

map_contains : {X Y : Type 0} (f : X → Y) (xs : List X) (z : Y) → Contains (map f xs) z → (x : X) × Contains xs x × (f x ≡ z)
map_contains f [] z h = absurd (contains_none z h)
map_contains f (y ∷ ys) z h = elim (contains_case (f y) z (map f ys) h) [
  | inl i ↦ (y, contains_here y y ys refl, i)
  | inr k ↦ let r = map_contains f ys z k in (r.0, contains_there y r.0 ys r.1, r.2)
]

not_none : {X : Type 0} (x : X) → Some x ≡ None → ⊥
not_none x e = absurd (cc)

stands_none : (rs : Results) (cs : List Call) → stands rs cs None ≡ None
unfolding stands
stands_none rs [] = refl
stands_none rs (c ∷ cs) = refl

-- what stays

contains_touched : (rs : Results) (c : Call) (r q : PackageResult) → Contains rs.pending r → touched rs.next r c ≡ Some q → Contains (after_call rs c).pending q
unfolding touched with_result without_result marked passed
contains_touched rs (put eim association counter items) r q h e =
    let more : List PackageResult = numbered rs.next eim association counter items ∷ [] in
    subst (λ z. Contains (rs.pending ++ more) z) (same_Some r q e) (Contains-append_left rs.pending more r h)
contains_touched rs (remove seq) r q h e =
    elim (has_seq seq r) as (λ b. has_seq seq r ≡ b → cond {A = Option PackageResult} b None (Some r) ≡ Some q → Contains (without (has_seq seq) rs.pending) q) [
      | true ↦ λ t k. absurd (not_none q (sym k))
      | false ↦ λ t k. subst (λ z. Contains (without (has_seq seq) rs.pending) z) (same_Some r q k) (contains_filter (λ x. not (has_seq seq x)) rs.pending r h (ap not t))
    ] refl e
contains_touched rs (mark_rolled seq) r q h e =
    let rest : List PackageResult = without (has_seq seq) rs.pending in
    let marks : List PackageResult = map (with_mark rs.next) (filter (has_seq seq) rs.pending) in
    elim (has_seq seq r) as (λ b. has_seq seq r ≡ b → cond {A = Option PackageResult} b (Some (with_mark rs.next r)) (Some r) ≡ Some q → Contains (rest ++ marks) q) [
      | true ↦ λ t k. subst (λ z. Contains (rest ++ marks) z) (same_Some (with_mark rs.next r) q k)
          (Contains-append_right rest marks (with_mark rs.next r) (contains_map (with_mark rs.next) (filter (has_seq seq) rs.pending) r (contains_filter (has_seq seq) rs.pending r h t)))
      | false ↦ λ t k. subst (λ z. Contains (rest ++ marks) z) (same_Some r q k)
          (Contains-append_left rest marks r (contains_filter (λ x. not (has_seq seq x)) rs.pending r h (ap not t)))
    ] refl e
contains_touched rs pass_number r q h e = subst (λ z. Contains rs.pending z) (same_Some r q e) h

pub result_stays : (rs : Results) (cs : List Call) (r q : PackageResult) → Contains rs.pending r → stands rs cs (Some r) ≡ Some q → Contains (after_calls rs cs).pending q
unfolding stands after_calls
result_stays rs [] r q h e = subst (λ z. Contains rs.pending z) (same_Some r q e) h
result_stays rs (c ∷ cs) r q h e =
    elim (touched rs.next r c) as (λ o. touched rs.next r c ≡ o → stands (after_call rs c) cs o ≡ Some q → Contains (after_calls (after_call rs c) cs).pending q) [
      | None ↦ λ t k. absurd (not_none q (sym k ∙ stands_none (after_call rs c) cs))
      | Some z ↦ λ t k. result_stays (after_call rs c) cs z q (contains_touched rs c r z h t) k
    ] refl e

-- what stays the same

same_self : (r : PackageResult) → IsSameResult r r
same_self r = record { eim = refl; association = refl; counter = refl; items = refl; mark = inl refl }

same_again : (r z q : PackageResult) → IsSameResult r z → IsSameResult z q → IsSameResult r q
same_again r z q a b = record {
  eim = b.eim ∙ a.eim;
  association = b.association ∙ a.association;
  counter = b.counter ∙ a.counter;
  items = b.items ∙ a.items;
  mark = elim a.mark [
    | inl e ↦ elim b.mark [
      | inl f ↦ inl (f ∙ e)
      | inr g ↦ inr (g.0, subst (λ (s : PackageResult). s.seq < q.seq) e g.1)
    ]
    | inr d ↦ elim b.mark [
      | inl f ↦ inr (ap (λ (s : PackageResult). s.rolled) f ∙ d.0, subst (λ (s : PackageResult). r.seq < s.seq) (sym f) d.1)
      | inr g ↦ let l : r.seq < z.seq = d.1 in let m : z.seq < q.seq = g.1 in inr (g.0, omega arith)
    ]
  ];
}

-- one call leaves a result the same, with a number that was given out
pub record SameStep (next : ℕ) (r z : PackageResult) : Type 0 where
  pub same : IsSameResult r z
  pub given : z.seq < next

stays_given : (n m : ℕ) (r z : PackageResult) → r.seq < n → n ≤ m → r ≡ z → SameStep m r z
stays_given n m r z l k e = subst (λ (w : PackageResult). SameStep m r w) e (record { same = same_self r; given = omega arith })

gets_mark : (n : ℕ) (r z : PackageResult) → r.seq < n → with_mark n r ≡ z → SameStep (n + 1) r z
gets_mark n r z l e = subst (λ (w : PackageResult). SameStep (n + 1) r w) e
    (record { same = record { eim = refl; association = refl; counter = refl; items = refl; mark = inr (refl, l) }; given = omega arith })

same_step : (rs : Results) (c : Call) (r z : PackageResult) → r.seq < rs.next → touched rs.next r c ≡ Some z → SameStep (after_call rs c).next r z
unfolding touched with_result without_result marked passed
same_step rs (put eim association counter items) r z l e = stays_given rs.next (rs.next + 1) r z l (omega arith) (same_Some r z e)
same_step rs (remove seq) r z l e =
    elim (has_seq seq r) as (λ b. cond {A = Option PackageResult} b None (Some r) ≡ Some z → SameStep rs.next r z) [
      | true ↦ λ k. absurd (not_none z (sym k))
      | false ↦ λ k. stays_given rs.next rs.next r z l (omega arith) (same_Some r z k)
    ] e
same_step rs (mark_rolled seq) r z l e =
    elim (has_seq seq r) as (λ b. cond {A = Option PackageResult} b (Some (with_mark rs.next r)) (Some r) ≡ Some z → SameStep (rs.next + 1) r z) [
      | true ↦ λ k. gets_mark rs.next r z l (same_Some (with_mark rs.next r) z k)
      | false ↦ λ k. stays_given rs.next (rs.next + 1) r z l (omega arith) (same_Some r z k)
    ] e
same_step rs pass_number r z l e = stays_given rs.next (rs.next + 1) r z l (omega arith) (same_Some r z e)

pub result_same : (rs : Results) (cs : List Call) (r q : PackageResult) → r.seq < rs.next → stands rs cs (Some r) ≡ Some q → IsSameResult r q
unfolding stands
result_same rs [] r q l e = subst (λ (z : PackageResult). IsSameResult r z) (same_Some r q e) (same_self r)
result_same rs (c ∷ cs) r q l e =
    elim (touched rs.next r c) as (λ o. touched rs.next r c ≡ o → stands (after_call rs c) cs o ≡ Some q → IsSameResult r q) [
      | None ↦ λ t k. absurd (not_none q (sym k ∙ stands_none (after_call rs c) cs))
      | Some z ↦ λ t k. let s = same_step rs c r z l t in same_again r z q s.same (result_same (after_call rs c) cs z q s.given k)
    ] refl e

-- what no call names

touched_not : (n : ℕ) (r : PackageResult) (c : Call) → IsUntouched r.seq c → touched n r c ≡ Some r
unfolding touched
touched_not n r (put eim association counter items) h = refl
touched_not n r (remove seq) h =
    let f : has_seq seq r ≡ false = ne_eqb r.seq seq (λ (e : r.seq ≡ seq). h.kept (ap remove (sym e))) in
    ap (λ b. cond {A = Option PackageResult} b None (Some r)) f
touched_not n r (mark_rolled seq) h =
    let f : has_seq seq r ≡ false = ne_eqb r.seq seq (λ (e : r.seq ≡ seq). h.unmarked (ap mark_rolled (sym e))) in
    ap (λ b. cond {A = Option PackageResult} b (Some (with_mark n r)) (Some r)) f
touched_not n r pass_number h = refl

pub result_untouched : (rs : Results) (cs : List Call) (r : PackageResult) → Every (IsUntouched r.seq) cs → stands rs cs (Some r) ≡ Some r
unfolding stands
result_untouched rs [] r h = refl
result_untouched rs (c ∷ cs) r h = ap (stands (after_call rs c) cs) (touched_not rs.next r c h.0) ∙ result_untouched (after_call rs c) cs r h.1

-- what ends a result

ended_by : (n : ℕ) (r : PackageResult) (c : Call) → touched n r c ≡ None → c ≡ remove r.seq
unfolding touched
ended_by n r (put eim association counter items) e = absurd (not_none r e)
ended_by n r (remove seq) e =
    elim (has_seq seq r) as (λ b. has_seq seq r ≡ b → cond {A = Option PackageResult} b None (Some r) ≡ None → remove seq ≡ remove r.seq) [
      | true ↦ λ t k. ap remove (sym (eqb-true r.seq seq t))
      | false ↦ λ t k. absurd (not_none r k)
    ] refl e
ended_by n r (mark_rolled seq) e =
    elim (has_seq seq r) as (λ b. cond {A = Option PackageResult} b (Some (with_mark n r)) (Some r) ≡ None → mark_rolled seq ≡ remove r.seq) [
      | true ↦ λ k. absurd (not_none (with_mark n r) k)
      | false ↦ λ k. absurd (not_none r k)
    ] e
ended_by n r pass_number e = absurd (not_none r e)

pub result_removed : (rs : Results) (cs : List Call) (r : PackageResult) → stands rs cs (Some r) ≡ None → WasRemoved rs cs r
unfolding stands
result_removed rs [] r e = absurd (not_none r e)
result_removed rs (c ∷ cs) r e =
    elim (touched rs.next r c) as (λ o. touched rs.next r c ≡ o → stands (after_call rs c) cs o ≡ None → WasRemoved rs (c ∷ cs) r) [
      | None ↦ λ t k. record { before = []; later = cs; last = r; calls = ap (λ (d : Call). d ∷ cs) (ended_by rs.next r c t); stood = refl }
      | Some z ↦ λ t k.
          let w = result_removed (after_call rs c) cs z k in
          record { before = c ∷ w.before; later = w.later; last = w.last; calls = ap (λ (ds : List Call). c ∷ ds) w.calls; stood = ap (stands (after_call rs c) w.before) t ∙ w.stood }
    ] refl e

-- what comes

-- a result was pending before one call, or the call put it
pub record WasTouched (rs : Results) (c : Call) (z : PackageResult) : Type 0 where
  pub first : PackageResult
  pub pending : Contains rs.pending first
  pub by : touched rs.next first c ≡ Some z

pub record IsNew (rs : Results) (c : Call) (z : PackageResult) : Type 0 where
  pub eim : List ℕ
  pub association : ℕ
  pub counter : ℕ
  pub items : List Item
  pub call : c ≡ put eim association counter items
  pub result : numbered rs.next eim association counter items ≡ z

comes_by : (rs : Results) (c : Call) (z : PackageResult) → Contains (after_call rs c).pending z → WasTouched rs c z ⊎ IsNew rs c z
unfolding touched with_result without_result marked passed
comes_by rs (put eim association counter items) z h = elim (Contains-push_cases rs.pending (numbered rs.next eim association counter items) z h) [
  | inl k ↦ inl (record { first = z; pending = k; by = refl })
  | inr e ↦ inr (record { eim = eim; association = association; counter = counter; items = items; call = refl; result = e })
]
comes_by rs (remove seq) z h =
    let k = filter_contains (λ x. not (has_seq seq x)) rs.pending z h in
    inl (record { first = z; pending = k.0; by = ap (λ b. cond {A = Option PackageResult} b None (Some z)) (not-true (has_seq seq z) k.1) })
comes_by rs (mark_rolled seq) z h =
    elim (Contains-append_cases (without (has_seq seq) rs.pending) (map (with_mark rs.next) (filter (has_seq seq) rs.pending)) z h) [
      | inl a ↦
          let k = filter_contains (λ x. not (has_seq seq x)) rs.pending z a in
          inl (record { first = z; pending = k.0; by = ap (λ b. cond {A = Option PackageResult} b (Some (with_mark rs.next z)) (Some z)) (not-true (has_seq seq z) k.1) })
      | inr a ↦
          let m = map_contains (with_mark rs.next) (filter (has_seq seq) rs.pending) z a in
          let r : PackageResult = m.0 in
          let k = filter_contains (has_seq seq) rs.pending r m.1 in
          inl (record { first = r; pending = k.0; by = ap (λ b. cond {A = Option PackageResult} b (Some (with_mark rs.next r)) (Some r)) k.1 ∙ ap (λ (s : PackageResult). Some s) m.2 })
    ]
comes_by rs pass_number z h = inl (record { first = z; pending = h; by = refl })

new_here : (rs : Results) (c : Call) (cs : List Call) (z q : PackageResult) → IsNew rs c z → stands (after_call rs c) cs (Some z) ≡ Some q → WasPut rs (c ∷ cs) q
unfolding stands after_calls
new_here rs c cs z q n e = record {
  before = [];
  later = cs;
  eim = n.eim;
  association = n.association;
  counter = n.counter;
  items = n.items;
  calls = ap (λ (d : Call). d ∷ cs) n.call;
  stood =
      ap (λ (s : PackageResult). stands (after_call rs (put n.eim n.association n.counter n.items)) cs (Some s)) n.result
      ∙ ap (λ (d : Call). stands (after_call rs d) cs (Some z)) (sym n.call) ∙ e;
}

pub result_comes : (rs : Results) (cs : List Call) (q : PackageResult) → Contains (after_calls rs cs).pending q → ComesFrom rs cs q
unfolding stands after_calls
result_comes rs [] q h = inl (record { first = q; pending = h; stood = refl })
result_comes rs (c ∷ cs) q h = elim (result_comes (after_call rs c) cs q h) [
  | inl w ↦ elim (comes_by rs c w.first w.pending) [
    | inl t ↦ inl (record { first = t.first; pending = t.pending; stood = ap (stands (after_call rs c) cs) t.by ∙ w.stood })
    | inr n ↦ inr (new_here rs c cs w.first q n w.stood)
  ]
  | inr w ↦ inr (record { before = c ∷ w.before; later = w.later; eim = w.eim; association = w.association; counter = w.counter; items = w.items; calls = ap (λ (ds : List Call). c ∷ ds) w.calls; stood = w.stood })
]
