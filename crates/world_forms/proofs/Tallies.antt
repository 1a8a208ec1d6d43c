-- Counting the texts that begin with a word, one text more.
use Rattle.std.proofs.Common.{◌≡◌, ◌<◌, ◌≤◌, ℕ, ◌+◌, ◌-◌, ◌^◌, Bool, true, false, cond, List, [], ◌∷◌, ◌++◌, length, refl, ap, sym, ◌∙◌, length-append, arith}
use Rattle.std.specs.Prelude.{◌==◌, ◌&&◌, min, filter, codes}
use Rattle.std.proofs.lemmas.List.Elements.{filter-append}
use Rattle.world_forms.specs.Demos.{AreCounts, begins, beginning}
use Rattle.world_forms.specs.Plays.{CountsOn, counted}
use Rattle.world_forms.specs.declared.tally.Tally.{Tally}

-- a word has no end of a line in it
abbrev IsWord : List ℕ → Type 0
IsWord [] = Unit {0}
IsWord (w ∷ ws) = ((w == 10) ≡ false) × IsWord ws

-- a text with its end begins with the same words
begins_ended : (word x : List ℕ) → IsWord word → begins word (x ++ 10 ∷ []) ≡ begins word x
begins_ended [] x plain = refl
begins_ended (w ∷ ws) [] plain = rw plain.0 refl
begins_ended (w ∷ ws) (y ∷ ys) plain = ap (λ (b : Bool). (w == y) && b) (begins_ended ws ys plain.1)

few_of : (p : List ℕ → Bool) (b : Bool) (x : List ℕ) (xs : List (List ℕ)) → length (filter p xs) ≤ length xs → length (cond b (x ∷ filter p xs) (filter p xs)) ≤ length (x ∷ xs)
few_of p true x xs few = omega (arith, few)
few_of p false x xs few = omega (arith, few)

filter_few : (p : List ℕ → Bool) (xs : List (List ℕ)) → length (filter p xs) ≤ length xs
filter_few p [] = omega arith
filter_few p (x ∷ xs) = few_of p (p x) x xs (filter_few p xs)

one_of : (b : Bool) (x : List ℕ) (n : ℕ) → n < 2 ^ 32 - 1 → n + length (cond b (x ∷ []) []) ≡ cond b (min (n + 1) (2 ^ 32 - 1)) n
one_of true x n few = omega (arith, few)
one_of false x n few = omega (arith, few)

counted_on : (word : List ℕ) (texts : List (List ℕ)) (x said : List ℕ) (count : ℕ) → IsWord word → said ≡ x ++ 10 ∷ [] → length texts < 2 ^ 32 - 1 → count ≡ beginning word texts → counted count word said ≡ beginning word (texts ++ x ∷ [])
unfolding beginning
counted_on word texts x said count plain is few same =
    let n : ℕ = length (filter (begins word) texts) in
    let begun : begins word said ≡ begins word x = ap (begins word) is ∙ begins_ended word x plain in
    let low : n ≤ length texts = filter_few (begins word) texts in
    ap (λ (k : ℕ). counted k word said) same
    ∙ ap (λ (b : Bool). cond b (min (n + 1) (2 ^ 32 - 1)) n) begun
    ∙ sym (one_of (begins word x) x n (omega (arith, low, few)))
    ∙ sym (length-append (filter (begins word) texts) (filter (begins word) (x ∷ [])))
    ∙ ap (λ (z : List (List ℕ)). length z) (sym (filter-append (begins word) texts (x ∷ [])))

-- no text is counted
pub none_counted : (t : Tally) → t.loaded ≡ 0 → t.refused ≡ 0 → t.rolled ≡ 0 → t.lost ≡ 0 → t.removed ≡ 0 → AreCounts t []
unfolding beginning
none_counted t loaded refused rolled lost removed = record { loaded = loaded; refused = refused; rolled = rolled; lost = lost; removed = removed }

-- each word is
pub all_counted : (before after : Tally) (said : List ℕ) → after.loaded ≡ counted before.loaded (codes "loaded") said → after.refused ≡ counted before.refused (codes "refused") said
    → after.rolled ≡ counted before.rolled (codes "rolled") said → after.lost ≡ counted before.lost (codes "lost") said → after.removed ≡ counted before.removed (codes "removed") said → CountsOn before after said
all_counted before after said loaded refused rolled lost removed = λ texts x is few are. record {
  loaded = loaded ∙ counted_on (codes "loaded") texts x said before.loaded (refl, (refl, (refl, (refl, (refl, (refl, tt)))))) is few are.loaded;
  refused = refused ∙ counted_on (codes "refused") texts x said before.refused (refl, (refl, (refl, (refl, (refl, (refl, (refl, tt))))))) is few are.refused;
  rolled = rolled ∙ counted_on (codes "rolled") texts x said before.rolled (refl, (refl, (refl, (refl, (refl, (refl, tt)))))) is few are.rolled;
  lost = lost ∙ counted_on (codes "lost") texts x said before.lost (refl, (refl, (refl, (refl, tt)))) is few are.lost;
  removed = removed ∙ counted_on (codes "removed") texts x said before.removed (refl, (refl, (refl, (refl, (refl, (refl, (refl, tt))))))) is few are.removed;
}
