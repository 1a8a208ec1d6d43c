-- The first word of a text, and the words behind it.
use Rattle.std.proofs.Common.{◌≡◌, ◌≢◌, MatchBool, ℕ, ◌<◌, ◌≤◌, ◌-◌, Bool, true, false, List, [], ◌∷◌, ◌++◌, length, take, drop, get_or, inl, inr, refl, sym, ap, ◌∙◌, arith, length-take}
use Rattle.std.specs.List.{before_first, after_first, position_or_len}
use Rattle.std.specs.Prelude.{◌==◌}
use Rattle.std.proofs.lemmas.Bool.{cases_lt, eqb-true}
use Rattle.std.proofs.lemmas.List.{nil_from_length, take_all, drop_all, take_min, take_rest}
use Rattle.std.proofs.lemmas.List.Splits.{slice_split_first, slice_split_none}
use Rattle.std.proofs.lemmas.List.Sums.{split_at_first, fails_before_first}
use Rattle.std.proofs.Math.Seq.{drop-append_seam}
use Rattle.iot_bytes.specs.Tokens.{is_space, token_at}
use Rattle.iot_schedule.specs.Words.{words, words_behind}

-- where a space follows the first word
with_space : (text : List ℕ) → position_or_len is_space text < length text → words text ≡ before_first is_space text ∷ words_behind (drop (length (before_first is_space text)) text)
unfolding words
with_space text lt =
    let word = before_first is_space text in
    let rest = after_first is_space text in
    let parts : text ≡ word ++ (get_or text (position_or_len is_space text) 32 ∷ rest) = split_at_first is_space text 32 lt in
    let behind : drop (length word) text ≡ get_or text (position_or_len is_space text) 32 ∷ rest = ap (drop (length word)) parts ∙ drop-append_seam word (get_or text (position_or_len is_space text) 32 ∷ rest) in
    slice_split_first is_space text 32 lt ∙ sym (ap (λ (t : List ℕ). word ∷ words_behind t) behind)

-- where the text has one word
without_space : (text : List ℕ) → length text ≤ position_or_len is_space text → words text ≡ before_first is_space text ∷ words_behind (drop (length (before_first is_space text)) text)
unfolding words
without_space text le =
    let word : before_first is_space text ≡ text = take_all (position_or_len is_space text) text le in
    let behind : drop (length (before_first is_space text)) text ≡ [] = ap (λ (t : List ℕ). drop (length t) text) word ∙ drop_all (length text) text (omega arith) in
    slice_split_none is_space text (λ k d lt. fails_before_first is_space text k d (omega arith))
    ∙ sym (ap (λ (t : List ℕ). t ∷ []) word)
    ∙ sym (ap (λ (t : List ℕ). before_first is_space text ∷ words_behind t) behind)

-- the words of a text are the first one and those behind it
pub words_front : (text : List ℕ) → words text ≡ before_first is_space text ∷ words_behind (drop (length (before_first is_space text)) text)
words_front text =
    elim (cases_lt (position_or_len is_space text) (length text)) [
      | inl lt ↦ with_space text lt
      | inr le ↦ without_space text (omega arith)
    ]

-- the same, where the first word has `end` octets
pub words_cut : (text : List ℕ) (end : ℕ) → end ≡ length (token_at text 0) → words text ≡ take end text ∷ words_behind (take (length text - end) (drop end text))
words_cut text end is =
    let place = position_or_len is_space text in
    let word : take end text ≡ before_first is_space text = ap (λ (n : ℕ). take n text) (is ∙ length-take place text) ∙ take_min place text in
    let rest : take (length text - end) (drop end text) ≡ drop (length (before_first is_space text)) text = take_rest text end ∙ ap (λ (n : ℕ). drop n text) is in
    words_front text
    ∙ ap (λ (t : List ℕ). before_first is_space text ∷ words_behind t) (sym rest)
    ∙ ap (λ (w : List ℕ). w ∷ words_behind (take (length text - end) (drop end text))) (sym word)

-- a text without an octet has no token
pub no_token : (text : List ℕ) → 0 ≡ length text → 0 ≡ length (token_at text 0)
no_token [] e = refl
no_token (b ∷ bs) e = absurd (omega arith)

words_some : (text : List ℕ) → words text ≢ []
words_some text e = absurd (cc (words_front text, e))

behind_ended : (rest : List ℕ) → words_behind rest ≡ [] → rest ≡ []
behind_ended [] e = refl
behind_ended (space ∷ text) e = absurd (words_some text e)

-- no word is left where no octet is
pub ended_both : (rest : List ℕ) (result : Bool) → result ≡ (length rest == 0) → MatchBool result (words_behind rest ≡ []) (words_behind rest ≢ [])
ended_both rest true e = ap words_behind (nil_from_length rest (eqb-true (length rest) 0 (sym e)))
ended_both rest false e = λ e1. absurd (cc (e ∙ ap (λ (t : List ℕ). length t == 0) (behind_ended rest e1)))
