-- Counting lines that are checked.
use Rattle.std.proofs.Common.{◌≡◌, ◌≢◌, ℕ, zero, suc, ◌+◌, ◌-◌, ◌^◌, ◌≤◌, min, List, [], ◌∷◌, ◌++◌, length, Result, Ok, Err, refl, ap, sym, subst, ◌∙◌, append-nil, length-append, arith}
use Rattle.line_loop.specs.declared.halt.LineStop.{LineStop}
use Rattle.line_loop.specs.declared.halt.LineStop.TheVariants.{ChipFault, Malformed, Limit, Unrecognised, NoMemory}
use Rattle.line_loop.specs.declared.halt.EndStop.{EndStop}
use Rattle.line_loop.specs.declared.halt.EndStop.TheVariants as ending
use Rattle.line_loop.specs.declared.reading.TheConstants.{MOST_LINES}
use Rattle.iot_schedule.specs.Devices.{device_at}
use Rattle.iot_schedule.specs.Steps.{step_at}
use Rattle.schedule_forms.specs.Checks.{Fits, counted, Counted, StopsCheck, EndsWith, EndsCheck, ok_line}
use Rattle.schedule_forms.proofs.Fitting.{fit_push, unfit_push}

none_counted : (ls : List (List ℕ)) → ls ≡ [] → counted ls ≡ 0
none_counted ls none = omega (arith, ap length none)

some_counted : (ls : List (List ℕ)) → ls ≢ [] → counted ls ≢ 0
some_counted [] some = absurd (some refl)
some_counted (l ∷ ls) some = λ no. omega (arith, no)

-- one more line was counted
pub counts_on : (first old : ℕ) (l : List ℕ) (result : Result (Unit {0}) LineStop) → (done : Unit {0}) → result ≡ Ok done → (old ≡ 0 → Fits (device_at l) result) → (old ≢ 0 → Fits (step_at l) result)
    → (now : ℕ) → now ≡ min (old + 1) (2 ^ 64 - 1) → (ls : List (List ℕ)) (before : List ℕ) → Counted first old ls before → Counted first now (ls ++ l ∷ []) (before ++ [])
counts_on first old l result done is at_first later now next ls before was = λ fresh.
    let (checked, count) = was fresh in (
      record {
        fit = fit_push ls l checked.fit (λ none. rw is at (at_first (count ∙ none_counted ls none))) (λ some. rw is at (later (λ no. some_counted ls some (sym count ∙ no))));
        silent = append-nil before ∙ checked.silent;
      },
      omega (arith, next, count, length-append ls (l ∷ [])),
    )

-- why a line isn't counted
pub counts_no_more : (first old : ℕ) (l : List ℕ) (stop : LineStop) → (old ≡ 0 → Fits (device_at l) (Err stop)) → (old ≢ 0 → Fits (step_at l) (Err stop))
    → (ls : List (List ℕ)) (before : List ℕ) → Counted first old ls before → first ≡ 0 → StopsCheck ls before l stop
counts_no_more first old l Malformed at_first later ls before was fresh =
    let (checked, count) = was fresh in
    (checked, unfit_push ls l (λ none. at_first (count ∙ none_counted ls none)) (λ some. later (λ no. some_counted ls some (sym count ∙ no))))
counts_no_more first old l NoMemory at_first later ls before was fresh = (was fresh).0
counts_no_more first zero l ChipFault at_first later ls before was none = absurd (at_first refl)
counts_no_more first (suc old) l ChipFault at_first later ls before was none = absurd (later (λ no. absurd (omega (arith, no))))
counts_no_more first zero l Limit at_first later ls before was none = absurd (at_first refl)
counts_no_more first (suc old) l Limit at_first later ls before was none = absurd (later (λ no. absurd (omega (arith, no))))
counts_no_more first zero l Unrecognised at_first later ls before was none = absurd (at_first refl)
counts_no_more first (suc old) l Unrecognised at_first later ls before was none = absurd (later (λ no. absurd (omega (arith, no))))

-- no line was counted
pub counts_none : (first old : ℕ) → old ≡ 0 → (ls : List (List ℕ)) (text : List ℕ) → Counted first old ls text → first ≡ 0 → EndsWith (counted ls) ls (Err ending.Missing)
counts_none first old none [] text was fresh = refl
counts_none first old none (l ∷ ls) text was fresh = absurd (some_counted (l ∷ ls) (λ no. absurd cc) (sym (was fresh).1 ∙ none))

-- the lines were counted
pub counts_some : (first old : ℕ) → old ≢ 0 → (closing : List ℕ) → closing ≡ ok_line old → (ls : List (List ℕ)) (text : List ℕ) → Counted first old ls text → first ≡ 0 → EndsWith (counted ls) ls (Ok closing)
counts_some first old some closing is ls text was fresh =
    let (checked, count) = was fresh in
    (λ none. some (count ∙ none_counted ls none), is ∙ ap ok_line count)

-- a count of so few lines is their number
pub ends_check : (ls : List (List ℕ)) (text : List ℕ) (end : Result (List ℕ) EndStop) → length ls ≤ MOST_LINES → EndsWith (counted ls) ls end → EndsCheck ls text end
ends_check ls text end few ends =
    let same : counted ls ≡ length ls = omega (arith, few) in
    subst (λ (n : ℕ). EndsWith n ls end) same ends
