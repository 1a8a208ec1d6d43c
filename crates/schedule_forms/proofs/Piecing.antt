-- A generated schedule, sent in pieces.
use Rattle.std.specs.Prelude.{◌⊎◌}
use Rattle.std.proofs.Common.{◌≡◌, ℕ, zero, suc, ◌+◌, ◌-◌, ◌<◌, ◌≤◌, inl, inr, List, [], ◌∷◌, ◌++◌, length, take, Option, Some, Result, Ok, Err, refl, ap, sym, subst, ◌∙◌, append-nil, append_assoc, add-one, length-append, arith}
use Rattle.std.proofs.lemmas.Grind.{flat_map-append}
use Rattle.std.proofs.lemmas.List.{take-append-le}
use Rattle.std.proofs.Math.Nat.{add-zero, add-suc}
use Rattle.std.proofs.Math.Seq.{take-append-add}
use Rattle.run_loop.specs.Sends.{HasSent, HasSentInto}
use Rattle.run_loop.specs.declared.halt.SendStop.{SendStop}
use Rattle.run_loop.specs.declared.halt.SendStop.TheVariants.{Fault, NoMemory}
use Rattle.run_loop.proofs.Going.{sent-into, sent-more, sent-none}
use Rattle.line_loop.specs.Lines.{ended}
use Rattle.iot_schedule.specs.Making.{made_line, state_before, state_after}
use Rattle.schedule_forms.specs.Schedules.{made_lines, generated}
use Rattle.schedule_forms.specs.Pieces.{InPieces, Passed, Flushed, MadeOne, Generated, gen_status}

pub one_more : (start n : ℕ) → generated start (suc n) ≡ generated start n ++ ended (made_line start (suc n))
unfolding made_lines
one_more start n =
    flat_map-append ended (made_lines start n) (made_line start (suc n) ∷ [])
    ∙ ap (λ (z : List ℕ). generated start n ++ z) (append-nil (ended (made_line start (suc n))))

-- a longer schedule begins with a shorter one
record BeginsWith (start n m : ℕ) : Type 0 where
  more : List ℕ
  parts : generated start m ≡ generated start n ++ more

no_longer : (start n : ℕ) → BeginsWith start n n
no_longer start n = record { more = []; parts = sym (append-nil (generated start n)) }

by_one : (start n m : ℕ) → BeginsWith start n m → BeginsWith start n (suc m)
by_one start n m shorter = record {
  more = shorter.more ++ ended (made_line start (suc m));
  parts = one_more start m ∙ ap (λ (z : List ℕ). z ++ ended (made_line start (suc m))) shorter.parts ∙ append_assoc (generated start n) shorter.more (ended (made_line start (suc m)));
}

longer_by : (start n k m : ℕ) → m ≡ n + k → BeginsWith start n m
longer_by start n zero m is = subst (λ (z : ℕ). BeginsWith start n z) (sym (is ∙ add-zero n)) (no_longer start n)
longer_by start n (suc k) m is = subst (λ (z : ℕ). BeginsWith start n z) (sym (is ∙ add-suc n k)) (by_one start n (n + k) (longer_by start n k (n + k) refl))

longer : (start n m : ℕ) → n ≤ m → BeginsWith start n m
longer start n m few = longer_by start n (m - n) m (omega (arith, few))

-- a front that was cut short is one of the whole
into_whole : (sent0 sent : Option (List ℕ)) (t u whole : List ℕ) → whole ≡ t ++ u → HasSentInto sent0 sent t u → HasSentInto sent0 sent [] whole
into_whole sent0 sent t u whole parts into = λ before is.
    let (n, short, now) = into before is in
    let front : take (length t + n) whole ≡ t ++ take n u = ap (take (length t + n)) parts ∙ take-append-add t u n in
    let joined : before ++ t ++ take n u ≡ before ++ [] ++ take (length t + n) whole = append_assoc before t (take n u) ∙ ap (λ (z : List ℕ). before ++ z) (sym front) ∙ ap (λ (z : List ℕ). z ++ take (length t + n) whole) (sym (append-nil before)) in
    (length t + n, omega (arith, short, ap length parts, length-append t u), now ∙ ap (λ (z : List ℕ). Some z) joined)

into_longer : (sent0 sent : Option (List ℕ)) (short more whole : List ℕ) → whole ≡ short ++ more → HasSentInto sent0 sent [] short → HasSentInto sent0 sent [] whole
into_longer sent0 sent short more whole parts into = λ before is.
    let (n, less, now) = into before is in
    let front : take n short ≡ take n whole = sym (ap (take n) parts ∙ take-append-le n short more (omega (arith, less))) in
    (n, omega (arith, less, ap length parts, length-append short more), now ∙ ap (λ (z : List ℕ). Some (before ++ [] ++ z)) front)

pub in_longer : (start n m : ℕ) (sent0 sent : Option (List ℕ)) → n ≤ m → HasSentInto sent0 sent [] (generated start n) → HasSentInto sent0 sent [] (generated start m)
in_longer start n m sent0 sent few into =
    let begins = longer start n m few in
    into_longer sent0 sent (generated start n) begins.more (generated start m) begins.parts into

-- what was to be sent is sent, or the sink failed inside it
pub flushed_ok : (start count : ℕ) (sent0 sent sent' : Option (List ℕ)) (unsent : List ℕ) → InPieces start count sent0 sent unsent → HasSent sent sent' unsent → HasSent sent0 sent' (generated start count)
flushed_ok start count sent0 sent sent' unsent p here =
    subst (λ (t : List ℕ). HasSent sent0 sent' t) (sym p.whole) (sent-more sent0 sent sent' (generated start p.front.gone) unsent p.front.has_sent here)

pub flushed_into : (start count : ℕ) (sent0 sent sent' : Option (List ℕ)) (unsent : List ℕ) → InPieces start count sent0 sent unsent → HasSentInto sent sent' [] unsent → HasSentInto sent0 sent' [] (generated start count)
flushed_into start count sent0 sent sent' unsent p here =
    into_whole sent0 sent' (generated start p.front.gone) unsent (generated start count) p.whole (sent-into sent0 sent sent' (generated start p.front.gone) unsent p.front.has_sent here)

-- what was flushed is passed
pub passed_by : (start count : ℕ) (sent0 sent : Option (List ℕ)) (unsent : List ℕ) (result : Result (Unit {0}) SendStop) → Flushed start count sent0 sent unsent result → Passed start count sent0 sent unsent result
passed_by start count sent0 sent unsent (Ok done) f = record {
  front = record { gone = count; few = omega arith; has_sent = f.1 };
  whole = sym (append-nil (generated start count)) ∙ ap (λ (z : List ℕ). generated start count ++ z) (sym f.0);
}
passed_by start count sent0 sent unsent (Err Fault) f = f
passed_by start count sent0 sent unsent (Err NoMemory) f = f

-- nothing is made yet
pub none_made : (start : ℕ) (sent : Option (List ℕ)) → InPieces start 0 sent sent []
unfolding made_lines
none_made start sent = record { front = record { gone = 0; few = omega arith; has_sent = sent-none sent }; whole = refl }

pub first_state : (start state : ℕ) → state ≡ start → state ≡ state_before start 1
unfolding state_before state_after
first_state start state is = is

-- a line more is to be sent
pub with_line : (start count number : ℕ) (sent0 sent : Option (List ℕ)) (unsent unsent' : List ℕ) → number ≡ count + 1 → InPieces start count sent0 sent unsent → unsent' ≡ unsent ++ ended (made_line start number) → InPieces start (count + 1) sent0 sent unsent'
with_line start count number sent0 sent unsent unsent' is p made = record {
  front = record { gone = p.front.gone; few = omega (arith, p.front.few); has_sent = p.front.has_sent };
  whole =
      let line : made_line start number ≡ made_line start (suc count) = ap (made_line start) (is ∙ add-one count) in
      ap (generated start) (add-one count) ∙ one_more start count ∙ ap (λ (z : List ℕ). z ++ ended (made_line start (suc count))) p.whole
      ∙ append_assoc (generated start p.front.gone) unsent (ended (made_line start (suc count)))
      ∙ ap (λ (z : List ℕ). generated start p.front.gone ++ (unsent ++ ended z)) (sym line)
      ∙ ap (λ (z : List ℕ). generated start p.front.gone ++ z) (sym made);
}

pub made_one : (start count : ℕ) (sent0 sent : Option (List ℕ)) (unsent : List ℕ) (state : ℕ) (result : Result (Unit {0}) SendStop) → state ≡ state_before start (count + 2) → Passed start (count + 1) sent0 sent unsent result → MadeOne start count sent0 sent unsent state result
made_one start count sent0 sent unsent state (Ok done) is p = (p, is)
made_one start count sent0 sent unsent state (Err Fault) is p = p
made_one start count sent0 sent unsent state (Err NoMemory) is p = absurd p

-- an end before the last line is one of the whole schedule
pub generated_front : (start count lines : ℕ) (sent0 sent : Option (List ℕ)) (unsent : List ℕ) (state : ℕ) (stop : SendStop) → count < lines → MadeOne start count sent0 sent unsent state (Err stop) → Generated start lines sent0 sent (Err stop)
generated_front start count lines sent0 sent unsent state Fault less made = in_longer start (count + 1) lines sent0 sent (omega (arith, less)) made
generated_front start count lines sent0 sent unsent state NoMemory less made = record { gone = made.gone; few = omega (arith, less, made.few); has_sent = made.has_sent }

pub generated_by : (start count : ℕ) (sent0 sent : Option (List ℕ)) (unsent : List ℕ) (result : Result (Unit {0}) SendStop) → Flushed start count sent0 sent unsent result → Generated start count sent0 sent result
generated_by start count sent0 sent unsent (Ok done) f = f.1
generated_by start count sent0 sent unsent (Err Fault) f = f
generated_by start count sent0 sent unsent (Err NoMemory) f = absurd f

-- which ends have a status
pub gen_three : (end : Result (Unit {0}) SendStop) → gen_status end ≡ 3 → end ≡ Err Fault
gen_three (Ok done) e = absurd cc
gen_three (Err Fault) e = refl
gen_three (Err NoMemory) e = absurd cc

pub gen_complete : (end : Result (Unit {0}) SendStop) (status : ℕ) → status ≡ gen_status end → (end ≡ Err Fault → ⊥) → (status ≡ 0) ⊎ (status ≡ 6)
gen_complete (Ok done) status is none = inl is
gen_complete (Err Fault) status is none = absurd (none refl)
gen_complete (Err NoMemory) status is none = inr is

pub gen_statuses : (end : Result (Unit {0}) SendStop) (status : ℕ) → status ≡ gen_status end → (status ≡ 0) ⊎ ((status ≡ 3) ⊎ (status ≡ 6))
gen_statuses (Ok done) status is = inl is
gen_statuses (Err Fault) status is = inr (inl is)
gen_statuses (Err NoMemory) status is = inr (inr is)
