-- A check, by its end.
use Rattle.std.specs.Prelude.{◌⊎◌}
use Rattle.std.proofs.Common.{◌≡◌, ◌≢◌, ℕ, ◌+◌, ◌≤◌, inl, inr, List, [], ◌∷◌, ◌++◌, length, Option, Some, Result, Ok, Err, refl, ap, sym, subst, ◌∙◌, append-nil, length-append, arith}
use Rattle.iot_bytes.specs.Causes.{Rose}
use Rattle.run_loop.specs.Edges.{Edge, HasCauses}
use Rattle.run_loop.specs.Sends.{HasSent}
use Rattle.run_loop.specs.declared.halt.SendStop.{SendStop}
use Rattle.run_loop.specs.declared.halt.SendStop.TheVariants as sending
use Rattle.line_loop.specs.declared.reading.TheConstants.{MOST_LINES}
use Rattle.line_loop.specs.declared.halt.NoLine.TheVariants as reading
use Rattle.line_loop.specs.declared.halt.LineStop.TheVariants as handling
use Rattle.line_loop.specs.declared.halt.EndStop.TheVariants as ending
use Rattle.line_loop.specs.declared.halt.Halt.{Halt}
use Rattle.line_loop.specs.declared.halt.Halt.TheVariants.{Reading, Handling, Ending, Sending}
use Rattle.line_loop.specs.declared.halt.RunEnd.{RunEnd}
use Rattle.line_loop.specs.Lines.{AreTaken, IsTooLong, HasLine, lines_of}
use Rattle.line_loop.specs.Runs.{Ended, Reason, Concludes, SentFor}
use Rattle.line_loop.specs.Sends.{stop_line}
use Rattle.line_loop.specs.Status.{exit_status}
use Rattle.line_loop.proofs.Mapping.{ended_map, status_one, status_two, status_three}
use Rattle.line_loop.proofs.Taking.{lines_first, lines_short, line_first, front_first}
use Rattle.schedule_forms.specs.Checks.{AreChecked, counted, Counted, StopsCheck, EndsWith, EndsCheck, ok_line}
use Rattle.schedule_forms.specs.Schedules.{Checked, AreHandled, PassesLimit}
use Rattle.schedule_forms.proofs.Counting.{ends_check}
use Rattle.schedule_forms.proofs.Stopping.{HasEnded, with_zero, with_five, with_seven}

-- a run whose part counted no line before
pub checked : (first now status : ℕ) (old new : Edge) (end : RunEnd) → first ≡ 0 → status ≡ exit_status end.halt end.closing
    → Ended (Counted first now) (λ ls text l stop. first ≡ 0 → StopsCheck ls text l stop) (λ ls text end. first ≡ 0 → EndsWith (counted ls) ls end) old new end → Checked status old new
checked first now status old new end none same ended = record {
  end = end;
  says = same;
  ended = ended_map (Counted first now) AreChecked (λ ls text l stop. first ≡ 0 → StopsCheck ls text l stop) StopsCheck (λ ls text end. first ≡ 0 → EndsWith (counted ls) ls end) EndsCheck old new end
      (λ ls text few was. (was none).0) (λ ls text l stop few was. was none) (λ ls text end few was. ends_check ls text end few (was none)) ended;
}

pub not_one : (status : ℕ) (old new : Edge) → Checked status old new → status ≢ 1
not_one status old new s = λ one. status_one s.end.halt s.end.closing (sym s.says ∙ one)

pub has_causes : (status : ℕ) (old new : Edge) → Checked status old new → HasCauses old new (status ≡ 2) (status ≡ 3)
has_causes status old new s =
    let causes = s.ended.causes in
    record {
      read_later = causes.read_later;
      write_later = causes.write_later;
      read = λ two. causes.read (status_two s.end.halt s.end.closing (sym s.says ∙ two));
      write = λ three. causes.write (status_three s.end.halt s.end.closing (sym s.says ∙ three));
    }

-- lines that were taken and are in the grammar are handled
are_handled : (ls : List (List ℕ)) (text input tail : List ℕ) → length ls ≤ MOST_LINES → AreTaken ls input tail → AreChecked ls text → AreHandled ls
are_handled ls text input tail few taken checked = record { few = few; short = lines_short ls input tail taken; fit = checked.fit }

-- a stop line behind no text
alone : (sent0 sent : Option (List ℕ)) (text line : List ℕ) → text ≡ [] → HasSent sent0 sent (text ++ line) → HasSent sent0 sent line
alone sent0 sent text line silent was = subst (λ (z : List ℕ). HasSent sent0 sent (z ++ line)) silent was

no_lines : lines_of [] ≡ []
unfolding lines_of
no_lines = refl

-- the lines of an input that ended behind these
pub all_lines : (ls : List (List ℕ)) (input tail : List ℕ) → AreTaken ls input tail → tail ≡ [] → lines_of input ≡ ls ++ []
all_lines ls input tail taken none = lines_first ls input tail taken ∙ ap (λ (z : List ℕ). ls ++ lines_of z) none ∙ ap (λ (z : List (List ℕ)). ls ++ z) no_lines

-- behind these lines of an input the next one passes a limit
pub record HasPast (ls : List (List ℕ)) (input : List ℕ) : Type 0 where
  pub more : List (List ℕ)
  pub parts : lines_of input ≡ ls ++ more
  pub past : PassesLimit ls more

pub has_past : (ls : List (List ℕ)) (input tail : List ℕ) (left : Option (List ℕ)) → AreTaken ls input tail → IsTooLong tail left ⊎ ((length ls ≡ MOST_LINES) × HasLine tail left) → HasPast ls input
has_past ls input tail left taken (inl over) =
    let (unbroken, rest, parts, now) = over.came in
    let some : over.front ≢ [] = λ none. omega (arith, over.over, ap length none) in
    let longer = front_first over.front rest some unbroken in
    record {
      more = (over.front ++ longer.more) ∷ longer.after;
      parts = lines_first ls input tail taken ∙ ap (λ (z : List ℕ). ls ++ lines_of z) parts ∙ ap (λ (z : List (List ℕ)). ls ++ z) longer.lines;
      past = inl (omega (arith, over.over, length-append over.front longer.more));
    }
has_past ls input tail left taken (inr (count, one)) = record {
  more = one.line ∷ lines_of one.rest;
  parts = lines_first ls input tail taken ∙ ap (λ (z : List (List ℕ)). ls ++ z) (line_first one.line tail one.rest one.taken);
  past = inr count;
}

ended_past : (ls : List (List ℕ)) (input tail : List ℕ) (left sent0 sent : Option (List ℕ)) → AreTaken ls input tail → AreHandled ls → IsTooLong tail left ⊎ ((length ls ≡ MOST_LINES) × HasLine tail left) → HasSent sent0 sent (stop_line 7 (length ls + 1)) → HasEnded 7 input [] sent0 sent
ended_past ls input tail left sent0 sent taken handled at line =
    let h = has_past ls input tail left taken at in
    record { lines = ls; more = h.more; parts = h.parts; handled = handled; outcome = with_seven 7 ls h.more [] sent0 sent refl h.past line }

-- how a check ended where neither the source nor the sink failed
halted : (rest0 rest sent0 sent : Option (List ℕ)) (input : List ℕ) (ls : List (List ℕ)) (text closing : List ℕ) (halt : Halt) (ended : Result (Unit {0}) SendStop) → rest0 ≡ Some input → length ls ≤ MOST_LINES → Reason AreChecked StopsCheck rest0 rest ls text halt
    → Concludes EndsCheck ls text closing halt → SentFor sent0 sent (length ls) text closing halt ended → (halt ≡ Reading reading.Fault → ⊥) → (halt ≡ Sending → ⊥) → (ended ≡ Err sending.Fault → ⊥)
    → (exit_status halt ended ≡ 6) ⊎ HasEnded (exit_status halt ended) input [] sent0 sent
halted rest0 rest sent0 sent input ls text closing halt (Err sending.Fault) told few r c s no_read no_write no_last = absurd (no_last refl)
halted rest0 rest sent0 sent input ls text closing halt (Err sending.NoMemory) told few r c s no_read no_write no_last = inl refl
halted rest0 rest sent0 sent input ls text closing (Reading reading.End) (Ok done) told few r c s no_read no_write no_last =
    let (tail, taken, at) = r.1 input told in
    inr (record {
      lines = ls;
      more = [];
      parts = all_lines ls input tail taken at.0;
      handled = are_handled ls text input tail few taken r.0;
      outcome = with_zero 0 ls [] sent0 sent refl c.0;
    })
halted rest0 rest sent0 sent input ls text closing (Reading reading.Fault) (Ok done) told few r c s no_read no_write no_last = absurd (no_read refl)
halted rest0 rest sent0 sent input ls text closing (Reading reading.Limit) (Ok done) told few r c s no_read no_write no_last =
    let (tail, taken, at) = r.1 input told in
    inr (ended_past ls input tail rest sent0 sent taken (are_handled ls text input tail few taken r.0) at (alone sent0 sent text (stop_line 7 (length ls + 1)) r.0.silent s))
halted rest0 rest sent0 sent input ls text closing (Reading reading.NoMemory) (Ok done) told few r c s no_read no_write no_last = inl refl
halted rest0 rest sent0 sent input ls text closing (Handling handling.ChipFault) (Ok done) told few r c s no_read no_write no_last = absurd r.1
halted rest0 rest sent0 sent input ls text closing (Handling handling.Malformed) (Ok done) told few r c s no_read no_write no_last =
    let (l, stops, less, has) = r in
    let (tail, taken, (behind, here, now)) = has input told in
    inr (record {
      lines = ls;
      more = l ∷ lines_of behind;
      parts = lines_first ls input tail taken ∙ ap (λ (z : List (List ℕ)). ls ++ z) (line_first l tail behind here);
      handled = are_handled ls text input tail few taken stops.0;
      outcome = with_five 5 ls (l ∷ lines_of behind) [] sent0 sent refl (here.short, less, stops.1) (alone sent0 sent text (stop_line 5 (length ls + 1)) stops.0.silent s);
    })
halted rest0 rest sent0 sent input ls text closing (Handling handling.Limit) (Ok done) told few r c s no_read no_write no_last = absurd r.1
halted rest0 rest sent0 sent input ls text closing (Handling handling.Unrecognised) (Ok done) told few r c s no_read no_write no_last = absurd r.1
halted rest0 rest sent0 sent input ls text closing (Handling handling.NoMemory) (Ok done) told few r c s no_read no_write no_last = inl refl
halted rest0 rest sent0 sent input ls text closing (Ending ending.Missing) (Ok done) told few r c s no_read no_write no_last =
    let (tail, taken, at) = r.1 input told in
    inr (record {
      lines = ls;
      more = [];
      parts = all_lines ls input tail taken at.0;
      handled = are_handled ls text input tail few taken r.0;
      outcome = with_five 5 ls [] [] sent0 sent refl c (alone sent0 sent text (stop_line 5 (length ls + 1)) r.0.silent s);
    })
halted rest0 rest sent0 sent input ls text closing (Ending ending.NoMemory) (Ok done) told few r c s no_read no_write no_last = inl refl
halted rest0 rest sent0 sent input ls text closing Sending (Ok done) told few r c s no_read no_write no_last = absurd (no_write refl)

pub has_ended : (status : ℕ) (old new : Edge) (input : List ℕ) → Checked status old new → old.rest ≡ Some input → (Rose old.read_faults new.read_faults → ⊥) → (Rose old.write_faults new.write_faults → ⊥) → (status ≡ 6) ⊎ HasEnded status input [] old.sent new.sent
has_ended status old new input s told no_read no_write =
    let e = s.ended in
    let causes = e.causes in
    subst (λ (n : ℕ). (n ≡ 6) ⊎ HasEnded n input [] old.sent new.sent) (sym s.says)
    (halted old.rest new.rest old.sent new.sent input e.lines e.text e.closing s.end.halt s.end.closing told e.few e.reason e.concludes e.sent
    (λ at. no_read (causes.read at)) (λ at. no_write (causes.write (inl at))) (λ at. no_write (causes.write (inr at))))

-- a check that ended with status 0 counted all lines
done_at : (rest0 rest sent0 sent : Option (List ℕ)) (input : List ℕ) (ls : List (List ℕ)) (text closing : List ℕ) (halt : Halt) (ended : Result (Unit {0}) SendStop) → exit_status halt ended ≡ 0 → rest0 ≡ Some input → length ls ≤ MOST_LINES
    → Reason AreChecked StopsCheck rest0 rest ls text halt → Concludes EndsCheck ls text closing halt → SentFor sent0 sent (length ls) text closing halt ended → (rest ≡ Some []) × AreHandled (lines_of input) × HasSent sent0 sent (ok_line (length (lines_of input)))
done_at rest0 rest sent0 sent input ls text closing halt (Err sending.Fault) zero told few r c s = absurd cc
done_at rest0 rest sent0 sent input ls text closing halt (Err sending.NoMemory) zero told few r c s = absurd cc
done_at rest0 rest sent0 sent input ls text closing (Reading reading.End) (Ok done) zero told few r c s =
    let (tail, taken, at) = r.1 input told in
    let all : ls ≡ lines_of input = sym (all_lines ls input tail taken at.0 ∙ append-nil ls) in
    let here : HasSent sent0 sent closing = alone sent0 sent text closing r.0.silent s in (
      at.1,
      subst AreHandled all (are_handled ls text input tail few taken r.0),
      subst (λ (z : List ℕ). HasSent sent0 sent z) (c.1 ∙ ap (λ (z : List (List ℕ)). ok_line (length z)) all) here,
    )
done_at rest0 rest sent0 sent input ls text closing (Reading reading.Fault) (Ok done) zero told few r c s = absurd cc
done_at rest0 rest sent0 sent input ls text closing (Reading reading.Limit) (Ok done) zero told few r c s = absurd cc
done_at rest0 rest sent0 sent input ls text closing (Reading reading.NoMemory) (Ok done) zero told few r c s = absurd cc
done_at rest0 rest sent0 sent input ls text closing (Handling handling.ChipFault) (Ok done) zero told few r c s = absurd cc
done_at rest0 rest sent0 sent input ls text closing (Handling handling.Malformed) (Ok done) zero told few r c s = absurd cc
done_at rest0 rest sent0 sent input ls text closing (Handling handling.Limit) (Ok done) zero told few r c s = absurd cc
done_at rest0 rest sent0 sent input ls text closing (Handling handling.Unrecognised) (Ok done) zero told few r c s = absurd cc
done_at rest0 rest sent0 sent input ls text closing (Handling handling.NoMemory) (Ok done) zero told few r c s = absurd cc
done_at rest0 rest sent0 sent input ls text closing (Ending ending.Missing) (Ok done) zero told few r c s = absurd cc
done_at rest0 rest sent0 sent input ls text closing (Ending ending.NoMemory) (Ok done) zero told few r c s = absurd cc
done_at rest0 rest sent0 sent input ls text closing Sending (Ok done) zero told few r c s = absurd cc

pub is_done : (status : ℕ) (old new : Edge) (input : List ℕ) → Checked status old new → old.rest ≡ Some input → status ≡ 0 → (new.rest ≡ Some []) × AreHandled (lines_of input) × HasSent old.sent new.sent (ok_line (length (lines_of input)))
is_done status old new input s told zero =
    let e = s.ended in
    done_at old.rest new.rest old.sent new.sent input e.lines e.text e.closing s.end.halt s.end.closing (sym s.says ∙ zero) told e.few e.reason e.concludes e.sent
