-- A replay, by its end, where neither the source nor the sink failed.
use Rattle.std.specs.Prelude.{◌⊎◌}
use Rattle.std.proofs.Common.{◌≡◌, ◌≢◌, ℕ, ◌+◌, ◌≤◌, inl, inr, true, List, [], ◌∷◌, ◌++◌, length, Option, Some, Result, Ok, Err, refl, ap, sym, subst, ◌∙◌, append-nil}
use Rattle.iot_bytes.specs.Causes.{Rose}
use Rattle.chip_port.specs.Seen.{Seen}
use Rattle.run_loop.specs.Edges.{Edge}
use Rattle.run_loop.specs.Sends.{HasSent}
use Rattle.run_loop.specs.declared.halt.SendStop.{SendStop}
use Rattle.run_loop.specs.declared.halt.SendStop.TheVariants as sending
use Rattle.line_loop.specs.declared.reading.TheConstants.{MOST_LINES}
use Rattle.line_loop.specs.declared.halt.NoLine.TheVariants as reading
use Rattle.line_loop.specs.declared.halt.LineStop.TheVariants as handling
use Rattle.line_loop.specs.declared.halt.EndStop.TheVariants as ending
use Rattle.line_loop.specs.declared.halt.Halt.{Halt}
use Rattle.line_loop.specs.declared.halt.Halt.TheVariants.{Reading, Handling, Ending, Sending}
use Rattle.line_loop.specs.Lines.{AreTaken, lines_of}
use Rattle.line_loop.specs.Runs.{Reason, Concludes, SentFor}
use Rattle.line_loop.specs.Status.{exit_status}
use Rattle.line_loop.proofs.Taking.{lines_first, lines_short, line_first}
use Rattle.modem_bank.specs.Modems.{Seen as ModemSeen}
use Rattle.schedule_forms.specs.Grammar.{AreInGrammar}
use Rattle.schedule_forms.specs.Schedules.{AreHandled}
use Rattle.schedule_forms.proofs.Ending.{all_lines, has_past}
use Rattle.schedule_forms.proofs.Stopping.{HasEnded, StopsBehind, at_limit, at_unfit, ends_well, with_zero, with_five, with_seven}
use Rattle.world_forms.specs.Courses.{HasRun}
use Rattle.world_forms.specs.Ends.{IsTextOf, IsDone, IsHindered, EndsWell, HasStopped, StopsWith}
use Rattle.world_forms.specs.Replays.{EndsReplay, IsReplayed, IsUnbegun, Replayed, Replays, Stops, StopsReplay}

-- how the lines of a replay ended, and their text
record HasEndedWith (handed_in : List ModemSeen) (status : ℕ) (input : List ℕ) (sent0 sent : Option (List ℕ)) : Type 0 where
  text : List ℕ
  ended : HasEnded status input text sent0 sent
  text_of : IsTextOf handed_in ended.lines text

-- the text of lines that were handled
told_text : (handed_in : List ModemSeen) (s t : Seen) (modems : List ModemSeen) (ls : List (List ℕ)) (text : List ℕ) → IsUnbegun handed_in s t modems ls text ⊎ IsReplayed handed_in s t modems ls text → IsTextOf handed_in ls text
told_text handed_in s t modems ls text (inl none) = inl (none.none, none.silent)
told_text handed_in s t modems ls text (inr some) = inr some.has

stopped_text : (handed_in : List ModemSeen) (s t : Seen) (modems : List ModemSeen) (ls : List (List ℕ)) (text l : List ℕ) → Stops handed_in s t modems ls text l handling.Malformed → IsTextOf handed_in ls text
stopped_text handed_in s t modems ls text l (inl first) = inl (first.0.none, first.0.silent)
stopped_text handed_in s t modems ls text l (inr behind) = inr behind.replayed.has

are_handled : (ls : List (List ℕ)) (input tail : List ℕ) → length ls ≤ MOST_LINES → AreTaken ls input tail → AreInGrammar ls → AreHandled ls
are_handled ls input tail few taken fit = record { few = few; short = lines_short ls input tail taken; fit = fit }

-- the lines ended it, or something hindered it
Went : List ModemSeen → Seen → Seen → List ModemSeen → List ℕ → Option (List ℕ) → Option (List ℕ) → ℕ → Type 0
Went handed_in s t modems input sent0 sent status = HasEndedWith handed_in status input sent0 sent ⊎ IsHindered handed_in s t modems (lines_of input) status

halted : (handed_in : List ModemSeen) (s t : Seen) (modems : List ModemSeen) (rest0 rest sent0 sent : Option (List ℕ)) (input : List ℕ) (ls : List (List ℕ)) (text closing : List ℕ) (halt : Halt) (ended : Result (Unit {0}) SendStop) → s.told ≡ true → rest0 ≡ Some input → length ls ≤ MOST_LINES
    → Reason (Replays handed_in s t modems) (StopsReplay handed_in s t modems) rest0 rest ls text halt → Concludes EndsReplay ls text closing halt → SentFor sent0 sent (length ls) text closing halt ended
    → (halt ≡ Reading reading.Fault → ⊥) → (halt ≡ Sending → ⊥) → (ended ≡ Err sending.Fault → ⊥) → Went handed_in s t modems input sent0 sent (exit_status halt ended)
unfolding Went
halted handed_in s t modems rest0 rest sent0 sent input ls text closing halt (Err sending.Fault) bench told few r c said no_read no_write no_last = absurd (no_last refl)
halted handed_in s t modems rest0 rest sent0 sent input ls text closing halt (Err sending.NoMemory) bench told few r c said no_read no_write no_last = inr (inl refl)
halted handed_in s t modems rest0 rest sent0 sent input ls text closing (Reading reading.End) (Ok done) bench told few r c said no_read no_write no_last =
    let (tail, taken, at) = r.1 input told in
    inl (record {
      text = text;
      ended = record {
        lines = ls;
        more = [];
        parts = all_lines ls input tail taken at.0;
        handled = are_handled ls input tail few taken r.0.fit;
        outcome = with_zero 0 ls text sent0 sent refl c.0;
      };
      text_of = told_text handed_in s t modems ls text (r.0.told bench);
    })
halted handed_in s t modems rest0 rest sent0 sent input ls text closing (Reading reading.Fault) (Ok done) bench told few r c said no_read no_write no_last = absurd (no_read refl)
halted handed_in s t modems rest0 rest sent0 sent input ls text closing (Reading reading.Limit) (Ok done) bench told few r c said no_read no_write no_last =
    let (tail, taken, at) = r.1 input told in
    let past = has_past ls input tail rest taken at in
    inl (record {
      text = text;
      ended = record {
        lines = ls;
        more = past.more;
        parts = past.parts;
        handled = are_handled ls input tail few taken r.0.fit;
        outcome = with_seven 7 ls past.more text sent0 sent refl past.past said;
      };
      text_of = told_text handed_in s t modems ls text (r.0.told bench);
    })
halted handed_in s t modems rest0 rest sent0 sent input ls text closing (Reading reading.NoMemory) (Ok done) bench told few r c said no_read no_write no_last = inr (inl refl)
halted handed_in s t modems rest0 rest sent0 sent input ls text closing (Handling handling.ChipFault) (Ok done) bench told few r c said no_read no_write no_last =
    let (l, stops, less, has) = r in
    inr (inr (inr (refl, (stops.told bench).1.bench)))
halted handed_in s t modems rest0 rest sent0 sent input ls text closing (Handling handling.Malformed) (Ok done) bench told few r c said no_read no_write no_last =
    let (l, stops, less, has) = r in
    let (tail, taken, (behind, here, now)) = has input told in
    inl (record {
      text = text;
      ended = record {
        lines = ls;
        more = l ∷ lines_of behind;
        parts = lines_first ls input tail taken ∙ ap (λ (z : List (List ℕ)). ls ++ z) (line_first l tail behind here);
        handled = are_handled ls input tail few taken stops.refused.fit;
        outcome = with_five 5 ls (l ∷ lines_of behind) text sent0 sent refl (here.short, less, stops.refused.unfit refl) said;
      };
      text_of = stopped_text handed_in s t modems ls text l (stops.told bench);
    })
halted handed_in s t modems rest0 rest sent0 sent input ls text closing (Handling handling.Limit) (Ok done) bench told few r c said no_read no_write no_last =
    let (l, stops, less, has) = r in
    let (tail, taken, (behind, here, now)) = has input told in
    inr (inr (inl (
      refl,
      record {
        front = ls;
        line = l;
        after = lines_of behind;
        parts = lines_first ls input tail taken ∙ ap (λ (z : List (List ℕ)). ls ++ z) (line_first l tail behind here);
        text = text;
        over = stops.told bench;
      },
    )))
halted handed_in s t modems rest0 rest sent0 sent input ls text closing (Handling handling.Unrecognised) (Ok done) bench told few r c said no_read no_write no_last = absurd (r.1.told bench)
halted handed_in s t modems rest0 rest sent0 sent input ls text closing (Handling handling.NoMemory) (Ok done) bench told few r c said no_read no_write no_last = inr (inl refl)
halted handed_in s t modems rest0 rest sent0 sent input ls text closing (Ending ending.Missing) (Ok done) bench told few r c said no_read no_write no_last =
    let (tail, taken, at) = r.1 input told in
    inl (record {
      text = text;
      ended = record {
        lines = ls;
        more = [];
        parts = all_lines ls input tail taken at.0;
        handled = are_handled ls input tail few taken r.0.fit;
        outcome = with_five 5 ls [] text sent0 sent refl c said;
      };
      text_of = told_text handed_in s t modems ls text (r.0.told bench);
    })
halted handed_in s t modems rest0 rest sent0 sent input ls text closing (Ending ending.NoMemory) (Ok done) bench told few r c said no_read no_write no_last = absurd c
halted handed_in s t modems rest0 rest sent0 sent input ls text closing Sending (Ok done) bench told few r c said no_read no_write no_last = absurd (no_write refl)

went : (handed_in : List ModemSeen) (status : ℕ) (old new : Edge) (s t : Seen) (modems : List ModemSeen) (input : List ℕ) → Replayed handed_in status old new s t modems → s.told ≡ true → old.rest ≡ Some input
    → (Rose old.read_faults new.read_faults → ⊥) → (Rose old.write_faults new.write_faults → ⊥) → Went handed_in s t modems input old.sent new.sent status
went handed_in status old new s t modems input r bench told no_read no_write =
    let e = r.ended in
    let causes = e.causes in
    subst (Went handed_in s t modems input old.sent new.sent) (sym r.says)
    (halted handed_in s t modems old.rest new.rest old.sent new.sent input e.lines e.text e.closing r.end.halt r.end.closing bench told e.few e.reason e.concludes e.sent
    (λ at. no_read (causes.read at)) (λ at. no_write (causes.write (inl at))) (λ at. no_write (causes.write (inr at))))

-- lines that are all handled are replayed to their end
pub complete : (handed_in : List ModemSeen) (status : ℕ) (old new : Edge) (s t : Seen) (modems : List ModemSeen) (input : List ℕ) → Replayed handed_in status old new s t modems → s.told ≡ true → old.rest ≡ Some input
    → lines_of input ≢ [] → AreHandled (lines_of input) → (Rose old.read_faults new.read_faults → ⊥) → (Rose old.write_faults new.write_faults → ⊥) → EndsWell handed_in s t modems (lines_of input) status
unfolding Went
complete handed_in status old new s t modems input r bench told some h no_read no_write =
    elim (went handed_in status old new s t modems input r bench told no_read no_write) [
      | inl e ↦ inl (ends_well status input e.text old.sent new.sent e.ended some h)
      | inr hindered ↦ inr hindered
    ]

-- a replay ended where the lines break
at_break : (handed_in : List ModemSeen) (ls gs : List (List ℕ)) (wanted status : ℕ) (text : List ℕ) (sent0 sent : Option (List ℕ)) → IsTextOf handed_in gs text → StopsBehind gs ls wanted status text sent0 sent → HasStopped handed_in ls wanted status sent0 sent
at_break handed_in ls gs wanted status text sent0 sent of stop = record {
  status_is = stop.status_is;
  text = text;
  text_of = subst (λ (z : List (List ℕ)). IsTextOf handed_in z text) stop.same of;
  has_sent = stop.said;
}

pub stops : (handed_in : List ModemSeen) (status : ℕ) (old new : Edge) (s t : Seen) (modems : List ModemSeen) (input : List ℕ) (ls more : List (List ℕ)) → Replayed handed_in status old new s t modems → s.told ≡ true → old.rest ≡ Some input → lines_of input ≡ ls ++ more
    → AreHandled ls → (Rose old.read_faults new.read_faults → ⊥) → (Rose old.write_faults new.write_faults → ⊥) → StopsWith handed_in s t modems ls more status old.sent new.sent
unfolding Went
stops handed_in status old new s t modems input ls more r bench told is handled no_read no_write =
    elim (went handed_in status old new s t modems input r bench told no_read no_write) [
      | inl e ↦ record {
        limit = λ past. inl (at_break handed_in ls e.ended.lines 7 status e.text old.sent new.sent e.text_of (at_limit status input e.text ls more old.sent new.sent e.ended is handled past));
        unfit = λ bad. inl (at_break handed_in ls e.ended.lines 5 status e.text old.sent new.sent e.text_of (at_unfit status input e.text ls more old.sent new.sent e.ended is handled bad));
      }
      | inr hindered ↦
          let behind = subst (λ (z : List (List ℕ)). IsHindered handed_in s t modems z status) is hindered in
          record { limit = λ past. inr behind; unfit = λ bad. inr behind }
    ]

-- a replay that ended with status 0 sent the trace of all lines
some_run : (handed_in : List ModemSeen) (ls : List (List ℕ)) (text : List ℕ) → ls ≢ [] → IsTextOf handed_in ls text → HasRun handed_in ls text
some_run handed_in ls text some (inl none) = absurd (some none.0)
some_run handed_in ls text some (inr has) = has

done_at : (handed_in : List ModemSeen) (s t : Seen) (modems : List ModemSeen) (rest0 rest sent0 sent : Option (List ℕ)) (input : List ℕ) (ls : List (List ℕ)) (text closing : List ℕ) (halt : Halt) (ended : Result (Unit {0}) SendStop) → exit_status halt ended ≡ 0 → s.told ≡ true → rest0 ≡ Some input → length ls ≤ MOST_LINES
    → Reason (Replays handed_in s t modems) (StopsReplay handed_in s t modems) rest0 rest ls text halt → Concludes EndsReplay ls text closing halt → SentFor sent0 sent (length ls) text closing halt ended → IsDone handed_in input rest sent0 sent
done_at handed_in s t modems rest0 rest sent0 sent input ls text closing halt (Err sending.Fault) zero bench told few r c said = absurd cc
done_at handed_in s t modems rest0 rest sent0 sent input ls text closing halt (Err sending.NoMemory) zero bench told few r c said = absurd cc
done_at handed_in s t modems rest0 rest sent0 sent input ls text closing (Reading reading.End) (Ok done) zero bench told few r c said =
    let (tail, taken, at) = r.1 input told in
    let all : ls ≡ lines_of input = sym (all_lines ls input tail taken at.0 ∙ append-nil ls) in
    let has = some_run handed_in ls text c.0 (told_text handed_in s t modems ls text (r.0.told bench)) in
    record {
      to_end = at.1;
      handled = subst AreHandled all (are_handled ls input tail few taken r.0.fit);
      text = text;
      run = subst (λ (z : List (List ℕ)). HasRun handed_in z text) all has;
      has_sent = subst (λ (z : List ℕ). HasSent sent0 sent z) (ap (λ (z : List ℕ). text ++ z) c.1 ∙ append-nil text) said;
    }
done_at handed_in s t modems rest0 rest sent0 sent input ls text closing (Reading reading.Fault) (Ok done) zero bench told few r c said = absurd cc
done_at handed_in s t modems rest0 rest sent0 sent input ls text closing (Reading reading.Limit) (Ok done) zero bench told few r c said = absurd cc
done_at handed_in s t modems rest0 rest sent0 sent input ls text closing (Reading reading.NoMemory) (Ok done) zero bench told few r c said = absurd cc
done_at handed_in s t modems rest0 rest sent0 sent input ls text closing (Handling handling.ChipFault) (Ok done) zero bench told few r c said = absurd cc
done_at handed_in s t modems rest0 rest sent0 sent input ls text closing (Handling handling.Malformed) (Ok done) zero bench told few r c said = absurd cc
done_at handed_in s t modems rest0 rest sent0 sent input ls text closing (Handling handling.Limit) (Ok done) zero bench told few r c said = absurd cc
done_at handed_in s t modems rest0 rest sent0 sent input ls text closing (Handling handling.Unrecognised) (Ok done) zero bench told few r c said = absurd cc
done_at handed_in s t modems rest0 rest sent0 sent input ls text closing (Handling handling.NoMemory) (Ok done) zero bench told few r c said = absurd cc
done_at handed_in s t modems rest0 rest sent0 sent input ls text closing (Ending ending.Missing) (Ok done) zero bench told few r c said = absurd cc
done_at handed_in s t modems rest0 rest sent0 sent input ls text closing (Ending ending.NoMemory) (Ok done) zero bench told few r c said = absurd cc
done_at handed_in s t modems rest0 rest sent0 sent input ls text closing Sending (Ok done) zero bench told few r c said = absurd cc

pub is_done : (handed_in : List ModemSeen) (status : ℕ) (old new : Edge) (s t : Seen) (modems : List ModemSeen) (input : List ℕ) → Replayed handed_in status old new s t modems → s.told ≡ true → old.rest ≡ Some input → status ≡ 0 → IsDone handed_in input new.rest old.sent new.sent
is_done handed_in status old new s t modems input r bench told zero =
    let e = r.ended in
    done_at handed_in s t modems old.rest new.rest old.sent new.sent input e.lines e.text e.closing r.end.halt r.end.closing (sym r.says ∙ zero) bench told e.few e.reason e.concludes e.sent
