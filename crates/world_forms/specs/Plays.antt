-- The lines of a demonstration, one by one.
use Rattle.std.specs.Prelude.{◌≡◌, ℕ, ◌+◌, ◌-◌, ◌^◌, ◌<◌, min, cond, List, [], ◌∷◌, ◌++◌, length, Result, Ok, Err}
use Rattle.chip_port.specs.Seen.{Seen}
use Rattle.iot_schedule.specs.Making.{made_line, state_before}
use Rattle.iot_world.specs.Turns.{StandsWith}
use Rattle.line_loop.specs.declared.halt.LineStop.{LineStop}
use Rattle.line_loop.specs.declared.halt.LineStop.TheVariants.{NoMemory}
use Rattle.modem_bank.specs.Modems.{Seen as ModemSeen}
use Rattle.schedule_forms.specs.Schedules.{made_lines}
use Rattle.world_forms.specs.Demos.{AreCounts, begins, printed_by}
use Rattle.world_forms.specs.Replays.{IsReplayed, Stops}
use Rattle.world_forms.specs.declared.playing.Play.{Play}
use Rattle.world_forms.specs.declared.tally.Tally.{Tally}

-- A count with one text more. It stands still at the end of its type.
abbrev pub counted : ℕ → List ℕ → List ℕ → ℕ
counted count word text = cond (begins word text) (min (count + 1) (2 ^ 32 - 1)) count

-- Where these were the counts of some texts, those are the counts with a text more, which came with its end.
abbrev pub CountsOn : Tally → Tally → List ℕ → Type 0
CountsOn before after said = (texts : List (List ℕ)) (x : List ℕ) → said ≡ x ++ 10 ∷ [] → length texts < 2 ^ 32 - 1 → AreCounts before texts → AreCounts after (texts ++ x ∷ [])

-- The line of a number was made, or memory was wanting.
abbrev pub Makes : ℕ → ℕ → ℕ → Result (List ℕ) LineStop → Type 0
Makes start number state (Ok line) = (line ≡ made_line start number) × (state ≡ state_before start (number + 1))
Makes start number state (Err NoMemory) = Unit {0}
Makes start number state (Err other) = ⊥

-- These lines were replayed, so many, and counted.
pub record HasPlayed (play : Play) (handed_in : List ModemSeen) (ls : List (List ℕ)) (count : ℕ) (s t : Seen) (modems : List ModemSeen) : Type 0 where
  pub text : List ℕ
  pub replayed : IsReplayed handed_in s t modems ls text
  pub stands : StandsWith (s.marks.answers + 1) play.world t modems replayed.has.world
  pub counts : AreCounts play.tally (printed_by replayed.has)
  pub many : length (printed_by replayed.has) ≡ count

-- So many of the generated lines were, or behind them the next one isn't handled.
pub record HasHalted (handed_in : List ModemSeen) (start count : ℕ) (stop : LineStop) (s t : Seen) (modems : List ModemSeen) : Type 0 where
  pub text : List ℕ
  pub stops : Stops handed_in s t modems (made_lines start count) text (made_line start (count + 1)) stop

abbrev pub Plays : Play → List ModemSeen → ℕ → ℕ → Result (Unit {0}) LineStop → Seen → Seen → List ModemSeen → Type 0
Plays play handed_in start count (Ok done) s t modems = HasPlayed play handed_in (made_lines start (count + 1)) (count + 1) s t modems
Plays play handed_in start count (Err stop) s t modems = HasHalted handed_in start count stop s t modems

-- The same of the first line.
abbrev pub BeginsPlay : List ModemSeen → ℕ → Result Play LineStop → Seen → Seen → List ModemSeen → Type 0
BeginsPlay handed_in start (Ok play) s t modems = HasPlayed play handed_in (made_lines start 1) 1 s t modems
BeginsPlay handed_in start (Err stop) s t modems = HasHalted handed_in start 0 stop s t modems
