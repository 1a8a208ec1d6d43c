-- What a bench keeps of a run: its history and marks, the images of its boots, and its counts.
use Rattle.std.specs.Prelude.{◌≡◌, ℕ, ◌+◌, true, false, List, [], ◌∷◌, length}
use Rattle.chip_port.specs.Seen.{Seen}
use Rattle.small_card.specs.Histories.{full_of}
use Rattle.small_world.specs.Runs.{Turn, is_boot, world_after}
use Rattle.small_world.specs.Stretches.{Fate}
use Rattle.small_world.specs.Worlds.{SmallWorld}
use Rattle.world_card.specs.Benches.{HoldsWorld}
use Rattle.euicc_core.specs.Settling.{WokeAs}
use Rattle.world_forms.specs.Losses.{AreCounted}

-- A boot that made a mark shows the card after it.
abbrev pub IsShown : ℕ → Turn → SmallWorld → Seen → Type 0
IsShown answer turn w t = is_boot turn.line ≡ true → turn.lost ≡ false → WokeAs answer (full_of w.history) t

-- Each boot of a run does. The first answer has this number, and each mark is that of the next one.
abbrev pub AreShown : ℕ → SmallWorld → List Turn → Seen → Type 0
AreShown first start [] t = Unit {0}
AreShown first start (turn ∷ ts) t =
    IsShown (first + length (world_after start ts).marks) turn (world_after start (turn ∷ ts)) t × AreShown first start ts t

-- From the first bench on, the second holds this world behind these turns, and these lines were counted: where a line
-- behind them was begun, it is among them. The world's first mark is that of the next answer.
pub record IsKept (s t : Seen) (start : SmallWorld) (turns : List Turn) (w : SmallWorld) (fs : List Fate) : Type 0 where
  pub holds : HoldsWorld (s.marks.answers + 1) t w
  pub boots : AreShown (s.marks.answers + 1) start turns t
  pub counted : AreCounted s t fs
