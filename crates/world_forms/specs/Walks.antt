-- What lines make of the part that replays them, and of the bench and the modems that it is lent.
use Rattle.std.specs.Prelude.{◌≡◌, ◌↔◌, ◌+◌, ℕ, List, [], Option, Some, None}
use Rattle.chip_port.specs.Rules.{IfTold, Untouched}
use Rattle.chip_port.specs.Seen.{Seen}
use Rattle.euicc_core.specs.Steps.{IsLitOn}
use Rattle.iot_world.specs.Turns.{StandsWith}
use Rattle.iot_world.specs.declared.world.World.{World}
use Rattle.modem_bank.specs.Modems.{Seen as ModemSeen}
use Rattle.schedule_forms.specs.Grammar.{AreInGrammar}
use Rattle.world_forms.specs.Replays.{IsUnbegun, IsReplayed, no_change}

-- What has to hold of a world and its bench before each line.
abbrev pub IsReadyFor : Option World → Seen → Type 0
IsReadyFor None s = Unit {0}
IsReadyFor (Some v) s = IfTold s (IsLitOn v.card s)

-- The world that the lines came to: none before the first one, and then the value, the bench and the modems stand for
-- the last world of the run.
abbrev pub IsAt : Option World → List ModemSeen → Seen → Seen → List ModemSeen → List (List ℕ) → List ℕ → Type 0
IsAt None handed_in s t modems ls text = IsUnbegun handed_in s t modems ls text
IsAt (Some v) handed_in s t modems ls text =
    (r : IsReplayed handed_in s t modems ls text) × StandsWith (s.marks.answers + 1) v t modems r.has.world

-- Lines in the grammar led to this world: to none where there is no line, and then the bench is as it was.
pub record Began (world : Option World) (s t : Seen) (ls : List (List ℕ)) : Type 0 where
  pub fit : AreInGrammar ls
  pub begun : (world ≡ None) ↔ (ls ≡ [])
  pub unbegun : world ≡ None → Untouched no_change s t

-- Where the bench tells its content, these lines led to this world, bench and modems.
abbrev pub Led : Option World → List ModemSeen → Seen → Seen → List ModemSeen → List (List ℕ) → List ℕ → Type 0
Led world handed_in s t modems ls text = IfTold s (IsAt world handed_in s t modems ls text)
