-- What a command does to a card on its bench.
use Rattle.std.specs.Prelude.{◌≡◌, ℕ, true, false, Option}
use Rattle.chip_port.specs.Seen.{Seen, is_due}
use Rattle.small_card.specs.Cards.{FullCard}
use Rattle.small_card.specs.declared.types.Answer.{Answer}
use Rattle.small_card.specs.declared.types.Command.{Command}
use Rattle.package_codec.specs.Replies.{reply}
use Rattle.euicc_core.specs.declared.ends.StepEnd.{StepEnd}
use Rattle.euicc_core.specs.declared.ends.StepEnd.TheVariants.{Answered, Lost, Dark, NoMemory}
use Rattle.small_world.specs.Stepping.{commanded}
use Rattle.small_world.specs.Stretches.{is_far}
use Rattle.small_world.specs.Worlds.{SmallWorld}
use Rattle.world_card.specs.Benches.{IsOnBench, HoldsWorld}
use Rattle.world_card.specs.Counts.{Counted, answered_fate, lost_fate, short_fate}

-- the answer is the reply, and the world goes on with the command's unit, if any
pub record IsAnswered (first : ℕ) (w : SmallWorld) (c : Command) (a : Answer) (held : Option FullCard) (s t : Seen) : Type 0 where
  pub lit : w.lit ≡ true
  pub reply_is : a ≡ reply w.history c
  pub not_due : is_due w.plan ≡ false
  pub stands : IsOnBench first held t (commanded c false w)
  pub counts : Counted (answered_fate (is_far w.plan)) s t

-- the step was lost, and the card is dark
pub record IsLost (first : ℕ) (w : SmallWorld) (c : Command) (held : Option FullCard) (s t : Seen) : Type 0 where
  pub lit : w.lit ≡ true
  pub stands : IsOnBench first held t (commanded c true w)
  pub counts : Counted (lost_fate (is_far w.plan)) s t

-- the card was dark, and goes on standing for the same world
pub record IsIdle (first : ℕ) (w : SmallWorld) (held : Option FullCard) (t : Seen) : Type 0 where
  pub dark : w.lit ≡ false
  pub stands : IsOnBench first held t w

-- memory ran out, and the bench holds what it held
pub record IsShort (first : ℕ) (w : SmallWorld) (s t : Seen) : Type 0 where
  pub lit : w.lit ≡ true
  pub holds : HoldsWorld first t w
  pub counts : Counted (short_fate (is_far w.plan)) s t

abbrev pub Commanded : ℕ → SmallWorld → Command → StepEnd → Option FullCard → Seen → Seen → Type 0
Commanded first w c (Answered a) held s t = IsAnswered first w c a held s t
Commanded first w c Lost held s t = IsLost first w c held s t
Commanded first w c Dark held s t = IsIdle first w held t
Commanded first w c NoMemory held s t = IsShort first w s t
