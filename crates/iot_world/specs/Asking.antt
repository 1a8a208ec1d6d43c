-- The assistant gives the card a command, and hears its answer.
use Rattle.std.specs.Prelude.{◌≡◌, ◌⊎◌, ◌<◌, ℕ, ◌+◌, ◌^◌, Bool, true, false, not, List, ◌++◌, length, None, Result, Ok, Err}
use Rattle.chip_port.specs.Seen.{Seen, is_due}
use Rattle.small_card.specs.declared.types.Answer.{Answer}
use Rattle.small_card.specs.declared.types.Command.{Command}
use Rattle.package_codec.specs.Replies.{reply, unit_of}
use Rattle.esipa_codec.specs.Assistant.{act_of, answered}
use Rattle.esipa_codec.specs.declared.messages.Post.{Post}
use Rattle.small_world.specs.Acting.{posts_of, told_answer, asked_card}
use Rattle.small_world.specs.Octets.{most_octets_sent, octets_sent}
use Rattle.small_world.specs.Printing.{replied}
use Rattle.small_world.specs.Stepping.{commanded}
use Rattle.small_world.specs.Stretches.{Fate, is_far}
use Rattle.small_world.specs.Texts.{said, lost_text, off, pushed_text}
use Rattle.small_world.specs.Worlds.{SmallWorld}
use Rattle.world_card.specs.Benches.{HoldsWorld}
use Rattle.world_card.specs.Counts.{Counted, short_fate}
use Rattle.world_network.specs.Networks.{Parts, IsNetwork}
use Rattle.world_card.specs.Boots.{IsBefore}
use Rattle.iot_world.specs.Worlds.{StandsFor}
use Rattle.iot_world.specs.declared.asking.Asked.{Asked}
use Rattle.iot_world.specs.declared.asking.Asked.TheVariants.{Answered, Silent}
use Rattle.iot_world.specs.declared.ends.Halt.{Halt}
use Rattle.iot_world.specs.declared.ends.Halt.TheVariants.{Limit, Foreign, NoMemory}
use Rattle.iot_world.specs.declared.world.World.{World}

-- the places of what was sent are numbers of the machine
abbrev pub AreFew : Asked → Type 0
AreFew (Answered first sent) = first + sent < 2 ^ 64
AreFew Silent = Unit {0}

-- a word was appended, unless memory ran out
abbrev pub Says : List ℕ → List ℕ → List ℕ → Result (Unit {0}) Halt → Type 0
Says word before out (Ok done) = out ≡ before ++ word
Says word before out (Err Limit) = ⊥
Says word before out (Err Foreign) = ⊥
Says word before out (Err NoMemory) = Unit {0}

abbrev pub SaysSilent : List ℕ → List ℕ → List ℕ → Result Asked Halt → Type 0
SaysSilent word before out (Ok (Answered first sent)) = ⊥
SaysSilent word before out (Ok Silent) = out ≡ before ++ word
SaysSilent word before out (Err Limit) = ⊥
SaysSilent word before out (Err Foreign) = ⊥
SaysSilent word before out (Err NoMemory) = Unit {0}

-- the places of the pending results that were sent were appended, unless memory ran out
abbrev pub SaysPushed : ℕ → ℕ → List ℕ → List ℕ → Result (Unit {0}) Halt → Type 0
SaysPushed first sent before out (Ok done) = (posts : List Post) → length posts ≡ sent → out ≡ before ++ pushed_text first posts
SaysPushed first sent before out (Err Limit) = ⊥
SaysPushed first sent before out (Err Foreign) = ⊥
SaysPushed first sent before out (Err NoMemory) = Unit {0}

-- the messages that the assistant sends for an answer of the card
abbrev pub sent_after : SmallWorld → Answer → List Post
sent_after w a = posts_of (act_of w.assistant (answered a))

-- an answer was printed and told to the assistant
pub record IsTold (w : SmallWorld) (c : Command) (a : Answer) (first sent : ℕ) (now : Parts) (before out : List ℕ) : Type 0 where
  pub says : out ≡ before ++ said c a
  pub place : first ≡ length w.to_eims
  pub count : length (sent_after w a) ≡ sent
  pub network : IsNetwork now (told_answer a w)

abbrev pub Tells : SmallWorld → Command → Answer → Result Asked Halt → Parts → List ℕ → List ℕ → Type 0
Tells w c a (Ok (Answered first sent)) now before out = IsTold w c a first sent now before out
Tells w c a (Ok Silent) now before out = ⊥
Tells w c a (Err Limit) now before out = most_octets_sent < octets_sent (told_answer a w)
Tells w c a (Err Foreign) now before out = ⊥
Tells w c a (Err NoMemory) now before out = Unit {0}

-- what a command that was answered, or lost, did to the counts
abbrev pub command_fate : Bool → Bool → Fate
command_fate lost far = record { lost = lost; unplanned = far; marked = not lost; costly = true; planned = false }

-- the card of a lit world took a step, which was lost or not; under a plan of no calls it was
pub record IsStepped (first : ℕ) (w : SmallWorld) (c : Command) (lost : Bool) (s t : Seen) : Type 0 where
  pub lit : w.lit ≡ true
  pub due : is_due w.plan ≡ true → lost ≡ true
  pub counts : Counted (command_fate lost (is_far w.plan)) s t
  pub holds : HoldsWorld first t (commanded c lost w)

-- the card answered, and the assistant heard it
pub record IsAsked (first : ℕ) (w : SmallWorld) (c : Command) (place sent : ℕ) (v : World) (s t : Seen) (before out : List ℕ) : Type 0 where
  pub stepped : IsStepped first w c false s t
  pub says : out ≡ before ++ replied w c
  pub place_is : place ≡ length w.to_eims
  pub count : length (sent_after w (reply w.history c)) ≡ sent
  pub stands : StandsFor first v t (asked_card c false w)

-- the step was lost
pub record IsUnheard (first : ℕ) (w : SmallWorld) (c : Command) (v : World) (s t : Seen) (before out : List ℕ) : Type 0 where
  pub stepped : IsStepped first w c true s t
  pub says : out ≡ before ++ lost_text
  pub stands : StandsFor first v t (asked_card c true w)

-- the card is dark, and nothing was done
pub record IsOff (first : ℕ) (w : SmallWorld) (v : World) (s t : Seen) (before out : List ℕ) : Type 0 where
  pub dark : w.lit ≡ false
  pub says : out ≡ before ++ off
  pub stands : StandsFor first v t w
  pub counts : Counted (short_fate (is_far w.plan)) s t

-- a message for the answer would pass the limit; no unit was made
pub record IsOver (first : ℕ) (w : SmallWorld) (c : Command) (s t : Seen) : Type 0 where
  pub stepped : IsStepped first w c false s t
  pub over : most_octets_sent < octets_sent (asked_card c false w)
  pub no_unit : unit_of w.history c ≡ None
  pub plan : t.tally.plan ≡ None

-- memory ran out, before the step or after it
pub record IsCutOff (first : ℕ) (w : SmallWorld) (c : Command) (s t : Seen) : Type 0 where
  pub lost : Bool
  pub stepped : IsStepped first w c lost s t

abbrev pub Asks : ℕ → SmallWorld → Command → Result Asked Halt → World → Seen → Seen → List ℕ → List ℕ → Type 0
Asks first w c (Ok (Answered place sent)) v s t before out = IsAsked first w c place sent v s t before out
Asks first w c (Ok Silent) v s t before out = IsUnheard first w c v s t before out ⊎ IsOff first w v s t before out
Asks first w c (Err Limit) v s t before out = IsOver first w c s t
Asks first w c (Err Foreign) v s t before out = ⊥
Asks first w c (Err NoMemory) v s t before out = IsBefore first w s t ⊎ IsCutOff first w c s t
