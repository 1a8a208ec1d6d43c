-- What stands after the card was given a command of the assistant.
use Rattle.std.proofs.Common.{◌≡◌, ◌⊎◌, inl, inr, ◌<◌, ℕ, true, false, List, ◌++◌, length, Option, None, Result, Ok, Err, refl, sym, ◌∙◌, ap, subst}
use Rattle.std.proofs.lemmas.Bool.{false≢true}
use Rattle.chip_port.specs.Seen.{Seen}
use Rattle.small_card.specs.Cards.{FullCard}
use Rattle.small_card.specs.declared.types.Answer.{Answer}
use Rattle.small_card.specs.declared.types.Command.{Command}
use Rattle.esipa_codec.specs.Assistant.{IpaEvent, act_of, answered}
use Rattle.esipa_codec.specs.declared.messages.Post.{Post}
use Rattle.small_world.specs.Acting.{told_answer, posts_of}
use Rattle.small_world.specs.Octets.{octets_sent, most_octets_sent}
use Rattle.small_world.specs.Stepping.{commanded}
use Rattle.small_world.specs.Stretches.{is_far}
use Rattle.small_world.specs.Texts.{said, lost_text, off}
use Rattle.small_world.specs.Worlds.{SmallWorld}
use Rattle.world_card.specs.Commands.{IsAnswered, IsLost, IsIdle, IsShort}
use Rattle.world_card.specs.Counts.{Counted, short_fate}
use Rattle.world_card.proofs.Same.{same_card}
use Rattle.world_network.specs.Networks.{Parts, IsNetwork}
use Rattle.world_card.specs.Boots.{IsBefore}
use Rattle.iot_world.specs.Asking.{Asks, IsAsked, IsOver, IsCutOff, IsStepped, IsTold, Tells, SaysSilent, sent_after}
use Rattle.iot_world.specs.Worlds.{StandsFor}
use Rattle.iot_world.specs.declared.asking.Asked.{Asked}
use Rattle.iot_world.specs.declared.asking.Asked.TheVariants.{Answered, Silent}
use Rattle.iot_world.specs.declared.ends.Halt.{Halt}
use Rattle.iot_world.specs.declared.ends.Halt.TheVariants.{Limit, Foreign, NoMemory}
use Rattle.iot_world.specs.declared.world.World.{World}
use Rattle.iot_world.proofs.Around.{commanded_around, around_network, asked_answered, asked_lost, told_same, answered_plan}
use Rattle.iot_world.proofs.Telling.{over_may, sends_no_unit, within_octets}

pub stepped_answered : (first : ℕ) (w : SmallWorld) (c : Command) (a : Answer) (held : Option FullCard) (s t : Seen) → IsAnswered first w c a held s t → IsStepped first w c false s t
stepped_answered first w c a held s t d = record {
  lit = d.lit;
  due = λ due. absurd (false≢true (sym d.not_due ∙ due));
  counts = d.counts;
  holds = d.stands.bench;
}

pub stepped_lost : (first : ℕ) (w : SmallWorld) (c : Command) (held : Option FullCard) (s t : Seen) → IsLost first w c held s t → IsStepped first w c true s t
stepped_lost first w c held s t d = record { lit = d.lit; due = λ due. refl; counts = d.counts; holds = d.stands.bench }

-- the card answered, and the assistant heard it
heard : (first : ℕ) (w : SmallWorld) (c : Command) (a : Answer) (place sent : ℕ) (v : World) (s t : Seen) (before out : List ℕ) → IsAnswered first w c a v.card s t → IsTold (commanded c false w) c a place sent v.network before out
    → IsAsked first w c place sent v s t before out
heard first w c a place sent v s t before out d told =
    let around = commanded_around c false w in
    let next = commanded c false w in
    record {
      stepped = stepped_answered first w c a v.card s t d;
      says = told.says ∙ ap (λ (x : Answer). before ++ said c x) d.reply_is;
      place_is = told.place ∙ ap (λ (ps : List Post). length ps) around.to_eims;
      count = ap (λ (x : Answer). length (sent_after w x)) (sym d.reply_is) ∙ sym (ap (λ (es : List IpaEvent). length (posts_of (act_of es (answered a)))) around.assistant) ∙ told.count;
      stands = subst (λ (x : SmallWorld). StandsFor first v t x) (sym (asked_answered c w d.lit)) (subst (λ (x : Answer). StandsFor first v t (told_answer x next)) d.reply_is (record {
        network = told.network;
        card = same_card first v.card t next (told_answer a next) (told_same a next) d.stands;
      }));
    }

-- a message passed the limit
over : (first : ℕ) (w : SmallWorld) (c : Command) (a : Answer) (before_net : Parts) (held : Option FullCard) (s t : Seen) → IsAnswered first w c a held s t → IsNetwork before_net (commanded c false w)
    → most_octets_sent < octets_sent (told_answer a (commanded c false w)) → IsOver first w c s t
over first w c a net held s t d n above = record {
  stepped = stepped_answered first w c a held s t d;
  over = subst (λ (x : SmallWorld). most_octets_sent < octets_sent x) (ap (λ (x : Answer). told_answer x (commanded c false w)) d.reply_is ∙ sym (asked_answered c w d.lit)) above;
  no_unit = sends_no_unit w.history c a d.reply_is (over_may (commanded c false w) a (within_octets (commanded c false w) n.within) above);
  plan = d.stands.plan ∙ ended_plan;
}
  where
    ended_plan : (commanded c false w).plan ≡ None
    ended_plan = answered_plan c w d.lit

pub asked : (first : ℕ) (w : SmallWorld) (c : Command) (a : Answer) (result : Result Asked Halt) (net : Parts) (v : World) (s t : Seen) (before out : List ℕ) → IsNetwork net w → IsAnswered first w c a v.card s t
    → (IsNetwork net (commanded c false w) → Tells (commanded c false w) c a result v.network before out) → Asks first w c result v s t before out
asked first w c a (Ok (Answered place sent)) net v s t before out n d tells = heard first w c a place sent v s t before out d (tells (around_network net w (commanded c false w) (commanded_around c false w) n))
asked first w c a (Ok Silent) net v s t before out n d tells = absurd (tells (around_network net w (commanded c false w) (commanded_around c false w) n))
asked first w c a (Err Limit) net v s t before out n d tells =
    let m = around_network net w (commanded c false w) (commanded_around c false w) n in
    over first w c a net v.card s t d m (tells m)
asked first w c a (Err Foreign) net v s t before out n d tells = tells (around_network net w (commanded c false w) (commanded_around c false w) n)
asked first w c a (Err NoMemory) net v s t before out n d tells = inr (record { lost = false; stepped = stepped_answered first w c a v.card s t d })

-- the step was lost
pub unheard : (first : ℕ) (w : SmallWorld) (c : Command) (result : Result Asked Halt) (v : World) (s t : Seen) (before out : List ℕ) → IsNetwork v.network w → IsLost first w c v.card s t → SaysSilent lost_text before out result → Asks first w c result v s t before out
unheard first w c (Ok (Answered place sent)) v s t before out n d says = absurd says
unheard first w c (Ok Silent) v s t before out n d says = inl (record {
  stepped = stepped_lost first w c v.card s t d;
  says = says;
  stands = subst (λ (x : SmallWorld). StandsFor first v t x) (sym (asked_lost c w d.lit)) (record { network = around_network v.network w (commanded c true w) (commanded_around c true w) n; card = d.stands });
})
unheard first w c (Err Limit) v s t before out n d says = absurd says
unheard first w c (Err Foreign) v s t before out n d says = says
unheard first w c (Err NoMemory) v s t before out n d says = inr (record { lost = true; stepped = stepped_lost first w c v.card s t d })

-- the card is dark
pub dark : (first : ℕ) (w : SmallWorld) (c : Command) (result : Result Asked Halt) (v : World) (s t : Seen) (before out : List ℕ) → IsNetwork v.network w → IsIdle first w v.card t → Counted (short_fate (is_far w.plan)) s t → SaysSilent off before out result
    → Asks first w c result v s t before out
dark first w c (Ok (Answered place sent)) v s t before out n d same says = absurd says
dark first w c (Ok Silent) v s t before out n d same says = inr (record { dark = d.dark; says = says; stands = record { network = n; card = d.stands }; counts = same })
dark first w c (Err Limit) v s t before out n d same says = absurd says
dark first w c (Err Foreign) v s t before out n d same says = says
dark first w c (Err NoMemory) v s t before out n d same says = inl (record { holds = d.stands.bench; counts = same })

pub short : (first : ℕ) (w : SmallWorld) (c : Command) (s t : Seen) → IsShort first w s t → IsBefore first w s t ⊎ IsCutOff first w c s t
short first w c s t d = inl (record { holds = d.holds; counts = d.counts })
