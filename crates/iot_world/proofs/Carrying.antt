-- A line in which the assistant gives the card a command.
use Rattle.std.proofs.Common.{◌≡◌, ◌⊎◌, ⊎_elim, inl, inr, ◌<◌, ℕ, Bool, true, false, cond, List, [], ◌++◌, length, Result, Ok, Err, refl, sym, ◌∙◌, ap, subst}
use Rattle.std.specs.Prelude.{not, ◌&&◌}
use Rattle.std.proofs.lemmas.List.{append-nil, append_assoc}
use Rattle.chip_port.specs.Seen.{Seen}
use Rattle.small_card.specs.declared.types.Command.{Command}
use Rattle.small_card.specs.declared.types.Command.TheVariants as command
use Rattle.package_codec.specs.Replies.{reply}
use Rattle.esipa_codec.specs.Assistant.{IpaEvent, push, act_of}
use Rattle.iot_schedule.specs.declared.types.Line.{Line}
use Rattle.iot_schedule.specs.declared.types.Line.TheVariants as line
use Rattle.small_world.specs.Acting.{hearing, asked_card, told_answer, acts, command_of, posts_of}
use Rattle.small_world.specs.Lines.{acted}
use Rattle.small_world.specs.Octets.{most_octets_sent, octets_sent}
use Rattle.small_world.specs.Printing.{printed, replied, step_text, sent_for}
use Rattle.small_world.specs.Runs.{given}
use Rattle.small_world.specs.Stepping.{commanded, answered_step, IsSameCard}
use Rattle.small_world.specs.Stretches.{Fate, is_costly, is_cut}
use Rattle.small_world.specs.Texts.{said, pushed_text, also_sent}
use Rattle.small_world.specs.Worlds.{SmallWorld}
use Rattle.world_card.specs.Benches.{HoldsWorld}
use Rattle.world_card.specs.Counts.{Counted}
use Rattle.world_card.proofs.Same.{same_holds, same_card}
use Rattle.world_network.specs.Networks.{Parts, IsNetwork}
use Rattle.world_card.proofs.Commanding.{commanded_lit}
use Rattle.world_card.specs.Boots.{IsBefore}
use Rattle.iot_world.specs.Asking.{Asks, IsAsked, IsUnheard, IsOff, IsOver, IsCutOff, SaysPushed, sent_after}
use Rattle.iot_world.specs.Carrying.{Gives, IsCarried, PrintsAlso, SaysAlso}
use Rattle.iot_world.specs.Steps.{Acts, IsActed, IsActedShort, IsOverLimit}
use Rattle.iot_world.specs.Worlds.{StandsFor}
use Rattle.iot_world.specs.declared.asking.Asked.{Asked}
use Rattle.iot_world.specs.declared.asking.Asked.TheVariants.{Answered, Silent}
use Rattle.iot_world.specs.declared.ends.Halt.{Halt}
use Rattle.iot_world.specs.declared.ends.Halt.TheVariants.{Limit, Foreign, NoMemory}
use Rattle.iot_world.specs.declared.world.World.{World}
use Rattle.iot_world.proofs.Around.{asked_answered, asked_lost, told_same}
use Rattle.iot_world.proofs.Replied.{lit_fate, dark_fate, lit_loses, dark_loses, lit_says, dark_says, dark_commanded}
use Rattle.iot_world.proofs.Turning.{turned, turned_short}

-- what is heard leaves the card
pub heard_same : (e : IpaEvent) (w : SmallWorld) → IsSameCard (hearing e w) w
heard_same e w = record { history = refl; marks = refl; lit = refl; plan = refl }

pub hearing_same : (e : IpaEvent) (w : SmallWorld) → IsSameCard w (hearing e w)
hearing_same e w = record { history = refl; marks = refl; lit = refl; plan = refl }

-- a lit card that was asked is that of the command
asked_same : (c : Command) (lost : Bool) (w : SmallWorld) → w.lit ≡ true → IsSameCard (commanded c lost w) (asked_card c lost w)
asked_same c false w lit = subst (λ (x : SmallWorld). IsSameCard (commanded c false w) x) (sym (asked_answered c w lit)) (told_same (reply w.history c) (commanded c false w))
asked_same c true w lit = subst (λ (x : SmallWorld). IsSameCard (commanded c true w) x) (sym (asked_lost c w lit)) (record { history = refl; marks = refl; lit = refl; plan = refl })

dark_asked : (c : Command) (lost : Bool) (w : SmallWorld) → w.lit ≡ false → asked_card c lost w ≡ w
unfolding asked_card
dark_asked c lost w dark = ap (λ (b : Bool). cond (b && not lost) (told_answer (reply w.history c) (commanded c lost w)) (commanded c lost w)) dark ∙ dark_commanded c lost w dark

-- the card answered
pub carried_heard : (first : ℕ) (w : SmallWorld) (l : Line) (e : IpaEvent) (c : Command) (place sent : ℕ) (v : World) (s t : Seen) (before middle out : List ℕ) → IsCarried w l e c → IsAsked first (hearing e w) c place sent v s t before middle
    → out ≡ before ++ printed w l false → IsActed first l w v s t before out
carried_heard first w l e c place sent v s t before middle out k a says =
    turned first l c false w v s t before out k.gives (lit_loses w false a.stepped.lit a.stepped.due) says (subst (λ (x : SmallWorld). StandsFor first v t x) (sym (k.does false)) a.stands)
    (subst (λ (f : Fate). Counted f s t) (lit_fate w false a.stepped.lit) a.stepped.counts)

-- memory ran out behind the answer
pub carried_short : (first : ℕ) (w : SmallWorld) (l : Line) (e : IpaEvent) (c : Command) (v : World) (s t : Seen) → IsCarried w l e c → IsCutOff first (hearing e w) c s t → IsActedShort first l w s t
carried_short first w l e c v s t k off =
    let same = asked_same c off.lost (hearing e w) off.stepped.lit in
    turned_short first l c off.lost w s t k.gives (lit_loses w off.lost off.stepped.lit off.stepped.due)
    (subst (λ (x : SmallWorld). HoldsWorld first t x) (sym (k.does off.lost)) (same_holds first t (commanded c off.lost (hearing e w)) (asked_card c off.lost (hearing e w)) same off.stepped.holds))
    (subst (λ (f : Fate). Counted f s t) (lit_fate w off.lost off.stepped.lit) off.stepped.counts)

-- the step was lost, or the card is dark
pub carried_silent : (first : ℕ) (w : SmallWorld) (l : Line) (e : IpaEvent) (c : Command) (text : List ℕ) (v : World) (s t : Seen) (before out : List ℕ) → IsCarried w l e c → ((lost : Bool) → printed w l lost ≡ step_text w lost text)
    → IsUnheard first (hearing e w) c v s t before out ⊎ IsOff first (hearing e w) v s t before out → IsActed first l w v s t before out
carried_silent first w l e c text v s t before out k prints (inl u) =
    turned first l c true w v s t before out k.gives (lit_loses w true u.stepped.lit (λ due. refl))
    (u.says ∙ ap (λ (x : List ℕ). before ++ x) (lit_says w true text u.stepped.lit ∙ sym (prints true)))
    (subst (λ (x : SmallWorld). StandsFor first v t x) (sym (k.does true)) u.stands) (subst (λ (f : Fate). Counted f s t) (lit_fate w true u.stepped.lit) u.stepped.counts)
carried_silent first w l e c text v s t before out k prints (inr o) =
    turned first l c false w v s t before out k.gives (dark_loses w o.dark)
    (o.says ∙ ap (λ (x : List ℕ). before ++ x) (dark_says w false text o.dark ∙ sym (prints false)))
    (subst (λ (x : SmallWorld). StandsFor first v t x) (sym (k.does false ∙ dark_asked c false (hearing e w) o.dark)) o.stands)
    (subst (λ (f : Fate). Counted f s t) (dark_fate w o.dark) o.counts)

before_line : (first : ℕ) (w : SmallWorld) (e : IpaEvent) (s t : Seen) → IsBefore first (hearing e w) s t → IsBefore first w s t
before_line first w e s t b = record { holds = same_holds first t (hearing e w) w (heard_same e w) b.holds; counts = b.counts }

commanded_heard : (c : Command) (e : IpaEvent) (w : SmallWorld) → w.lit ≡ true → IsSameCard (commanded c false (hearing e w)) (commanded c false w)
commanded_heard c e w lit =
    subst (λ (x : SmallWorld). IsSameCard x (commanded c false w)) (sym (commanded_lit c (hearing e w) lit)) (subst (λ (x : SmallWorld). IsSameCard (answered_step c (hearing e w)) x) (sym (commanded_lit c w lit)) (record { history = refl; marks = refl; lit = refl; plan = refl }))

over_line : (first : ℕ) (w : SmallWorld) (l : Line) (e : IpaEvent) (c : Command) (s t : Seen) → IsCarried w l e c → IsOver first (hearing e w) c s t → IsOverLimit first l w s t
over_line first w l e c s t k o = record {
  over = subst (λ (x : SmallWorld). most_octets_sent < octets_sent x) (sym (k.does false)) o.over;
  bench = inr (record {
    command = c;
    given_is = k.gives.is;
    no_unit = o.no_unit;
    holds = same_holds first t (commanded c false (hearing e w)) (commanded c false w) (commanded_heard c e w o.stepped.lit) o.stepped.holds;
    plan = o.plan;
    counts = o.stepped.counts;
  });
}

-- the card said nothing that is told, and nothing is printed
pub carried_err : (first : ℕ) (w : SmallWorld) (l : Line) (e : IpaEvent) (c : Command) (halt : Halt) (v : World) (s t : Seen) (before middle out : List ℕ) → IsCarried w l e c → Asks first (hearing e w) c (Err halt) v s t before middle → Acts first l w (Err halt) v s t before out
carried_err first w l e c Limit v s t before middle out k a = over_line first w l e c s t k a
carried_err first w l e c Foreign v s t before middle out k a = a
carried_err first w l e c NoMemory v s t before middle out k a = ⊎_elim (λ b. inl (before_line first w e s t b)) (λ off. inr (carried_short first w l e c v s t k off)) a

-- the wish for results
push_gives : (w : SmallWorld) → Gives w line.Push command.Results
unfolding given act_of command_of is_costly is_cut
push_gives w = record { is = refl; no_boot = refl; costs = refl; no_cut = refl }

pub push_carried : (w : SmallWorld) → IsCarried w line.Push push command.Results
unfolding acted acts act_of command_of posts_of
push_carried w = record { gives = push_gives w; does = λ lost. refl }

pub push_prints : (w : SmallWorld) (lost : Bool) → printed w line.Push lost ≡ step_text w lost (pushed_text (length w.to_eims) (sent_after (hearing push w) (reply w.history command.Results)))
unfolding printed sent_for
push_prints w lost = refl

results_said : (w : SmallWorld) → replied w command.Results ≡ []
unfolding reply said
results_said w = refl

pub push_asked : (first : ℕ) (w : SmallWorld) (place sent : ℕ) (result : Result (Unit {0}) Halt) (v : World) (s t : Seen) (before middle out : List ℕ) → IsAsked first (hearing push w) command.Results place sent v s t before middle → SaysPushed place sent middle out result
    → Acts first line.Push w result v s t before out
push_asked first w place sent (Ok done) v s t before middle out a says =
    let posts = sent_after (hearing push w) (reply w.history command.Results) in
    let front : middle ≡ before = a.says ∙ ap (λ (x : List ℕ). before ++ x) (results_said (hearing push w)) ∙ append-nil before in
    let text : out ≡ before ++ pushed_text (length w.to_eims) posts = says posts a.count ∙ ap (λ (x : List ℕ). x ++ pushed_text place posts) front ∙ ap (λ (n : ℕ). before ++ pushed_text n posts) a.place_is in
    carried_heard first w line.Push push command.Results place sent v s t before middle out (push_carried w) a
    (text ∙ ap (λ (x : List ℕ). before ++ x) (lit_says w false (pushed_text (length w.to_eims) posts) a.stepped.lit ∙ sym (push_prints w false)))
push_asked first w place sent (Err Limit) v s t before middle out a says = absurd says
push_asked first w place sent (Err Foreign) v s t before middle out a says = says
push_asked first w place sent (Err NoMemory) v s t before middle out a says = inr (carried_short first w line.Push push command.Results v s t (push_carried w) (record { lost = false; stepped = a.stepped }))

-- the network heard an event
pub stands_heard : (first : ℕ) (w : SmallWorld) (e : IpaEvent) (v : World) (n : Parts) (s : Seen) → StandsFor first v s w → IsNetwork n (hearing e w) → StandsFor first (record v { network = n }) s (hearing e w)
stands_heard first w e v n s stands network = record { network = network; card = same_card first v.card s w (hearing e w) (hearing_same e w) stands.card }

-- an answer, and what is sent besides
pub also_asked : (first : ℕ) (w : SmallWorld) (l : Line) (e : IpaEvent) (c : Command) (place sent : ℕ) (result : Result (Unit {0}) Halt) (v : World) (s t : Seen) (before middle out : List ℕ) → IsCarried w l e c → PrintsAlso w l e c
    → IsAsked first (hearing e w) c place sent v s t before middle → SaysAlso place sent middle out result → Acts first l w result v s t before out
also_asked first w l e c place sent (Ok done) v s t before middle out k prints a says =
    let posts = sent_after (hearing e w) (reply w.history c) in
    let text : out ≡ (before ++ replied w c) ++ also_sent (length w.to_eims) posts = says posts a.count ∙ ap (λ (x : List ℕ). x ++ also_sent place posts) a.says ∙ ap (λ (n : ℕ). (before ++ replied w c) ++ also_sent n posts) a.place_is in
    carried_heard first w l e c place sent v s t before middle out k a
    (text ∙ append_assoc before (replied w c) (also_sent (length w.to_eims) posts) ∙ ap (λ (x : List ℕ). before ++ x) (lit_says w false (replied w c ++ also_sent (length w.to_eims) posts) a.stepped.lit ∙ sym (prints false)))
also_asked first w l e c place sent (Err Limit) v s t before middle out k prints a says = absurd says
also_asked first w l e c place sent (Err Foreign) v s t before middle out k prints a says = says
also_asked first w l e c place sent (Err NoMemory) v s t before middle out k prints a says = inr (carried_short first w l e c v s t k (record { lost = false; stepped = a.stepped }))

-- an answer alone
pub alone_asked : (first : ℕ) (w : SmallWorld) (l : Line) (e : IpaEvent) (c : Command) (asked : Asked) (v : World) (s t : Seen) (before out : List ℕ) → IsCarried w l e c → ((lost : Bool) → printed w l lost ≡ step_text w lost (replied w c))
    → Asks first (hearing e w) c (Ok asked) v s t before out → IsActed first l w v s t before out
alone_asked first w l e c (Answered place sent) v s t before out k prints a =
    carried_heard first w l e c place sent v s t before out out k a (a.says ∙ ap (λ (x : List ℕ). before ++ x) (lit_says w false (replied w c) a.stepped.lit ∙ sym (prints false)))
alone_asked first w l e c Silent v s t before out k prints a = carried_silent first w l e c (replied w c) v s t before out k prints a
