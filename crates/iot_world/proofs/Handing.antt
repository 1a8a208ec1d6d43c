-- A package came to the card without a message to the assistant.
use Rattle.std.proofs.Common.{◌≡◌, ◌⊎◌, inl, inr, ◌<◌, ℕ, Bool, true, false, cond, List, ◌++◌, Result, Ok, Err, refl, sym, ◌∙◌, ap, subst}
use Rattle.std.specs.Prelude.{◌&&◌}
use Rattle.std.proofs.lemmas.Bool.{false≢true}
use Rattle.chip_port.specs.Seen.{Seen}
use Rattle.small_card.specs.declared.types.Answer.{Answer}
use Rattle.small_card.specs.declared.types.Answer.TheVariants as answer
use Rattle.small_card.specs.declared.types.Command.{Command}
use Rattle.small_card.specs.declared.types.Command.TheVariants as command
use Rattle.package_codec.specs.Replies.{reply}
use Rattle.iot_schedule.specs.declared.types.Line.TheVariants as line
use Rattle.small_world.specs.Acting.{told_answer}
use Rattle.small_world.specs.Lines.{acted, handed, told_loaded}
use Rattle.small_world.specs.Octets.{most_octets_sent, octets_sent}
use Rattle.small_world.specs.Printing.{printed, replied, step_text}
use Rattle.small_world.specs.Runs.{given}
use Rattle.small_world.specs.Stepping.{commanded, IsSameCard}
use Rattle.small_world.specs.Stretches.{Fate, is_costly, is_cut, is_far}
use Rattle.small_world.specs.Texts.{said, lost_text, off}
use Rattle.small_world.specs.Worlds.{SmallWorld}
use Rattle.world_card.specs.Benches.{HoldsWorld}
use Rattle.world_card.specs.Commands.{IsAnswered, IsLost, IsIdle, IsShort}
use Rattle.world_card.specs.Counts.{Counted, short_fate}
use Rattle.world_card.proofs.Same.{same_holds, same_card}
use Rattle.world_network.specs.Networks.{Parts, IsNetwork}
use Rattle.world_network.specs.declared.mail.SendEnd.{SendEnd}
use Rattle.world_network.specs.declared.mail.SendEnd.TheVariants as send
use Rattle.world_card.specs.Boots.{IsBefore}
use Rattle.iot_world.specs.Asking.{Says}
use Rattle.iot_world.specs.Carrying.{Gives}
use Rattle.iot_world.specs.Ends.{of_send}
use Rattle.iot_world.specs.Handing.{Hands, IsHanded, is_loaded}
use Rattle.iot_world.specs.Steps.{Acts, IsActedShort}
use Rattle.iot_world.specs.Worlds.{StandsFor}
use Rattle.iot_world.specs.declared.ends.Halt.{Halt}
use Rattle.iot_world.specs.declared.ends.Halt.TheVariants.{Limit, Foreign, NoMemory}
use Rattle.iot_world.specs.declared.world.World.{World}
use Rattle.iot_world.proofs.Around.{commanded_around, around_network, told_same}
use Rattle.iot_world.proofs.Heard.{stepped_answered}
use Rattle.iot_world.proofs.Replied.{lit_fate, dark_fate, lit_loses, dark_loses, lit_says, dark_says, dark_commanded}
use Rattle.iot_world.proofs.Telling.{MaySend, over_may, within_octets}
use Rattle.iot_world.proofs.Turning.{turned, turned_short}

-- an answer that a package was taken, and any other one
taken_told : (a : Answer) (w : SmallWorld) → is_loaded a ≡ true → told_answer a w ≡ told_loaded a w
unfolding is_loaded
taken_told (answer.Loaded r) w is = refl
taken_told a w is = absurd (false≢true is)

left_told : (a : Answer) (w : SmallWorld) → is_loaded a ≡ false → w ≡ told_loaded a w
unfolding is_loaded
left_told (answer.Loaded r) w is = absurd (false≢true (sym is))
left_told a w is = refl

-- nothing is sent for it
taken_silent : (a : Answer) → is_loaded a ≡ true → MaySend a → ⊥
unfolding is_loaded
taken_silent (answer.Loaded r) is may = may
taken_silent a is may = absurd (false≢true is)

loaded_same : (a : Answer) (w : SmallWorld) → IsSameCard w (told_loaded a w)
loaded_same (answer.Loaded r) w = told_same (answer.Loaded r) w
loaded_same a w = record { history = refl; marks = refl; lit = refl; plan = refl }

-- the assistant heard of a package that was taken
pub taken : (w : SmallWorld) (c : Command) (a : Answer) (now : Parts) (before out : List ℕ) → is_loaded a ≡ true → out ≡ before ++ said c a → IsNetwork now (told_answer a w) → IsHanded w c a now before out
taken w c a now before out is says network = record { says = says; network = subst (λ (x : SmallWorld). IsNetwork now x) (taken_told a w is) network }

pub untaken : (w : SmallWorld) (c : Command) (a : Answer) (now : Parts) (before out : List ℕ) → is_loaded a ≡ false → out ≡ before ++ said c a → IsNetwork now w → IsHanded w c a now before out
untaken w c a now before out is says network = record { says = says; network = subst (λ (x : SmallWorld). IsNetwork now x) (left_told a w is) network }

pub untold : (w : SmallWorld) (c : Command) (a : Answer) (end : SendEnd) (halt : Halt) (net now : Parts) (before out : List ℕ) → halt ≡ of_send end → is_loaded a ≡ true → IsNetwork net w → (end ≡ send.Limit → most_octets_sent < octets_sent (told_answer a w)) → Hands w c a (Err halt) now before out
untold w c a send.Limit halt net now before out is loaded network over = absurd (taken_silent a loaded (over_may w a (within_octets w network.within) (over refl)))
untold w c a send.NoMemory halt net now before out is loaded network over = subst (λ (h : Halt). Hands w c a (Err h) now before out) (sym is) tt

-- the line gives the card its package, and prints what the card replies
load_gives : (w : SmallWorld) (good : Bool) (bytes : List ℕ) → Gives w (line.Load good bytes) (command.Load good bytes)
unfolding given is_costly is_cut
load_gives w good bytes = record { is = refl; no_boot = refl; costs = refl; no_cut = refl }

load_prints : (w : SmallWorld) (good : Bool) (bytes : List ℕ) (lost : Bool) → step_text w lost (replied w (command.Load good bytes)) ≡ printed w (line.Load good bytes) lost
unfolding printed
load_prints w good bytes lost = refl

-- the world where the card answered, where the step was lost, and where the card is dark
load_answered : (w : SmallWorld) (good : Bool) (bytes : List ℕ) → w.lit ≡ true → acted (line.Load good bytes) false false w ≡ told_loaded (reply w.history (command.Load good bytes)) (commanded (command.Load good bytes) false w)
unfolding acted handed
load_answered w good bytes lit =
    let c = command.Load good bytes in ap (λ (b : Bool). cond (b && true) (told_loaded (reply w.history c) (commanded c false w)) (commanded c false w)) lit

load_lost : (w : SmallWorld) (good : Bool) (bytes : List ℕ) → w.lit ≡ true → acted (line.Load good bytes) true false w ≡ commanded (command.Load good bytes) true w
unfolding acted handed
load_lost w good bytes lit =
    let c = command.Load good bytes in ap (λ (b : Bool). cond (b && false) (told_loaded (reply w.history c) (commanded c true w)) (commanded c true w)) lit

load_dark : (w : SmallWorld) (good : Bool) (bytes : List ℕ) → w.lit ≡ false → acted (line.Load good bytes) false false w ≡ w
unfolding acted handed
load_dark w good bytes dark =
    let c = command.Load good bytes in ap (λ (b : Bool). cond (b && true) (told_loaded (reply w.history c) (commanded c false w)) (commanded c false w)) dark ∙ dark_commanded c false w dark

-- the card answered
answered_world : (first : ℕ) (w : SmallWorld) (good : Bool) (bytes : List ℕ) (a : Answer) (v : World) (s t : Seen) → IsAnswered first w (command.Load good bytes) a v.card s t → IsNetwork v.network (told_loaded a (commanded (command.Load good bytes) false w))
    → StandsFor first v t (acted (line.Load good bytes) false false w)
answered_world first w good bytes a v s t d network =
    let next = commanded (command.Load good bytes) false w in
    subst (λ (x : SmallWorld). StandsFor first v t x) (sym (load_answered w good bytes d.lit))
    (subst (λ (x : Answer). StandsFor first v t (told_loaded x next)) d.reply_is (record { network = network; card = same_card first v.card t next (told_loaded a next) (loaded_same a next) d.stands }))

answered_bench : (first : ℕ) (w : SmallWorld) (good : Bool) (bytes : List ℕ) (a : Answer) (v : World) (s t : Seen) → IsAnswered first w (command.Load good bytes) a v.card s t → HoldsWorld first t (acted (line.Load good bytes) false false w)
answered_bench first w good bytes a v s t d =
    let c = command.Load good bytes in
    let next = commanded c false w in
    subst (λ (x : SmallWorld). HoldsWorld first t x) (sym (load_answered w good bytes d.lit))
    (same_holds first t next (told_loaded (reply w.history c) next) (loaded_same (reply w.history c) next) d.stands.bench)

pub load_handed : (first : ℕ) (w : SmallWorld) (good : Bool) (bytes : List ℕ) (a : Answer) (result : Result (Unit {0}) Halt) (net : Parts) (v : World) (s t : Seen) (before out : List ℕ) → IsNetwork net w → IsAnswered first w (command.Load good bytes) a v.card s t
    → (IsNetwork net (commanded (command.Load good bytes) false w) → Hands (commanded (command.Load good bytes) false w) (command.Load good bytes) a result v.network before out) → Acts first (line.Load good bytes) w result v s t before out
load_handed first w good bytes a (Ok done) net v s t before out n d hands =
    let c = command.Load good bytes in
    let h = hands (around_network net w (commanded c false w) (commanded_around c false w) n) in
    let stepped = stepped_answered first w c a v.card s t d in
    let text : out ≡ before ++ replied w c = h.says ∙ ap (λ (x : Answer). before ++ said c x) d.reply_is in
    turned first (line.Load good bytes) c false w v s t before out (load_gives w good bytes) (lit_loses w false d.lit stepped.due)
    (text ∙ ap (λ (x : List ℕ). before ++ x) (lit_says w false (replied w c) d.lit ∙ load_prints w good bytes false))
    (answered_world first w good bytes a v s t d h.network) (subst (λ (f : Fate). Counted f s t) (lit_fate w false d.lit) d.counts)
load_handed first w good bytes a (Err Limit) net v s t before out n d hands =
    let c = command.Load good bytes in absurd (hands (around_network net w (commanded c false w) (commanded_around c false w) n))
load_handed first w good bytes a (Err Foreign) net v s t before out n d hands =
    let c = command.Load good bytes in hands (around_network net w (commanded c false w) (commanded_around c false w) n)
load_handed first w good bytes a (Err NoMemory) net v s t before out n d hands =
    let c = command.Load good bytes in
    inr (turned_short first (line.Load good bytes) c false w s t (load_gives w good bytes) (lit_loses w false d.lit (stepped_answered first w c a v.card s t d).due)
    (answered_bench first w good bytes a v s t d) (subst (λ (f : Fate). Counted f s t) (lit_fate w false d.lit) d.counts))

-- the step was lost
pub load_unheard : (first : ℕ) (w : SmallWorld) (good : Bool) (bytes : List ℕ) (result : Result (Unit {0}) Halt) (v : World) (s t : Seen) (before out : List ℕ) → IsNetwork v.network w → IsLost first w (command.Load good bytes) v.card s t → Says lost_text before out result
    → Acts first (line.Load good bytes) w result v s t before out
load_unheard first w good bytes (Ok done) v s t before out n d says =
    let c = command.Load good bytes in
    turned first (line.Load good bytes) c true w v s t before out (load_gives w good bytes) (lit_loses w true d.lit (λ due. refl))
    (says ∙ ap (λ (x : List ℕ). before ++ x) (lit_says w true (replied w c) d.lit ∙ load_prints w good bytes true))
    (subst (λ (x : SmallWorld). StandsFor first v t x) (sym (load_lost w good bytes d.lit)) (record { network = around_network v.network w (commanded c true w) (commanded_around c true w) n; card = d.stands }))
    (subst (λ (f : Fate). Counted f s t) (lit_fate w true d.lit) d.counts)
load_unheard first w good bytes (Err Limit) v s t before out n d says = absurd says
load_unheard first w good bytes (Err Foreign) v s t before out n d says = says
load_unheard first w good bytes (Err NoMemory) v s t before out n d says =
    inr (turned_short first (line.Load good bytes) (command.Load good bytes) true w s t (load_gives w good bytes) (lit_loses w true d.lit (λ due. refl))
    (subst (λ (x : SmallWorld). HoldsWorld first t x) (sym (load_lost w good bytes d.lit)) d.stands.bench) (subst (λ (f : Fate). Counted f s t) (lit_fate w true d.lit) d.counts))

-- the card is dark
pub load_off : (first : ℕ) (w : SmallWorld) (good : Bool) (bytes : List ℕ) (result : Result (Unit {0}) Halt) (v : World) (s t : Seen) (before out : List ℕ) → IsNetwork v.network w → IsIdle first w v.card t → Counted (short_fate (is_far w.plan)) s t → Says off before out result
    → Acts first (line.Load good bytes) w result v s t before out
load_off first w good bytes (Ok done) v s t before out n d same says =
    let c = command.Load good bytes in
    turned first (line.Load good bytes) c false w v s t before out (load_gives w good bytes) (dark_loses w d.dark)
    (says ∙ ap (λ (x : List ℕ). before ++ x) (dark_says w false (replied w c) d.dark ∙ load_prints w good bytes false))
    (subst (λ (x : SmallWorld). StandsFor first v t x) (sym (load_dark w good bytes d.dark)) (record { network = n; card = d.stands }))
    (subst (λ (f : Fate). Counted f s t) (dark_fate w d.dark) same)
load_off first w good bytes (Err Limit) v s t before out n d same says = absurd says
load_off first w good bytes (Err Foreign) v s t before out n d same says = says
load_off first w good bytes (Err NoMemory) v s t before out n d same says = inl (record { holds = d.stands.bench; counts = same })

-- memory ran out before the step
pub load_short : (first : ℕ) (w : SmallWorld) (good : Bool) (bytes : List ℕ) (s t : Seen) → IsShort first w s t → IsBefore first w s t ⊎ IsActedShort first (line.Load good bytes) w s t
load_short first w good bytes s t d = inl (record { holds = d.holds; counts = d.counts })
