-- What lines print that don't reach the card, and what they make of the network.
use Rattle.std.proofs.Common.{◌≡◌, ◌≢◌, ℕ, ◌-◌, Bool, true, false, cond, List, ◌++◌, length, Option, Some, None, Result, Ok, Err, refl, sym, ◌∙◌, ap, subst, arith}
use Rattle.std.specs.Prelude.{IfOk, option_map, codes, not}
use Rattle.std.proofs.lemmas.Bool.{false≢true}
use Rattle.std.proofs.lemmas.List.{length-append}
use Rattle.esipa_codec.specs.Assistant.{act_of, poll}
use Rattle.esipa_codec.specs.Eims.{EimState, bind_end, message_end, order_end, skip_end}
use Rattle.esipa_codec.specs.Records.{records_of}
use Rattle.esipa_codec.specs.declared.ends.BindEnd.{BindEnd}
use Rattle.esipa_codec.specs.declared.ends.MessageEnd.{MessageEnd}
use Rattle.esipa_codec.specs.declared.ends.OrderEnd.{OrderEnd}
use Rattle.esipa_codec.specs.declared.ends.OrderEnd.TheVariants as booked
use Rattle.esipa_codec.specs.declared.messages.Post.{Post}
use Rattle.eim_queue.specs.Queues.{IfOrdered}
use Rattle.iot_schedule.specs.declared.types.Line.{Line}
use Rattle.iot_schedule.specs.declared.types.Line.TheVariants as line
use Rattle.iot_schedule.specs.declared.types.Pick.{Pick}
use Rattle.small_card.specs.declared.types.Body.{Body}
use Rattle.small_card.specs.declared.types.PackageResult.{PackageResult}
use Rattle.small_world.specs.Acting.{posts_of}
use Rattle.small_world.specs.Lines.{acted}
use Rattle.small_world.specs.Network.{eim_of, is_known, joined, picked}
use Rattle.small_world.specs.Printing.{printed, of_eim, up_text}
use Rattle.small_world.specs.Texts.{no_such, answer_text, bind_text, order_text, sent_text, skip_text}
use Rattle.small_world.specs.Worlds.{SmallWorld, eid_of}
use Rattle.trace_text.specs.Texts.{kept_text}
use Rattle.world_network.proofs.Standing.{polled_known}
use Rattle.world_network.specs.Networks.{Parts, IsNetwork, heard_of, said_to, up_end}
use Rattle.std.proofs.lemmas.Option.{same_Some}
use Rattle.iot_world.specs.Asking.{Says}
use Rattle.iot_world.specs.Quiet.{QuietEnd}
use Rattle.iot_world.specs.declared.ends.Halt.{Halt}
use Rattle.iot_world.specs.declared.ends.Halt.TheVariants.{Limit, Foreign, NoMemory as NoRoom}

-- a word was the line's text
pub worded : (l : Line) (w : SmallWorld) (word : List ℕ) (r : Result (Unit {0}) Halt) (now : Parts) (before out : List ℕ) → Says word before out r → word ≡ printed w l false → IsNetwork now (acted l false false w) → QuietEnd l w r now before out
worded l w word (Ok done) now before out says text network = record { says = says ∙ ap (λ (t : List ℕ). before ++ t) text; network = network }
worded l w word (Err Limit) now before out says text network = absurd says
worded l w word (Err Foreign) now before out says text network = says
worded l w word (Err NoRoom) now before out says text network = tt

-- an option that holds something
abbrev HasOne : {X : Type 0} → Option X → Type 0
HasOne None = ⊥
HasOne (Some x) = Unit {0}

-- the eIM's answer as text, and that it isn't there
there : {X : Type 0} (text : X → List ℕ) (of : EimState → X) (o : Option EimState) (x : X) → Some x ≡ option_map of o → text x ≡ of_eim (λ e. text (of e)) o
unfolding of_eim
there {X} text of (Some e) x is = ap (λ (y : X). text y) (same_Some x (of e) is)
there {X} text of None x is = absurd (subst (λ (o : Option X). HasOne o) is tt)

absent : {X : Type 0} (text : X → List ℕ) (of : EimState → X) (o : Option EimState) → None ≡ option_map of o → no_such ≡ of_eim (λ e. text (of e)) o
unfolding of_eim
absent {X} text of None is = refl
absent {X} text of (Some e) is = absurd (subst (λ (o : Option X). HasOne o) (sym is) tt)

pub restarted : (w : SmallWorld) → codes "restarted" ≡ printed w line.Restart false
unfolding printed
restarted w = refl

-- an eIM joins, or is there
new_text : (known new : Bool) → new ≡ not known → new ≡ true → codes "eim ok" ≡ cond known (codes "eim exists") (codes "eim ok")
new_text true new is holds = absurd (false≢true (sym is ∙ holds))
new_text false new is holds = refl

old_text : (known new : Bool) → new ≡ not known → new ≡ false → codes "eim exists" ≡ cond known (codes "eim exists") (codes "eim ok")
old_text true new is fails = refl
old_text false new is fails = absurd (false≢true (sym fails ∙ is))

pub joins : (w : SmallWorld) (id : List ℕ) (new : Bool) → new ≡ not (is_known id w.eims) → new ≡ true → codes "eim ok" ≡ printed w (line.Eim id) false
unfolding printed
joins w id new is holds = new_text (is_known id w.eims) new is holds

pub exists : (w : SmallWorld) (id : List ℕ) (new : Bool) → new ≡ not (is_known id w.eims) → new ≡ false → codes "eim exists" ≡ printed w (line.Eim id) false
unfolding printed
exists w id new is fails = old_text (is_known id w.eims) new is fails

pub joined_network : (n : Parts) (w : SmallWorld) (id : List ℕ) → IsNetwork n (joined id w) → IsNetwork n (acted (line.Eim id) false false w)
unfolding acted
joined_network n w id network = network

-- an eIM is bound
pub bound_text : (w : SmallWorld) (id : List ℕ) (association last : ℕ) (end : BindEnd) → Some end ≡ option_map (bind_end association last) (eim_of id w.eims) → bind_text end ≡ printed w (line.Bind id association last) false
unfolding printed
bound_text w id association last end is = there bind_text (bind_end association last) (eim_of id w.eims) end is

pub unbound_text : (w : SmallWorld) (id : List ℕ) (association last : ℕ) → None ≡ option_map (bind_end association last) (eim_of id w.eims) → no_such ≡ printed w (line.Bind id association last) false
unfolding printed
unbound_text w id association last is = absent bind_text (bind_end association last) (eim_of id w.eims) is

-- an order is given up
pub skipped_text : (w : SmallWorld) (id : List ℕ) (end : Option ℕ) → Some end ≡ option_map skip_end (eim_of id w.eims) → skip_text end ≡ printed w (line.Skip id) false
unfolding printed
skipped_text w id end is = there skip_text skip_end (eim_of id w.eims) end is

pub unskipped_text : (w : SmallWorld) (id : List ℕ) → None ≡ option_map skip_end (eim_of id w.eims) → no_such ≡ printed w (line.Skip id) false
unfolding printed
unskipped_text w id is = absent skip_text skip_end (eim_of id w.eims) is

-- the records of an eIM
pub records_text : (w : SmallWorld) (id : List ℕ) (records : List PackageResult) → Some records ≡ option_map (λ e. records_of e.received) (eim_of id w.eims) → kept_text records ≡ printed w (line.Kept id) false
unfolding printed
records_text w id records is = there kept_text (λ e. records_of e.received) (eim_of id w.eims) records is

pub unkept_text : (w : SmallWorld) (id : List ℕ) → None ≡ option_map (λ e. records_of e.received) (eim_of id w.eims) → no_such ≡ printed w (line.Kept id) false
unfolding printed
unkept_text w id is = absent kept_text (λ e. records_of e.received) (eim_of id w.eims) is

pub kept_network : (n : Parts) (w : SmallWorld) (id : List ℕ) → IsNetwork n w → IsNetwork n (acted (line.Kept id) false false w)
unfolding acted
kept_network n w id network = network

-- an eIM gets an order
ordered_text : (w : SmallWorld) (id : List ℕ) (body : Body) (end : OrderEnd) → Some end ≡ option_map order_end (eim_of id w.eims) → order_text end ≡ printed w (line.Order id body) false
unfolding printed
ordered_text w id body end is = there order_text order_end (eim_of id w.eims) end is

pub unordered_text : (w : SmallWorld) (id : List ℕ) (body : Body) → None ≡ option_map order_end (eim_of id w.eims) → no_such ≡ printed w (line.Order id body) false
unfolding printed
unordered_text w id body is = absent order_text order_end (eim_of id w.eims) is

pub ordered : (w : SmallWorld) (id : List ℕ) (body : Body) (end : OrderEnd) (r : Result (Unit {0}) Halt) (now : Parts) (before out : List ℕ) → Says (order_text end) before out r → IfOk r (λ done. end ≢ booked.NoMemory) → IfOrdered end (Some end ≡ option_map order_end (eim_of id w.eims)) → IfOrdered end (IsNetwork now (acted (line.Order id body) false false w))
    → QuietEnd (line.Order id body) w r now before out
ordered w id body (booked.Ordered n) r now before out says some is network = worded (line.Order id body) w (order_text (booked.Ordered n)) r now before out says (ordered_text w id body (booked.Ordered n) is) network
ordered w id body booked.Unbound r now before out says some is network = worded (line.Order id body) w (order_text booked.Unbound) r now before out says (ordered_text w id body booked.Unbound is) network
ordered w id body booked.CounterSpent r now before out says some is network = worded (line.Order id body) w (order_text booked.CounterSpent) r now before out says (ordered_text w id body booked.CounterSpent is) network
ordered w id body booked.NoMemory (Ok done) now before out says some is network = absurd (some refl)
ordered w id body booked.NoMemory (Err Limit) now before out says some is network = absurd says
ordered w id body booked.NoMemory (Err Foreign) now before out says some is network = says
ordered w id body booked.NoMemory (Err NoRoom) now before out says some is network = tt

-- the messages of a poll
abbrev pub polls : SmallWorld → List ℕ → List Post
polls w id = posts_of (act_of w.assistant (poll id (eid_of w)))

pub polls_count : (w : SmallWorld) (id : List ℕ) (known : Bool) (first after count : ℕ) → known ≡ is_known id w.eims → known ≡ true → first ≡ length w.to_eims → after ≡ length (acted (line.Poll id) false false w).to_eims → count ≡ after - first → length (polls w id) ≡ count
unfolding acted
polls_count w id known first after count is holds at next counted =
    let all : after ≡ length (w.to_eims ++ polls w id) = next ∙ ap (λ (v : SmallWorld). length v.to_eims) (polled_known w id (sym is ∙ holds)) in
    omega (arith, all, length-append w.to_eims (polls w id), at, counted)

pub polled_text : (w : SmallWorld) (id : List ℕ) (known : Bool) (first : ℕ) → known ≡ is_known id w.eims → known ≡ true → first ≡ length w.to_eims → sent_text first (polls w id) ≡ printed w (line.Poll id) false
unfolding printed
polled_text w id known first is holds at =
    ap (λ (n : ℕ). sent_text n (polls w id)) at ∙ ap (λ (b : Bool). cond b (sent_text (length w.to_eims) (polls w id)) no_such) (sym holds ∙ is)

pub unpolled_text : (w : SmallWorld) (id : List ℕ) (known : Bool) → known ≡ is_known id w.eims → known ≡ false → no_such ≡ printed w (line.Poll id) false
unfolding printed
unpolled_text w id known is fails = ap (λ (b : Bool). cond b (sent_text (length w.to_eims) (polls w id)) no_such) (sym fails ∙ is)

-- a message reaches its eIM
said_text : (w : SmallWorld) (p : Post) (o : Option EimState) (end : MessageEnd) (place : ℕ) → Some end ≡ said_to p o → place ≡ length w.to_ipa → answer_text place end ≡ of_eim (λ e. answer_text (length w.to_ipa) (message_end p.message e)) o
unfolding said_to of_eim
said_text w p None end place is at = absurd (subst (λ (o : Option MessageEnd). HasOne o) is tt)
said_text w p (Some e) end place is at = ap (λ (x : MessageEnd). answer_text place x) (same_Some end (message_end p.message e) is) ∙ ap (λ (n : ℕ). answer_text n (message_end p.message e)) at

unsaid_text : (w : SmallWorld) (p : Post) (o : Option EimState) → None ≡ said_to p o → no_such ≡ of_eim (λ e. answer_text (length w.to_ipa) (message_end p.message e)) o
unfolding said_to of_eim
unsaid_text w p None is = refl
unsaid_text w p (Some e) is = absurd (subst (λ (o : Option MessageEnd). HasOne o) (sym is) tt)

heard_text : (w : SmallWorld) (o : Option Post) (end : MessageEnd) (place : ℕ) → Some end ≡ heard_of o w.eims → place ≡ length w.to_ipa → answer_text place end ≡ up_text w o
unfolding heard_of up_text
heard_text w None end place is at = absurd (subst (λ (o : Option MessageEnd). HasOne o) is tt)
heard_text w (Some p) end place is at = said_text w p (eim_of p.to w.eims) end place is at

unheard_text : (w : SmallWorld) (o : Option Post) → None ≡ heard_of o w.eims → no_such ≡ up_text w o
unfolding heard_of up_text
unheard_text w None is = refl
unheard_text w (Some p) is = unsaid_text w p (eim_of p.to w.eims) is

pub gone_text : (w : SmallWorld) (pick : Pick) (end : MessageEnd) (place : ℕ) → Some end ≡ up_end w pick → place ≡ length w.to_ipa → answer_text place end ≡ printed w (line.Up pick) false
unfolding printed
gone_text w pick end place is at = heard_text w (picked pick w.to_eims) end place is at

pub ungone_text : (w : SmallWorld) (pick : Pick) → None ≡ up_end w pick → no_such ≡ printed w (line.Up pick) false
unfolding printed
ungone_text w pick is = unheard_text w (picked pick w.to_eims) is
