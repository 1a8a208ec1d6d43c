-- What an assistant does for an input, and what its frames led to.
use Rattle.std.proofs.Common.{◌≡◌, ◌∙◌, ℕ, ◌≤◌, Bool, true, false, cond, List, [], ◌∷◌, ◌++◌, length, map, Option, Some, None, IfSome, Result, Ok, Err, refl, ap, sym, subst, arith, length-append}
use Rattle.std.specs.Prelude.{IfOk, option_map}
use Rattle.iot_bytes.specs.declared.memory.ReadError.{ReadError}
use Rattle.iot_bytes.specs.declared.memory.ReadError.TheVariants as why
use Rattle.sgp_der.specs.Fields.{Gives}
use Rattle.std.proofs.lemmas.Nat.{mod_below}
use Rattle.iot_bytes.specs.Frames.{frame}
use Rattle.iot_bytes.specs.declared.frame.TheConstants.{FRAME_LIMIT}
use Rattle.sgp_der.specs.Element.{element}
use Rattle.sgp_der.proofs.Elements.{length-element, element_few}
use Rattle.sgp_fields.specs.Alone.{number_alone}
use Rattle.sgp_fields.specs.Values.{flag_content}
use Rattle.sgp_fields.proofs.ValueCodecs.{flag_few}
use Rattle.sgp_values.specs.Eids.{IsEid}
use Rattle.sgp_values.specs.Ranges.{IsEimId}
use Rattle.small_card.specs.Lists.{Every}
use Rattle.small_card.specs.Ranges.{IsAnswer, IsCommand, IsRefused, IsResult, IsResultList}
use Rattle.small_card.specs.declared.types.Answer.{Answer}
use Rattle.small_card.specs.declared.types.Answer.TheVariants as answer
use Rattle.small_card.specs.declared.types.PackageResult.{PackageResult}
use Rattle.small_card.specs.declared.types.Refused.{Refused}
use Rattle.es10_codec.specs.Spelling.{command, load_content, IsShort}
use Rattle.es10_codec.proofs.Short.{alone_few}
use Rattle.esipa_codec.specs.Assistant.{IpaEvent, failures, strikes, asked, act_of, post_of, refusal_to, results_to, answer_act, message, poll, probe, push, restart, answered as came}
use Rattle.esipa_codec.specs.Ranges.{IsToEim, IsToIpa}
use Rattle.esipa_codec.specs.Spelling.{to_ipa}
use Rattle.esipa_codec.specs.declared.ends.Act.{Act}
use Rattle.esipa_codec.specs.declared.ends.Act.TheVariants as act_is
use Rattle.esipa_codec.specs.declared.messages.ToIpa.{ToIpa}
use Rattle.esipa_codec.specs.declared.messages.ToIpa.TheVariants as to_ipa_is
use Rattle.ipa_core.specs.Assistants.{IsIpa}
use Rattle.ipa_core.specs.declared.assistant.Ipa.{Ipa}
use Rattle.part_records.specs.Ranges.{AreDeeds, IsIpaInput, IsPost}
use Rattle.part_records.specs.Reading.{ipa_input_at}
use Rattle.part_records.specs.Spelling.{deeds, ipa_input, message_content}
use Rattle.part_records.specs.declared.records.IpaInput.{IpaInput}
use Rattle.part_records.specs.declared.records.IpaInput.TheVariants as ipa_in
use Rattle.run_loop.specs.declared.halt.PartStop.{PartStop}
use Rattle.run_loop.specs.declared.halt.PartStop.TheVariants.{NoMemory}
use Rattle.lone_parts.specs.Folds.{stop_of}
use Rattle.lone_parts.specs.Ipas.{Alone, IsSome, IsFit, event_of, deeds_of, ipa_rule, Did, LedTo, StoppedAt, Replied}
use Rattle.lone_parts.proofs.Folding.{fold_push}

-- an assistant has at most two strikes
pub some_few : (ipa : Ipa) → IsSome ipa → ipa.strikes ≤ 2
unfolding strikes
some_few ipa some = let l = mod_below (failures some.0) 3 (omega arith) in omega (arith, l, some.1.strikes_are)

-- what stands in a message is shorter than the message
package_short : (from : List ℕ) (good : Bool) (bytes : List ℕ) → length (ipa_input (ipa_in.Message from good (to_ipa_is.Package bytes))) ≤ FRAME_LIMIT → length bytes ≤ FRAME_LIMIT
unfolding ipa_input message_content to_ipa
package_short from good bytes le =
    omega (
      arith,
      le,
      length-element 0xa0 (element 0x80 from ++ (element 0x81 (flag_content good) ++ element 0xa2 (element 0x80 bytes))),
      length-append (element 0x80 from) (element 0x81 (flag_content good) ++ element 0xa2 (element 0x80 bytes)),
      length-append (element 0x81 (flag_content good)) (element 0xa2 (element 0x80 bytes)),
      length-element 0xa2 (element 0x80 bytes),
      length-element 0x80 bytes,
    )

load_few : (good : Bool) (bytes : List ℕ) → length bytes ≤ FRAME_LIMIT → length (load_content good bytes) ≤ 262163
unfolding load_content
load_few good bytes le =
    omega (
      arith,
      le,
      length-append (element 0x80 (flag_content good)) (element 0x81 bytes),
      element_few 0x80 (flag_content good),
      flag_few good,
      element_few 0x81 bytes,
    )

message_deeds : (events : List IpaEvent) (from : List ℕ) (good : Bool) (m : ToIpa) → IsToIpa m → length (ipa_input (ipa_in.Message from good m)) ≤ FRAME_LIMIT → AreDeeds (deeds_of (act_of events (message from m good)))
unfolding act_of AreDeeds IsToIpa IsCommand IsShort command
message_deeds events from good (to_ipa_is.Package bytes) h le =
    let few = load_few good bytes (package_short from good bytes le) in
    record { range = h.each; elements = omega (arith, few); short = omega (arith, few, element_few 0xa1 (load_content good bytes)) }
message_deeds events from good to_ipa_is.Nothing h le = tt
message_deeds events from good (to_ipa_is.Ack seq) h le = record { range = h; elements = tt; short = omega (arith, element_few 0xa3 (number_alone seq), alone_few seq h.fits) }

plain_deeds : AreDeeds (deeds_of act_is.Rollback)
unfolding AreDeeds IsCommand IsShort command
plain_deeds = record { range = tt; elements = tt; short = omega (arith, element_few 0x82 []) }

ask_deeds : AreDeeds (deeds_of act_is.Ask)
unfolding AreDeeds IsCommand IsShort command
ask_deeds = record { range = tt; elements = tt; short = omega (arith, element_few 0x84 []) }

rest_deeds : AreDeeds (deeds_of act_is.Rest)
unfolding AreDeeds
rest_deeds = tt

choice_deeds : (test : Bool) → AreDeeds (deeds_of (cond test act_is.Rollback act_is.Rest))
choice_deeds true = plain_deeds
choice_deeds false = rest_deeds

refusal_deeds : (to : Option (List ℕ)) (f : Refused) → IfSome to IsEimId → IsRefused f → AreDeeds (deeds_of (refusal_to to f))
unfolding AreDeeds IsToEim
refusal_deeds None f fits range = tt
refusal_deeds (Some id) f fits range = record { few = omega arith; each = (record { to = fits; message = range }, tt) }

posts_fit : (rs : List PackageResult) → Every IsResult rs → Every IsPost (map post_of rs)
unfolding IsToEim
posts_fit [] h = tt
posts_fit (r ∷ rs) h = (record { to = h.0.eim; message = h.0 }, posts_fit rs h.1)

posts_many : (rs : List PackageResult) → length (map post_of rs) ≡ length rs
posts_many [] = refl
posts_many (r ∷ rs) = omega (arith, posts_many rs)

results_deeds : (rs : List PackageResult) → IsResultList rs → AreDeeds (deeds_of (results_to rs))
unfolding AreDeeds
results_deeds [] h = tt
results_deeds (r ∷ rs) h = record { few = omega (arith, h.few, posts_many (r ∷ rs)); each = posts_fit (r ∷ rs) h.each }

answer_deeds : (events : List IpaEvent) (a : Answer) → IfSome (asked events) IsEimId → IsAnswer a → AreDeeds (deeds_of (answer_act events a))
unfolding IsAnswer
answer_deeds events answer.Personalised fits h = rest_deeds
answer_deeds events (answer.Loaded r) fits h = rest_deeds
answer_deeds events (answer.LoadRefused f) fits h = refusal_deeds (asked events) f fits h
answer_deeds events (answer.RolledBack seq) fits h = rest_deeds
answer_deeds events answer.NotPermitted fits h = rest_deeds
answer_deeds events answer.Removed fits h = rest_deeds
answer_deeds events answer.Absent fits h = rest_deeds
answer_deeds events (answer.Results rs) fits h = results_deeds rs h
answer_deeds events (answer.Eims es) fits h = rest_deeds
answer_deeds events (answer.Associated association) fits h = rest_deeds
answer_deeds events (answer.InitialRefused code) fits h = rest_deeds
answer_deeds events answer.Malformed fits h = rest_deeds
answer_deeds events answer.AlreadyPersonal fits h = rest_deeds

poll_deeds : (events : List IpaEvent) (eid id : List ℕ) → IsEid eid → IsEimId id → AreDeeds (deeds_of (act_of events (event_of eid (ipa_in.Poll id))))
unfolding event_of act_of AreDeeds IsToEim
poll_deeds events eid id card fits = record { few = omega arith; each = (record { to = fits; message = card }, tt) }

-- what an assistant does for an input in range is in range
pub act_fits : (events : List IpaEvent) (eid : List ℕ) (x : IpaInput) → IsEid eid → IfSome (asked events) IsEimId → IsIpaInput x → length (ipa_input x) ≤ FRAME_LIMIT → AreDeeds (deeds_of (act_of events (event_of eid x)))
unfolding event_of act_of IsIpaInput
act_fits events eid (ipa_in.Message from good m) card fits range le = message_deeds events from good m range.1 le
act_fits events eid (ipa_in.Probe true) card fits range le = rest_deeds
act_fits events eid (ipa_in.Probe false) card fits range le = choice_deeds _
act_fits events eid ipa_in.Restart card fits range le = rest_deeds
act_fits events eid ipa_in.Push card fits range le = ask_deeds
act_fits events eid (ipa_in.Answered a) card fits range le = answer_deeds events a fits range
act_fits events eid (ipa_in.Poll id) card fits range le = poll_deeds events eid id card range

asked_by_answer : (events : List IpaEvent) (a : Answer) → IfSome (asked events) IsEimId → IfSome (asked (came a ∷ events)) IsEimId
unfolding asked
asked_by_answer events answer.Personalised fits = fits
asked_by_answer events (answer.Loaded r) fits = tt
asked_by_answer events (answer.LoadRefused f) fits = tt
asked_by_answer events (answer.RolledBack seq) fits = fits
asked_by_answer events answer.NotPermitted fits = fits
asked_by_answer events answer.Removed fits = fits
asked_by_answer events answer.Absent fits = fits
asked_by_answer events (answer.Results rs) fits = fits
asked_by_answer events (answer.Eims es) fits = fits
asked_by_answer events (answer.Associated association) fits = fits
asked_by_answer events (answer.InitialRefused code) fits = fits
asked_by_answer events answer.Malformed fits = fits
asked_by_answer events answer.AlreadyPersonal fits = fits

asked_by_message : (events : List IpaEvent) (from : List ℕ) (m : ToIpa) (good : Bool) → IsEimId from → IfSome (asked events) IsEimId → IfSome (asked (message from m good ∷ events)) IsEimId
unfolding asked
asked_by_message events from (to_ipa_is.Package bytes) good id fits = id
asked_by_message events from to_ipa_is.Nothing good id fits = fits
asked_by_message events from (to_ipa_is.Ack seq) good id fits = fits

-- whom it asks is in range
asked_by : (events : List IpaEvent) (eid : List ℕ) (x : IpaInput) → IfSome (asked events) IsEimId → IsIpaInput x → IfSome (asked (event_of eid x ∷ events)) IsEimId
unfolding event_of asked IsIpaInput
asked_by events eid (ipa_in.Message from good m) fits range = asked_by_message events from m good range.0 fits
asked_by events eid (ipa_in.Probe passed) fits range = fits
asked_by events eid ipa_in.Restart fits range = tt
asked_by events eid ipa_in.Push fits range = fits
asked_by events eid (ipa_in.Answered a) fits range = asked_by_answer events a fits
asked_by events eid (ipa_in.Poll id) fits range = fits

asked_fits : (ipa : Ipa) (fit : IsFit ipa) → IfSome (asked fit.some.0) IsEimId
asked_fits ipa fit = subst (λ (o : Option (List ℕ)). IfSome o IsEimId) fit.some.1.asked_is fit.asked

-- an assistant after an input in range
pub stays_fit : (ipa ipa' : Ipa) (eid : List ℕ) (x : IpaInput) (a : Act) → IsFit ipa → IsIpaInput x → ((events : List IpaEvent) → IsIpa ipa events → Did events (event_of eid x) ipa' a) → IsFit ipa'
stays_fit ipa ipa' eid x a fit range did =
    let d = did fit.some.0 fit.some.1 in
    record {
      some = (event_of eid x ∷ fit.some.0, d.stands);
      asked = subst (λ (o : Option (List ℕ)). IfSome o IsEimId) (sym d.stands.asked_is) (asked_by fit.some.0 eid x (asked_fits ipa fit) range);
    }

pub did_fits : (ipa ipa' : Ipa) (eid : List ℕ) (x : IpaInput) (a : Act) → IsFit ipa → IsEid eid → IsIpaInput x → length (ipa_input x) ≤ FRAME_LIMIT → ((events : List IpaEvent) → IsIpa ipa events → Did events (event_of eid x) ipa' a) → AreDeeds (deeds_of a)
did_fits ipa ipa' eid x a fit card range le did =
    let d = did fit.some.0 fit.some.1 in
    subst (λ (act : Act). AreDeeds (deeds_of act)) (sym d.act_is) (act_fits fit.some.0 eid x card (asked_fits ipa fit) range le)

-- what a frame was answered with
pub replied : (eid : List ℕ) (events : List IpaEvent) (f : List ℕ) (x : IpaInput) (ipa : Ipa) (a : Act) → ipa_input_at f ≡ Some x → Did events (event_of eid x) ipa a → (s : List IpaEvent) × (ipa_rule eid events f ≡ Some (s, deeds (deeds_of a))) × IsIpa ipa s
unfolding ipa_rule
replied eid events f x ipa a read did =
    (event_of eid x ∷ events, rw read (ap (λ (act : Act). Some (event_of eid x ∷ events, deeds (deeds_of act))) (sym did.act_is)), did.stands)

-- why a frame that wasn't read has no answer
pub unread : (eid : List ℕ) (events : List IpaEvent) (f : List ℕ) (ipa : Ipa) (error : ReadError) (stop : PartStop) → Gives {X = IpaInput} (Err error) (ipa_input_at f) → stop ≡ stop_of error → Replied eid events f ipa (Err stop)
unfolding ipa_rule
unread eid events f ipa why.Malformed stop none is = subst (λ (s : PartStop). Replied eid events f ipa (Err s)) (sym is) (ap (option_map (λ (x : IpaInput). (event_of eid x ∷ events, deeds (deeds_of (act_of events (event_of eid x)))))) none)
unread eid events f ipa why.NoMemory stop none is = subst (λ (s : PartStop). Replied eid events f ipa (Err s)) (sym is) tt

-- one more frame was answered
pub answered : (first now now' : Alone) (f : List ℕ) (out : List ℕ) → now'.eid ≡ now.eid → ((events : List IpaEvent) → IsIpa now.ipa events → (s : List IpaEvent) × (ipa_rule now.eid events f ≡ Some (s, out)) × IsIpa now'.ipa s) → (fs : List (List ℕ)) (text : List ℕ) → LedTo first now fs text
    → LedTo first now' (fs ++ f ∷ []) (text ++ frame out)
answered first now now' f out same did fs text led = (
  same ∙ led.0,
  λ events stands.
      let was = led.1 events stands in
      let (s, step, after) = did was.answered.state was.stands in
      let here : ipa_rule first.eid was.answered.state f ≡ Some (s, out) = ap (λ (eid : List ℕ). ipa_rule eid was.answered.state f) (sym led.0) ∙ step in
      record {
        answered = record { state = s; folds = fold_push (ipa_rule first.eid) events fs text was.answered.state f s out was.answered.folds here };
        stands = after;
      },
)

-- a frame has no answer
pub stopped : (first now : Alone) (f : List ℕ) (stop : PartStop) (ipa : Ipa) → ((events : List IpaEvent) → IsIpa now.ipa events → Replied now.eid events f ipa (Err stop)) → (fs : List (List ℕ)) (text : List ℕ) → LedTo first now fs text → StoppedAt first fs text f stop
stopped first now f stop ipa did fs text led = λ events stands.
    let was = led.1 events stands in
    record { folded = was.answered; reason = subst (λ (eid : List ℕ). Replied eid was.answered.state f ipa (Err stop)) led.0 (did was.answered.state was.stands) }

pub did_message : (events : List IpaEvent) (eid from : List ℕ) (good : Bool) (m : ToIpa) (ipa : Ipa) (a : Act) → a ≡ act_of events (message from m good) → IsIpa ipa (message from m good ∷ events) → Did events (event_of eid (ipa_in.Message from good m)) ipa a
unfolding event_of
did_message events eid from good m ipa a is stands = record { act_is = is; stands = stands }

pub did_probe : (events : List IpaEvent) (eid : List ℕ) (passed : Bool) (ipa : Ipa) (a : Act) → a ≡ act_of events (probe passed) → IsIpa ipa (probe passed ∷ events) → Did events (event_of eid (ipa_in.Probe passed)) ipa a
unfolding event_of
did_probe events eid passed ipa a is stands = record { act_is = is; stands = stands }

pub did_restart : (events : List IpaEvent) (eid : List ℕ) (ipa : Ipa) (a : Act) → Did events restart ipa a → Did events (event_of eid ipa_in.Restart) ipa a
unfolding event_of
did_restart events eid ipa a did = did

pub rested : (events : List IpaEvent) (ipa : Ipa) → IsIpa ipa (restart ∷ events) → Did events restart ipa act_is.Rest
unfolding act_of
rested events ipa stands = record { act_is = refl; stands = stands }

pub did_push : (events : List IpaEvent) (eid : List ℕ) (ipa : Ipa) (a : Act) → a ≡ act_of events push → IsIpa ipa (push ∷ events) → Did events (event_of eid ipa_in.Push) ipa a
unfolding event_of
did_push events eid ipa a is stands = record { act_is = is; stands = stands }

pub did_answered : (events : List IpaEvent) (eid : List ℕ) (x : Answer) (ipa : Ipa) (r : Result Act PartStop) → IfOk r (λ a. Did events (came x) ipa a) → IfOk r (λ a. Did events (event_of eid (ipa_in.Answered x)) ipa a)
unfolding event_of
did_answered events eid x ipa (Ok a) did = did
did_answered events eid x ipa (Err stop) did = tt

pub did_poll : (events : List IpaEvent) (eid id : List ℕ) (ipa : Ipa) (r : Result Act PartStop) → IfOk r (λ a. Did events (poll id eid) ipa a) → IfOk r (λ a. Did events (event_of eid (ipa_in.Poll id)) ipa a)
unfolding event_of
did_poll events eid id ipa (Ok a) did = did
did_poll events eid id ipa (Err stop) did = tt
