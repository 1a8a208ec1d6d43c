-- Every form of a result, every message and every command is in its range.
use Rattle.std.proofs.Common.{◌≡◌, ℕ, ◌≤◌, Bool, true, false, List, [], ◌∷◌, length, sym, subst, arith, Option, None, Some}
use Rattle.std.specs.Prelude.{◌==◌, ◌%◌, IfSome}
use Rattle.std.proofs.lemmas.Bool.{cond_both}
use Rattle.small_card.specs.Lists.{Every}
use Rattle.small_card.specs.Cards.{FullCard}
use Rattle.small_card.specs.Histories.{History, full_of, with_unit}
use Rattle.small_card.specs.Legal.{IsLegal, IsLegalFrom}
use Rattle.small_card.specs.Ranges.{IsNumber, IsResult, IsCommand}
use Rattle.small_card.specs.Units.{CardUnit, initial, load, rollback, remove, has_seq, with_mark}
use Rattle.small_card.specs.declared.types.Armed.{Armed}
use Rattle.small_card.specs.declared.types.Command.{Command}
use Rattle.small_card.specs.declared.types.Package.{Package}
use Rattle.small_card.specs.declared.types.PackageResult.{PackageResult}
use Rattle.small_card.proofs.ListLemmas.{every_mono, every_append, every_map}
use Rattle.small_card.proofs.Validity.{legal_valid}
use Rattle.package_codec.proofs.Packages.{signed_few}
use Rattle.package_codec.proofs.Replying.{result_fits}
use Rattle.esipa_codec.specs.Assistant.{push, message, probe, act_of, failures}
use Rattle.esipa_codec.specs.Eims.{EimState}
use Rattle.esipa_codec.specs.Ranges.{IsToEim, IsToIpa}
use Rattle.esipa_codec.specs.declared.ends.Act.{Act}
use Rattle.esipa_codec.specs.declared.ends.Act.TheVariants as act
use Rattle.esipa_codec.specs.declared.messages.ToEim.{ToEim}
use Rattle.esipa_codec.specs.declared.messages.ToEim.TheVariants as up
use Rattle.esipa_codec.specs.declared.messages.ToIpa.{ToIpa}
use Rattle.esipa_codec.specs.declared.messages.ToIpa.TheVariants as down
use Rattle.iot_schedule.specs.Ranges.{IsStep}
use Rattle.iot_schedule.specs.declared.types.Line.{Line}
use Rattle.iot_schedule.specs.declared.types.Line.TheVariants as line
use Rattle.small_world.specs.Acting.{command_of}
use Rattle.small_world.specs.Forms.{remarked, renewed, newest_from, forms_from, forms}
use Rattle.small_world.specs.Has.{Has}
use Rattle.small_world.specs.Network.{picked}
use Rattle.small_world.specs.Runs.{given, brought, ordered_by}
use Rattle.small_world.specs.Worlds.{SmallWorld}
use Rattle.small_world.specs.declared.reply.Reply.{Reply}
use Rattle.small_world.proofs.Commanding.{spelled_octets}
use Rattle.small_world.proofs.HasLemmas.{has_every}
use Rattle.small_world.proofs.Invariant.{IsSent, IsSpelled, IsAnswered, IsTrue, KeepsWorld}
use Rattle.small_world.proofs.Keeping.{IsAcked, Truthful}
use Rattle.small_world.proofs.Running.{picked_every}

marked_fits : (o : Option Armed) (next : ℕ) (r : PackageResult) → IsNumber next → IsResult r → IsResult (remarked o next r)
unfolding remarked
marked_fits None next r n h = h
marked_fits (Some a) next r n h = cond_both (has_seq a.seq r) (with_mark next r) r IsResult
    (λ _. record { seq = n; eim = h.eim; association = h.association; counter = h.counter; many = h.many; items = h.items }) (λ _. h)

next_number : (h : History) → IsLegal h → IsNumber (full_of h).card.results.next
next_number h l = (legal_valid h l).card.results.next

more_legal : (h : History) (u : CardUnit) → IsLegal (with_unit h u) → IsLegal h
unfolding IsLegal IsLegalFrom with_unit
more_legal h u l = l.0

renewed_fits : (h : History) (u : CardUnit) (ns : List PackageResult) → IsLegal (with_unit h u) → Every IsResult ns → Every IsResult (renewed (full_of h) u ns)
unfolding renewed full_of
renewed_fits h (initial i a k) ns l f = f
renewed_fits h (load p) ns l f = (result_fits h p l, f)
renewed_fits h rollback ns l f = every_map IsResult IsResult (remarked (full_of h).armed (full_of h).card.results.next) (λ r k. marked_fits (full_of h).armed (full_of h).card.results.next r (next_number h (more_legal h rollback l)) k) ns f
renewed_fits h (remove seq) ns l f = f

all_fit : (start : FullCard) (us : List CardUnit) → IsLegalFrom start us → Every IsResult (newest_from start us) × Every IsResult (forms_from start us)
unfolding IsLegalFrom IsLegal newest_from forms_from with_unit
all_fit start [] l = (tt, tt)
all_fit start (u ∷ us) l =
    let older = all_fit start us l.0 in
    let new : Every IsResult (renewed (full_of (record { start = start; units = us })) u (newest_from start us)) = renewed_fits (record { start = start; units = us }) u (newest_from start us) l older.0 in
    (new, every_append IsResult (renewed (full_of (record { start = start; units = us })) u (newest_from start us)) (forms_from start us) new older.1)

-- each form is in range
forms_fit : (h : History) → IsLegal h → Every IsResult (forms h)
unfolding IsLegal forms
forms_fit h l = (all_fit h.start h.units l).1

form_fits : (h : History) (r : PackageResult) → IsLegal h → Has r (forms h) → IsResult r
form_fits h r l i = has_every IsResult (forms h) r (forms_fit h l) i

sent_fits : (h : History) (m : ToEim) → IsLegal h → IsSent (forms h) m → IsToEim m
unfolding IsToEim
sent_fits h (up.Poll eid) l s = s
sent_fits h (up.Result r) l s = form_fits h r l s
sent_fits h (up.Refused f) l s = s

acked_fits : (h : History) (es : List EimState) (seq : ℕ) → IsLegal h → Truthful (forms h) es → IsAcked es seq → IsNumber seq
acked_fits h es seq l t a =
    let true_form = has_every (λ r. Has r (forms h) × (r.eim ≡ a.at.id)) a.at.received a.form (has_every (IsTrue (forms h)) es a.at t a.there) a.received in
    subst IsNumber a.number (form_fits h a.form l true_form.0).seq

spelled_few : (bytes : List ℕ) → IsSpelled bytes → length bytes ≤ 3485
spelled_few bytes p = subst (λ (b : List ℕ). length b ≤ 3485) (sym p.2) (signed_few p.0 p.1)

answered_fits : (h : History) (es : List EimState) (m : ToIpa) → IsLegal h → Truthful (forms h) es → IsAnswered es m → IsToIpa m
unfolding IsToIpa
answered_fits h es (down.Package bytes) l t a = record { few = let k = spelled_few bytes a in omega (arith, k); each = spelled_octets bytes a }
answered_fits h es down.Nothing l t a = tt
answered_fits h es (down.Ack seq) l t a = acked_fits h es seq l t a

pub ups_fit : (w : SmallWorld) → KeepsWorld w → Every (λ p. IsToEim p.message) w.to_eims
ups_fit w k = every_mono (λ p. IsSent (forms w.history) p.message) (λ p. IsToEim p.message) (λ p s. sent_fits w.history p.message k.legal s) w.to_eims k.sent

pub downs_fit : (w : SmallWorld) → KeepsWorld w → Every (λ r. IsToIpa r.message) w.to_ipa
downs_fit w k = every_mono (λ r. IsAnswered w.eims r.message) (λ r. IsToIpa r.message) (λ r s. answered_fits w.history w.eims r.message k.legal k.truthful s) w.to_ipa k.acked

-- what is given is in range
abbrev pub Fits : Option Command → Type 0
Fits o = IfSome o IsCommand

message_fits : (w : SmallWorld) (from : List ℕ) (m : ToIpa) (good : Bool) → KeepsWorld w → IsAnswered w.eims m → Fits (ordered_by w (message from m good))
unfolding act_of command_of IsCommand
message_fits w from (down.Package bytes) good k a = spelled_octets bytes a
message_fits w from down.Nothing good k a = tt
message_fits w from (down.Ack seq) good k a = acked_fits w.history w.eims seq k.legal k.truthful a

brought_fits : (w : SmallWorld) (good : Bool) (o : Option Reply) → KeepsWorld w → IfSome o (λ r. IsAnswered w.eims r.message) → Fits (brought w good o)
brought_fits w good None k a = tt
brought_fits w good (Some r) k a = message_fits w r.from r.message good k a

probe_fits : (w : SmallWorld) (passed : Bool) → Fits (ordered_by w (probe passed))
unfolding act_of command_of IsCommand
probe_fits w true = tt
probe_fits w false = cond_both {A = Act} (failures (probe false ∷ w.assistant) % 3 == 0) act.Rollback act.Rest (λ a. Fits (command_of a)) (λ _. tt) (λ _. tt)

push_fits : (w : SmallWorld) → Fits (ordered_by w push)
unfolding act_of command_of IsCommand
push_fits w = tt

given_fits : (w : SmallWorld) (l : Line) → KeepsWorld w → IsStep l → Fits (given w l)
unfolding given IsStep IsCommand
given_fits w (line.Eim id) k i = tt
given_fits w (line.Initial id address key) k i = i
given_fits w (line.Bind id association last) k i = tt
given_fits w (line.Order id body) k i = tt
given_fits w (line.Skip id) k i = tt
given_fits w (line.Poll id) k i = tt
given_fits w (line.Up pick) k i = tt
given_fits w (line.Down pick good) k i = brought_fits w good (picked pick w.to_ipa) k (picked_every (λ r. IsAnswered w.eims r.message) pick w.to_ipa k.acked)
given_fits w (line.Load good bytes) k i = i
given_fits w line.Push k i = push_fits w
given_fits w (line.Probe passed) k i = probe_fits w passed
given_fits w line.Rollback k i = tt
given_fits w line.Restart k i = tt
given_fits w (line.Cut calls tear) k i = tt
given_fits w line.Boot k i = tt
given_fits w line.Show k i = tt
given_fits w (line.Kept id) k i = tt
given_fits w (line.Detach at) k i = tt
given_fits w line.Modems k i = tt

some_fits : (o : Option Command) (c : Command) → Fits o → o ≡ Some c → IsCommand c
some_fits None c f e = absurd (cc)
some_fits (Some d) c f e = let is : d ≡ c = cc in subst IsCommand is f

pub command_fits : (w : SmallWorld) (l : Line) (c : Command) → KeepsWorld w → IsStep l → given w l ≡ Some c → IsCommand c
command_fits w l c k i e = some_fits (given w l) c (given_fits w l k i) e
