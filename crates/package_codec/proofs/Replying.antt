-- After a command in range a legal history is legal, and the reply is in range.
use Rattle.std.proofs.Common.{◌≡◌, ◌≢◌, ℕ, ◌≤◌, Bool, true, false, not, ◌&&◌, cond, List, [], ◌∷◌, ◌++◌, length, map, arith, refl, ◌∙◌, ap, sym, subst, Option, None, Some, Result, Ok, Err}
use Rattle.std.specs.Prelude.{nat_le, ◌==◌, IsSome}
use Rattle.std.specs.Option.{option_or}
use Rattle.std.specs.List.{AllPass}
use Rattle.std.proofs.lemmas.Bool.{cond_both, eqb-true, eqb-false, not-false, and_parts}
use Rattle.sgp_values.specs.Ranges.{is_octet}
use Rattle.small_card.specs.Cards.{EimList}
use Rattle.small_card.specs.Checks.{refused, has_association, has_room, eim_refusal, later_refusal, value_refusal}
use Rattle.small_card.specs.Histories.{History, card_of, former_of, full_of, kept, with_unit}
use Rattle.small_card.specs.Laws.{IsCounted}
use Rattle.small_card.specs.Legal.{IsLegal, May}
use Rattle.small_card.specs.Lists.{same, Every}
use Rattle.small_card.specs.EimOperations.{is_eim, has_eim, line_of, is_empty_list, last_association, do_eco}
use Rattle.small_card.specs.Packages.{result_of, with_result}
use Rattle.small_card.specs.Ranges.{IsNumber, IsSigned, IsPackage, IsResult, IsRefused, IsCommand, IsAnswer, IsResultList, IsEimList, IsItem, IsEco, greatest_counter}
use Rattle.small_card.specs.Steps.{step_full}
use Rattle.small_card.specs.Units.{CardUnit, initial, load, rollback, remove, is_pending, after_unit, loaded}
use Rattle.small_card.specs.Valid.{IsValid, IsValidCard, IsEntry, IsPending}
use Rattle.small_card.specs.declared.types.Answer.TheVariants as answer
use Rattle.small_card.specs.declared.types.Armed.{Armed}
use Rattle.small_card.specs.declared.types.Command.{Command}
use Rattle.small_card.specs.declared.types.Command.TheVariants as command
use Rattle.small_card.specs.declared.types.Eco.TheVariants as eco
use Rattle.small_card.specs.declared.types.EimEntry.{EimEntry}
use Rattle.small_card.specs.declared.types.Package.{Package}
use Rattle.small_card.specs.declared.types.Refused.{Refused}
use Rattle.small_card.specs.declared.types.Signed.{Signed}
use Rattle.small_card.proofs.Counting.{legal_counted}
use Rattle.small_card.proofs.ListLemmas.{same_yes, any_every, every_both, every_mono, every_last}
use Rattle.small_card.proofs.Looking.{full_more}
use Rattle.small_card.proofs.EimLemmas.{eco_keeps}
use Rattle.small_card.proofs.Validity.{legal_valid, more_legal}
use Rattle.package_codec.specs.Checks.{verdict_refusal, package_refusal, unless_refused, check_read, check, most_octets}
use Rattle.package_codec.specs.Reading.{signed_at}
use Rattle.package_codec.specs.Replies.{load_reply, rollback_reply, initial_reply, reply, unit_of_load, unit_of_rollback, unit_of_initial, unit_of, grown, after, after_all}

-- what is read from octets is in range
abbrev pub ReadsInRange : Type 0
ReadsInRange = (bytes : List ℕ) (s : Signed) → AllPass is_octet bytes → signed_at bytes ≡ Some s → IsSigned s

-- neither of two refusals came
pub neither : (o p : Option Refused) → option_or o p ≡ None → (o ≡ None) × (p ≡ None)
neither (Some r) p e = absurd cc
neither None p e = (refl, e)

both_none : (o p : Option Refused) → o ≡ None → p ≡ None → option_or o p ≡ None
both_none (Some r) p e f = absurd cc
both_none None p e f = f

accepted_none : (o : Option Refused) (p q : Package) → unless_refused o p ≡ Ok q → (o ≡ None) × (p ≡ q)
accepted_none (Some r) p q e = absurd cc
accepted_none None p q e = (refl, cc)

refused_some : (o : Option Refused) (p : Package) (r : Refused) → unless_refused o p ≡ Err r → o ≡ Some r
refused_some (Some s) p r e = let same : s ≡ r = cc in ap (λ (x : Refused). Some x) same
refused_some None p r e = absurd cc

-- a package that passed the checks was read, and passes the checks on values
pub record IsAccepted (h : History) (bytes : List ℕ) (p : Package) : Type 0 where
  pub read : (s : Signed) × (signed_at bytes ≡ Some s) × (s.«package» ≡ p)
  pub values : value_refusal h p ≡ None

pub read_accepted : (h : History) (good : Bool) (o : Option Signed) (p : Package) → check_read h good o ≡ Ok p → ((s : Signed) × (o ≡ Some s) × (s.«package» ≡ p)) × (value_refusal h p ≡ None)
unfolding check_read package_refusal value_refusal
read_accepted h good None p e = absurd cc
read_accepted h good (Some s) p e =
    let a = accepted_none (package_refusal h good s.«package») s.«package» p e in
    let first = neither (eim_refusal (card_of h) s.«package») _ a.0 in
    let later = neither (verdict_refusal good) (later_refusal (card_of h) (kept h s.«package».eim s.«package».association) s.«package») first.1 in
    let values : value_refusal h s.«package» ≡ None = both_none (eim_refusal (card_of h) s.«package») _ first.0 later.1 in
    ((s, refl, a.1), subst (λ (q : Package). value_refusal h q ≡ None) a.1 values)

pub accepted : (h : History) (good : Bool) (bytes : List ℕ) (p : Package) → check h good bytes ≡ Ok p → IsAccepted h bytes p
unfolding check
accepted h good bytes p e =
    elim (nat_le (length bytes) most_octets) as (λ b. cond b (check_read h good (signed_at bytes)) (Err (refused 8)) ≡ Ok p → IsAccepted h bytes p) [
      | true ↦ λ f. let a = read_accepted h good (signed_at bytes) p f in record { read = a.0; values = a.1 }
      | false ↦ λ f. absurd cc
    ] e

pub may_load : (h : History) (p : Package) → IsPackage p → value_refusal h p ≡ None → May h (load p)
unfolding May
may_load h p range checks = record { range = range; checks = checks }

pub may_roll : (h : History) (armed : Armed) → former_of h ≡ Some armed → May h rollback
unfolding May
may_roll h armed e = subst IsSome (sym e) refl

pub may_remove : (h : History) (seq : ℕ) → is_pending seq (card_of h).results.pending ≡ true → May h (remove seq)
unfolding May
may_remove h seq e = e

empty_list : (es : List EimEntry) → is_empty_list es ≡ true → es ≡ []
unfolding is_empty_list
empty_list [] e = refl
empty_list (e ∷ es) f = absurd cc

valid_card : (h : History) → IsValid (full_of h) → IsValidCard (card_of h)
unfolding full_of
valid_card h v = v.card

next_eims : (h : History) → IsValid (full_of h) → IsNumber (card_of h).eims.next
next_eims h v = (valid_card h v).eims.next

load_may : ReadsInRange → (h : History) (bytes : List ℕ) (r : Result Package Refused) (u : CardUnit) → AllPass is_octet bytes → ((p : Package) → r ≡ Ok p → IsAccepted h bytes p) → unit_of_load r ≡ Some u → May h u
load_may range h bytes (Ok p) u octets ok e =
    let a = ok p refl in
    let s = range bytes a.read.0 octets a.read.1 in
    let same : load p ≡ u = cc in
    subst (May h) same (may_load h p (subst IsPackage a.read.2 s.«package») a.values)
load_may range h bytes (Err r) u octets ok e = absurd cc

roll_may : (h : History) (o : Option Armed) (u : CardUnit) → former_of h ≡ o → unit_of_rollback o ≡ Some u → May h u
roll_may h (Some armed) u e f = let same : rollback ≡ u = cc in subst (May h) same (may_roll h armed e)
roll_may h None u e f = absurd cc

remove_may : (h : History) (seq : ℕ) (u : CardUnit) → unit_of h (command.Remove seq) ≡ Some u → May h u
unfolding unit_of
remove_may h seq u e =
    elim (is_pending seq (card_of h).results.pending) as (λ b. is_pending seq (card_of h).results.pending ≡ b → cond {A = Option CardUnit} b (Some (remove seq)) None ≡ Some u → May h u) [
      | true ↦ λ there f. let same : remove seq ≡ u = cc in subst (May h) same (may_remove h seq there)
      | false ↦ λ none f. absurd cc
    ] refl e

may_initial : (h : History) (id address key : List ℕ) → IsCommand (command.Initial id address key) → IsLegal h → is_empty_list (card_of h).eims.entries ≡ true → ((card_of h).eims.next == last_association) ≡ false → May h (initial id address key)
unfolding IsCommand May last_association
may_initial h id address key range l empty left = record {
  id = range.0;
  address = range.1;
  key = range.2;
  empty = empty_list (card_of h).eims.entries empty;
  next =
      let valid : IsValid (full_of h) = legal_valid h l in
      let ne : (card_of h).eims.next ≢ 4294967295 = eqb-false _ _ left in
      omega (arith, ne, (next_eims h valid).fits);
}

initial_may : (h : History) (id address key : List ℕ) (u : CardUnit) → IsCommand (command.Initial id address key) → IsLegal h → unit_of_initial (card_of h).eims id address key ≡ Some u → May h u
initial_may h id address key u range l e =
    let ms = (card_of h).eims in
    let one : Option CardUnit = Some (initial id address key) in
    elim (is_empty_list ms.entries) as (λ b. is_empty_list ms.entries ≡ b → cond {A = Option CardUnit} (not b) None (cond {A = Option CardUnit} (ms.next == last_association) None one) ≡ Some u → May h u) [
      | true ↦ λ empty f. elim (ms.next == last_association) as (λ b. (ms.next == last_association) ≡ b → cond {A = Option CardUnit} b None one ≡ Some u → May h u) [
        | true ↦ λ spent g. absurd cc
        | false ↦ λ left g. let same : initial id address key ≡ u = cc in subst (May h) same (may_initial h id address key range l empty left)
      ] refl f
      | false ↦ λ some f. absurd cc
    ] refl e

-- the unit of a command may happen
pub unit_may : ReadsInRange → (h : History) (c : Command) (u : CardUnit) → IsLegal h → IsCommand c → unit_of h c ≡ Some u → May h u
unfolding unit_of IsCommand
unit_may range h (command.Personalise eid profiles) u l fits e = absurd cc
unit_may range h (command.Load good bytes) u l fits e = load_may range h bytes (check h good bytes) u fits (accepted h good bytes) e
unit_may range h command.Rollback u l fits e = roll_may h (former_of h) u refl e
unit_may range h (command.Remove seq) u l fits e = remove_may h seq u e
unit_may range h command.Results u l fits e = absurd cc
unit_may range h command.Eims u l fits e = absurd cc
unit_may range h (command.Initial id address key) u l fits e = initial_may h id address key u fits l e

grown_legal : (h : History) (o : Option CardUnit) → IsLegal h → ((u : CardUnit) → o ≡ Some u → May h u) → IsLegal (grown o h)
grown_legal h None l may = l
grown_legal h (Some u) l may = more_legal h u l (may u refl)

pub after_legal : ReadsInRange → (h : History) (c : Command) → IsLegal h → IsCommand c → IsLegal (after h c)
unfolding after
after_legal range h c l fits = grown_legal h (unit_of h c) l (λ u e. unit_may range h c u l fits e)

pub after_all_legal : ReadsInRange → (h : History) (cs : List Command) → IsLegal h → Every IsCommand cs → IsLegal (after_all h cs)
unfolding after_all
after_all_legal range h [] l fits = l
after_all_legal range h (c ∷ cs) l fits = after_all_legal range (after h c) cs (after_legal range h c l fits.0) fits.1

-- each entry has the kept counter and is in range
entries_counted : (h : History) → IsLegal h → Every (λ x. (x.counter ≡ kept h x.id x.association) × IsEntry (card_of h).eims.next x) (card_of h).eims.entries
unfolding IsCounted
entries_counted h l =
    every_both (λ x. x.counter ≡ kept h x.id x.association) (IsEntry (card_of h).eims.next) (λ x. (x.counter ≡ kept h x.id x.association) × IsEntry (card_of h).eims.next x) (λ x c e. (c, e))
    (card_of h).eims.entries (legal_counted h l) (valid_card h (legal_valid h l)).eims.each

-- the entry that is found has the kept counter
kept_fits : (h : History) (id : List ℕ) (association : ℕ) → IsLegal h → has_association id association (card_of h).eims.entries ≡ true → kept h id association ≤ greatest_counter
unfolding has_association
kept_fits h id association l e =
    let ms = (card_of h).eims in
    let v = (valid_card h (legal_valid h l)).eims in
    let found = any_every (λ x. is_eim id x && x.association == association) (λ x. (x.counter ≡ kept h x.id x.association) × IsEntry ms.next x) ms.entries e (entries_counted h l) in
    let both = and_parts (is_eim id found.0) (found.0.association == association) found.1 in
    let k : kept h id association ≡ kept h found.0.id found.0.association = ap (λ i. kept h i association) (same_yes id found.0.id both.0) ∙ ap (λ n. kept h found.0.id n) (sym (eqb-true found.0.association association both.1)) in
    omega (arith, k, found.2.0, found.2.1.counter)

plain_fits : (code : ℕ) → 1 ≤ code → code ≤ 8 → IsRefused (refused code)
unfolding refused
plain_fits code some few = record { some = some; few = few; kept = omega arith; received = omega arith; others = λ ne. (refl, refl) }

plain_is : (code : ℕ) (r : Refused) → 1 ≤ code → code ≤ 8 → Some (refused code) ≡ Some r → IsRefused r
plain_is code r some few e = let same : refused code ≡ r = cc in subst IsRefused same (plain_fits code some few)

replay_is : (kept received : ℕ) (r : Refused) → kept ≤ greatest_counter → received ≤ greatest_counter → Some (record { code = 6; kept = kept; received = received }) ≡ Some r → IsRefused r
replay_is k n r kept_fits received_fits e =
    let replay : Refused = record { code = 6; kept = k; received = n } in
    let same : replay ≡ r = cc in
    subst IsRefused same (record { some = omega arith; few = omega arith; kept = kept_fits; received = received_fits; others = λ ne. absurd (ne refl) })

eim_is : (h : History) (p : Package) (r : Refused) → eim_refusal (card_of h) p ≡ Some r → IsRefused r
unfolding eim_refusal
eim_is h p r e =
    elim (has_eim p.eim (card_of h).eims.entries) as (λ b. cond {A = Option Refused} b None (Some (refused 2)) ≡ Some r → IsRefused r) [
      | true ↦ λ f. absurd cc
      | false ↦ λ f. plain_is 2 r (omega arith) (omega arith) f
    ] e

verdict_is : (good : Bool) (r : Refused) → verdict_refusal good ≡ Some r → IsRefused r
verdict_is true r e = absurd cc
verdict_is false r e = plain_is 3 r (omega arith) (omega arith) e

-- the first of some refusals
first_is : (b : Bool) (r s : Refused) (o : Option Refused) → cond b (Some r) o ≡ Some s → (b ≡ true → Some r ≡ Some s → IsRefused s) → (b ≡ false → o ≡ Some s → IsRefused s) → IsRefused s
first_is true r s o e one other = one refl e
first_is false r s o e one other = other refl e

later_is : (h : History) (p : Package) (r : Refused) → IsLegal h → IsPackage p → later_refusal (card_of h) (kept h p.eim p.association) p ≡ Some r → IsRefused r
unfolding later_refusal
later_is h p r l range e =
    let n : ℕ = kept h p.eim p.association in
    let known : Bool = has_association p.eim p.association (card_of h).eims.entries in
    let replay : Refused = record { code = 6; kept = n; received = p.counter } in
    let room : Option Refused = cond (not (has_room (card_of h).results)) (Some (refused 7)) None in
    let counted : Option Refused = cond (nat_le p.counter n) (Some replay) room in
    let named : Option Refused = cond (not known) (Some (refused 5)) counted in
    first_is (not (same p.eid (card_of h).eid)) (refused 4) r named e (λ _ f. plain_is 4 r (omega arith) (omega arith) f) (λ _ (e1 : named ≡ Some r).
    first_is (not known) (refused 5) r counted e1 (λ _ f. plain_is 5 r (omega arith) (omega arith) f) (λ there (e2 : counted ≡ Some r).
    first_is (nat_le p.counter n) replay r room e2 (λ _ f. replay_is n p.counter r (kept_fits h p.eim p.association l (not-false known there)) range.counter.fits f) (λ _ (e3 : room ≡ Some r).
    first_is (not (has_room (card_of h).results)) (refused 7) r None e3 (λ _ f. plain_is 7 r (omega arith) (omega arith) f) (λ _ (f : None ≡ Some r). absurd cc))))

either_is : (o p : Option Refused) (r : Refused) → option_or o p ≡ Some r → (o ≡ Some r → IsRefused r) → (p ≡ Some r → IsRefused r) → IsRefused r
either_is (Some s) p r e one other = one e
either_is None p r e one other = other e

read_refused : (h : History) (good : Bool) (o : Option Signed) (r : Refused) → IsLegal h → ((s : Signed) → o ≡ Some s → IsSigned s) → check_read h good o ≡ Err r → IsRefused r
unfolding check_read package_refusal
read_refused h good None r l range e = let same : refused 1 ≡ r = cc in subst IsRefused same (plain_fits 1 (omega arith) (omega arith))
read_refused h good (Some s) r l range e =
    either_is (eim_refusal (card_of h) s.«package») _ r (refused_some _ s.«package» r e) (eim_is h s.«package» r) (λ e1.
    either_is (verdict_refusal good) _ r e1 (verdict_is good r) (later_is h s.«package» r l (range s refl).«package»))

check_refused : ReadsInRange → (h : History) (good : Bool) (bytes : List ℕ) (r : Refused) → AllPass is_octet bytes → IsLegal h → check h good bytes ≡ Err r → IsRefused r
unfolding check
check_refused range h good bytes r octets l e =
    elim (nat_le (length bytes) most_octets) as (λ b. cond b (check_read h good (signed_at bytes)) (Err (refused 8)) ≡ Err r → IsRefused r) [
      | true ↦ λ f. read_refused h good (signed_at bytes) r l (λ s is. range bytes s octets is) f
      | false ↦ λ f. let same : refused 8 ≡ r = cc in subst IsRefused same (plain_fits 8 (omega arith) (omega arith))
    ] e

-- a load adds its result
pub loaded_pending : (h : History) (p : Package) → (card_of (with_unit h (load p))).results.pending ≡ (card_of h).results.pending ++ result_of (card_of h) p ∷ []
unfolding full_of step_full after_unit loaded with_result
loaded_pending h p = ap (λ f. f.card.results.pending) (full_more h (load p))

pub result_fits : (h : History) (p : Package) → IsLegal (with_unit h (load p)) → IsResult (result_of (card_of h) p)
result_fits h p l =
    let v = (valid_card (with_unit h (load p)) (legal_valid (with_unit h (load p)) l)).results in
    let n = (card_of (with_unit h (load p))).results.next in
    (every_last (IsPending n) (card_of h).results.pending (result_of (card_of h) p) (subst (Every (IsPending n)) (loaded_pending h p) v.each)).result

load_fits : ReadsInRange → (h : History) (good : Bool) (bytes : List ℕ) (r : Result Package Refused) → check h good bytes ≡ r → AllPass is_octet bytes → IsLegal h → IsAnswer (load_reply h r)
unfolding IsAnswer
load_fits range h good bytes (Ok p) e octets l =
    let may : May h (load p) = load_may range h bytes (Ok p) (load p) octets (λ q f. let same : p ≡ q = cc in subst (IsAccepted h bytes) same (accepted h good bytes p e)) refl in
    result_fits h p (more_legal h (load p) l may)
load_fits range h good bytes (Err r) e octets l = check_refused range h good bytes r octets l e

roll_fits : (h : History) (o : Option Armed) → IsLegal h → IsAnswer (rollback_reply h o)
unfolding IsAnswer
roll_fits h (Some armed) l = (valid_card h (legal_valid h l)).results.next
roll_fits h None l = tt

results_fit : (h : History) → IsLegal h → IsResultList (card_of h).results.pending
results_fit h l =
    let v = (valid_card h (legal_valid h l)).results in
    record {
      few = v.few;
      each = every_mono (IsPending (card_of h).results.next) IsResult (λ r p. p.result) (card_of h).results.pending v.each;
      rising = v.rising;
    }

eims_fit : (h : History) → IsLegal h → IsEimList (map line_of (card_of h).eims.entries)
unfolding IsItem IsEco do_eco
eims_fit h l = (eco_keeps (card_of h).eims eco.List tt (valid_card h (legal_valid h l)).eims).item

initial_fits : (ms : EimList) → IsNumber ms.next → IsAnswer (initial_reply ms)
unfolding IsAnswer
initial_fits ms fits =
    cond_both (not (is_empty_list ms.entries)) (answer.InitialRefused 1) (cond (ms.next == last_association) (answer.InitialRefused 2) (answer.Associated ms.next)) IsAnswer
    (λ _. record { some = omega arith; few = omega arith })
    (λ _. cond_both (ms.next == last_association) (answer.InitialRefused 2) (answer.Associated ms.next) IsAnswer
    (λ _. record { some = omega arith; few = omega arith }) (λ _. fits))

remove_fits : (b : Bool) → IsAnswer (cond b answer.Removed answer.Absent)
unfolding IsAnswer
remove_fits true = tt
remove_fits false = tt

pub reply_fits : ReadsInRange → (h : History) (c : Command) → IsLegal h → IsCommand c → IsAnswer (reply h c)
unfolding reply IsCommand IsAnswer
reply_fits range h (command.Personalise eid profiles) l fits = tt
reply_fits range h (command.Load good bytes) l fits = load_fits range h good bytes (check h good bytes) refl fits l
reply_fits range h command.Rollback l fits = roll_fits h (former_of h) l
reply_fits range h (command.Remove seq) l fits = remove_fits (is_pending seq (card_of h).results.pending)
reply_fits range h command.Results l fits = results_fit h l
reply_fits range h command.Eims l fits = eims_fit h l
reply_fits range h (command.Initial id address key) l fits = initial_fits (card_of h).eims (next_eims h (legal_valid h l))
