-- What a card's parts tell of the histories that it stands for, and each kind of step.
use Rattle.std.proofs.Common.{◌≡◌, ◌≢◌, ℕ, ◌≤◌, ◌<◌, Bool, true, false, not, cond, List, [], ◌∷◌, map, arith, refl, ◌∙◌, ap, sym, subst, Option, None, Some, Ok, Err}
use Rattle.std.specs.Prelude.{◌==◌, ◌↔◌, MatchOption}
use Rattle.small_card.specs.Cards.{SmallCard, FullCard, EimList, Results}
use Rattle.small_card.specs.Checks.{value_refusal}
use Rattle.small_card.specs.Histories.{History, card_of, former_of, full_of, kept, with_unit}
use Rattle.small_card.specs.Legal.{IsLegal, May}
use Rattle.small_card.specs.EimOperations.{has_eim, line_of, is_empty_list, last_association, do_eco}
use Rattle.small_card.specs.Packages.{Executed, execute, executed, result_of, with_result, armed_with, armed_by}
use Rattle.small_card.specs.Ranges.{IsCommand, IsAnswer}
use Rattle.small_card.specs.Steps.{step_full, armed_after}
use Rattle.small_card.specs.Units.{CardUnit, initial, load, rollback, remove, is_pending, after_unit, loaded, rolled_back, without_result, marked}
use Rattle.small_card.specs.Valid.{IsValid}
use Rattle.small_card.specs.declared.types.Answer.{Answer}
use Rattle.small_card.specs.declared.types.Answer.TheVariants as answer
use Rattle.small_card.specs.declared.types.Armed.{Armed}
use Rattle.small_card.specs.declared.types.Command.{Command}
use Rattle.small_card.specs.declared.types.Command.TheVariants as command
use Rattle.small_card.specs.declared.types.Package.{Package}
use Rattle.small_card.specs.declared.types.EimEntry.{EimEntry}
use Rattle.small_card.specs.declared.types.Profile.{Profile}
use Rattle.small_card.specs.declared.types.Refused.{Refused}
use Rattle.small_card.specs.declared.types.Signed.{Signed}
use Rattle.small_card.specs.declared.types.Eco.TheVariants as eco
use Rattle.small_card.specs.Profiles.{enabled_alone}
use Rattle.small_card.specs.Histories.{unless_ended}
use Rattle.eim_table.specs.Entries.{MayCount}
use Rattle.result_store.specs.Stores.{numbered}
use Rattle.counter_check.specs.Loads.{Request, IsCardOf, Passes}
use Rattle.package_codec.proofs.Replying.{read_accepted, reply_fits}
use Rattle.package_codec.proofs.InRange.{reads_in_range}
use Rattle.std.proofs.lemmas.Bool.{cond_both, true≢false, eqb-true, eq-eqb, ne_eqb, false_from_ne_true}
use Rattle.sgp_values.specs.Ranges.{IsEimId, IsAddress, IsKey}
use Rattle.small_card.proofs.Looking.{full_more}
use Rattle.small_card.proofs.Validity.{legal_valid, full_start, more_legal}
use Rattle.package_codec.specs.Checks.{check, check_read, package_refusal, unless_refused}
use Rattle.package_codec.specs.Replies.{reply, unit_of, unit_of_load, unit_of_rollback, grown, after, load_reply, rollback_reply}
use Rattle.small_card.specs.EimOperations.{with_counter, added}
use Rattle.small_card.specs.declared.types.Psmo.{Psmo}
use Rattle.small_card.specs.declared.types.Eco.{Eco}
use Rattle.small_card.specs.declared.types.Item.{Item}
use Rattle.small_card.specs.declared.types.Item.TheVariants as item
use Rattle.small_card.specs.declared.types.Body.{Body}
use Rattle.small_card.specs.declared.types.Body.TheVariants.{Psmos, Ecos}
use Rattle.home_codec.specs.FullCards.{full_card}
use Rattle.card_steps.specs.Steps.{IsAnswered, LeavesCard, ChangesCard, IsTurn, left_by, answer_of}
use Rattle.card_steps.specs.declared.turns.Turn.{Turn}
use Rattle.card_steps.specs.declared.turns.Turn.TheVariants.{Same, Changed}

-- the parts of the card of a history
pub card_is : (h : History) (f : FullCard) → full_of h ≡ f → card_of h ≡ f.card
unfolding full_of
card_is h f e = ap (λ (x : FullCard). x.card) e

pub former_is : (h : History) (f : FullCard) → full_of h ≡ f → former_of h ≡ f.armed
unfolding full_of
former_is h f e = ap (λ (x : FullCard). x.armed) e

pub alone_full : (f : FullCard) → full_of (record { start = f; units = [] }) ≡ f
alone_full f = full_start f

-- the history after a command without a unit, and with one
pub after_none : (h : History) (c : Command) → unit_of h c ≡ None → after h c ≡ h
unfolding after
after_none h c e = ap (λ o. grown o h) e

pub after_one : (h : History) (c : Command) (u : CardUnit) → unit_of h c ≡ Some u → after h c ≡ with_unit h u
unfolding after
after_one h c u e = ap (λ o. grown o h) e

-- a command that is no unit
pub stays : (h : History) (c : Command) (f : FullCard) (a : Answer) → IsLegal h → full_of h ≡ f → unit_of h c ≡ None → a ≡ reply h c → LeavesCard h c f a
stays h c f a l is none replied =
    let same = after_none h c none in
    record {
      answered = record {
        reply_is = replied;
        card_is = sym is ∙ ap full_of (sym same);
        legal = subst IsLegal (sym same) l;
      };
      none = none;
    }

-- a command that is one unit
pub moves : (h : History) (c : Command) (u : CardUnit) (f g : FullCard) (a : Answer) → IsLegal h → full_of h ≡ f → May h u → unit_of h c ≡ Some u → a ≡ reply h c → g ≡ step_full f u → ChangesCard h c f g a
moves h c u f g a l is may one replied left =
    let same = after_one h c u one in
    record {
      answered = record {
        reply_is = replied;
        card_is = left ∙ ap (λ x. step_full x u) (sym is) ∙ sym (full_more h u) ∙ ap full_of (sym same);
        legal = subst IsLegal (sym same) (more_legal h u l may);
      };
      unit = u;
      one = one;
      step = left;
    }

-- the card stands for a legal history, and is valid
pub answered_valid : (h : History) (c : Command) (g : FullCard) (a : Answer) → IsAnswered h c g a → IsValid g
answered_valid h c g a is = subst IsValid (sym is.card_is) (legal_valid (after h c) is.legal)

pub refused_reply : (h : History) (good : Bool) (bytes : List ℕ) (why : Refused) → check h good bytes ≡ Err why → (answer.LoadRefused why ≡ reply h (command.Load good bytes)) × (unit_of h (command.Load good bytes) ≡ None)
unfolding reply unit_of
refused_reply h good bytes why e = (ap (load_reply h) (sym e), ap unit_of_load e)

pub accepted_reply : (h : History) (good : Bool) (bytes : List ℕ) (p : Package) → check h good bytes ≡ Ok p → (answer.Loaded (result_of (card_of h) p) ≡ reply h (command.Load good bytes)) × (unit_of h (command.Load good bytes) ≡ Some (load p))
unfolding reply unit_of
accepted_reply h good bytes p e = (ap (load_reply h) (sym e), ap unit_of_load e)

some_signed : (s t : Signed) → Some s ≡ Some t → s ≡ t
some_signed s t e = cc

-- a package that passes the checks behind its grammar
pub request_accepted : (h : History) (good : Bool) (p q : Package) → unless_refused (package_refusal h good p) p ≡ Ok q → (p ≡ q) × (value_refusal h q ≡ None)
unfolding check_read
request_accepted h good p q e =
    let a = read_accepted h good (Some (record { «package» = p; signature = [] })) q e in
    let s = a.0.0 in
    let read : record { «package» = p; signature = [] } ≡ s = some_signed _ s a.0.1 in
    (ap (λ (x : Signed). x.«package») read ∙ a.0.2, a.1)

-- its eIM's entry has a lower counter
pub may_count : (request : Request) (eid : List ℕ) (eims : EimList) (store : Results) → Passes request eid eims store → MayCount request.load.eim request.load.counter eims.entries
may_count request eid eims store p = subst (λ (o : Option EimEntry). MatchOption o ⊥ (λ e. e.counter < request.load.counter)) (sym p.found) p.fits.above

-- the card after a package whose operations left this
after_package : FullCard → Package → Executed → FullCard
after_package f p x = record {
  card = record {
    eid = f.card.eid;
    profiles = x.profiles;
    eims = x.eims;
    results = with_result (numbered f.card.results.next p.eim p.association p.counter x.items) f.card.results;
  };
  armed = armed_with f.card.results.next x.armed;
}

made : (f : FullCard) (p : Package) (x : Executed) → executed f.card p ≡ x → step_full f (load p) ≡ after_package f p x
unfolding step_full after_unit loaded armed_after armed_by result_of after_package
made f p x e = ap (after_package f p) e

-- the operations were executed on copies, once the counter was kept
pub executed_on : (c : SmallCard) (p : Package) (copy ms : EimList) (x : Executed) → copy ≡ c.eims → ms ≡ record copy { entries = with_counter p.eim p.counter copy.entries } → execute c.profiles ms p.body ≡ x → executed c p ≡ x
unfolding executed
executed_on c p copy ms x same counted done =
    let all : ms ≡ record c.eims { entries = with_counter p.eim p.counter c.eims.entries } = counted ∙ ap (λ (ns : EimList). record ns { entries = with_counter p.eim p.counter ns.entries }) same in
    ap (λ (ns : EimList). execute c.profiles ns p.body) (sym all) ∙ done

with_numbered : Package → Executed → Results → Results
with_numbered p x rs = with_result (numbered rs.next p.eim p.association p.counter x.items) rs

parts : (f : FullCard) (p : Package) (x : Executed) (copy rs : Results) (seq : ℕ) (armed : Option Armed) → copy ≡ f.card.results → seq ≡ copy.next → rs ≡ with_result (numbered copy.next p.eim p.association p.counter x.items) copy → armed ≡ armed_with seq x.armed
    → record { card = record { eid = f.card.eid; profiles = x.profiles; eims = x.eims; results = rs }; armed = armed } ≡ after_package f p x
unfolding after_package with_numbered
parts f p x copy rs seq armed same number kept is =
    let results : rs ≡ with_numbered p x f.card.results = kept ∙ ap (with_numbered p x) same in
    let now : armed ≡ armed_with f.card.results.next x.armed = is ∙ ap (λ n. armed_with n x.armed) (number ∙ ap (λ (r : Results). r.next) same) in
    cc (results, now)

pub took : (f : FullCard) (p : Package) (x : Executed) (copy rs : Results) (seq : ℕ) (armed : Option Armed) → executed f.card p ≡ x → copy ≡ f.card.results → seq ≡ copy.next → rs ≡ with_result (numbered copy.next p.eim p.association p.counter x.items) copy → armed ≡ armed_with seq x.armed
    → record { card = record { eid = f.card.eid; profiles = x.profiles; eims = x.eims; results = rs }; armed = armed } ≡ step_full f (load p)
took f p x copy rs seq armed e same number kept is = parts f p x copy rs seq armed same number kept is ∙ sym (made f p x e)

-- the result that is answered
pub result_is : (c : SmallCard) (p : Package) (x : Executed) (copy : Results) (seq : ℕ) (items : List Item) → executed c p ≡ x → copy ≡ c.results → seq ≡ copy.next → items ≡ x.items → numbered seq p.eim p.association p.counter items ≡ result_of c p
unfolding result_of
result_is c p x copy seq items e same number shown =
    let is : seq ≡ c.results.next = number ∙ ap (λ (rs : Results). rs.next) same in
    let all : items ≡ (executed c p).items = shown ∙ ap (λ (y : Executed). y.items) (sym e) in
    ap (λ n. numbered n p.eim p.association p.counter items) is ∙ ap (numbered c.results.next p.eim p.association p.counter) all

pub psmos_executed : (ps before table : List Profile) (ms : EimList) (body : Body) (ops : List Psmo) (items : List Item) (armed : Option (List ℕ)) → body ≡ Psmos ops → before ≡ ps
    → ((ns : EimList) → execute before ns (Psmos ops) ≡ record { profiles = table; eims = ns; items = items; armed = armed })
    → execute ps ms body ≡ record { profiles = table; eims = ms; items = items; armed = armed }
psmos_executed ps before table ms body ops items armed is same done = ap (execute ps ms) is ∙ ap (λ (qs : List Profile). execute qs ms (Psmos ops)) (sym same) ∙ done ms

pub ecos_executed : (ps before : List Profile) (ms eims : EimList) (body : Body) (ops : List Eco) (items : List Item) → body ≡ Ecos ops → before ≡ ps
    → ((qs : List Profile) → execute qs ms (Ecos ops) ≡ record { profiles = qs; eims = eims; items = items; armed = None })
    → execute ps ms body ≡ record { profiles = before; eims = eims; items = items; armed = None }
ecos_executed ps before ms eims body ops items is same done = ap (execute ps ms) is ∙ ap (λ (qs : List Profile). execute qs ms (Ecos ops)) (sym same) ∙ done before

pub roll_reply : (h : History) (armed : Armed) → former_of h ≡ Some armed → (answer.RolledBack (card_of h).results.next ≡ reply h command.Rollback) × (unit_of h command.Rollback ≡ Some rollback)
unfolding reply unit_of
roll_reply h armed e = (ap (rollback_reply h) (sym e), ap unit_of_rollback e)

pub no_roll_reply : (h : History) → former_of h ≡ None → (answer.NotPermitted ≡ reply h command.Rollback) × (unit_of h command.Rollback ≡ None)
unfolding reply unit_of
no_roll_reply h e = (ap (rollback_reply h) (sym e), ap unit_of_rollback e)

rolled_step : (f : FullCard) (armed : Armed) → f.armed ≡ Some armed
    → record { card = record (f.card) { profiles = enabled_alone armed.former f.card.profiles; results = marked armed.seq f.card.results }; armed = None } ≡ step_full f rollback
unfolding step_full after_unit armed_after rolled_back
rolled_step f armed e = ap (λ (o : Option Armed). record { card = rolled_back o f.card; armed = None }) (sym e)

-- the card with other parts
abbrev pub with_parts : FullCard → List Profile → EimList → Results → Option Armed → FullCard
with_parts f ps ms rs armed = record { card = record { eid = f.card.eid; profiles = ps; eims = ms; results = rs }; armed = armed }

same_parts : (f : FullCard) (ps qs : List Profile) (ms ns : EimList) (rs ts : Results) (a b : Option Armed) → ps ≡ qs → ms ≡ ns → rs ≡ ts → a ≡ b → with_parts f ps ms rs a ≡ with_parts f qs ns ts b
same_parts f ps qs ms ns rs ts a b d e g k = cc (d, e, g, k)

pub roll_parts : (f : FullCard) (armed : Armed) (before ps : List Profile) (ms : EimList) (copy rs : Results) → before ≡ f.card.profiles → ms ≡ f.card.eims → copy ≡ f.card.results → ps ≡ enabled_alone armed.former before → rs ≡ marked armed.seq copy → f.armed ≡ Some armed
    → with_parts f ps ms rs None ≡ step_full f rollback
roll_parts f armed before ps ms copy rs p m r a b e =
    same_parts f ps _ ms f.card.eims rs _ None None (a ∙ ap (enabled_alone armed.former) p) m (b ∙ ap (marked armed.seq) r) refl ∙ rolled_step f armed e

pub remove_reply : (h : History) (seq : ℕ) → is_pending seq (card_of h).results.pending ≡ true → (answer.Removed ≡ reply h (command.Remove seq)) × (unit_of h (command.Remove seq) ≡ Some (remove seq))
unfolding reply unit_of
remove_reply h seq e = (ap (λ b. cond b answer.Removed answer.Absent) (sym e), ap (λ b. cond {A = Option CardUnit} b (Some (remove seq)) None) e)

pub absent_reply : (h : History) (seq : ℕ) → is_pending seq (card_of h).results.pending ≡ false → (answer.Absent ≡ reply h (command.Remove seq)) × (unit_of h (command.Remove seq) ≡ None)
unfolding reply unit_of
absent_reply h seq e = (ap (λ b. cond b answer.Removed answer.Absent) (sym e), ap (λ b. cond {A = Option CardUnit} b (Some (remove seq)) None) e)

removed_step : (f : FullCard) (seq : ℕ) → record { card = record (f.card) { results = without_result seq f.card.results }; armed = unless_ended (remove seq ∷ []) f.armed } ≡ step_full f (remove seq)
unfolding step_full after_unit armed_after
removed_step f seq = refl

pub remove_parts : (f : FullCard) (seq : ℕ) (ps : List Profile) (ms : EimList) (copy rs : Results) (armed : Option Armed) → ps ≡ f.card.profiles → ms ≡ f.card.eims → copy ≡ f.card.results → rs ≡ without_result seq copy → armed ≡ unless_ended (remove seq ∷ []) f.armed
    → with_parts f ps ms rs armed ≡ step_full f (remove seq)
remove_parts f seq ps ms copy rs armed p m r a b = same_parts f ps f.card.profiles ms f.card.eims rs _ armed _ p m (a ∙ ap (without_result seq) r) b ∙ removed_step f seq

pub results_reply : (h : History) → (answer.Results (card_of h).results.pending ≡ reply h command.Results) × (unit_of h command.Results ≡ None)
unfolding reply unit_of
results_reply h = (refl, refl)

pub eims_reply : (h : History) → (answer.Eims (map line_of (card_of h).eims.entries) ≡ reply h command.Eims) × (unit_of h command.Eims ≡ None)
unfolding reply unit_of
eims_reply h = (refl, refl)

pub personal_reply : (h : History) (eid : List ℕ) (ps : List Profile) → (answer.AlreadyPersonal ≡ reply h (command.Personalise eid ps)) × (unit_of h (command.Personalise eid ps) ≡ None)
unfolding reply unit_of
personal_reply h eid ps = (refl, refl)

-- the first eIM: the card has one, or no association is left, or it joins
pub eim_there : (h : History) (id address key : List ℕ) → not (is_empty_list (card_of h).eims.entries) ≡ true
    → (answer.InitialRefused 1 ≡ reply h (command.Initial id address key)) × (unit_of h (command.Initial id address key) ≡ None)
unfolding reply unit_of
eim_there h id address key e = (rw e refl, rw e refl)

pub none_left : (h : History) (id address key : List ℕ) → not (is_empty_list (card_of h).eims.entries) ≡ false → (card_of h).eims.next ≡ 4294967295
    → (answer.InitialRefused 2 ≡ reply h (command.Initial id address key)) × (unit_of h (command.Initial id address key) ≡ None)
unfolding reply unit_of last_association
none_left h id address key e last =
    let test = eq-eqb (card_of h).eims.next 4294967295 last in
    (rw (e, test) refl, rw (e, test) refl)

pub joins : (h : History) (id address key : List ℕ) → not (is_empty_list (card_of h).eims.entries) ≡ false → (card_of h).eims.next ≢ 4294967295
    → (answer.Associated (card_of h).eims.next ≡ reply h (command.Initial id address key)) × (unit_of h (command.Initial id address key) ≡ Some (initial id address key))
unfolding reply unit_of last_association
joins h id address key e other =
    let test = ne_eqb (card_of h).eims.next 4294967295 other in
    (rw (e, test) refl, rw (e, test) refl)

empty_list : (es : List EimEntry) → not (is_empty_list es) ≡ false → es ≡ []
unfolding is_empty_list
empty_list [] e = refl
empty_list (x ∷ xs) e = absurd (true≢false e)

next_fits : (h : History) → IsLegal h → (card_of h).eims.next ≤ 4294967295
unfolding full_of
next_fits h l = (legal_valid h l).card.eims.next.fits

pub may_join : (h : History) (id address key : List ℕ) → IsLegal h → IsEimId id → IsAddress address → IsKey key → not (is_empty_list (card_of h).eims.entries) ≡ false → (card_of h).eims.next ≢ 4294967295 → May h (initial id address key)
unfolding May last_association
may_join h id address key l i a k e other = record {
  id = i;
  address = a;
  key = k;
  empty = empty_list (card_of h).eims.entries e;
  next = omega (arith, other, next_fits h l);
}

joined_step : (f : FullCard) (id address key : List ℕ) → record { card = record (f.card) { eims = (do_eco f.card.eims (eco.Add id address key)).0 }; armed = f.armed } ≡ step_full f (initial id address key)
unfolding step_full after_unit armed_after
joined_step f id address key = refl

-- a history whose full card this is shows the card's parts
pub shows : (h : History) (f : FullCard) → IsLegal h → full_of h ≡ f → IsCardOf h f.card.eid f.card.eims f.card.results
shows h f l e = record {
  legal = l;
  eid_is = ap (λ (c : SmallCard). c.eid) (card_is h f e);
  eims_are = ap (λ (c : SmallCard). c.eims) (card_is h f e);
  results_are = ap (λ (c : SmallCard). c.results) (card_is h f e);
}

pub joined_parts : (f : FullCard) (id address key : List ℕ) (ps : List Profile) (copy ms : EimList) (rs : Results) → ps ≡ f.card.profiles → copy ≡ f.card.eims → rs ≡ f.card.results → ms ≡ (do_eco copy (eco.Add id address key)).0
    → with_parts f ps ms rs f.armed ≡ step_full f (initial id address key)
joined_parts f id address key ps copy ms rs p m r e =
    same_parts f ps f.card.profiles ms _ rs f.card.results f.armed f.armed p (e ∙ ap (λ (ns : EimList). (do_eco ns (eco.Add id address key)).0) m) r refl ∙ joined_step f id address key

-- a first eIM, where there is none: it is added, or no association is left
first_added : (id address key : List ℕ) (es : List EimEntry) (next : ℕ) → not (is_empty_list es) ≡ false → (do_eco (record { entries = es; next = next }) (eco.Add id address key)).1 ≡ cond (next == last_association) (item.Add 3 0) (item.Add 0 next)
unfolding do_eco has_eim is_empty_list
first_added id address key [] next e =
    cond_both {A = EimList × Item} (next == last_association) (record { entries = []; next = next }, item.Add 3 0) (added id address key (record { entries = []; next = next }), item.Add 0 next)
    (λ r. r.1 ≡ cond (next == last_association) (item.Add 3 0) (item.Add 0 next)) (λ k. ap (λ b. cond b (item.Add 3 0) (item.Add 0 next)) (sym k)) (λ k. ap (λ b. cond b (item.Add 3 0) (item.Add 0 next)) (sym k))
first_added id address key (x ∷ es) next e = absurd (true≢false e)

-- the item of a refused addition tells that none is left, and that of an addition that one was
pub refused_last : (id address key : List ℕ) (ms : EimList) (code : ℕ) → not (is_empty_list ms.entries) ≡ false → 1 ≤ ms.next → (do_eco ms (eco.Add id address key)).1 ≡ item.Add code 0 → ms.next ≡ 4294967295
unfolding last_association
refused_last id address key ms code e some is =
    let made = sym (first_added id address key ms.entries ms.next e) ∙ is in
    elim (ms.next == 4294967295) as (λ b. (ms.next == 4294967295) ≡ b → cond b (item.Add 3 0) (item.Add 0 ms.next) ≡ item.Add code 0 → ms.next ≡ 4294967295) [
      | true ↦ λ k f. eqb-true ms.next 4294967295 k
      | false ↦ λ k f. let zero_next : ms.next ≡ 0 = cc in absurd (omega (arith, zero_next, some))
    ] refl made

pub added_next : (id address key : List ℕ) (ms : EimList) (n : ℕ) → not (is_empty_list ms.entries) ≡ false → 1 ≤ n → (do_eco ms (eco.Add id address key)).1 ≡ item.Add 0 n → ms.next ≢ 4294967295
unfolding last_association
added_next id address key ms n e some is last =
    let made = sym (first_added id address key ms.entries ms.next e) ∙ is in
    let test : (ms.next == 4294967295) ≡ true = eq-eqb ms.next 4294967295 last in
    let f = rw test at made in
    absurd cc

-- two tests that pass together fail together
pub none_pending : (s b : Bool) → (s ≡ true) ↔ (b ≡ true) → s ≡ false → b ≡ false
none_pending s b both e = false_from_ne_true b (λ k. true≢false (sym (both.1 k) ∙ e))

pub next_some : (h : History) → IsLegal h → 1 ≤ (card_of h).eims.next
unfolding full_of
next_some h l = (legal_valid h l).card.eims.next.some

-- after a turn the card is valid
pub turned_valid : (h : History) (c : Command) (f : FullCard) (end : Turn) → IsValid f → IsTurn h c f end → IsValid (left_by f end)
turned_valid h c f (Same a) v is = v
turned_valid h c f (Changed card a) v is = answered_valid h c (full_card card) a is.answered

-- the card that is left stands for the history after the command
pub turned_answered : (h : History) (c : Command) (f : FullCard) (end : Turn) → IsTurn h c f end → IsAnswered h c (left_by f end) (answer_of end)
turned_answered h c f (Same a) is = is.answered
turned_answered h c f (Changed card a) is = is.answered

-- an answer is in range
pub turned_range : (h : History) (c : Command) (f : FullCard) (end : Turn) → IsLegal h → IsCommand c → IsTurn h c f end → IsAnswer (answer_of end)
turned_range h c f end l fits is = subst IsAnswer (sym (turned_answered h c f end is).reply_is) (reply_fits reads_in_range h c l fits)
