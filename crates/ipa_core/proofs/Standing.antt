-- An assistant stands for all that happened to it, before and after each event.
use Rattle.std.proofs.Common.{◌≡◌, ℕ, ◌+◌, ◌≤◌, ◌<◌, suc, Bool, true, false, List, [], ◌∷◌, refl, ◌∙◌, ap, sym, arith, None, Some}
use Rattle.std.specs.Prelude.{◌==◌, ◌%◌, Result, Ok, Err, IfOk, OnOk}
use Rattle.std.proofs.Math.Nat.{suc-mod, mod-eq_of_lt}
use Rattle.std.proofs.lemmas.Bool.{cond-true, cond-false, eqb-true, eq-eqb}
use Rattle.small_card.specs.declared.types.Answer.{Answer}
use Rattle.small_card.specs.declared.types.PackageResult.{PackageResult}
use Rattle.small_card.specs.declared.types.Refused.{Refused}
use Rattle.small_card.specs.declared.types.Answer.TheVariants as answer
use Rattle.esipa_codec.specs.Assistant.{IpaEvent, poll, push, message, probe, answered, restart, is_failed_probe, ends_failures, failures, strikes, asked, act_of}
use Rattle.esipa_codec.specs.declared.ends.Act.{Act}
use Rattle.esipa_codec.specs.declared.ends.Act.TheVariants as act
use Rattle.esipa_codec.specs.declared.messages.ToIpa.TheVariants as to_ipa
use Rattle.ipa_core.specs.Assistants.{IsIpa}
use Rattle.ipa_core.specs.declared.assistant.Ipa.{Ipa}

abbrev pub new_ipa : Ipa
new_ipa = record { strikes = 0; asked = None }

pub new_stands : IsIpa new_ipa []
unfolding strikes failures asked
new_stands = record { strikes_are = refl; asked_is = refl }

pub restarted : (ipa : Ipa) (es : List IpaEvent) → IsIpa ipa [] → IsIpa ipa (restart ∷ es)
unfolding strikes failures asked is_failed_probe ends_failures
restarted ipa es h = record { strikes_are = h.strikes_are; asked_is = h.asked_is }

pub taken : (ipa : Ipa) (r : PackageResult) (es : List IpaEvent) → IsIpa ipa [] → IsIpa ipa (answered (answer.Loaded r) ∷ es)
unfolding strikes failures asked is_failed_probe ends_failures
taken ipa r es h = record { strikes_are = h.strikes_are; asked_is = h.asked_is }

pub listed : (ipa : Ipa) (rs : List PackageResult) (es : List IpaEvent) → IsIpa ipa es → IsIpa ipa (answered (answer.Results rs) ∷ es)
unfolding strikes failures asked is_failed_probe ends_failures
listed ipa rs es h = record { strikes_are = h.strikes_are; asked_is = h.asked_is }

pub polled : (ipa : Ipa) (to eid : List ℕ) (es : List IpaEvent) → IsIpa ipa es → IsIpa ipa (poll to eid ∷ es)
unfolding strikes failures asked is_failed_probe ends_failures
polled ipa to eid es h = record { strikes_are = h.strikes_are; asked_is = h.asked_is }

pub pushed : (ipa : Ipa) (es : List IpaEvent) → IsIpa ipa es → IsIpa ipa (push ∷ es)
unfolding strikes failures asked is_failed_probe ends_failures
pushed ipa es h = record { strikes_are = h.strikes_are; asked_is = h.asked_is }

pub told_nothing : (ipa : Ipa) (from : List ℕ) (good : Bool) (es : List IpaEvent) → IsIpa ipa es → IsIpa ipa (message from to_ipa.Nothing good ∷ es)
unfolding strikes failures asked is_failed_probe ends_failures
told_nothing ipa from good es h = record { strikes_are = h.strikes_are; asked_is = h.asked_is }

pub acknowledged : (ipa : Ipa) (from : List ℕ) (seq : ℕ) (good : Bool) (es : List IpaEvent) → IsIpa ipa es → IsIpa ipa (message from (to_ipa.Ack seq) good ∷ es)
unfolding strikes failures asked is_failed_probe ends_failures
acknowledged ipa from seq good es h = record { strikes_are = h.strikes_are; asked_is = h.asked_is }

pub handed : (ipa : Ipa) (from bytes : List ℕ) (good : Bool) (es : List IpaEvent) → IsIpa ipa es → IsIpa (record { strikes = ipa.strikes; asked = Some from }) (message from (to_ipa.Package bytes) good ∷ es)
unfolding strikes failures asked is_failed_probe ends_failures
handed ipa from bytes good es h = record { strikes_are = h.strikes_are; asked_is = refl }

pub refused : (ipa : Ipa) (f : Refused) (es : List IpaEvent) → IsIpa ipa es → IsIpa (record { strikes = ipa.strikes; asked = None }) (answered (answer.LoadRefused f) ∷ es)
unfolding strikes failures asked is_failed_probe ends_failures
refused ipa f es h = record { strikes_are = h.strikes_are; asked_is = refl }

pub passed : (ipa : Ipa) (es : List IpaEvent) → IsIpa ipa es → IsIpa (record { strikes = 0; asked = ipa.asked }) (probe true ∷ es)
unfolding strikes failures asked is_failed_probe ends_failures
passed ipa es h = record { strikes_are = refl; asked_is = h.asked_is }

-- one more failed probe
more_failures : (es : List IpaEvent) → failures (probe false ∷ es) ≡ suc (failures es)
unfolding failures is_failed_probe ends_failures
more_failures es = refl

more_strikes : (ipa : Ipa) (es : List IpaEvent) → IsIpa ipa es → failures (probe false ∷ es) % 3 ≡ suc ipa.strikes % 3
unfolding strikes
more_strikes ipa es h = ap (λ n. n % 3) (more_failures es) ∙ suc-mod (failures es) 3 ∙ ap (λ n. suc n % 3) (sym h.strikes_are)

failed_asked : (es : List IpaEvent) → asked (probe false ∷ es) ≡ asked es
unfolding asked
failed_asked es = refl

below : (ipa : Ipa) (es : List IpaEvent) → IsIpa ipa es → ipa.strikes + 1 < 3 → failures (probe false ∷ es) % 3 ≡ ipa.strikes + 1
below ipa es h l = more_strikes ipa es h ∙ mod-eq_of_lt (omega (arith, l)) ∙ omega arith

pub failed : (ipa : Ipa) (es : List IpaEvent) → IsIpa ipa es → ipa.strikes + 1 < 3 → IsIpa (record { strikes = ipa.strikes + 1; asked = ipa.asked }) (probe false ∷ es)
unfolding strikes
failed ipa es h l = record { strikes_are = sym (below ipa es h l); asked_is = h.asked_is ∙ sym (failed_asked es) }

third : (ipa : Ipa) (es : List IpaEvent) → IsIpa ipa es → ipa.strikes ≤ 2 → 3 ≤ ipa.strikes + 1 → failures (probe false ∷ es) % 3 ≡ 0
third ipa es h few l =
    let two : ipa.strikes ≡ 2 = omega (arith, few, l) in
    more_strikes ipa es h ∙ ap (λ n. suc n % 3) two

pub failed_third : (ipa : Ipa) (es : List IpaEvent) → IsIpa ipa es → ipa.strikes ≤ 2 → 3 ≤ ipa.strikes + 1 → IsIpa (record { strikes = 0; asked = ipa.asked }) (probe false ∷ es)
unfolding strikes
failed_third ipa es h few l = record { strikes_are = sym (third ipa es h few l); asked_is = h.asked_is ∙ sym (failed_asked es) }

not_zero : (n : ℕ) → suc n == 0 ≡ false
not_zero n =
    elim (suc n == 0) as (λ b. suc n == 0 ≡ b → suc n == 0 ≡ false) [
      | true ↦ λ e. let k = eqb-true (suc n) 0 e in absurd (omega (arith, k))
      | false ↦ λ e. e
    ] refl

pub failed_act : (ipa : Ipa) (es : List IpaEvent) → IsIpa ipa es → ipa.strikes + 1 < 3 → act.Rest ≡ act_of es (probe false)
unfolding act_of
failed_act ipa es h l =
    sym (cond-false (failures (probe false ∷ es) % 3 == 0) act.Rollback act.Rest
    (ap (λ n. n == 0) (below ipa es h l ∙ omega arith) ∙ not_zero ipa.strikes))

pub third_act : (ipa : Ipa) (es : List IpaEvent) → IsIpa ipa es → ipa.strikes ≤ 2 → 3 ≤ ipa.strikes + 1 → act.Rollback ≡ act_of es (probe false)
unfolding act_of
third_act ipa es h few l =
    sym (cond-true (failures (probe false ∷ es) % 3 == 0) act.Rollback act.Rest (eq-eqb (failures (probe false ∷ es) % 3) 0 (third ipa es h few l)))

-- every other answer
abbrev pub IsOther : Answer → Type 0
IsOther a =
    ((r : PackageResult) → a ≡ answer.Loaded r → ⊥) × ((f : Refused) → a ≡ answer.LoadRefused f → ⊥) × ((rs : List PackageResult) → a ≡ answer.Results rs → ⊥)

pub other_act : (a : Answer) → IsOther a → (es : List IpaEvent) → act.Rest ≡ act_of es (answered a)
unfolding act_of
other_act answer.Personalised h es = refl
other_act (answer.Loaded r) h es = refl
other_act (answer.LoadRefused f) h es = absurd (h.1 f refl)
other_act (answer.RolledBack seq) h es = refl
other_act answer.NotPermitted h es = refl
other_act answer.Removed h es = refl
other_act answer.Absent h es = refl
other_act (answer.Results rs) h es = absurd (h.2 rs refl)
other_act (answer.Eims es') h es = refl
other_act (answer.Associated a) h es = refl
other_act (answer.InitialRefused code) h es = refl
other_act answer.Malformed h es = refl
other_act answer.AlreadyPersonal h es = refl

pub other_stands : (ipa : Ipa) (a : Answer) → IsOther a → (es : List IpaEvent) → IsIpa ipa es → IsIpa ipa (answered a ∷ es)
unfolding strikes failures asked is_failed_probe ends_failures
other_stands ipa answer.Personalised o es h = record { strikes_are = h.strikes_are; asked_is = h.asked_is }
other_stands ipa (answer.Loaded r) o es h = absurd (o.0 r refl)
other_stands ipa (answer.LoadRefused f) o es h = absurd (o.1 f refl)
other_stands ipa (answer.RolledBack seq) o es h = record { strikes_are = h.strikes_are; asked_is = h.asked_is }
other_stands ipa answer.NotPermitted o es h = record { strikes_are = h.strikes_are; asked_is = h.asked_is }
other_stands ipa answer.Removed o es h = record { strikes_are = h.strikes_are; asked_is = h.asked_is }
other_stands ipa answer.Absent o es h = record { strikes_are = h.strikes_are; asked_is = h.asked_is }
other_stands ipa (answer.Results rs) o es h = absurd (o.2 rs refl)
other_stands ipa (answer.Eims es') o es h = record { strikes_are = h.strikes_are; asked_is = h.asked_is }
other_stands ipa (answer.Associated a) o es h = record { strikes_are = h.strikes_are; asked_is = h.asked_is }
other_stands ipa (answer.InitialRefused code) o es h = record { strikes_are = h.strikes_are; asked_is = h.asked_is }
other_stands ipa answer.Malformed o es h = record { strikes_are = h.strikes_are; asked_is = h.asked_is }
other_stands ipa answer.AlreadyPersonal o es h = record { strikes_are = h.strikes_are; asked_is = h.asked_is }

pub ok_then : {E : Type 0} (r : Result Act E) (x y : Act) → x ≡ y → IfOk r (λ a. a ≡ x) → IfOk r (λ a. a ≡ y)
ok_then (Ok a) x y e h = h ∙ e
ok_then (Err f) x y e h = tt

pub on_ok : {T E : Type 0} (r : Result T E) (P : Type 0) → P → OnOk r P
on_ok (Ok x) P p = p
on_ok (Err f) P p = tt
