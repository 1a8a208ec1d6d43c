-- What a package's operations leave is valid, and the profile that they armed is in the table.
use Rattle.std.proofs.Common.{◌≡◌, ℕ, true, false, cond, List, [], length, map, arith, refl, subst, Option, None, Some}
use Rattle.std.proofs.lemmas.List.{length-map}
use Rattle.small_card.specs.Lists.{Every}
use Rattle.small_card.specs.Cards.{EimList}
use Rattle.small_card.specs.Profiles.{Done, has_profile, enabled_of, arms_profile, arms, do_psmo}
use Rattle.small_card.specs.EimOperations.{do_eco}
use Rattle.small_card.specs.Packages.{run_psmos, run_ecos, Executed, execute}
use Rattle.small_card.specs.Ranges.{IsPsmo, IsEco, IsOneToEight, IsBody, IsTable, IsItem}
use Rattle.small_card.specs.Valid.{AreEims}
use Rattle.small_card.specs.declared.types.Profile.{Profile}
use Rattle.small_card.specs.declared.types.Psmo.{Psmo}
use Rattle.small_card.specs.declared.types.Eco.{Eco}
use Rattle.small_card.specs.declared.types.Item.{Item}
use Rattle.small_card.specs.declared.types.Body.{Body}
use Rattle.small_card.specs.declared.types.Body.TheVariants.{Psmos, Ecos}
use Rattle.small_card.proofs.ListLemmas.{every_push, every_map}
use Rattle.small_card.proofs.Runs.{psmos_keep, ecos_keep, psmos_many, ecos_many}
use Rattle.small_card.proofs.EimLemmas.{eco_keeps}
use Rattle.small_card.proofs.ProfileLemmas.{psmo_keeps, guards_run, enabled_there}

abbrev Tabled : List Done → List Profile → Type 0
Tabled done ps = IsTable ps × Every (λ d. IsItem d.1) done

psmos_valid : (former : Option (List ℕ)) (ops : List Psmo) (ps : List Profile) → Every IsPsmo ops → IsTable ps → Tabled (run_psmos former [] ps ops).1 (run_psmos former [] ps ops).0
psmos_valid former ops ps q h = psmos_keep former Tabled IsPsmo
    (λ done ts op _ t. let k = psmo_keeps former done ts op t.0 in (k.table, every_push (λ d. IsItem d.1) done (op, (do_psmo former done ts op).1) t.1 k.item)) ops [] ps q (h, tt)

abbrev Managed : List Item → EimList → Type 0
Managed done ms = AreEims ms × Every IsItem done

ecos_valid : (ops : List Eco) (ms : EimList) → Every IsEco ops → AreEims ms → Managed (run_ecos [] ms ops).1 (run_ecos [] ms ops).0
ecos_valid ops ms q h = ecos_keep Managed IsEco
    (λ done ns op o t. let k = eco_keeps ns op o t.0 in (k.eims, every_push IsItem done (do_eco ns op).1 t.1 k.item)) ops [] ms q (h, tt)

pub record IsExecuted (e : Executed) : Type 0 where
  pub table : IsTable e.profiles
  pub entries : AreEims e.eims
  pub many : IsOneToEight (length e.items)
  pub each : Every IsItem e.items

pub executed_valid : (ps : List Profile) (ms : EimList) (body : Body) → IsBody body → IsTable ps → AreEims ms → IsExecuted (execute ps ms body)
unfolding execute IsBody
executed_valid ps ms (Psmos ops) q h k =
    let done : List Done = (run_psmos (enabled_of ps) [] ps ops).1 in
    let v = psmos_valid (enabled_of ps) ops ps q.1 h in
    let m = psmos_many (enabled_of ps) ops [] ps (omega (arith, q.0)) in
    let l : length (map (λ d. d.1) done) ≡ length done = length-map done (λ d. d.1) in
    record {
      table = v.0;
      entries = k;
      many = record { some = omega (arith, m, l); few = omega (arith, m, l, q.0) };
      each = every_map (λ d. IsItem d.1) IsItem (λ d. d.1) (λ d i. i) done v.1;
    }
executed_valid ps ms (Ecos ops) q h k =
    let v = ecos_valid ops ms q.1 k in
    let m = ecos_many ops [] ms (omega (arith, q.0)) in
    record { table = h; entries = v.0; many = record { some = omega (arith, m); few = omega (arith, m, q.0) }; each = v.1 }

armed_there : (ops : List Psmo) (ps : List Profile) (former : Option (List ℕ)) (a : List ℕ) → Every IsPsmo ops → enabled_of ps ≡ former → cond {A = Option (List ℕ)} (arms former (run_psmos former [] ps ops).1) former None ≡ Some a → has_profile a (run_psmos former [] ps ops).0 ≡ true
unfolding arms
armed_there ops ps None a q e h = absurd (cc)
armed_there ops ps (Some f) a q e h =
    let g = guards_run f ops ps q (enabled_there f ps e) in
    elim (arms_profile f (run_psmos (Some f) [] ps ops).1) as (λ b. arms_profile f (run_psmos (Some f) [] ps ops).1 ≡ b → cond {A = Option (List ℕ)} b (Some f) None ≡ Some a → has_profile a (run_psmos (Some f) [] ps ops).0 ≡ true) [
      | true ↦ λ k s. let i : f ≡ a = cc in subst (λ x. has_profile x (run_psmos (Some f) [] ps ops).0 ≡ true) i (g.armed k)
      | false ↦ λ k s. absurd (cc)
    ] refl h

pub executed_armed : (ps : List Profile) (ms : EimList) (body : Body) (a : List ℕ) → IsBody body → (execute ps ms body).armed ≡ Some a → has_profile a (execute ps ms body).profiles ≡ true
unfolding execute IsBody
executed_armed ps ms (Psmos ops) a q h = armed_there ops ps (enabled_of ps) a q.1 refl h
executed_armed ps ms (Ecos ops) a q h = absurd (cc)
