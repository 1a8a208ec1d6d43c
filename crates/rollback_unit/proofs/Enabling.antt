-- Enabling the former profile leaves it alone enabled, whatever was enabled before.
use Rattle.std.proofs.Common.{◌≡◌, ◌≢◌, ℕ, true, false, not, ◌&&◌, List, [], ◌∷◌, map, refl, ◌∙◌, ap, sym, subst, inl, inr, None}
use Rattle.std.specs.List.{list_any}
use Rattle.std.proofs.lemmas.Bool.{cond_both, or_cases, and_parts, not-true, both_ways, false_from_ne_true}
use Rattle.small_card.specs.Lists.{Every, EveryPair}
use Rattle.small_card.specs.Laws.{IsAlone}
use Rattle.small_card.specs.Profiles.{is_iccid, has_profile, is_enabled, with_state, enabled_alone, do_psmo}
use Rattle.small_card.specs.Ranges.{AreApart, IsTable}
use Rattle.small_card.specs.declared.types.Profile.{Profile}
use Rattle.small_card.specs.declared.types.Psmo.TheVariants as psmo
use Rattle.small_card.specs.declared.types.Item.{Item}
use Rattle.small_card.specs.declared.types.Item.TheVariants as item
use Rattle.small_card.proofs.ListLemmas.{same_yes, every_mono, any_every}
use Rattle.small_card.proofs.Restoring.{alone}

-- the profile, enabled exactly where it has this ICCID
abbrev alone_of : List ℕ → Profile → Profile
alone_of iccid p = with_state (is_iccid iccid p) p

stays_on : (iccid : List ℕ) (p : Profile) → is_iccid iccid p && p.enabled ≡ true → alone_of iccid p ≡ p
stays_on iccid p e =
    let both = and_parts (is_iccid iccid p) p.enabled e in
    ap (λ b. with_state b p) (both.0 ∙ sym both.1)

stays_off : (iccid : List ℕ) (p : Profile) → p.iccid ≢ iccid → p.enabled ≢ true → alone_of iccid p ≡ p
stays_off iccid p other off =
    ap (λ b. with_state b p) (false_from_ne_true (is_iccid iccid p) (λ e. other (sym (same_yes iccid p.iccid e))) ∙ sym (false_from_ne_true p.enabled off))

-- beside an enabled profile of this ICCID another one is off
off_after : (iccid : List ℕ) (p q : Profile) → is_iccid iccid p && p.enabled ≡ true → AreApart p q → alone_of iccid q ≡ q
off_after iccid p q e h =
    let both = and_parts (is_iccid iccid p) p.enabled e in
    stays_off iccid q (λ k. h.iccids (sym (same_yes iccid p.iccid both.0) ∙ sym k)) (h.enabled both.1)

off_before : (iccid : List ℕ) (p q : Profile) → is_iccid iccid q && q.enabled ≡ true → AreApart p q → alone_of iccid p ≡ p
off_before iccid p q e h =
    let both = and_parts (is_iccid iccid q) q.enabled e in
    stays_off iccid p (λ k. h.iccids (k ∙ same_yes iccid q.iccid both.0)) (λ k. h.enabled k both.1)

map_same : {X : Type 0} (f : X → X) (xs : List X) → Every (λ x. f x ≡ x) xs → map f xs ≡ xs
map_same f [] h = refl
map_same f (x ∷ xs) h = ap (λ y. y ∷ map f xs) h.0 ∙ ap (λ ys. x ∷ ys) (map_same f xs h.1)

each_same : (iccid : List ℕ) (ps : List Profile) → EveryPair AreApart ps → list_any (λ p. is_iccid iccid p && p.enabled) ps ≡ true → Every (λ p. alone_of iccid p ≡ p) ps
each_same iccid [] h e = tt
each_same iccid (p ∷ ps) h e = elim (or_cases (is_iccid iccid p && p.enabled) (list_any (λ q. is_iccid iccid q && q.enabled) ps) e) [
  | inl k ↦ (stays_on iccid p k, every_mono (AreApart p) (λ q. alone_of iccid q ≡ q) (λ q. off_after iccid p q k) ps h.0)
  | inr k ↦
      let x = any_every (λ q. is_iccid iccid q && q.enabled) (AreApart p) ps k h.0 in
      (off_before iccid p x.0 x.1 x.2, each_same iccid ps h.1 k)
]

-- where this profile is enabled it is alone already
pub alone_already : (iccid : List ℕ) (ps : List Profile) → IsTable ps → is_enabled iccid ps ≡ true → enabled_alone iccid ps ≡ ps
unfolding is_enabled enabled_alone
alone_already iccid ps h e = map_same (alone_of iccid) ps (each_same iccid ps h.apart e)

one_enable : (iccid : List ℕ) (ps : List Profile) → IsTable ps → has_profile iccid ps ≡ true → (do_psmo None [] ps (psmo.Enable iccid false)).0 ≡ enabled_alone iccid ps
unfolding do_psmo
one_enable iccid ps h there =
    cond_both {A = List Profile × Item} (not (has_profile iccid ps)) (ps, item.Enable 1) _ (λ r. r.0 ≡ enabled_alone iccid ps)
    (λ e. absurd (both_ways (has_profile iccid ps) (not-true (has_profile iccid ps) e) there)) (λ _.
    cond_both {A = List Profile × Item} (is_enabled iccid ps) (ps, item.Enable 2) (enabled_alone iccid ps, item.Enable 0) (λ r. r.0 ≡ enabled_alone iccid ps)
    (λ e. sym (alone_already iccid ps h e)) (λ _. refl))

-- an enable of a profile that is there leaves it alone enabled, whether it was done or not
pub enable_leaves : (iccid : List ℕ) (ps left : List Profile) (code : ℕ) → IsTable ps → has_profile iccid ps ≡ true → (left, item.Enable code) ≡ do_psmo None [] ps (psmo.Enable iccid false) → left ≡ enabled_alone iccid ps
enable_leaves iccid ps left code h there e = ap (λ (r : List Profile × Item). r.0) e ∙ one_enable iccid ps h there

-- this profile is enabled, and no other
pub left_alone : (iccid : List ℕ) (ps left : List Profile) → has_profile iccid ps ≡ true → left ≡ enabled_alone iccid ps → IsAlone iccid left
left_alone iccid ps left h e = subst (IsAlone iccid) (sym e) (alone iccid ps h)
