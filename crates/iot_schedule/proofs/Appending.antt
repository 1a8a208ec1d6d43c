-- Appending a line part by part.
use Rattle.std.proofs.Common.{◌≡◌, ℕ, List, [], ◌∷◌, map, refl}
use Rattle.std.specs.List.{flat_map}
use Rattle.std.proofs.lemmas.List.{append-nil}
use Rattle.small_card.specs.declared.types.Profile.{Profile}
use Rattle.small_card.specs.declared.types.Psmo.{Psmo}
use Rattle.small_card.specs.declared.types.Eco.{Eco}
use Rattle.iot_bytes.proofs.Appending.{apart}
use Rattle.iot_schedule.specs.Words.{spaced}
use Rattle.iot_schedule.specs.Spelling.{profile_text, profile_entry, psmo_text, psmo_entry, eco_text, eco_entry}

-- what a writer's proof cites
pub ruleset appended = (apart, append-nil)

spaced_map : {X : Type 0} (text entry : X → List ℕ) → ((x : X) → spaced (text x) ≡ entry x) → (xs : List X) → flat_map spaced (map text xs) ≡ flat_map entry xs
spaced_map text entry same [] = refl
spaced_map text entry same (x ∷ xs) = cc (same x, spaced_map text entry same xs)

-- the words of operations and of profiles, each behind a space
pub psmos_spaced : (ops : List Psmo) → flat_map spaced (map psmo_text ops) ≡ flat_map psmo_entry ops
unfolding psmo_entry
psmos_spaced ops = spaced_map psmo_text psmo_entry (λ op. refl) ops

pub ecos_spaced : (ops : List Eco) → flat_map spaced (map eco_text ops) ≡ flat_map eco_entry ops
unfolding eco_entry
ecos_spaced ops = spaced_map eco_text eco_entry (λ op. refl) ops

pub profiles_spaced : (ps : List Profile) → flat_map spaced (map profile_text ps) ≡ flat_map profile_entry ps
unfolding profile_entry
profiles_spaced ps = spaced_map profile_text profile_entry (λ p. refl) ps
