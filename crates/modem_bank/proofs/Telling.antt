-- One more modem of a list is told, and one is taken out.
use Rattle.std.proofs.Common.{◌≡◌, ℕ, ◌+◌, ◌<◌, Bool, true, map, length, take, drop, ◌++◌, List, [], ◌∷◌, Option, Some, refl, zero, suc, arith, ap, sym, subst, ◌∙◌, get_or, set, slice_get, add-one}
use Rattle.modem_bank.specs.Modems.{told_one, is_shown, Seen, KeepsShowing}

map-without-suc : {A B : Type 0} (f : A → B) (at : ℕ) (xs : List A) → map f (take at xs ++ drop (suc at) xs) ≡ take at (map f xs) ++ drop (suc at) (map f xs)
map-without-suc f zero [] = refl
map-without-suc f (suc at) [] = refl
map-without-suc f zero (x ∷ xs) = refl
map-without-suc f (suc at) (x ∷ xs) = ap (λ t. f x ∷ t) (map-without-suc f at xs)

pub map-without : {A B : Type 0} (f : A → B) (at : ℕ) (xs : List A) → map f (take at xs ++ drop (at + 1) xs) ≡ take at (map f xs) ++ drop (at + 1) (map f xs)
map-without f at xs = rw add-one (map-without-suc f at xs)

-- what the modems show and count, where the one at the index is told too
pub told-more : {M : Type 0} (view : M → Seen) (now : Option (List ℕ)) (i : ℕ) (xs ys : List M) (o y : M) → i < length ys → map view ys ≡ map (told_one now) (map view (take i xs)) ++ map view (drop i xs) → o ≡ get_or ys i o → view y ≡ told_one now (view o) → map view (set ys i y) ≡ map (told_one now) (map view (take (suc i) xs)) ++ map view (drop (suc i) xs)
told-more view now i [] [] o y lt e at h = absurd (omega arith)
told-more view now zero [] (z ∷ ys) o y lt e at h = cc
told-more view now (suc i) [] (z ∷ ys) o y lt e at h = cc
told-more view now i (x ∷ xs) [] o y lt e at h = absurd (omega arith)
told-more view now zero (x ∷ xs) (z ∷ ys) o y lt e at h = cc
told-more view now (suc i) (x ∷ xs) (z ∷ ys) o y lt e at h =
    let tail : map view ys ≡ map (told_one now) (map view (take i xs)) ++ map view (drop i xs) = cc in
    let rest : map view (set ys i y) ≡ map (told_one now) (map view (take (suc i) xs)) ++ map view (drop (suc i) xs) = told-more view now i xs ys o y (omega arith) tail at h in
    cc

kept-set : {M : Type 0} (is : M → Bool) (i place : ℕ) (ys : List M) (o y modem : M) → o ≡ get_or ys i o → (is o ≡ true → y ≡ o) → is modem ≡ true → slice_get ys place ≡ Some modem → slice_get (set ys i y) place ≡ Some modem
kept-set is i place [] o y modem at same shows found = found
kept-set is zero zero (z ∷ ys) o y modem at same shows found =
    let one : o ≡ modem = cc in
    let left : y ≡ o = same (ap is one ∙ shows) in
    ap (λ m. Some m) (left ∙ one)
kept-set is zero (suc place) (z ∷ ys) o y modem at same shows found = found
kept-set is (suc i) zero (z ∷ ys) o y modem at same shows found = found
kept-set is (suc i) (suc place) (z ∷ ys) o y modem at same shows found = kept-set is i place ys o y modem at same shows found

-- the modems that show what is enabled are the same, where the one at the index is told too
pub kept-more : {M : Type 0} (shown : M → Option (List ℕ)) (now : Option (List ℕ)) (i : ℕ) (xs ys : List M) (o y : M) → o ≡ get_or ys i o → (is_shown (shown o) now ≡ true → y ≡ o) → KeepsShowing shown now xs ys → KeepsShowing shown now xs (set ys i y)
kept-more shown now i xs ys o y at same kept place modem found shows =
    kept-set (λ m. is_shown (shown m) now) i place ys o y modem at same shows (kept place modem found shows)

-- a modem in a box is told as the modem that the box has
pub boxed-told : {Q : Type 0} (shown : Q → Option (List ℕ)) (count : Q → ℕ) (now : Option (List ℕ)) (old within new : Q) → (shown new, count new) ≡ told_one now (shown within, count within) → within ≡ old → (shown new, count new) ≡ told_one now (shown old, count old)
boxed-told shown count now old within new told same = told ∙ ap (λ q. told_one now (shown q, count q)) same

pub boxed-kept : {Q Box : Type 0} (shown : Q → Option (List ℕ)) (now : Option (List ℕ)) (box : Q → Box) (old within new : Q) → (is_shown (shown within) now ≡ true → new ≡ within) → within ≡ old → is_shown (shown old) now ≡ true → box new ≡ box old
boxed-kept shown now box old within new kept same shows = ap box (kept (subst (λ q. is_shown (shown q) now ≡ true) (sym same) shows) ∙ same)
