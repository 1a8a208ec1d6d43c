-- Whatever a power cycle gives is one of the images that a cut may leave.
use Rattle.std.proofs.Common.{◌≡◌, inl, inr, ℕ, ◌+◌, ◌≤◌, true, List, [], ◌∷◌, ◌++◌, length, take, refl, ◌∙◌, ap, arith, replicate}
use Rattle.std.proofs.lemmas.Grind.{common_steps}
use Rattle.std.proofs.lemmas.Bool.Decides.{nat_tests}
use Rattle.std.proofs.lemmas.Slice.{drop-append-drop}
use Rattle.std.proofs.lemmas.List.{length-replicate}
use Rattle.chip_port.specs.declared.medium.Survives.{Survives}
use Rattle.chip_port.specs.declared.medium.Survives.TheVariants.{Content, Synced, Junk}
use Rattle.chip_port.specs.Rules.{put, Torn}
use Rattle.chip_port.specs.Past.{Past, wrote, did_sync, did_answer, was_cut, woke_as, Images, images, may_leave, has_left, marks_of, fits, zeros, survived}

pub length-zeros : (n : ℕ) → length (zeros n) ≡ n
unfolding zeros
length-zeros n = grind (arith, common_steps)

pub length-put : (image : List ℕ) (at : ℕ) (octets : List ℕ) → at + length octets ≤ length image → length (put image at octets) ≡ length image
length-put image at octets le = grind (arith, common_steps)

pub torn_put : (image : List ℕ) (at n : ℕ) (octets : List ℕ) → at + n ≤ length image → length octets ≤ n → Torn at n image (put image at octets)
torn_put image at n octets le short = record {
  before = grind (arith, common_steps);
  after = drop-append-drop (at + length octets) image (take at image ++ octets) (at + n) (omega arith) (grind (arith, common_steps));
  size = length-put image at octets (omega arith);
}

pub torn_same : (at n : ℕ) (image : List ℕ) → Torn at n image image
torn_same at n image = record { before = refl; after = refl; size = refl }

pub record Sized (size : ℕ) (i : Images) : Type 0 where
  pub content : length i.content ≡ size
  pub synced : length i.synced ≡ size
  pub junk : length i.junk ≡ size

pub record FitsWrote (size at n : ℕ) (octets : List ℕ) (older : List Past) : Type 0 where
  pub inside : at + n ≤ size
  pub short : length octets ≤ n
  pub rest : fits size older ≡ true

pub fits_wrote : (size at n : ℕ) (octets : List ℕ) (older : List Past) → fits size (wrote at n octets ∷ older) ≡ true → FitsWrote size at n octets older
fits_wrote size at n octets older f = record { inside = grind (arith, nat_tests); short = grind (arith, nat_tests); rest = grind (arith, nat_tests) }

length-survived : (size : ℕ) (survives : Survives) (i : Images) → Sized size i → length (survived survives i) ≡ size
length-survived size Content i s = s.content
length-survived size Synced i s = s.synced
length-survived size Junk i s = s.junk

pub sized : (size : ℕ) (past : List Past) → fits size past ≡ true → Sized size (images size past)
sized size [] f = record { content = length-zeros size; synced = length-zeros size; junk = length-zeros size }
sized size (wrote at n octets ∷ older) f =
    let w = fits_wrote size at n octets older f in
    let s = sized size older w.rest in
    record {
      content = length-put (images size older).content at octets (omega (arith, w.inside, w.short, s.content)) ∙ s.content;
      synced = s.synced;
      junk = length-put (images size older).junk at (replicate n 165) (omega (arith, length-replicate {A = ℕ} n 165, w.inside, s.junk)) ∙ s.junk;
    }
sized size (did_sync ∷ older) f = let s = sized size older f in record { content = s.content; synced = s.content; junk = s.content }
sized size (did_answer cuts breaks ∷ older) f = sized size older f
sized size (was_cut tear ∷ older) f = sized size older f
sized size (woke_as survives ∷ older) f =
    let e = length-survived size survives (images size older) (sized size older f) in record { content = e; synced = e; junk = e }

-- each of the three images may be left
pub survived_left : (size : ℕ) (survives : Survives) (past : List Past) → fits size past ≡ true → may_leave size past (survived survives (images size past))
survived_left size Content [] f = refl
survived_left size Synced [] f = refl
survived_left size Junk [] f = refl
survived_left size Content (wrote at n octets ∷ older) f =
    let w = fits_wrote size at n octets older f in
    let s = sized size older w.rest in
    ((images size older).content, survived_left size Content older w.rest, torn_put (images size older).content at n octets (omega (arith, w.inside, s.content)) w.short)
survived_left size Synced (wrote at n octets ∷ older) f =
    let w = fits_wrote size at n octets older f in
    ((images size older).synced, survived_left size Synced older w.rest, torn_same at n (images size older).synced)
survived_left size Junk (wrote at n octets ∷ older) f =
    let w = fits_wrote size at n octets older f in
    let s = sized size older w.rest in
    ((images size older).junk, survived_left size Junk older w.rest, torn_put (images size older).junk at n (replicate n 165) (omega (arith, w.inside, s.junk)) (omega (arith, length-replicate {A = ℕ} n 165)))
survived_left size Content (did_sync ∷ older) f = refl
survived_left size Synced (did_sync ∷ older) f = refl
survived_left size Junk (did_sync ∷ older) f = refl
survived_left size survives (did_answer cuts breaks ∷ older) f = survived_left size survives older f
survived_left size survives (was_cut tear ∷ older) f = survived_left size survives older f
survived_left size Content (woke_as r ∷ older) f = refl
survived_left size Synced (woke_as r ∷ older) f = refl
survived_left size Junk (woke_as r ∷ older) f = refl

pub left_sized : (size : ℕ) (past : List Past) → fits size past ≡ true → (c : List ℕ) → may_leave size past c → length c ≡ size
left_sized size [] f c m = ap length m ∙ length-zeros size
left_sized size (wrote at n octets ∷ older) f c m = m.2.size ∙ left_sized size older (fits_wrote size at n octets older f).rest m.0 m.1
left_sized size (did_sync ∷ older) f c m = ap length m ∙ (sized size older f).content
left_sized size (did_answer cuts breaks ∷ older) f c m = left_sized size older f c m
left_sized size (was_cut tear ∷ older) f c m = left_sized size older f c m
left_sized size (woke_as survives ∷ older) f c m = ap length m ∙ length-survived size survives (images size older) (sized size older f)

pub left_now : (size : ℕ) (past : List Past) (c : List ℕ) → may_leave size past c → has_left size past (marks_of size past).answers c
left_now size [] c m = (refl, m)
left_now size (e ∷ older) c m = inr (refl, m)

answers_rise : (size : ℕ) (e : Past) (older : List Past) → (marks_of size older).answers ≤ (marks_of size (e ∷ older)).answers
answers_rise size (wrote at n octets) older = omega arith
answers_rise size did_sync older = omega arith
answers_rise size (did_answer cuts breaks) older = omega arith
answers_rise size (was_cut tear) older = omega arith
answers_rise size (woke_as survives) older = omega arith

pub none_above : (size : ℕ) (past : List Past) (n : ℕ) (c : List ℕ) → has_left size past n c → n ≤ (marks_of size past).answers
none_above size [] n c h = omega arith
none_above size (e ∷ older) n c (inl h) = omega (arith, none_above size older n c h, answers_rise size e older)
none_above size (e ∷ older) n c (inr h) = omega (arith, h.0)
