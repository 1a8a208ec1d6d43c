-- What the calls of a chip in memory do to what it shows.
use Rattle.std.proofs.Common.{◌≡◌, inl, ℕ, Bool, true, false, List, [], ◌∷◌, refl, sym, subst, arith}
use Rattle.std.specs.Prelude.{Some, None, Ok, leb, if◌then◌else◌}
use Rattle.iot_bytes.specs.declared.source.Failed.{Failed}
use Rattle.chip_port.specs.declared.counts.Counts.{Counts}
use Rattle.chip_port.specs.declared.medium.Survives.{Survives}
use Rattle.chip_port.specs.declared.medium.Survives.TheVariants.{Content}
use Rattle.chip_port.specs.Seen.{called, Passes, Marks}
use Rattle.chip_port.specs.declared.chip.Tear.{Tear}
use Rattle.chip_port.specs.Rules.{Torn, Synced, Woken, woken}
use Rattle.chip_port.specs.Past.{Past, wrote, did_sync, did_answer, was_cut, woke_as, images, survived, fits, marks_of}
use Rattle.chip_port.specs.PastLaws.{survived_left, fits_wrote, sized, torn_put}
use Rattle.chip_port.specs.Counts.{tally_of}
use Rattle.chip_port.specs.MemSeen.{seen_in, is_woken}

pub synced_in : (past later : List Past) (a b : Counts) (ca oa cb ob : ℕ) → fits 346624 past ≡ true → later ≡ did_sync ∷ past → tally_of b ≡ called true (tally_of a) → Passes (tally_of a) → b.faults ≡ a.faults
    → Synced {T = Unit {0}} {E = Failed} (seen_in past a ca oa) (seen_in later b cb ob) (Ok tt)
synced_in past later a b ca oa cb ob f is tally passes calm = subst (λ (p : List Past). Synced {T = Unit {0}} {E = Failed} (seen_in past a ca oa) (seen_in p b cb ob) (Ok tt)) (sym is) (record {
  call = record { tally = tally; passes = passes; calm = calm; time = record { keeps = λ n c was. inl was; nothing_else = λ n c left. left } };
  reads = refl;
  marks = refl;
  fewer = λ c now. subst (λ (i : List ℕ). (seen_in past a ca oa).leaves i) (sym now) (survived_left 346624 Content past f);
  done = λ c now. now;
  failed = tt;
})

-- a write leaves what is outside of its range
pub torn_wrote : (past later : List Past) (at n : ℕ) (octets : List ℕ) → fits 346624 past ≡ true → fits 346624 later ≡ true → later ≡ wrote at n octets ∷ past → Torn at n (images 346624 past).content (images 346624 later).content
torn_wrote past later at n octets f g is =
    let w = fits_wrote 346624 at n octets past (subst (λ (p : List Past). fits 346624 p ≡ true) is g) in
    let s = sized 346624 past f in
    subst (λ (p : List Past). Torn at n (images 346624 past).content (images 346624 p).content) (sym is) (torn_put (images 346624 past).content at n octets (omega (arith, w.inside, s.content)) w.short)

-- and so does a cut write
pub torn_cut : (past cut later : List Past) (at n : ℕ) (octets : List ℕ) (tear : Tear) → fits 346624 past ≡ true → fits 346624 cut ≡ true → cut ≡ wrote at n octets ∷ past → later ≡ was_cut tear ∷ cut
    → Torn at n (images 346624 past).content (images 346624 later).content
torn_cut past cut later at n octets tear f g is after =
    subst (λ (p : List Past). Torn at n (images 346624 past).content (images 346624 p).content) (sym after) (torn_wrote past cut at n octets f g is)

pub woken_in : (past later : List Past) (survives : Survives) (a : Counts) (calls octets : ℕ) → fits 346624 past ≡ true → later ≡ woke_as survives ∷ past
    → Woken {T = Unit {0}} {E = Failed} (seen_in past a calls octets) (seen_in later (record a { cut = None }) calls octets) (Ok tt)
woken_in past later survives a calls octets f is = subst (λ (p : List Past). Woken {T = Unit {0}} {E = Failed} (seen_in past a calls octets) (seen_in p (record a { cut = None }) calls octets) (Ok tt)) (sym is) (record {
  tally = refl;
  calm = refl;
  done = (survived_left 346624 survives past f, λ c now. now, refl);
  failed = tt;
  time = record { keeps = λ n c was. inl was; nothing_else = λ n c left. left };
})

woken_twice : (image : List ℕ) (m : Marks) → woken image m ≡ woken image (woken image m)
woken_twice image m = λ i. record { answers = m.answers; cuts_at = m.cuts_at; breaks_at = m.breaks_at; woke = λ n. same n (leb n m.answers) i }
  where
    same : (n : ℕ) (b : Bool) → (if b then m.woke n else Some image) ≡ (if b then (if b then m.woke n else Some image) else Some image)
    same n true = refl
    same n false = refl

pub woken_again : (past : List Past) (a : Counts) (calls octets : ℕ) → is_woken past ≡ true
    → Woken {T = Unit {0}} {E = Failed} (seen_in past a calls octets) (seen_in past (record a { cut = None }) calls octets) (Ok tt)
woken_again (woke_as survives ∷ older) a calls octets is = record {
  tally = refl;
  calm = refl;
  done = (refl, λ c now. now, woken_twice (survived survives (images 346624 older)) (marks_of 346624 older));
  failed = tt;
  time = record { keeps = λ n c was. was; nothing_else = λ n c left. inl left };
}
woken_again [] a calls octets is = absurd (cc (is))
woken_again (wrote at n o ∷ older) a calls octets is = absurd (cc (is))
woken_again (did_sync ∷ older) a calls octets is = absurd (cc (is))
woken_again (did_answer x y ∷ older) a calls octets is = absurd (cc (is))
woken_again (was_cut tear ∷ older) a calls octets is = absurd (cc (is))

pub woken_still : (past later : List Past) (a : Counts) (calls octets : ℕ) → is_woken past ≡ true → later ≡ past
    → Woken {T = Unit {0}} {E = Failed} (seen_in past a calls octets) (seen_in later (record a { cut = None }) calls octets) (Ok tt)
woken_still past later a calls octets is e =
    subst (λ (p : List Past). Woken {T = Unit {0}} {E = Failed} (seen_in past a calls octets) (seen_in p (record a { cut = None }) calls octets) (Ok tt)) (sym e) (woken_again past a calls octets is)
