-- What was done to a chip in memory, the newest first, and what that makes of its octets.
use Rattle.std.specs.Prelude.{◌≡◌, ◌⊎◌, ℕ, ◌+◌, Bool, true, false, ◌&&◌, if◌then◌else◌, ◌==◌, List, [], ◌∷◌, length, replicate, Option, Some, None, leb}
use Rattle.chip_port.specs.declared.medium.Survives.{Survives}
use Rattle.chip_port.specs.declared.medium.Survives.TheVariants.{Content, Synced, Junk}
use Rattle.chip_port.specs.declared.chip.Tear.{Tear}
use Rattle.chip_port.specs.Seen.{Marks}
use Rattle.chip_port.specs.Rules.{put, Torn, woken}

-- n octets 0
unfoldable pub zeros : ℕ → List ℕ
zeros n = replicate n 0

-- one thing that was done: octets written into a range of n, all of them or the first few; a sync; an answer with the counts of that moment; a planned cut; a power cycle
pub data Past : Type 0 where
  wrote : (at n : ℕ) (octets : List ℕ) → Past
  did_sync : Past
  did_answer : (cuts breaks : ℕ) → Past
  was_cut : Tear → Past
  woke_as : Survives → Past

-- the content, what was synced last, and that with A5 in each range not synced
pub record Images : Type 0 where
  pub content : List ℕ
  pub synced : List ℕ
  pub junk : List ℕ

-- all that was written is synced
abbrev pub one_image : List ℕ → Images
one_image i = record { content = i; synced = i; junk = i }

-- the image that a power cycle gives
abbrev pub survived : Survives → Images → List ℕ
survived Content i = i.content
survived Synced i = i.synced
survived Junk i = i.junk

-- a chip begins with all octets 0, a write changes its range, a sync and a power cycle leave nothing unsynced
abbrev pub images : ℕ → List Past → Images
images size [] = one_image (zeros size)
images size (wrote at n octets ∷ older) = record {
  content = put (images size older).content at octets;
  synced = (images size older).synced;
  junk = put (images size older).junk at (replicate n 165);
}
images size (did_sync ∷ older) = one_image (images size older).content
images size (did_answer cuts breaks ∷ older) = images size older
images size (was_cut tear ∷ older) = images size older
images size (woke_as survives ∷ older) = one_image (survived survives (images size older))

-- what a cut may leave: after a sync the content alone, and each write since then makes its range any octets
abbrev pub may_leave : ℕ → List Past → List ℕ → Type 0
may_leave size [] c = c ≡ zeros size
may_leave size (wrote at n octets ∷ older) c = (d : List ℕ) × may_leave size older d × Torn at n d c
may_leave size (did_sync ∷ older) c = c ≡ (images size older).content
may_leave size (did_answer cuts breaks ∷ older) c = may_leave size older c
may_leave size (was_cut tear ∷ older) c = may_leave size older c
may_leave size (woke_as survives ∷ older) c = c ≡ survived survives (images size older)

-- one answer more, with the counts of this moment
abbrev pub marked : ℕ → ℕ → Marks → Marks
marked cuts breaks m = record {
  answers = m.answers + 1;
  cuts_at = λ n. if n == m.answers + 1 then cuts else m.cuts_at n;
  breaks_at = λ n. if n == m.answers + 1 then breaks else m.breaks_at n;
  woke = m.woke;
}

-- what the answers and power cycles marked
abbrev pub marks_of : ℕ → List Past → Marks
marks_of size [] = record { answers = 0; cuts_at = λ n. 0; breaks_at = λ n. 0; woke = λ n. None }
marks_of size (wrote at n octets ∷ older) = marks_of size older
marks_of size (did_sync ∷ older) = marks_of size older
marks_of size (did_answer cuts breaks ∷ older) = marked cuts breaks (marks_of size older)
marks_of size (was_cut tear ∷ older) = marks_of size older
marks_of size (woke_as survives ∷ older) = woken (survived survives (images size older)) (marks_of size older)

-- what a cut after the n-th answer and before the next may have left
abbrev pub has_left : ℕ → List Past → ℕ → List ℕ → Type 0
has_left size [] n c = (n ≡ 0) × (c ≡ zeros size)
has_left size (e ∷ older) n c = has_left size older n c ⊎ ((n ≡ (marks_of size (e ∷ older)).answers) × may_leave size (e ∷ older) c)

-- each write stays inside
abbrev pub fits : ℕ → List Past → Bool
fits size [] = true
fits size (wrote at n octets ∷ older) = leb (at + n) size && leb (length octets) n && fits size older
fits size (did_sync ∷ older) = fits size older
fits size (did_answer cuts breaks ∷ older) = fits size older
fits size (was_cut tear ∷ older) = fits size older
fits size (woke_as survives ∷ older) = fits size older

-- what a call adds to the history: the cut with what it left where it was the cut, what it did where it succeeded, and else nothing
abbrev pub history : Option Tear → Bool → List Past → (Tear → List Past) → List Past → List Past
history (Some tear) ok done torn past = was_cut tear ∷ torn tear
history None true done torn past = done
history None false done torn past = past
