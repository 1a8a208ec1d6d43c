-- What a run tells the modems: the profile that is enabled after each line that leaves the card lit.
use Rattle.std.specs.Prelude.{ℕ, nat_lt, List, [], ◌∷◌, length, if◌then◌else◌, Option}
use Rattle.modem_bank.specs.Modems.{Seen, told_one, without}
use Rattle.iot_schedule.specs.declared.types.Line.{Line}
use Rattle.iot_schedule.specs.declared.types.Line.TheVariants as line
use Rattle.small_world.specs.Runs.{Turn, world_after}
use Rattle.small_world.specs.Worlds.{SmallWorld, enabled_after}

-- A list of modems, or of what stands for them, after a line: one that takes a modem away does so where the list has
-- its place.
abbrev pub without_taken : {A : Type 0} → Line → List A → List A
without_taken (line.Detach at) ms = if nat_lt at (length ms) then without at ms else ms
without_taken l ms = ms

-- The modems that were handed in and are still attached, as they were handed in.
unfoldable pub attached : List Seen → List Turn → List Seen
attached handed_in [] = handed_in
attached handed_in (t ∷ ts) = without_taken t.line (attached handed_in ts)

-- The enabled profile after each line that left the card lit, the newest first; the first line's last.
unfoldable pub enabled_lit : SmallWorld → List Turn → List (Option (List ℕ))
enabled_lit start [] = enabled_after start.history ∷ []
enabled_lit start (t ∷ ts) =
    let w = world_after start (t ∷ ts) in
    if w.lit then enabled_after w.history ∷ enabled_lit start ts else enabled_lit start ts

-- A modem that was told each of these, the newest first.
unfoldable pub told_since : List (Option (List ℕ)) → Seen → Seen
told_since [] m = m
told_since (e ∷ es) m = told_one e (told_since es m)
