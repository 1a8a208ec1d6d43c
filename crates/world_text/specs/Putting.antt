-- What a function does that appends one modem of a list.
use Rattle.std.specs.Prelude.{◌≡◌, ℕ, List, ◌++◌, length, take, Result, OnOk, OnErr}
use Rattle.std.specs.Fn.{Shared}
use denote.Ref.{Bor, MutBor}
use Rattle.iot_bytes.specs.declared.memory.NoMemory.{NoMemory}
use Rattle.modem_bank.specs.Modems.{Seen}
use Rattle.small_world.specs.Texts.{modem_entry}

-- a call that puts text behind what was there, or a front of it where memory ran out
abbrev pub Puts : List ℕ → List ℕ → Result (Unit {0}) NoMemory → List ℕ → Type 0
Puts text before result after = OnOk result (after ≡ before ++ text) × OnErr result (take (length before) after ≡ before)

-- each call of f appends one modem, as view sees it
abbrev pub PutsOne : {F T : Type 0} → Shared F (MutBor (List ℕ) × (Bor T × Unit {0})) (Result (Unit {0}) NoMemory × (MutBor (List ℕ) × Unit {0})) → F → (T → Seen) → Type 0
PutsOne {F} {T} g f view = (out : MutBor (List ℕ)) (modem : Bor T) (result : Result (Unit {0}) NoMemory) (left : MutBor (List ℕ)) → g.post f (out, (modem, tt)) (result, (left, tt)) → Puts (modem_entry (view modem.now)) out.now result left.now
