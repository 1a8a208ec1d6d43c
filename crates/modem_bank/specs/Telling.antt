-- What a function does that tells one modem of a list.
use Rattle.std.specs.Prelude.{◌≡◌, ℕ, List, Option, true}
use Rattle.std.specs.Fn.{Shared}
use denote.Ref.{Bor, MutBor}
use Rattle.modem_bank.specs.Modems.{Seen, is_shown, told_one}

-- each call of f tells one modem, as view sees it
abbrev pub TellsOne : {F T : Type 0} → Shared F (MutBor T × (Bor (Option (List ℕ)) × Unit {0})) (Unit {0} × (MutBor T × Unit {0})) → F → (T → Seen) → Type 0
TellsOne {F} {T} g f view = (modem : MutBor T) (now : Bor (Option (List ℕ))) (left : MutBor T) → g.post f (modem, (now, tt)) (tt, (left, tt)) → view left.now ≡ told_one now.now (view modem.now)

-- no call of f changes a modem that shows what is enabled now
abbrev pub KeepsOne : {F T : Type 0} → Shared F (MutBor T × (Bor (Option (List ℕ)) × Unit {0})) (Unit {0} × (MutBor T × Unit {0})) → F → (T → Option (List ℕ)) → Type 0
KeepsOne {F} {T} g f shown = (modem : MutBor T) (now : Bor (Option (List ℕ))) (left : MutBor T) → g.post f (modem, (now, tt)) (tt, (left, tt)) → is_shown (shown modem.now) now.now ≡ true → left.now ≡ modem.now
