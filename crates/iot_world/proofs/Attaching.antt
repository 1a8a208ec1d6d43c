-- What a line leaves of the modems, before they are told.
use Rattle.std.proofs.Common.{◌≡◌, ◌≤◌, ◌<◌, ℕ, ◌+◌, false, cond, List, ◌++◌, length, map, refl, sym, ◌∙◌, ap, arith}
use Rattle.std.specs.Prelude.{nat_lt, drop, codes}
use Rattle.std.proofs.lemmas.Bool.{cond-true, cond-false, lt-ltb, le-ltb}
use Rattle.std.proofs.lemmas.List.{length-map, append-nil, take_all}
use Rattle.std.proofs.Math.ListN.{drop_of_length-le}
use Rattle.iot_schedule.specs.declared.types.Line.{Line}
use Rattle.iot_schedule.specs.declared.types.Line.TheVariants as line
use Rattle.modem_bank.specs.Modems.{without}
use Rattle.small_world.specs.Lines.{acted}
use Rattle.small_world.specs.Modems.{without_taken}
use Rattle.small_world.specs.Octets.{most_octets_sent, octets_sent}
use Rattle.small_world.specs.Texts.{no_such}
use Rattle.small_world.specs.Worlds.{SmallWorld}

-- a line that sends too much takes no modem away
detach_sends_none : (at : ℕ) (w : SmallWorld) → octets_sent (acted (line.Detach at) false false w) ≡ octets_sent w
unfolding acted octets_sent
detach_sends_none at w = refl

pub over_left : {A : Type 0} (w : SmallWorld) (l : Line) (xs : List A) → octets_sent w ≤ most_octets_sent → most_octets_sent < octets_sent (acted l false false w) → without_taken l xs ≡ xs
over_left w (line.Eim id) xs within over = refl
over_left w (line.Initial id address key) xs within over = refl
over_left w (line.Bind id association last) xs within over = refl
over_left w (line.Order id body) xs within over = refl
over_left w (line.Skip id) xs within over = refl
over_left w (line.Poll id) xs within over = refl
over_left w (line.Up pick) xs within over = refl
over_left w (line.Down pick good) xs within over = refl
over_left w (line.Load good bytes) xs within over = refl
over_left w line.Push xs within over = refl
over_left w (line.Probe passed) xs within over = refl
over_left w line.Rollback xs within over = refl
over_left w line.Restart xs within over = refl
over_left w (line.Cut calls tear) xs within over = refl
over_left w line.Boot xs within over = refl
over_left w line.Show xs within over = refl
over_left w (line.Kept id) xs within over = refl
over_left w (line.Detach at) xs within over = absurd (omega (arith, within, over, detach_sends_none at w))
over_left w line.Modems xs within over = refl

-- the one at a place is taken away, or there is none
pub taken_left : {A : Type 0} (at : ℕ) (xs ys : List A) → (length xs ≤ at → ⊥) → ys ≡ without at xs → ys ≡ without_taken (line.Detach at) xs
taken_left at xs ys there is = is ∙ sym (cond-true (nat_lt at (length xs)) (without at xs) xs (lt-ltb at (length xs) (omega (arith, there))))

pub none_left : {A : Type 0} (at : ℕ) (xs ys : List A) → length xs ≤ at → ys ≡ without at xs → ys ≡ without_taken (line.Detach at) xs
none_left at xs ys few is =
    let all : without at xs ≡ xs = ap (λ zs. zs ++ drop (at + 1) xs) (take_all at xs few) ∙ ap (λ zs. xs ++ zs) (drop_of_length-le xs (omega arith)) ∙ append-nil xs in
    is ∙ all ∙ sym (cond-false (nat_lt at (length xs)) (without at xs) xs (le-ltb at (length xs) few))

-- what is printed of it
pub taken_text : {A B : Type 0} (view : A → B) (at : ℕ) (xs : List A) (ms : List B) → map view xs ≡ ms → (length xs ≤ at → ⊥) → codes "detached" ≡ cond (nat_lt at (length ms)) (codes "detached") no_such
taken_text view at xs ms same there =
    let many : length ms ≡ length xs = ap length (sym same) ∙ length-map xs view in
    sym (cond-true (nat_lt at (length ms)) (codes "detached") no_such (lt-ltb at (length ms) (omega (arith, there, many))))

pub none_text : {A B : Type 0} (view : A → B) (at : ℕ) (xs : List A) (ms : List B) → map view xs ≡ ms → length xs ≤ at → no_such ≡ cond (nat_lt at (length ms)) (codes "detached") no_such
none_text view at xs ms same few =
    let many : length ms ≡ length xs = ap length (sym same) ∙ length-map xs view in
    sym (cond-false (nat_lt at (length ms)) (codes "detached") no_such (le-ltb at (length ms) (omega (arith, few, many))))
