-- The calls that change a store, and what they make of it and of each result.
use Rattle.std.specs.Prelude.{ℕ, ◌≡◌, ◌≢◌, ◌≤◌, true, List, [], ◌∷◌, ◌++◌, if◌then◌else◌, Option, Some, None}
use Rattle.small_card.specs.Cards.{Results}
use Rattle.small_card.specs.Checks.{has_room}
use Rattle.small_card.specs.Packages.{with_result}
use Rattle.small_card.specs.Units.{has_seq, is_pending, without_result, with_mark, marked}
use Rattle.small_card.specs.declared.types.Item.{Item}
use Rattle.small_card.specs.declared.types.PackageResult.{PackageResult}
use Rattle.result_store.specs.Stores.{numbered, passed}

-- A call puts a result (eIM, association, counter, items), removes or marks one, or passes a number.
pub data Call : Type 0 where
  put : List ℕ → ℕ → ℕ → List Item → Call
  remove : ℕ → Call
  mark_rolled : ℕ → Call
  pass_number : Call

-- What a call makes of the store.
abbrev pub after_call : Results → Call → Results
after_call rs (put eim association counter items) = with_result (numbered rs.next eim association counter items) rs
after_call rs (remove seq) = without_result seq rs
after_call rs (mark_rolled seq) = marked seq rs
after_call rs pass_number = passed rs

-- The calls are made in turn.
unfoldable pub after_calls : Results → List Call → Results
after_calls rs [] = rs
after_calls rs (c ∷ cs) = after_calls (after_call rs c) cs

-- A call may be made where its condition holds: room, a pending result and a number that is left.
unfoldable pub MayCall : Results → Call → Type 0
MayCall rs (put eim association counter items) = has_room rs ≡ true
MayCall rs (remove seq) = Unit {0}
MayCall rs (mark_rolled seq) = (is_pending seq rs.pending ≡ true) × (rs.next ≤ 4294967294)
MayCall rs pass_number = rs.next ≤ 4294967294

-- Each call may be made after those before it.
unfoldable pub May : Results → List Call → Type 0
May rs [] = Unit {0}
May rs (c ∷ cs) = MayCall rs c × May (after_call rs c) cs

-- A removal of its number ends a result, a mark of its number marks it, and no other call touches it.
unfoldable pub touched : ℕ → PackageResult → Call → Option PackageResult
touched next r (put eim association counter items) = Some r
touched next r (remove seq) = if has_seq seq r then None else Some r
touched next r (mark_rolled seq) = if has_seq seq r then Some (with_mark next r) else Some r
touched next r pass_number = Some r

-- A result as it stands after the calls, or none once it was removed.
unfoldable pub stands : Results → List Call → Option PackageResult → Option PackageResult
stands rs cs None = None
stands rs [] (Some r) = Some r
stands rs (c ∷ cs) (Some r) = stands (after_call rs c) cs (touched rs.next r c)

-- A call names no such number.
pub record IsUntouched (seq : ℕ) (c : Call) : Type 0 where
  pub kept : c ≢ remove seq
  pub unmarked : c ≢ mark_rolled seq

-- A put, a mark and a pass give the next number out.
unfoldable pub gives_out : Results → Call → List ℕ
gives_out rs (put eim association counter items) = rs.next ∷ []
gives_out rs (remove seq) = []
gives_out rs (mark_rolled seq) = rs.next ∷ []
gives_out rs pass_number = rs.next ∷ []

-- The numbers that the calls give out, in their order.
unfoldable pub given_out : Results → List Call → List ℕ
given_out rs [] = []
given_out rs (c ∷ cs) = gives_out rs c ++ given_out (after_call rs c) cs
