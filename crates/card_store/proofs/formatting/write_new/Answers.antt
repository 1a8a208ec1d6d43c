use Rattle.std.proofs.Common.{◌≡◌, ◌⊎◌, ⊎_elim, inl, inr, ◌∙◌, ap, sym, refl, arith, true, false, ℕ, List}
use Rattle.std.specs.Prelude.{Some, None}
use Rattle.chip_port.specs.Seen.{Seen}
use Rattle.chip_port.specs.PastLaws.{torn_same}
use Rattle.chip_port.proofs.Runs.{ran_none, ran_then, ran_most, not_ok}
use Rattle.undo_journal.specs.Home.{home}
use Rattle.card_store.specs.Formatting.{ButForMagic}
use Rattle.card_store.proofs.Making.{unhomed}
use Rattle.card_store.proofs.formatting.write_new.Goals as goal

-- an image before without its magic, no home, or the new one
abbrev Between : List ℕ → Seen → List ℕ → Type 0
Between blocks s i = ButForMagic s i ⊎ ((home i ≡ None) ⊎ (home i ≡ Some blocks))

pub fill-requires-clause-alone : goal.fill-requires-clause-alone
fill-requires-clause-alone g c = λ told. let e = c.in_ok-erase.ensures in (e.told (sym e.cause.told ∙ told)).alone refl

pub fill-requires-clause-blank : goal.fill-requires-clause-blank
fill-requires-clause-blank g c = λ told. let e = c.in_ok-erase.ensures in (e.told (sym e.cause.told ∙ told)).blank refl

pub sign-requires-clause-alone : goal.sign-requires-clause-alone
sign-requires-clause-alone g c = λ told. let f = c.in_ok-fill.ensures in (f.told (sym f.cause.told ∙ told)).alone refl

pub sign-requires-clause-shut : goal.sign-requires-clause-shut
sign-requires-clause-shut g c = λ told. let f = c.in_ok-fill.ensures in (f.told (sym f.cause.told ∙ told)).shut refl

pub returns-in_err-erase-clause-told : goal.returns-in_err-erase-clause-told
returns-in_err-erase-clause-told g c = λ told.
    let s0 = g.C.Chip.sees c.args.chip.now in
    let blocks = c.args.home.now in
    let start = ran_none (Between blocks s0) s0 told (λ i was. inl (i, was, torn_same 0 8 i)) in
    let e = c.in_err-erase.ensures.told told in
    rw (not_ok _ c.from_residual.ensures.0) (record {
      ran = ran_most (omega arith) (ran_then {ok = false} start e.ran (λ i but. inl but));
      idle = λ ok. absurd (cc ok);
      home_now = λ ok. absurd (cc ok);
    })

pub returns-in_err-fill-clause-told : goal.returns-in_err-fill-clause-told
returns-in_err-fill-clause-told g c = λ told.
    let s0 = g.C.Chip.sees c.args.chip.now in
    let blocks = c.args.home.now in
    let start = ran_none (Between blocks s0) s0 told (λ i was. inl (i, was, torn_same 0 8 i)) in
    let e = c.in_ok-erase.ensures.told told in
    let one = ran_then {ok = true} start e.ran (λ i but. inl but) in
    let f = c.in_err-fill.ensures.told e.ran.told in
    rw (not_ok _ c.from_residual-in_err-fill.ensures.0) (record {
      ran = ran_most (omega arith) (ran_then {ok = false} one f.ran (λ i none. unhomed blocks s0 i none));
      idle = λ ok. absurd (cc ok);
      home_now = λ ok. absurd (cc ok);
    })

pub returns-clause-told : goal.returns-clause-told
returns-clause-told g c = λ told.
    let s0 = g.C.Chip.sees c.args.chip.now in
    let blocks = c.args.home.now in
    let start = ran_none (Between blocks s0) s0 told (λ i was. inl (i, was, torn_same 0 8 i)) in
    let e = c.in_ok-erase.ensures.told told in
    let one = ran_then {ok = true} start e.ran (λ i but. inl but) in
    let f = c.in_ok-fill.ensures.told e.ran.told in
    let two = ran_then {ok = true} one f.ran (λ i none. unhomed blocks s0 i none) in
    let s = c.sign.ensures.told f.ran.told in
    let there = f.home_now refl in
    record {
      ran = ran_then two s.ran (λ i either. inr (⊎_elim inl (λ same. inr (same ∙ ap (λ (l : List ℕ). Some l) there)) either));
      idle = s.idle;
      home_now = λ ok. s.home_now ok ∙ there;
    }
