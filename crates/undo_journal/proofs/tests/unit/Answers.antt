use Rattle.std.proofs.Common.{◌≡◌, ◌⊎◌, ⊎_elim, inl, inr, ℕ, List, ◌∙◌, ap, sym, refl, subst, arith, length, true, false}
use Rattle.std.specs.Prelude.{Some}
use Rattle.chip_port.specs.Seen.{Seen}
use Rattle.chip_port.specs.Rules.{put}
use Rattle.chip_port.specs.Runs.{Ran}
use Rattle.chip_port.proofs.Runs.{ran_none, ran_then, ran_most, not_ok}
use Rattle.undo_journal.specs.Home.{home, home_in}
use Rattle.undo_journal.specs.States.{Has, IsIdle}
use Rattle.undo_journal.specs.Example.{with_two}
use Rattle.undo_journal.proofs.Idle.{idle_home}
use Rattle.std.proofs.lemmas.List.FromFn.{length-range_with_len}
use Rattle.undo_journal.proofs.Counting.{all_have}
use Rattle.undo_journal.proofs.tests.unit.Goals as goal

-- the home before, or the one with both blocks
abbrev P : List ℕ → List ℕ → Seen → List ℕ → Type 0
P first last s i = (home i ≡ home s.reads) ⊎ (home i ≡ Some (with_two first last (home_in s.reads)))

start : (first last : List ℕ) (s : Seen) → s.told ≡ true → IsIdle s → Ran 0 true (P first last s) s s
start first last s told idle = ran_none (P first last s) s told (λ i was. inl (ap home (idle.settled i was)))

-- nothing is owed of a success after a failure
failed : {X : Type 0} → false ≡ true → X
failed e = absurd (cc e)

pub write_home-requires-clause-kept : goal.write_home-requires-clause-kept
write_home-requires-clause-kept g c =
    subst (λ (l : List ℕ). Has 0 l) (sym (c.in_ok-opened.ensures.same ∙ c.in_ok-recorded.ensures.same ∙ c.requires.blocks)) (all_have 0 (omega arith))

pub write_home-requires-2-clause-kept : goal.write_home-requires-2-clause-kept
write_home-requires-2-clause-kept g c =
    subst (λ (l : List ℕ). Has 672 l) (sym (c.in_ok-opened.ensures.same ∙ c.in_ok-recorded.ensures.same ∙ c.requires.blocks)) (all_have 672 (omega arith))

pub returns-in_err-recorded-clause-told : goal.returns-in_err-recorded-clause-told
returns-in_err-recorded-clause-told g c = λ told.
    let s0 = g.C.Chip.sees c.args.chip.now in
    let len = ap length c.requires.blocks ∙ length-range_with_len 0 673 in
    let k = c.in_err-recorded.ensures.told told in
    let run = ran_then {ok = false} (start c.args.first.now c.args.last.now s0 told (c.requires.idle told)) k.ran (λ i e. inl e) in
    rw (not_ok _ c.from_residual.ensures.0) (record { ran = ran_most (omega (arith, len)) run; idle = failed; home_now = failed })

pub returns-in_err-opened-clause-told : goal.returns-in_err-opened-clause-told
returns-in_err-opened-clause-told g c = λ told.
    let s0 = g.C.Chip.sees c.args.chip.now in
    let idle = c.requires.idle told in
    let was = idle_home s0 idle in
    let len = ap length c.requires.blocks ∙ length-range_with_len 0 673 in
    let k = c.in_ok-recorded.ensures.told told in
    let kept = ran_then {ok = true} (start c.args.first.now c.args.last.now s0 told idle) k.ran (λ i e. inl e) in
    let o = (rw c.in_ok-recorded.ensures.same at (c.in_err-opened.ensures.told kept.told)) (home_in s0.reads) (k.recorded refl) in
    let run = ran_then {ok = false} kept o.ran (λ i e. inl (e ∙ sym was)) in
    rw (not_ok _ c.from_residual-in_err-opened.ensures.0) (record { ran = ran_most (omega (arith, len)) run; idle = failed; home_now = failed })

pub returns-in_err-write_home-clause-told : goal.returns-in_err-write_home-clause-told
returns-in_err-write_home-clause-told g c = λ told.
    let s0 = g.C.Chip.sees c.args.chip.now in
    let H = home_in s0.reads in
    let idle = c.requires.idle told in
    let was = idle_home s0 idle in
    let len = ap length c.requires.blocks ∙ length-range_with_len 0 673 in
    let k = c.in_ok-recorded.ensures.told told in
    let kept = ran_then {ok = true} (start c.args.first.now c.args.last.now s0 told idle) k.ran (λ i e. inl e) in
    let o = (rw c.in_ok-recorded.ensures.same at (c.in_ok-opened.ensures.told kept.told)) H (k.recorded refl) in
    let opened = ran_then {ok = true} kept o.ran (λ i e. inl (e ∙ sym was)) in
    let same = c.in_ok-opened.ensures.same ∙ c.in_ok-recorded.ensures.same in
    let w = (rw same at (c.in_err-write_home.ensures.told opened.told)) H (o.opened refl) in
    let run = ran_then {ok = false} opened w.ran (λ i e. inl (e ∙ sym was)) in
    rw (not_ok _ c.from_residual-in_err-write_home.ensures.0) (record { ran = ran_most (omega (arith, len)) run; idle = failed; home_now = failed })

pub returns-in_err-write_home-2-clause-told : goal.returns-in_err-write_home-2-clause-told
returns-in_err-write_home-2-clause-told g c = λ told.
    let s0 = g.C.Chip.sees c.args.chip.now in
    let H = home_in s0.reads in
    let idle = c.requires.idle told in
    let was = idle_home s0 idle in
    let len = ap length c.requires.blocks ∙ length-range_with_len 0 673 in
    let k = c.in_ok-recorded.ensures.told told in
    let kept = ran_then {ok = true} (start c.args.first.now c.args.last.now s0 told idle) k.ran (λ i e. inl e) in
    let o = (rw c.in_ok-recorded.ensures.same at (c.in_ok-opened.ensures.told kept.told)) H (k.recorded refl) in
    let opened = ran_then {ok = true} kept o.ran (λ i e. inl (e ∙ sym was)) in
    let same = c.in_ok-opened.ensures.same ∙ c.in_ok-recorded.ensures.same in
    let w = (rw same at (c.in_ok-write_home.ensures.told opened.told)) H (o.opened refl) in
    let one = ran_then {ok = true} opened w.ran (λ i e. inl (e ∙ sym was)) in
    let v = (rw same at (c.in_err-write_home-2.ensures.told one.told)) H w.opened in
    let run = ran_then {ok = false} one v.ran (λ i e. inl (e ∙ sym was)) in
    rw (not_ok _ c.from_residual-in_err-write_home-2.ensures.0) (record { ran = ran_most (omega (arith, len)) run; idle = failed; home_now = failed })

pub returns-clause-told : goal.returns-clause-told
returns-clause-told g c = λ told.
    let s0 = g.C.Chip.sees c.args.chip.now in
    let H = home_in s0.reads in
    let first = c.args.first.now in
    let last = c.args.last.now in
    let idle = c.requires.idle told in
    let was = idle_home s0 idle in
    let len = ap length c.requires.blocks ∙ length-range_with_len 0 673 in
    let k = c.in_ok-recorded.ensures.told told in
    let kept = ran_then {ok = true} (start first last s0 told idle) k.ran (λ i e. inl e) in
    let o = (rw c.in_ok-recorded.ensures.same at (c.in_ok-opened.ensures.told kept.told)) H (k.recorded refl) in
    let opened = ran_then {ok = true} kept o.ran (λ i e. inl (e ∙ sym was)) in
    let same = c.in_ok-opened.ensures.same ∙ c.in_ok-recorded.ensures.same in
    let w = (rw same at (c.in_ok-write_home.ensures.told opened.told)) H (o.opened refl) in
    let one = ran_then {ok = true} opened w.ran (λ i e. inl (e ∙ sym was)) in
    let v = (rw same at (c.in_ok-write_home-2.ensures.told one.told)) H w.opened in
    let two = ran_then {ok = true} one v.ran (λ i e. inl (e ∙ sym was)) in
    let both = v.home_now refl ∙ ap (λ (h : List ℕ). put h 172032 last) (w.home_now refl ∙ ap (λ (h : List ℕ). put h 0 first) (o.home_now refl)) in
    let closed = (rw same at (c.close_gate.ensures.told two.told)) H v.opened in
    record {
      ran = ran_most (omega (arith, len)) (ran_then two closed.ran (λ i either. ⊎_elim (λ e. inl (e ∙ sym was)) (λ e. inr (e ∙ ap (λ (h : List ℕ). Some h) both)) either));
      idle = closed.idle;
      home_now = λ ok. idle_home _ (closed.idle ok) ∙ ap (λ (h : List ℕ). Some h) (closed.home_now ok ∙ both);
    }
