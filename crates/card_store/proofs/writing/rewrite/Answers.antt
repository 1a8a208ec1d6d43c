use Rattle.std.proofs.Common.{◌≡◌, ◌⊎◌, ⊎_elim, inl, inr, arith, List, ℕ, ◌∙◌, sym, refl, ap}
use Rattle.std.specs.Prelude.{Some}
use Rattle.chip_port.specs.Seen.{Seen}
use Rattle.chip_port.proofs.Runs.{ran_none, ran_then, ran_most, not_ok}
use Rattle.undo_journal.specs.Home.{home, home_in, put_back}
use Rattle.undo_journal.proofs.Gates.{home_shut}
use Rattle.card_store.proofs.writing.rewrite.Goals as goal

-- before or after
abbrev Either : Seen → List ℕ → List ℕ → List ℕ → Type 0
Either s blocks octets i = (home i ≡ home s.reads) ⊎ (home i ≡ Some (put_back blocks octets (home_in s.reads)))

pub returns-in_err-recorded-clause-told : goal.returns-in_err-recorded-clause-told
returns-in_err-recorded-clause-told g c = λ told.
    let s0 = g.C.Chip.sees c.args.chip.now in
    let idle = c.requires.idle told in
    let start = ran_none (Either s0 c.args.blocks c.args.octets.now) s0 told (λ i was. inl (ap home (idle.settled i was))) in
    let k = (c.in_err-recorded.ensures.told told) in
    rw (not_ok _ c.from_residual.ensures.0) (record { ran = ran_most (omega arith) (ran_then start k.ran (λ i e. inl e)); idle = λ ok. absurd (cc ok); home_now = λ ok. absurd (cc ok) })

pub returns-in_err-opened-clause-told : goal.returns-in_err-opened-clause-told
returns-in_err-opened-clause-told g c = λ told.
    let s0 = g.C.Chip.sees c.args.chip.now in
    let idle = c.requires.idle told in
    let was = home_shut s0.reads idle.front idle.shut in
    let start = ran_none (Either s0 c.args.blocks c.args.octets.now) s0 told (λ i was. inl (ap home (idle.settled i was))) in
    let k = c.in_ok-recorded.ensures.told told in
    let kept_run = ran_then start k.ran (λ i e. inl e) in
    let o = (rw (c.in_ok-recorded.ensures.same) at (c.in_err-opened.ensures.told k.ran.told)) (home_in s0.reads) (k.recorded refl) in
    rw (not_ok _ c.from_residual-in_err-opened.ensures.0) (record { ran = ran_most (omega arith) (ran_then kept_run o.ran (λ i e. inl (e ∙ sym was))); idle = λ ok. absurd (cc ok); home_now = λ ok. absurd (cc ok) })

pub returns-in_err-write_blocks-clause-told : goal.returns-in_err-write_blocks-clause-told
returns-in_err-write_blocks-clause-told g c = λ told.
    let s0 = g.C.Chip.sees c.args.chip.now in
    let idle = c.requires.idle told in
    let was = home_shut s0.reads idle.front idle.shut in
    let start = ran_none (Either s0 c.args.blocks c.args.octets.now) s0 told (λ i was. inl (ap home (idle.settled i was))) in
    let k = c.in_ok-recorded.ensures.told told in
    let kept_run = ran_then start k.ran (λ i e. inl e) in
    let o = (rw (c.in_ok-recorded.ensures.same) at (c.in_ok-opened.ensures.told k.ran.told)) (home_in s0.reads) (k.recorded refl) in
    let opened_run = ran_then kept_run o.ran (λ i e. inl (e ∙ sym was)) in
    let same = c.in_ok-opened.ensures.same ∙ c.in_ok-recorded.ensures.same in
    let w = (rw (c.blocks-2.ensures ∙ same, same) at (c.in_err-write_blocks.ensures.told o.ran.told)) (home_in s0.reads) (o.opened refl) in
    rw (not_ok _ c.from_residual-in_err-write_blocks.ensures.0) (record { ran = ran_most (omega arith) (ran_then opened_run w.ran (λ i e. inl (e ∙ sym was))); idle = λ ok. absurd (cc ok); home_now = λ ok. absurd (cc ok) })

pub returns-clause-told : goal.returns-clause-told
returns-clause-told g c = λ told.
    let s0 = g.C.Chip.sees c.args.chip.now in
    let blocks = c.args.blocks in
    let octets = c.args.octets.now in
    let idle = c.requires.idle told in
    let was = home_shut s0.reads idle.front idle.shut in
    let start = ran_none (Either s0 blocks octets) s0 told (λ i was. inl (ap home (idle.settled i was))) in
    let k = c.in_ok-recorded.ensures.told told in
    let kept_run = ran_then start k.ran (λ i e. inl e) in
    let o = (rw (c.in_ok-recorded.ensures.same) at (c.in_ok-opened.ensures.told k.ran.told)) (home_in s0.reads) (k.recorded refl) in
    let opened_run = ran_then kept_run o.ran (λ i e. inl (e ∙ sym was)) in
    let same = c.in_ok-opened.ensures.same ∙ c.in_ok-recorded.ensures.same in
    let w = (rw (c.blocks-2.ensures ∙ same, same) at (c.in_ok-write_blocks.ensures.told o.ran.told)) (home_in s0.reads) (o.opened refl) in
    let written_run = ran_then opened_run w.ran (λ i e. inl (e ∙ sym was)) in
    let written = w.home_now refl ∙ ap (λ (l : List ℕ). put_back blocks octets l) (o.home_now refl) in
    let closed = (rw same at (c.close_gate.ensures.told w.ran.told)) (home_in s0.reads) w.opened in
    record {
      ran = ran_most (omega arith) (ran_then written_run closed.ran (λ i e. ⊎_elim (λ old. inl (old ∙ sym was)) (λ new. inr (new ∙ ap (λ (l : List ℕ). Some l) written)) e));
      idle = closed.idle;
      home_now = λ ok. closed.home_now ok ∙ written;
    }
