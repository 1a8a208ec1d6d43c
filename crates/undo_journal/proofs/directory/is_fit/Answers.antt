use Rattle.std.proofs.Common.{◌≡◌, ℕ, ◌+◌, ◌-◌, ◌*◌, sym, ◌∙◌, ap, arith, length, get_or, false}
use Rattle.undo_journal.specs.Home.{count_of, entries}
use Rattle.undo_journal.proofs.Listing.{few_or_many, fit_is, rising_on, rising_ends, rises_last, last_test, entries_at, length-entries}
use Rattle.undo_journal.proofs.directory.is_fit.Goals as goal

pub returns-then-not-is_count : goal.returns-then-not-is_count
returns-then-not-is_count c = sym (few_or_many c.args.directory.now c.count-count.result c.count-count.ensures (sym c.is_count.ensures.test ∙ c.if-not-is_count.true))

pub returns-then-entry : goal.returns-then-entry
returns-then-entry c =
    let D = c.args.directory.now in
    let at = c.loop-at.at in
    let m : c.count-count.result ≡ count_of D = c.count-count.ensures in
    let len : length (entries D) ≡ count_of D = length-entries D (omega arith) in
    let next : 2 + 2 * (at + 1) ≡ 2 * at + 4 = omega arith in
    sym (fit_is D false (omega arith) (omega arith) (c.loop-at.invariant ∙ rising_ends (entries D) at c.entry.result c.entry-in-loop-at.result (omega arith)
    (c.entry.ensures ∙ sym (entries_at D at (omega arith) (omega arith)))
    (c.entry-in-loop-at.ensures ∙ sym (entries_at D (at + 1) (omega arith) (omega arith)))
    c.if-entry.true))

pub loop-at-preserved : goal.loop-at-preserved
loop-at-preserved c =
    let D = c.args.directory.now in
    let at = c.loop-at.at in
    let m : c.count-count.result ≡ count_of D = c.count-count.ensures in
    let len : length (entries D) ≡ count_of D = length-entries D (omega arith) in
    c.loop-at.invariant ∙ rising_on (entries D) at c.entry.result c.entry-in-loop-at.result (omega arith)
    (c.entry.ensures ∙ sym (entries_at D at (omega arith) (omega arith)))
    (c.entry-in-loop-at.ensures ∙ sym (entries_at D (at + 1) (omega arith) (omega arith)))
    c.if-entry.false

pub returns : goal.returns
returns c =
    let D = c.args.directory.now in
    let at = c.loop-at.at in
    let m : c.count-count.result ≡ count_of D = c.count-count.ensures in
    let len : length (entries D) ≡ count_of D = length-entries D (omega arith) in
    let last : c.count-count.result - 1 ≡ at = omega arith in
    let read : c.entry-2.result ≡ get_or (entries D) at 0 = c.entry-2.ensures ∙ ap (λ (k : ℕ). 256 * get_or D (2 + 2 * k) 0 + get_or D (3 + 2 * k) 0) last ∙ sym (entries_at D at (omega arith) (omega arith)) in
    sym (fit_is D _ (omega arith) (omega arith) (c.loop-at.invariant ∙ rises_last (entries D) at (omega arith) ∙ last_test _ _ read))
