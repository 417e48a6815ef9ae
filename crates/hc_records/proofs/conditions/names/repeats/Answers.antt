use Rattle.std.proofs.Common.{◌≡◌, Bool, true, false, not, sym, ◌∙◌, refl}
use Rattle.std.specs.Ordering.{nat_cmp}
use Rattle.std.specs.BTreeSet.{contains}
use Rattle.std.proofs.lemmas.List.{drop_more}
use Rattle.hc_records.proofs.Seen.{none_seen, seen_again, seen_more}
use Rattle.hc_records.proofs.conditions.names.repeats.Goals as goal

-- `insert` answers whether the number is new
was_there : (added held : Bool) → added ≡ not held → added ≡ false → held ≡ true
was_there added true e f = refl
was_there added false e f = cc

was_new : (added held : Bool) → added ≡ not held → added ≡ true → held ≡ false
was_new added true e f = cc
was_new added false e f = refl

pub loop-number-init : goal.loop-number-init
loop-number-init c =
    rw (none_seen (λ q. contains nat_cmp c.new-seen.result q) c.args.numbers.now (λ q. rw c.new-seen.ensures.empty refl)) refl

pub loop-number-preserved : goal.loop-number-preserved
loop-number-preserved c =
    let left = rw (drop_more c.args.numbers.now c.loop-number.number-index 0 c.loop-number-test.true) at c.loop-number.invariant in
    sym (seen_more (λ q. contains nat_cmp c.loop-number.seen q) (λ q. contains nat_cmp c.insert.new.self q) _ _ c.in_ok-insert.ensures.updates.0
    (was_new _ _ c.in_ok-insert.ensures.added c.if-not-branch.false)) ∙ left

pub returns-then-not-branch : goal.returns-then-not-branch
returns-then-not-branch c =
    let left = rw (drop_more c.args.numbers.now c.loop-number.number-index 0 c.loop-number-test.true) at c.loop-number.invariant in
    sym (seen_again (λ q. contains nat_cmp c.loop-number.seen q) _ _ (was_there _ _ c.in_ok-insert.ensures.added c.if-not-branch.true)) ∙ left
