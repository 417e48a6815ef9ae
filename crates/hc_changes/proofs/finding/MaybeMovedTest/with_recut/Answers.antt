use Rattle.std.proofs.Common.{◌≡◌, ◌∙◌, ◌+◌, ℕ, false, true, subst, sym, arith, rules}
use Rattle.std.specs.Prelude.{slice_index_or}
use Rattle.std.proofs.lemmas.Bool.{and_from}
use Rattle.hc_records.specs.declared.keys.Key.{Key}
use Rattle.hc_records.specs.declared.keys.TheConstants.Key.{START, END}
use Rattle.hc_records.specs.Keys.{is_before, is_within}
use Rattle.hc_cuts.specs.Areas.{areas_by_rank}
use Rattle.hc_changes.specs.declared.ranks.Ranks.{Ranks}
use Rattle.hc_changes.specs.inner.Found.{HoldRanks, IsMaybeMovedTest}
use Rattle.hc_changes.specs.EditedLine.{EditedLine}
use Rattle.hc_changes.proofs.lemmas.Finding.{unchanged-is}
use Rattle.hc_changes.proofs.lemmas.FoundWithin.{HoldFirst, IsUnkeptIn, from-higher, held-next, none-unkept, recut-held, same-read}
use Rattle.hc_changes.proofs.finding.MaybeMovedTest.with_recut.Goals as goal
use Rattle.hc_changes.proofs.finding.MaybeMovedTest.with_recut.Goals.{else-is_before, then-is_before}

-- the ranks so far
abbrev HoldSoFar : EditedLine → ℕ → ℕ → Ranks → Ranks → Type 0
HoldSoFar it task count given all = record {
  own : HoldRanks all.low all.high given.low given.high;
  first : HoldFirst it task count all.low all.high;
}

pub loop-number-preserved : goal.loop-number-preserved
loop-number-preserved c =
    let it = c.args.self.now in
    let test : IsMaybeMovedTest it c.self.inside.before.now c.self.inside.cuts.now = search rules in
    let number = c.loop-number.number in
    let task = c.args.task in
    let starts = c.starts-starts.result.now in
    let inputs = c.has_inputs-inputs.result in
    let until = c.unchanged_until-until.result in
    let from = c.higher-from.result in
    let low = c.loop-number.all.low in
    let high = c.loop-number.all.high in
    let own : HoldRanks low high c.args.ranks.low c.args.ranks.high = c.loop-number.invariant.own in
    let are_placed = c.starts-starts.ensures.starts (areas_by_rank it.new) test.applied in
    let answer_given = c.has_inputs-inputs.ensures (areas_by_rank it.new) test.applied in
    let above : (key : Key) → IsUnkeptIn it task number starts inputs key → is_within from key ≡ true =
    λ key is.
    from-higher it task number starts inputs until from key is
    (unchanged-is it c.self.inside.before.now c.self.inside.cuts.now test task number until c.unchanged_until-until.ensures)
    (λ k first unchanged.
    let start = slice_index_or starts number START in
    let own : is_within start k ≡ true = subst (λ (other : Key). is_within other k ≡ true) (same-read starts number END START c.loop-number-test.true) first in
    c.higher-from.ensures k ∙ and_from (is_within start k) (is_within until k) own unchanged) in
    elim c.if-is_before.branch [
      | then-is_before w ↦
          let wide = w.joined-all.result in
          let joined = w.joined-all.ensures in
          subst (λ (all : Ranks). HoldSoFar it task (number + 1) c.args.ranks all) (sym w.all-is)
          (record {
            own = (omega (arith, own, joined.own), omega (arith, own, joined.own));
            first =
                held-next it task number low high wide.low wide.high starts inputs test.is are_placed answer_given joined.own
                (λ key narrow is.
                let between = w.between.ensures key
                (record {
                  rank = narrow;
                  outputs = is.output;
                  from_on = above key is;
                  before = subst (λ (to : Key). is_before key to ≡ true) (sym c.start_at-next.ensures) is.next;
                }) in
                let others = joined.others in
                (omega (arith, between, others), omega (arith, between, others)))
                c.loop-number.invariant.first;
          })
      | else-is_before w ↦
          let none : is_before from (slice_index_or starts (number + 1) END) ≡ false = search rules in
          subst (λ (all : Ranks). HoldSoFar it task (number + 1) c.args.ranks all) (sym w.all-is)
          (record {
            own = own;
            first =
                held-next it task number low high low high starts inputs test.is are_placed answer_given (omega arith, omega arith)
                (λ key narrow is. absurd (none-unkept it task number starts inputs from key is (above key is) none)) c.loop-number.invariant.first;
          })
    ]

pub returns-clause-recut : goal.returns-clause-recut
returns-clause-recut c =
    let it = c.args.self.now in
    let test : IsMaybeMovedTest it c.self.inside.before.now c.self.inside.cuts.now = search rules in
    recut-held it c.args.task c.loop-number.number c.loop-number.all.low c.loop-number.all.high c.starts-starts.result.now test.is
    (c.starts-starts.ensures.starts (areas_by_rank it.new) test.applied) c.loop-number-test.false c.loop-number.invariant.first
