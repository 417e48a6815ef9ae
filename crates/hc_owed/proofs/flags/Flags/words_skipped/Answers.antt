use Rattle.std.proofs.Common.{◌+◌, ◌-◌, ◌*◌, ◌<◌, ◌≤◌, ℕ, length, List, Bool, drop, sym, ap, ◌∙◌, arith}
use Rattle.std.proofs.lemmas.List.{get_or_read}
use Rattle.std.specs.Int.RustNames.{count_ones}
use Rattle.hc_owed.specs.Flags.{nth_set}
use Rattle.hc_owed.proofs.FlagLists.{are-flags, word-skipped}
use Rattle.hc_owed.proofs.flags.Flags.words_skipped.Goals as goal

pub loop-i-preserved : goal.loop-i-preserved
loop-i-preserved c =
    let words = c.self.inside.words in
    let len = c.self.inside.len in
    let i = c.loop-i.i in
    let left = c.loop-i.left in
    let are = are-flags words.items len words.len c.args.self.now c.self.view_is in
    let inside : i < length words.items = omega (arith, c.loop-i-test.true, c.len-i-end.ensures, words.ok.0) in
    let read = get_or_read words.items i c.index.result.now inside c.index.ensures 0 in
    let few : count_ones c.index.result.now ≤ left = omega (arith, c.if-left-ones.false, c.ones_in-ones.ensures.count) in
    let skip = word-skipped words.items len i left c.index.result.now read c.ones_in-ones.ensures.word few in
    ap (λ (n : ℕ). nth_set (left - n) (64 * (i + 1)) (drop (64 * (i + 1)) c.args.self.now.list)) c.ones_in-ones.ensures.count
    ∙ ap (λ (list : List Bool). nth_set (left - count_ones c.index.result.now) (64 * (i + 1)) (drop (64 * (i + 1)) list)) are.list
    ∙ sym skip ∙ sym (ap (λ (list : List Bool). nth_set left (64 * i) (drop (64 * i) list)) are.list) ∙ c.loop-i.invariant
