use Rattle.std.proofs.Common.{◌<◌, List, Bool, sym, ap, ◌∙◌, arith, rules}
use Rattle.std.specs.Prelude.{position}
use Rattle.std.proofs.lemmas.List.{get_or_read}
use Rattle.hc_owed.proofs.FlagLists.{are-flags, first-inside, first-none, first-outside, lowest-in, one-more}
use Rattle.hc_owed.proofs.flags.Flags.first.Goals as goal

pub loop-i-preserved : goal.loop-i-preserved
loop-i-preserved c = search (rules, get_or_read, one-more)

pub returns-then-n-self : goal.returns-then-n-self
returns-then-n-self c =
    let words = c.self.inside.words in
    let len = c.self.inside.len in
    let are = are-flags words.items len words.len c.args.self.now c.self.view_is in
    let inside : c.loop-i.i < words.len = omega (arith, c.loop-i-test.true, c.len-i-end.ensures) in
    let read = get_or_read words.items c.loop-i.i c.index.result.now (omega (arith, inside, words.ok.0)) c.index.ensures 0 in
    let lowest = lowest-in words.items c.loop-i.i c.in-Some.place c.index.result.now c.loop-i.invariant read c.in-Some.ensures in
    search (rules, first-inside)

pub returns-else-n-self : goal.returns-else-n-self
returns-else-n-self c =
    let words = c.self.inside.words in
    let len = c.self.inside.len in
    let are = are-flags words.items len words.len c.args.self.now c.self.view_is in
    let inside : c.loop-i.i < words.len = omega (arith, c.loop-i-test.true, c.len-i-end.ensures) in
    let read = get_or_read words.items c.loop-i.i c.index.result.now (omega (arith, inside, words.ok.0)) c.index.ensures 0 in
    let lowest = lowest-in words.items c.loop-i.i c.in-Some.place c.index.result.now c.loop-i.invariant read c.in-Some.ensures in
    record { value = sym (ap (λ (list : List Bool). position (λ (flag : Bool). flag) list) are.list ∙ first-outside words.items c.loop-i.i c.in-Some.place len lowest c.if-n-self.false); low = tt }

pub returns : goal.returns
returns c = search (rules, are-flags, first-none)
