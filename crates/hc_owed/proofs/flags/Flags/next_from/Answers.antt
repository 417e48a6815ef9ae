use Rattle.std.proofs.Common.{◌+◌, ◌<◌, ◌*◌, List, Bool, drop, sym, ap, ◌∙◌, arith}
use Rattle.std.specs.List.{position_from}
use Rattle.std.proofs.lemmas.List.{get_or_read}
use Rattle.hc_owed.proofs.FlagLists.{are-flags, clear-below_from, next-none, next-some, set-place_from}
use Rattle.hc_owed.proofs.flags.Flags.next_from.Goals as goal

pub returns-then-n-self-clause-value : goal.returns-then-n-self-clause-value
returns-then-n-self-clause-value c =
    let words = c.self.inside.words in
    let len = c.self.inside.len in
    let i = c.loop-i.i in
    let place = c.in-Some.place in
    let are = are-flags words.items len words.len c.args.self.now c.self.view_is in
    let inside : i < words.len = omega (arith, c.loop-i-test.true, c.len-i-end.ensures) in
    let read = get_or_read words.items i c.index.result.now (omega (arith, inside, words.ok.0)) c.index.ensures 0 in
    let lowest = c.in-Some.ensures in
    let first = c.saturating_sub-first.ensures in
    let from = lowest.from in
    sym (ap (λ (list : List Bool). position_from (λ (flag : Bool). flag) c.args.from (drop c.args.from list)) are.list
    ∙ next-some words.items c.args.from len (64 * i + place) (omega (arith, from, first)) c.if-n-self.true
    (set-place_from words.items i c.saturating_sub-first.result c.index.result.now place read lowest)
    (clear-below_from words.items c.args.from i c.saturating_sub-first.result c.index.result.now place read first lowest c.loop-i.invariant))

pub returns-then-n-self-clause-low : goal.returns-then-n-self-clause-low
returns-then-n-self-clause-low c =
    let words = c.self.inside.words in
    let are = are-flags words.items c.self.inside.len words.len c.args.self.now c.self.view_is in
    omega (arith, c.if-n-self.true, are.length)

pub returns-else-n-self-clause-value : goal.returns-else-n-self-clause-value
returns-else-n-self-clause-value c =
    let words = c.self.inside.words in
    let len = c.self.inside.len in
    let i = c.loop-i.i in
    let place = c.in-Some.place in
    let are = are-flags words.items len words.len c.args.self.now c.self.view_is in
    let inside : i < words.len = omega (arith, c.loop-i-test.true, c.len-i-end.ensures) in
    let read = get_or_read words.items i c.index.result.now (omega (arith, inside, words.ok.0)) c.index.ensures 0 in
    sym (ap (λ (list : List Bool). position_from (λ (flag : Bool). flag) c.args.from (drop c.args.from list)) are.list
    ∙ next-none words.items c.args.from (64 * i + place) len
    (clear-below_from words.items c.args.from i c.saturating_sub-first.result c.index.result.now place read c.saturating_sub-first.ensures c.in-Some.ensures c.loop-i.invariant)
    c.if-n-self.false)

pub returns-clause-value : goal.returns-clause-value
returns-clause-value c =
    let words = c.self.inside.words in
    let len = c.self.inside.len in
    let are = are-flags words.items len words.len c.args.self.now c.self.view_is in
    sym (ap (λ (list : List Bool). position_from (λ (flag : Bool). flag) c.args.from (drop c.args.from list)) are.list
    ∙ next-none words.items c.args.from (64 * c.loop-i.i) len c.loop-i.invariant
    (omega (arith, c.loop-i-test.false, c.len-i-end.ensures, c.self.invariant.0)))
