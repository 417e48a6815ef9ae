use Rattle.std.proofs.Common.{◌+◌, ◌-◌, ◌*◌, ◌≤◌, ◌∙◌, ℕ, List, length, replicate, ap, arith, length-append, subst, sym}
use Rattle.std.proofs.lemmas.List.{length-replicate}
use Rattle.hc_owed.specs.Flags.{flags_from, set_count}
use Rattle.hc_owed.proofs.FlagLists.{are-flags, flags-longer, length-flags}
use Rattle.hc_owed.proofs.flags.Flags.widen.Goals as goal

pub word_count-count-requires : goal.word_count-count-requires
word_count-count-requires c =
    let words = c.self.inside.words in
    let are = are-flags words.items c.self.inside.len words.len c.args.self.now c.self.view_is in
    omega (arith, c.requires.few, are.length)

pub lengthen-requires : goal.lengthen-requires
lengthen-requires c =
    let words = c.self.inside.words in
    let are = are-flags words.items c.self.inside.len words.len c.args.self.now c.self.view_is in
    omega (arith, c.requires.room, are.length, c.word_count-count.ensures)

pub invariant_of-self : goal.invariant_of-self
invariant_of-self c =
    let words = c.self.inside.words in
    let len = c.self.inside.len in
    let are = are-flags words.items len words.len c.args.self.now c.self.view_is in
    let zeros = replicate (c.word_count-count.result - length words.items) 0 in
    let size = ap length c.lengthen.ensures ∙ length-append words.items zeros in
    let more = length-replicate {A = ℕ} (c.word_count-count.result - length words.items) 0 in
    let same = ap (λ (now : List ℕ). flags_from now len 0) c.lengthen.ensures ∙ flags-longer words.items zeros len (omega (arith, c.self.invariant.0, words.ok.0)) in (
      omega (arith, c.self.invariant.0, size, words.ok.0, c.lengthen.new.words.ok.0),
      omega (arith, c.requires.few, are.length, c.self.invariant.1, size, more, words.ok.0, c.lengthen.new.words.ok.0, c.word_count-count.ensures),
      c.self.invariant.2 ∙ ap set_count (sym same),
    )

pub returns-clause-list : goal.returns-clause-list
returns-clause-list c =
    let words = c.self.inside.words in
    let len = c.self.inside.len in
    let are = are-flags words.items len words.len c.args.self.now c.self.view_is in
    let zeros = replicate (c.word_count-count.result - length words.items) 0 in
    ap (λ (now : List ℕ). flags_from now len 0) c.lengthen.ensures ∙ flags-longer words.items zeros len (omega (arith, c.self.invariant.0, words.ok.0)) ∙ sym are.list

pub returns-clause-room : goal.returns-clause-room
returns-clause-room c =
    let words = c.self.inside.words in
    let len = c.self.inside.len in
    let zeros = replicate (c.word_count-count.result - length words.items) 0 in
    let size = ap length c.lengthen.ensures ∙ length-append words.items zeros in
    let more = length-replicate {A = ℕ} (c.word_count-count.result - length words.items) 0 in
    let enough : len + c.args.more ≤ 64 * c.lengthen.new.words.len = omega (arith, size, more, words.ok.0, c.lengthen.new.words.ok.0, c.word_count-count.ensures) in
    subst (λ (n : ℕ). n + c.args.more ≤ 64 * c.lengthen.new.words.len) (sym (length-flags c.lengthen.new.words.items 0 len)) enough
