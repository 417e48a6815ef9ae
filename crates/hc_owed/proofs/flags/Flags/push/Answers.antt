use Rattle.std.proofs.Common.{ℕ, ◌+◌, ◌*◌, ◌<◌, List, ap, subst, ◌∙◌, arith, rules}
use Rattle.hc_owed.specs.Flags.{SetsFlag, flags_from, set_count}
use Rattle.hc_owed.proofs.FlagLists.{are-flags, count-le, count-pushed, flags-pushed, length-flags, one-le, whole}
use Rattle.hc_owed.proofs.flags.Flags.push.Goals as goal

below : (c : goal.After-deref_mut) → c.self.inside.len < 64 * c.self.inside.words.len
below c =
    let words = c.self.inside.words in
    let are = are-flags words.items c.self.inside.len words.len c.args.self.now c.self.view_is in
    omega (arith, c.requires, are.length, are.room)

pub set_bit-requires : goal.set_bit-requires
set_bit-requires c = let low = below c in omega (arith, low, c.deref_mut.ensures.len)

pub overflow_add-self : goal.overflow_add-self
overflow_add-self c = search (rules, are-flags)

pub overflow_add-self-2 : goal.overflow_add-self-2
overflow_add-self-2 c = search (rules, count-le, length-flags, one-le)

pub invariant_of-self : goal.invariant_of-self
invariant_of-self c =
    let words = c.self.inside.words in
    let len = c.self.inside.len in
    let are = are-flags words.items len words.len c.args.self.now c.self.view_is in
    let written = whole words.len c.set_bit.new.words words.items (c.set_bit.ensures.words ∙ c.deref_mut.ensures.len) in
    let sets = subst (λ (old : List ℕ). SetsFlag old c.set_bit.new.words len c.args.flag) c.deref_mut.ensures.value c.set_bit.ensures in
    let list = ap (λ (now : List ℕ). flags_from now (len + 1) 0) written ∙ flags-pushed words.items c.set_bit.new.words len c.args.flag sets in
    let count = ap set_count list ∙ count-pushed (flags_from words.items len 0) c.args.flag in
    (omega (arith, c.requires, are.length, are.room), c.self.invariant.1, omega (arith, count, c.one.ensures, c.self.invariant.2))

pub returns : goal.returns
returns c =
    let words = c.self.inside.words in
    let len = c.self.inside.len in
    let written = whole words.len c.set_bit.new.words words.items (c.set_bit.ensures.words ∙ c.deref_mut.ensures.len) in
    let sets = subst (λ (old : List ℕ). SetsFlag old c.set_bit.new.words len c.args.flag) c.deref_mut.ensures.value c.set_bit.ensures in
    search (rules, flags-pushed)
