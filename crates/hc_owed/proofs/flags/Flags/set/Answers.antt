use Rattle.std.proofs.Common.{◌≡◌, ℕ, ◌*◌, List, Bool, false, Some, ap, subst, sym, ◌∙◌, arith, rules}
use Rattle.std.specs.Prelude.{slice_get}
use Rattle.hc_owed.specs.Flags.{Flags, SetsFlag, flags_from, set_count}
use Rattle.hc_owed.proofs.FlagLists.{are-flags, count-le, count-set, flags-set, flags_of, length-flags, one-le, whole}
use Rattle.hc_owed.proofs.flags.Flags.set.Goals as goal

listed : (words : List ℕ) (len capacity n : ℕ) (flags : Flags) (was : Bool) → flags_of (flags_from words len 0) (64 * capacity) ≡ flags → slice_get flags.list n ≡ Some was → slice_get (flags_from words len 0) n ≡ Some was
listed words len capacity n flags was same at = ap (λ (list : List Bool). slice_get list n) (sym (are-flags words len capacity flags same).list) ∙ at

pub set_bit-requires : goal.set_bit-requires
set_bit-requires c =
    let words = c.self.inside.words in
    let are = are-flags words.items c.self.inside.len words.len c.args.self.now c.self.view_is in
    omega (arith, c.requires, are.length, c.self.invariant.0, c.deref_mut.ensures.len)

pub overflow_sub-self : goal.overflow_sub-self
overflow_sub-self c =
    let words = c.self.inside.words in
    let was = listed words.items c.self.inside.len words.len c.args.n c.args.self.now c.get-was.result c.self.view_is c.get-was.ensures in
    let changes = count-set (flags_from words.items c.self.inside.len 0) c.args.n c.get-was.result false was in
    omega (arith, changes, c.one.ensures, c.self.invariant.2)

pub overflow_add-self : goal.overflow_add-self
overflow_add-self c = search (rules, count-le, length-flags, one-le)

pub invariant_of-self : goal.invariant_of-self
invariant_of-self c =
    let words = c.self.inside.words in
    let len = c.self.inside.len in
    let flags = flags_from words.items len 0 in
    let are = are-flags words.items len words.len c.args.self.now c.self.view_is in
    let written = whole words.len c.set_bit.new.words words.items (c.set_bit.ensures.words ∙ c.deref_mut.ensures.len) in
    let sets = subst (λ (old : List ℕ). SetsFlag old c.set_bit.new.words c.args.n c.args.flag) c.deref_mut.ensures.value c.set_bit.ensures in
    let list = ap (λ (now : List ℕ). flags_from now len 0) written ∙ flags-set words.items c.set_bit.new.words len c.args.n c.args.flag sets (omega (arith, c.requires, are.length)) in
    let count = ap set_count list in
    let was = listed words.items len words.len c.args.n c.args.self.now c.get-was.result c.self.view_is c.get-was.ensures in
    let changes = count-set flags c.args.n c.get-was.result c.args.flag was in
    let off = count-set flags c.args.n c.get-was.result false was in
    (c.self.invariant.0, c.self.invariant.1, omega (arith, count, changes, off, c.one.ensures, c.one-2.ensures, c.self.invariant.2))

pub returns : goal.returns
returns c =
    let words = c.self.inside.words in
    let len = c.self.inside.len in
    let are = are-flags words.items len words.len c.args.self.now c.self.view_is in
    let written = whole words.len c.set_bit.new.words words.items (c.set_bit.ensures.words ∙ c.deref_mut.ensures.len) in
    let sets = subst (λ (old : List ℕ). SetsFlag old c.set_bit.new.words c.args.n c.args.flag) c.deref_mut.ensures.value c.set_bit.ensures in
    rw (← c.self.view_is)
    (ap (λ (list : List Bool). flags_of list (64 * words.len))
    (ap (λ (now : List ℕ). flags_from now len 0) written ∙ flags-set words.items c.set_bit.new.words len c.args.n c.args.flag sets (omega (arith, c.requires, are.length))))
