use Rattle.std.proofs.Common.{◌/◌, arith, rules}
use Rattle.std.proofs.lemmas.List.{get_or_read}
use Rattle.std.proofs.lemmas.Nat.Bits.{shr_and_one}
use Rattle.hc_owed.proofs.FlagLists.{are-flags, flags-get}
use Rattle.hc_owed.proofs.flags.Flags.get.Goals as goal

pub index-word-requires : goal.index-word-requires
index-word-requires c =
    let words = c.self.inside.words in
    let are = are-flags words.items c.self.inside.len words.len c.args.self.now c.self.view_is in
    omega (arith, c.requires, are.length, c.self.invariant.0)

pub returns : goal.returns
returns c =
    let words = c.self.inside.words in
    let len = c.self.inside.len in
    let are = are-flags words.items len words.len c.args.self.now c.self.view_is in
    let read = get_or_read words.items (c.args.n / 64) c.index-word.result.now (omega (arith, c.requires, are.length, c.self.invariant.0, words.ok.0)) c.index-word.ensures 0 in
    search (rules, flags-get, shr_and_one)
