use Rattle.std.proofs.Common.{◌+◌, ◌*◌, ◌≤◌, length, arith}
use Rattle.std.proofs.lemmas.Result.{IfOk-weaker}
use Rattle.hc_owed.proofs.FlagLists.{are-flags}
use Rattle.hc_owed.proofs.flags.Flags.room_for.Goals as goal

pub word_count-requires : goal.word_count-requires
word_count-requires c =
    let words = c.self.inside.words in
    let are = are-flags words.items c.self.inside.len words.len c.args.self.now c.self.view_is in
    omega (arith, c.requires, are.length)

pub returns : goal.returns
returns c =
    let words = c.self.inside.words in
    let are = are-flags words.items c.self.inside.len words.len c.args.self.now c.self.view_is in
    IfOk-weaker c.for_more.result (λ room. length words.items + c.saturating_sub-longer.result ≤ room) (λ room. length c.args.self.now.list + c.args.more ≤ 64 * room)
    (λ room enough. omega (arith, enough, are.length, c.saturating_sub-longer.ensures, c.len.ensures, words.ok.0, c.word_count.ensures)) c.for_more.ensures
