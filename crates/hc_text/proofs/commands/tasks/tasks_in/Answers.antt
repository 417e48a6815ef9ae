use Rattle.std.proofs.Common.{ℕ, List, map, sym, arith, Bor}
use Rattle.std.proofs.lemmas.List.{length-map}
use Rattle.hc_text.proofs.ManyTasks.{many_are_none}
use Rattle.hc_text.proofs.commands.tasks.tasks_in.Goals as goal

pub returns-then-words-from : goal.returns-then-words-from
returns-then-words-from c =
    let words = map (λ (word : Bor (List ℕ)). word.now) c.args.words.now in
    let count = length-map c.args.words.now (λ (word : Bor (List ℕ)). word.now) in
    sym (many_are_none words (grind (arith, c.from.ensures, c.if-words-from.true, count)))
