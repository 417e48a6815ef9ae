use Rattle.std.proofs.Common.{map, sym, ◌<◌, length, arith}
use Rattle.std.proofs.lemmas.List.{length-map}
use Rattle.hc_text.proofs.MemoryArguments.{four_are_no_peek, two_are_no_peek}
use Rattle.hc_text.proofs.commands.memory.peek_of.Goals as goal

pub returns-in-len1 : goal.returns-in-len1
returns-in-len1 c =
    let few : length c.args.arguments.now < 3 = omega (arith, c.in-len1.len_below) in
    sym (two_are_no_peek (map (λ word. word.now) c.args.arguments.now) (simp length-map few))

pub returns-in-len2 : goal.returns-in-len2
returns-in-len2 c = sym (two_are_no_peek (map (λ word. word.now) c.args.arguments.now) (simp length-map c.in-len2.len_below))

pub returns-in-len4-up : goal.returns-in-len4-up
returns-in-len4-up c = sym (four_are_no_peek (map (λ word. word.now) c.args.arguments.now) (simp length-map c.in-len4-up.len_at_least))
