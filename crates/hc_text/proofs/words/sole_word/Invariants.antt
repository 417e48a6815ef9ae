use Rattle.std.proofs.Common.{◌≡◌, ◌++◌, filter}
use Rattle.std.specs.Prelude.{option_to_list}
use Rattle.std.specs.Option.{option_copied}
use Rattle.hc_text.specs.Lines.{is_word, words_of}
use Rattle.hc_text.specs.Cutting.{left_in, parts_after}
use Rattle.hc_text.proofs.words.sole_word.Given as goal

-- the word so far and the remaining ones
abbrev pub invariant-loop-rest : goal.invariant-loop-rest
invariant-loop-rest l = option_to_list (option_copied l.found) ++ filter is_word (parts_after 32 (option_copied l.rest)) ≡ words_of l.line

abbrev pub decreases-loop-rest : goal.decreases-loop-rest
decreases-loop-rest l = left_in (option_copied l.rest)
