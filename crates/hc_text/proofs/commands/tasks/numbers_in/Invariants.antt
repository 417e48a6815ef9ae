use Rattle.std.proofs.Common.{◌≡◌, ◌++◌, map, drop}
use Rattle.std.specs.Prelude.{option_map}
use Rattle.arrayvec.specs.ArrayVec.{array_vec_len}
use Rattle.hc_text.specs.Numbers.{numbers_in}
use Rattle.hc_text.proofs.commands.tasks.numbers_in.Given as goal

-- the numbers so far and the remaining ones
abbrev pub invariant-loop-word : goal.invariant-loop-word
invariant-loop-word l = record {
  count : array_vec_len l.numbers ≡ l.word-index;
  numbers :
      option_map (λ rest. l.numbers.items ++ rest) (numbers_in 255 (map (λ word. word.now) (drop l.word-index l.words)))
      ≡ numbers_in 255 (map (λ word. word.now) l.words);
}
