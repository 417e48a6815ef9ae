use Rattle.std.proofs.Common.{◌≡◌, ◌++◌, map, drop}
use Rattle.std.specs.Prelude.{option_map}
use Rattle.hc_text.specs.Numbers.{numbers_in}
use Rattle.hc_text.proofs.commands.edits.indexes_of.Given as goal

-- the indexes so far and the remaining ones
abbrev pub invariant-loop-word : goal.invariant-loop-word
invariant-loop-word l =
    option_map (λ rest. l.indexes.items ++ rest) (numbers_in 65535 (map (λ word. word.now) (drop l.word-index l.words)))
    ≡ numbers_in 65535 (map (λ word. word.now) l.words)
