use Rattle.std.proofs.Common.{◌≡◌, ◌++◌, map, drop}
use Rattle.std.specs.Prelude.{option_map}
use Rattle.hc_text.specs.PostWords.{settings_in}
use Rattle.hc_text.proofs.commands.post.settings_of.Given as goal

-- the values so far and the remaining ones
abbrev pub invariant-loop-word : goal.invariant-loop-word
invariant-loop-word l =
    option_map (λ rest. l.settings.items ++ rest) (settings_in (map (λ word. word.now) (drop l.word-index l.words)))
    ≡ settings_in (map (λ word. word.now) l.words)
