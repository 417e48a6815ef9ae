use Rattle.std.proofs.Common.{◌≡◌, ℕ, List, [], ◌∷◌, length, ◌+◌, refl, None, arith, rules}
use Rattle.std.specs.Prelude.{◌==◌}
use Rattle.std.specs.List.{count_by}
use Rattle.std.proofs.lemmas.List.Splits.{length-slice_split}
use Rattle.hc_text.specs.Lines.{parts_at}
use Rattle.hc_text.specs.PostWords.{setting_with}
use Rattle.hc_text.proofs.commands.post.setting_of.Goals as goal

-- three parts spell no value
three : (a b : List ℕ) (parts : List (List ℕ)) (n : ℕ) → length parts ≡ n + 1 → setting_with (a ∷ b ∷ parts) ≡ None
three a b [] n long = absurd (omega arith)
three a b (part ∷ parts) n long = refl

third : (a b text : List ℕ) → setting_with (a ∷ b ∷ parts_at 61 text) ≡ None
third a b text = three a b (parts_at 61 text) (count_by (λ c. c == 61) text) (length-slice_split (λ c. c == 61) text)

pub returns-in_default-Some-split_at_byte : goal.returns-in_default-Some-split_at_byte
returns-in_default-Some-split_at_byte c = search (rules, third)
