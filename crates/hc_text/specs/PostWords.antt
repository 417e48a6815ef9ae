-- The words of `post`.
use Rattle.std.specs.Prelude.{ℕ, List, [], ◌∷◌, Option, Some, None, option_and_then, option_map}
use Rattle.hc_records.specs.declared.setting.Setting.{Setting}
use Rattle.hc_text.specs.declared.commands.Command.{Command}
use Rattle.hc_text.specs.declared.commands.Command.TheVariants as command
use Rattle.hc_text.specs.declared.commands.post.Posting.{Posting}
use Rattle.hc_text.specs.Lines.{parts_at}
use Rattle.hc_text.specs.Numbers.{number_in}

-- the value for a variable in two parts: the variable's number, and the value
abbrev pub setting_with : List (List ℕ) → Option Setting
setting_with [] = None
setting_with (variable ∷ []) = None
setting_with (variable ∷ value ∷ []) =
    option_and_then (λ v. option_map (λ x. record { variable = v; value = x }) (number_in 18446744073709551615 value)) (number_in 4294967295 variable)
setting_with (variable ∷ value ∷ other ∷ parts) = None

-- the value for a variable in a word `V=X`; 61 is `=`
abbrev pub setting_in : List ℕ → Option Setting
setting_in word = setting_with (parts_at 61 word)

-- the value in each word, if each has one
abbrev pub settings_in : List (List ℕ) → Option (List Setting)
settings_in [] = Some []
settings_in (word ∷ words) = option_and_then (λ setting. option_map (λ settings. setting ∷ settings) (settings_in words)) (setting_in word)

-- a task and its values
abbrev pub posting_in : List (List ℕ) → Option Posting
posting_in [] = None
posting_in (task ∷ words) =
    option_and_then (λ t. option_map (λ settings. record { task = t; settings = settings }) (settings_in words)) (number_in 255 task)

-- the arguments of `post` are a task and its values
abbrev pub post_in : List (List ℕ) → Option Command
post_in arguments = option_map command.Post (posting_in arguments)
