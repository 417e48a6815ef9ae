use Rattle.std.proofs.Common.{map, sym}
use Rattle.std.proofs.lemmas.List.{length-map}
use Rattle.hc_text.proofs.EditArguments.{one_is_no_remap}
use Rattle.hc_text.proofs.commands.edits.remap_of.Goals as goal

pub returns-in-len1 : goal.returns-in-len1
returns-in-len1 c = sym (one_is_no_remap (map (λ word. word.now) c.args.arguments.now) (simp length-map c.in-len1.len_below))
