use Rattle.std.proofs.Common.{map, sym}
use Rattle.std.proofs.lemmas.List.{length-map}
use Rattle.hc_text.proofs.Arguments.{one_is_no_view, three_are_no_view}
use Rattle.hc_text.proofs.commands.short.view_in.Goals as goal

pub returns-in-len1 : goal.returns-in-len1
returns-in-len1 c = sym (one_is_no_view (map (λ word. word.now) c.args.arguments.now) (simp length-map c.in-len1.len_below))

pub returns-in-len3-up : goal.returns-in-len3-up
returns-in-len3-up c = sym (three_are_no_view (map (λ word. word.now) c.args.arguments.now) (simp length-map c.in-len3-up.len_at_least))
