-- The slice is its parts joined, and the parts are what is left of each.
use Rattle.std.proofs.Common.{sym, ap, ◌∙◌, arith}
use Rattle.std.specs.List.{concat}
use Rattle.hc_lend.proofs.Cuts.{concat-parts_of}
use Rattle.hc_lend.proofs.at_once.each_at_once.Goals as goal

pub returns-clause-whole : goal.returns-clause-whole
returns-clause-whole g c =
    sym (concat-parts_of c.args.parts.lengths.now c.rest_at_once.new.bytes (omega (arith, c.args.parts.all, c.rest_at_once.auto.bytes)))
    ∙ ap concat c.rest_at_once.ensures.left
