use Rattle.std.proofs.Common.{◌∙◌, List, length, ap, rules}
use Rattle.hc_records.specs.declared.records.Declared.{Declared}
use Rattle.hc_records.specs.Line.{line_from}
use Rattle.hc_groups.proofs.Indexes.{line-low, slaves-total}
use Rattle.hc_groups.proofs.index.Indexed.slaves.Goals as goal

pub bounds-self-inside-self-inside : goal.bounds-self-inside-self-inside
bounds-self-inside-self-inside c = (slaves-total c.self.inside.groups.now _ c.self.invariant.0).0

pub returns-clause-value : goal.returns-clause-value
returns-clause-value c = (slaves-total c.self.inside.groups.now _ c.self.invariant.0).1 ∙ ap (λ (g : List Declared). length (line_from 1 g)) c.self.view_is

pub returns-clause-few : goal.returns-clause-few
returns-clause-few c = search (rules, slaves-total, line-low)
