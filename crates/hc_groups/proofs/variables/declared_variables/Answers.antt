use Rattle.std.proofs.Common.{ℕ, ◌+◌, ◌∷◌, ◌++◌, ◌∙◌, List, ap, append_assoc, append-nil, drop, sym}
use Rattle.std.proofs.lemmas.List.{drop_all, drop_more}
use Rattle.hc_records.specs.declared.records.Declared.{Declared}
use Rattle.hc_records.specs.declared.records.Slave.{Slave}
use Rattle.hc_records.specs.Project.{slave_names}
use Rattle.hc_groups.specs.Index.{variables}
use Rattle.hc_groups.proofs.Names.{variables-group}
use Rattle.hc_groups.proofs.variables.declared_variables.Goals as goal

pub loop-declared-preserved : goal.loop-declared-preserved
loop-declared-preserved c =
    let l = c.loop-declared in
    let declared : Declared = c.declared-item.result in
    let rest = drop (l.declared-index + 1) c.args.groups.now in
    let names = slave_names declared.group.slaves in
    let cut = drop_more c.args.groups.now l.declared-index declared c.loop-declared-test.true ∙ ap (λ (d : Declared). d ∷ rest) (sym c.declared-item.is) in
    ap (λ (all : List ℕ). all ++ variables rest) (c.in_ok-add_slave_names.ensures ∙ ap (λ (slaves : List Slave). l.all.items ++ slave_names slaves) c.as_slice.ensures)
    ∙ append_assoc l.all.items names (variables rest)
    ∙ ap (λ (left : List ℕ). l.all.items ++ left) (sym (ap variables cut ∙ variables-group declared rest))
    ∙ l.invariant

pub returns : goal.returns
returns c = sym (append-nil c.loop-declared.all.items) ∙ rw (drop_all c.loop-declared.declared-index c.args.groups.now c.loop-declared-test.false) at c.loop-declared.invariant
