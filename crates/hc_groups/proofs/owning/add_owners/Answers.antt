use Rattle.std.proofs.Common.{ℕ, ◌+◌, ◌∷◌, ◌++◌, ◌∙◌, [], List, ap, append_assoc, append-nil, drop, map, sym}
use Rattle.std.proofs.lemmas.List.{drop_all, drop_more}
use Rattle.hc_records.specs.declared.records.Slave.{Slave}
use Rattle.hc_groups.proofs.owning.add_owners.Goals as goal

pub loop-slave-preserved : goal.loop-slave-preserved
loop-slave-preserved c =
    let l = c.loop-slave in
    let slave : Slave = c._slave-item.result in
    let own = λ (slave : Slave). c.args.group in
    let rest = drop (l._slave-index + 1) c.args.slaves.now in
    ap (λ (all : List ℕ). all ++ map own rest) c.in_ok-push.ensures.items
    ∙ append_assoc l.all.items (c.args.group ∷ []) (map own rest)
    ∙ ap (λ (left : List Slave). l.all.items ++ map own left) (sym (drop_more c.args.slaves.now l._slave-index slave c.loop-slave-test.true))
    ∙ l.invariant

pub returns : goal.returns
returns c = sym (append-nil c.loop-slave.all.items) ∙ rw (drop_all c.loop-slave._slave-index c.args.slaves.now c.loop-slave-test.false) at c.loop-slave.invariant
