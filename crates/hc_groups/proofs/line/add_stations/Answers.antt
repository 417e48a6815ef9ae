use Rattle.std.proofs.Common.{◌+◌, ◌∷◌, ◌++◌, ◌∙◌, [], List, ap, append_assoc, append-nil, drop, sym, ℕ}
use Rattle.std.proofs.lemmas.List.{drop_all, drop_more}
use Rattle.hc_records.specs.declared.records.Slave.{Slave}
use Rattle.hc_groups.specs.Index.{stations}
use Rattle.hc_groups.proofs.line.add_stations.Goals as goal

pub loop-slave-preserved : goal.loop-slave-preserved
loop-slave-preserved c =
    let l = c.loop-slave in
    let slave : Slave = c.slave-item.result in
    let rest = drop (l.slave-index + 1) c.args.slaves.now in
    ap (λ (all : List ℕ). all ++ stations rest) c.in_ok-push.ensures.items
    ∙ append_assoc l.all.items (slave.station ∷ []) (stations rest)
    ∙ ap (λ (s : Slave). l.all.items ++ (s.station ∷ stations rest)) c.slave-item.is
    ∙ ap (λ (left : List Slave). l.all.items ++ stations left) (sym (drop_more c.args.slaves.now l.slave-index slave c.loop-slave-test.true))
    ∙ l.invariant

pub returns : goal.returns
returns c = sym (append-nil c.loop-slave.all.items) ∙ rw (drop_all c.loop-slave.slave-index c.args.slaves.now c.loop-slave-test.false) at c.loop-slave.invariant
