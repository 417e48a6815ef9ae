use Rattle.std.proofs.Common.{◌≡◌, ℕ, ◌+◌, ◌∷◌, ◌++◌, ◌∙◌, [], List, ap, append_assoc, drop, map, sym, append-nil}
use Rattle.std.proofs.lemmas.List.{drop_more, drop_all}
use Rattle.hc_records.specs.declared.records.Slave.{Slave}
use Rattle.hc_owed.proofs.opening.push_stations.Goals as goal

abbrev station : Slave → ℕ
station slave = slave.station

pub loop-slave-preserved : goal.loop-slave-preserved
loop-slave-preserved c =
    let l = c.loop-slave in
    let slaves = c.args.slaves.now in
    let slave = c.slave-item.result in
    let rest = drop (l.slave-index + 1) slaves in
    let cut : drop l.slave-index slaves ≡ slave ∷ rest = drop_more slaves l.slave-index slave c.loop-slave-test.true ∙ ap (λ (s : Slave). s ∷ rest) (sym c.slave-item.is) in
    ap (λ (all : List ℕ). all ++ map station rest) c.in_ok-push.ensures.items
    ∙ append_assoc l.stations.items (slave.station ∷ []) (map station rest)
    ∙ ap (λ (left : List Slave). l.stations.items ++ map station left) (sym cut)
    ∙ l.invariant

pub returns : goal.returns
returns c = sym (append-nil c.loop-slave.stations.items) ∙ rw (drop_all c.loop-slave.slave-index c.args.slaves.now c.loop-slave-test.false) at c.loop-slave.invariant
