use Rattle.std.proofs.Common.{◌≡◌, ℕ, ◌+◌, ◌∷◌, ◌++◌, ◌∙◌, List, ap, append_assoc, drop, map, sym, append-nil}
use Rattle.std.proofs.lemmas.List.{drop_more, map-append, drop_all}
use Rattle.hc_records.specs.declared.records.Declared.{Declared}
use Rattle.hc_records.specs.declared.records.Slave.{Slave}
use Rattle.hc_records.specs.Line.{groups_of}
use Rattle.hc_records.specs.Project.{slaves_of}
use Rattle.hc_owed.proofs.opening.declared_stations.Goals as goal

abbrev station : Slave → ℕ
station slave = slave.station

pub loop-declared-preserved : goal.loop-declared-preserved
loop-declared-preserved c =
    let l = c.loop-declared in
    let groups = c.args.groups.now in
    let declared = c.declared-item.result in
    let slaves = declared.group.slaves in
    let rest = drop (l.declared-index + 1) groups in
    let after_it = slaves_of (groups_of rest) in
    let cut : drop l.declared-index groups ≡ declared ∷ rest = drop_more groups l.declared-index declared c.loop-declared-test.true ∙ ap (λ (d : Declared). d ∷ rest) (sym c.declared-item.is) in
    ap (λ (all : List ℕ). all ++ map station after_it) (c.in_ok-push_stations.ensures ∙ ap (λ (own : List Slave). l.stations.items ++ map station own) c.as_slice.ensures)
    ∙ append_assoc l.stations.items (map station slaves) (map station after_it)
    ∙ ap (λ (all : List ℕ). l.stations.items ++ all) (sym (map-append station slaves after_it))
    ∙ ap (λ (left : List Declared). l.stations.items ++ map station (slaves_of (groups_of left))) (sym cut)
    ∙ l.invariant

pub returns : goal.returns
returns c = sym (append-nil c.loop-declared.stations.items) ∙ rw (drop_all c.loop-declared.declared-index c.args.groups.now c.loop-declared-test.false) at c.loop-declared.invariant
