use Rattle.std.proofs.Common.{◌≡◌, ◌+◌, ◌∷◌, ◌++◌, ◌∙◌, [], List, ap, append_assoc, drop, map, sym, arith, append-nil}
use Rattle.std.proofs.lemmas.List.{drop_more, drop_all}
use Rattle.hc_records.specs.declared.records.Slave.{Slave}
use Rattle.hc_records.specs.Line.{members_from}
use Rattle.hc_groups.specs.declared.addresses.Address.{Address}
use Rattle.hc_groups.specs.Index.{address_of}
use Rattle.hc_groups.proofs.addresses.add_addresses.Goals as goal

pub overflow_add-next : goal.overflow_add-next
overflow_add-next c = omega (arith, c.loop-slave.invariant.1, c.loop-slave-test.true, c.requires)

pub loop-slave-preserved : goal.loop-slave-preserved
loop-slave-preserved c =
    let l = c.loop-slave in
    let slaves = c.args.slaves.now in
    let slave = c.slave-item.result in
    let rest = drop (l.slave-index + 1) slaves in
    let after_it = map address_of (members_from (l.next + 1) rest) in
    let cut : drop l.slave-index slaves ≡ slave ∷ rest = drop_more slaves l.slave-index slave c.loop-slave-test.true ∙ ap (λ (s : Slave). s ∷ rest) (sym c.slave-item.is) in (
      ap (λ (all : List Address). all ++ after_it) c.in_ok-push.ensures.items
          ∙ append_assoc l.all.items (address_of (record { rank = l.next; slave = slave }) ∷ []) after_it
          ∙ ap (λ (left : List Slave). l.all.items ++ map address_of (members_from l.next left)) (sym cut)
          ∙ l.invariant.0,
      omega (arith, l.invariant.1),
    )

pub returns : goal.returns
returns c = sym (append-nil c.loop-slave.all.items) ∙ rw (drop_all c.loop-slave.slave-index c.args.slaves.now c.loop-slave-test.false) at c.loop-slave.invariant.0
