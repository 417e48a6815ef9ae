use Rattle.std.proofs.Common.{◌≡◌, ◌∙◌, List, ap, get_or, subst, sym, arith}
use Rattle.std.specs.Prelude.{Some, slice_get, ◌≢◌}
use Rattle.std.proofs.lemmas.Option.{slice_get_read}
use Rattle.hc_places.specs.Table.{IsTable, Table, TaskTable}
use Rattle.hc_places.proofs.Compared.{all-answer_given, next-new, next-same}
use Rattle.hc_places.proofs.table.Places.changed_tasks.Goals as goal
use Rattle.hc_places.proofs.table.Places.changed_tasks.Goals.{then-not-is_same+in_ok-push, else-not-is_same}

pub loop-number-preserved : goal.loop-number-preserved
loop-number-preserved c =
    let number = c.loop-number.number in
    let low = c.loop-number-test.true in
    let olds = c.args.self.now.tasks in
    let updates = c.args.new.now in
    let old = c.index-old-from.result in
    let new = c.index-new-from.result in
    let tasks = c.loop-number.tasks.items in
    let table : IsTable c.args.self.now = subst IsTable c.self.view_is c.self.invariant in
    let are_placed : c.as_slice-old.result.now ≡ olds = c.as_slice-old.ensures ∙ ap (λ (t : Table). t.tasks) c.self.view_is in
    let before : slice_get olds number ≡ Some old = slice_get_read olds 8 number old (sym table.eight) low (c.index-old-from.is ∙ ap (λ i. get_or c.as_slice-old.result.now i old) c.from.ensures ∙ ap (λ (l : List TaskTable). get_or l number old) are_placed) in
    let after : slice_get updates number ≡ Some new = slice_get_read updates 8 number new (sym c.requires) low (c.index-new-from.is ∙ ap (λ i. get_or updates i new) c.from-in-loop-number.ensures) in
    elim c.if-not-is_same.branch [
      | then-not-is_same+in_ok-push w ↦
          let apart : old ≢ new = λ same. let is = c.is_same.ensures.1 same in let not_same = w.if-not-is_same.true in cc in
          rw (w.tasks-is, w.in_ok-push.ensures.items, w.duplicate.ensures) (next-new olds updates number tasks old new c.loop-number.invariant before after apart)
      | else-not-is_same w ↦
          let same : old ≡ new = c.is_same.ensures.0 cc in
          rw w.tasks-is (next-same olds updates number tasks old new c.loop-number.invariant before after same)
    ]

pub returns-clause-says : goal.returns-clause-says
returns-clause-says c =
    let table : IsTable c.args.self.now = subst IsTable c.self.view_is c.self.invariant in
    all-answer_given c.args.self.now.tasks c.args.new.now c.loop-number.number c.loop-number.tasks.items c.loop-number.invariant (omega (arith, table.eight, c.loop-number-test.false)) (omega (arith, c.requires, c.loop-number-test.false))
