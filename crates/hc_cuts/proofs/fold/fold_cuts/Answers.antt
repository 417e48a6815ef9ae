use Rattle.std.proofs.Common.{◌-◌, ◌++◌, length, take, drop, arith, refl}
use Rattle.std.proofs.lemmas.Result.{err_from_is_err_and}
use Rattle.hc_records.specs.Laws.{cuts_from}
use Rattle.hc_records.specs.declared.records.Dir.TheVariants.{Out}
use Rattle.hc_records.specs.TaskList.{Keyed}
use Rattle.hc_cuts.proofs.Firsts.{added-first_keys, count-added}
use Rattle.hc_cuts.proofs.fold.fold_cuts.Goals as goal

-- what stands for an element of an empty list
abbrev none : Keyed
none = (record { dir = Out; rank = 0; area = 0 }, 0)

pub returns-clause-keys : goal.returns-clause-keys
returns-clause-keys c =
    added-first_keys c.args.list.now none _ _ _ _ _ _ (record {
      some = grind (arith, c.is_empty.ensures, c.if-is_empty.false);
      packable = c.requires;
      empty = c.new-keys.ensures;
      first = c.push.ensures.items;
      opens = c.opening.ensures;
      is_placed = c.place.ensures;
      goes_on = c.after_it-front.ensures;
      rest = c.in_ok-add_cuts.ensures.added;
    })

pub returns-clause-few : goal.returns-clause-few
returns-clause-few c = grind (arith, count-added)

pub returns-in_err-add_cuts-clause-refused : goal.returns-in_err-add_cuts-clause-refused
returns-in_err-add_cuts-clause-refused c =
    let over_limit = c.in_err-add_cuts.ensures.refused in
    let count = count-added c.args.list.now none (c.push.new.self.items ++ cuts_from c.after_it-front.result (take (length c.args.list.now - 1) (drop 1 c.args.list.now))) _ _ _ _ _ (record {
      some = grind (arith, c.is_empty.ensures, c.if-is_empty.false);
      packable = c.requires;
      empty = c.new-keys.ensures;
      first = c.push.ensures.items;
      opens = c.opening.ensures;
      is_placed = c.place.ensures;
      goes_on = c.after_it-front.ensures;
      rest = refl;
    }) in
    let p = err_from_is_err_and c.from_residual.result c.from_residual.ensures.1 in
    rw p.1 (omega (arith, count, over_limit))
