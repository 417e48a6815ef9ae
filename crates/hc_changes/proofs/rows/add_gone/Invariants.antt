use Rattle.std.proofs.Common.{◌≡◌, ◌++◌, drop}
use Rattle.std.specs.Prelude.{◌==◌, filter, map, not, None}
use Rattle.std.specs.List.{list_any}
use Rattle.hc_changes.proofs.rows.add_gone.Given as goal

abbrev pub invariant-loop-variable : goal.invariant-loop-variable
invariant-loop-variable l =
    l.rows.items ++ map (λ v. (v, None)) (filter (λ v. not (list_any (λ other. other == v) l.after)) (drop l.variable-index l.before))
    ≡ l.fn.rows.items ++ map (λ v. (v, None)) (filter (λ v. not (list_any (λ other. other == v) l.after)) l.before)
