use Rattle.std.proofs.Common.{[], length, ap}
use Rattle.std.specs.Prelude.{option_map, replicate}
use Rattle.hc_records.specs.declared.faults.EditFault.TheVariants.{TooManyDatagrams}
use Rattle.hc_cuts.proofs.WidthsApply.{absent-apply_widths}
use Rattle.hc_cuts.proofs.tasks.LineCuts.open.Goals as goal

pub apply_widths-requires : goal.apply_widths-requires
apply_widths-requires g c = record {
  old = replicate (length c.args.line.now) [];
  new = c.args.line.now;
  apply_widths = absent-apply_widths c.opening-opening.result c.in_ok-cuts.cuts c.args.line.now c.opening-opening.ensures c.in_ok-cuts.ensures c.requires;
}

pub returns-in-Ok-clause-cuts : goal.returns-in-Ok-clause-cuts
returns-in-Ok-clause-cuts g c =
    c.in-Ok.ensures.applied (replicate (length c.args.line.now) []) c.args.line.now
    (absent-apply_widths c.opening-opening.result c.in_ok-cuts.cuts c.args.line.now c.opening-opening.ensures c.in_ok-cuts.ensures c.requires)

pub returns-in-Ok-clause-accepted : goal.returns-in-Ok-clause-accepted
returns-in-Ok-clause-accepted g c =
    c.in-Ok.ensures.accepted (replicate (length c.args.line.now) []) c.args.line.now
    (absent-apply_widths c.opening-opening.result c.in_ok-cuts.cuts c.args.line.now c.opening-opening.ensures c.in_ok-cuts.ensures c.requires)

pub returns-in-Err-clause-refused : goal.returns-in-Err-clause-refused
returns-in-Err-clause-refused g c = λ other.
    ap (option_map TooManyDatagrams)
    (c.in-Err.ensures.refused (replicate (length c.args.line.now) []) c.args.line.now
    (absent-apply_widths c.opening-opening.result c.in_ok-cuts.cuts c.args.line.now c.opening-opening.ensures c.in_ok-cuts.ensures c.requires))
