use Rattle.std.proofs.Common.{◌∙◌, ap, refl}
use Rattle.std.specs.Prelude.{option_map}
use Rattle.std.proofs.lemmas.Result.{err_from_is_err_and}
use Rattle.hc_records.specs.declared.faults.EditFault.TheVariants.{TooManyDatagrams}
use Rattle.hc_records.specs.Line.{line_from}
use Rattle.hc_places.specs.Layout.{NamesOverLimit}
use Rattle.hc_places.proofs.Opening.{are-opened, is-line, same-over_limit}
use Rattle.hc_places.proofs.configure.open_line.Goals as goal

pub open-requires : goal.open-requires
open-requires g c = is-line c.args.groups.now c.as_slice.result.now (c.as_slice.ensures.value ∙ c.in_ok-slaves.ensures) c.requires.project

pub returns-in_err-cuts-clause-refused : goal.returns-in_err-cuts-clause-refused
returns-in_err-cuts-clause-refused g c =
    let groups = c.args.groups.now in
    let slaves = c.as_slice.ensures.value ∙ c.in_ok-slaves.ensures in
    let names : NamesOverLimit (line_from 1 groups) c.in_err-cuts.field-0.0 =
    λ other. ap (option_map TooManyDatagrams) (same-over_limit groups c.as_slice.result.now slaves) ∙ c.in_err-cuts.ensures.refused other in
    let p = err_from_is_err_and c.from_residual-in_err-cuts.result c.from_residual-in_err-cuts.ensures.1 in
    rw (p.1, p.2) names

pub returns-in_err-places-clause-refused : goal.returns-in_err-places-clause-refused
returns-in_err-places-clause-refused g c =
    let p = err_from_is_err_and c.from_residual-in_err-places.result c.from_residual-in_err-places.ensures.1 in
    rw (p.1, p.2) (λ other. absurd (other refl))

pub opened_places-requires : goal.opened_places-requires
opened_places-requires g c =
    are-opened c.args.groups.now c.as_slice.result.now c.as_slice-2.result.now c.in_ok-cuts.cuts c.requires.project (c.as_slice.ensures.value ∙ c.in_ok-slaves.ensures)
    (c.as_slice-2.ensures.value ∙ c.in_ok-slaves.ensures) c.in_ok-cuts.ensures.accepted c.in_ok-cuts.ensures.cuts

pub returns-clause-places : goal.returns-clause-places
returns-clause-places g c =
    c.in_ok-places.ensures
    (are-opened c.args.groups.now c.as_slice.result.now c.as_slice-2.result.now c.in_ok-cuts.cuts c.requires.project (c.as_slice.ensures.value ∙ c.in_ok-slaves.ensures)
    (c.as_slice-2.ensures.value ∙ c.in_ok-slaves.ensures) c.in_ok-cuts.ensures.accepted c.in_ok-cuts.ensures.cuts)

pub returns-clause-accepted : goal.returns-clause-accepted
returns-clause-accepted g c = same-over_limit c.args.groups.now c.as_slice.result.now (c.as_slice.ensures.value ∙ c.in_ok-slaves.ensures) ∙ c.in_ok-cuts.ensures.accepted
