use Rattle.std.proofs.Common.{◌≡◌, ◌+◌, ◌<◌, false, [], length, slice_index_or, ap, subst, sym, ◌∙◌}
use Rattle.std.proofs.lemmas.Bool.{cond-false, cond-true}
use Rattle.hc_cuts.specs.LineChange.{changes}
use Rattle.hc_changes.specs.EditedLine.{EditedLine, IsEditedLine}
use Rattle.hc_changes.proofs.lemmas.EditedLines.{after-at, other-at}
use Rattle.hc_changes.proofs.edited_line.EditedLine.areas_after.Goals as goal

pub returns-in-Some : goal.returns-in-Some
returns-in-Some c =
    let is = subst IsEditedLine c.self.view_is c.self.invariant in
    let index = c.in-Some.index in
    let at = subst (λ (it : EditedLine). (c.args.rank ≡ it.change.first + index) × (index < length it.change.areas_before)) c.self.view_is c.in-Some.ensures.some in
    c.areas_after.ensures
    ∙ ap (λ (it : EditedLine). slice_index_or it.change.areas_after index []) c.self.view_is
    ∙ sym (after-at c.args.self.now is c.args.rank index at.0 at.1)

pub returns-in-None : goal.returns-in-None
returns-in-None c =
    let is = subst IsEditedLine c.self.view_is c.self.invariant in
    let other = subst (λ (it : EditedLine). changes it.change c.args.rank ≡ false) c.self.view_is c.in-None.ensures.none in
    c.as_slice.ensures
    ∙ sym (cond-true c.args.present c.args.slave.now.areas [] c.if-present.true)
    ∙ sym c.requires
    ∙ other-at c.args.self.now is c.args.rank other

pub returns-in-None-2 : goal.returns-in-None-2
returns-in-None-2 c =
    let is = subst IsEditedLine c.self.view_is c.self.invariant in
    let other = subst (λ (it : EditedLine). changes it.change c.args.rank ≡ false) c.self.view_is c.in-None.ensures.none in
    sym (cond-false c.args.present c.args.slave.now.areas [] c.if-present.false)
    ∙ sym c.requires
    ∙ other-at c.args.self.now is c.args.rank other
