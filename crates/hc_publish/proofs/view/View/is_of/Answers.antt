use Rattle.std.proofs.Common.{◌≡◌, ◌∙◌, ap, sym, subst, true, Bool}
use Rattle.std.specs.Prelude.{MatchBool}
use Rattle.hc_publish.specs.ChangesSince.{ChangesSince}
use Rattle.hc_publish.specs.PublicationLog.{Extends, TheSeen, top}
use Rattle.hc_publish.proofs.Rising.{extends_both}
use Rattle.hc_publish.proofs.view.View.is_of.Goals as goal

pub returns-then-is_within : goal.returns-then-is_within
returns-then-is_within c = λ yes.
    let copy = c.self.inside.reading.part.value in
    let own = c.behind-self.inside.front in
    let note = c.args.note.now.front in
    let front : own ≡ copy.token = ap (λ x. x.token) (c.behind-self.view_is ∙ c.get.ensures) in
    let back : Extends (top note.log) (top own.log) = subst (λ (b : Bool). MatchBool b (Extends (top note.log) (top own.log)) (Extends (top own.log) (top note.log))) yes c.is_within-then-is_within.ensures in
    let same = extends_both (top own.log) (top note.log) c.if-is_within.ensures back in
    sym (ap (λ v. v.changes_since.changes) c.self.view_is)
    ∙ (ap (λ (t : ChangesSince). t.changes) (sym c.self.invariant.is_sealed.0)
    ∙ (ap (λ (f : TheSeen). (top f.log).changes) (sym front) ∙ same))
