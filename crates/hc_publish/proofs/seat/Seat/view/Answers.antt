use Rattle.std.proofs.Common.{◌≡◌, [], ◌∷◌, ◌∙◌, ap, sym}
use Rattle.hc_publish.specs.PublicationLog.{top}
use Rattle.hc_publish.specs.Rule.{publication_logs}
use Rattle.hc_publish.proofs.Ruled.{stays, one_publication_log}
use Rattle.hc_publish.proofs.seat.Seat.view.Goals as goal

pub enter_as-requires : goal.enter_as-requires
enter_as-requires c x = stays _ _ x

pub is_within-requires : goal.is_within-requires
is_within-requires c =
    ap (λ x. x.token.book) (c.behind-reading.view_is ∙ c.get.ensures) ∙ one_publication_log _ _ c.in-Ok.reading.part.value c.args.self.bound c.in-Ok.ensures.1.1

pub invariant_of-result-else-is_within : goal.invariant_of-result-else-is_within
invariant_of-result-else-is_within c =
    record { bound = ap publication_logs (c.leave.ensures.1 ∙ c.in-Ok.ensures.1.0) ∙ ap (λ b. b ∷ []) (one_publication_log _ _ c.in-Ok.reading.part.value c.args.self.bound c.in-Ok.ensures.1.1) }

pub returns-then-is_within-clause-origin : goal.returns-then-is_within-clause-origin
returns-then-is_within-clause-origin c =
    let copy = c.in-Ok.reading.part.value in
    let publication_log = one_publication_log _ _ copy c.args.self.bound c.in-Ok.ensures.1.1 in
    let front = ap (λ x. x.token) (c.behind-reading.view_is ∙ c.get.ensures) in
    let sealed = c.in-Ok.ensures.1.2.0 in
    let groups : copy.shown.groups ≡ (top c.args.self.front.log).groups =
    ap (λ z. z.groups) (sym sealed) ∙ (ap (λ f. (top f.log).groups) (sym front) ∙ c.if-is_within.ensures.groups) in
    cc (publication_log, groups)
