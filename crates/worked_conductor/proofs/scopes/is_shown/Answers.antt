use Rattle.std.proofs.Common.{sym, ◌∙◌}
use Rattle.worked_conductor.proofs.Firsts.{first-origin, second-origin}
use Rattle.worked_conductor.proofs.scopes.is_shown.Goals as goal

pub two_scopes-shown-requires-clause-one : goal.two_scopes-shown-requires-clause-one
two_scopes-shown-requires-clause-one g c = first-origin _ _ _ _ c.in-Some.ensures c.in-Some-first_two.ensures.1 ∙ sym c.is_programmed-programmed.ensures

pub two_scopes-shown-requires-clause-two : goal.two_scopes-shown-requires-clause-two
two_scopes-shown-requires-clause-two g c = second-origin _ _ _ _ _ c.in-Some.ensures c.in-Some-first_two.ensures.1 ∙ sym c.is_programmed-programmed.ensures
