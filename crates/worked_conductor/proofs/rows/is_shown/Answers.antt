use Rattle.worked_conductor.proofs.Firsts.{first-origin}
use Rattle.worked_conductor.proofs.rows.is_shown.Goals as goal

pub is_seen-seen-requires : goal.is_seen-seen-requires
is_seen-seen-requires g c = first-origin _ _ _ _ c.in-Some.ensures c.in-Some-first_two.ensures.1
