-- Opening of a conductor, and its failures.
use Rattle.std.specs.Prelude.{◌≡◌, ℕ, List, [], ◌∷◌, None, Some}
use Rattle.hc_records.specs.declared.records.Group.{Group}
use Rattle.hc_records.specs.Edits.{over_limit_task}
use Rattle.hc_records.specs.Line.{line, opened}
use Rattle.hc_records.specs.Project.{lowest_fault}
use Rattle.hc_places.specs.Table.{Table, part_in}
use Rattle.hc_publish.specs.declared.faults.OpenFault.{OpenFault}
use Rattle.hc_publish.specs.declared.faults.OpenFault.TheVariants.{TooManyDatagrams, Memory, NoSeat}
use Rattle.hc_rings.specs.declared.posts.PostReceiver.{PostReceiver}
use Rattle.hc_rings.specs.declared.posts.PostSender.{PostSender}
use Rattle.hc_rings.specs.Ring.{ArePostEnds, PostsEach, held, posted}

-- the groups are a project's, and no task of its opened line needs more than 16 datagrams
pub record IsOpenable (groups : List Group) : Type 0 where
  pub project : lowest_fault groups ≡ None
  pub uncrowded : over_limit_task (line (opened groups)) ≡ None

-- an opening fails: with a task, the lowest of the opened line that needs more than 16 datagrams; for want of a seat, only if
-- the groups can be opened; for want of memory, in any case
abbrev pub IsOpenFault : List Group → OpenFault → Type 0
IsOpenFault groups (TooManyDatagrams task) = over_limit_task (line (opened groups)) ≡ Some task
IsOpenFault groups Memory = Unit {0}
IsOpenFault groups NoSeat = IsOpenable groups

-- the output bytes of a task
abbrev pub output_bytes : Table → ℕ → ℕ
output_bytes table task = (part_in table task).0

-- nothing was posted, and nothing is held
abbrev pub IsUnused : PostSender → Type 0
IsUnused s = (posted s ≡ []) × (held s ≡ None) × PostsEach s

-- the two ends of rings, one by one, as many of both
abbrev pub AreEnds : List PostSender → List PostReceiver → Type 0
AreEnds [] [] = Unit {0}
AreEnds (s ∷ ss) (r ∷ rs) = ArePostEnds s r × AreEnds ss rs
AreEnds ss rs = ⊥
