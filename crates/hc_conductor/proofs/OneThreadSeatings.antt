-- One seat of a master, and a master that has another seat in its place.
use Rattle.std.proofs.Common.{◌≡◌, ℕ, ◌<◌, List, length, get_or, map, set, sym, ap, subst, ◌∙◌, arith}
use Rattle.std.proofs.Math.Seq.{map-set_same}
use Rattle.std.proofs.lemmas.List.{length-map}
use Rattle.std.proofs.lemmas.List.FromFn.{length-range_with_len}
use Rattle.hc_records.specs.declared.limits.TheConstants.{TASKS}
use Rattle.hc_publish.specs.Stories.{Origin}
use Rattle.hc_rings.specs.declared.posts.PostSender.{PostSender}
use Rattle.hc_rings.specs.Ring as ring
use Rattle.hc_conductor.specs.declared.seat.TaskSeat.{TaskSeat}
use Rattle.hc_conductor.specs.Conducting.{conductor_origin}
use Rattle.hc_conductor.specs.Seats.{seat_held, seat_known, task_seat_origin, sender, seat_task}
use Rattle.hc_conductor.specs.Together.{EachRing, LostNoBuffer, posts_waiting}
use Rattle.hc_conductor.specs.Mastering.{IsMastering, Mastering, master_published, master_shown, waiting}
use Rattle.hc_conductor.specs.Posting.{known_to}
use Rattle.hc_conductor.proofs.Seated.{each-at, number-at}
use Rattle.hc_conductor.proofs.lemmas.AnswerGiven.{answer_given-same}

-- a task's seat
pub record IsSeatOf (m : Mastering) (task : ℕ) (s : TaskSeat) : Type 0 where
  pub inside : task < length m.seats
  pub task_is : seat_task s ≡ task
  pub knows : seat_known s ≡ master_published m
  pub origin : task_seat_origin s ≡ conductor_origin m.conductor
  pub answer_given : known_to s ≡ master_shown m

pub seat-of : (m : Mastering) (task n : ℕ) (s d : TaskSeat) → IsMastering m → n ≡ task → task < TASKS → s ≡ get_or m.seats n d → IsSeatOf m task s
seat-of m task n s d is at low there =
    let inside : n < 8 = omega (arith, at, low) in
    let many : length m.seats ≡ 8 = sym (length-map m.seats seat_task) ∙ (ap length is.tasks ∙ length-range_with_len 0 8) in
    let origin : task_seat_origin s ≡ conductor_origin m.conductor = ap task_seat_origin there ∙ each-at task_seat_origin m.seats 8 (conductor_origin m.conductor) n d is.origins inside in
    let knows : seat_known s ≡ master_published m = ap seat_known there ∙ each-at seat_known m.seats 8 (master_published m) n d is.known inside in
    record {
      inside = omega (arith, many, low);
      task_is = ap seat_task there ∙ (number-at seat_task m.seats 8 n d is.tasks inside ∙ at);
      knows = knows;
      origin = origin;
      answer_given = answer_given-same (known_to s) (master_shown m) (ap (λ (o : Origin). o.groups) origin) knows;
    }

-- another seat that differs in what it viewed last alone
pub record SeesAnother (s t : TaskSeat) : Type 0 where
  pub task : seat_task t ≡ seat_task s
  pub knows : seat_known t ≡ seat_known s
  pub origin : task_seat_origin t ≡ task_seat_origin s
  pub sends : sender t ≡ sender s

senders-unchanged : (ss : List TaskSeat) (n : ℕ) (s t d : TaskSeat) → s ≡ get_or ss n d → SeesAnother s t → map sender (set ss n t) ≡ map sender ss
senders-unchanged ss n s t d there another = map-set_same sender ss n t d (another.sends ∙ ap sender there)

pub seat-unchanged : (m : Mastering) (n : ℕ) (s t d : TaskSeat) → IsMastering m → s ≡ get_or m.seats n d → SeesAnother s t → IsMastering (record { conductor = m.conductor; seats = set m.seats n t })
seat-unchanged m n s t d is there another = record {
  tasks = map-set_same seat_task m.seats n t d (another.task ∙ ap seat_task there) ∙ is.tasks;
  known = map-set_same seat_known m.seats n t d (another.knows ∙ ap seat_known there) ∙ is.known;
  origins = map-set_same task_seat_origin m.seats n t d (another.origin ∙ ap task_seat_origin there) ∙ is.origins;
  none_held = map-set_same seat_held m.seats n t d (ap ring.held (another.sends ∙ ap sender there)) ∙ is.none_held;
  whole = subst (λ (ss : List PostSender). EachRing LostNoBuffer ss m.conductor.rings) (sym (senders-unchanged m.seats n s t d there another)) is.whole;
}

pub waiting-unchanged : (m : Mastering) (n : ℕ) (s t d : TaskSeat) → s ≡ get_or m.seats n d → SeesAnother s t → waiting (record { conductor = m.conductor; seats = set m.seats n t }) ≡ waiting m
waiting-unchanged m n s t d there another = ap (λ (ss : List PostSender). posts_waiting ss m.conductor.rings) (senders-unchanged m.seats n s t d there another)
