-- Seats that learn what is published.
use Rattle.std.proofs.Common.{◌≡◌, ◌⊎◌, ◌≤◌, List, [], ◌∷◌, ◌++◌, length, map, replicate, sym, ap, subst, ◌∙◌, arith, ⊎_elim, append_assoc}
use Rattle.std.proofs.lemmas.List.{length-append}
use Rattle.std.proofs.lemmas.Grind.{common_steps}
use mathlib.Core.List.{IsPrefix}
use Rattle.hc_events.specs.declared.change.Change.{Change}
use Rattle.hc_publish.specs.Stories.{Origin}
use Rattle.hc_conductor.specs.declared.seat.TaskSeat.{TaskSeat}
use Rattle.hc_conductor.specs.Conducting.{Conducting, conductor_origin, conductor_published}
use Rattle.hc_conductor.specs.Seats.{seat_known, task_seat_origin}
use Rattle.hc_conductor.specs.Learning.{CanLearn}

whole : {A : Type 0} (xs ys : List A) → IsPrefix xs ys → length ys ≤ length xs → xs ≡ ys
whole xs ys p le = grind (arith, common_steps)

longer : {A : Type 0} (xs ys : List A) → IsPrefix xs ys → length xs ≤ length ys
longer xs ys p = omega (arith, ap length p.1, length-append xs p.0)

-- of two lists the longer is learnt; where the one that is reported begins with the other, that is
-- it
pub learnt : {A : Type 0} (own answer_given new : List A) → IsPrefix own answer_given → (new ≡ own) ⊎ (new ≡ answer_given) → IsPrefix answer_given new → new ≡ answer_given
learnt own answer_given new begins one all =
    ⊎_elim (λ (e : new ≡ own). e ∙ whole own answer_given begins (let le = longer answer_given new all in omega (arith, le, ap length e))) (λ (e : new ≡ answer_given). e) one

pub prefix-after_it : {A : Type 0} (xs ys zs : List A) → IsPrefix (xs ++ ys) zs → IsPrefix xs zs
prefix-after_it xs ys zs p = (ys ++ p.0, sym (append_assoc xs ys p.0) ∙ p.1)

pub can-learn : (c : Conducting) (ss : List TaskSeat) (origin : Origin) (old : List Change) → conductor_origin c ≡ origin → IsPrefix old (conductor_published c) → map task_seat_origin ss ≡ replicate (length ss) origin
    → map seat_known ss ≡ replicate (length ss) old → CanLearn c ss
can-learn c [] origin old same begins origins knowns = tt
can-learn c (s ∷ ss) origin old same begins origins knowns =
    let own : task_seat_origin s ≡ origin = cc (origins) in
    let knows : seat_known s ≡ old = cc (knowns) in (
      own ∙ sym same,
      subst (λ (list : List Change). IsPrefix list (conductor_published c)) (sym knows) begins,
      can-learn c ss origin old same begins (cc (origins)) (cc (knowns)),
    )
