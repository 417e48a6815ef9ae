use Rattle.std.proofs.Common.{◌≡◌, ℕ, ◌==◌, ◌&&◌, Bool, true, false, cond, refl, ap, ap₂, ◌∙◌, arith, inl, inr, Option, None}
use Rattle.std.proofs.lemmas.Bool.{cases_order, eq-eqb, ne_eqb}
use Rattle.hc_images.specs.Image.{data_of}
use Rattle.hc_owed.specs.TaskSets.{has_task}
use Rattle.hc_core.specs.Ages.{age_of}
use Rattle.hc_core.proofs.changed.empty_tasks.Goals as goal

-- a task that is emptied if it is changed, and another one

not_own : {X : Type 0} (changed : Bool) (k t : ℕ) (x : Option X) → (k == t) ≡ false → cond (changed && (k == t)) None x ≡ x
not_own true k t x e = ap (λ b. cond b None x) e
not_own false k t x e = refl

own_one : {X : Type 0} (changed : Bool) (k t : ℕ) (x : Option X) → (k == t) ≡ true → cond (changed && (k == t)) None x ≡ cond changed None x
own_one true k t x e = ap (λ b. cond b None x) e
own_one false k t x e = refl

pub loop-task-preserved : goal.loop-task-preserved
loop-task-preserved c =
    let k = c.loop-task.task in
    let before = c.loop-task.invariant in
    let slots = c.empty_task.ensures.slots in
    let ages = c.empty_task.ensures.ages in
    let has : ℕ → Bool = λ t. has_task t c.args.changed in
    record {
      no_data = λ t d low below. elim (cases_order k t) [
        | inl same ↦
            slots t d below ∙ own_one (has k) k t (data_of c.loop-task.inputs t d) (eq-eqb k t same)
            ∙ ap₂ (λ (b : Bool) (x : _). cond b None x) (ap has same) (before.data_left t d (omega (arith, same)) below)
        | inr (inl less) ↦ absurd (omega (arith, low, less))
        | inr (inr more) ↦
            slots t d below ∙ not_own (has k) k t (data_of c.loop-task.inputs t d) (ne_eqb k t (λ same. omega (arith, same, more))) ∙ before.no_data t d more below
      ];
      data_left = λ t d low below.
          slots t d below ∙ not_own (has k) k t (data_of c.loop-task.inputs t d) (ne_eqb k t (λ same. omega (arith, same, low))) ∙ before.data_left t d (omega (arith, low)) below;
      undated = λ t d low below. elim (cases_order k t) [
        | inl same ↦
            ages t d below ∙ own_one (has k) k t (age_of c.loop-task.ages t d) (eq-eqb k t same)
            ∙ ap₂ (λ (b : Bool) (x : _). cond b None x) (ap has same) (before.ages_left t d (omega (arith, same)) below)
        | inr (inl less) ↦ absurd (omega (arith, low, less))
        | inr (inr more) ↦
            ages t d below ∙ not_own (has k) k t (age_of c.loop-task.ages t d) (ne_eqb k t (λ same. omega (arith, same, more))) ∙ before.undated t d more below
      ];
      ages_left = λ t d low below.
          ages t d below ∙ not_own (has k) k t (age_of c.loop-task.ages t d) (ne_eqb k t (λ same. omega (arith, same, low))) ∙ before.ages_left t d (omega (arith, low)) below;
    }
