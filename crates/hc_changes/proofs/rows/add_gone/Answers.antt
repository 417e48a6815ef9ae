use Rattle.std.proofs.Common.{◌≡◌, ◌==◌, ◌∷◌, ◌++◌, [], ℕ, Bool, true, false, not, None, ap, ◌∙◌, sym, append-nil}
use Rattle.std.specs.List.{list_any}
use Rattle.std.proofs.lemmas.List.{drop_all}
use Rattle.hc_places.specs.Swap.{ChangedRow}
use Rattle.hc_changes.proofs.Adding.{unchanged-added}
use Rattle.hc_changes.proofs.rows.add_gone.Goals as goal
use Rattle.hc_changes.proofs.rows.add_gone.Goals.{then-not-is_among+in_ok-push, else-not-is_among}

pub loop-variable-preserved : goal.loop-variable-preserved
loop-variable-preserved c =
    let i = c.loop-variable.variable-index in
    let variable = c.variable-item.result in
    let is_gone : ℕ → Bool = λ v. not (list_any (λ other. other == v) c.args.after.now) in
    let gone : ℕ → ChangedRow = λ v. (v, None) in
    let within = c.loop-variable-test.true in
    let answer_given : is_gone variable ≡ not c.is_among.result = ap not (sym c.is_among.ensures) in
    elim c.if-not-is_among.branch [
      | then-not-is_among+in_ok-push w ↦
          let passed : is_gone variable ≡ true = answer_given ∙ ap not w.if-not-is_among.true in
          unchanged-added gone is_gone c.args.before.now i variable true c.loop-variable.rows.items c.if-not-is_among.rows.items _ within c.variable-item.is passed (ap (λ rows. rows.items) w.rows-is ∙ w.in_ok-push.ensures.items ∙ ap (λ (row : ChangedRow). c.loop-variable.rows.items ++ row ∷ []) w.of.ensures) c.loop-variable.invariant
      | else-not-is_among w ↦
          let failed : is_gone variable ≡ false = answer_given ∙ ap not w.if-not-is_among.false in
          unchanged-added gone is_gone c.args.before.now i variable false c.loop-variable.rows.items c.if-not-is_among.rows.items _ within c.variable-item.is failed (ap (λ rows. rows.items) w.rows-is ∙ sym (append-nil c.loop-variable.rows.items)) c.loop-variable.invariant
    ]

pub returns : goal.returns
returns c = sym (append-nil c.loop-variable.rows.items) ∙ rw (drop_all c.loop-variable.variable-index c.args.before.now c.loop-variable-test.false) at c.loop-variable.invariant
