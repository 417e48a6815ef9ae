use Rattle.std.proofs.Common.{ℕ, [], ◌∷◌, ◌++◌, List, ap, ◌∙◌, sym, subst}
use Rattle.std.specs.Prelude.{slice_index_or}
use Rattle.hc_records.specs.Boundaries.{is_touched}
use Rattle.hc_records.specs.declared.keys.Key.{Key}
use Rattle.hc_records.specs.declared.keys.TheConstants.Key.{END}
use Rattle.hc_cuts.specs.Hulls.{AreHulls, no_hulls}
use Rattle.hc_cuts.specs.Areas.{list_by}
use Rattle.hc_cuts.specs.LineKeeping.{Before, IsKnownBefore}
use Rattle.hc_cuts.proofs.line_keeping.Before.unchanged_until.Goals as goal

pub returns : goal.returns
returns c = λ old new tasks.
    let own = subst (λ (before : Before). IsKnownBefore old new before) (sym c.self.view_is) tasks.known in
    let was = list_by c.args.task old in
    let now = list_by c.args.task new in
    c.unchanged_until.ensures was now
    (record {
      list = tasks.line.lists c.args.task;
      old_boundaries = ap (λ (keys : List Key). keys ++ END ∷ []) (c.of_task.ensures ∙ own.starts c.args.task c.as_index.ensures.below);
      new_boundaries = ap (λ (keys : List Key). keys ++ END ∷ []) (c.starts.ensures.starts new tasks.of_new);
      differ =
          subst (λ (task : ℕ). AreHulls (is_touched was now) (slice_index_or c.self.inside.hulls task no_hulls)) (sym c.as_index.ensures.value)
          (own.hulls c.args.task c.as_index.ensures.below);
    })
