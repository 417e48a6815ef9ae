use Rattle.std.proofs.Common.{◌∙◌, ℕ, ◌+◌, ◌-◌, ◌++◌, List, ◌∷◌, [], ap, sym, append_assoc, append-nil, drop, length}
use Rattle.std.proofs.lemmas.List.{drop_all, drop_more}
use Rattle.toml.specs.declared.value.Value.{Value}
use Rattle.toml.specs.View.{items_view, view}
use Rattle.hc_records.specs.declared.records.Group.{Group}
use Rattle.hc_project.specs.declared.reading.Reading.{Reading}
use Rattle.hc_project.specs.Levels.{group, groups}
use Rattle.hc_project.specs.Reading.{both}
use Rattle.hc_project.proofs.Joined.{both_alone, both_first, both_grouped, same_reading}
use Rattle.hc_project.proofs.levels.read_each_group.Goals as goal

pub loop-index-init : goal.loop-index-init
loop-index-init c =
    let whole = groups c.args.room 0 (items_view c.args.values.now) in
    record {
      items = ap (λ items. items ++ whole.value) c.new-items.ensures;
      faults = ap (λ faults. both faults whole.syntax_faults) c.none-syntax_faults.ensures ∙ both_first whole.syntax_faults;
    }

-- the groups after one that was read
abbrev others : ℕ → ℕ → List Value → Reading Group → Reading (List Group)
others room index values read = groups (room - length read.value.slaves) index (items_view values)

pub loop-index-preserved : goal.loop-index-preserved
loop-index-preserved c =
    let room = c.loop-index.left in
    let index = c.loop-index.index in
    let after_it = drop (index + 1) c.args.values.now in
    let read = c.in_ok-reading.reading in
    let items = c.loop-index.items in
    let faults = c.loop-index.syntax_faults in
    let fewer = c.saturating_sub-left.ensures ∙ ap (λ n. room - n) c.len.ensures in
    let left = rw (drop_more c.args.values.now index c.index-values-index.result c.loop-index-test.true) at c.loop-index.invariant in
    record {
      items = ap (λ items. items ++ (groups c.saturating_sub-left.result (index + 1) (items_view after_it)).value) c.in_ok-push.ensures.items
          ∙ ap (λ room. (items ++ read.value ∷ []) ++ (groups room (index + 1) (items_view after_it)).value) fewer
          ∙ append_assoc items (read.value ∷ []) (others room (index + 1) after_it read).value
          ∙ ap (λ read. items ++ read.value ∷ (others room (index + 1) after_it read).value) c.in_ok-reading.ensures
          ∙ ap (λ value. items ++ (group room index (view value)).value ∷ (others room (index + 1) after_it (group room index (view value))).value) c.index-values-index.is
          ∙ left.items;
      faults = ap (λ faults. both faults (groups c.saturating_sub-left.result (index + 1) (items_view after_it)).syntax_faults) c.both-syntax_faults.ensures
          ∙ ap (λ room. both (both faults read.syntax_faults) (groups room (index + 1) (items_view after_it)).syntax_faults) fewer
          ∙ both_grouped faults read.syntax_faults (others room (index + 1) after_it read).syntax_faults
          ∙ ap (λ read. both faults (both read.syntax_faults (others room (index + 1) after_it read).syntax_faults)) c.in_ok-reading.ensures
          ∙ ap (λ value. both faults (both (group room index (view value)).syntax_faults (others room (index + 1) after_it (group room index (view value))).syntax_faults)) c.index-values-index.is
          ∙ left.faults;
    }

pub returns : goal.returns
returns c =
    let left = rw (drop_all c.loop-index.index c.args.values.now c.loop-index-test.false) at c.loop-index.invariant in
    same_reading (groups c.args.room 0 (items_view c.args.values.now)) c.loop-index.items c.loop-index.syntax_faults
    (sym (append-nil c.loop-index.items) ∙ left.items) (sym (both_alone c.loop-index.syntax_faults) ∙ left.faults)
