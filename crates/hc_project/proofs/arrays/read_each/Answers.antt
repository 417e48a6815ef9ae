use Rattle.std.proofs.Common.{◌∙◌, ◌+◌, ◌++◌, ◌∷◌, [], ap, sym, append_assoc, append-nil, drop}
use Rattle.std.proofs.lemmas.List.{drop_all, drop_more}
use Rattle.toml.specs.View.{items_view, view}
use Rattle.hc_project.specs.Arrays.{each}
use Rattle.hc_project.specs.Reading.{both}
use Rattle.hc_project.proofs.Joined.{both_alone, both_first, both_grouped, same_reading}
use Rattle.hc_project.proofs.arrays.read_each.Goals as goal

pub loop-index-init : goal.loop-index-init
loop-index-init g c =
    let whole = each (g.T.Readable.reads c.args.most c.args.place) 0 (items_view c.args.values.now) in
    record {
      items = ap (λ items. items ++ whole.value) c.new-items.ensures;
      faults = ap (λ faults. both faults whole.syntax_faults) c.none-syntax_faults.ensures ∙ both_first whole.syntax_faults;
    }

pub loop-index-preserved : goal.loop-index-preserved
loop-index-preserved g c =
    let one = g.T.Readable.reads c.args.most c.args.place c.loop-index.index in
    let rest = each (g.T.Readable.reads c.args.most c.args.place) (c.loop-index.index + 1) (items_view (drop (c.loop-index.index + 1) c.args.values.now)) in
    let read = c.in_ok-reading.reading in
    let items = c.loop-index.items in
    let faults = c.loop-index.syntax_faults in
    let left = rw (drop_more c.args.values.now c.loop-index.index c.index-values-index.result c.loop-index-test.true) at c.loop-index.invariant in
    record {
      items = ap (λ items. items ++ rest.value) c.in_ok-push.ensures.items
          ∙ append_assoc items (read.value ∷ []) rest.value
          ∙ ap (λ read. items ++ read.value ∷ rest.value) c.in_ok-reading.ensures
          ∙ ap (λ value. items ++ (one (view value)).value ∷ rest.value) c.index-values-index.is
          ∙ left.items;
      faults = ap (λ faults. both faults rest.syntax_faults) c.both-syntax_faults.ensures
          ∙ both_grouped faults read.syntax_faults rest.syntax_faults
          ∙ ap (λ read. both faults (both read.syntax_faults rest.syntax_faults)) c.in_ok-reading.ensures
          ∙ ap (λ value. both faults (both (one (view value)).syntax_faults rest.syntax_faults)) c.index-values-index.is
          ∙ left.faults;
    }

pub returns : goal.returns
returns g c =
    let left = rw (drop_all c.loop-index.index c.args.values.now c.loop-index-test.false) at c.loop-index.invariant in
    same_reading (each (g.T.Readable.reads c.args.most c.args.place) 0 (items_view c.args.values.now)) c.loop-index.items c.loop-index.syntax_faults
    (sym (append-nil c.loop-index.items) ∙ left.items) (sym (both_alone c.loop-index.syntax_faults) ∙ left.faults)
