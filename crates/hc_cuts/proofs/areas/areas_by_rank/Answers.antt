use Rattle.std.specs.List.{flat_map}
use Rattle.std.proofs.Common.{◌≡◌, ℕ, ◌+◌, ◌<◌, List, ◌∷◌, ◌++◌, length, get_or, drop, sym, ap, ◌∙◌, append_assoc, append-nil}
use Rattle.std.proofs.lemmas.List.{drop_more, drop_all}
use Rattle.hc_records.specs.declared.records.Area.{Area}
use Rattle.hc_records.specs.declared.records.Declared.{Declared}
use Rattle.hc_cuts.specs.Areas.{areas_by_rank, present_areas}
use Rattle.hc_cuts.proofs.areas.areas_by_rank.Goals as goal

-- the slaves of one group more, and those of the groups after it
groups-on : (groups : List Declared) (i : ℕ) (declared : Declared) (done new all : List (List Area)) → i < length groups → declared ≡ get_or groups i declared
    → new ≡ done ++ present_areas declared → done ++ flat_map present_areas (drop i groups) ≡ all → new ++ flat_map present_areas (drop (i + 1) groups) ≡ all
groups-on groups i declared done new all inside is added answer_given =
    let rest = drop (i + 1) groups in
    let cut : drop i groups ≡ declared ∷ rest = drop_more groups i declared inside ∙ ap (λ (d : Declared). d ∷ rest) (sym is) in
    ap (λ (list : List (List Area)). list ++ flat_map present_areas rest) added
    ∙ append_assoc done (present_areas declared) (flat_map present_areas rest)
    ∙ ap (λ (left : List Declared). done ++ flat_map present_areas left) (sym cut)
    ∙ answer_given

pub loop-declared-preserved : goal.loop-declared-preserved
loop-declared-preserved c =
    let l = c.loop-declared in
    groups-on c.args.groups.now l.declared-index c.declared-item.result l.slaves.items c.add_group.new.slaves.items (areas_by_rank c.args.groups.now) c.loop-declared-test.true c.declared-item.is
    c.in_ok-add_group.ensures l.invariant

pub returns : goal.returns
returns c = sym (append-nil c.loop-declared.slaves.items) ∙ rw (drop_all c.loop-declared.declared-index c.args.groups.now c.loop-declared-test.false) at c.loop-declared.invariant
