use Rattle.std.specs.Prelude.{map}
use Rattle.std.proofs.Common.{◌≡◌, ℕ, ◌+◌, ◌<◌, List, [], ◌∷◌, ◌++◌, length, get_or, drop, sym, ap, ◌∙◌, append_assoc, arith, if◌then◌else◌, append-nil}
use Rattle.std.proofs.lemmas.List.{drop_more, drop_all}
use Rattle.hc_records.specs.declared.records.Area.{Area}
use Rattle.hc_records.specs.declared.records.Slave.{Slave}
use Rattle.hc_cuts.specs.Areas.{present_areas}
use Rattle.hc_cuts.proofs.areas.add_group.Goals as goal
use Rattle.hc_cuts.proofs.areas.add_group.Goals.{then-declared, else-declared}

-- one slave more, and those after it
slaves-on : (own : Slave → List Area) (slaves : List Slave) (i : ℕ) (slave : Slave) (areas : List Area) (done new all : List (List Area)) → i < length slaves → slave ≡ get_or slaves i slave
    → areas ≡ own slave → new ≡ done ++ areas ∷ [] → done ++ map own (drop i slaves) ≡ all → new ++ map own (drop (i + 1) slaves) ≡ all
slaves-on own slaves i slave areas done new all inside is has added answer_given =
    let rest = drop (i + 1) slaves in
    let cut : drop i slaves ≡ slave ∷ rest = drop_more slaves i slave inside ∙ ap (λ (s : Slave). s ∷ rest) (sym is) in
    ap (λ (list : List (List Area)). list ++ map own rest) added
    ∙ append_assoc done (areas ∷ []) (map own rest)
    ∙ ap (λ (a : List Area). done ++ a ∷ map own rest) has
    ∙ ap (λ (left : List Slave). done ++ map own left) (sym cut)
    ∙ answer_given

pub loop-slave-preserved : goal.loop-slave-preserved
loop-slave-preserved c =
    let l = c.loop-slave in
    let declared = c.args.declared.now in
    let slave = c.slave-item.result in
    let has : c.if-declared.areas.now ≡ (if declared.present then slave.areas else []) =
    elim c.if-declared.branch [ then-declared w ↦ grind (arith, w.areas-is, w.if-declared, w.as_slice-areas) | else-declared w ↦ grind (arith, w.areas-is, w.if-declared) ] in
    slaves-on (λ slave. if declared.present then slave.areas else []) c.as_slice-slave-items.result.now l.slave-index slave c.if-declared.areas.now l.slaves.items c.push.new.self.items
    (c.args.slaves.now.items ++ present_areas declared) c.loop-slave-test.true c.slave-item.is has c.in_ok-push.ensures.items l.invariant

pub returns : goal.returns
returns c = sym (append-nil c.loop-slave.slaves.items) ∙ rw (drop_all c.loop-slave.slave-index c.as_slice-slave-items.result.now c.loop-slave-test.false) at c.loop-slave.invariant
