use Rattle.std.proofs.Common.{◌≡◌, ◌<◌, ◌∙◌, length, ap, sym, arith}
use Rattle.std.specs.Prelude.{filter, ◌++◌}
use Rattle.hc_records.specs.declared.records.Dir.{Dir}
use Rattle.hc_records.specs.declared.records.Dir.TheVariants.{Out, In}
use Rattle.hc_records.specs.Boundaries.{width_in}
use Rattle.hc_bitsum.specs.Branch.{branch_slots}
use Rattle.hc_bitsum.specs.Slots.{key_at}
use Rattle.hc_bitsum.specs.Tree.{Tree, has_width}
use Rattle.hc_bitsum.proofs.Unchanged.{holds-list}
use Rattle.hc_bitsum.proofs.Read.{bits-narrow, width-input, width-none, width-output}
use Rattle.hc_bitsum.proofs.tree.SumTree.bits.Goals as goal

pub returns-then-not-has_place-clause-width : goal.returns-then-not-has_place-clause-width
returns-then-not-has_place-clause-width c =
    let list = filter has_width ((branch_slots c.self.inside.outputs).areas ++ (branch_slots c.self.inside.inputs).areas) in
    let holds = holds-list c.self.inside.slaves (branch_slots c.self.inside.outputs) (branch_slots c.self.inside.inputs) c.self.invariant.outs c.self.invariant.ins in
    let none = width-none c.self.inside.slaves c.args.key list holds.places (λ has. let yes = c.has_place.ensures.no has in let no = c.if-not-has_place.true in cc) in
    sym none ∙ ap (λ (tree : Tree). width_in tree.list c.args.key) c.self.view_is

pub returns-in-Out-clause-width : goal.returns-in-Out-clause-width
returns-in-Out-clause-width c =
    let place = c.place_of-place.result in
    let key : c.args.key ≡ key_at Out place = c.place_of-place.ensures.value ∙ ap (λ (d : Dir). key_at d place) c.in-Out.is in
    let has = c.has_place.ensures.yes c.if-not-has_place.false in
    let room = c.self.invariant.outs.room in
    let within = c.place_of-place.ensures.within in
    let last = has.last in
    let area = has.area in
    let inside : place < length (branch_slots c.self.inside.outputs).areas = omega arith in
    c.bits.ensures
    ∙ width-output place (branch_slots c.self.inside.outputs).areas (branch_slots c.self.inside.inputs).areas c.self.invariant.outs.keys c.self.invariant.ins.keys inside
    ∙ ap (width_in _) (sym key) ∙ ap (λ (tree : Tree). width_in tree.list c.args.key) c.self.view_is

pub returns-in-In-clause-width : goal.returns-in-In-clause-width
returns-in-In-clause-width c =
    let place = c.place_of-place.result in
    let key : c.args.key ≡ key_at In place = c.place_of-place.ensures.value ∙ ap (λ (d : Dir). key_at d place) c.in-In.is in
    let has = c.has_place.ensures.yes c.if-not-has_place.false in
    let room = c.self.invariant.ins.room in
    let within = c.place_of-place.ensures.within in
    let last = has.last in
    let area = has.area in
    let inside : place < length (branch_slots c.self.inside.inputs).areas = omega arith in
    c.bits-in-In.ensures
    ∙ width-input place (branch_slots c.self.inside.outputs).areas (branch_slots c.self.inside.inputs).areas c.self.invariant.outs.keys c.self.invariant.ins.keys inside
    ∙ ap (width_in _) (sym key) ∙ ap (λ (tree : Tree). width_in tree.list c.args.key) c.self.view_is

pub returns-in-Out-clause-narrow : goal.returns-in-Out-clause-narrow
returns-in-Out-clause-narrow c =
    let bits = c.bits.ensures in
    let low = bits-narrow c.place_of-place.result (branch_slots c.self.inside.outputs).areas c.self.invariant.outs.shape.narrow in
    omega arith

pub returns-in-In-clause-narrow : goal.returns-in-In-clause-narrow
returns-in-In-clause-narrow c =
    let bits = c.bits-in-In.ensures in
    let low = bits-narrow c.place_of-place.result (branch_slots c.self.inside.inputs).areas c.self.invariant.ins.shape.narrow in
    omega arith
