use Rattle.std.proofs.Common.{◌≡◌, ◌∙◌, List, None, ap, arith, length, sym, refl}
use Rattle.std.proofs.lemmas.Result.{err_from_is_err_and}
use Rattle.hc_records.specs.declared.records.Declared.{Declared}
use Rattle.hc_records.specs.declared.records.Group.{Group}
use Rattle.hc_records.specs.Edits.{declaring_faults}
use Rattle.hc_records.specs.Lists.{lowest}
use Rattle.hc_records.proofs.lemmas.Declaring.{declared-keep}
use Rattle.hc_cuts.specs.Areas.{areas_by_rank}
use Rattle.hc_plan.proofs.Declared.{free-few, many-ranks, own-trees}
use Rattle.hc_plan.proofs.declaring.Declaration.of.Goals as goal

-- the copy has no fault after the declared groups
free : (slice groups : List Declared) (indexed : List Declared) (one copy : Group) → slice ≡ groups → indexed ≡ slice → copy ≡ one → lowest (declaring_faults indexed one) ≡ None → lowest (declaring_faults groups copy) ≡ None
free slice groups indexed one copy same is alike none =
    ap (λ (g : Group). lowest (declaring_faults groups g)) alike ∙ ap (λ (gs : List Declared). lowest (declaring_faults gs one)) (sym (is ∙ same)) ∙ none

pub room_for-requires-2 : goal.room_for-requires-2
room_for-requires-2 c =
    let groups = c.args.groups.now in
    let none = free c.as_slice.result.now groups c.of-indexed.result c.args.group.now c.in_ok-group.group c.as_slice.ensures c.of-indexed.ensures c.in_ok-group.ensures.copy c.in_ok-group.ensures.free in
    record { groups = groups; is = c.requires.index; project = declared-keep groups c.in_ok-group.group c.requires.index.declared.project none }

pub widened-requires-clause-fewer : goal.widened-requires-clause-fewer
widened-requires-clause-fewer c =
    let groups = c.args.groups.now in
    let many = c.declared.ensures ∙ many-ranks groups c.of-indexed.result (c.of-indexed.ensures ∙ c.as_slice.ensures) in
    record { line = areas_by_rank groups; of_line = c.requires.cuts; few = omega (arith, many) }

pub widened-requires-clause-most : goal.widened-requires-clause-most
widened-requires-clause-most c =
    let groups = c.args.groups.now in
    let group = c.in_ok-group.group in
    let none = free c.as_slice.result.now groups c.of-indexed.result c.args.group.now group c.as_slice.ensures c.of-indexed.ensures c.in_ok-group.ensures.copy c.in_ok-group.ensures.free in
    let few = free-few groups group none in
    let many = c.declared.ensures ∙ many-ranks groups c.of-indexed.result (c.of-indexed.ensures ∙ c.as_slice.ensures) in
    omega (arith, few, many, c.len-2.ensures)

pub returns-clause-ready : goal.returns-clause-ready
returns-clause-ready c =
    let groups = c.args.groups.now in
    let group = c.in_ok-group.group in
    let none = free c.as_slice.result.now groups c.of-indexed.result c.args.group.now group c.as_slice.ensures c.of-indexed.ensures c.in_ok-group.ensures.copy c.in_ok-group.ensures.free in
    let many = c.declared.ensures ∙ many-ranks groups c.of-indexed.result (c.of-indexed.ensures ∙ c.as_slice.ensures) in
    record {
      project = c.requires.index.declared.project;
      free = none;
      slaves = omega (arith, many, c.len-2.ensures);
      list = c.in_ok-room_for.ensures;
      index = c.in_ok-room_for-2.ensures groups c.requires.index;
      blocks = let size = ap length c.requires.blocks in let room = c.in_ok-room_for-3.ensures in omega (arith, size, room, c.len-3.ensures);
      trees = own-trees c.args.cuts.now groups _ _ c.requires.cuts c.in_ok-widened.ensures;
    }

pub returns-in_err-room_for-clause-refused : goal.returns-in_err-room_for-clause-refused
returns-in_err-room_for-clause-refused c =
    let p = err_from_is_err_and c.from_residual-in_err-room_for.result c.from_residual-in_err-room_for.ensures.1 in
    rw (p.1, p.2) (λ other. absurd (other refl))

pub returns-in_err-widened-clause-refused : goal.returns-in_err-widened-clause-refused
returns-in_err-widened-clause-refused c =
    let p = err_from_is_err_and c.from_residual-in_err-widened.result c.from_residual-in_err-widened.ensures.1 in
    rw (p.1, p.2) (λ other. absurd (other refl))

pub returns-in_err-room_for-2-clause-refused : goal.returns-in_err-room_for-2-clause-refused
returns-in_err-room_for-2-clause-refused c =
    let p = err_from_is_err_and c.from_residual-in_err-room_for-2.result c.from_residual-in_err-room_for-2.ensures.1 in
    rw (p.1, p.2) (λ other. absurd (other refl))

pub returns-in_err-group-clause-refused : goal.returns-in_err-group-clause-refused
returns-in_err-group-clause-refused c =
    let fault = c.in_err-group.field-0.0 in
    let p = err_from_is_err_and c.from_residual.result c.from_residual.ensures.1 in
    rw (p.1, p.2) (λ other.
    ap (λ (groups : List Declared). lowest (declaring_faults groups c.args.group.now)) (sym (c.of-indexed.ensures ∙ c.as_slice.ensures)) ∙ c.in_err-group.ensures.refused other)

pub room_for-requires-3 : goal.room_for-requires-3
room_for-requires-3 c =
    let groups = c.args.groups.now in
    let group = c.in_ok-group.group in
    let none = free c.as_slice.result.now groups c.of-indexed.result c.args.group.now group c.as_slice.ensures c.of-indexed.ensures c.in_ok-group.ensures.copy c.in_ok-group.ensures.free in
    let few = free-few groups group none in
    omega (arith, few, c.len-3.ensures)

pub returns-in_err-room_for-3-clause-refused : goal.returns-in_err-room_for-3-clause-refused
returns-in_err-room_for-3-clause-refused c =
    let p = err_from_is_err_and c.from_residual-in_err-room_for-3.result c.from_residual-in_err-room_for-3.ensures.1 in
    rw (p.1, p.2) (λ other. absurd (other refl))
