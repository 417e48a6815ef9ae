-- The stored register blocks of a line once an edit is carried out.
use Rattle.std.proofs.Common.{◌≡◌, ℕ, ◌*◌, ◌<◌, false, List, [], ◌∷◌, ◌++◌, length, map, refl, ap, ◌∙◌, arith, zero, suc}
use Rattle.std.specs.Prelude.{◌≢◌, All, None, Ok, Option, Some, replicate}
use Rattle.std.proofs.lemmas.List.{length-map, map-append}
use Rattle.std.proofs.lemmas.List.Elements.{All-head, All-nil, All-tail, All-weaker}
use Rattle.std.proofs.lemmas.Option.{slice_get_within}
use Rattle.hc_records.specs.declared.edit.Edit.{Edit}
use Rattle.hc_records.specs.declared.records.Declared.{Declared}
use Rattle.hc_records.specs.declared.records.Group.{Group}
use Rattle.hc_records.specs.declared.records.Slave.{Slave}
use Rattle.hc_records.specs.Edits.{absent, declares, edited}
use Rattle.hc_records.specs.Line.{State}
use Rattle.hc_records.proofs.lemmas.Lines.{declared_slaves}
use Rattle.hc_registers.specs.Blocks.{LineBlock, RegisterBlock}
use Rattle.hc_registers.specs.declared.ranked.Gone.{Gone}
use Rattle.hc_registers.specs.Ranked.{RankedBlock}
use Rattle.hc_registers.specs.RankDifferences.{IsAtItsPlace, block_place, first_gone}
use Rattle.hc_registers.specs.RankPlaces.{places}
use Rattle.hc_registers.proofs.lemmas.RanksDeclared.{declared-places}
use Rattle.hc_registers.proofs.lemmas.RanksStanding.{length-places}
use Rattle.hc_plan.specs.RegisterBlocks.{block_in, blocks_by_rank, replaced_from}
use Rattle.hc_plan.specs.inner.RegisterBlocks.{BlocksAreEdited, with_all_moved, with_moved}
use Rattle.hc_plan.proofs.lemmas.PlaceNames.{same-stations}
use Rattle.hc_plan.proofs.lemmas.Replaced.{is-map, length-changed, length-filled}
use Rattle.hc_plan.proofs.lemmas.StoredBlocks.{RightUnless, blocks-stay, changed-right, filled-at}

-- the moved blocks in place of the old ones

pub moved-size : (moved : List RankedBlock) (blocks : List (Option RegisterBlock)) → length (with_all_moved moved blocks) ≡ length blocks
moved-size [] blocks = refl
moved-size (m ∷ moved) blocks = moved-size moved (with_moved m blocks) ∙ length-changed (block_place m) (λ _. Some m.found.block) blocks

moved-right : (all : List (Option LineBlock)) (moved : List RankedBlock) (blocks : List (Option RegisterBlock)) → length blocks ≡ length all → All (IsAtItsPlace all) moved
    → RightUnless block_in all moved blocks → RightUnless block_in all [] (with_all_moved moved blocks)
moved-right all [] blocks size are_placed right = right
moved-right all (m ∷ moved) blocks size are_placed right =
    let here = All-head (IsAtItsPlace all) m moved are_placed in
    moved-right all moved (with_moved m blocks) (length-changed (block_place m) (λ _. Some m.found.block) blocks ∙ size) (All-tail (IsAtItsPlace all) m moved are_placed)
    (changed-right block_in all m moved (Some m.found.block) blocks size here refl right)

-- so they are those of the line after the edit

pub blocks-edited : (blocks : List (Option RegisterBlock)) (gone : Gone) (moved : List RankedBlock) (is : BlocksAreEdited blocks gone moved)
    → with_all_moved moved (replaced_from (first_gone gone) (16 * gone.slaves) None blocks) ≡ map block_in is.new
blocks-edited blocks gone moved is =
    let from = first_gone gone in
    let count = 16 * gone.slaves in
    let mid = replaced_from from count None (map block_in is.old) in
    let size : length mid ≡ length is.new = length-filled from count None (map block_in is.old) ∙ length-map is.old block_in ∙ is.size in
    let cleared : RightUnless block_in is.new moved mid =
    λ n z at others. filled-at is.old is.new gone moved is.differ is.size block_in block_in None n z refl at (λ w stood out. blocks-stay is.old is.new gone moved is.differ n w z stood at out others) in
    let right = moved-right is.new moved mid size is.differ.names.are_placed cleared in
    ap (λ (b : List (Option RegisterBlock)). with_all_moved moved (replaced_from from count None b)) is.are
    ∙ is-map (with_all_moved moved mid) block_in is.new (moved-size moved mid ∙ size) (λ n z at. right n z at (All-nil (λ m. block_place m ≢ n)))

pub blocks-size : (blocks : List (Option RegisterBlock)) (gone : Gone) (moved : List RankedBlock) (is : BlocksAreEdited blocks gone moved) → length blocks ≡ length is.new
blocks-size blocks gone moved is = ap length is.are ∙ length-map is.old block_in ∙ is.size

pub moved-inside : (blocks : List (Option RegisterBlock)) (gone : Gone) (moved : List RankedBlock) → BlocksAreEdited blocks gone moved → All (λ m. block_place m < length blocks) moved
moved-inside blocks gone moved is =
    let size = blocks-size blocks gone moved is in
    All-weaker (IsAtItsPlace is.new) (λ m. block_place m < length blocks)
    (λ m at. let low = slice_get_within is.new (block_place m) (Some m.found) at in omega (arith, low, size)) moved is.differ.names.are_placed

-- an edit that declares nothing keeps the places

pub same-places : (old new : State) (edit : Edit) → declares edit ≡ false → edited old edit ≡ Ok new → length (places old) ≡ length (places new)
same-places old new edit changes accepted =
    let station : Slave → ℕ = λ slave. slave.station in
    let stood = length-map (declared_slaves old.groups) station in
    let are_placed = length-map (declared_slaves new.groups) station in
    let same = ap length (same-stations old new edit changes accepted) in
    let first = length-places old in
    let second = length-places new in
    omega (arith, stood, are_placed, same, first, second)

-- a declared group has empty places after the others

map-empty : (count : ℕ) → map block_in (replicate count None) ≡ replicate count None
map-empty zero = refl
map-empty (suc count) = ap (λ (rest : List (Option RegisterBlock)). None ∷ rest) (map-empty count)

pub declared-blocks : (groups : List Declared) (group : Group) → blocks_by_rank (groups ++ absent group ∷ []) ≡ blocks_by_rank groups ++ replicate (16 * length group.slaves) None
declared-blocks groups group =
    let state : State = record { groups = groups; epoch = 0 } in
    let count = 16 * length group.slaves in
    ap (map block_in) (declared-places state group) ∙ map-append block_in (places state) (replicate count None)
    ∙ ap (λ (l : List (Option RegisterBlock)). blocks_by_rank groups ++ l) (map-empty count)
