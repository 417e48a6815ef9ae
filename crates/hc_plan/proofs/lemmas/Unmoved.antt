-- A block that a report doesn't name was in the old line.
use Rattle.std.proofs.Common.{◌≡◌, Bool, true, List, Contains, sym, ap, subst, ◌∙◌, rules}
use Rattle.std.specs.Prelude.{◌≢◌, All, None, map, not}
use Rattle.std.specs.List.{list_any}
use Rattle.std.proofs.lemmas.List.Elements.{All-contains}
use Rattle.std.proofs.lemmas.List.Folds.{Any-from_list_any}
use Rattle.hc_records.specs.declared.records.Declared.{Declared}
use Rattle.hc_records.specs.Line.{Member, groups_of, line_from}
use Rattle.hc_records.specs.Project.{lowest_fault}
use Rattle.hc_records.proofs.lemmas.Lists.{All-from_filter, All-unmap}
use Rattle.hc_registers.specs.Blocks.{LineBlock, line_blocks, moved_blocks, same_block}
use Rattle.hc_plan.specs.Laws.{IsConfiguredIn}
use Rattle.hc_plan.specs.Reports.{found_name}
use Rattle.hc_plan.proofs.Registers.{one-block}

same-is : (found other : LineBlock) → same_block found other ≡ true → other ≡ record found { number = other.number }
same-is found other same = search rules

-- a block that isn't among the moved ones was the same as one of the old line
had-by : (had : Bool) (found : LineBlock) → (not had ≡ true → found_name found ≢ found_name found) → had ≡ true
had-by had found unless = search rules

had : (old new : List Member) (found : LineBlock) → All (λ name. name ≢ found_name found) (map found_name (moved_blocks old new)) → Contains (line_blocks new) found
    → list_any (same_block found) (line_blocks old) ≡ true
had old new found unnamed at =
    let test : LineBlock → Bool = λ block. not (list_any (same_block block) (line_blocks old)) in
    had-by (list_any (same_block found) (line_blocks old)) found
    (All-contains (λ block. test block ≡ true → found_name block ≢ found_name found) (line_blocks new) found
    (All-from_filter (λ block. found_name block ≢ found_name found) test (line_blocks new)
    (All-unmap (λ name. name ≢ found_name found) found_name (moved_blocks old new) unnamed)) at)

pub stays : (groups : List Declared) (new : List Member) (found : LineBlock) → lowest_fault (groups_of groups) ≡ None
    → All (λ name. name ≢ found_name found) (map found_name (moved_blocks (line_from 1 groups) new)) → Contains (line_blocks new) found → IsConfiguredIn (line_from 1 groups) found
stays groups new found none unnamed at =
    let old = line_from 1 groups in
    let some = Any-from_list_any (same_block found) (line_blocks old) (had old new found unnamed at) in
    let before : LineBlock = some.1 in
    let stood : Contains (line_blocks old) before = (some.0, some.2, some.3) in
    let same : before ≡ record found { number = before.number } = same-is found before some.4 in
    record {
      configured = (before.number, subst (Contains (line_blocks old)) same stood);
      alone = λ other contained station register.
          one-block groups other before none contained stood
          (station ∙ sym (ap (λ (block : LineBlock). block.station) same))
          (register ∙ sym (ap (λ (block : LineBlock). block.block.register) same))
          ∙ ap (λ (block : LineBlock). block.block) same;
    }
