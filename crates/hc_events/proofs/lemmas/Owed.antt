-- An edit leaves the owing of a block that the line had as it was.
use Rattle.std.proofs.Common.{◌≡◌, ℕ, ◌+◌, ◌==◌, Bool, true, false, cond, not, ◌&&◌, List, [], ◌∷◌, ◌++◌, refl, sym, ap, ◌∙◌, arith, Option, Some, None}
use Rattle.std.specs.Prelude.{find, is_some, option_and_then}
use Rattle.std.specs.Option.{option_map_or}
use Rattle.std.specs.List.{flat_map, list_any}
use Rattle.std.specs.Str.{bytes_eq}
use Rattle.std.proofs.lemmas.Bool.Decides.{nat_tests}
use Rattle.std.proofs.lemmas.Grind.{common_steps}
use Rattle.hc_records.specs.declared.edit.Edit.{Edit}
use Rattle.hc_records.specs.Line.{Member, is_at}
use Rattle.hc_records.proofs.lemmas.Choices.{by_bool, member-by}
use Rattle.hc_registers.specs.Blocks.{LineBlock, RegisterBlock, line_blocks, member_blocks, numbered, same_block, same_bytes, slave_blocks}
use Rattle.hc_events.specs.Entries.{History, Edited}
use Rattle.hc_events.specs.Points.{line_of}
use Rattle.hc_events.specs.Owed.{if_confirmed, is_in_line, is_owed, last_write}
use Rattle.hc_events.proofs.lemmas.Once.{and_left}
use Rattle.hc_events.specs.Heads.{block_item}

same_number : (m n : ℕ) → (m == n) ≡ true → (n == m) ≡ true
same_number m n e = grind (arith, nat_tests)

-- among blocks of one slave

of_slave : (block : LineBlock) (station first : ℕ) (blocks : List RegisterBlock) → list_any (same_block block) (numbered station first blocks) ≡ true → (station == block.station) ≡ true
of_slave block station first [] e = cc
of_slave block station first (one ∷ blocks) e =
    by_bool ((block.station == station) && same_bytes block.block one)
    (λ t. same_number block.station station (and_left _ _ t))
    (λ t. of_slave block station (first + 1) blocks (member-by _ _ e t))

any_joined : {X : Type 0} (test : X → Bool) (xs ys : List X) → list_any test (xs ++ ys) ≡ true → list_any test xs ≡ false → list_any test ys ≡ true
any_joined test xs ys e none = grind (arith, common_steps)

found_either : (c : Bool) (member : Member) (rest : Option Member) → (c ≡ false → is_some rest ≡ true) → is_some (cond c (Some member) rest) ≡ true
found_either true member rest k = refl
found_either false member rest k = k refl

of_line : (line members : List Member) (block : LineBlock) → list_any (same_block block) (flat_map (member_blocks line) members) ≡ true → is_some (find (is_at block.station) members) ≡ true
of_line line [] block e = cc
of_line line (member ∷ members) block e =
    found_either (is_at block.station member) member (find (is_at block.station) members)
    (λ other. by_bool (list_any (same_block block) (member_blocks line member))
    (λ t. let never : true ≡ false = sym (of_slave block member.slave.station 0 (slave_blocks line member) t) ∙ other in cc)
    (λ t. of_line line members block (any_joined (same_block block) (member_blocks line member) (flat_map (member_blocks line) members) e t)))

pub unmoved-is_owed : (history : History) (edit : Edit) (block : LineBlock) → list_any (same_block block) (line_blocks (line_of history)) ≡ true → is_owed (Edited edit ∷ history) block ≡ is_owed history block
unmoved-is_owed history edit block e =
    let there : is_in_line history block.station ≡ true = of_line (line_of history) (line_of history) block e in
    ap (λ b. not (option_map_or (bytes_eq block.block.bytes) (option_and_then (if_confirmed history (block_item block)) (cond b (last_write history block.station block.number) None)) false)) there
