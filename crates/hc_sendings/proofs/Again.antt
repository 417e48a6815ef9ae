-- A block of a write is among those of a later one, by how these are placed.
use Rattle.std.proofs.Common.{◌≡◌, Bool, ◌||◌, List, [], ◌∷◌, map, refl, ap}
use Rattle.std.specs.List.{list_any}
use Rattle.hc_sendings.specs.declared.write_frames.PlacedBlock.{PlacedBlock}
use Rattle.hc_sendings.specs.declared.writes.AwaitedBlock.{AwaitedBlock}
use Rattle.hc_sendings.specs.Waiting.{awaited_block, is_same}

pub any_same : (block : AwaitedBlock) (placed : List PlacedBlock) → list_any (λ (other : PlacedBlock). is_same block (awaited_block other)) placed ≡ list_any (is_same block) (map awaited_block placed)
any_same block [] = refl
any_same block (one ∷ placed) = ap (λ (b : Bool). is_same block (awaited_block one) || b) (any_same block placed)
