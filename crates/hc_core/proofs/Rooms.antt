-- At most one older frame of the first owed register blocks stays awaited after a new one, so there is room for it.
use Rattle.std.proofs.Common.{◌≡◌, ◌<◌, List, [], ◌∷◌, length, map, refl, ap, subst, suc}
use Rattle.hc_events.specs.Accepted.{IsFirstWrite, IsWrite}
use Rattle.hc_events.specs.Entries.{History, Wrote}
use Rattle.hc_events.specs.Owed.{owed_blocks}
use Rattle.hc_events.specs.Points.{next_serial}
use Rattle.hc_events.proofs.lemmas.TwoWrites.{two-writes}
use Rattle.hc_sendings.specs.declared.awaited.TheConstants.{AWAITED_WRITES}
use Rattle.hc_sendings.specs.declared.write_frames.PlacedBlock.{PlacedBlock}
use Rattle.hc_sendings.specs.Waiting.{awaited_block, older_writes}
use Rattle.hc_sendings.specs.WriteFrames.{block_of}
use Rattle.hc_sendings.proofs.lemmas.Awaits.{waits-wrote}
use Rattle.hc_sendings.proofs.lemmas.FewWrites.{few-older}
use Rattle.hc_core.proofs.Names.{own-names}
use Rattle.hc_core.specs.Agreement.{Agree, CoreParts}

pub same-length : (placed : List PlacedBlock) → length (map block_of placed) ≡ length placed
same-length [] = refl
same-length (one ∷ placed) = ap suc (same-length placed)

pub older-few : (unchanged : CoreParts) (history taken : History) (placed : List PlacedBlock) → IsWrite history (map block_of placed) → IsFirstWrite (owed_blocks history) (map block_of placed) → Agree unchanged history taken
    → length (older_writes (map awaited_block placed) unchanged.awaited) < AWAITED_WRITES
older-few unchanged history taken placed write first agree =
    let next = Wrote (map block_of placed) ∷ history in
    few-older next unchanged.awaited (next_serial history) (map awaited_block placed)
    (waits-wrote history unchanged.awaited placed (subst (λ n. 0 < n) (same-length placed) write.some) first agree.waits.awaits)
    (λ low high older newer. two-writes next low high older newer (write, agree.accepted) (own-names next agree.project))
