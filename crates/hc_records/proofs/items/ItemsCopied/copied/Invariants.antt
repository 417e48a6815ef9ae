use Rattle.std.proofs.Common.{◌≡◌, take}
use Rattle.hc_records.proofs.items.ItemsCopied.copied.Given as goal

-- the copies so far equal what they were made from
abbrev pub invariant-loop-item : goal.invariant-loop-item
invariant-loop-item g l = l.inside.items ≡ take l.item-index l.item-items
