-- The numbers of the faults of a post.
use Rattle.std.specs.Prelude.{ℕ}
use Rattle.hc_rings.specs.declared.posts.holding.PostFault.{PostFault}
use Rattle.hc_rings.specs.declared.posts.holding.PostFault.TheVariants.{NoBuffer, Full}

-- in the order in which they are judged
abbrev pub post_fault_number : PostFault → ℕ
post_fault_number NoBuffer = 1
post_fault_number Full = 2
