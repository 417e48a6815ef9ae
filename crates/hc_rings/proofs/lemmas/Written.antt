-- Bytes that were written over others, as a loan of a buffer leaves them.
use Rattle.std.proofs.Common.{◌≡◌, ℕ, List, ◌++◌, length, take, drop, ap, sym, ◌∙◌}
use Rattle.std.proofs.Math.Seq.{take-append_seam}
use Rattle.hc_rings.specs.Post.{overwritten}

-- as many bytes, written over all of them, are what is there
pub overwritten_whole : (bytes written : List ℕ) → length written ≡ length bytes → overwritten bytes written ≡ written
overwritten_whole bytes written same =
    ap (λ n. take n (written ++ drop (length written) bytes)) (sym same) ∙ take-append_seam written (drop (length written) bytes)
