-- Posts that are left.
use Rattle.std.proofs.Common.{◌≡◌, ◌+◌, List, [], ◌∷◌, ◌++◌, length, ap, arith}
use Rattle.std.proofs.lemmas.List.{length-append}
use Rattle.hc_rings.specs.Post.{Post}

-- where one post more was taken and the whole stayed, one less is left
pub one_less_left : (before rest after less : List Post) (b : Post) → after ≡ before ++ b ∷ [] → after ++ less ≡ before ++ rest → length less + 1 ≡ length rest
one_less_left before rest after less b more same =
    omega (arith, ap length more, ap length same, length-append before (b ∷ []), length-append after less, length-append before rest)
