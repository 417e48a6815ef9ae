-- Machines in segments.
use Rattle.std.proofs.Common.{◌≡◌, ◌≤◌, ◌+◌, ◌*◌, ℕ, All, List, [], ◌∷◌, ◌++◌, length, map, take, drop, refl, sym, ap, ◌∙◌, arith, append_assoc, append-nil, length-append, length-drop, take-append-drop}
use Rattle.std.proofs.lemmas.Grind.{common_steps}
use Rattle.hc_segment.specs.Line.{all_machines}

-- one segment more
joined-more : (segments : List (List (List ℕ))) (segment : List (List ℕ)) → all_machines (segments ++ segment ∷ []) ≡ all_machines segments ++ segment
joined-more [] segment = append-nil segment
joined-more (s ∷ segments) segment = ap (λ rest. s ++ rest) (joined-more segments segment) ∙ sym (append_assoc s (all_machines segments) segment)

-- the next machines, so many at most, are a segment more
pub dealt-more : (segments more : List (List (List ℕ))) (left next all : List (List ℕ)) (size : ℕ) → more ≡ segments ++ take size left ∷ [] → next ≡ drop size left → all_machines segments ++ left ≡ all
    → all_machines more ++ next ≡ all
dealt-more segments more left next all size pushed rest dealt =
    ap (λ (ss : List (List (List ℕ))). all_machines ss ++ next) pushed
    ∙ ap (λ (ms : List (List ℕ)). ms ++ next) (joined-more segments (take size left))
    ∙ ap (λ (ms : List (List ℕ)). (all_machines segments ++ take size left) ++ ms) rest
    ∙ append_assoc (all_machines segments) (take size left) (drop size left)
    ∙ ap (λ (ms : List (List ℕ)). all_machines segments ++ ms) (take-append-drop size left)
    ∙ dealt

-- and fewer are left
pub fewer-left : (left next : List (List ℕ)) (rows rows' size : ℕ) → next ≡ drop size left → rows ≡ rows' + 1 → length left ≤ rows * size → length next ≤ rows' * size
fewer-left left next rows rows' size rest one fits =
    let product : rows * size ≡ rows' * size + size = ap (λ (n : ℕ). n * size) one ∙ grind arith in
    let count : length next ≡ length (drop size left) = ap length rest in
    omega (arith, product, count, length-drop size left)

-- as many machines in each segment are as many machines
pub lengths-joined : (xs ys : List (List (List ℕ))) → map length xs ≡ map length ys → length (all_machines xs) ≡ length (all_machines ys)
lengths-joined [] [] same = refl
lengths-joined [] (y ∷ ys) same = cc
lengths-joined (x ∷ xs) [] same = cc
lengths-joined (x ∷ xs) (y ∷ ys) same =
    let first : length x ≡ length y = cc in
    let others : map length xs ≡ map length ys = cc in
    omega (arith, length-append x (all_machines xs), length-append y (all_machines ys), first, lengths-joined xs ys others)

-- and it has so many at most
pub small-more : (segments more : List (List (List ℕ))) (left : List (List ℕ)) (size : ℕ) → more ≡ segments ++ take size left ∷ [] → All (λ (n : ℕ). n ≤ size) (map (length {A = List ℕ}) segments)
    → All (λ (n : ℕ). n ≤ size) (map (length {A = List ℕ}) more)
small-more segments more left size pushed small = grind (arith, common_steps)
