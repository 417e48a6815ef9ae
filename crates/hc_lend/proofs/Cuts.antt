-- A list in parts: its first part and the others, and the parts joined again.
use Rattle.std.proofs.Common.{◌≡◌, ℕ, ◌+◌, List, [], ◌∷◌, ◌++◌, length, sum, take, drop, refl, ap, ◌∙◌, arith, length-drop, subst, All}
use Rattle.std.proofs.Math.Seq.{take-append_seam, drop-append_seam}
use Rattle.std.proofs.lemmas.List.{take-append-drop}
use Rattle.std.proofs.lemmas.List.Elements.{All-head, All-tail}
use Rattle.std.proofs.lemmas.List.Sums.{sum_by-cons}
use Rattle.std.specs.List.{concat, enumerate_from}
use Rattle.hc_lend.specs.Work.{parts_of, numbered_parts, CanWorkOnEach}

-- a list that begins with a part of the first length has that part first
parts_of-append : (part rest : List ℕ) (n : ℕ) (ns : List ℕ) → length part ≡ n → parts_of (n ∷ ns) (part ++ rest) ≡ part ∷ parts_of ns rest
parts_of-append part rest n ns long = rw (← long, take-append_seam, drop-append_seam) refl

-- parts whose lengths add up to the list's are the list
pub concat-parts_of : (lengths bytes : List ℕ) → sum lengths ≡ length bytes → concat (parts_of lengths bytes) ≡ bytes
concat-parts_of [] [] all = refl
concat-parts_of [] (b ∷ bytes) all = absurd (omega arith)
concat-parts_of (n ∷ ns) bytes all =
    let rest : sum ns ≡ length (drop n bytes) = omega (arith, all, sum_by-cons (λ (k : ℕ). k) n ns, length-drop n bytes) in
    ap (λ (xs : List ℕ). take n bytes ++ xs) (concat-parts_of ns (drop n bytes) rest) ∙ take-append-drop n bytes

-- where each part may be worked on, the first may, and each of the others
pub can_work-apart : (can : ℕ → List ℕ → Type 0) (first n : ℕ) (lengths ns bytes part rest : List ℕ) → lengths ≡ n ∷ ns → bytes ≡ part ++ rest → length part ≡ n
    → CanWorkOnEach can first lengths bytes → can first part × CanWorkOnEach can (first + 1) ns rest
can_work-apart can first n lengths ns bytes part rest lengths_are bytes_are long each =
    let may : ℕ × List ℕ → Type 0 = λ p. can p.0 p.1 in
    let parts_are : parts_of lengths bytes ≡ part ∷ parts_of ns rest = rw (lengths_are, bytes_are) (parts_of-append part rest n ns long) in
    let both : All may ((first, part) ∷ numbered_parts (first + 1) ns rest) = subst (λ (ps : List (List ℕ)). All may (enumerate_from first ps)) parts_are each in
    (All-head may (first, part) (numbered_parts (first + 1) ns rest) both, All-tail may (first, part) (numbered_parts (first + 1) ns rest) both)
