-- Beginnings of lists, and a book that grows.
use Rattle.std.proofs.Common.{MatchBool, zero, suc, map, ◌<◌, ◌≡◌, ◌⊎◌, ℕ, ◌+◌, ◌≤◌, ◌==◌, Bool, true, false, List, [], ◌∷◌, ◌++◌, length, refl, ap, sym, subst, ◌∙◌, arith, inl, ⊎_elim, append_assoc, length-append, None}
use Rattle.std.specs.List.{range_with_len}
use Rattle.std.proofs.lemmas.List.{append-nil}
use Rattle.std.proofs.lemmas.List.FromFn.{map-range_with_len_more}
use Rattle.std.proofs.lemmas.Bool.Decides.{nat_tests}
use Rattle.std.proofs.lemmas.Grind.{common_steps}
use mathlib.Core.List.{IsPrefix}
use lib.Dec.{leb}
use prog.Atomic.{either}
use Rattle.logbook.specs.Pages.{Cell, cell, keeps, no_nib, step, Moves, Goes}
use Rattle.hc_publish.specs.ChangesSince.{ChangesSince}
use Rattle.hc_publish.specs.PublicationLog.{Extends, last_of, top, Rises, IsUnchanged, Adds}

prefix_self : {A : Type 0} (xs : List A) → IsPrefix xs xs
prefix_self xs = ([], append-nil xs)

prefix_trans : {A : Type 0} (xs ys zs : List A) → IsPrefix xs ys → IsPrefix ys zs → IsPrefix xs zs
prefix_trans xs ys zs p q = (p.0 ++ q.0, sym (append_assoc xs p.0 q.0) ∙ (ap (λ w. w ++ q.0) p.1 ∙ q.1))

prefix_longer : {A : Type 0} (xs ys : List A) → IsPrefix xs ys → length xs ≤ length ys
prefix_longer xs ys p = omega (arith, ap length p.1, length-append xs p.0)

-- of two beginnings of one list the shorter begins the longer
prefix_shorter : {A : Type 0} (xs ys zs : List A) → IsPrefix xs zs → IsPrefix ys zs → length xs ≤ length ys → IsPrefix xs ys
prefix_shorter [] ys zs p q le = grind (arith, common_steps)
prefix_shorter (x ∷ xs) [] zs p q le = grind (arith, common_steps)
prefix_shorter (x ∷ xs) (y ∷ ys) [] p q le = grind (arith, common_steps)
prefix_shorter (x ∷ xs) (y ∷ ys) (z ∷ zs) p q le = grind (arith, common_steps, prefix_shorter xs ys zs)

-- a beginning as long as the whole is the whole
prefix_whole : {A : Type 0} (xs ys : List A) → IsPrefix xs ys → length ys ≤ length xs → xs ≡ ys
prefix_whole xs ys p le = grind (arith, common_steps)

-- a beginning of a list with one element more is a beginning of the list, or the whole
prefix_snoc : {A : Type 0} (xs ys : List A) (y : A) → IsPrefix xs (ys ++ y ∷ []) → IsPrefix xs ys ⊎ (xs ≡ ys ++ y ∷ [])
prefix_snoc [] ys y p = grind (arith, common_steps)
prefix_snoc (x ∷ []) [] y p = grind (arith, common_steps)
prefix_snoc (x ∷ z ∷ xs) [] y p = grind (arith, common_steps)
prefix_snoc (x ∷ xs) (z ∷ ys) y p = grind (arith, common_steps, prefix_snoc xs ys y (p.0, cc (p.1)))

extends_self : (x : ChangesSince) → Extends x x
extends_self x = record { groups = refl; changes = prefix_self x.changes }

pub extends_same : (x y : ChangesSince) → x ≡ y → Extends x y
extends_same x y e = subst (λ z. Extends x z) e (extends_self x)

extends_trans : (x y z : ChangesSince) → Extends x y → Extends y z → Extends x z
extends_trans x y z p q = record { groups = q.groups ∙ p.groups; changes = prefix_trans x.changes y.changes z.changes p.changes q.changes }

-- of two that extend each other the changes are the same
pub extends_both : (x y : ChangesSince) → Extends x y → Extends y x → x.changes ≡ y.changes
extends_both x y p q = prefix_whole x.changes y.changes p.changes (prefix_longer y.changes x.changes q.changes)

last-append : (x : ChangesSince) (log : List ChangesSince) (e : ChangesSince) → last_of x (log ++ e ∷ []) ≡ e
last-append x [] e = refl
last-append x (y ∷ log) e = last-append y log e

pub top-append : (log : List ChangesSince) (e : ChangesSince) → top (log ++ e ∷ []) ≡ e
top-append log e = last-append (record { groups = []; changes = [] }) log e

pub rises_none : Rises []
rises_none [] b ne p q = absurd (omega arith)
rises_none (x ∷ a) [] ne p q = absurd (cc (p.1))
rises_none (x ∷ a) (y ∷ b) ne p q = absurd (cc (q.1))

-- an entry that goes on from the last one, where there is one
rises_more : (log : List ChangesSince) (e : ChangesSince) → Rises log → (0 < length log → Extends (top log) e) → Rises (log ++ e ∷ [])
rises_more log e rises on a b ne p q =
    let all = log ++ e ∷ [] in
    let last : top all ≡ e = top-append log e in
    let within : IsPrefix a log → Extends (top a) (top all) = λ s.
    subst (λ z. Extends (top a) z) (sym last) (extends_trans (top a) (top log) e (rises a log ne s (prefix_self log)) (on (let le = prefix_longer a log s in omega arith))) in
    let whole : IsPrefix a all → Extends (top a) (top all) = λ r. ⊎_elim within (λ (s : a ≡ all). extends_same (top a) (top all) (ap top s)) (prefix_snoc a log e r) in
    ⊎_elim (λ (r : IsPrefix b log). rises a b ne p r) (λ (r : b ≡ all). subst (λ z. IsPrefix a z → Extends (top a) (top z)) (sym r) whole p) (prefix_snoc b log e q)

-- of two beginnings of one book, that with fewer entries is extended by the other
rises_shorter : (log a b : List ChangesSince) → Rises log → 0 < length a → IsPrefix a log → IsPrefix b log → length a ≤ length b → Extends (top a) (top b)
rises_shorter log a b rises ne p q le = rises a b ne (prefix_shorter a b log p q le) q

abbrev pub shown : List ChangesSince → List ChangesSince
shown log = []

abbrev pub moved : ChangesSince → List ChangesSince → List ChangesSince → ℕ → Type 0
moved ask xs ys n = Unit {0}

adds_goes : (log v : List ChangesSince) (e : ChangesSince) (old : ℕ) → length v ≡ old → (0 < length v → Extends (top v) e) → Rises log → IsPrefix v log
    → (b : Bool) → (length log == old) ≡ b
    → Goes IsUnchanged shown (moved e) 0 (v, (no_nib, None)) (λ n. either (n == old) (old + 1) n) (Adds (step 0 old (old + 1) e) (v, (no_nib, None))) ((length log, true) ∷ (0, true) ∷ []) log
adds_goes log v e old len on rises pre true is =
    let here : length log ≡ old = grind (arith, nat_tests) in
    let same : v ≡ log = prefix_whole v log pre (omega arith) in
    let more : Rises (log ++ e ∷ []) = rises_more log e rises (subst (λ z. 0 < length z → Extends (top z) e) same on) in
    let n : either (length log == old) (old + 1) (length log) ≡ length (log ++ e ∷ []) = rw is (omega (arith, length-append log (e ∷ []))) in (
      keeps,
      e ∷ [],
      None,
      tt,
      record { words = ap (λ (k : ℕ). (k, true) ∷ (0, true) ∷ []) n; rises = more },
      inl (refl, refl),
      rw is (ap (λ w. w ++ e ∷ []) (sym same)),
    )
adds_goes log v e old len on rises pre false is =
    let all : log ++ [] ≡ log = append-nil log in
    let n : either (length log == old) (old + 1) (length log) ≡ length (log ++ []) = rw is (ap length (sym all)) in (
      keeps,
      [],
      None,
      tt,
      record { words = ap (λ (k : ℕ). (k, true) ∷ (0, true) ∷ []) n; rises = subst Rises (sym all) rises },
      inl (refl, refl),
      rw is tt,
    )

-- whatever the book is, the exchange adds the entry to all that was seen, or finds that the book has gone on
pub adds_moves : (v : List ChangesSince) (e : ChangesSince) (old : ℕ) → length v ≡ old → (0 < length v → Extends (top v) e)
    → Moves IsUnchanged shown (moved e) 0 (v, (no_nib, None)) (λ n. either (n == old) (old + 1) n) (Adds (step 0 old (old + 1) e) (v, (no_nib, None)))
adds_moves v e old len on cs log unchanged pre away =
    let P : List Cell → Type 0 = λ c. (0 < length c) × ((cell c 0).1 ≡ true)
    × Goes IsUnchanged shown (moved e) 0 (v, (no_nib, None)) (λ n. either (n == old) (old + 1) n) (Adds (step 0 old (old + 1) e) (v, (no_nib, None))) c log in
    subst P (sym unchanged.words) (omega arith, refl, adds_goes log v e old len on unchanged.rises pre (length log == old) refl)

-- the test of the counts says which entry extends the other
pub within : (log a b : List ChangesSince) (n m : ℕ) → Rises log → 0 < length a → 0 < length b → IsPrefix a log → IsPrefix b log → n ≡ length a → m ≡ length b → (t : Bool) → leb n m ≡ t
    → MatchBool t (Extends (top a) (top b)) (Extends (top b) (top a))
within log a b n m rises an bn p q na mb true is = rises_shorter log a b rises an p q (let le : n ≤ m = grind (arith, nat_tests) in omega (arith, le, na, mb))
within log a b n m rises an bn p q na mb false is = rises_shorter log b a rises bn q p (let le : m < n = grind (arith, nat_tests) in omega (arith, le, na, mb))

-- what extends goes on to do so with changes after
pub extends_more : (x y z : ChangesSince) → Extends x y → z.groups ≡ y.groups → IsPrefix y.changes z.changes → Extends x z
extends_more x y z p g c = extends_trans x y z p (record { groups = g; changes = c })

same_range : (a n : ℕ) → map (λ (k : ℕ). k) (range_with_len a n) ≡ range_with_len a n
same_range a zero = refl
same_range a (suc n) = ap (λ z. a ∷ z) (same_range (a + 1) n)

-- the numbers from 0 on, with one more
pub range_more : (n : ℕ) → range_with_len 0 (n + 1) ≡ range_with_len 0 n ++ n ∷ []
range_more n = sym (same_range 0 (n + 1)) ∙ (map-range_with_len_more (λ (k : ℕ). k) 0 n n (omega arith) ∙ ap (λ z. z ++ n ∷ []) (same_range 0 n))
