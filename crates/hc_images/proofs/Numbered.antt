-- Numbered rows, each number once: a row is found by its number.
use Rattle.std.proofs.Common.{◌≡◌, ◌≢◌, ◌⊎◌, inl, inr, ℕ, suc, ◌<◌, ◌==◌, Bool, false, cond, List, [], ◌∷◌, get_or, refl, sym, ap, ◌∙◌, subst, Option, Some, None, rules}
use Rattle.std.specs.Prelude.{All, AllPairs, find, slice_get}
use Rattle.std.proofs.lemmas.Bool.{cases_eq, ne_eqb}
use Rattle.std.proofs.lemmas.List.Elements.{All-nil, All-cons}
use Rattle.std.proofs.lemmas.Option.{get_or_from_slice_get, slice_get_within, same_Some}
use Rattle.hc_records.proofs.lemmas.Lists.{AllPairs-head, AllPairs-tail}
use Rattle.hc_records.proofs.lemmas.Choices.{itself, less_differs}

passed : {Y : Type 0} (test : Bool) (row : ℕ × Y) (rest : Option (ℕ × Y)) (other : ℕ × Y) → test ≡ false → rest ≡ Some other → cond test (Some row) rest ≡ Some other
passed test row rest other e there = search rules

-- two that are found in one place are the same, and nothing is found where there is none

pub none-some : {X P : Type 0} (found : Option X) (x : X) → found ≡ None → found ≡ Some x → P
none-some found x none there = let never : None ≡ Some x = sym none ∙ there in cc

abbrev pub IsFoundIn : {Y : Type 0} → List (ℕ × Y) → ℕ × Y → Type 0
IsFoundIn rows row = find (λ other. other.0 == row.0) rows ≡ Some row

pub each-found : {Y : Type 0} (rows : List (ℕ × Y)) → AllPairs (λ a b. a.0 ≢ b.0) rows → All (IsFoundIn rows) rows
each-found [] once = All-nil (IsFoundIn [])
each-found (row ∷ rows) once =
    All-cons (IsFoundIn (row ∷ rows)) row rows
    (ap (λ b. cond b (Some row) (find (λ other. other.0 == row.0) rows)) (itself row.0))
    (λ i e inside. let own = get_or rows i e in
    passed (row.0 == own.0) row (find (λ other. other.0 == own.0) rows) own
    (ne_eqb row.0 own.0 (AllPairs-head (λ a b. a.0 ≢ b.0) row rows once i e inside))
    (each-found rows (AllPairs-tail (λ a b. a.0 ≢ b.0) row rows once) i e inside))

-- rows in the order of their numbers

abbrev pub Ascend : {Y : Type 0} → List (ℕ × Y) → Type 0
Ascend rows = AllPairs (λ a b. a.0 < b.0) rows

ascend-once : {Y : Type 0} (rows : List (ℕ × Y)) → Ascend rows → AllPairs (λ a b. a.0 ≢ b.0) rows
ascend-once rows ascend = λ i j e less low. less_differs (get_or rows i e).0 (get_or rows j e).0 (ascend i j e less low)

pub ascend-differ : {Y : Type 0} (rows : List (ℕ × Y)) (i j : ℕ) (row other : ℕ × Y) → Ascend rows → i < j → slice_get rows i ≡ Some row → slice_get rows j ≡ Some other → row.0 ≢ other.0
ascend-differ rows i j row other ascend less there there' same = search (rules, ascend-once, slice_get_within, get_or_from_slice_get)

-- each is found by its number
pub found-at : {Y : Type 0} (rows : List (ℕ × Y)) (i : ℕ) (row : ℕ × Y) → Ascend rows → slice_get rows i ≡ Some row → IsFoundIn rows row
found-at rows i row ascend there =
    subst (IsFoundIn rows) (get_or_from_slice_get rows i row row there)
    (each-found rows (ascend-once rows ascend) i row (slice_get_within rows i row there))

-- a row has this number, or none has

pub record HasNumber {Y : Type 0} (rows : List (ℕ × Y)) (number : ℕ) : Type 0 where
  pub index : ℕ
  pub row : ℕ × Y
  pub there : slice_get rows index ≡ Some row
  pub is : row.0 ≡ number

abbrev pub HasNone : {Y : Type 0} → List (ℕ × Y) → ℕ → Type 0
HasNone rows number = (i : ℕ) (row : ℕ × _) → slice_get rows i ≡ Some row → row.0 ≢ number

none_after : {Y : Type 0} (row : ℕ × Y) (rows : List (ℕ × Y)) (number : ℕ) → row.0 ≢ number → HasNone rows number → HasNone (row ∷ rows) number
none_after row rows number other none n own there is = search (rules, same_Some)

after_it : {Y : Type 0} (row : ℕ × Y) (rows : List (ℕ × Y)) (number : ℕ) → row.0 ≢ number → HasNumber rows number ⊎ HasNone rows number → HasNumber (row ∷ rows) number ⊎ HasNone (row ∷ rows) number
after_it row rows number other (inl has) = inl (record { index = suc has.index; row = has.row; there = has.there; is = has.is })
after_it row rows number other (inr none) = inr (λ i. none_after row rows number other none i)

nothing : {Y : Type 0} (number : ℕ) → HasNone {Y = Y} [] number
nothing number n row there = search rules

pub by-number : {Y : Type 0} (rows : List (ℕ × Y)) (number : ℕ) → HasNumber rows number ⊎ HasNone rows number
by-number [] number = inr (nothing number)
by-number (row ∷ rows) number = elim (cases_eq row.0 number) [
  | inl same ↦ inl (record { index = 0; row = row; there = refl; is = same })
  | inr other ↦ after_it row rows number other (by-number rows number)
]

-- and where none has it, none is found
pub none-found : {Y : Type 0} (rows : List (ℕ × Y)) (number : ℕ) → HasNone rows number → find (λ r. r.0 == number) rows ≡ None
none-found [] number none = refl
none-found (row ∷ rows) number none =
    ap (λ b. cond b (Some row) (find (λ r. r.0 == number) rows)) (ne_eqb row.0 number (none 0 row refl))
    ∙ none-found rows number (λ i. none (suc i))
