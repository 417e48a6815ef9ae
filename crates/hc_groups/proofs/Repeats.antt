-- A list without repeats whose members are all keys of some items is no longer than those are.
use Rattle.std.proofs.Common.{◌≡◌, ◌≢◌, ℕ, suc, ◌<◌, ◌≤◌, Bool, true, false, not, cond, List, [], ◌∷◌, length, refl, ap, arith, rules}
use Rattle.std.specs.Prelude.{◌==◌, ◌||◌, filter}
use Rattle.std.specs.List.{list_any}
use Rattle.std.proofs.lemmas.Bool.{eqb-true, eqb-false, ne_eqb, or_parts, not-false}
use Rattle.hc_records.specs.Lists.{has_repeat}
use Rattle.hc_records.proofs.lemmas.Choices.{member-by}

-- an item has the number as its key
abbrev has_key : {X : Type 0} → (X → ℕ) → ℕ → X → Bool
has_key key number item = key item == number

-- the number is the key of none of the items
abbrev pub is_foreign : {X : Type 0} → (X → ℕ) → List X → ℕ → Bool
is_foreign key items number = not (list_any (has_key key number) items)

-- the items with another key
abbrev without : {X : Type 0} → (X → ℕ) → ℕ → List X → List X
without key number items = filter (λ item. not (has_key key number item)) items

left-most : {X : Type 0} (same : Bool) (item : X) (unchanged rest : List X) → length unchanged ≤ length rest → length (cond (not same) (item ∷ unchanged) unchanged) ≤ suc (length rest)
left-most same item unchanged rest most = search rules

without-most : {X : Type 0} (key : X → ℕ) (number : ℕ) (items : List X) → length (without key number items) ≤ length items
without-most key number [] = omega arith
without-most key number (item ∷ items) = left-most (has_key key number item) item (without key number items) items (without-most key number items)

left-fewer : {X : Type 0} (same : Bool) (item : X) (unchanged rest : List X) → length unchanged ≤ length rest → (same ≡ false → length unchanged < length rest) →
    length (cond (not same) (item ∷ unchanged) unchanged) < suc (length rest)
left-fewer same item unchanged rest most fewer = search rules

-- where an item has the key, they are fewer
without-fewer : {X : Type 0} (key : X → ℕ) (number : ℕ) (items : List X) → list_any (has_key key number) items ≡ true → length (without key number items) < length items
without-fewer key number [] some = cc
without-fewer key number (item ∷ items) some =
    left-fewer (has_key key number item) item (without key number items) items (without-most key number items)
    (λ other. without-fewer key number items (member-by (has_key key number item) (list_any (has_key key number) items) some other))

unchanged-any : {X : Type 0} (same : Bool) (test : X → Bool) (item : X) (unchanged rest : List X) → (same ≡ true → test item ≡ false) → list_any test unchanged ≡ list_any test rest →
    list_any test (cond (not same) (item ∷ unchanged) unchanged) ≡ (test item || list_any test rest)
unchanged-any true test item unchanged rest miss same = rw (miss refl) same
unchanged-any false test item unchanged rest miss same = ap (λ (b : Bool). test item || b) same

-- another key is still there
without-other : {X : Type 0} (key : X → ℕ) (number other : ℕ) (items : List X) → other ≢ number →
    list_any (has_key key other) (without key number items) ≡ list_any (has_key key other) items
without-other key number other [] apart = refl
without-other key number other (item ∷ items) apart = search (rules, unchanged-any, ne_eqb, eqb-true, without-other key number other items apart)

-- so what is left has the keys of numbers that don't repeat it
none-foreign : {X : Type 0} (key : X → ℕ) (number : ℕ) (numbers : List ℕ) (items : List X) → list_any (λ y. y == number) numbers ≡ false →
    list_any (is_foreign key items) numbers ≡ false → list_any (is_foreign key (without key number items)) numbers ≡ false
none-foreign key number [] items once known = refl
none-foreign key number (other ∷ numbers) items once known =
    let apart = or_parts (other == number) (list_any (λ y. y == number) numbers) once in
    let here = or_parts (is_foreign key items other) (list_any (is_foreign key items) numbers) known in
    rw (without-other key number other items (eqb-false other number apart.0), here.0) (none-foreign key number numbers items apart.1 here.1)

pub no-longer : {X : Type 0} (key : X → ℕ) (numbers : List ℕ) (items : List X) → has_repeat numbers ≡ false → list_any (is_foreign key items) numbers ≡ false →
    length numbers ≤ length items
no-longer key [] items once known = omega arith
no-longer key (number ∷ numbers) items once known =
    let alone = or_parts (list_any (λ y. y == number) numbers) (has_repeat numbers) once in
    let here = or_parts (is_foreign key items number) (list_any (is_foreign key items) numbers) known in
    search (rules, or_parts, without-fewer, not-false, none-foreign, no-longer key numbers (without key number items) alone.1 (none-foreign key number numbers items alone.0 here.1))
