-- The order of keys is total.
use Rattle.std.proofs.Common.{◌≡◌, ℕ, ◌⊎◌, inl, inr, Bool, true, false, refl, sym, ap, ◌∙◌, arith}
use Rattle.std.specs.Prelude.{nat_lt, ◌==◌, ◌&&◌, ◌||◌}
use Rattle.std.proofs.lemmas.Bool.{eq-eqb, or_cases, or_left, or_parts, or_right}
use Rattle.std.proofs.lemmas.Bool.Decides.{nat_tests}
use Rattle.std.proofs.lemmas.Grind.{common_steps}
use Rattle.hc_records.specs.declared.records.Dir.{Dir}
use Rattle.hc_records.specs.declared.records.Dir.TheVariants.{Out, In}
use Rattle.hc_records.specs.declared.keys.Key.{Key}
use Rattle.hc_records.specs.Keys.{same_dir, same_key, is_before, is_within}

pub same_dir-refl : (dir : Dir) → same_dir dir dir ≡ true
same_dir-refl Out = refl
same_dir-refl In = refl

pub same_key-refl : (key : Key) → same_key key key ≡ true
same_key-refl key =
    let dir = same_dir-refl key.dir in
    let rank : (key.rank == key.rank) ≡ true = eq-eqb key.rank key.rank refl in
    let area : (key.area == key.area) ≡ true = eq-eqb key.area key.area refl in
    rw (dir, rank, area) refl

-- the order by rank and then by area
abbrev is_at_most : ℕ → ℕ → ℕ → ℕ → Bool
is_at_most rank area rank' area' = (nat_lt rank rank' || ((rank == rank') && nat_lt area area')) || ((rank == rank') && (area == area'))

at_most-trans : (r a s b t c : ℕ) → is_at_most r a s b ≡ true → is_at_most s b t c ≡ true → is_at_most r a t c ≡ true
at_most-trans r a s b t c first second = grind (arith, nat_tests)

at_most-total : (r a s b : ℕ) → is_at_most r a s b ≡ false → is_at_most s b r a ≡ true
at_most-total r a s b other = grind (arith, nat_tests)

abbrev pub key : Dir → ℕ → ℕ → Key
key dir rank area = record { dir = dir; rank = rank; area = area }

trans-by : (d e f : Dir) (r a s b t c : ℕ) → is_within (key d r a) (key e s b) ≡ true → is_within (key e s b) (key f t c) ≡ true → is_within (key d r a) (key f t c) ≡ true
trans-by Out Out Out r a s b t c first second = at_most-trans r a s b t c first second
trans-by Out Out In r a s b t c first second = refl
trans-by Out In Out r a s b t c first second = cc
trans-by Out In In r a s b t c first second = refl
trans-by In Out Out r a s b t c first second = cc
trans-by In Out In r a s b t c first second = cc
trans-by In In Out r a s b t c first second = cc
trans-by In In In r a s b t c first second = at_most-trans r a s b t c first second

pub within-trans : (a b c : Key) → is_within a b ≡ true → is_within b c ≡ true → is_within a c ≡ true
within-trans a b c first second = trans-by a.dir b.dir c.dir a.rank a.area b.rank b.area c.rank c.area first second

total-by : (d e : Dir) (r a s b : ℕ) → is_within (key d r a) (key e s b) ≡ false → is_within (key e s b) (key d r a) ≡ true
total-by Out Out r a s b other = at_most-total r a s b other
total-by Out In r a s b other = cc
total-by In Out r a s b other = refl
total-by In In r a s b other = at_most-total r a s b other

pub within-total : (a b : Key) → is_within a b ≡ false → is_within b a ≡ true
within-total a b other = total-by a.dir b.dir a.rank a.area b.rank b.area other

pub within-from_before : (a b : Key) → is_before a b ≡ true → is_within a b ≡ true
within-from_before a b before = or_left (is_before a b) (same_key a b) before

pub within-refl : (a : Key) → is_within a a ≡ true
within-refl a = or_right (is_before a a) (same_key a a) (same_key-refl a)

-- what the tests say of two keys

abbrev is_first : ℕ → ℕ → ℕ → ℕ → Bool
is_first rank area rank' area' = nat_lt rank rank' || ((rank == rank') && nat_lt area area')

first-apart : (r a s b : ℕ) → is_first r a s b ≡ true → is_at_most s b r a ≡ false
first-apart r a s b first = grind (arith, nat_tests)

first-else : (r a s b : ℕ) → is_at_most s b r a ≡ false → is_first r a s b ≡ true
first-else r a s b other = grind (arith, nat_tests)

apart-by : (d e : Dir) (r a s b : ℕ) → is_before (key d r a) (key e s b) ≡ true → is_within (key e s b) (key d r a) ≡ false
apart-by Out Out r a s b first = first-apart r a s b first
apart-by Out In r a s b first = refl
apart-by In Out r a s b first = cc
apart-by In In r a s b first = first-apart r a s b first

-- what comes before another isn't reached by it
pub before-apart : (a b : Key) → is_before a b ≡ true → is_within b a ≡ false
before-apart a b first = apart-by a.dir b.dir a.rank a.area b.rank b.area first

else-by : (d e : Dir) (r a s b : ℕ) → is_within (key e s b) (key d r a) ≡ false → is_before (key d r a) (key e s b) ≡ true
else-by Out Out r a s b other = first-else r a s b other
else-by Out In r a s b other = refl
else-by In Out r a s b other = cc
else-by In In r a s b other = first-else r a s b other

pub before-else : (a b : Key) → is_within b a ≡ false → is_before a b ≡ true
before-else a b other = else-by a.dir b.dir a.rank a.area b.rank b.area other

-- and the other way round
pub within-apart : (a b : Key) → is_within a b ≡ true → is_before b a ≡ false
within-apart a b within = by (is_before b a) refl
  where
    by : (test : Bool) → is_before b a ≡ test → is_before b a ≡ false
    by true is = let none : true ≡ false = sym within ∙ before-apart b a is in cc
    by false is = is

-- the same key
numbers-same : (r a s b : ℕ) → ((r == s) && (a == b)) ≡ true → (r ≡ s) × (a ≡ b)
numbers-same r a s b same = grind (arith, common_steps)

same-by : (d e : Dir) (r a s b : ℕ) → same_key (key d r a) (key e s b) ≡ true → key d r a ≡ key e s b
same-by Out Out r a s b same = let both = numbers-same r a s b same in let rank = both.0 in let area = both.1 in cc
same-by Out In r a s b same = cc
same-by In Out r a s b same = cc
same-by In In r a s b same = let both = numbers-same r a s b same in let rank = both.0 in let area = both.1 in cc

pub same_key-same : (a b : Key) → same_key a b ≡ true → a ≡ b
same_key-same a b same = same-by a.dir b.dir a.rank a.area b.rank b.area same

-- a key before another is another
pub before-other : (a b : Key) → is_before a b ≡ true → same_key b a ≡ false
before-other a b before = (or_parts (is_before b a) (same_key b a) (before-apart a b before)).1

pub other-sym : (a b : Key) → same_key a b ≡ false → same_key b a ≡ false
other-sym a b other = by (same_key b a) refl
  where
    by : (test : Bool) → same_key b a ≡ test → same_key b a ≡ false
    by true is = let same = same_key-same b a is in let none : true ≡ false = sym (same_key-refl a) ∙ ap (λ (k : Key). same_key a k) (sym same) ∙ other in cc
    by false is = is

pub before-trans : (a b c : Key) → is_before a b ≡ true → is_before b c ≡ true → is_before a c ≡ true
before-trans a b c low high = before-else a c (by (is_within c a) refl)
  where
    by : (within : Bool) → is_within c a ≡ within → is_within c a ≡ false
    by true within =
        let back = within-trans c a b within (within-from_before a b low) in
        let none : true ≡ false = sym back ∙ before-apart b c high in
        cc
    by false within = within

-- of two keys one comes before the other, or they are the same
pub key-order : (a b : Key) → (is_before a b ≡ true) ⊎ ((is_before b a ≡ true) ⊎ (a ≡ b))
key-order a b = by (is_within b a) refl
  where
    same : (is_before b a ≡ true) ⊎ (same_key b a ≡ true) → (is_before a b ≡ true) ⊎ ((is_before b a ≡ true) ⊎ (a ≡ b))
    same (inl before) = inr (inl before)
    same (inr is) = inr (inr (sym (same_key-same b a is)))

    by : (within : Bool) → is_within b a ≡ within → (is_before a b ≡ true) ⊎ ((is_before b a ≡ true) ⊎ (a ≡ b))
    by true within = same (or_cases (is_before b a) (same_key b a) within)
    by false within = inl (before-else a b within)

pub within-else : (a b : Key) → is_before a b ≡ false → is_within b a ≡ true
within-else a b other = by (is_within b a) refl
  where
    by : (within : Bool) → is_within b a ≡ within → is_within b a ≡ true
    by true within = within
    by false within = let none : true ≡ false = sym (before-else a b within) ∙ other in cc
