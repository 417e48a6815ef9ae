-- The hulls of a task while its widths are set, key by key.
use Rattle.std.specs.Prelude.{nat_lt, not, slice_index_or, ◌&&◌, ◌||◌}
use Rattle.std.proofs.Common.{◌≡◌, ℕ, zero, suc, ◌+◌, ◌<◌, ◌≤◌, ◌==◌, nat_le, Bool, true, false, List, [], ◌∷◌, length, refl, sym, ap, ◌∙◌, arith}
use Rattle.std.proofs.lemmas.Bool.{eq-eqb, eqb-true}
use Rattle.std.proofs.lemmas.Bool.Decides.{nat_tests}
use Rattle.hc_records.specs.declared.records.Dir.{Dir}
use Rattle.hc_records.specs.declared.records.Dir.TheVariants.{Out, In}
use Rattle.hc_records.specs.declared.records.Area.{Area}
use Rattle.hc_records.specs.declared.keys.Key.{Key}
use Rattle.hc_records.specs.Keys.{same_dir, same_key}
use Rattle.hc_records.proofs.lemmas.KeyOrder.{same_key-same}
use Rattle.hc_cuts.specs.declared.hulls.Hulls.{Hulls}
use Rattle.hc_cuts.specs.Hulls.{AreHulls, TakeIn, no_hulls}
use Rattle.hc_cuts.proofs.lemmas.HullKeys.{hulls-none, hulls-same, or-assoc, or-other}
use Rattle.hc_cuts.specs.Areas.{areas_of_rank, slave_width, width_at}
use Rattle.hc_cuts.specs.Widths.{width_differs, differs_at}
use Rattle.hc_cuts.proofs.Setting.{below-next, key_of, no-area}

-- hulls that take keys in, one set of them after another

takes-none : (hulls : Hulls) (keys : Key → Bool) → ((key : Key) → keys key ≡ false) → TakeIn hulls hulls keys
takes-none hulls keys none = λ test are. hulls-same test (λ key. test key || keys key) hulls (λ key. or-other (test key) (keys key) (none key)) are

takes-same : (old new : Hulls) (p q : Key → Bool) → ((key : Key) → p key ≡ q key) → TakeIn old new p → TakeIn old new q
takes-same old new p q same takes = λ test are.
    hulls-same (λ key. test key || p key) (λ key. test key || q key) new (λ key. ap (λ (b : Bool). test key || b) (same key)) (takes test are)

takes-both : (old mid new : Hulls) (p q r : Key → Bool) → ((key : Key) → (p key || q key) ≡ r key) → TakeIn old mid p → TakeIn mid new q → TakeIn old new r
takes-both old mid new p q r same first second = λ test are.
    hulls-same (λ key. (test key || p key) || q key) (λ key. test key || r key) new
    (λ key. or-assoc (test key) (p key) (q key) ∙ ap (λ (b : Bool). test key || b) (same key)) (second (λ key. test key || p key) (first test are))

-- one key

same-differs : (task : ℕ) (old new : List Area) (key : Key) → slave_width task old key ≡ slave_width task new key → width_differs task old new key ≡ false
same-differs task old new key is = ap not (eq-eqb (slave_width task old key) (slave_width task new key) is)

unset-by : (same : Bool) (task : ℕ) (old new : List Area) (key other : Key) → same_key key other ≡ same → slave_width task old key ≡ slave_width task new key
    → (same && width_differs task old new other) ≡ false
unset-by true task old new key other test is = ap (width_differs task old new) (sym (same_key-same key other test)) ∙ same-differs task old new key is
unset-by false task old new key other test is = refl

pub key-unset : (task : ℕ) (old new : List Area) (key : Key) (hulls : Hulls) → slave_width task old key ≡ slave_width task new key
    → TakeIn hulls hulls (λ other. same_key key other && width_differs task old new other)
key-unset task old new key hulls is =
    takes-none hulls (λ other. same_key key other && width_differs task old new other) (λ other. unset-by (same_key key other) task old new key other refl is)

set-by : (same : Bool) (task : ℕ) (old new : List Area) (key other : Key) → same_key key other ≡ same → width_differs task old new key ≡ true
    → same ≡ (same && width_differs task old new other)
set-by true task old new key other test is = sym (ap (width_differs task old new) (sym (same_key-same key other test)) ∙ is)
set-by false task old new key other test is = refl

pub key-taken : (task : ℕ) (old new : List Area) (key : Key) (before after : Hulls) → (slave_width task old key == slave_width task new key) ≡ false
    → TakeIn before after (same_key key) → TakeIn before after (λ other. same_key key other && width_differs task old new other)
key-taken task old new key before after other takes =
    takes-same before after (same_key key) (λ k. same_key key k && width_differs task old new k) (λ k. set-by (same_key key k) task old new key k refl (ap not other)) takes

-- both keys of a place in a slave's record

both-by : (dir : Dir) (same_rank same_area differ : Bool)
    → (((same_dir Out dir && same_rank && same_area) && differ) || ((same_dir In dir && same_rank && same_area) && differ)) ≡ (same_rank && same_area && differ)
both-by dir same_rank same_area differ = grind arith

pub area-taken : (task rank area : ℕ) (old new : List Area) (before mid after : Hulls)
    → TakeIn before mid (λ key. same_key (key_of Out rank area) key && width_differs task old new key)
    → TakeIn mid after (λ key. same_key (key_of In rank area) key && width_differs task old new key)
    → TakeIn before after (λ key. (rank == key.rank) && (area == key.area) && width_differs task old new key)
area-taken task rank area old new before mid after first second =
    takes-both before mid after (λ key. same_key (key_of Out rank area) key && width_differs task old new key) (λ key. same_key (key_of In rank area) key && width_differs task old new key)
    (λ key. (rank == key.rank) && (area == key.area) && width_differs task old new key)
    (λ key. both-by key.dir (rank == key.rank) (area == key.area) (width_differs task old new key)) first second

-- the areas of a slave, up to a place in its record

abbrev pub below : ℕ → ℕ → ℕ → List Area → List Area → Key → Bool
below task rank count old new key = (rank == key.rank) && nat_lt key.area count && width_differs task old new key

one-more : (same lower is differ : Bool) → ((same && lower && differ) || (same && is && differ)) ≡ (same && (lower || is) && differ)
one-more same lower is differ = grind arith

pub areas-taken : (task rank count : ℕ) (old new : List Area) (before mid after : Hulls) → TakeIn before mid (below task rank count old new)
    → TakeIn mid after (λ key. (rank == key.rank) && (count == key.area) && width_differs task old new key) → TakeIn before after (below task rank (count + 1) old new)
areas-taken task rank count old new before mid after first second =
    takes-both before mid after (below task rank count old new) (λ key. (rank == key.rank) && (count == key.area) && width_differs task old new key) (below task rank (count + 1) old new)
    (λ key.
    one-more (rank == key.rank) (nat_lt key.area count) (count == key.area) (width_differs task old new key)
    ∙ ap (λ (test : Bool). (rank == key.rank) && test && width_differs task old new key) (below-next key.area count)) first second

after_it-by : (lower same : Bool) (task count : ℕ) (old new : List Area) (key : Key) → nat_lt key.area count ≡ lower → length old ≤ count → length new ≤ count
    → (same && lower && width_differs task old new key) ≡ (same && width_differs task old new key)
after_it-by true same task count old new key test few fewer = ap (λ (b : Bool). b && width_differs task old new key) (and-true same)
  where
    and-true : (b : Bool) → (b && true) ≡ b
    and-true true = refl
    and-true false = refl
after_it-by false same task count old new key test few fewer =
    let high : count ≤ key.area = grind (arith, nat_tests) in
    let differ = same-differs task old new key (no-area old key.area task key.dir (omega arith) ∙ sym (no-area new key.area task key.dir (omega arith))) in
    none-of same (width_differs task old new key) differ
  where
    none-of : (same differ : Bool) → differ ≡ false → (same && false && differ) ≡ (same && differ)
    none-of true differ none = sym none
    none-of false differ none = refl

pub areas-all : (task rank count : ℕ) (old new : List Area) (before after : Hulls) → length old ≤ count → length new ≤ count
    → TakeIn before after (below task rank count old new) → TakeIn before after (λ key. (rank == key.rank) && width_differs task old new key)
areas-all task rank count old new before after few fewer takes =
    takes-same before after (below task rank count old new) (λ key. (rank == key.rank) && width_differs task old new key)
    (λ key. after_it-by (nat_lt key.area count) (rank == key.rank) task count old new key refl few fewer) takes

-- the slaves, up to a rank

abbrev pub up_to_rank : ℕ → ℕ → List (List Area) → List (List Area) → Key → Bool
up_to_rank task rank old new key = nat_le key.rank rank && differs_at task old new key

equal-differs : (task : ℕ) (old new : List (List Area)) (key : Key) → areas_of_rank old key.rank ≡ areas_of_rank new key.rank → differs_at task old new key ≡ false
equal-differs task old new key same =
    ap not (eq-eqb (width_at task old key) (width_at task new key) (ap (λ (areas : List Area). slave_width task areas key) same))

no-rank : (low : Bool) (task rank : ℕ) (old new : List (List Area)) (key : Key) → nat_le key.rank rank ≡ low → (key.rank ≤ rank → areas_of_rank old key.rank ≡ areas_of_rank new key.rank)
    → (low && differs_at task old new key) ≡ false
no-rank low task rank old new key test same = grind (arith, nat_tests, equal-differs)

-- the slaves up to a rank have the same areas
pub ranks-begin : (task rank : ℕ) (old new : List (List Area)) → ((r : ℕ) → r ≤ rank → areas_of_rank old r ≡ areas_of_rank new r) → AreHulls (up_to_rank task rank old new) no_hulls
ranks-begin task rank old new same =
    hulls-none (up_to_rank task rank old new) (λ key. no-rank (nat_le key.rank rank) task rank old new key refl (same key.rank))

next-by : (same lower : Bool) (task rank : ℕ) (old new : List (List Area)) (was is : List Area) (key : Key) → (rank + 1 == key.rank) ≡ same → nat_le key.rank rank ≡ lower
    → was ≡ areas_of_rank old (rank + 1) → is ≡ areas_of_rank new (rank + 1)
    → ((lower && differs_at task old new key) || (same && width_differs task was is key)) ≡ up_to_rank task (rank + 1) old new key
next-by true lower task rank old new was is key here test first second =
    let own : rank + 1 ≡ key.rank = eqb-true (rank + 1) key.rank here in
    let after_it : nat_le key.rank rank ≡ false = grind (arith, nat_tests) in
    let within : nat_le key.rank (rank + 1) ≡ true = grind (arith, nat_tests) in
    ap (λ (b : Bool). (b && differs_at task old new key) || width_differs task was is key) (sym test ∙ after_it)
    ∙ ap (λ (areas : List Area). width_differs task areas is key) (first ∙ ap (areas_of_rank old) own)
    ∙ ap (λ (areas : List Area). width_differs task (areas_of_rank old key.rank) areas key) (second ∙ ap (areas_of_rank new) own)
    ∙ sym (ap (λ (b : Bool). b && differs_at task old new key) within)
next-by false lower task rank old new was is key here test first second =
    let other : nat_le key.rank (rank + 1) ≡ nat_le key.rank rank = grind (arith, nat_tests) in
    or-nil (lower && differs_at task old new key) ∙ ap (λ (b : Bool). b && differs_at task old new key) (sym test ∙ sym other)
  where
    or-nil : (b : Bool) → (b || false) ≡ b
    or-nil true = refl
    or-nil false = refl

-- the areas of a slave, by its place in the line
at-any : (slaves : List (List Area)) (i : ℕ) (a b : List Area) → i < length slaves → slice_index_or slaves i a ≡ slice_index_or slaves i b
at-any [] i a b within = absurd (omega arith)
at-any (areas ∷ slaves) zero a b within = refl
at-any (areas ∷ slaves) (suc i) a b within = at-any slaves i a b (omega arith)

pub areas-of : (slaves : List (List Area)) (i : ℕ) (areas own : List Area) → areas ≡ own → own ≡ slice_index_or slaves i own → i < length slaves
    → areas ≡ areas_of_rank slaves (i + 1)
areas-of slaves i areas own same is within = grind (arith, at-any)

pub ranks-go : (task rank : ℕ) (old new : List (List Area)) (was is : List Area) (mid after : Hulls) → was ≡ areas_of_rank old (rank + 1) → is ≡ areas_of_rank new (rank + 1)
    → AreHulls (up_to_rank task rank old new) mid → TakeIn mid after (λ key. (rank + 1 == key.rank) && width_differs task was is key) → AreHulls (up_to_rank task (rank + 1) old new) after
ranks-go task rank old new was is mid after first second are takes =
    hulls-same (λ key. up_to_rank task rank old new key || ((rank + 1 == key.rank) && width_differs task was is key)) (up_to_rank task (rank + 1) old new) after
    (λ key. next-by (rank + 1 == key.rank) (nat_le key.rank rank) task rank old new was is key refl refl first second) (takes (up_to_rank task rank old new) are)

end-by : (lower : Bool) (task rank : ℕ) (old new : List (List Area)) (key : Key) → nat_le key.rank rank ≡ lower → (rank < key.rank → areas_of_rank old key.rank ≡ areas_of_rank new key.rank)
    → (lower && differs_at task old new key) ≡ differs_at task old new key
end-by lower task rank old new key test same = grind (arith, nat_tests, equal-differs)

-- and so have those after a rank
pub ranks-end : (task rank : ℕ) (old new : List (List Area)) (hulls : Hulls) → ((r : ℕ) → rank < r → areas_of_rank old r ≡ areas_of_rank new r) → AreHulls (up_to_rank task rank old new) hulls
    → AreHulls (differs_at task old new) hulls
ranks-end task rank old new hulls same are =
    hulls-same (up_to_rank task rank old new) (differs_at task old new) hulls (λ key. end-by (nat_le key.rank rank) task rank old new key refl (same key.rank)) are
