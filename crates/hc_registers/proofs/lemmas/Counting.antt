-- The numbers that the slaves of a datagram add to its working counter sum up to those that its areas add in their order.
use Rattle.std.proofs.Common.{◌≡◌, ℕ, suc, zero, ◌+◌, ◌<◌, Bool, true, false, List, [], ◌∷◌, refl, sym, ap, ◌∙◌, arith}
use Rattle.std.specs.Prelude.{All, AllPairs, Contains, IsTrue, Some, None, slice_index_or, sum_by, ◌==◌, ◌&&◌, ◌||◌, if◌then◌else◌}
use Rattle.std.specs.List.{list_any}
use Rattle.std.proofs.lemmas.Bool.{eq-eqb, eqb-true, ne_eqb, or_left}
use Rattle.std.proofs.lemmas.Bool.Decides.{nat_tests}
use Rattle.std.proofs.lemmas.List.Elements.{All-cons, All-head, All-tail, All-weaker}
use Rattle.std.proofs.lemmas.List.Folds.{list_any_none}
use Rattle.std.proofs.lemmas.List.Sums.{sum_by-cons}
use Rattle.hc_records.specs.declared.records.Dir.{Dir}
use Rattle.hc_records.specs.declared.records.Dir.TheVariants.{Out, In}
use Rattle.hc_records.specs.declared.keys.Key.{Key}
use Rattle.hc_records.specs.Keys.{is_before, same_dir}
use Rattle.hc_records.specs.Image.{counter_share, area_is_of}
use Rattle.hc_records.proofs.lemmas.Lists.{AllPairs-head, AllPairs-tail}
use Rattle.hc_registers.specs.Counting.{weight, counted_from}

-- the number that the area with a key adds before the areas of other keys: 0 if one of them is of its slave and direction
abbrev share_before : Key → List Key → ℕ
share_before key keys = if list_any (area_is_of key.rank key.dir) keys then 0 else weight key.dir

-- what the areas of these keys add, so counted
abbrev counted_back : List Key → ℕ
counted_back [] = 0
counted_back (key ∷ keys) = share_before key keys + counted_back keys

abbrev of_dir : Dir → Bool → Bool → Bool
of_dir Out outputs inputs = outputs
of_dir In outputs inputs = inputs

any-of_dir : (dir : Dir) (a b : ℕ) (keys : List Key) → a ≡ b → list_any (area_is_of a dir) keys ≡ of_dir dir (list_any (area_is_of b Out) keys) (list_any (area_is_of b In) keys)
any-of_dir Out a b keys same = ap (λ rank. list_any (area_is_of rank Out) keys) same
any-of_dir In a b keys same = ap (λ rank. list_any (area_is_of rank In) keys) same

-- an area of a slave adds to its share, unless there is another of the same direction
share-by : (dir : Dir) (own outputs inputs other : Bool) → (own ≡ true → other ≡ of_dir dir outputs inputs) →
    (if (own && same_dir dir Out) || outputs then 2 else 0) + (if (own && same_dir dir In) || inputs then 1 else 0)
    ≡ ((if outputs then 2 else 0) + (if inputs then 1 else 0)) + (if own then (if other then 0 else weight dir) else 0)
share-by Out false outputs inputs other is = omega arith
share-by In false outputs inputs other is = omega arith
share-by Out true true inputs other is = rw (is refl) (omega arith)
share-by Out true false inputs other is = rw (is refl) (omega arith)
share-by In true outputs true other is = rw (is refl) (omega arith)
share-by In true outputs false other is = rw (is refl) (omega arith)

share-cons : (key : Key) (keys : List Key) (rank : ℕ)
    → counter_share (key ∷ keys) rank ≡ counter_share keys rank + (if key.rank == rank then share_before key keys else 0)
share-cons key keys rank =
    share-by key.dir (key.rank == rank) (list_any (area_is_of rank Out) keys) (list_any (area_is_of rank In) keys) (list_any (area_is_of key.rank key.dir) keys)
    (λ own. any-of_dir key.dir key.rank rank keys (eqb-true key.rank rank own))

sum_by-plus : (f g h : ℕ → ℕ) → ((x : ℕ) → f x ≡ g x + h x) → (xs : List ℕ) → sum_by f xs ≡ sum_by g xs + sum_by h xs
sum_by-plus f g h plus [] = refl
sum_by-plus f g h plus (x ∷ xs) = omega (arith, sum_by-cons f x xs, sum_by-cons g x xs, sum_by-cons h x xs, plus x, sum_by-plus f g h plus xs)

sum_by-none : (f : ℕ → ℕ) (xs : List ℕ) → All (λ x. f x ≡ 0) xs → sum_by f xs ≡ 0
sum_by-none f [] none = refl
sum_by-none f (x ∷ xs) none =
    omega (arith, sum_by-cons f x xs, All-head (λ x. f x ≡ 0) x xs none, sum_by-none f xs (All-tail (λ x. f x ≡ 0) x xs none))

at_own : (rank share : ℕ) (other : ℕ) → rank ≡ other → (if rank == other then share else 0) ≡ share
at_own rank share other same = let own : (rank == other) ≡ true = eq-eqb rank other same in rw own refl

at_other : (rank share : ℕ) (other : ℕ) → (rank ≡ other → ⊥) → (if rank == other then share else 0) ≡ 0
at_other rank share other differs = let own : (rank == other) ≡ false = ne_eqb rank other differs in rw own refl

-- ranks that ascend have a rank once
at-once : (rank share : ℕ) (ranks : List ℕ) → AllPairs (λ a b. a < b) ranks → Contains ranks rank → sum_by (λ other. if rank == other then share else 0) ranks ≡ share
at-once rank share [] ascend has = absurd (omega (arith, has.1))
at-once rank share (first ∷ ranks) ascend (zero, within, found) =
    let own = at_own rank share first (sym found) in
    let none : sum_by (λ other. if rank == other then share else 0) ranks ≡ 0 =
    sum_by-none (λ other. if rank == other then share else 0) ranks
    (All-weaker (λ other. first < other) (λ other. (if rank == other then share else 0) ≡ 0)
    (λ other above. at_other rank share other (λ same. omega arith)) ranks (AllPairs-head (λ a b. a < b) first ranks ascend)) in
    omega (arith, sum_by-cons (λ other. if rank == other then share else 0) first ranks)
at-once rank share (first ∷ ranks) ascend (suc k, within, found) =
    let above : first < slice_index_or ranks k rank = AllPairs-head (λ a b. a < b) first ranks ascend k rank (omega arith) in
    let other = at_other rank share first (λ same. omega (arith, above, found)) in
    let rest = at-once rank share ranks (AllPairs-tail (λ a b. a < b) first ranks ascend) (k, omega arith, found) in
    omega (arith, sum_by-cons (λ other. if rank == other then share else 0) first ranks)

sum-counted_back : (keys : List Key) (ranks : List ℕ) → AllPairs (λ a b. a < b) ranks → All (λ key. Contains ranks key.rank) keys
    → sum_by (counter_share keys) ranks ≡ counted_back keys
sum-counted_back [] ranks ascend among = sum_by-none (counter_share []) ranks (λ k d within. refl)
sum-counted_back (key ∷ keys) ranks ascend among =
    let first = at-once key.rank (share_before key keys) ranks ascend (All-head (λ key. Contains ranks key.rank) key keys among) in
    let rest = sum-counted_back keys ranks ascend (All-tail (λ key. Contains ranks key.rank) key keys among) in
    omega (arith, sum_by-plus (counter_share (key ∷ keys)) (counter_share keys) (λ rank. if key.rank == rank then share_before key keys else 0) (share-cons key keys) ranks)

-- a key between two of one slave and direction is of that slave and direction
between-by : (d e f : Dir) (r a s b t c : ℕ) →
    is_before (record { dir = d; rank = r; area = a }) (record { dir = e; rank = s; area = b }) ≡ true
    → is_before (record { dir = e; rank = s; area = b }) (record { dir = f; rank = t; area = c }) ≡ true
    → ((r == s) && same_dir d e) ≡ false → ((t == r) && same_dir f d) ≡ false
between-by Out Out Out r a s b t c first second differs = grind (arith, nat_tests)
between-by Out Out In r a s b t c first second differs = grind (arith, nat_tests)
between-by Out In Out r a s b t c first second differs = cc
between-by Out In In r a s b t c first second differs = grind (arith, nat_tests)
between-by In Out Out r a s b t c first second differs = cc
between-by In Out In r a s b t c first second differs = cc
between-by In In Out r a s b t c first second differs = cc
between-by In In In r a s b t c first second differs = grind (arith, nat_tests)

same-sym : (d e : Dir) (r s : ℕ) → ((s == r) && same_dir e d) ≡ ((r == s) && same_dir d e)
same-sym Out Out r s = grind (arith, nat_tests)
same-sym Out In r s = grind (arith, nat_tests)
same-sym In Out r s = grind (arith, nat_tests)
same-sym In In r s = grind (arith, nat_tests)

same-weight : (d e : Dir) (own : Bool) → (own && same_dir d e) ≡ true → weight d ≡ weight e
same-weight Out Out own same = refl
same-weight Out In true same = cc
same-weight Out In false same = cc
same-weight In Out true same = cc
same-weight In Out false same = cc
same-weight In In own same = refl

abbrev Precedes : Key → Key → Type 0
Precedes a b = IsTrue (is_before a b)

-- after a key of another slave or direction there is none of the first one's
none-later : (before key : Key) (keys : List Key) → AllPairs Precedes (before ∷ key ∷ keys)
    → ((before.rank == key.rank) && same_dir before.dir key.dir) ≡ false → list_any (area_is_of before.rank before.dir) (key ∷ keys) ≡ false
none-later before key keys ascend differs =
    let first = All-head (Precedes before) key keys (AllPairs-head Precedes before (key ∷ keys) ascend) in
    list_any_none (area_is_of before.rank before.dir) (key ∷ keys)
    (All-cons (λ later. area_is_of before.rank before.dir later ≡ false) key keys (same-sym before.dir key.dir before.rank key.rank ∙ differs)
    (All-weaker (Precedes key) (λ later. area_is_of before.rank before.dir later ≡ false)
    (λ later second. between-by before.dir key.dir later.dir before.rank before.area key.rank key.area later.rank later.area first second differs)
    keys (AllPairs-head Precedes key keys (AllPairs-tail Precedes before (key ∷ keys) ascend))))

-- of two areas of one slave and direction only one is counted, whichever way
pair-by : (same other : Bool) (first second rest back : ℕ) → (same ≡ true → other ≡ true) → (same ≡ true → first ≡ second) → (same ≡ false → other ≡ false)
    → second + rest ≡ back → first + ((if same then 0 else second) + rest) ≡ (if other then 0 else first) + back
pair-by true other first second rest back found alike none counted = let e = alike refl in rw (found refl) (omega arith)
pair-by false other first second rest back found alike none counted = rw (none refl) (omega arith)

counted-back : (before : Key) (keys : List Key) → AllPairs Precedes (before ∷ keys) → weight before.dir + counted_from (Some before) keys ≡ counted_back (before ∷ keys)
counted-back before [] ascend = omega arith
counted-back before (key ∷ keys) ascend =
    pair-by ((before.rank == key.rank) && same_dir before.dir key.dir) (list_any (area_is_of before.rank before.dir) (key ∷ keys))
    (weight before.dir) (weight key.dir) (counted_from (Some key) keys) (counted_back (key ∷ keys))
    (λ same. or_left (area_is_of before.rank before.dir key) (list_any (area_is_of before.rank before.dir) keys) (same-sym before.dir key.dir before.rank key.rank ∙ same))
    (same-weight before.dir key.dir (before.rank == key.rank))
    (none-later before key keys ascend)
    (counted-back key keys (AllPairs-tail Precedes before (key ∷ keys) ascend))

-- if keys ascend, and so do ranks that have each key's, the shares of these ranks sum up to what the areas add in their order
pub ascending-counted : (keys : List Key) (ranks : List ℕ) → AllPairs (λ a b. IsTrue (is_before a b)) keys → AllPairs (λ a b. a < b) ranks
    → All (λ key. Contains ranks key.rank) keys → sum_by (counter_share keys) ranks ≡ counted_from None keys
ascending-counted [] ranks ascend ranked among = sum-counted_back [] ranks ranked among
ascending-counted (key ∷ keys) ranks ascend ranked among = sum-counted_back (key ∷ keys) ranks ranked among ∙ sym (counted-back key keys ascend)
