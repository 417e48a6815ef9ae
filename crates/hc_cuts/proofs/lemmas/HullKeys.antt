-- What gives hulls: a test has one pair of them, the touched keys have such a pair, and a key is taken in.
use Rattle.std.proofs.Common.{arith}
use Rattle.std.proofs.Common.{◌≡◌, ◌⊎◌, inl, inr, Bool, true, false, List, [], ◌∷◌, ◌++◌, Option, Some, None, refl, sym, ap, subst, ◌∙◌, if◌then◌else◌}
use Rattle.std.specs.Prelude.{All, filter, fold, map, ◌&&◌, ◌||◌}
use Rattle.std.specs.List.{list_any}
use Rattle.std.proofs.lemmas.Bool.{eq-eqb, or_cases, or_parts, or_right}
use Rattle.std.proofs.lemmas.List.{map-append}
use Rattle.std.proofs.lemmas.List.Elements.{All-head, All-tail, filter_passes}
use Rattle.std.proofs.lemmas.List.Folds.{list_any-append}
use Rattle.std.proofs.lemmas.Map.Views.{any-filter_same}
use Rattle.hc_records.specs.declared.records.Dir.{Dir}
use Rattle.hc_records.specs.declared.records.Dir.TheVariants.{Out, In}
use Rattle.hc_records.specs.declared.keys.Key.{Key}
use Rattle.hc_records.specs.Keys.{same_dir, same_key, is_before, is_within}
use Rattle.hc_records.specs.TaskList.{Keyed}
use Rattle.hc_records.specs.Boundaries.{Interval, hull, is_touched, touched, widened, width_in}
use Rattle.hc_records.proofs.lemmas.KeyOrder.{same_dir-refl, same_key-refl, same_key-same, within-else, within-from_before, within-trans}
use Rattle.hc_records.proofs.lemmas.Spans.{width-skip}
use Rattle.hc_records.proofs.lemmas.VariablePlaces.{same_dir-same}
use Rattle.hc_cuts.specs.declared.hulls.Hulls.{Hulls}
use Rattle.hc_cuts.specs.Hulls.{AreHulls, IsHull, IsOf, IsHullOf, TakeIn, are_none, no_hulls}

-- one hull of one test

both-within : (a b : Key) → is_within a b ≡ true → is_within b a ≡ true → a ≡ b
both-within a b low high = grind arith

interval-is : (test : Key → Bool) (dir : Dir) (i j : Interval) → IsHullOf test dir i → IsHullOf test dir j → i ≡ j
interval-is test dir i j a b =
    ap (λ (k : Key). (k, i.1)) (both-within i.0 j.0 (a.least j.0 b.first) (b.least i.0 a.first))
    ∙ ap (λ (k : Key). (j.0, k)) (both-within i.1 j.1 (b.greatest i.1 a.last) (a.greatest j.1 b.last))

hull-is : (test : Key → Bool) (dir : Dir) (a b : Option Interval) → IsHull test dir a → IsHull test dir b → a ≡ b
hull-is test dir None None first second = refl
hull-is test dir None (Some j) first second = let never : true ≡ false = sym second.first.1 ∙ first j.0 second.first.0 in cc
hull-is test dir (Some i) None first second = let never : true ≡ false = sym first.first.1 ∙ second i.0 first.first.0 in cc
hull-is test dir (Some i) (Some j) first second = ap Some (interval-is test dir i j first second)

hull-same : (p q : Key → Bool) (dir : Dir) (hull : Option Interval) → ((key : Key) → key.dir ≡ dir → p key ≡ q key) → IsHull p dir hull → IsHull q dir hull
hull-same p q dir hull same is = grind arith

-- a hull widened by a key of its direction

choice : (P : Key → Type 0) (first : Bool) (a b : Key) → P a → P b → P (if first then a else b)
choice P first a b here there = grind arith

lesser-within : (before : Bool) (key low other : Key) → is_before key low ≡ before → (is_within low other ≡ true) ⊎ (same_key key other ≡ true)
    → is_within (if before then key else low) other ≡ true
lesser-within true key low other test (inl within) = within-trans key low other (within-from_before key low test) within
lesser-within true key low other test (inr same) = or_right (is_before key other) (same_key key other) same
lesser-within false key low other test (inl within) = within
lesser-within false key low other test (inr same) = subst (λ (k : Key). is_within low k ≡ true) (same_key-same key other same) (within-else key low test)

greater-within : (before : Bool) (key high other : Key) → is_before high key ≡ before → (is_within other high ≡ true) ⊎ (same_key key other ≡ true)
    → is_within other (if before then key else high) ≡ true
greater-within before key high other test h5 = grind arith

more-of : (test : Key → Bool) (dir : Dir) (key other : Key) → IsOf test dir other → IsOf (λ k. test k || same_key key k) dir other
more-of test dir key other of = (of.0, ap (λ (b : Bool). b || same_key key other) of.1)

own-of : (test : Key → Bool) (dir : Dir) (key : Key) → key.dir ≡ dir → IsOf (λ k. test k || same_key key k) dir key
own-of test dir key here = (here, or_right (test key) (same_key key key) (same_key-refl key))

least-by : (test : Key → Bool) (dir : Dir) (i : Interval) (key other : Key) → IsHullOf test dir i → other.dir ≡ dir → (test other ≡ true) ⊎ (same_key key other ≡ true)
    → is_within (if is_before key i.0 then key else i.0) other ≡ true
least-by test dir i key other is here (inl passes) = lesser-within (is_before key i.0) key i.0 other refl (inl (is.least other (here, passes)))
least-by test dir i key other is here (inr same) = lesser-within (is_before key i.0) key i.0 other refl (inr same)

greatest-by : (test : Key → Bool) (dir : Dir) (i : Interval) (key other : Key) → IsHullOf test dir i → other.dir ≡ dir → (test other ≡ true) ⊎ (same_key key other ≡ true)
    → is_within other (if is_before i.1 key then key else i.1) ≡ true
greatest-by test dir i key other is here (inl passes) = greater-within (is_before i.1 key) key i.1 other refl (inl (is.greatest other (here, passes)))
greatest-by test dir i key other is here (inr same) = greater-within (is_before i.1 key) key i.1 other refl (inr same)

hull-more : (test : Key → Bool) (dir : Dir) (hull : Option Interval) (key : Key) → key.dir ≡ dir → IsHull test dir hull → IsHull (λ k. test k || same_key key k) dir (widened hull key)
hull-more test dir None key here none = grind arith
hull-more test dir (Some i) key here is = record {
  first = choice (IsOf (λ k. test k || same_key key k) dir) (is_before key i.0) key i.0 (own-of test dir key here) (more-of test dir key i.0 is.first);
  last = choice (IsOf (λ k. test k || same_key key k) dir) (is_before i.1 key) key i.1 (own-of test dir key here) (more-of test dir key i.1 is.last);
  least = λ other of. least-by test dir i key other is of.0 (or_cases (test other) (same_key key other) of.1);
  greatest = λ other of. greatest-by test dir i key other is of.0 (or_cases (test other) (same_key key other) of.1);
}

-- and by some

or-none : (b : Bool) → b ≡ (b || false)
or-none b = grind arith

pub or-assoc : (a b c : Bool) → ((a || b) || c) ≡ (a || (b || c))
or-assoc a b c = grind arith

hull-fold : (keys : List Key) (test : Key → Bool) (dir : Dir) (begun : Option Interval) → All (λ key. same_dir key.dir dir ≡ true) keys → IsHull test dir begun
    → IsHull (λ key. test key || list_any (λ other. same_key other key) keys) dir (fold widened begun keys)
hull-fold [] test dir begun all is = hull-same test (λ key. test key || false) dir begun (λ key here. or-none (test key)) is
hull-fold (first ∷ keys) test dir begun all is =
    hull-same (λ key. (test key || same_key first key) || list_any (λ other. same_key other key) keys)
    (λ key. test key || (same_key first key || list_any (λ other. same_key other key) keys)) dir (fold widened (widened begun first) keys)
    (λ key here. or-assoc (test key) (same_key first key) (list_any (λ other. same_key other key) keys))
    (hull-fold keys (λ key. test key || same_key first key) dir (widened begun first) (All-tail (λ key. same_dir key.dir dir ≡ true) first keys all)
    (hull-more test dir begun first (same_dir-same first.dir dir (All-head (λ key. same_dir key.dir dir ≡ true) first keys all)) is))

-- the hull of the touched keys is one

width-none : (list : List Keyed) (key : Key) → list_any (λ other. same_key other key) (map (λ area. area.0) list) ≡ false → width_in list key ≡ 0
width-none [] key none = refl
width-none (area ∷ areas) key none =
    let parts = or_parts (same_key area.0 key) (list_any (λ other. same_key other key) (map (λ a. a.0) areas)) none in
    width-skip area areas key parts.0 ∙ width-none areas key parts.1

and-true : (b : Bool) → (b && true) ≡ b
and-true b = grind arith

and-none : (b : Bool) → b ≡ false → (b && false) ≡ b
and-none b none = grind arith

touched-by : (old new : List Keyed) (key : Key) (any : Bool) → list_any (λ other. same_key other key) (map (λ area. area.0) (old ++ new)) ≡ any
    → (is_touched old new key && any) ≡ is_touched old new key
touched-by old new key true test = and-true (is_touched old new key)
touched-by old new key false test =
    grind (arith, list_any-append, map-append, or_parts, eq-eqb, width-none, and-none)

of-touched : (old new : List Keyed) (dir : Dir) (key : Key) → key.dir ≡ dir
    → list_any (λ other. same_key other key) (filter (λ other. same_dir other.dir dir) (touched old new)) ≡ is_touched old new key
of-touched old new dir key here =
    let keys = map (λ (area : Keyed). area.0) (old ++ new) in
    any-filter_same (λ other. same_key other key) (λ other. same_dir other.dir dir) true
    (λ other same. ap (λ (k : Key). same_dir k.dir dir) (same_key-same other key same) ∙ ap (λ (d : Dir). same_dir d dir) here ∙ same_dir-refl dir) (touched old new)
    ∙ any-filter_same (λ other. same_key other key) (is_touched old new) (is_touched old new key) (λ other same. ap (is_touched old new) (same_key-same other key same)) keys
    ∙ touched-by old new key (list_any (λ other. same_key other key) keys) refl

hull-touched : (old new : List Keyed) (dir : Dir) → IsHull (is_touched old new) dir (hull dir (touched old new))
hull-touched old new dir =
    let keys = filter (λ (key : Key). same_dir key.dir dir) (touched old new) in
    hull-same (λ key. list_any (λ other. same_key other key) keys) (is_touched old new) dir (hull dir (touched old new)) (of-touched old new dir)
    (hull-fold keys (λ key. false) dir None (filter_passes (λ (key : Key). same_dir key.dir dir) (touched old new)) (λ key here. refl))

pub hulls-are : (old new : List Keyed) (hulls : Hulls) → AreHulls (is_touched old new) hulls
    → (hulls.outputs ≡ hull Out (touched old new)) × (hulls.inputs ≡ hull In (touched old new))
hulls-are old new hulls are = grind (arith, hull-is, hull-touched)

-- hulls

pub hulls-same : (p q : Key → Bool) (hulls : Hulls) → ((key : Key) → p key ≡ q key) → AreHulls p hulls → AreHulls q hulls
hulls-same p q hulls same are = grind arith

-- a test that no key passes has none
pub hulls-none : (test : Key → Bool) → ((key : Key) → test key ≡ false) → AreHulls test no_hulls
hulls-none test none = record { outputs = λ key here. none key; inputs = λ key here. none key }

-- no hulls, by the test for them

pub none-are : (hulls : Hulls) → are_none hulls ≡ true → hulls ≡ no_hulls
none-are hulls none = grind arith

-- where no key is touched, there is none
pub untouched-none : (old new : List Keyed) (hulls : Hulls) → AreHulls (is_touched old new) hulls → touched old new ≡ [] → are_none hulls ≡ true
untouched-none old new hulls are none =
    let both = hulls-are old new hulls are in
    rw (both.0, both.1, none) refl

-- and where there is none, no key passes
pub none-passes : (test : Key → Bool) (key : Key) → AreHulls test no_hulls → test key ≡ false
none-passes test key are = grind arith

-- a key of the other direction widens nothing
pub or-other : (a b : Bool) → b ≡ false → a ≡ (a || b)
or-other a b none = grind arith

apart : (d e : Dir) (key other : Key) → same_dir d e ≡ false → key.dir ≡ d → other.dir ≡ e → same_key key other ≡ false
apart d e key other differ here there = grind arith

pub out-taken : (key : Key) (hulls : Hulls) (wider : Option Interval) → key.dir ≡ Out → wider ≡ widened hulls.outputs key
    → TakeIn hulls (record { outputs = wider; inputs = hulls.inputs }) (same_key key)
out-taken key hulls wider here is = grind (arith, hull-more, hull-same, or-other, apart)

pub in-taken : (key : Key) (hulls : Hulls) (wider : Option Interval) → key.dir ≡ In → wider ≡ widened hulls.inputs key
    → TakeIn hulls (record { outputs = hulls.outputs; inputs = wider }) (same_key key)
in-taken key hulls wider here is = grind (arith, hull-same, or-other, apart, hull-more)
