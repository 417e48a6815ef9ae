-- The blocks of a slave by their numbers.
use Rattle.std.proofs.Common.{◌≡◌, ℕ, zero, suc, ◌+◌, ◌*◌, ◌/◌, ◌%◌, ◌==◌, ◌<◌, ◌≤◌, length, Bool, true, false, List, [], ◌∷◌, refl, sym, ap, subst, ◌∙◌, arith, if◌then◌else◌, rules}
use Rattle.std.specs.Prelude.{◌≢◌, All, Option, Some, None, option_map, slice_get, slice_index_or}
use Rattle.std.proofs.lemmas.Option.{slice_get-get_or, slice_get_past}
use Rattle.std.proofs.lemmas.Bool.{eqb-true, eqb-false}
use Rattle.std.specs.List.{enumerate_from, flat_map}
use Rattle.hc_records.specs.declared.records.Area.{Area}
use Rattle.hc_records.specs.Line.{Member}
use Rattle.hc_records.specs.Packing.{Placed}
use Rattle.hc_registers.specs.Blocks.{RegisterBlock, sync_manager_block}
use Rattle.hc_places.specs.Layout.{placed_in}
use Rattle.hc_plan.specs.inner.Blocks.{IsMappedSlave, IsWritable, area_block_in, fmmu_block_in, slave_blocks_in}

module _ {X Y : Type 0} (f g : X → Y) where
  -- two for each element: the even ones are the first of each, the odd ones the second
  pub get-first : (xs : List X) (i n : ℕ) → n ≡ 2 * i → slice_get (flat_map (λ x. f x ∷ g x ∷ []) xs) n ≡ option_map f (slice_get xs i)
  get-first [] i n is = refl
  get-first (x ∷ xs) zero zero is = refl
  get-first (x ∷ xs) zero (suc n) is = absurd (omega arith)
  get-first (x ∷ xs) (suc i) (suc (suc n)) is = get-first xs i n (omega arith)
  get-first (x ∷ xs) (suc i) other is = absurd (omega arith)

  pub get-second : (xs : List X) (i n : ℕ) → n ≡ 2 * i + 1 → slice_get (flat_map (λ x. f x ∷ g x ∷ []) xs) n ≡ option_map g (slice_get xs i)
  get-second [] i n is = refl
  get-second (x ∷ xs) i zero is = absurd (omega arith)
  get-second (x ∷ xs) zero (suc zero) is = refl
  get-second (x ∷ xs) zero (suc (suc n)) is = absurd (omega arith)
  get-second (x ∷ xs) (suc i) (suc zero) is = absurd (omega arith)
  get-second (x ∷ xs) (suc i) (suc (suc n)) is = get-second xs i n (omega arith)

get-numbered : {X : Type 0} (first : ℕ) (xs : List X) (i : ℕ) → slice_get (enumerate_from first xs) i ≡ option_map (λ x. (first + i, x)) (slice_get xs i)
get-numbered first [] i = refl
get-numbered first (x ∷ xs) zero = ap (λ (n : ℕ). Some (n, x)) (omega arith)
get-numbered {X} first (x ∷ xs) (suc i) = search (rules, get-numbered (first + 1) xs i)

zero-plus : (n : ℕ) → 0 + n ≡ n
zero-plus n = omega arith

pub get-numbered-from-0 : {X : Type 0} (xs : List X) (i : ℕ) → slice_get (enumerate_from 0 xs) i ≡ option_map (λ x. (i, x)) (slice_get xs i)
get-numbered-from-0 {X} xs i = get-numbered 0 xs i ∙ ap (λ (n : ℕ). option_map (λ (x : X). (n, x)) (slice_get xs i)) (zero-plus i)

numbered-parts : {X : Type 0} (i : ℕ) (o : Option X) (e : ℕ × X) → option_map (λ x. (i, x)) o ≡ Some e → (e.0 ≡ i) × (o ≡ Some e.1)
numbered-parts i o e is = search rules

-- an area is found at the number that it is given
pub numbered-get : {X : Type 0} (xs : List X) → All (λ e. slice_get xs e.0 ≡ Some e.1) (enumerate_from 0 xs)
numbered-get xs i d inside = search (rules, numbered-parts, get-numbered-from-0, slice_get-get_or)

pub map-twice : {X Y Z : Type 0} (f : Y → Z) (g : X → Y) (o : Option X) → option_map f (option_map g o) ≡ option_map (λ x. f (g x)) o
map-twice f g o = search rules

-- the parity of a number says which of the two it is
block-by-parity : (layout : List (List Placed)) (member : Member) (n : ℕ) (even : Bool) → (n % 2 == 0) ≡ even
    → slice_get (slave_blocks_in layout member) n
    ≡ option_map (λ e. if even then sync_manager_block e.1 else fmmu_block_in layout member.rank e) (slice_get (enumerate_from 0 member.slave.areas) (n / 2))
block-by-parity layout member n true is =
    get-first (λ e. sync_manager_block e.1) (fmmu_block_in layout member.rank) (enumerate_from 0 member.slave.areas) (n / 2) n
    (let even : n % 2 ≡ 0 = eqb-true (n % 2) 0 is in omega arith)
block-by-parity layout member n false is =
    get-second (λ e. sync_manager_block e.1) (fmmu_block_in layout member.rank) (enumerate_from 0 member.slave.areas) (n / 2) n
    (let odd : n % 2 ≢ 0 = eqb-false (n % 2) 0 is in omega arith)

pub get-slave_blocks : (layout : List (List Placed)) (member : Member) (n : ℕ)
    → slice_get (slave_blocks_in layout member) n ≡ option_map (λ area. area_block_in layout member.rank n (n / 2, area)) (slice_get member.slave.areas (n / 2))
get-slave_blocks layout member n =
    block-by-parity layout member n (n % 2 == 0) refl
    ∙ ap (option_map (area_block_in layout member.rank n)) (get-numbered-from-0 member.slave.areas (n / 2))
    ∙ map-twice (area_block_in layout member.rank n) (λ area. (n / 2, area)) (slice_get member.slave.areas (n / 2))

-- the area at half a number of a slave's areas, and the slave's rank
pub record AreaMet (member : Member) (areas : List Area) (n index rank : ℕ) (area : Area) : Type 0 where
  pub own : areas ≡ member.slave.areas
  pub half : index ≡ n / 2
  pub inside : index < length areas
  pub is : area ≡ slice_index_or areas index area
  pub ranked : rank ≡ member.rank

pub met-get : (member : Member) (areas : List Area) (n index rank : ℕ) (area : Area) → AreaMet member areas n index rank area
    → slice_get member.slave.areas (n / 2) ≡ Some area
met-get member areas n index rank area met = search (rules, slice_get-get_or)

pub met-mapped : (layout : List (List Placed)) (member : Member) (areas : List Area) (n index rank : ℕ) (area : Area) → AreaMet member areas n index rank area
    → IsMappedSlave layout member → IsWritable (n / 2) area (placed_in layout area.task (record { dir = area.dir; rank = rank; area = n / 2 }))
met-mapped layout member areas n index rank area met mapped =
    subst (λ (r : ℕ). IsWritable (n / 2) area (placed_in layout area.task (record { dir = area.dir; rank = r; area = n / 2 }))) (sym met.ranked)
    (mapped.areas (n / 2) area (met-get member areas n index rank area met))

pub met-block : (layout : List (List Placed)) (member : Member) (areas : List Area) (n index rank : ℕ) (area : Area) (block : RegisterBlock) → AreaMet member areas n index rank area
    → block ≡ area_block_in layout rank n (n / 2, area) → Some block ≡ slice_get (slave_blocks_in layout member) n
met-block layout member areas n index rank area block met made =
    sym (get-slave_blocks layout member n
    ∙ ap (option_map (λ a. area_block_in layout member.rank n (n / 2, a))) (met-get member areas n index rank area met)
    ∙ ap (λ (r : ℕ). Some (area_block_in layout r n (n / 2, area))) (sym met.ranked)
    ∙ ap (λ (b : RegisterBlock). Some b) (sym made))

pub met-none : (layout : List (List Placed)) (member : Member) (areas : List Area) (n index : ℕ) → areas ≡ member.slave.areas → index ≡ n / 2 → length areas ≤ index
    → None ≡ slice_get (slave_blocks_in layout member) n
met-none layout member areas n index is half history = search (rules, get-slave_blocks, slice_get_past)
