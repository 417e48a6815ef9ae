-- The widths of a task while they are set, key by key.
use Rattle.std.specs.Prelude.{nat_lt, slice_get, ◌&&◌, ◌||◌}
use Rattle.std.proofs.Common.{◌≡◌, ℕ, zero, suc, ◌+◌, ◌<◌, ◌≤◌, ◌==◌, nat_le, Bool, true, false, List, [], ◌∷◌, length, refl, sym, arith, if◌then◌else◌}
use Rattle.std.proofs.lemmas.Bool.{cond-false, cond-true, eqb-true}
use Rattle.std.proofs.lemmas.Bool.Decides.{nat_tests}
use Rattle.hc_records.specs.declared.records.Dir.{Dir}
use Rattle.hc_records.specs.declared.records.Area.{Area}
use Rattle.hc_records.specs.declared.keys.Key.{Key}
use Rattle.hc_records.specs.Keys.{same_key}
use Rattle.hc_records.specs.Boundaries.{width_in}
use Rattle.hc_bitsum.specs.Tree.{HoldsTaskList, with_width}
use Rattle.hc_bitsum.proofs.lemmas.Widths.{width-set}
use Rattle.hc_cuts.specs.Starts.{TaskCuts}
use Rattle.hc_cuts.specs.Areas.{areas_of_rank, own_width, slave_width, width_at}
use Rattle.hc_cuts.specs.Widths.{IsSetTo, widths_with_slave}

abbrev pub key_of : Dir → ℕ → ℕ → Key
key_of dir rank area = record { dir = dir; rank = rank; area = area }

-- one key

pub key-set : (old new : TaskCuts) (key : Key) (bits : ℕ) → HoldsTaskList old.tree → new.tree ≡ record old.tree { list = with_width key bits old.tree.list } → new.starts ≡ old.starts
    → HoldsTaskList new.tree → IsSetTo old new (λ other. if same_key key other then bits else width_in old.tree.list other)
key-set old new key bits was set starts holds = grind (arith, width-set)

-- both keys of a place in a slave's record

abbrev pub with_area : ℕ → ℕ → ℕ → List Area → TaskCuts → Key → ℕ
with_area task rank area new unchanged key = if (rank == key.rank) && (area == key.area) then slave_width task new key else width_in unchanged.tree.list key

-- the areas of a slave, up to a place in its record

abbrev pub with_areas : ℕ → ℕ → ℕ → List Area → TaskCuts → Key → ℕ
with_areas task rank count new unchanged key = if (rank == key.rank) && nat_lt key.area count then slave_width task new key else width_in unchanged.tree.list key

one-more : (same is below : Bool) (bits rest : ℕ)
    → (if same && is then bits else (if same && below then bits else rest)) ≡ (if same && (below || is) then bits else rest)
one-more same is below bits rest = grind arith

pub below-next : (n count : ℕ) → (nat_lt n count || (count == n)) ≡ nat_lt n (count + 1)
below-next n count = grind (arith, nat_tests)

pub areas-go : (task rank count : ℕ) (new : List Area) (old mid last : TaskCuts) → IsSetTo old mid (with_areas task rank count new old)
    → IsSetTo mid last (with_area task rank count new mid) → IsSetTo old last (with_areas task rank (count + 1) new old)
areas-go task rank count new old mid last first second = grind (arith, one-more, below-next)

pub no-area : (areas : List Area) (at : ℕ) (task : ℕ) (dir : Dir) → length areas ≤ at → own_width task dir (slice_get areas at) ≡ 0
no-area [] at task dir h = refl
no-area (area ∷ areas) zero task dir h = absurd (omega arith)
no-area (area ∷ areas) (suc at) task dir h = no-area areas at task dir (omega arith)

rest-by : (below : Bool) (key : Key) (task count : ℕ) (old new : List Area) (bits : ℕ) → nat_lt key.area count ≡ below → length old ≤ count → length new ≤ count
    → bits ≡ slave_width task old key → (if below then slave_width task new key else bits) ≡ slave_width task new key
rest-by below key task count old new bits test few fewer was = grind (arith, nat_tests, no-area)

slave-by : (same : Bool) (key : Key) (task rank count : ℕ) (old new : List Area) (bits : ℕ) → (rank == key.rank) ≡ same → length old ≤ count → length new ≤ count
    → (key.rank ≡ rank → bits ≡ slave_width task old key)
    → (if same && nat_lt key.area count then slave_width task new key else bits) ≡ (if same then slave_width task new key else bits)
slave-by true key task rank count old new bits test few fewer was =
    rest-by (nat_lt key.area count) key task count old new bits refl few fewer (was (sym (eqb-true rank key.rank test)))
slave-by false key task rank count old new bits test few fewer was = refl

pub areas-end : (task rank count : ℕ) (old new : List Area) (before last : TaskCuts) → length old ≤ count → length new ≤ count
    → ((key : Key) → key.rank ≡ rank → width_in before.tree.list key ≡ slave_width task old key)
    → IsSetTo before last (with_areas task rank count new before) → IsSetTo before last (widths_with_slave task rank new before)
areas-end task rank count old new before last few fewer was set = grind (arith, slave-by)

-- the slaves, up to a rank

abbrev pub up_to : ℕ → ℕ → List (List Area) → List (List Area) → Key → ℕ
up_to task rank old new key = if nat_le key.rank rank then width_at task new key else width_at task old key

-- up to a rank the slaves have the same areas
first-by : (low : Bool) (key : Key) (task rank : ℕ) (old new : List (List Area)) → nat_le key.rank rank ≡ low → (key.rank ≤ rank → areas_of_rank old key.rank ≡ areas_of_rank new key.rank)
    → width_at task old key ≡ (if low then width_at task new key else width_at task old key)
first-by low key task rank old new test same = grind (arith, nat_tests)

pub slaves-begin : (task rank : ℕ) (old new : List (List Area)) (unchanged : TaskCuts) → HoldsTaskList unchanged.tree → ((key : Key) → width_in unchanged.tree.list key ≡ width_at task old key)
    → ((r : ℕ) → r ≤ rank → areas_of_rank old r ≡ areas_of_rank new r) → IsSetTo unchanged unchanged (up_to task rank old new)
slaves-begin task rank old new unchanged holds was same = grind (arith, first-by)

next-by : (same below : Bool) (key : Key) (task rank : ℕ) (old new : List (List Area)) (areas : List Area) → (rank + 1 == key.rank) ≡ same → nat_le key.rank rank ≡ below
    → areas ≡ areas_of_rank new (rank + 1)
    → (if same then slave_width task areas key else (if below then width_at task new key else width_at task old key)) ≡ up_to task (rank + 1) old new key
next-by same below key task rank old new areas is test own =
    grind (arith, eqb-true, nat_tests, cond-true, cond-false)

pub slaves-go : (task rank : ℕ) (old new : List (List Area)) (areas : List Area) (before mid last : TaskCuts) → areas ≡ areas_of_rank new (rank + 1)
    → IsSetTo before mid (up_to task rank old new) → IsSetTo mid last (widths_with_slave task (rank + 1) areas mid) → IsSetTo before last (up_to task (rank + 1) old new)
slaves-go task rank old new areas before mid last own first second = grind (arith, next-by)

pub slaves-was : (task rank : ℕ) (old new : List (List Area)) (areas : List Area) (before mid : TaskCuts) → areas ≡ areas_of_rank old (rank + 1)
    → IsSetTo before mid (up_to task rank old new) → (key : Key) → key.rank ≡ rank + 1 → width_in mid.tree.list key ≡ slave_width task areas key
slaves-was task rank old new areas before mid own set key here = grind (arith, nat_tests, cond-false)

-- after a rank they have the same again
end-by : (below : Bool) (key : Key) (task rank : ℕ) (old new : List (List Area)) → nat_le key.rank rank ≡ below → (rank < key.rank → areas_of_rank old key.rank ≡ areas_of_rank new key.rank)
    → (if below then width_at task new key else width_at task old key) ≡ width_at task new key
end-by below key task rank old new test same = grind (arith, nat_tests)

pub slaves-end : (task rank : ℕ) (old new : List (List Area)) (before last : TaskCuts) → ((r : ℕ) → rank < r → areas_of_rank old r ≡ areas_of_rank new r)
    → IsSetTo before last (up_to task rank old new) → IsSetTo before last (width_at task new)
slaves-end task rank old new before last same set = grind (arith, end-by)
