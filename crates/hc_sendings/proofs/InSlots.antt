-- Frames of register writes in slots: what is done to each slot is done to all of them, and what is sought slot after slot is sought among all.
use Rattle.std.proofs.Common.{◌≡◌, ℕ, ◌+◌, ◌==◌, ◌<◌, ◌≤◌, ◌||◌, Bool, true, false, List, [], ◌∷◌, ◌++◌, drop, filter, get_or, length, map, refl, remove, slice_get, sym, ap, ◌∙◌, ⊎_elim, append_assoc, arith, suc, zero, Option, Some, None}
use Rattle.std.specs.Prelude.{find, option_map}
use Rattle.std.specs.Option.{option_or}
use Rattle.std.specs.List.{list_any}
use Rattle.std.proofs.lemmas.Bool.{eqb-true}
use Rattle.std.proofs.lemmas.List.{drop_all, map-append}
use Rattle.std.proofs.lemmas.Option.{get_or_from_slice_get, none-some, slice_get_cases}
use Rattle.std.proofs.lemmas.List.Elements.{filter-append}
use Rattle.std.proofs.lemmas.List.Folds.{find-append, list_any-append}
use Rattle.std.proofs.Math.Seq.{drop-cons}
use Rattle.hc_sendings.specs.declared.writes.AwaitedBlock.{AwaitedBlock}
use Rattle.hc_sendings.specs.Slots.{in_slots, none_of, writes_without}
use Rattle.hc_sendings.specs.Waiting.{AwaitedWrite, is_awaited, left_after, left_forgotten, with_written, write_forgotten}

-- slot after slot

slots_each : (f : List AwaitedWrite → List AwaitedWrite) → f [] ≡ [] → ((xs ys : List AwaitedWrite) → f (xs ++ ys) ≡ f xs ++ f ys) → (slots : List (List AwaitedWrite)) → in_slots (map f slots) ≡ f (in_slots slots)
slots_each f none joins [] = sym none
slots_each f none joins (slot ∷ slots) = ap (λ (rest : List AwaitedWrite). f slot ++ rest) (slots_each f none joins slots) ∙ sym (joins slot (in_slots slots))

pub slots-cleared : (slots : List (List AwaitedWrite)) → in_slots (map none_of slots) ≡ []
slots-cleared slots = slots_each none_of refl (λ xs ys. refl) slots

left_none : (again : List AwaitedBlock) (over : Bool) → left_after again over [] ≡ []
left_none again true = refl
left_none again false = refl

left_joins : (again : List AwaitedBlock) (over : Bool) (xs ys : List AwaitedWrite) → left_after again over (xs ++ ys) ≡ left_after again over xs ++ left_after again over ys
left_joins again true xs ys = refl
left_joins again false xs ys = ap (filter is_awaited) (map-append (with_written again) xs ys) ∙ filter-append is_awaited (map (with_written again) xs) (map (with_written again) ys)

pub slots-retired : (again : List AwaitedBlock) (over : Bool) (slots : List (List AwaitedWrite)) → in_slots (map (left_after again over) slots) ≡ left_after again over (in_slots slots)
slots-retired again over slots = slots_each (left_after again over) (left_none again over) (left_joins again over) slots

pub slots-forgotten : (station : ℕ) (slots : List (List AwaitedWrite)) → in_slots (map (left_forgotten station) slots) ≡ left_forgotten station (in_slots slots)
slots-forgotten station slots =
    slots_each (left_forgotten station) refl
    (λ xs ys. ap (filter is_awaited) (map-append (write_forgotten station) xs ys) ∙ filter-append is_awaited (map (write_forgotten station) xs) (map (write_forgotten station) ys)) slots

pub slots-ended : (serial : ℕ) (slots : List (List AwaitedWrite)) → in_slots (map (writes_without serial) slots) ≡ writes_without serial (in_slots slots)
slots-ended serial slots = slots_each (writes_without serial) refl (filter-append _) slots

slots_joined : (xs ys : List (List AwaitedWrite)) → in_slots (xs ++ ys) ≡ in_slots xs ++ in_slots ys
slots_joined [] ys = refl
slots_joined (x ∷ xs) ys = ap (λ (rest : List AwaitedWrite). x ++ rest) (slots_joined xs ys) ∙ sym (append_assoc x (in_slots xs) (in_slots ys))

pub slots-last : (slots : List (List AwaitedWrite)) (write : AwaitedWrite) → in_slots (slots ++ (write ∷ []) ∷ []) ≡ in_slots slots ++ write ∷ []
slots-last slots write = slots_joined slots ((write ∷ []) ∷ [])

-- a slot with none is taken out

removed_below : (slots : List (List AwaitedWrite)) (index : ℕ) → index < length slots → get_or slots index [] ≡ [] → in_slots (remove slots index) ≡ in_slots slots
removed_below [] index low none = absurd (omega (arith, low))
removed_below (slot ∷ slots) zero low none = ap (λ (first : List AwaitedWrite). first ++ in_slots slots) (sym none)
removed_below (slot ∷ slots) (suc index) low none = ap (λ (rest : List AwaitedWrite). slot ++ rest) (removed_below slots index (omega (arith, low)) none)

pub slots-removed : (slots : List (List AwaitedWrite)) (index : ℕ) → slice_get slots index ≡ Some [] → in_slots (remove slots index) ≡ in_slots slots
slots-removed slots index there =
    ⊎_elim (λ one. removed_below slots index one.1 (get_or_from_slice_get slots index [] [] there))
    (λ out. absurd (none-some [] (sym out.1 ∙ there))) (slice_get_cases slots index).1

pub no-writes : (slot : List AwaitedWrite) → (length slot == 0) ≡ true → slot ≡ []
no-writes [] none = refl
no-writes (write ∷ slot) none = let never : suc (length slot) ≡ 0 = eqb-true (suc (length slot)) 0 none in cc

-- what is sought

pub slots-next : (slots : List (List AwaitedWrite)) (index : ℕ) (slot : List AwaitedWrite) → index < length slots → slot ≡ get_or slots index slot → in_slots (drop index slots) ≡ slot ++ in_slots (drop (index + 1) slots)
slots-next slots index slot low is =
    ap in_slots (drop-cons slots index slot low) ∙ ap (λ (first : List AwaitedWrite). first ++ in_slots (drop (suc index) slots)) (sym is)
    ∙ ap (λ n. slot ++ in_slots (drop n slots)) (one_more index)
  where
    one_more : (n : ℕ) → suc n ≡ n + 1
    one_more n = omega arith

pub slots-over : (slots : List (List AwaitedWrite)) (index : ℕ) → length slots ≤ index → in_slots (drop index slots) ≡ []
slots-over slots index over = ap in_slots (drop_all index slots over)

-- the blocks of what is found
abbrev pub blocks_in : Option AwaitedWrite → Option (List AwaitedBlock)
blocks_in = option_map (λ (write : AwaitedWrite). write.blocks)

pub first-found : (found later : Option AwaitedWrite) (blocks : List AwaitedBlock) → Some blocks ≡ blocks_in found → Some blocks ≡ blocks_in (option_or found later)
first-found None later blocks e = cc
first-found (Some write) later blocks e = e

none_first : (found later : Option AwaitedWrite) → None ≡ blocks_in found → option_or found later ≡ later
none_first None later e = refl
none_first (Some write) later e = cc

pub later-found : (found later : Option AwaitedWrite) → None ≡ blocks_in found → blocks_in later ≡ blocks_in (option_or found later)
later-found found later e = ap blocks_in (sym (none_first found later e))

pub found-here : (test : AwaitedWrite → Bool) (slots : List (List AwaitedWrite)) (index : ℕ) (slot : List AwaitedWrite) (blocks : List AwaitedBlock) → index < length slots → slot ≡ get_or slots index slot
    → Some blocks ≡ blocks_in (find test slot) → Some blocks ≡ blocks_in (find test (in_slots (drop index slots)))
found-here test slots index slot blocks low is found =
    let later = in_slots (drop (index + 1) slots) in
    first-found (find test slot) (find test later) blocks found ∙ sym (ap blocks_in (ap (find test) (slots-next slots index slot low is) ∙ find-append test slot later))

pub found-later : (test : AwaitedWrite → Bool) (slots : List (List AwaitedWrite)) (index : ℕ) (slot : List AwaitedWrite) → index < length slots → slot ≡ get_or slots index slot
    → None ≡ blocks_in (find test slot) → find test (in_slots (drop index slots)) ≡ find test (in_slots (drop (index + 1) slots))
found-later test slots index slot low is none =
    let later = in_slots (drop (index + 1) slots) in
    ap (find test) (slots-next slots index slot low is) ∙ find-append test slot later ∙ none_first (find test slot) (find test later) none

pub any-next : (test : AwaitedWrite → Bool) (slots : List (List AwaitedWrite)) (index : ℕ) (slot : List AwaitedWrite) → index < length slots → slot ≡ get_or slots index slot
    → list_any test (in_slots (drop index slots)) ≡ (list_any test slot || list_any test (in_slots (drop (index + 1) slots)))
any-next test slots index slot low is =
    let later = in_slots (drop (index + 1) slots) in
    ap (list_any test) (slots-next slots index slot low is) ∙ list_any-append test slot later
