-- The first blocks that one frame holds: they are a front of the blocks, they fit, and they hold each front that fits. A block that is written and still owed is among the first that are owed.
use Rattle.std.proofs.Common.{◌≡◌, ℕ, ◌+◌, ◌≤◌, ◌==◌, Bool, true, false, cond, not, ◌&&◌, ◌||◌, List, [], ◌∷◌, ◌++◌, filter, length, take, refl, sym, ap, ◌∙◌, subst, arith, ⊎_elim}
use Rattle.std.specs.Prelude.{All}
use Rattle.std.specs.List.{list_any}
use Rattle.std.proofs.lemmas.Bool.Decides.{nat_tests}
use Rattle.std.proofs.lemmas.Bool.{or_left, or_right}
use Rattle.std.proofs.lemmas.List.Elements.{All-nil, All-cons, All-filter, All-head, All-tail}
use Rattle.std.proofs.lemmas.List.Sums.{sum_by-cons}
use Rattle.hc_records.proofs.lemmas.Choices.{by_bool, member-by}
use Rattle.hc_frames.specs.declared.limits.TheConstants.{MAX_ETHERCAT}
use Rattle.hc_registers.specs.Blocks.{LineBlock}
use Rattle.hc_events.specs.Heads.{Item, Datagram, Block, block_item, same_item}
use Rattle.hc_events.specs.Sendings.{has_room}
use Rattle.hc_events.specs.WriteFrames.{block_bytes, blocks_beside, blocks_bytes, frame_blocks}
use Rattle.hc_events.specs.Accepted.{IsFirstWrite, IsWrite}
use Rattle.hc_events.specs.Entries.{History}
use Rattle.hc_events.specs.Owed.{owed_blocks}
use Rattle.hc_events.specs.UnderWay.{further_blocks, is_under_way}

-- a front of blocks

pub record IsFront (all front : List LineBlock) : Type 0 where
  pub rest : List LineBlock
  pub joined : all ≡ front ++ rest

front_if : (room : Bool) (block : LineBlock) (blocks some : List LineBlock) → IsFront blocks some → IsFront (block ∷ blocks) (cond room (block ∷ some) [])
front_if true block blocks some front = record { rest = front.rest; joined = ap (λ all. block ∷ all) front.joined }
front_if false block blocks some front = record { rest = block ∷ blocks; joined = refl }

pub beside-front : (bytes : ℕ) (blocks : List LineBlock) → IsFront blocks (blocks_beside bytes blocks)
beside-front bytes [] = record { rest = []; joined = refl }
beside-front bytes (block ∷ blocks) =
    front_if (has_room bytes (length block.block.bytes)) block blocks (blocks_beside (bytes + block_bytes block) blocks) (beside-front (bytes + block_bytes block) blocks)

take_front : (blocks : List LineBlock) → IsFront blocks (take 1 blocks)
take_front [] = record { rest = []; joined = refl }
take_front (block ∷ blocks) = record { rest = blocks; joined = refl }

-- what a frame of the first owed blocks writes is a front of what is owed
pub first-front : (owed blocks : List LineBlock) → IsFirstWrite owed blocks → IsFront owed blocks
first-front owed blocks first =
    ⊎_elim (λ (alone : blocks ≡ take 1 owed). subst (IsFront owed) (sym alone) (take_front owed))
    (λ (held : blocks ≡ frame_blocks owed). subst (IsFront owed) (sym held) (beside-front 0 owed)) first

pub front-all : (P : LineBlock → Type 0) (front rest : List LineBlock) → All P (front ++ rest) → All P front
front-all P [] rest all = All-nil P
front-all P (block ∷ front) rest all =
    All-cons P block front (All-head P block (front ++ rest) all) (front-all P front rest (All-tail P block (front ++ rest) all))

-- what holds of each owed block holds of each block that one frame writes

front_of : (P : LineBlock → Type 0) (all blocks : List LineBlock) → All P all → IsFront all blocks → All P blocks
front_of P all blocks holds front = front-all P blocks front.rest (subst (All P) front.joined holds)

pub further-all : (P : LineBlock → Type 0) (history : History) → All P (owed_blocks history) → All P (further_blocks history)
further-all P history all = All-filter (λ block. not (is_under_way history block.station block.number)) P (owed_blocks history) all

pub written-all : (P : LineBlock → Type 0) (history : History) (blocks : List LineBlock) → IsWrite history blocks → All P (owed_blocks history) → All P blocks
written-all P history blocks write all =
    ⊎_elim (λ (first : IsFirstWrite (owed_blocks history) blocks). front_of P (owed_blocks history) blocks all (first-front (owed_blocks history) blocks first))
    (λ (further : blocks ≡ frame_blocks (further_blocks history)).
    front_of P (further_blocks history) blocks (further-all P history all) (subst (IsFront (further_blocks history)) (sym further) (beside-front 0 (further_blocks history)))) write.first

-- it fits

room_fits : (bytes size : ℕ) → has_room bytes size ≡ true → 2 + (bytes + (12 + size)) ≤ MAX_ETHERCAT
room_fits bytes size e = grind (arith, nat_tests)

fits_room : (bytes size : ℕ) → 2 + (bytes + (12 + size)) ≤ MAX_ETHERCAT → has_room bytes size ≡ true
fits_room bytes size e = grind (arith, nat_tests)

no_more : (n : ℕ) → n + 0 ≡ n
no_more n = omega arith

moved : (bytes one others : ℕ) → bytes + one + others ≡ bytes + (one + others)
moved bytes one others = omega arith

fits_if : (room : Bool) (bytes : ℕ) (block : LineBlock) (some : List LineBlock) → 2 + bytes ≤ MAX_ETHERCAT → (room ≡ true → 2 + (bytes + block_bytes block + blocks_bytes some) ≤ MAX_ETHERCAT)
    → 2 + (bytes + blocks_bytes (cond room (block ∷ some) [])) ≤ MAX_ETHERCAT
fits_if true bytes block some within then' =
    let sum = sum_by-cons block_bytes block some in
    let fits = then' refl in
    omega arith
fits_if false bytes block some within then' = omega arith

pub beside-fits : (bytes : ℕ) (blocks : List LineBlock) → 2 + bytes ≤ MAX_ETHERCAT → 2 + (bytes + blocks_bytes (blocks_beside bytes blocks)) ≤ MAX_ETHERCAT
beside-fits bytes [] within = omega arith
beside-fits bytes (block ∷ blocks) within =
    fits_if (has_room bytes (length block.block.bytes)) bytes block (blocks_beside (bytes + block_bytes block) blocks) within
    (λ t. beside-fits (bytes + block_bytes block) blocks (room_fits bytes (length block.block.bytes) t))

-- names

-- a block with this name is among these
abbrev pub is_named : Item → List LineBlock → Bool
is_named item blocks = list_any (λ block. same_item item (block_item block)) blocks

pub or_none : (b : Bool) → (b || false) ≡ b
or_none true = refl
or_none false = refl

numbers_same : (s n a b c d : ℕ) → ((s == a) && (n == b)) ≡ true → ((s == c) && (n == d)) ≡ true → ((a == c) && (b == d)) ≡ true
numbers_same s n a b c d e f = grind (arith, nat_tests)

both_same : (item : Item) (a b : LineBlock) → same_item item (block_item a) ≡ true → same_item item (block_item b) ≡ true → same_item (block_item a) (block_item b) ≡ true
both_same (Datagram task d) a b e f = cc
both_same (Block station number) a b e f = numbers_same station number a.station a.number b.station b.number e f

-- blocks that pass a test; one more is looked at

abbrev with_first : Bool → LineBlock → List LineBlock → List LineBlock
with_first passes block others = cond passes (block ∷ others) others

-- blocks of one name are one block
abbrev pub OneName : (LineBlock → Type 0) → Type 0
OneName P = (a b : LineBlock) → P a → P b → same_item (block_item a) (block_item b) ≡ true → a ≡ b

-- what passes one test passes another
abbrev pub PassesToo : (LineBlock → Type 0) → (LineBlock → Bool) → (LineBlock → Bool) → Type 0
PassesToo P q p = (x : LineBlock) → P x → q x ≡ true → p x ≡ true

out_too : (now before : Bool) → (now ≡ true → before ≡ true) → before ≡ false → now ≡ false
out_too true before passes out = sym (passes refl) ∙ out
out_too false before passes out = refl

module _ (P : LineBlock → Type 0) (names : OneName P) (p q : LineBlock → Bool) (less : PassesToo P q p) where
  -- where the block with a name doesn't pass none with that name does
  no_other : (item : Item) (block : LineBlock) → P block → same_item item (block_item block) ≡ true → q block ≡ false → (blocks : List LineBlock) → All P blocks → is_named item (filter q blocks) ≡ false
  no_other item block known same out [] all = refl
  no_other item block known same out (other ∷ blocks) all =
      let rest = no_other item block known same out blocks (All-tail P other blocks all) in
      by_bool (q other)
      (λ t. by_bool (same_item item (block_item other))
      (λ u. let one : block ≡ other = names block other known (All-head P other blocks all) (both_same item block other same u) in
      let never : true ≡ false = sym t ∙ sym (ap q one) ∙ out in cc)
      (λ u. ap (λ b. is_named item (with_first b other (filter q blocks))) t ∙ ap (λ b. b || is_named item (filter q blocks)) u ∙ rest))
      (λ t. ap (λ b. is_named item (with_first b other (filter q blocks))) t ∙ rest)

  -- a block that was in a frame of the first ones that passed before, and still passes, is in a frame of the first ones that pass now
  pub held-again : (item : Item) (bytes : ℕ) (blocks front rest : List LineBlock) → All P blocks → filter p blocks ≡ front ++ rest → 2 + (bytes + blocks_bytes front) ≤ MAX_ETHERCAT
      → is_named item front ≡ true → is_named item (filter q blocks) ≡ true → is_named item (blocks_beside bytes (filter q blocks)) ≡ true
  held-again item bytes [] front rest all same fits before now = cc
  held-again item bytes (block ∷ blocks) [] rest all same fits before now = cc
  held-again item bytes (block ∷ blocks) (first ∷ front) rest all same fits before now =
      let known = All-head P block blocks all in
      let others = All-tail P block blocks all in
      by_bool (p block)
      (λ t. let is : block ∷ filter p blocks ≡ first ∷ front ++ rest = sym (ap (λ b. with_first b block (filter p blocks)) t) ∙ same in
      let head : block ≡ first = cc in
      let tail : filter p blocks ≡ front ++ rest = cc in
      let sum = sum_by-cons block_bytes first front in
      let size : block_bytes block ≡ block_bytes first = ap block_bytes head in
      by_bool (q block)
      (λ u. let room : has_room bytes (length block.block.bytes) ≡ true = fits_room bytes (length block.block.bytes) (omega arith) in
      let later : List LineBlock = blocks_beside (bytes + block_bytes block) (filter q blocks) in
      let made : blocks_beside bytes (filter q (block ∷ blocks)) ≡ block ∷ later =
      ap (λ b. blocks_beside bytes (with_first b block (filter q blocks))) u ∙ ap (λ b. cond b (block ∷ later) []) room in
      by_bool (same_item item (block_item block))
      (λ v. ap (is_named item) made ∙ or_left (same_item item (block_item block)) (is_named item later) v)
      (λ v. let here : same_item item (block_item first) ≡ false = sym (ap (λ one. same_item item (block_item one)) head) ∙ v in
      let left : is_named item front ≡ true = member-by (same_item item (block_item first)) (is_named item front) before here in
      let still : is_named item (filter q blocks) ≡ true =
      member-by (same_item item (block_item block)) (is_named item (filter q blocks)) (sym (ap (λ b. is_named item (with_first b block (filter q blocks))) u) ∙ now) v in
      ap (is_named item) made ∙ or_right (same_item item (block_item block)) (is_named item later)
      (held-again item (bytes + block_bytes block) blocks front rest others tail (omega arith) left still)))
      (λ u. let still : is_named item (filter q blocks) ≡ true = sym (ap (λ b. is_named item (with_first b block (filter q blocks))) u) ∙ now in
      by_bool (same_item item (block_item block))
      (λ v. let never : true ≡ false = sym still ∙ no_other item block known v u blocks others in cc)
      (λ v. let here : same_item item (block_item first) ≡ false = sym (ap (λ one. same_item item (block_item one)) head) ∙ v in
      let left : is_named item front ≡ true = member-by (same_item item (block_item first)) (is_named item front) before here in
      ap (λ b. is_named item (blocks_beside bytes (with_first b block (filter q blocks)))) u
      ∙ held-again item bytes blocks front rest others tail (omega arith) left still)))
      (λ t. let out : q block ≡ false = out_too (q block) (p block) (less block known) t in
      let tail : filter p blocks ≡ first ∷ front ++ rest = sym (ap (λ b. with_first b block (filter p blocks)) t) ∙ same in
      let still : is_named item (filter q blocks) ≡ true = sym (ap (λ b. is_named item (with_first b block (filter q blocks))) out) ∙ now in
      ap (λ b. is_named item (blocks_beside bytes (with_first b block (filter q blocks)))) out
      ∙ held-again item bytes blocks (first ∷ front) rest others tail fits before still)

  -- a block that was the first one that passed before, and still passes, is the first one that passes now
  pub first-again : (item : Item) (blocks front rest : List LineBlock) → All P blocks → filter p blocks ≡ front ++ rest → length front ≡ 1
      → is_named item front ≡ true → is_named item (filter q blocks) ≡ true → is_named item (take 1 (filter q blocks)) ≡ true
  first-again item [] front rest all same one before now = cc
  first-again item (block ∷ blocks) [] rest all same one before now = cc
  first-again item (block ∷ blocks) (first ∷ next ∷ front) rest all same one before now = absurd (omega arith)
  first-again item (block ∷ blocks) (first ∷ []) rest all same one before now =
      let known = All-head P block blocks all in
      let others = All-tail P block blocks all in
      by_bool (p block)
      (λ t. let is : block ∷ filter p blocks ≡ first ∷ rest = sym (ap (λ b. with_first b block (filter p blocks)) t) ∙ same in
      let head : block ≡ first = cc in
      let here : same_item item (block_item block) ≡ true =
      ap (λ one. same_item item (block_item one)) head ∙ sym (or_none (same_item item (block_item first))) ∙ before in
      by_bool (q block)
      (λ u. ap (λ b. is_named item (take 1 (with_first b block (filter q blocks)))) u ∙ or_left (same_item item (block_item block)) false here)
      (λ u. let still : is_named item (filter q blocks) ≡ true = sym (ap (λ b. is_named item (with_first b block (filter q blocks))) u) ∙ now in
      let never : true ≡ false = sym still ∙ no_other item block known here u blocks others in cc))
      (λ t. let out : q block ≡ false = out_too (q block) (p block) (less block known) t in
      let tail : filter p blocks ≡ first ∷ rest = sym (ap (λ b. with_first b block (filter p blocks)) t) ∙ same in
      let still : is_named item (filter q blocks) ≡ true = sym (ap (λ b. is_named item (with_first b block (filter q blocks))) out) ∙ now in
      ap (λ b. is_named item (take 1 (with_first b block (filter q blocks)))) out ∙ first-again item blocks (first ∷ []) rest others tail one before still)
