-- Frames that are filled by their tasks' parts.
use Rattle.std.proofs.Common.{◌≡◌, ℕ, suc, ◌+◌, ◌<◌, List, [], ◌∷◌, ◌++◌, All, drop, length, map, slice_index_or, sum, sum_by, refl, sym, ap, ap₂, ◌∙◌, arith}
use Rattle.std.specs.List.{concat, flat_map}
use Rattle.std.proofs.lemmas.List.{length-map}
use Rattle.std.proofs.lemmas.List.Concat.{length-flat_map}
use Rattle.std.proofs.lemmas.List.Sums.{sum_by-cons}
use Rattle.std.proofs.lemmas.List.Elements.{All-head, All-tail}
use Rattle.std.proofs.lemmas.Grind.{common_steps}
use Rattle.hc_events.specs.Calls.{AreSentTogether}
use Rattle.hc_events.specs.Entries.{History}
use Rattle.hc_events.specs.Outputs.{sent_data}
use Rattle.hc_events.specs.Points.{line_of}
use Rattle.hc_events.specs.Sendings.{Frame, sent_frame_size}
use Rattle.hc_events.specs.Steps.{proposal, sent_text}
use Rattle.hc_events.proofs.lemmas.Frames.{frames-sized}
use Rattle.hc_lend.specs.Work.{CanWorkOnEach, numbered_parts, worked_parts}
use Rattle.hc_lend.proofs.lemmas.Numbered.{length-numbered_part, length-numbered_parts, number-numbered_parts}
use Rattle.hc_sendings.specs.PartTexts.{part_text}
use Rattle.hc_sendings.specs.Parts.{part_size}
use Rattle.hc_core.specs.Filled.{CanBeFilled}
use Rattle.hc_core.proofs.lemmas.Parts.{part-long, parts}
use Rattle.hc_conductor.specs.AtOnce.{CanFillPart, part_written_at, sizes_of, task_at}

-- ---- the parts' bytes are the frames' bytes

sums_alike : {A : Type 0} (f g : A → ℕ) → ((a : A) → f a ≡ g a) → (xs : List A) → sum_by f xs ≡ sum_by g xs
sums_alike f g same [] = refl
sums_alike f g same (x ∷ xs) = sum_by-cons f x xs ∙ ap₂ (λ a b. a + b) (same x) (sums_alike f g same xs) ∙ sym (sum_by-cons g x xs)

sums_of_all : {A : Type 0} (f g : A → ℕ) (xs : List A) → All (λ a. f a ≡ g a) xs → sum_by f xs ≡ sum_by g xs
sums_of_all f g [] same = refl
sums_of_all f g (x ∷ xs) same =
    sum_by-cons f x xs ∙ ap₂ (λ a b. a + b) (All-head (λ b. f b ≡ g b) x xs same) (sums_of_all f g xs (All-tail (λ b. f b ≡ g b) x xs same)) ∙ sym (sum_by-cons g x xs)

sum_of_map : {A : Type 0} (f : A → ℕ) (xs : List A) → sum (map f xs) ≡ sum_by f xs
sum_of_map f [] = refl
sum_of_map f (x ∷ xs) = sum_by-cons (λ (n : ℕ). n) (f x) (map f xs) ∙ ap (λ n. f x + n) (sum_of_map f xs) ∙ sym (sum_by-cons f x xs)

pub sizes-whole : (history : History) (tasks : List ℕ) → AreSentTogether tasks → sum (sizes_of history (proposal history tasks) tasks) ≡ sum_by sent_frame_size (proposal history tasks)
sizes-whole history tasks together =
    let frames = proposal history tasks in
    let part : ℕ → List ℕ = λ task. part_text (sent_data history) task frames in
    sum_of_map (λ task. part_size (line_of history) task frames) tasks
    ∙ sums_alike (λ task. part_size (line_of history) task frames) (λ task. length (part task)) (λ task. sym (part-long history task frames)) tasks
    ∙ sym (length-flat_map part tasks)
    ∙ ap length (parts history tasks together)
    ∙ length-flat_map (sent_text history) frames
    ∙ sums_of_all (λ frame. length (sent_text history frame)) sent_frame_size frames (frames-sized history tasks)

-- ---- each part can be filled

size_at : (f : ℕ → ℕ) (tasks : List ℕ) (k d : ℕ) → k < length tasks → slice_index_or (map f tasks) k d ≡ f (slice_index_or tasks k 0)
size_at f tasks k d low = grind (arith, common_steps)

pub parts-fillable : (history : History) (frames : List Frame) (tasks lengths bytes : List ℕ) → All (CanBeFilled history) frames → lengths ≡ sizes_of history frames tasks → sum lengths ≡ length bytes
    → CanWorkOnEach (CanFillPart history frames tasks) 0 lengths bytes
parts-fillable history frames tasks lengths bytes can sizes all k d below =
    let f : ℕ → ℕ = λ task. part_size (line_of history) task frames in
    let inside : k < length lengths = omega (arith, length-numbered_parts 0 lengths bytes, below) in
    let is_placed : k < length tasks = omega (arith, inside, ap length sizes, length-map tasks f) in
    let number : (slice_index_or (numbered_parts 0 lengths bytes) k d).0 ≡ k = omega (arith, number-numbered_parts 0 lengths bytes k d inside) in
    record {
      filled = can;
      in_range = omega (arith, number, is_placed);
      exact =
          length-numbered_part 0 lengths bytes k d all inside
          ∙ ap (λ (ls : List ℕ). slice_index_or ls k 0) sizes
          ∙ size_at f tasks k 0 is_placed
          ∙ ap (λ n. f (task_at tasks n)) (sym number);
    }

-- ---- what is left of all parts is the frames

worked_from : (text : ℕ → List ℕ) (all rest : List ℕ) (first : ℕ) (lengths bytes : List ℕ) → length lengths ≡ length rest → ((k : ℕ) → k < length rest → slice_index_or all (first + k) 0 ≡ slice_index_or rest k 0)
    → concat (worked_parts (λ part b. text (task_at all part)) first lengths bytes) ≡ flat_map text rest
worked_from text all [] first [] bytes long same = refl
worked_from text all (task ∷ rest) first (n ∷ ns) bytes long same =
    let here : task_at all first ≡ task = ap (task_at all) (omega arith) ∙ same 0 (omega arith) in
    let there = worked_from text all rest (first + 1) ns (drop n bytes) (omega (arith, long)) (λ k low. ap (task_at all) (omega arith) ∙ same (suc k) (omega (arith, low))) in
    ap₂ (λ a b. a ++ b) (ap text here) there
worked_from text all [] first (n ∷ ns) bytes long same = absurd (omega (arith, long))
worked_from text all (task ∷ rest) first [] bytes long same = absurd (omega (arith, long))

pub parts-joined : (history : History) (tasks lengths bytes : List ℕ) → AreSentTogether tasks → length lengths ≡ length tasks
    → concat (worked_parts (λ part b. part_written_at history (proposal history tasks) tasks part) 0 lengths bytes) ≡ flat_map (sent_text history) (proposal history tasks)
parts-joined history tasks lengths bytes together long =
    worked_from (λ task. part_text (sent_data history) task (proposal history tasks)) tasks tasks 0 lengths bytes long (λ k low. ap (task_at tasks) (omega arith)) ∙ parts history tasks together
