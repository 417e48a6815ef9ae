-- The parts are numbered from 0, there are no more of them than words, and each is as long as its length says.
use Rattle.std.proofs.Common.{◌≡◌, ℕ, ◌<◌, ◌≤◌, List, length, slice_index, sum, subst, sym, ◌∙◌, ap, arith}
use Rattle.hc_lend.specs.Work.{CanWorkOnEach}
use Rattle.hc_lend.proofs.lemmas.Numbered.{length-numbered_parts, number-numbered_parts, length-numbered_part}
use Rattle.worked_threads.proofs.parts.copy_each.Goals as goal

words_fit : (lengths bytes : List ℕ) (words : ℕ) → sum lengths ≡ length bytes → ((k : ℕ) → k < length lengths → slice_index lengths k ≡ 2) → length lengths ≤ words
    → CanWorkOnEach (λ part b. (part < words) × (length b ≡ 2)) 0 lengths bytes
words_fit lengths bytes words all twos enough k d below =
    let inside : k < length lengths = omega (arith, length-numbered_parts 0 lengths bytes, below) in
    (omega (arith, number-numbered_parts 0 lengths bytes k d inside, enough), length-numbered_part 0 lengths bytes k d all inside ∙ twos k inside)

pub each_at_once-requires-after_bounds : goal.each_at_once-requires-after_bounds
each_at_once-requires-after_bounds g c κs within = λ k d less passed.
    let parts = c.of.result in
    let same : parts.lengths.now ≡ c.args.lengths.now = c.of.ensures.lengths in
    let twos = subst (λ (ls : List ℕ). (k : ℕ) → k < length ls → slice_index ls k ≡ 2) (sym same) c.requires.fits in
    words_fit parts.lengths.now parts.bytes.now (length c.args.words.now) parts.all twos (omega (arith, ap length same, c.requires.words)) k d less
