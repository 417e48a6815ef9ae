use Rattle.std.proofs.Common.{◌≡◌, ◌∙◌, ◌+◌, ◌<◌, ◌/◌, ◌%◌, ◌∷◌, ◌++◌, ℕ, List, [], ap, arith, get_or, length, replicate, subst, sym}
use borrow.Author.Count.{below_more}
use Rattle.std.proofs.lemmas.List.{get_or_append_left, get_or_push, length_push}
use Rattle.hc_images.specs.Packed.{Bytes, length_in}
use Rattle.hc_images.proofs.rows.blank_rows.Goals as goal

pub loop-slot-preserved : goal.loop-slot-preserved
loop-slot-preserved c =
    let rows = c.loop-slot.rows.items in
    let slot = c.loop-slot.slot in
    let is = c.loop-slot.invariant in
    let more = c.in_ok-push.ensures.items in
    let row = c.in_ok-row.row in
    let zeros : ℕ → List ℕ = λ n. replicate (length_in c.args.places.now (n / 16) (n % 16)) 0 in
    let here = get_or_push rows row [] slot is.count ∙ c.in_ok-row.ensures ∙ ap (λ (n : ℕ). replicate n 0) c.length_in-length.ensures.length in
    record {
      count = ap length more ∙ length_push rows row ∙ ap (λ (n : ℕ). n + 1) is.count;
      zeros =
          subst (λ (all : Bytes). (n : ℕ) → n < slot + 1 → get_or all n [] ≡ zeros n) (sym more)
          (below_more (λ (n : ℕ). get_or (rows ++ row ∷ []) n [] ≡ zeros n) slot
          (λ n low. get_or_append_left rows (row ∷ []) [] n (omega (arith, is.count, low)) ∙ is.zeros n low) here);
    }
