use Rattle.std.proofs.Common.{arith, ap, ◌∙◌, sym, List, ℕ, ◌++◌, ◌∷◌, []}
use Rattle.std.proofs.lemmas.List.FromFn.{map-range_with_len_more}
use Rattle.hc_segment.specs.Setup.{alias_frame, alias_frames}
use Rattle.hc_segment.proofs.setup.alias_frames.Goals as goal

pub loop-position-preserved : goal.loop-position-preserved
loop-position-preserved c =
    let position = c.loop-position.position in
    c.in_ok-push.ensures.items
    ∙ ap (λ (frames : List (List ℕ)). frames ++ c.in_ok-alias_frame.field-0 ∷ []) c.loop-position.invariant
    ∙ ap (λ (frame : List ℕ). alias_frames position ++ frame ∷ []) c.in_ok-alias_frame.ensures
    ∙ sym (map-range_with_len_more alias_frame 0 position position (omega arith))
