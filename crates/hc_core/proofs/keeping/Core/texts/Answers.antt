use Rattle.std.proofs.Common.{◌∙◌, ◌∷◌, ◌++◌, [], List, ℕ, ap, map, sym, take}
use Rattle.std.proofs.lemmas.List.{map_more, take_all}
use Rattle.hc_events.specs.Sendings.{Frame}
use Rattle.hc_events.specs.Steps.{sent_text}
use Rattle.hc_core.proofs.keeping.Core.texts.Goals as goal

pub loop-frame-preserved : goal.loop-frame-preserved
loop-frame-preserved c =
    let history = c.args.self.now.history in
    let frames = c.args.frames.now in
    let frame = c.frame-item.result in
    let i = c.loop-frame.frame-index in
    let before = map (sent_text history) (take i frames) in
    c.in_ok-push.ensures.items
    ∙ ap (λ (texts : List (List ℕ)). texts ++ c.in_ok-text.field-0 ∷ []) c.loop-frame.invariant
    ∙ ap (λ (text : List ℕ). before ++ text ∷ []) c.in_ok-text.ensures
    ∙ sym (map_more (sent_text history) frames i frame c.loop-frame-test.true ∙ ap (λ (one : Frame). before ++ sent_text history one ∷ []) (sym c.frame-item.is))

pub returns : goal.returns
returns c = c.of.ensures ∙ rw (take_all c.loop-frame.frame-index c.args.frames.now c.loop-frame-test.false) at c.loop-frame.invariant
