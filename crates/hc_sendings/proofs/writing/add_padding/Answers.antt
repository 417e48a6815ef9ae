use Rattle.std.proofs.Common.{◌≡◌, ◌∙◌, ◌+◌, ◌-◌, ◌++◌, ℕ, ap, append-nil, arith, replicate, sym, take}
use Rattle.std.proofs.lemmas.List.{take-replicate}
use Rattle.hc_sendings.specs.Parts.{padding_bytes}
use Rattle.hc_sendings.proofs.Pieces.{added}
use Rattle.hc_sendings.proofs.writing.add_padding.Goals as goal

pub returns-then-zeros-eq0 : goal.returns-then-zeros-eq0
returns-then-zeros-eq0 c =
    let text = c.args.text.now.items in
    let left : c.saturating_sub-zeros.result ≡ padding_bytes c.args.size = c.saturating_sub-zeros.ensures ∙ ap (λ (n : ℕ). n - (16 + c.args.size)) c.from.ensures in
    sym (append-nil text) ∙ ap (λ (n : ℕ). text ++ replicate n 0) (sym c.if-zeros-eq0.true ∙ left)

pub returns : goal.returns
returns c =
    let size = c.args.size in
    let left : c.saturating_sub-zeros.result ≡ padding_bytes size = c.saturating_sub-zeros.ensures ∙ ap (λ (n : ℕ). n - (16 + size)) c.from.ensures in
    let zeros : take c.saturating_sub-zeros.result (replicate 44 0) ≡ replicate (padding_bytes size) 0 =
    ap (λ (n : ℕ). take n (replicate 44 0)) left ∙ take-replicate (padding_bytes size) 44 0 (omega arith) in
    added c.extend_from_slice.result c.extend_from_slice.new.self.items c.args.text.now.items (take c.saturating_sub-zeros.result (replicate 44 0)) (replicate (padding_bytes size) 0) c.extend_from_slice.ensures.items zeros
