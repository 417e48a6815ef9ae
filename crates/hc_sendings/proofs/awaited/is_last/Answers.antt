use Rattle.std.proofs.Common.{◌≡◌, ◌∙◌, ◌-◌, ◌<◌, ◌==◌, ℕ, zero, suc, false, List, ap, arith, sym, length}
use Rattle.std.proofs.lemmas.Bool.{eqb-true}
use Rattle.std.proofs.lemmas.List.{get_or_default}
use Rattle.hc_sendings.specs.Stored.{StoredFrame}
use Rattle.hc_sendings.proofs.awaited.is_last.Goals as goal

some_are : (n : ℕ) → (n == 0) ≡ false → 0 < n
some_are zero e = cc
some_are (suc n) e = omega arith

pub returns : goal.returns
returns c = λ same.
    let frames : List StoredFrame = c.args.frames.now in
    let last : StoredFrame = c.index-frames-frames.result in
    let some = some_are (length frames) (sym c.is_empty.ensures ∙ c.if-is_empty.false) in
    record {
      some = some;
      has_it = λ d.
          ap (λ (one : StoredFrame). one.serial) (get_or_default frames (length frames - 1) d last (omega (arith, some)) ∙ sym c.index-frames-frames.is)
          ∙ sym c.serial.ensures
          ∙ eqb-true c.serial.result c.args.serial same;
    }
