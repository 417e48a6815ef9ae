-- After the head of a frame of the least size all is zero before its datagrams are written; a longer frame ends with them.
use Rattle.std.proofs.Common.{◌≡◌, ◌∙◌, ◌+◌, ◌-◌, ◌≤◌, ◌<◌, nat_lt, ℕ, List, drop, length, replicate, ap, arith, ltb-true, ltb-false}
use Rattle.std.proofs.lemmas.List.{drop-replicate, drop_all}
use Rattle.hc_records.proofs.lemmas.Choices.{by_bool}
use Rattle.hc_frames.specs.FrameText.{padding}
use Rattle.hc_frames.specs.Sizes.{frame_bytes}

pub cleared-padding : (rest cleared : List ℕ) (n : ℕ) → 16 + length rest ≡ frame_bytes n → length cleared ≡ length rest → (length rest ≡ 44 → cleared ≡ replicate 44 0) → drop n cleared ≡ padding n
cleared-padding rest cleared n exact same zeros =
    by_bool (nat_lt n 44)
    (λ t. let low : n < 44 = ltb-true n 44 t in
    let least : length rest ≡ 44 = omega (arith, low, exact) in
    let left : 44 - n ≡ 60 - (16 + n) = omega (arith, low) in
    ap (drop n) (zeros least) ∙ drop-replicate n 44 0 ∙ ap (λ (count : ℕ). replicate count 0) left)
    (λ t. let high : 44 ≤ n = ltb-false n 44 t in
    let whole : length cleared ≤ n = omega (arith, high, exact, same) in
    let none : 0 ≡ 60 - (16 + n) = omega (arith, high) in
    drop_all n cleared whole ∙ ap (λ (count : ℕ). replicate count 0) none)
