-- Zeros that are taken of many are zeros.
use Rattle.std.proofs.Common.{◌≡◌, ◌≤◌, ℕ, replicate, take, length}
use Rattle.std.proofs.lemmas.List.{length-replicate, take-replicate}

pub zeros_taken : (n most : ℕ) → n ≤ most → take {A = ℕ} n (replicate most 0) ≡ replicate n 0
zeros_taken n most few = take-replicate n most 0 few

pub zeros_long : (n : ℕ) → length {A = ℕ} (replicate n 0) ≡ n
zeros_long n = length-replicate n 0
