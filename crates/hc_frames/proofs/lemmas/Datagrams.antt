-- The datagrams that are in some bytes, step by step.
use Rattle.std.proofs.Common.{◌≡◌, ℕ, zero, suc, ◌+◌, ◌<◌, ◌≤◌, true, ◌&&◌, List, [], ◌∷◌, length, drop, map, refl, ap, ◌∙◌, sym, arith, length-drop}
use Rattle.std.specs.List.{list_all}
use Rattle.std.proofs.lemmas.Grind.{common_steps}
use Rattle.std.proofs.lemmas.Bool.Decides.{nat_tests}
use Rattle.std.proofs.lemmas.Bool.{and_parts}
use Rattle.hc_frames.specs.Arrived.{ArrivedDatagram, datagram_carried, data_size, datagram_tails, is_whole, placed_from, starts_within}

-- as many steps as there are bytes are enough
enough : (n m : ℕ) (bytes : List ℕ) → length bytes ≤ n → length bytes ≤ m → starts_within n bytes ≡ starts_within m bytes
unfolding starts_within
enough zero zero bytes a b = refl
enough zero (suc m) [] a b = refl
enough zero (suc m) (x ∷ bytes) a b = absurd (omega arith)
enough (suc n) zero [] a b = refl
enough (suc n) zero (x ∷ bytes) a b = absurd (omega arith)
enough (suc n) (suc m) [] a b = refl
enough (suc n) (suc m) (x ∷ bytes) a b =
    let after_it : List ℕ = drop (12 + data_size (x ∷ bytes)) (x ∷ bytes) in
    let shorter : length after_it ≤ length bytes = omega (arith, length-drop (12 + data_size (x ∷ bytes)) (x ∷ bytes)) in
    ap (λ (ds : List (List ℕ)). (x ∷ bytes) ∷ ds) (enough n m after_it (omega arith) (omega arith))

pub datagrams-none : (bytes : List ℕ) → length bytes ≡ 0 → datagram_tails bytes ≡ []
unfolding starts_within
datagrams-none [] e = refl
datagrams-none (x ∷ bytes) e = absurd (omega arith)

pub datagrams-some : (bytes : List ℕ) → 0 < length bytes → datagram_tails bytes ≡ bytes ∷ datagram_tails (drop (12 + data_size bytes) bytes)
unfolding starts_within
datagrams-some [] some = absurd (omega arith)
datagrams-some (x ∷ bytes) some =
    let after_it : List ℕ = drop (12 + data_size (x ∷ bytes)) (x ∷ bytes) in
    let shorter : length after_it ≤ length bytes = omega (arith, length-drop (12 + data_size (x ∷ bytes)) (x ∷ bytes)) in
    enough (length (x ∷ bytes)) (suc (length bytes)) (x ∷ bytes) (omega arith) (omega arith)
    ∙ ap (λ (ds : List (List ℕ)). (x ∷ bytes) ∷ ds) (enough (length bytes) (length after_it) after_it (omega arith) (omega arith))

pub whole-long : (bytes : List ℕ) → is_whole bytes ≡ true → 12 + data_size bytes ≤ length bytes
whole-long bytes whole = grind (arith, nat_tests)

-- the data of a whole datagram
pub carried-length : (bytes : List ℕ) → is_whole bytes ≡ true → length (datagram_carried bytes).bytes ≡ data_size bytes
carried-length bytes whole = let long : 12 + data_size bytes ≤ length bytes = whole-long bytes whole in grind (arith, common_steps)

-- of whole datagrams the first one is, and the others are
pub first-whole : (bytes : List ℕ) → 0 < length bytes → list_all is_whole (datagram_tails bytes) ≡ true
    → (is_whole bytes ≡ true) × (list_all is_whole (datagram_tails (drop (12 + data_size bytes) bytes)) ≡ true)
first-whole bytes some whole =
    and_parts (is_whole bytes) (list_all is_whole (datagram_tails (drop (12 + data_size bytes) bytes))) (sym (ap (list_all is_whole) (datagrams-some bytes some)) ∙ whole)

pub placed-some : (start : ℕ) (bytes : List ℕ) → 0 < length bytes → is_whole bytes ≡ true
    → placed_from start (map datagram_carried (datagram_tails bytes)) ≡ record { start = start; carried = datagram_carried bytes } ∷ placed_from (start + (12 + data_size bytes)) (map datagram_carried (datagram_tails (drop (12 + data_size bytes) bytes)))
placed-some start bytes some whole =
    let after_it : List ℕ = drop (12 + data_size bytes) bytes in
    let here : ArrivedDatagram = record { start = start; carried = datagram_carried bytes } in
    ap (λ (ds : List (List ℕ)). placed_from start (map datagram_carried ds)) (datagrams-some bytes some)
    ∙ ap (λ (n : ℕ). here ∷ placed_from (start + (12 + n)) (map datagram_carried (datagram_tails after_it))) (carried-length bytes whole)
