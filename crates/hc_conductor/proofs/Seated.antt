-- Seats by their places.
use Rattle.std.proofs.Common.{◌≡◌, ℕ, zero, suc, ◌<◌, List, [], ◌∷◌, ◌++◌, length, map, get_or, set, replicate, refl, sym, ap, ◌∙◌, arith, drop, None}
use Rattle.std.specs.Prelude.{All}
use Rattle.std.specs.List.{range_with_len}
use Rattle.std.proofs.lemmas.List.{get_or-map, get_or-replicate, get_or-set_same, length-map, length-replicate, length-set}
use Rattle.std.proofs.lemmas.List.Elements.{All-head, All-tail}
use Rattle.std.proofs.lemmas.List.FromFn.{get_or-range_with_len, length-range_with_len}
use Rattle.hc_rings.specs.declared.posts.PostReceiver.{PostReceiver}
use Rattle.hc_rings.specs.declared.posts.PostSender.{PostSender}
use Rattle.hc_rings.specs.Post.{Post}
use Rattle.hc_rings.specs.Ring.{posted, taken}
use Rattle.hc_publish.specs.Seats.{SeatIsAtOpening}
use Rattle.hc_publish.specs.Stories.{Origin}
use Rattle.hc_conductor.specs.declared.seat.TaskSeat.{TaskSeat}
use Rattle.hc_conductor.specs.Openings.{IsUnused}
use Rattle.hc_conductor.specs.Seats as seats
use Rattle.hc_conductor.specs.Seats.{seat_known, seat_of, task_seat_origin, sender}
use Rattle.hc_conductor.specs.Together.{EachRing, LostNoBuffer, posts_waiting, waiting_between}

-- what is the same of each, is so of one
pub each-at : {A B : Type 0} (f : A → B) (xs : List A) (n : ℕ) (b : B) (i : ℕ) (d : A) → map f xs ≡ replicate n b → i < n → f (get_or xs i d) ≡ b
each-at f xs n b i d same low =
    let long : length xs ≡ n = sym (length-map xs f) ∙ (ap length same ∙ length-replicate n b) in
    sym (get_or-map f xs i d (f d) (omega arith)) ∙ (ap (λ ys. get_or ys i (f d)) same ∙ get_or-replicate n i b (f d) low)

pub number-at : {A : Type 0} (f : A → ℕ) (xs : List A) (n i : ℕ) (d : A) → map f xs ≡ range_with_len 0 n → i < n → f (get_or xs i d) ≡ i
number-at f xs n i d same low =
    let long : length xs ≡ n = sym (length-map xs f) ∙ (ap length same ∙ length-range_with_len 0 n) in
    sym (get_or-map f xs i d 0 (omega arith)) ∙ (ap (λ ys. get_or ys i 0) same ∙ (get_or-range_with_len 0 n i 0 low ∙ omega arith))

-- what is seen of one that is put in its place
pub seen-at : {A : Type 0} (f : A → ℕ) (xs : List A) (i : ℕ) (x : A) → i < length xs → get_or (map f (set xs i x)) i 0 ≡ f x
seen-at f xs i x low = get_or-map f (set xs i x) i x 0 (omega (arith, length-set xs i x)) ∙ ap f (get_or-set_same xs i x x low)

-- ---- rings by their places

pub as-many-waiting : (P : PostSender → PostReceiver → Type 0) (ss : List PostSender) (rs : List PostReceiver) → EachRing P ss rs → length (posts_waiting ss rs) ≡ length ss
as-many-waiting P [] [] each = refl
as-many-waiting P (s ∷ ss) (r ∷ rs) each = ap suc (as-many-waiting P ss rs each.1)
as-many-waiting P [] (r ∷ rs) each = absurd each
as-many-waiting P (s ∷ ss) [] each = absurd each

-- ---- seats that stay as they are

pub map-twice : {A B C : Type 0} (f : B → C) (g : A → B) (xs : List A) → map f (map g xs) ≡ map (λ x. f (g x)) xs
map-twice f g [] = refl
map-twice f g (x ∷ xs) = ap (λ ys. f (g x) ∷ ys) (map-twice f g xs)

-- one that is the same of each is so of what is seen of each
pub seen-alike : {A B C : Type 0} (f : B → C) (g : A → B) (xs ys : List A) → map g ys ≡ map g xs → map (λ x. f (g x)) ys ≡ map (λ x. f (g x)) xs
seen-alike f g xs ys same = sym (map-twice f g ys) ∙ (ap (λ zs. map f zs) same ∙ map-twice f g xs)

pub all-empty : (xs : List (List Post)) → All (λ ps. ps ≡ []) xs → xs ≡ replicate (length xs) []
all-empty [] all = refl
all-empty (x ∷ xs) all =
    ap (λ y. y ∷ xs) (All-head (λ (ps : List Post). ps ≡ []) x xs all) ∙ ap (λ ys. [] ∷ ys) (all-empty xs (All-tail (λ (ps : List Post). ps ≡ []) x xs all))

-- ---- seats that were opened

pub fresh-known : (o : Origin) (ss : List TaskSeat) → All (SeatIsAtOpening o) (map seat_of ss) → map seat_known ss ≡ replicate (length ss) []
fresh-known o [] all = refl
fresh-known o (s ∷ ss) all =
    ap (λ l. l ∷ map seat_known ss) (All-head (SeatIsAtOpening o) (seat_of s) (map seat_of ss) all).0 ∙ ap (λ ls. [] ∷ ls) (fresh-known o ss (All-tail (SeatIsAtOpening o) (seat_of s) (map seat_of ss) all))

pub fresh-origins : (o : Origin) (ss : List TaskSeat) → All (SeatIsAtOpening o) (map seat_of ss) → map task_seat_origin ss ≡ replicate (length ss) o
fresh-origins o [] all = refl
fresh-origins o (s ∷ ss) all =
    ap (λ l. l ∷ map task_seat_origin ss) (All-head (SeatIsAtOpening o) (seat_of s) (map seat_of ss) all).1 ∙ ap (λ ls. o ∷ ls) (fresh-origins o ss (All-tail (SeatIsAtOpening o) (seat_of s) (map seat_of ss) all))

pub unused-held : (ss : List TaskSeat) → All IsUnused (map sender ss) → map seats.seat_held ss ≡ replicate (length ss) None
unused-held [] all = refl
unused-held (s ∷ ss) all =
    ap (λ l. l ∷ map seats.seat_held ss) (All-head IsUnused (sender s) (map sender ss) all).1 ∙ ap (λ ls. None ∷ ls) (unused-held ss (All-tail IsUnused (sender s) (map sender ss) all))

drop_none : (n : ℕ) (xs : List Post) → xs ≡ [] → drop n xs ≡ []
drop_none zero xs e = e
drop_none (suc n) [] e = refl
drop_none (suc n) (x ∷ xs) e = absurd (cc)

pub unused-waiting : (ss : List PostSender) (rs : List PostReceiver) → EachRing LostNoBuffer ss rs → All IsUnused ss → posts_waiting ss rs ≡ replicate (length ss) []
unused-waiting [] rs each all = refl
unused-waiting (s ∷ ss) [] each all = absurd each
unused-waiting (s ∷ ss) (r ∷ rs) each all =
    let none : waiting_between s r ≡ [] = drop_none (length (taken r)) (posted s) (All-head IsUnused s ss all).0 in
    ap (λ (ps : List Post). ps ∷ posts_waiting ss rs) none ∙ ap (λ (pss : List (List Post)). [] ∷ pss) (unused-waiting ss rs each.1 (All-tail IsUnused s ss all))
