-- A frame through a front of the machines of a wire, machine by machine.
use Rattle.std.proofs.Common.{◌≡◌, ℕ, zero, suc, ◌*◌, ◌≤◌, ◌∙◌, List, [], ◌∷◌, ◌++◌, drop, length, map, take, refl, sym, ap, subst, arith}
use Rattle.std.specs.Prelude.{All, Contains, Some, slice_get}
use Rattle.std.specs.List.{AllZip}
use Rattle.std.proofs.lemmas.List.Elements.{All-cons, All-head, All-nil, All-tail}
use Rattle.hc_frames.specs.FrameText.{frame_text, lrw, sent_on_wire}
use Rattle.hc_frames.specs.Laws.{CanBeCarried}
use Rattle.hc_machine.specs.Logical.{logical_data, logical_memory}
use Rattle.hc_machine.proofs.lemmas.Memories.{length-data}
use Rattle.hc_records.proofs.lemmas.Choices.{contains-first, contains-later}
use Rattle.hc_segment.specs.Line.{machines_after_frame}
use Rattle.hc_exchange.specs.Carrying.{memories_after}
use Rattle.hc_exchange.specs.FrameLaws.{Addressed, logical_of}
use Rattle.hc_exchange.specs.Runs.{after_front, with_memories}
use Rattle.hc_exchange.specs.Sequences.{all_after_frames}
use Rattle.hc_exchange.specs.Wire.{InLine, Outside, WireMachine, line_machines, wire_machines}
use Rattle.hc_exchange.proofs.lemmas.Frames.{shared-pass}

-- lists place by place

pub zip-same : {X : Type 0} (R : X → X → Type 0) (xs : List X) → ((x : X) → R x x) → AllZip R xs xs
zip-same R [] same = tt
zip-same R (x ∷ xs) same = (same x, zip-same R xs same)

pub zip-at : {X Y : Type 0} (R : X → Y → Type 0) (xs : List X) (ys : List Y) (k : ℕ) (y : Y) → AllZip R xs ys → slice_get ys k ≡ Some y → (x : X) × (slice_get xs k ≡ Some x) × R x y
zip-at R [] [] k y all is = cc
zip-at R [] (z ∷ ys) k y all is = absurd all
zip-at R (x ∷ xs) [] k y all is = absurd all
zip-at R (x ∷ xs) (z ∷ ys) zero y all is = let one : z ≡ y = cc in (x, refl, subst (R x) one all.0)
zip-at R (x ∷ xs) (z ∷ ys) (suc k) y all is = zip-at R xs ys k y all.1 is

pub zip-length : {X Y : Type 0} (R : X → Y → Type 0) (xs : List X) (ys : List Y) → AllZip R xs ys → length ys ≡ length xs
zip-length R [] [] all = refl
zip-length R [] (y ∷ ys) all = absurd all
zip-length R (x ∷ xs) [] all = absurd all
zip-length R (x ∷ xs) (y ∷ ys) all = ap suc (zip-length R xs ys all.1)

-- the first ones so, the others otherwise
pub zip-front : {X Y : Type 0} (R : X → Y → Type 0) (n : ℕ) (xs : List X) (front rest : List Y) → AllZip R (take n xs) front → AllZip R (drop n xs) rest → AllZip R xs (front ++ rest)
zip-front R zero xs [] rest all others = others
zip-front R zero xs (y ∷ front) rest all others = absurd all
zip-front R (suc n) [] [] rest all others = others
zip-front R (suc n) [] (y ∷ front) rest all others = absurd all
zip-front R (suc n) (x ∷ xs) [] rest all others = absurd all
zip-front R (suc n) (x ∷ xs) (y ∷ front) rest all others = (all.0, zip-front R n xs front rest all.1 others)

pub zip-map : {X : Type 0} (R : X → X → Type 0) (f : X → X) (xs : List X) → ((x : X) → R x (f x)) → AllZip R xs (map f xs)
zip-map R f [] each = tt
zip-map R f (x ∷ xs) each = (each x, zip-map R f xs each)

pub all-take : {X : Type 0} (P : X → Type 0) (n : ℕ) (xs : List X) → All P xs → All P (take n xs)
all-take P zero xs all = All-nil P
all-take P (suc n) [] all = All-nil P
all-take P (suc n) (x ∷ xs) all = All-cons P x (take n xs) (All-head P x xs all) (all-take P n xs (All-tail P x xs all))

pub drop-none : {X : Type 0} (n : ℕ) (xs : List X) → length xs ≤ n → drop n xs ≡ []
drop-none zero [] all = refl
drop-none zero (x ∷ xs) all = absurd (omega arith)
drop-none (suc n) [] all = refl
drop-none (suc n) (x ∷ xs) all = drop-none n xs (omega arith)

-- the machines of the line among all on the wire

pub line-zip : (R : List ℕ → List ℕ → Type 0) (wire : List WireMachine) (memories : List (List ℕ)) → AllZip R (wire_machines wire) memories → AllZip R (line_machines wire) (line_machines (with_memories wire memories))
line-zip R [] [] all = tt
line-zip R [] (m ∷ ms) all = absurd all
line-zip R (InLine memory ∷ wire) [] all = absurd all
line-zip R (InLine memory ∷ wire) (m ∷ ms) all = (all.0, line-zip R wire ms all.1)
line-zip R (Outside memory ∷ wire) [] all = absurd all
line-zip R (Outside memory ∷ wire) (m ∷ ms) all = line-zip R wire ms all.1

-- logical datagrams: what each of them keeps of a machine, as it was and as it is, their frame keeps

module _ (P : List ℕ → List ℕ → Type 0) where
  after-one : (ms xs : List (List ℕ)) (from : ℕ) (bytes : List ℕ) → ((m x bytes' : List ℕ) → length bytes' ≡ length bytes → P m x → P m (logical_memory x from bytes')) → AllZip P ms xs
      → AllZip P ms (memories_after xs from bytes)
  after-one [] [] from bytes stable all = tt
  after-one [] (x ∷ xs) from bytes stable all = absurd all
  after-one (m ∷ ms) [] from bytes stable all = absurd all
  after-one (m ∷ ms) (x ∷ xs) from bytes stable all = (
    stable m x bytes refl all.0,
    after-one ms xs from (logical_data x from bytes) (λ m' x' bytes' long. stable m' x' bytes' (long ∙ length-data x bytes from)) all.1,
  )

  after-all : (ms xs : List (List ℕ)) (ds : List Addressed)
      → ((d : Addressed) (m x bytes : List ℕ) → Contains ds d → length bytes ≡ length d.bytes → P m x → P m (logical_memory x (8 * d.address) bytes)) → AllZip P ms xs
      → AllZip P ms (all_after_frames xs (map logical_of ds))
  after-all ms xs [] stable all = all
  after-all ms xs (d ∷ ds) stable all =
      after-all ms (memories_after xs (8 * d.address) d.bytes) ds (λ e m x bytes has. stable e m x bytes (contains-later d e ds has))
      (after-one ms xs (8 * d.address) d.bytes (λ m x bytes long. stable d m x bytes (contains-first d ds) long) all)

  pub logical-front : (n serial : ℕ) (machines : List (List ℕ)) (ds : List Addressed) → All (λ m. length m ≡ 12288) machines → CanBeCarried serial (map (λ d. sent_on_wire (lrw d.address d.bytes)) ds)
      → ((d : Addressed) (m x bytes : List ℕ) → Contains ds d → length bytes ≡ length d.bytes → P m x → P m (logical_memory x (8 * d.address) bytes)) → ((m : List ℕ) → P m m)
      → AllZip P machines (after_front n (frame_text serial (map (λ d. lrw d.address d.bytes) ds)) machines)
  logical-front n serial machines ds long can stable same =
      let front = take n machines in
      let passes = shared-pass front serial ds (all-take (λ m. length m ≡ 12288) n machines long) can in
      zip-front P n machines (machines_after_frame front (frame_text serial (map (λ (d : Addressed). lrw d.address d.bytes) ds))) (drop n machines)
      (subst (AllZip P front) (sym passes.memories) (after-all front front ds stable (zip-same P front same))) (zip-same P (drop n machines) same)
