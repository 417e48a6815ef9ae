-- A readable frame is the spelling of what it gives.
use Rattle.std.proofs.Common.{◌≡◌, ◌==◌, ℕ, zero, suc, ◌+◌, ◌*◌, ◌/◌, ◌%◌, ◌<◌, ◌≤◌, Bool, true, false, ◌&&◌, ◌||◌, not, All, nat_le, List, [], ◌∷◌, ◌++◌, length, take, drop, map, get_or, refl, sym, ap, ◌∙◌, subst, append-nil, arith, length-drop, unwrap_or, is_none, ltb-false, ltb-true}
use Rattle.std.specs.Prelude.{slice_index}
use Rattle.std.specs.List.{list_all, list_any}
use Rattle.std.specs.Int.{w16, to_le_bytes}
use Rattle.std.proofs.lemmas.List.{get_or-drop, get_or-take, length-map, length-take, take-append-drop}
use Rattle.hc_frames.specs.Sizes.{text_size}
use Rattle.hc_frames.proofs.Faults.{Clear, clear_of}
use Rattle.std.proofs.lemmas.List.Elements.{All-cons}
use Rattle.std.proofs.lemmas.Bool.Decides.{nat_tests}
use Rattle.std.proofs.lemmas.Bool.{and_parts, not-false, or_parts, eqb-true}
use Rattle.std.proofs.lemmas.Grind.{common_steps}
use Rattle.hc_records.proofs.lemmas.Choices.{by_bool}
use Rattle.hc_frames.specs.declared.commands.Command.TheVariants.{Lrw}
use Rattle.hc_frames.specs.Commands.{code_of, command_of}
use Rattle.hc_frames.specs.FrameText.{WireDatagram, head_to, carried_text, carried_texts, length_field}
use Rattle.hc_frames.specs.Arrived.{datagram_carried, circulates, data_size, datagram_bytes, datagram_tails, is_not_ethercat, region, serial_in, has_other_index, is_unknown, is_whole, more_at_end, more_between, says_more, word_at}
use Rattle.hc_frames.specs.Laws.{ReadableFramesAreCarried}
use Rattle.hc_frames.specs.Returned.{FitsLine}
use Rattle.hc_frames.proofs.lemmas.Datagrams.{carried-length, datagrams-none, datagrams-some, whole-long}
use Rattle.hc_frames.proofs.lemmas.Opening.{drop_twice}
use Rattle.hc_frames.proofs.lemmas.Texts.{carried-cut, length-carried_texts}

-- a list of ten and more
by_ten : (P : List ℕ → Type 0) → ((a b c d e f g h i j : ℕ) (xs : List ℕ) → P (a ∷ b ∷ c ∷ d ∷ e ∷ f ∷ g ∷ h ∷ i ∷ j ∷ xs)) → (xs : List ℕ) → 10 ≤ length xs → P xs
by_ten P each [] long = absurd (omega arith)
by_ten P each (a ∷ []) long = absurd (omega arith)
by_ten P each (a ∷ b ∷ []) long = absurd (omega arith)
by_ten P each (a ∷ b ∷ c ∷ []) long = absurd (omega arith)
by_ten P each (a ∷ b ∷ c ∷ d ∷ []) long = absurd (omega arith)
by_ten P each (a ∷ b ∷ c ∷ d ∷ e ∷ []) long = absurd (omega arith)
by_ten P each (a ∷ b ∷ c ∷ d ∷ e ∷ f ∷ []) long = absurd (omega arith)
by_ten P each (a ∷ b ∷ c ∷ d ∷ e ∷ f ∷ g ∷ []) long = absurd (omega arith)
by_ten P each (a ∷ b ∷ c ∷ d ∷ e ∷ f ∷ g ∷ h ∷ []) long = absurd (omega arith)
by_ten P each (a ∷ b ∷ c ∷ d ∷ e ∷ f ∷ g ∷ h ∷ i ∷ []) long = absurd (omega arith)
by_ten P each (a ∷ b ∷ c ∷ d ∷ e ∷ f ∷ g ∷ h ∷ i ∷ j ∷ xs) long = each a b c d e f g h i j xs

unequal_not : (m n : ℕ) → not (m == n) ≡ false → m ≡ n
unequal_not m n e = by_bool (m == n) (λ t. eqb-true m n t) (λ f. let wrong : true ≡ false = rw f at e in absurd (cc))

code_back : (n : ℕ) → is_none (command_of n) ≡ false → code_of (unwrap_or (command_of n) Lrw) ≡ n
code_back n known =
    by_bool (n == 1) (λ a. rw a (sym (eqb-true n 1 a)))
    (λ a. by_bool (n == 2) (λ b. rw (a, b) (sym (eqb-true n 2 b)))
    (λ b. by_bool (n == 5) (λ c. rw (a, b, c) (sym (eqb-true n 5 c)))
    (λ c. by_bool (n == 12) (λ d. rw (a, b, c, d) (sym (eqb-true n 12 d)))
    (λ d. let wrong : true ≡ false = rw (a, b, c, d) at known in absurd (cc)))))

-- numbers in bytes
low_byte : (a b : ℕ) → a < 256 → b < 256 → (a + 256 * b) % 256 ≡ a
low_byte a b a' b' = omega arith

high_byte : (a b : ℕ) → a < 256 → b < 256 → (a + 256 * b) / 256 % 256 ≡ b
high_byte a b a' b' = omega arith

byte_0 : (a b c d : ℕ) → a < 256 → b < 256 → c < 256 → d < 256 → (a + 256 * b + 65536 * (c + 256 * d)) % 256 ≡ a
byte_0 a b c d a' b' c' d' = omega arith

byte_1 : (a b c d : ℕ) → a < 256 → b < 256 → c < 256 → d < 256 → (a + 256 * b + 65536 * (c + 256 * d)) / 256 % 256 ≡ b
byte_1 a b c d a' b' c' d' = omega arith

byte_2 : (a b c d : ℕ) → a < 256 → b < 256 → c < 256 → d < 256 → (a + 256 * b + 65536 * (c + 256 * d)) / 65536 % 256 ≡ c
byte_2 a b c d a' b' c' d' = omega arith

byte_3 : (a b c d : ℕ) → a < 256 → b < 256 → c < 256 → d < 256 → (a + 256 * b + 65536 * (c + 256 * d)) / 16777216 % 256 ≡ d
byte_3 a b c d a' b' c' d' = omega arith

field_back : (n : ℕ) (more : Bool) → n < 65536 → n / 2048 % 8 ≡ 0 → (n / 16384 % 2 == 1) ≡ false → nat_le 32768 n ≡ more → length_field (n % 2048) more ≡ n
field_back n true low spare turn much = let many : 32768 ≤ n = grind (arith, nat_tests) in let even : n / 16384 % 2 ≡ 0 = even_of (n / 16384) turn in omega arith
  where
    even_of : (k : ℕ) → (k % 2 == 1) ≡ false → k % 2 ≡ 0
    even_of k e = grind (arith, nat_tests)
field_back n false low spare turn much = let few : n < 32768 = grind (arith, nat_tests) in let even : n / 16384 % 2 ≡ 0 = even_of (n / 16384) turn in omega arith
  where
    even_of : (k : ℕ) → (k % 2 == 1) ≡ false → k % 2 ≡ 0
    even_of k e = grind (arith, nat_tests)

-- ten bytes and what follows them
ten_same : (a b c d e f g h i j a2 b2 c2 d2 e2 f2 g2 h2 i2 j2 : ℕ) (xs ys : List ℕ) → a ≡ a2 → b ≡ b2 → c ≡ c2 → d ≡ d2 → e ≡ e2 → f ≡ f2 → g ≡ g2 → h ≡ h2 → i ≡ i2 → j ≡ j2 → xs ≡ ys
    → (a ∷ b ∷ c ∷ d ∷ e ∷ f ∷ g ∷ h ∷ i ∷ j ∷ xs) ≡ (a2 ∷ b2 ∷ c2 ∷ d2 ∷ e2 ∷ f2 ∷ g2 ∷ h2 ∷ i2 ∷ j2 ∷ ys)
ten_same a b c d e f g h i j a2 b2 c2 d2 e2 f2 g2 h2 i2 j2 xs ys p q r s t u v w x y z = cc

two_spelled : (t : List ℕ) → 2 ≤ length t → slice_index t 0 < 256 → slice_index t 1 < 256 → to_le_bytes w16 (slice_index t 0 + 256 * slice_index t 1) ++ drop 2 t ≡ t
two_spelled t long a b = grind (arith, common_steps)

abbrev AllBytes : List ℕ → Type 0
AllBytes xs = All (λ b. b < 256) xs

-- the data and the counter of a whole datagram, and what follows them
tail_spelled : (bytes : List ℕ) → AllBytes bytes → is_whole bytes ≡ true
    → (datagram_carried bytes).bytes ++ (to_le_bytes w16 (datagram_carried bytes).counter ++ drop (12 + data_size bytes) bytes) ≡ drop 10 bytes
tail_spelled bytes all whole =
    let n : ℕ = data_size bytes in
    let t : List ℕ = drop (10 + n) bytes in
    let long : 12 + n ≤ length bytes = whole-long bytes whole in
    let two : 2 ≤ length t = omega (arith, length-drop (10 + n) bytes) in
    let first : slice_index t 0 ≡ slice_index bytes (10 + n) = get_or-drop (10 + n) bytes 0 0 ∙ ap (slice_index bytes) (omega arith) in
    let second : slice_index t 1 ≡ slice_index bytes (10 + n + 1) = get_or-drop (10 + n) bytes 1 0 in
    let low : slice_index bytes (10 + n) < 256 = all (10 + n) 0 (omega arith) in
    let high : slice_index bytes (10 + n + 1) < 256 = all (10 + n + 1) 0 (omega arith) in
    let low_t : slice_index t 0 < 256 = omega arith in
    let high_t : slice_index t 1 < 256 = omega arith in
    let rest : drop (12 + n) bytes ≡ drop 2 t = ap (λ (k : ℕ). drop k bytes) (omega arith) ∙ sym (drop_twice (10 + n) 2 bytes) in
    ap (λ (k : ℕ). take k (drop 10 bytes) ++ (to_le_bytes w16 (datagram_carried bytes).counter ++ drop (12 + n) bytes)) (omega arith)
    ∙ ap (λ (k : ℕ). take n (drop 10 bytes) ++ (to_le_bytes w16 (k + 256 * slice_index bytes (10 + n + 1)) ++ drop (12 + n) bytes)) (sym first)
    ∙ ap (λ (k : ℕ). take n (drop 10 bytes) ++ (to_le_bytes w16 (slice_index t 0 + 256 * k) ++ drop (12 + n) bytes)) (sym second)
    ∙ ap (λ (xs : List ℕ). take n (drop 10 bytes) ++ (to_le_bytes w16 (slice_index t 0 + 256 * slice_index t 1) ++ xs)) rest
    ∙ ap (λ (xs : List ℕ). take n (drop 10 bytes) ++ xs) (two_spelled t two low_t high_t ∙ sym (drop_twice 10 n bytes))
    ∙ take-append-drop n (drop 10 bytes)

spare_clear : (bytes : List ℕ) → is_whole bytes ≡ true → word_at bytes 6 / 2048 % 8 ≡ 0
spare_clear bytes whole = eqb-true _ 0 (and_parts _ _ (and_parts _ _ (and_parts _ _ whole).1).1).0

-- what a datagram at the front of some bytes has to meet
record Clean (serial : ℕ) (more : Bool) (bytes : List ℕ) : Type 0 where
  whole : is_whole bytes ≡ true
  turn : circulates bytes ≡ false
  known : is_unknown bytes ≡ false
  index : has_other_index (serial % 256) bytes ≡ false
  promise : says_more bytes ≡ more

abbrev Spelled : ℕ → Bool → List ℕ → Type 0
Spelled serial more bytes = carried_text serial more (datagram_carried bytes) ++ drop (12 + data_size bytes) bytes ≡ bytes

-- it is the text of what it carries
head_spelled : (serial : ℕ) (more : Bool) (bytes : List ℕ) → AllBytes bytes → Clean serial more bytes → Spelled serial more bytes
head_spelled serial more bytes all clean =
    let long : 12 + data_size bytes ≤ length bytes = whole-long bytes clean.whole in
    let P : List ℕ → Type 0 = λ xs. AllBytes xs → Clean serial more xs → Spelled serial more xs in
    by_ten P (λ a b c d e f g h i j xs all clean.
    let bytes : List ℕ = a ∷ b ∷ c ∷ d ∷ e ∷ f ∷ g ∷ h ∷ i ∷ j ∷ xs in
    let c' : c < 256 = all 2 0 (omega arith) in
    let d' : d < 256 = all 3 0 (omega arith) in
    let e' : e < 256 = all 4 0 (omega arith) in
    let f' : f < 256 = all 5 0 (omega arith) in
    let g' : g < 256 = all 6 0 (omega arith) in
    let h' : h < 256 = all 7 0 (omega arith) in
    let i' : i < 256 = all 8 0 (omega arith) in
    let j' : j < 256 = all 9 0 (omega arith) in
    let size : length (datagram_carried bytes).bytes ≡ (g + 256 * h) % 2048 = carried-length bytes clean.whole in
    let field : length_field (length (datagram_carried bytes).bytes) more ≡ g + 256 * h =
    ap (λ (n : ℕ). length_field n more) size ∙ field_back (g + 256 * h) more (omega arith) (spare_clear bytes clean.whole) clean.turn clean.promise in
    carried-cut serial more (datagram_carried bytes) (drop (12 + data_size bytes) bytes)
    ∙ ten_same _ _ _ _ _ _ _ _ _ _ a b c d e f g h i j _ xs
    (code_back a clean.known) (sym (unequal_not b (serial % 256) clean.index))
    (byte_0 c d e f c' d' e' f') (byte_1 c d e f c' d' e' f') (byte_2 c d e f c' d' e' f') (byte_3 c d e f c' d' e' f')
    (ap (λ (n : ℕ). n % 256) field ∙ low_byte g h g' h') (ap (λ (n : ℕ). n / 256 % 256) field ∙ high_byte g h g' h')
    (low_byte i j i' j') (high_byte i j i' j') (tail_spelled bytes all clean.whole))
    bytes (omega arith) all clean

-- its fields fit
word_low : (bytes : List ℕ) (at : ℕ) → AllBytes bytes → at + 1 < length bytes → word_at bytes at < 65536
word_low bytes at all inside =
    let low : slice_index bytes at < 256 = all at 0 (omega arith) in
    let high : slice_index bytes (at + 1) < 256 = all (at + 1) 0 inside in
    omega arith

head_fits : (bytes : List ℕ) → AllBytes bytes → is_whole bytes ≡ true → FitsLine (datagram_carried bytes)
head_fits bytes all whole =
    let long : 12 + data_size bytes ≤ length bytes = whole-long bytes whole in
    let size : length (datagram_carried bytes).bytes ≡ data_size bytes = carried-length bytes whole in
    let low : word_at bytes 2 < 65536 = word_low bytes 2 all (omega arith) in
    let high : word_at bytes 4 < 65536 = word_low bytes 4 all (omega arith) in
    let one : 1 ≤ data_size bytes = one_of (data_size bytes) (and_parts _ _ whole).0 in
    let most : data_size bytes ≤ 1486 = most_of (data_size bytes) (and_parts _ _ (and_parts _ _ whole).1).0 in
    record {
      address = omega arith;
      interrupt = word_low bytes 8 all (omega arith);
      counter = word_low bytes (10 + data_size bytes) all (omega arith);
      filled = omega arith;
      size = omega arith;
    }
  where
    one_of : (n : ℕ) → nat_le 1 n ≡ true → 1 ≤ n
    one_of n e = grind (arith, nat_tests)

    most_of : (n : ℕ) → nat_le n 1486 ≡ true → n ≤ 1486
    most_of n e = grind (arith, nat_tests)

-- what all datagrams have to meet
record AllClean (serial : ℕ) (ds : List (List ℕ)) : Type 0 where
  whole : list_all is_whole ds ≡ true
  between : more_between ds ≡ true
  end : more_at_end ds ≡ false
  turn : list_any circulates ds ≡ false
  known : list_any is_unknown ds ≡ false
  index : list_any (has_other_index (serial % 256)) ds ≡ false

last_clean : (serial : ℕ) (d : List ℕ) → AllClean serial (d ∷ []) → Clean serial false d
last_clean serial d clean = record {
  whole = (and_parts _ _ clean.whole).0;
  turn = (or_parts _ _ clean.turn).0;
  known = (or_parts _ _ clean.known).0;
  index = (or_parts _ _ clean.index).0;
  promise = clean.end;
}

first_clean : (serial : ℕ) (d e : List ℕ) (ds : List (List ℕ)) → AllClean serial (d ∷ e ∷ ds) → Clean serial true d
first_clean serial d e ds clean = record {
  whole = (and_parts _ _ clean.whole).0;
  turn = (or_parts _ _ clean.turn).0;
  known = (or_parts _ _ clean.known).0;
  index = (or_parts _ _ clean.index).0;
  promise = (and_parts _ _ clean.between).0;
}

others_clean : (serial : ℕ) (d e : List ℕ) (ds : List (List ℕ)) → AllClean serial (d ∷ e ∷ ds) → AllClean serial (e ∷ ds)
others_clean serial d e ds clean = record {
  whole = (and_parts _ _ clean.whole).1;
  between = (and_parts _ _ clean.between).1;
  end = clean.end;
  turn = (or_parts _ _ clean.turn).1;
  known = (or_parts _ _ clean.known).1;
  index = (or_parts _ _ clean.index).1;
}

record AnswerGiven (serial : ℕ) (bytes : List ℕ) (ds : List (List ℕ)) : Type 0 where
  text : carried_texts serial (map datagram_carried ds) ≡ bytes
  fits : All FitsLine (map datagram_carried ds)

fits_one : (d : WireDatagram) → FitsLine d → All FitsLine (d ∷ [])
fits_one d fits = All-cons FitsLine d [] fits (λ k e inside. absurd (omega arith))

bytes_after : (n : ℕ) (bytes : List ℕ) → AllBytes bytes → AllBytes (drop n bytes)
bytes_after n bytes all = λ k d inside.
    let there : get_or (drop n bytes) k d ≡ get_or bytes (n + k) d = get_or-drop n bytes k d in
    let within : n + k < length bytes = omega (arith, length-drop n bytes) in
    let low : get_or bytes (n + k) d < 256 = all (n + k) d within in
    omega arith

-- bytes that clean datagrams fill are their texts, one after another
answer_given : (n serial : ℕ) (bytes : List ℕ) → length bytes ≤ n → 0 < length bytes → AllBytes bytes → AllClean serial (datagram_tails bytes) → AnswerGiven serial bytes (datagram_tails bytes)
answer_given zero serial bytes short some all clean = absurd (omega arith)
answer_given (suc n) serial bytes short some all clean = step (λ (rest : List ℕ). answer_given n serial rest) (drop (12 + data_size bytes) bytes) refl
  where
    step : ((rest : List ℕ) → length rest ≤ n → 0 < length rest → AllBytes rest → AllClean serial (datagram_tails rest) → AnswerGiven serial rest (datagram_tails rest)) → (rest : List ℕ) → rest ≡ drop (12 + data_size bytes) bytes → AnswerGiven serial bytes (datagram_tails bytes)
    step others_answered [] e =
        let here : datagram_tails bytes ≡ bytes ∷ [] = datagrams-some bytes some ∙ ap (λ (xs : List ℕ). bytes ∷ datagram_tails xs) (sym e) ∙ ap (λ (ds : List (List ℕ)). bytes ∷ ds) (datagrams-none [] refl) in
        let Q : List (List ℕ) → Type 0 = AllClean serial in
        let one : Clean serial false bytes = last_clean serial bytes (subst Q here clean) in
        let R : List (List ℕ) → Type 0 = AnswerGiven serial bytes in
        subst R (sym here) (record {
          text = sym (append-nil (carried_text serial false (datagram_carried bytes))) ∙ ap (λ (xs : List ℕ). carried_text serial false (datagram_carried bytes) ++ xs) e ∙ head_spelled serial false bytes all one;
          fits = fits_one (datagram_carried bytes) (head_fits bytes all one.whole);
        })
    step others_answered (r ∷ rs) e =
        let rest : List ℕ = r ∷ rs in
        let after_it : List (List ℕ) = datagram_tails (drop (12 + data_size rest) rest) in
        let there : datagram_tails rest ≡ rest ∷ after_it = datagrams-some rest (omega arith) in
        let here : datagram_tails bytes ≡ bytes ∷ rest ∷ after_it = datagrams-some bytes some ∙ ap (λ (xs : List ℕ). bytes ∷ datagram_tails xs) (sym e) ∙ ap (λ (ds : List (List ℕ)). bytes ∷ ds) there in
        let Q : List (List ℕ) → Type 0 = AllClean serial in
        let both : AllClean serial (bytes ∷ rest ∷ after_it) = subst Q here clean in
        let one : Clean serial true bytes = first_clean serial bytes rest after_it both in
        let B : List ℕ → Type 0 = AllBytes in
        let others : AnswerGiven serial rest (datagram_tails rest) =
        others_answered rest (omega (arith, ap length e, length-drop (12 + data_size bytes) bytes)) (omega arith) (subst B (sym e) (bytes_after (12 + data_size bytes) bytes all)) (subst Q (sym there) (others_clean serial bytes rest after_it both)) in
        let S : List (List ℕ) → Type 0 = AnswerGiven serial rest in
        let next : AnswerGiven serial rest (rest ∷ after_it) = subst S there others in
        let R : List (List ℕ) → Type 0 = AnswerGiven serial bytes in
        subst R (sym here) (record {
          text = ap (λ (xs : List ℕ). carried_text serial true (datagram_carried bytes) ++ xs) (next.text ∙ e) ∙ head_spelled serial true bytes all one;
          fits = All-cons FitsLine (datagram_carried bytes) (map datagram_carried (rest ∷ after_it)) (head_fits bytes all one.whole) next.fits;
        })

-- nine bytes and what follows them
nine_same : (a b c d e f g h i a2 b2 c2 d2 e2 f2 g2 h2 i2 : ℕ) (xs ys : List ℕ) → a ≡ a2 → b ≡ b2 → c ≡ c2 → d ≡ d2 → e ≡ e2 → f ≡ f2 → g ≡ g2 → h ≡ h2 → i ≡ i2 → xs ≡ ys
    → (a ∷ b ∷ c ∷ d ∷ e ∷ f ∷ g ∷ h ∷ i ∷ xs) ≡ (a2 ∷ b2 ∷ c2 ∷ d2 ∷ e2 ∷ f2 ∷ g2 ∷ h2 ∷ i2 ∷ ys)
nine_same a b c d e f g h i a2 b2 c2 d2 e2 f2 g2 h2 i2 xs ys p q r s t u v w x y = cc

-- a list of six and more
by_six : (P : List ℕ → Type 0) → ((a b c d e f : ℕ) (xs : List ℕ) → P (a ∷ b ∷ c ∷ d ∷ e ∷ f ∷ xs)) → (xs : List ℕ) → 6 ≤ length xs → P xs
by_six P each [] long = absurd (omega arith)
by_six P each (a ∷ []) long = absurd (omega arith)
by_six P each (a ∷ b ∷ []) long = absurd (omega arith)
by_six P each (a ∷ b ∷ c ∷ []) long = absurd (omega arith)
by_six P each (a ∷ b ∷ c ∷ d ∷ []) long = absurd (omega arith)
by_six P each (a ∷ b ∷ c ∷ d ∷ e ∷ []) long = absurd (omega arith)
by_six P each (a ∷ b ∷ c ∷ d ∷ e ∷ f ∷ xs) long = each a b c d e f xs

-- the five bytes of a serial
serial_bytes : (a b c d e : ℕ) → a < 256 → b < 256 → c < 256 → d < 256 → e < 256
    → let n = e + 256 * (d + 256 * (c + 256 * (b + 256 * a))) in
    (n / 4294967296 % 256 ≡ a) × (n / 16777216 % 256 ≡ b) × (n / 65536 % 256 ≡ c) × (n / 256 % 256 ≡ d) × (n % 256 ≡ e) × (n < 1099511627776)
serial_bytes a b c d e a' b' c' d' e' = (omega arith, omega arith, omega arith, omega arith, omega arith, omega arith)

header_back : (n : ℕ) → n / 2048 ≡ 2 → n % 2048 + 4096 ≡ n
header_back n two = omega arith

abbrev Round : List ℕ → Type 0
Round bytes =
    AllBytes bytes → is_not_ethercat bytes ≡ false → word_at bytes 14 / 2048 ≡ 2 → (text : List ℕ) → text ≡ region bytes → length text ≡ datagram_bytes bytes
    → (serial_in bytes < 1099511627776) × (bytes ≡ head_to (take 6 bytes) (slice_index bytes 6) (serial_in bytes) (length text) ++ text ++ drop (16 + datagram_bytes bytes) bytes)

-- the head of a frame, its datagrams, and what follows them
frame_round : (bytes : List ℕ) → 16 ≤ length bytes → Round bytes
frame_round bytes long =
    by_ten (λ xs. 16 ≤ length xs → Round xs)
    (λ b0 b1 b2 b3 b4 b5 b6 b7 b8 b9 rest long.
    by_six (λ xs. Round (b0 ∷ b1 ∷ b2 ∷ b3 ∷ b4 ∷ b5 ∷ b6 ∷ b7 ∷ b8 ∷ b9 ∷ xs))
    (λ b10 b11 b12 b13 b14 b15 xs all type kind text same size.
    let bytes : List ℕ = b0 ∷ b1 ∷ b2 ∷ b3 ∷ b4 ∷ b5 ∷ b6 ∷ b7 ∷ b8 ∷ b9 ∷ b10 ∷ b11 ∷ b12 ∷ b13 ∷ b14 ∷ b15 ∷ xs in
    let n : ℕ = datagram_bytes bytes in
    let spelled = serial_bytes b7 b8 b9 b10 b11 (all 7 0 (omega arith)) (all 8 0 (omega arith)) (all 9 0 (omega arith)) (all 10 0 (omega arith)) (all 11 0 (omega arith)) in
    let low : b14 < 256 = all 14 0 (omega arith) in
    let high : b15 < 256 = all 15 0 (omega arith) in
    let header : length text + 4096 ≡ b14 + 256 * b15 = ap (λ (k : ℕ). k + 4096) size ∙ header_back (b14 + 256 * b15) kind in
    let both = and_parts _ _ (not-false _ type) in
    let after_it : drop (16 + n) bytes ≡ drop n xs = sym (drop_twice 16 n bytes) in
    let tail : text ++ drop (16 + n) bytes ≡ xs = ap (λ (t : List ℕ). t ++ drop (16 + n) bytes) same ∙ ap (λ (t : List ℕ). take n xs ++ t) after_it ∙ take-append-drop n xs in (
      spelled.5,
      ap (λ (t : List ℕ). b0 ∷ b1 ∷ b2 ∷ b3 ∷ b4 ∷ b5 ∷ b6 ∷ t)
          (sym (nine_same _ _ _ _ _ _ _ _ _ b7 b8 b9 b10 b11 b12 b13 b14 b15 _ xs
          spelled.0 spelled.1 spelled.2 spelled.3 spelled.4 (sym (eqb-true b12 0x88 both.0)) (sym (eqb-true b13 0xa4 both.1))
          (ap (λ (k : ℕ). k % 256) header ∙ low_byte b14 b15 low high) (ap (λ (k : ℕ). k / 256 % 256) header ∙ high_byte b14 b15 low high) tail)),
    ))
    rest (omega arith))
    bytes (omega arith) long

some_bytes : (bytes : List ℕ) → 0 < length (datagram_tails bytes) → 0 < length bytes
some_bytes [] some = let none : length (datagram_tails []) ≡ 0 = ap length (datagrams-none [] refl) in absurd (omega arith)
some_bytes (b ∷ bytes) some = omega arith

bytes_before : (n : ℕ) (bytes : List ℕ) → AllBytes bytes → AllBytes (take n bytes)
bytes_before n bytes all = λ k d inside.
    let within : k < n = omega (arith, length-take n bytes) in
    let inside_whole : k < length bytes = omega (arith, length-take n bytes) in
    let there : get_or (take n bytes) k d ≡ get_or bytes k d = get_or-take n bytes k d within in
    let low : get_or bytes k d < 256 = all k d inside_whole in
    omega arith

pub frame-carried : ReadableFramesAreCarried
frame-carried bytes all none =
    let clear : Clear bytes = clear_of bytes none in
    let part : List ℕ = region bytes in
    let ds : List (List ℕ) = datagram_tails part in
    let serial : ℕ = serial_in bytes in
    let n : ℕ = datagram_bytes bytes in
    let long = or_parts _ _ clear.size in
    let there : 16 + n ≤ length bytes = ltb-false _ _ (or_parts _ _ long.1).0 in
    let within : n ≤ 1498 = ltb-false _ _ long.0 in
    let filled = and_parts _ _ (not-false _ (or_parts _ _ long.1).1) in
    let some : 0 < length ds = ltb-true _ _ filled.0 in
    let rows = and_parts _ _ filled.1 in
    let size : length part ≡ n = omega (arith, length-take n (drop 16 bytes), length-drop 16 bytes) in
    let said : AnswerGiven serial part ds =
    answer_given (length part) serial part (omega arith) (some_bytes part some) (bytes_before n (drop 16 bytes) (bytes_after 16 bytes all))
    (record { whole = rows.0; between = rows.1; end = clear.end; turn = clear.turn; known = clear.known; index = clear.index }) in
    let parts : List WireDatagram = map datagram_carried ds in
    let text : List ℕ = carried_texts serial parts in
    let size_of : length text ≡ n = ap length said.text ∙ size in
    let text_is : text_size parts ≡ n = sym (length-carried_texts serial parts) ∙ size_of in
    let kind : word_at bytes 14 / 2048 ≡ 2 = eqb-true _ 2 (not-false _ clear.type) in
    let round = frame_round bytes (omega arith) all clear.ethercat kind text said.text size_of in
    (record { some = omega (arith, length-map ds datagram_carried); low = round.0; fits = said.fits; within = omega arith }, round.1)
