-- The parts of a text between equal bytes.
use Rattle.std.proofs.Common.{◌≡◌, ℕ, suc, Bool, true, false, cond, not, ◌+◌, ◌-◌, ◌<◌, ◌≤◌, List, [], ◌∷◌, ◌++◌, length, get_or, take, drop, refl, sym, ap, ◌∙◌, arith, take-append-drop, append-nil, append_assoc}
use Rattle.std.specs.Prelude.{◌==◌, Option, Some, None}
use Rattle.std.specs.List.{position, position_or_len, slice_split, onto_first}
use Rattle.std.specs.Str.Lines.{strip_carriage_return}
use Rattle.std.proofs.lemmas.List.{drop_more, take_rest}
use Rattle.std.proofs.lemmas.List.Quantifiers.{position-Some}
use Rattle.std.proofs.lemmas.List.Splits.{slice_split_first}
use Rattle.std.proofs.lemmas.Option.{cond_some}
use Rattle.std.proofs.lemmas.Bool.{eqb-true, ltb-true, ltb-false}
use Rattle.hc_text.specs.Lines.{line_part_bytes, lines_from, parts_at, text_of_lines}
use Rattle.hc_text.specs.Cutting.{CutsLine, bytes_after, part_joined, lines_after, parts_after}

-- the front part ends at the first such byte
pub cut_at_byte : (byte : ℕ) (text : List ℕ) (i : ℕ) → position (λ b. b == byte) text ≡ Some i
    → parts_at byte text ≡ take i text ∷ parts_at byte (take (length text - (i + 1)) (drop (i + 1) text))
cut_at_byte byte text i found =
    let (within, same) = cond_some _ _ _ found in
    let inside : position_or_len (λ b. b == byte) text < length text = ltb-true _ _ within in
    rw (take_rest text (i + 1), ← same) (slice_split_first (λ b. b == byte) text 0 inside)

-- that byte is between the front part and what follows
pub whole_at_byte : (byte : ℕ) (text : List ℕ) (i : ℕ) → position (λ b. b == byte) text ≡ Some i
    → take i text ++ byte ∷ take (length text - (i + 1)) (drop (i + 1) text) ≡ text
whole_at_byte byte text i found =
    let (within, here, first) = position-Some (λ b. b == byte) text i 0 found in
    let is : get_or text i 0 ≡ byte = eqb-true _ _ here in
    ap (λ rest. take i text ++ byte ∷ rest) (take_rest text (i + 1))
    ∙ ap (λ b. take i text ++ b ∷ drop (i + 1) text) (sym is)
    ∙ ap (λ rest. take i text ++ rest) (sym (drop_more text i 0 within))
    ∙ take-append-drop i text

uncut_step : (p : ℕ → Bool) (x : ℕ) (xs : List ℕ) (b : Bool) → (length xs ≤ position_or_len p xs → slice_split p xs ≡ xs ∷ [])
    → suc (length xs) ≤ cond (not b) (1 + position_or_len p xs) 0 → cond b ([] ∷ slice_split p xs) (onto_first x (slice_split p xs)) ≡ (x ∷ xs) ∷ []
uncut_step p x xs true known long = absurd (omega arith)
uncut_step p x xs false known long = let e : slice_split p xs ≡ xs ∷ [] = known (omega arith) in rw e refl

uncut : (p : ℕ → Bool) (xs : List ℕ) → length xs ≤ position_or_len p xs → slice_split p xs ≡ xs ∷ []
uncut p [] long = refl
uncut p (x ∷ xs) long = uncut_step p x xs (p x) (uncut p xs) long

not_found : (b : Bool) (i : ℕ) → cond b (Some i) None ≡ None → b ≡ false
not_found true i e = cc
not_found false i e = refl

-- a text with no such byte is one part
pub uncut_by_byte : (byte : ℕ) (text : List ℕ) → position (λ b. b == byte) text ≡ None → parts_at byte text ≡ text ∷ []
uncut_by_byte byte text none = uncut (λ b. b == byte) text (ltb-false _ _ (not_found _ _ none))

text_of_split : (part : List ℕ) (x : ℕ) (b : Bool) (parts : List (List ℕ)) → text_of_lines part (cond b ([] ∷ parts) (onto_first x parts)) ≡ strip_carriage_return part
text_of_split part x true parts = refl
text_of_split part x false [] = refl
text_of_split part x false (p ∷ parts) = refl

-- a part that something follows isn't the last
pub text_of_some : (part : List ℕ) (byte : ℕ) (text : List ℕ) → text_of_lines part (parts_at byte text) ≡ strip_carriage_return part
text_of_some part byte [] = refl
text_of_some part byte (x ∷ xs) = text_of_split part x (x == byte) (parts_at byte xs)

bytes_of_split : (part : List ℕ) (x : ℕ) (b : Bool) (parts : List (List ℕ)) → line_part_bytes part (cond b ([] ∷ parts) (onto_first x parts)) ≡ part ++ 10 ∷ []
bytes_of_split part x true parts = refl
bytes_of_split part x false [] = refl
bytes_of_split part x false (p ∷ parts) = refl

bytes_of_some : (part : List ℕ) (byte : ℕ) (text : List ℕ) → line_part_bytes part (parts_at byte text) ≡ part ++ 10 ∷ []
bytes_of_some part byte [] = refl
bytes_of_some part byte (x ∷ xs) = bytes_of_split part x (x == byte) (parts_at byte xs)

whole_line : (part : List ℕ) (rest : Option (List ℕ)) → line_part_bytes part (parts_after 10 rest) ++ bytes_after rest ≡ part_joined 10 part rest
whole_line part None = append-nil part
whole_line part (Some text) = ap (λ bytes. bytes ++ text) (bytes_of_some part 10 text) ∙ append_assoc part (10 ∷ []) text

-- a part, as the text of the first line
pub cuts_line : (input part text : List ℕ) (rest : Option (List ℕ)) → parts_at 10 input ≡ part ∷ parts_after 10 rest → part_joined 10 part rest ≡ input
    → text ≡ text_of_lines part (parts_after 10 rest) → CutsLine input text rest
cuts_line input part text rest parts whole is = record {
  bytes = line_part_bytes part (parts_after 10 rest);
  whole = whole_line part rest ∙ whole;
  lines = λ number. ap (lines_from number) parts ∙ ap (λ t. record { number = number; text = t; bytes = line_part_bytes part (parts_after 10 rest) } ∷ lines_after (number + 1) rest) (sym is);
}
