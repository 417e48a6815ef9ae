-- A datagram has a serial just where a task reads data of it.
use Rattle.std.proofs.Common.{◌≡◌, ℕ, List, [], ◌∷◌, refl, Option}
use Rattle.std.specs.Prelude.{fold, is_some}
use Rattle.hc_records.proofs.lemmas.Choices.{by_bool}
use Rattle.hc_events.specs.Entries.{History, Opened, Edited, Posted, Sent, Wrote, Came, Forgot, Cleared, Unplugged}
use Rattle.hc_events.specs.Images.{NewAnswer, new_answer_by, is_for, renewed, slot_of}
use Rattle.hc_events.specs.Ages.{data_serial, dated}

one_more : (serial task d : ℕ) (so_far : Option ℕ) (slot : Option (List ℕ)) (good : NewAnswer) → is_some so_far ≡ is_some slot
    → is_some (dated serial task d so_far good) ≡ is_some (renewed task d slot good)
one_more serial task d so_far slot good same = by_bool (is_for task d good) (λ t. rw t refl) (λ t. rw t same)

all_more : (serial task d : ℕ) (good_answers : List NewAnswer) (so_far : Option ℕ) (slot : Option (List ℕ)) → is_some so_far ≡ is_some slot
    → is_some (fold (dated serial task d) so_far good_answers) ≡ is_some (fold (renewed task d) slot good_answers)
all_more serial task d [] so_far slot same = same
all_more serial task d (good ∷ good_answers) so_far slot same =
    all_more serial task d good_answers (dated serial task d so_far good) (renewed task d slot good) (one_more serial task d so_far slot good same)

pub serials-of_data : (history : History) (task d : ℕ) → is_some (data_serial history task d) ≡ is_some (slot_of history task d)
serials-of_data [] task d = refl
serials-of_data (Opened groups ∷ history) task d = refl
serials-of_data (Edited edit ∷ history) task d = refl
serials-of_data (Posted t bytes ∷ history) task d = serials-of_data history task d
serials-of_data (Forgot station ∷ history) task d = serials-of_data history task d
serials-of_data (Cleared station ∷ history) task d = serials-of_data history task d
serials-of_data (Unplugged station ∷ history) task d = serials-of_data history task d
serials-of_data (Sent frame ∷ history) task d = serials-of_data history task d
serials-of_data (Wrote blocks ∷ history) task d = serials-of_data history task d
serials-of_data (Came arrival ∷ history) task d = all_more arrival.serial task d (new_answer_by history arrival) (data_serial history task d) (slot_of history task d) (serials-of_data history task d)
