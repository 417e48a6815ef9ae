-- Values that a task posts: the reasons for which they are refused, and the bytes that hold them.
use Rattle.std.specs.Prelude.{◌≡◌, ℕ, ◌-◌, ◌*◌, ◌^◌, ◌≤◌, ◌==◌, ◌&&◌, not, nat_le, nat_lt, is_none, Bool, false, if◌then◌else◌, List, [], ◌∷◌, ◌++◌, length, map, slice_index_or, slice_set, Option, None, Some, ◌≢◌, MatchResult, Result}
use Rattle.std.specs.Int.{bit_at}
use Rattle.std.specs.List.{fold}
use Rattle.std.specs.Option.{option_map_or, option_or}
use Rattle.hc_records.specs.declared.records.Dir.TheVariants.{In, Out}
use Rattle.hc_records.specs.Image.{VariablePlace}
use Rattle.hc_records.specs.Keys.{same_dir}
use Rattle.hc_records.specs.Lists.{lowest}
use Rattle.hc_places.specs.Table.{Table, part_in, place_in}
use Rattle.hc_events.specs.Outputs.{bytes_of_bits}
use Rattle.hc_images.specs.Values.{table_image_bit}
use Rattle.hc_rings.specs.declared.posts.TheConstants.{POSTS_WAITING}
use Rattle.hc_rings.specs.Post.{Post, post_of}
use Rattle.hc_publish.specs.ChangesSince.{ChangesSince, epoch_shown, table_shown}
use Rattle.hc_conductor.specs.declared.seat.TaskSeat.{TaskSeat}
use Rattle.hc_conductor.specs.Seats.{seat_epoch, seat_known, task_seat_origin, outputs_size}
use Rattle.hc_records.specs.declared.setting.Setting.{Setting}
use Rattle.hc_conductor.specs.declared.one_thread.refusals.PostRefusal.{PostRefusal}
use Rattle.hc_conductor.specs.declared.one_thread.refusals.PostRefusal.TheVariants.{NoSuchVariable, IsInput, OtherTask, TooWide, NoSpare, NoEntry, Memory}
use Rattle.hc_conductor.specs.Mastering.{Mastering}
use Rattle.hc_conductor.specs.Viewing.{viewed_place}

-- the reasons for which a task cannot post a value for a variable with this place, in order: it has no place, it is an input,
-- it lies in another task, it has too few bits for the value
abbrev pub setting_refusals : ℕ → ℕ → Option VariablePlace → List (Bool × PostRefusal)
setting_refusals task value place =
    (is_none place, NoSuchVariable)
    ∷ (option_map_or (λ found. same_dir found.dir In) place false, IsInput)
    ∷ (option_map_or (λ found. not (found.task == task)) place false, OtherTask)
    ∷ (option_map_or (λ found. nat_le (2 ^ found.bits) value) place false, TooWide)
    ∷ []

-- the first reason for which a value is refused, or none
abbrev pub setting_refused : Table → ℕ → Setting → Option PostRefusal
setting_refused table task setting =
    lowest (setting_refusals task setting.value (viewed_place table setting.variable))

-- the first reason of the first refused value, or none
abbrev pub first_refused : Table → ℕ → List Setting → Option PostRefusal
first_refused table task settings = fold (λ found setting. option_or found (setting_refused table task setting)) None settings

-- a bit of a task's image lies in a place
abbrev pub covers : Table → VariablePlace → ℕ → Bool
covers table place k = nat_le (table_image_bit table place 0) k && nat_lt k (table_image_bit table place place.bits)

-- bit k of the image after a value was written: the value's bit if it lies in the variable's place, else as before
abbrev pub set_bit : Table → ℕ → ℕ → Setting → ℕ
set_bit table k before setting =
    option_map_or (λ place. if covers table place k then bit_at setting.value (k - table_image_bit table place 0) else before)
    (viewed_place table setting.variable) before

-- bit k after all values were written over zeros, one after another: for a variable that is named twice the last value stays
abbrev pub set_value_bit : Table → List Setting → ℕ → ℕ
set_value_bit table settings k = fold (set_bit table k) 0 settings

-- the bytes that are posted: as many as the task has outputs, with these bits
abbrev pub posted_bytes : Table → ℕ → List Setting → List ℕ
posted_bytes table task settings = bytes_of_bits (set_value_bit table settings) (part_in table task).0

-- this many bytes hold each output variable of the task
abbrev pub BytesHoldOutputs : Table → ℕ → ℕ → Type 0
BytesHoldOutputs table task size =
    (variable : ℕ) (place : VariablePlace) → place_in table variable ≡ Some place → place.dir ≡ Out → place.task ≡ task
    → table_image_bit table place place.bits ≤ 8 * size

-- the lists that a seat knows
abbrev pub known_to : TaskSeat → ChangesSince
known_to s = record { groups = (task_seat_origin s).groups; changes = seat_known s }

-- no value is refused, and these are the posted bytes, as many as the task has outputs
pub record PostIsFilled (table : Table) (task : ℕ) (settings : List Setting) (bytes : List ℕ) : Type 0 where
  pub accepted : first_refused table task settings ≡ None
  pub bytes_are : bytes ≡ posted_bytes table task settings
  pub size : length bytes ≡ (part_in table task).0

-- the seat of a task viewed this epoch last, in which the task has this many bytes of outputs
pub record HasViewed (m : Mastering) (task epoch size : ℕ) : Type 0 where
  pub epoch_is : slice_index_or (map seat_epoch m.seats) task 0 ≡ epoch
  pub size_is : slice_index_or (map outputs_size m.seats) task 0 ≡ size

-- four posts of the task wait
abbrev pub ring_is_full : ℕ → List (List Post) → Bool
ring_is_full task waiting = nat_le POSTS_WAITING (length (slice_index_or waiting task []))

-- the reason for which nothing is posted, beside these waiting posts: that of the first refused value, else that four posts of
-- the task wait
abbrev pub post_refused : Table → ℕ → List Setting → List (List Post) → Option PostRefusal
post_refused table task settings waiting =
    option_or (first_refused table task settings) (if ring_is_full task waiting then Some NoSpare else None)

-- a call fails exactly as this says: not at all, or for this reason
abbrev pub IsRefusedBy : {X : Type 0} → Option PostRefusal → Result X PostRefusal → Type 0
IsRefusedBy found result = MatchResult result (λ _. found ≡ None) (λ refusal. found ≡ Some refusal)

-- a failure for another reason than a missing view or memory is this one
abbrev pub IsPostRefusalOf : Option PostRefusal → PostRefusal → Type 0
IsPostRefusalOf found refusal = refusal ≢ NoEntry → refusal ≢ Memory → found ≡ Some refusal

-- the post for an epoch with this table: the values' bytes
abbrev pub post_made : ℕ → Table → ℕ → List Setting → Post
post_made epoch table task settings = post_of epoch (posted_bytes table task settings)

-- the post of a task for the epoch that is shown
abbrev pub post_shown : ChangesSince → ℕ → List Setting → Post
post_shown shown task settings = post_made (epoch_shown shown) (table_shown shown) task settings

-- the waiting posts, with one more after those of a task
abbrev pub with_post : ℕ → Post → List (List Post) → List (List Post)
with_post task post waiting = slice_set waiting task (slice_index_or waiting task [] ++ post ∷ [])
