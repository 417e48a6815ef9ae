-- What a read is answered.
use Rattle.std.proofs.Common.{◌≡◌, ℕ, zero, suc, ◌+◌, ◌^◌, ◌<◌, ◌≤◌, ◌∙◌, true, not, cond, nat_lt, List, [], ◌∷◌, length, get_or, Option, Some, None, ap, sym, subst, arith}
use Rattle.std.specs.Prelude.{IfSome}
use Rattle.std.proofs.lemmas.Bool.Decides.{nat_tests}
use Rattle.hc_records.specs.declared.limits.TheConstants.{TASKS}
use Rattle.hc_records.specs.Line.{Member, State, groups_of, line}
use Rattle.hc_records.specs.Project.{lowest_fault}
use Rattle.hc_places.specs.declared.table.Datagram.{Datagram}
use Rattle.hc_places.specs.Table.{Table, datagrams_in, table_of}
use Rattle.hc_events.specs.declared.faults.CoreFault.TheVariants.{NoSuchTask}
use Rattle.hc_events.specs.Entries.{History}
use Rattle.hc_events.specs.Points.{line_of, state_of}
use Rattle.hc_events.specs.Sendings.{line_data_length}
use Rattle.hc_events.specs.Steady.{steady_slot}
use Rattle.hc_events.specs.Steps.{Reads, answer_to, image_of, unless}
use Rattle.hc_sendings.proofs.lemmas.Listed.{listed-length}
use Rattle.hc_c.specs.Pieces.{HaveLengths}
use Rattle.hc_c.specs.Reads.{datagrams_of, fit_number, image_number}
use Rattle.hc_c.proofs.SteadySlots.{steady_slots-fit}

lower : (task : ℕ) → task < TASKS → nat_lt task TASKS ≡ true
lower task low = grind (arith, nat_tests)

-- a task below 8 is never refused
pub read-numbered : (history : History) (task size room : ℕ) → task < TASKS → image_number (answer_to history (Reads task)) size room ≡ fit_number size room
read-numbered history task size room low = ap (λ is. image_number (unless (cond (not is) (Some NoSuchTask) None) (image_of history task)) size room) (lower task low)

-- the datagrams that a plan of the line lists
pub listed-here : (history : History) (plan : State) (table : Table) (task : ℕ) (datagrams : List Datagram) → plan ≡ state_of history → table ≡ table_of (line plan) → datagrams ≡ datagrams_in table task
    → datagrams ≡ datagrams_of history task
listed-here history plan table task datagrams state same are =
    are ∙ ap (λ (it : Table). datagrams_in it task) same ∙ ap (λ (it : State). datagrams_in (table_of (line it)) task) state

-- they have the line's lengths

lengths_from : (members : List Member) (task number : ℕ) (datagrams : List Datagram) (other : Datagram)
    → ((i n : ℕ) → i < length datagrams → n ≡ number + i → (get_or datagrams i other).length ≡ line_data_length members (task, n)) → HaveLengths members task number datagrams
lengths_from members task number [] other each = tt
lengths_from members task number (datagram ∷ datagrams) other each =
    (each 0 number (omega arith) (omega arith), lengths_from members task (number + 1) datagrams other (λ i n low is. each (suc i) n (omega (arith, low)) (omega (arith, is))))

same_index : (i n : ℕ) → n ≡ 0 + i → i ≡ n
same_index i n is = omega (arith, is)

blank : Datagram
blank = record { address = 0; length = 0; expected = 0; offset = 0 }

pub listed-lengths : (history : History) (plan : State) (table : Table) (task : ℕ) (datagrams : List Datagram) → plan ≡ state_of history → lowest_fault (groups_of plan.groups) ≡ None → table ≡ table_of (line plan)
    → datagrams ≡ datagrams_in table task → HaveLengths (line_of history) task 0 datagrams
listed-lengths history plan table task datagrams state unchanged same are =
    let here = are ∙ ap (λ (it : Table). datagrams_in it task) same in
    subst (λ (it : State). HaveLengths (line it) task 0 datagrams) state
    (lengths_from (line plan) task 0 datagrams blank
    (λ i n low is. listed-length plan task i datagrams blank unchanged here low ∙ ap (λ (m : ℕ). line_data_length (line plan) (task, m)) (same_index i n is)))

-- so what a task reads of one has them too
pub slot-fits : (history : History) (task number size : ℕ) (slot : Option (List ℕ)) → slot ≡ steady_slot history task number → size ≡ line_data_length (line_of history) (task, number) → IfSome slot (λ bytes. length bytes ≡ size)
slot-fits history task number size None is long = tt
slot-fits history task number size (Some bytes) is long = steady_slots-fit history task number bytes (sym is) ∙ sym long

-- sixteen bits are enough
pub few-bits : (count : ℕ) → count < 16 → 2 ^ count ≤ 32768
few-bits zero low = omega arith
few-bits (suc zero) low = omega arith
few-bits (suc (suc zero)) low = omega arith
few-bits (suc (suc (suc zero))) low = omega arith
few-bits (suc (suc (suc (suc zero)))) low = omega arith
few-bits (suc (suc (suc (suc (suc zero))))) low = omega arith
few-bits (suc (suc (suc (suc (suc (suc zero)))))) low = omega arith
few-bits (suc (suc (suc (suc (suc (suc (suc zero))))))) low = omega arith
few-bits (suc (suc (suc (suc (suc (suc (suc (suc zero)))))))) low = omega arith
few-bits (suc (suc (suc (suc (suc (suc (suc (suc (suc zero))))))))) low = omega arith
few-bits (suc (suc (suc (suc (suc (suc (suc (suc (suc (suc zero)))))))))) low = omega arith
few-bits (suc (suc (suc (suc (suc (suc (suc (suc (suc (suc (suc zero))))))))))) low = omega arith
few-bits (suc (suc (suc (suc (suc (suc (suc (suc (suc (suc (suc (suc zero)))))))))))) low = omega arith
few-bits (suc (suc (suc (suc (suc (suc (suc (suc (suc (suc (suc (suc (suc zero))))))))))))) low = omega arith
few-bits (suc (suc (suc (suc (suc (suc (suc (suc (suc (suc (suc (suc (suc (suc zero)))))))))))))) low = omega arith
few-bits (suc (suc (suc (suc (suc (suc (suc (suc (suc (suc (suc (suc (suc (suc (suc zero))))))))))))))) low = omega arith
few-bits (suc (suc (suc (suc (suc (suc (suc (suc (suc (suc (suc (suc (suc (suc (suc (suc more)))))))))))))))) low = absurd (omega (arith, low))
