-- A prepared edit of a line by its fields.
use Rattle.std.specs.Prelude.{◌≡◌, ◌+◌, ◌-◌, ◌*◌, ◌^◌, ◌<◌, ◌≤◌, ℕ, min, vec_len, vec_capacity}
use Rattle.hc_segment.specs.declared.changing.LineEdit.TheInside.{Inside}
use Rattle.hc_segment.specs.Cutting.{fourth}
use Rattle.hc_segment.specs.Changing.{Prepared}

-- the number of machines for which it was prepared, and its replacement
abbrev pub prepared_in : Inside → Prepared
prepared_in e = record { count = e.count; replacement = record { position = e.position; gone = e.gone; coming = e.coming.items } }

-- the number of machines of the line after the edit
abbrev pub count_after : Inside → ℕ
count_after e = e.count + vec_len e.coming - (min (e.position + e.gone) e.count - min e.position e.count)

-- there is room for all machines, old and coming ones, in a row, and for those that stay and come in at most four segments
pub record HasRoomForMachines (e : Inside) : Type 0 where
  pub few : e.position + e.gone < 2 ^ 32
  pub empty : vec_len e.all ≡ 0
  pub room : e.count + vec_len e.coming ≤ vec_capacity e.all
  pub cut : count_after e ≤ e.cut.number * e.cut.size
  pub few_segments : e.cut.number ≤ 4
  pub small_segments : e.cut.size ≡ fourth (count_after e)
