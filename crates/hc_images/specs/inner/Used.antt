-- The datagrams of each task that may have data.
use Rattle.std.specs.Prelude.{◌≡◌, ℕ, ◌/◌, ◌%◌, ◌≤◌, List, None, slice_index_or}
use Rattle.hc_records.specs.declared.limits.TheConstants.{MOST_DATAGRAMS}
use Rattle.hc_images.specs.Image.{DatagramImage}

-- in each task no datagram after the first ones, as many as this list says, has data
abbrev pub NoneAfter : List ℕ → DatagramImage → Type 0
NoneAfter used image = (n : ℕ) → slice_index_or used (n / MOST_DATAGRAMS) 0 ≤ n % MOST_DATAGRAMS → slice_index_or image n None ≡ None
