use Rattle.std.proofs.Common.{◌≡◌, ℕ, ◌*◌, ◌++◌, List, Bool, false, length, map, ap, ◌∙◌, arith}
use Rattle.std.specs.Prelude.{None, Option, option_map, replicate}
use Rattle.std.proofs.lemmas.List.{map-append}
use Rattle.hc_registers.specs.Blocks.{RegisterBlock}
use Rattle.hc_owed.specs.Room.{OwedRoom, registers_widened}
use Rattle.hc_owed.proofs.Opened.{register_state_from, none-bytes}
use Rattle.hc_owed.proofs.owed.Owed.widen.Goals as goal

pub returns : goal.returns
returns c =
    let inside = c.self.inside in
    let bytes : List (Option RegisterBlock) → List (Option (List ℕ)) = λ known. map (λ one. option_map (λ block. block.bytes) one) known in
    let added = ap (λ (room : OwedRoom). room.added) c.room.view_is in
    let n = 16 * length c.args.room.added in
    let places : 16 * c.len-places.result ≡ n = omega (arith, c.len-places.ensures, c.room.inside.added.ok.0, ap length added) in
    let known = ap bytes c.add_nothing.ensures ∙ map-append (λ one. option_map (λ block. block.bytes) one) inside.known.items (replicate (16 * c.len-places.result) None) in
    let empty : bytes (replicate (16 * c.len-places.result) None) ≡ replicate n None = none-bytes (16 * c.len-places.result) ∙ ap (λ (k : ℕ). replicate k None) places in
    ap (λ (k : List (Option (List ℕ))). register_state_from k c.add_cleared.new.self.list c.add_stations.new.stations.items) (known ∙ ap (λ (l : List (Option (List ℕ))). bytes inside.known.items ++ l) empty)
    ∙ ap (λ (o : List Bool). register_state_from (bytes inside.known.items ++ replicate n None) o c.add_stations.new.stations.items) (c.add_cleared.ensures ∙ ap (λ (k : ℕ). inside.owed.list ++ replicate k false) places)
    ∙ ap (λ (l : List ℕ). register_state_from (bytes inside.known.items ++ replicate n None) (inside.owed.list ++ replicate n false) l) (c.add_stations.ensures ∙ ap (λ (l : List ℕ). inside.stations.items ++ l) added)
    ∙ ap (registers_widened c.args.room.added) c.self.view_is
