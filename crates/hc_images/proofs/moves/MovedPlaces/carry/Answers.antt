use Rattle.std.proofs.Common.{◌≡◌, ap, arith, drop, length, subst, sym, ◌∙◌}
use Rattle.hc_places.specs.Swap.{Change, swapped}
use Rattle.hc_places.specs.Table.{Table}
use Rattle.hc_images.specs.Moves.{Moves, moved_table}
use Rattle.hc_images.specs.Packed.{Bytes, Carries, HasSizes, length_in}
use Rattle.hc_images.specs.Pieces.{HasRoomToGrow, carried_bit}
use Rattle.hc_images.proofs.Carrying.{all-lent}
use Rattle.hc_images.proofs.moves.MovedPlaces.carry.Goals as goal

pub carry_over-requires-clause-room : goal.carry_over-requires-clause-room
carry_over-requires-clause-room c =
    let moves = c.args.self.now in
    let shown = c.as_mut_slice-3.result.now in
    let table : c.self.inside.before.value ≡ moves.before = ap (λ (m : Moves). m.before) c.self.view_is in
    subst (λ (t : Table). HasRoomToGrow (length c.args.swap.now.change.tasks) (length_in t) c.args.swap.now.change.tasks shown) (sym table)
    (subst (λ (change : Change). HasRoomToGrow (length change.tasks) (length_in moves.before) change.tasks shown) (sym c.requires.swap)
    (subst (λ (r : Bytes). HasRoomToGrow (length moves.change.tasks) (length_in moves.before) moves.change.tasks r) (sym c.as_mut_slice-3.ensures.value) c.requires.room))

pub returns-clause-carried : goal.returns-clause-carried
returns-clause-carried c = λ value before.
    let moves = c.args.self.now in
    let rows = c.carry_over.new.rows in
    let table : c.self.inside.before.value ≡ moves.before = ap (λ (m : Moves). m.before) c.self.view_is in
    let first = subst (λ (t : Table). Carries t value c.as_mut_slice.result.now) (sym table) (subst (λ (r : Bytes). Carries moves.before value r) (sym c.as_mut_slice.ensures.value) before) in
    let last = c.carry_over.ensures.carried value first in
    let moved = subst (λ (t : Table). Carries (swapped c.args.swap.now.change t) (carried_bit t value c.args.ones) rows) table last in
    let made : Carries (moved_table moves) (carried_bit moves.before value c.args.ones) rows = subst (λ (change : Change). Carries (swapped change moves.before) (carried_bit moves.before value c.args.ones) rows) c.requires.swap moved in
    let size = c.as_mut_slice.ensures.len in
    let same = ap (λ (r : Bytes). length r) c.as_mut_slice.ensures.value in
    let all = c.carry_over.ensures.all in
    let was = c.requires.all in
    subst (Carries (moved_table moves) (carried_bit moves.before value c.args.ones)) (sym (all-lent c.args.rows.now.len rows (drop (length rows) c.args.rows.now.items) (omega arith))) made

pub returns-clause-sizes : goal.returns-clause-sizes
returns-clause-sizes c =
    let moves = c.args.self.now in
    let rows = c.carry_over.new.rows in
    let table : c.self.inside.before.value ≡ moves.before = ap (λ (m : Moves). m.before) c.self.view_is in
    let moved = subst (λ (t : Table). HasSizes (swapped c.args.swap.now.change t) rows) table c.carry_over.ensures.sizes in
    let made : HasSizes (moved_table moves) rows = subst (λ (change : Change). HasSizes (swapped change moves.before) rows) c.requires.swap moved in
    let size = c.as_mut_slice.ensures.len in
    let same = ap (λ (r : Bytes). length r) c.as_mut_slice.ensures.value in
    let all = c.carry_over.ensures.all in
    let was = c.requires.all in
    subst (HasSizes (moved_table moves)) (sym (all-lent c.args.rows.now.len rows (drop (length rows) c.args.rows.now.items) (omega arith))) made

pub returns-clause-all : goal.returns-clause-all
returns-clause-all c =
    let rows = c.carry_over.new.rows in
    let size = c.as_mut_slice.ensures.len in
    let same = ap (λ (r : Bytes). length r) c.as_mut_slice.ensures.value in
    let all = c.carry_over.ensures.all in
    let was = c.requires.all in
    ap (λ (r : Bytes). length r) (all-lent c.args.rows.now.len rows (drop (length rows) c.args.rows.now.items) (omega arith)) ∙ all
