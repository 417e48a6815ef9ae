-- The names that the proofs by hand cite.
pub use Rattle.std.proofs.Common.{◌≡◌, ℕ, ◌+◌, ◌-◌, ◌*◌, ◌%◌, ◌^◌, ◌<◌, ◌≤◌, List, [], ◌∷◌, ◌++◌, length, replicate, take, drop as drop_list, refl, sym, ap, ◌∙◌, subst, lit<, arith, w8, w16, w32, w64, MutBor}
pub use Rattle.std.proofs.raw_atomic.Walks.{proved}
pub use borrow.Table.Elements.{at, at_mul}
pub use base.Fml.{ftrue, flft}
pub use base.Logic.{id⊢}
pub use contract.Monad.{fact}
pub use contract.Running.{tables}
pub use denote.Builtin.{u8, u16, u32, u64, usize, bool}
pub use denote.Exit.{yes, no}
pub use denote.Laws.{shows}
pub use denote.Memory.{mem}
pub use denote.Plain.{uint_vals, uint_Tells, bool_vals, bool_Tells}
pub use denote.RattleType.{owns}
pub use denote.Signature.{plain, mut_slice_of}
pub use denote.Slice.{MutSlice, Room, slice_val, mut_slice_vals, mut_slice_Tells}
pub use denote.Steps.{nothing, heard, peeks, only}
pub use denote.Triple.Call.{calls_at}
pub use denote.Triple.Clauses.{lasts}
pub use denote.Triple.Entry.{on_entry}
pub use denote.Triple.Spec.{triple_of}
pub use denote.Triple.Table.{framed}
pub use denote.Triple.Walked.{says, Stays, stay_dropped, walk_of, ends_at, Goes-dropped, Goes-spent_slice}
pub use mir.Syntax.{named}
pub use mir.Val.{Val, vint}
pub use types.ByLocal.{alloc_all, pass_all, free_all, look_at, look_in_at, get, get_in, through, sets, lands_as, is, env}
pub use types.Kit.{‵, raw, ◌⊛◌, some, later, at_ret, ◌$◌, ◌∵◌, !, qed, move, keep, drop, use0, use1, use2, split, split3, join, fsplit, fjoin, rewrite, await, pick, suffices, frame, done}
pub use types.Part.{whole, sub, agg}
pub use types.Run.{stop, fld, hop, from, of_opd, lit, un, bin, addr, and_then, no_more, returns, enter}
