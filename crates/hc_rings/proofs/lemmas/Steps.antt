-- The names that the proof by hand cites.
pub use Rattle.std.proofs.Common.{◌≡◌, ℕ, ◌^◌, ◌<◌, ◌≤◌, Bool, true, false, List, [], ◌∷◌, replicate, refl, ap, subst, lit<, w8, w32, w64, MutBor}
pub use Rattle.std.proofs.raw_atomic.Walks.{proved}
pub use base.Fml.{ftrue, flft, fres, fobs}
pub use base.Fraction.{full_share}
pub use base.Logic.{id⊢, emp, ent, sep}
pub use contract.Monad.{fact, fact_i}
pub use contract.Running.{tables}
pub use denote.Array.{Array}
pub use denote.Builtin.{u8, u32, usize, bool}
pub use denote.Exit.{yes, no}
pub use denote.Laws.{shows}
pub use denote.Lend.{lends_again, comes_back, LentAgain}
pub use denote.Plain.{uint_vals, uint_Tells, uint_Makes}
pub use denote.RattleType.{owns}
pub use denote.Ref.{MutRef, mut_vals, mut_Tells}
pub use denote.Shadow.{makes_shadow}
pub use denote.Signature.{plain, mut_ref_to}
pub use denote.Slice.{MutSlice, slice_val}
pub use denote.Steps.{nothing, owned, heard, peeks, only}
pub use denote.Triple.Call.{calls_at}
pub use denote.Triple.Clauses.{Lasts, lasts}
pub use denote.Triple.Spec.{triple_of}
pub use denote.Triple.Table.{framed}
pub use denote.Triple.Walked.{Stays, stay_dropped, walk_of, ends_at, Goes-dropped, Goes-spent_ref}
pub use mir.Syntax.{named}
pub use mir.Val.{Val, vint, vstruct, vnil, of_list}
pub use types.ByLocal.{alloc_all, pass_all, free_all, look_at, get, through, sets, lands_as, env}
pub use types.Kit.{‵, raw, ◌⊛◌, some, later, ◌$◌, ◌∵◌, !, qed, done, move, keep, drop, use0, use1, use2, use3, split, join, fsplit, fsplit3, fjoin, feq_i, feq_l, fpack, rewrite, await, pick, suffices, frame, by, at_ret}
pub use types.Match.{live}
pub use types.Part.{agg}
pub use types.Run.{stop, lit, addr, and_then, no_more, returns, returns_within, enter, first, branches, skips, exec}
pub use types.Tokens.{name_done, lft_new, lft_end}
