-- The names that walks cite.
pub use Rattle.std.proofs.Common.{◌≡◌, ℕ, ◌*◌, ◌<◌, ◌^◌, List, [], ◌∷◌, length, refl, sym, ◌∙◌, subst, arith, lit<, w8, w64, Bor, MutBor}
pub use Rattle.std.proofs.raw_atomic.Walks.{proved, proved_at}
pub use mathlib.Core.Bool.{Bool}
pub use seplogic.Ra.Ura.{Ura}
pub use base.Fraction.{full_share}
pub use base.Logic.{SProp, ent, sep, via, snd∗, id⊢}
pub use base.Fml.{Lft, GName, Fml, Incl-refl, ftrue, feq, fex, fsep, flft, flent}
pub use mir.Syntax.{named, w16, w32}
pub use mir.Val.{Val, vbool, vint, vptr}
pub use prog.Model.{Model}
pub use prog.Wired.{Wired}
pub use prog.Wp.{WpFn}
pub use types.Logic.{Logic, sem}
pub use types.SemTy.{Body, cells}
pub use contract.Monad.{fact}
pub use contract.Running.{Running, MachineTables, tables}
pub use types.Kit.{‵, raw, ◌⊛◌, some, later, at_ret, ◌$◌, ◌∵◌, !, qed, by, done, move, keep, drop, use1, use2, use3, split, join, fsplit, fjoin, fpack, feq_i, feq_l, pick, await, rewrite, suffices, group}
pub use types.Tokens.{lft_new, lft_end, lent_back}
pub use types.Part.{agg}
pub use types.Run.{enter, of_opd, lit, bin, addr, stop, no_more, and_then, first, blocks, branches, skips, exec, returns, returns_within}
pub use types.ByLocal.{alloc_all, pass_all, free_all, look_at, get, through, sets, lands_last, env}
pub use denote.Array.{Array}
pub use denote.Builtin.{u8, u16, u32, u64, usize}
pub use denote.Copied.{uint_Copied}
pub use denote.Exit.{yes}
pub use denote.Laws.{Is, shows}
pub use denote.Lend.{Held, lends_ref, lends_shr_slice, lends_slice, ref_back, slice_back}
pub use denote.Memory.{mem, part_at}
pub use denote.Param.{param}
pub use denote.Param.Laws.{param_laws}
pub use denote.Plain.{Boolean, uint_Makes, uint_vals, uint_Tells, uint_Lawful, bool_Makes, bool_vals, bool_Tells}
pub use denote.RattleType.{Valss, owns}
pub use denote.RawPtr.{Ptr, RawPtr, Testable, block_ptr, null_ptr, ptr_val, rawptr_vals, rawptr_Tells, rawptr_Lawful, tests_null}
pub use denote.RawPtr.Bytes.{bytes, bytes_apart, bytes_whole}
pub use denote.Ref.{MutRef}
pub use denote.Signature.{plain, types_at}
pub use denote.Slice.{MutSlice, ShrSlice, slice_val}
pub use denote.Steps.{nothing, owned, heard, peeks}
pub use denote.Triple.Call.{calls_at_last}
pub use denote.Triple.Clauses.{lasts}
pub use denote.Triple.Entry.{on_entry}
pub use denote.Triple.Spec.{triple_of}
pub use denote.Triple.Table.{framed}
pub use denote.Triple.Walked.{Stays, walk_of, stay_dropped, Goes-dropped, ends_at}
