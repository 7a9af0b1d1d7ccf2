-- What a walk names, under one name: the rules of the judgement, and the words that its statements are made of.
-- Assumes nothing.
pub use mathlib.Core.Path.{◌≡◌, refl, sym, ◌∙◌, ap}
pub use Prim.Native.Nat.{ℕ, suc, ◌+◌, ◌*◌, ◌-◌, ◌<◌, ◌≤◌, ◌^◌, zero-le}
pub use native.Mathlib.Nat.{le_antisymm}
pub use native.Mathlib.Omega.{arith}
pub use mathlib.Core.Bool.{not}
pub use mathlib.Core.List.{List, [], ◌∷◌, ◌++◌}
pub use lib.ListN.{length, get_or, set, drop, replicate, length-set, length-replicate}
pub use mir.Syntax.{w8, w16, w32, w64}
pub use mir.Val.{vint}
pub use base.Fml.{Lft, Share}
pub use types.Kit.{ ! }
pub use denote.Laws.{Is}
pub use denote.Ref.{Bor, MutBor}
pub use denote.Slice.{slice_val, shr_slice_vals, mut_slice_vals}
pub use denote.Triple.Walked.{needs}
pub use Rattle.walks.proofs.Locals.{Local', Cell, free, has, lent, upd, opds_good, opds_value}
pub use Rattle.walks.proofs.Holds.{Elem, Hold, val, shr, mut, gave, hold, swap, typed_of}
pub use Rattle.walks.proofs.Walk.{Run, End, ◌▸◌, sets, ifs, whiles, loops, again, drops, forgets}
pub use Rattle.walks.proofs.Below.{ifs_below, whiles_below}
pub use Rattle.walks.proofs.Slices.{type_of, reads, reads_mut, reads_byte, writes, writes_byte}
pub use Rattle.walks.proofs.Calls.{makes, shows_fact}
pub use Rattle.walks.proofs.Hand.{calls_holding}
pub use Rattle.walks.proofs.Lend.{calls_mut, renamed}
pub use Rattle.walks.proofs.Show.{calls_seeing, calls_copying}
pub use Rattle.walks.proofs.Arrays.{array_fits, part, calls_part}
pub use Rattle.walks.proofs.Close.{Site, Params, Function, by_value, shared, mutable, given_up, Walk, walks, returns, site, closes, always}
pub use Rattle.walks.proofs.Callees.{Defined, Meets, knows, Value, calls_to, Look, looks_mut, looks_shr, Change, changes}
pub use Rattle.walks.proofs.Plain.{num, bool, unit, struct_of, enum_of}
