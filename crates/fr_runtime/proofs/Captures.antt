-- Threads may share a closure where they may share each thing that it captures, and what bounds say of its parameters is what they say of those of
-- the function around it.
use mathlib.Core.List.{List}
use mir.Syntax.{Sym, Ty}
use denote.Exit.{Kept}
use denote.RattleType.{RattleType}
use denote.Param.{arg, param}
use denote.Param.Send.{AllSync, IsSend, IsSync, arg_send, arg_sync, param_send, param_sync, recorded_sync, struct_sync}
use denote.Struct.Declared.{row, shape}
use denote.Struct.Field.{rows}
use denote.Struct.Tuple.{parts, type_at}
use Rattle.std.specs.Prelude.{ℕ}

pub captures-sync : (name : Sym) (Ts : List RattleType) → AllSync (rows (parts Ts)) → IsSync (row (type_at name Ts))
captures-sync name Ts all = let T = type_at name Ts in recorded_sync _ _ _ T.to_one (struct_sync (shape T) all)

pub bound-send : (i : ℕ) (δ : Ty) (k : Kept) (T : RattleType) → IsSend (param i T) → IsSend (param i (arg δ k (param i T)))
bound-send i δ k T s = param_send i (arg δ k (param i T)) (arg_send δ k (param i T) s)

pub bound-sync : (i : ℕ) (δ : Ty) (k : Kept) (T : RattleType) → IsSync (param i T) → IsSync (param i (arg δ k (param i T)))
bound-sync i δ k T s = param_sync i (arg δ k (param i T)) (arg_sync δ k (param i T) s)
