-- The store of a result that is kept.
use mathlib.Core.Path.{◌≡◌, refl}
use mathlib.Core.List.{[], ◌∷◌}
use Rattle.std.specs.Prelude.{Option, Some, None}
use Rattle.ir.specs.declared.VarId.{VarId}
use Rattle.ir.specs.Types.{ok, is_float}
use Rattle.codegen.specs.Context.{Context}
use Rattle.codegen.specs.Instructions.{store_result}
use Rattle.utils.specs.Makes.{listed}
use Rattle.utils.specs.Slots.{look_slot}
use Rattle.utils.proofs.Looked.{slot_looked}
use Rattle.calls.specs.Calls.{result_of}

pub not_kept : (ctx : Context) {dest : Option VarId} → dest ≡ None → store_result ctx dest ≡ ok []
unfolding store_result
not_kept ctx e = rw e refl

pub kept_looked : (ctx : Context) {dest : Option VarId} {v : VarId} → dest ≡ Some v → store_result ctx dest ≡ listed (look_slot ctx v) (λ t. result_of (is_float v.ty) t ∷ [])
unfolding store_result
kept_looked ctx {dest} {v} e = rw e (slot_looked ctx v (λ t. result_of (is_float v.ty) t ∷ []))
