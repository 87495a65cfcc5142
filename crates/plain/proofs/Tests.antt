-- A variable's entry, and the count of a label.
use Rattle.std.proofs.Common.{◌≡◌, ℕ, ◌+◌, ◌*◌, Bool, true, false, cond, ◌&&◌, ltb, List, get_or, refl, Some, None, ltb-true}
use Rattle.std.specs.Option.{option_eq}
use Rattle.ir.specs.declared.VarId.{VarId}
use Rattle.cells.specs.Cells.{cell_at}
use Rattle.ir.specs.Function.{entry_at, type_at, types_at, function_of}
use Rattle.ir.proofs.Sheet.{types_length, type_there}
use Rattle.machine.specs.Plain.{same_type, no_type, is_plain_code, is_entry}

-- a variable's own type against the entry of the sheet
pub entry_is : (s : List ℕ) (v : VarId) → is_entry (function_of s) v ≡ (option_eq (λ a b. same_type a b) (Some v.ty) (entry_at s v.id) && is_plain_code v.ty.code)
unfolding function_of
entry_is s v = rw (types_length s (cell_at s 0) 6) (go (ltb v.id (cell_at s 0)) refl)
  where
    go : (b : Bool) → ltb v.id (cell_at s 0) ≡ b →
        (b && (same_type v.ty (get_or (types_at s (cell_at s 0) 6) v.id no_type) && is_plain_code v.ty.code))
        ≡ (option_eq (λ a b. same_type a b) (Some v.ty) (cond b (Some (type_at s (6 + 2 * v.id))) None) && is_plain_code v.ty.code)
    go true e = rw (type_there s (cell_at s 0) 6 v.id no_type (ltb-true _ _ e))
    go false e = refl
