-- Auxiliary: a step that is repeated, as the code's loops over parts tell it. `instrs_in` and its like repeat a step so.
use Rattle.std.specs.Prelude.{ℕ, zero, suc, ◌≡◌, Ok, Err}
use Rattle.cells.specs.declared.Cursor.{Cursor}
use Rattle.layout.specs.Layout.{Checked, bind_checked}

-- what n times does of a step: nothing, or the step and then the rest, where P c x says that the step from c answers x
pub record Repeats (P : Cursor → Checked → Type 0) (rep : ℕ → Cursor → Checked) : Type 0 where
  pub none : (c : Cursor) → rep zero c ≡ Ok c
  pub more : (n : ℕ) (c : Cursor) (x : Checked) → P c x → rep (suc n) c ≡ bind_checked Err x (rep n)
