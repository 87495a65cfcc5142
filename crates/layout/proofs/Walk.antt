-- The body of a sheet whose layout is right, instruction by instruction.
use Prim.Native.Nat.{ℕ, zero, suc, ◌+◌, ◌-◌, ◌≤◌, ◌<◌}
use mathlib.Core.Path.{◌≡◌, refl}
use mathlib.Core.List.{List}
use mathlib.Core.Bool.{Bool, true, false, cond}
use native.Mathlib.Omega.{arith}
use borrow.Author.Tests.{eqb-true}
use lib.Dec.{eqb}
use Rattle.std.specs.Prelude.{Ok}
use Rattle.cells.specs.Cells.{cells, cell_at}
use Rattle.cells.specs.declared.Cursor.{Cursor}
use Rattle.layout.specs.declared.Edition.{Edition}
use Rattle.layout.specs.Limits.{most_variables, most_instructions, most_arguments}
use Rattle.layout.specs.Layout.{cursor, body_start, instrs_in, sheet_in, LaidIn}
use Rattle.layout.proofs.Laws.{RightHead, Right, head_right, sheet_right, types_run, instr_right, instrs_more}
use Rattle.ir.specs.Function.{arguments_at, behind, params_from}

-- ---- the sheet

pub laid_from : {E : Edition} {s : List ℕ} {d : Cursor} → sheet_in E s ≡ Ok d → LaidIn E s
laid_from {E} {s} {d} e = record { end = d; is = e }

module _ {E : Edition} {s : List ℕ} (r : LaidIn E s) where
  right : Right E s r.end
  right = sheet_right E s r.is

  pub has_head : RightHead E s
  has_head = (head_right E s right.head).0

  pub has_header : 6 ≤ cells s
  has_header = has_head.header

  pub has_types : params_from s ≤ cells s
  has_types = (types_run s (cell_at s 0) 0 (cursor 6) has_head.types).within has_header

  pub has_params : body_start E s ≤ cells s
  has_params = has_head.within

  pub has_vars : cell_at s 0 ≤ most_variables
  has_vars = has_head.vars

  pub has_few : cell_at s 5 ≤ most_instructions
  has_few = has_head.instrs

-- ---- n instructions from cell k on

pub record WalkIn (E : Edition) (s : List ℕ) (n k : ℕ) : Type 0 where
  pub end : Cursor
  pub is : instrs_in E s n (cursor k) ≡ Ok end

abbrev pub Walk : List ℕ → ℕ → ℕ → Type 0
Walk = WalkIn Edition.First

pub walk_from : {E : Edition} {s : List ℕ} → LaidIn E s → WalkIn E s (cell_at s 5) (body_start E s)
walk_from r = record { end = r.end; is = (right r).body }

module _ {E : Edition} {s : List ℕ} where
  pub walk_here : (n k : ℕ) → WalkIn E s n k → 0 < n → (k + 13 ≤ cells s) × (behind s k ≤ cells s)
  walk_here zero k w h = absurd (omega arith)
  walk_here (suc n) k w h =
      let b = instr_right E s (cursor k) (instrs_more E s n (cursor k) w.is).0 in
      (b.there, omega (arith, b.ends, b.within))

  -- a call has few arguments
  pub walk_few : (n k : ℕ) → WalkIn E s n k → 0 < n → arguments_at s k ≤ most_arguments
  unfolding arguments_at
  walk_few zero k w h = absurd (omega arith)
  walk_few (suc n) k w h =
      let b = instr_right E s (cursor k) (instrs_more E s n (cursor k) w.is).0 in
      go (eqb (cell_at s k) 5) (λ e. b.few (eqb-true _ _ e))
    where
      go : (t : Bool) → (t ≡ true → cell_at s (k + 6) ≤ most_arguments) → cond t (cell_at s (k + 6)) 0 ≤ most_arguments
      go true f = f refl
      go false f = omega arith

  pub walk_next : (n k : ℕ) → WalkIn E s n k → 0 < n → WalkIn E s (n - 1) (behind s k)
  walk_next zero k w h = absurd (omega arith)
  walk_next (suc n) k w h =
      let l : suc n - 1 ≡ n = omega arith in
      rw l (record { end = w.end; is = (instrs_more E s n (cursor k) w.is).1 })
