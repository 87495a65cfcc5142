-- The function of a sheet of edition 1 is that of its conversion into edition 2, and the other way round.
use Prim.Native.Nat.{ℕ, zero, suc, ◌+◌, ◌*◌, ◌<◌}
use mathlib.Core.Path.{◌≡◌, refl, sym, ap, ap₂, ◌∙◌}
use mathlib.Core.Bool.{Bool, true, false, cond}
use mathlib.Core.List.{List, [], ◌∷◌, map}
use native.Mathlib.Omega.{arith}
use lib.Dec.{eqb}
use lib.ListN.{length, get_or}
use Rattle.cells.specs.Cells.{cell_at, cells_from, cell_bytes}
use Rattle.ir.specs.declared.«Type».{«Type» as IrType}
use Rattle.ir.specs.declared.VarId.{VarId}
use Rattle.ir.specs.declared.Operand.{Operand}
use Rattle.std.specs.Prelude.{Option, Some, None}
use Rattle.ir.specs.declared.Instr.{Instr}
use Rattle.ir.specs.Function.{Line, var_at, var_operand, int_operand, float_operand, bool_operand, address_operand, data_operand, operand_at, unary_op, binary_op, copy_at, unary_at, binary_at, cast_at, zero_at, call_at, label_at, jump_at, jump_if_not_at, return_at, instr_at, arguments_at, behind, types_at, vars_at, operands_at, lines_at, params_from, body_from, function_of}
use Rattle.layout.specs.declared.Edition.{Edition}
use Rattle.layout.specs.Layout.{holds_var, has_dest, has_left, LaidIn}
use Rattle.edition.specs.Editions.{id_if, operand_id, side_id, operand_ids, instr_ids, instrs_ids, param_ids, ids, agrees, var_cells, param_cells, operand_cells, dest_cells, side_cells, operands_cells, instr_cells, instrs_cells, params_cells, sheet_cells}
use Rattle.edition.specs.Meaning.{var_of, typed_operand, typed_dest, typed_instr, typed_line, params_at, function_in, SameFunction}
use Rattle.cells.proofs.Lists.{Holds, holds_append, holds_from, bytes_length, bytes_hold}
use Rattle.edition.proofs.Parts.{Agree, agree_append, has_entry, own_agree, operand_length, Heads}
use Rattle.edition.proofs.Lines.{agree_instr, Split, split, arguments_same, instr_length, behind_is_so}
use Rattle.edition.proofs.Sheets.{small_sheet, params_held, instrs_held, same, heads, agreeing}
use Rattle.edition.proofs.Back.{goes, round_trip}

abbrev First : Edition
First = Edition.First

abbrev Second : Edition
Second = Edition.Second

module _ {s t : List ℕ} (heads : Heads s t) where
  -- ---- variables

  -- a variable of s, told by its entry in t
  var_same : (k j : ℕ) → agrees First s k ≡ true → cell_at t j ≡ cell_at s k → var_of t (cell_at t j) ≡ var_at s k
  var_same k j a h =
      let l = has_entry First s k a in
      let o = own_agree s k a in
      rw (h, heads.code (cell_at s k) l, heads.count (cell_at s k) l, o.0, o.1) refl

  params_same : (n k j : ℕ) → Agree First s (param_ids First s n k) → Holds t j (params_cells First Second s n k) → params_at t n j ≡ vars_at s n k
  unfolding params_at vars_at param_ids params_cells param_cells
  params_same zero k j a h = refl
  params_same (suc n) k j a h = ap₂ (λ (x : VarId) (xs : List VarId). x ∷ xs) (var_same k j a.0 h.1) (params_same n (k + 3) (j + 1) a.1 h.2)

  -- ---- operands

  abbrev readers : List (List ℕ → ℕ → Operand)
  readers = var_operand ∷ int_operand ∷ float_operand ∷ bool_operand ∷ address_operand ∷ data_operand ∷ []

  fields_same : (n k j : ℕ) → Agree First s (id_if (holds_var n) (k + 1)) → Holds t (j + 1) (cond (holds_var n) (var_cells Second s (k + 1)) (cells_from s (k + 1) 3)) →
      typed_operand t (get_or readers n (λ s k. Operand.Null) t j) ≡ get_or readers n (λ s k. Operand.Null) s k
  unfolding var_cells cells_from
  fields_same zero k j a h = ap Operand.Var (var_same (k + 1) (j + 1) a.0 h.1)
  fields_same (suc zero) k j a h =
      let p : j + 2 ≡ j + 1 + 1 = omega arith in
      let q : k + 2 ≡ k + 1 + 1 = omega arith in
      let u : j + 3 ≡ j + 1 + 1 + 1 = omega arith in
      let v : k + 3 ≡ k + 1 + 1 + 1 = omega arith in
      rw (p, q, u, v, h.1, h.2.1, h.2.2.1) refl
  fields_same (suc (suc zero)) k j a h = ap Operand.Float h.1
  fields_same (suc (suc (suc zero))) k j a h = ap (λ (v : ℕ). Operand.Bool (eqb v 1)) h.1
  fields_same (suc (suc (suc (suc zero)))) k j a h = ap Operand.Address (var_same (k + 1) (j + 1) a.0 h.1)
  fields_same (suc (suc (suc (suc (suc zero))))) k j a h = ap Operand.DataAddress h.1
  fields_same (suc (suc (suc (suc (suc (suc n)))))) k j a h = refl

  operand_same : (k j : ℕ) → Agree First s (operand_id s k) → Holds t j (operand_cells Second s k) → typed_operand t (operand_at t j) ≡ operand_at s k
  unfolding operand_at operand_cells
  operand_same k j a h = rw h.1 (fields_same (cell_at s k) k j a h.2)

  operands_same : (n k j : ℕ) → Agree First s (operand_ids s n k) → Holds t j (operands_cells Second s n k) → map (typed_operand t) (operands_at t n j) ≡ operands_at s n k
  unfolding operands_at operand_ids operands_cells
  operands_same zero k j a h = refl
  operands_same (suc n) k j a h =
      let b = agree_append First s (operand_id s k) (operand_ids s n (k + 4)) a in
      let g = holds_append t j (operand_cells Second s k) (operands_cells Second s n (k + 4)) h in
      ap₂ (λ (x : Operand) (xs : List Operand). x ∷ xs) (operand_same k j b.0 g.0)
      (operands_same n (k + 4) (j + 4) b.1 (rw (operand_length Second s k) at g.1))

  -- ---- instructions

  dest_same : (k j : ℕ) (has : Bool) → has ≡ true → Agree First s (id_if has k) → Holds t j (dest_cells Second s has k) → var_of t (cell_at t j) ≡ var_at s k
  unfolding var_cells
  dest_same k j true p a h = var_same k j a.0 h.1
  dest_same k j false p a h = absurd cc

  side_same : (k j : ℕ) (has : Bool) → has ≡ true → Agree First s (side_id s has k) → Holds t j (side_cells Second s has k) → typed_operand t (operand_at t j) ≡ operand_at s k
  side_same k j true p a h = operand_same k j a h
  side_same k j false p a h = absurd cc

  -- what an instruction is made of
  record Alike (n k j : ℕ) : Type 0 where
    op : cell_at t (j + 1) ≡ cell_at s (k + 1)
    dest : has_dest n (cell_at s (k + 1)) ≡ true → var_of t (cell_at t (j + 2)) ≡ var_at s (k + 2)
    left : has_left n ≡ true → typed_operand t (operand_at t (j + 5)) ≡ operand_at s (k + 5)
    right : eqb n 2 ≡ true → typed_operand t (operand_at t (j + 9)) ≡ operand_at s (k + 9)
    call : n ≡ 5 → (cell_at t (j + 5) ≡ cell_at s (k + 5)) × (cell_at t (j + 6) ≡ cell_at s (k + 6))

  abbrev kinds : List (List ℕ → ℕ → Instr)
  kinds = copy_at ∷ unary_at ∷ binary_at ∷ cast_at ∷ zero_at ∷ call_at ∷ label_at ∷ jump_at ∷ jump_if_not_at ∷ return_at ∷ []

  call_dest : (k j : ℕ) (b : Bool) → (b ≡ true → var_of t (cell_at t (j + 2)) ≡ var_at s (k + 2)) →
      typed_dest t (cond b (Some (var_at t (j + 2))) None) ≡ cond b (Some (var_at s (k + 2))) None
  call_dest k j true f = ap (λ (v : VarId). Some v) (f refl)
  call_dest k j false f = refl

  kind_same : (n k j : ℕ) → Alike n k j → typed_instr t (get_or kinds n (λ s k. Instr.Comment) t j) ≡ get_or kinds n (λ s k. Instr.Comment) s k
  kind_same zero k j h = ap₂ Instr.Copy (h.dest refl) (h.left refl)
  kind_same (suc zero) k j h = rw h.op (ap₂ (λ (d : VarId) (x : Operand). Instr.Unary d (unary_op (cell_at s (k + 1))) x) (h.dest refl) (h.left refl))
  kind_same (suc (suc zero)) k j h =
      rw h.op (ap₂ (λ (d : VarId) (x : Operand). Instr.Binary d (binary_op (cell_at s (k + 1))) x (typed_operand t (operand_at t (j + 9)))) (h.dest refl) (h.left refl)
      ∙ ap (λ (y : Operand). Instr.Binary (var_at s (k + 2)) (binary_op (cell_at s (k + 1))) (operand_at s (k + 5)) y) (h.right refl))
  kind_same (suc (suc (suc zero))) k j h = ap₂ Instr.Cast (h.dest refl) (h.left refl)
  kind_same (suc (suc (suc (suc zero)))) k j h = ap Instr.Zero (h.dest refl)
  kind_same (suc (suc (suc (suc (suc zero))))) k j h =
      let c = h.call refl in
      rw (h.op, c.0, c.1) (ap (λ (d : Option VarId). Instr.Call d (cell_at s (k + 5)) (cell_at s (k + 6))) (call_dest k j (eqb (cell_at s (k + 1)) 1) (λ p. h.dest p)))
  kind_same (suc (suc (suc (suc (suc (suc zero)))))) k j h = ap Instr.Label h.op
  kind_same (suc (suc (suc (suc (suc (suc (suc zero))))))) k j h = ap Instr.Jump h.op
  kind_same (suc (suc (suc (suc (suc (suc (suc (suc zero)))))))) k j h = ap₂ Instr.JumpIfNot (h.left refl) h.op
  kind_same (suc (suc (suc (suc (suc (suc (suc (suc (suc zero))))))))) k j h = ap Instr.Return (h.left refl)
  kind_same (suc (suc (suc (suc (suc (suc (suc (suc (suc (suc n)))))))))) k j h = refl

  call_cells : (n k j : ℕ) → n ≡ 5 → Holds t (j + 5) (side_cells Second s (has_left n) (k + 5)) → (cell_at t (j + 5) ≡ cell_at s (k + 5)) × (cell_at t (j + 6) ≡ cell_at s (k + 6))
  unfolding cells_from
  call_cells n k j p h =
      let g : Holds t (j + 5) (side_cells Second s (has_left 5) (k + 5)) = rw p at h in
      let a : j + 6 ≡ j + 5 + 1 = omega arith in
      let b : k + 6 ≡ k + 5 + 1 = omega arith in
      (g.1, rw (a, b) g.2.1)

  alike : (k j : ℕ) → Agree First s (instr_ids s k) → Split heads First Second k j → Alike (cell_at s k) k j
  alike k j a g =
      let n = cell_at s k in
      let p = agree_instr First s k a in
      record {
        op = g.operation;
        dest = λ q. dest_same (k + 2) (j + 2) (has_dest n (cell_at s (k + 1))) q p.0 g.dest;
        left = λ q. side_same (k + 5) (j + 5) (has_left n) q p.1 g.left;
        right = λ q. side_same (k + 9) (j + 9) (eqb n 2) q p.2 g.right;
        call = λ q. call_cells n k j q g.left;
      }

  line_same : (k j : ℕ) → Agree First s (instr_ids s k) → Holds t j (instr_cells Second s k) →
      typed_line t (record { instr = instr_at t j; args = operands_at t (arguments_at t j) (j + 13) }) ≡ record { instr = instr_at s k; args = operands_at s (arguments_at s k) (k + 13) }
  unfolding instr_at
  line_same k j a h =
      let g = split heads First Second k j h in
      let c = arguments_same heads First Second k j g in
      let i : typed_instr t (get_or kinds (cell_at t j) (λ s k. Instr.Comment) t j) ≡ get_or kinds (cell_at s k) (λ s k. Instr.Comment) s k
      = ap (λ (m : ℕ). typed_instr t (get_or kinds m (λ s k. Instr.Comment) t j)) g.kind ∙ kind_same (cell_at s k) k j (alike k j a g) in
      let o : map (typed_operand t) (operands_at t (arguments_at t j) (j + 13)) ≡ operands_at s (arguments_at s k) (k + 13)
      = ap (λ (m : ℕ). map (typed_operand t) (operands_at t m (j + 13))) c ∙ operands_same (arguments_at s k) (k + 13) (j + 13) (agree_instr First s k a).3 g.rest in
      ap₂ (λ (x : Instr) (xs : List Operand). record { instr = x; args = xs }) i o

  lines_same : (n k j : ℕ) → Agree First s (instrs_ids s n k) → Holds t j (instrs_cells Second s n k) → map (typed_line t) (lines_at t n j) ≡ lines_at s n k
  unfolding lines_at instrs_ids instrs_cells
  lines_same zero k j a h = refl
  lines_same (suc n) k j a h =
      let b = agree_append First s (instr_ids s k) (instrs_ids s n (behind s k)) a in
      let g = holds_append t j (instr_cells Second s k) (instrs_cells Second s n (behind s k)) h in
      let c = arguments_same heads First Second k j (split heads First Second k j g.0) in
      let m : j + length (instr_cells Second s k) ≡ behind t j = omega (arith, instr_length Second s k, behind_is_so t j, c) in
      ap₂ (λ (x : Line) (xs : List Line). x ∷ xs) (line_same k j b.0 g.0) (lines_same n (behind s k) (behind t j) b.1 (holds_from t (instrs_cells Second s n (behind s k)) m g.1))

-- ---- the variable types

types_same : (s t : List ℕ) (n k : ℕ) → ((i : ℕ) → i < k + 2 * n → cell_at t i ≡ cell_at s i) → types_at t n k ≡ types_at s n k
unfolding types_at
types_same s t zero k f = refl
types_same s t (suc n) k f =
    let a = f k (omega arith) in
    let b = f (k + 1) (omega arith) in
    ap₂ (λ (x : IrType) (xs : List IrType). x ∷ xs) (rw (a, b) refl) (types_same s t n (k + 2) (λ i l. f i (omega arith)))

-- ---- the sheet

module _ (s : List ℕ) (laid : LaidIn First s) (agree : Agree First s (ids First s)) where
  abbrev t : List ℕ
  t = cell_bytes (sheet_cells First Second s)

  held : Holds t 0 (sheet_cells First Second s)
  held = bytes_hold (sheet_cells First Second s) (small_sheet First Second s)

  whole : length t ≡ 8 * length (sheet_cells First Second s)
  whole = bytes_length (sheet_cells First Second s)

  cell : (i : ℕ) → i < params_from s → cell_at t i ≡ cell_at s i
  cell = same First Second s t laid agree held whole

  function_out : function_in Second t ≡ function_in First s
  unfolding function_in function_of
  function_out =
      let h = heads First Second s t laid agree held whole in
      let a = agreeing First Second s t laid agree held whole in
      let z = cell 0 (omega arith) in
      let o = cell 1 (omega arith) in
      let f = cell 5 (omega arith) in
      let vars : types_at t (cell_at s 0) 6 ≡ types_at s (cell_at s 0) 6 = types_same s t (cell_at s 0) 6 cell in
      let params = params_same h (cell_at s 1) (params_from s) (params_from s) a.0 (params_held First Second s t laid agree held whole) in
      let body = lines_same h (cell_at s 5) (body_from s) (params_from s + 1 * cell_at s 1) a.1 (instrs_held First Second s t laid agree held whole) in
      rw (z, o, f, cell 2 (omega arith), cell 3 (omega arith), cell 4 (omega arith), vars, params, body) refl

pub same_function : SameFunction
same_function Edition.First s room xs bytes h =
    let g = goes First s room h in
    rw g.are (function_out s g.laid g.agree)
same_function Edition.Second s room xs bytes h =
    let r = round_trip Second s room xs bytes h in
    let g = goes First (cell_bytes xs) (length s) (r.back (length s) (omega arith)) in
    sym (ap (function_in Second) (sym r.bytes ∙ ap cell_bytes g.are) ∙ function_out (cell_bytes xs) g.laid g.agree)
