-- A sheet, carried from edition e into edition f.
use Prim.Native.Nat.{ℕ, zero, suc, ◌+◌, ◌*◌, ◌≤◌, ◌<◌}
use mathlib.Core.Path.{◌≡◌, refl, sym, ap, ap₂, ◌∙◌}
use mathlib.Core.Bool.{Bool, true, false, cond}
use mathlib.Core.List.{List, ◌++◌}
use native.Mathlib.Omega.{arith}
use borrow.Author.Tests.{le-ltb}
use lib.Dec.{eqb, lit≤}
use lib.ListN.{length, length-append}
use Rattle.cells.specs.Cells.{cells, cell_at, cells_from, cell_bytes}
use Rattle.std.specs.Prelude.{Ok}
use Rattle.cells.specs.declared.refusals.Refusal.{Refusal}
use Rattle.cells.proofs.Bytes.{word_lt}
use Rattle.ir.specs.Function.{arguments_at, behind, params_from}
use Rattle.layout.specs.declared.Edition.{Edition}
use Rattle.layout.specs.Limits.{most_variables, most_parameters, most_labels, most_instructions}
use Rattle.layout.specs.Layout.{cursor, end_check, return_check, param_width, body_start, holds_var, has_dest, has_left, types_check, params_in, instrs_in, rest_in, head_in, sheet_in, LaidIn}
use Rattle.layout.proofs.Passed.{Held}
use Rattle.layout.proofs.Laws.{RightHead, sheet_right}
use Rattle.layout.proofs.Walk.{has_head, has_params, walk_from}
use Rattle.edition.specs.Editions.{param_ids, instrs_ids, ids, entry_at, own_cells, var_cells, param_cells, operand_cells, dest_cells, side_cells, operands_cells, instr_cells, instrs_cells, params_cells, sheet_cells}
use Rattle.cells.proofs.Lists.{bytes_append, Holds, holds_append, holds_from, holds_starts, from_there, from_at, from_length, from_split, Small, small_append, small_from}
use Rattle.edition.proofs.Moves.{return_moves, limited_goes, types_each, types_move}
use Rattle.edition.proofs.Parts.{Agree, agree_append, agree_both, Heads, Carried, params_carried, params_length}
use Rattle.edition.proofs.Lines.{instrs_end, instrs_carried}
use Rattle.edition.specs.Walked.{Entered}
use Rattle.edition.proofs.Turns.{entered_parts}
use Rattle.edition.proofs.Written.{laid_present}

-- ---- every cell of a result is a cell

module _ (f : Edition) (s : List ℕ) where
  small_own : (g : Edition) (id : ℕ) → Small (own_cells g s id)
  small_own Edition.First id = (word_lt s (entry_at id * 8), (word_lt s ((entry_at id + 1) * 8), tt))
  small_own Edition.Second id = (lit≤ tt, (lit≤ tt, tt))

  small_var : (k : ℕ) → Small (var_cells f s k)
  unfolding var_cells
  small_var k = (word_lt s (k * 8), small_own f (cell_at s k))

  small_operand : (k : ℕ) → Small (operand_cells f s k)
  unfolding operand_cells
  small_operand k = (word_lt s (k * 8), go (holds_var (cell_at s k)))
    where
      go : (b : Bool) → Small (cond b (var_cells f s (k + 1)) (cells_from s (k + 1) 3))
      go true = small_var (k + 1)
      go false = small_from s 3 (k + 1)

  small_dest : (has : Bool) (k : ℕ) → Small (dest_cells f s has k)
  small_dest true k = small_var k
  small_dest false k = small_from s 3 k

  small_side : (has : Bool) (k : ℕ) → Small (side_cells f s has k)
  small_side true k = small_operand k
  small_side false k = small_from s 4 k

  small_operands : (n k : ℕ) → Small (operands_cells f s n k)
  unfolding operands_cells
  small_operands zero k = tt
  small_operands (suc n) k = small_append (operand_cells f s k) (operands_cells f s n (k + 4)) (small_operand k) (small_operands n (k + 4))

  small_instr : (k : ℕ) → Small (instr_cells f s k)
  unfolding instr_cells
  small_instr k =
      small_append (cells_from s k 2) _ (small_from s 2 k)
      (small_append (dest_cells f s (has_dest (cell_at s k) (cell_at s (k + 1))) (k + 2)) _ (small_dest (has_dest (cell_at s k) (cell_at s (k + 1))) (k + 2))
      (small_append (side_cells f s (has_left (cell_at s k)) (k + 5)) _ (small_side (has_left (cell_at s k)) (k + 5))
      (small_append (side_cells f s (eqb (cell_at s k) 2) (k + 9)) (operands_cells f s (arguments_at s k) (k + 13)) (small_side (eqb (cell_at s k) 2) (k + 9))
      (small_operands (arguments_at s k) (k + 13)))))

  small_instrs : (n k : ℕ) → Small (instrs_cells f s n k)
  unfolding instrs_cells
  small_instrs zero k = tt
  small_instrs (suc n) k = small_append (instr_cells f s k) (instrs_cells f s n (behind s k)) (small_instr k) (small_instrs n (behind s k))

small_param : (f : Edition) (s : List ℕ) (k : ℕ) → Small (param_cells f s k)
unfolding param_cells
small_param Edition.First s k = small_var Edition.First s k
small_param Edition.Second s k = (word_lt s (k * 8), tt)

small_params : (e f : Edition) (s : List ℕ) (n k : ℕ) → Small (params_cells e f s n k)
unfolding params_cells
small_params e f s zero k = tt
small_params e f s (suc n) k = small_append (param_cells f s k) (params_cells e f s n (k + param_width e)) (small_param f s k) (small_params e f s n (k + param_width e))

pub small_sheet : (e f : Edition) (s : List ℕ) → Small (sheet_cells e f s)
unfolding sheet_cells
small_sheet e f s =
    small_append (cells_from s 0 (params_from s)) _ (small_from s (params_from s) 0)
    (small_append (params_cells e f s (cell_at s 1) (params_from s)) (instrs_cells f s (cell_at s 5) (body_start e s)) (small_params e f s (cell_at s 1) (params_from s))
    (small_instrs f s (cell_at s 5) (body_start e s)))

-- ---- how many cells there are

pub cells_is : (e f : Edition) (s : List ℕ) → LaidIn e s →
    cells s ≡ params_from s + (param_width e * cell_at s 1 + length (instrs_cells f s (cell_at s 5) (body_start e s)))
cells_is e f s laid =
    let r = sheet_right e s laid.is in
    let q = instrs_end f s e (cell_at s 5) (body_start e s) r.body in
    omega (arith, r.whole)

pub sheet_length : (e f : Edition) (s : List ℕ) →
    length (sheet_cells e f s) ≡ params_from s + param_width f * cell_at s 1 + length (instrs_cells f s (cell_at s 5) (body_start e s))
unfolding sheet_cells
sheet_length e f s =
    let P = params_cells e f s (cell_at s 1) (params_from s) in
    let I = instrs_cells f s (cell_at s 5) (body_start e s) in
    omega (
      arith,
      length-append (cells_from s 0 (params_from s)) (P ++ I),
      length-append P I,
      from_length s (params_from s) 0,
      params_length e f s (cell_at s 1) (params_from s),
    )

-- ---- the sheet

module _ (e f : Edition) (s t : List ℕ) (laid : LaidIn e s) (agree : Agree e s (ids e s)) (held : Holds t 0 (sheet_cells e f s))
    (whole : length t ≡ 8 * length (sheet_cells e f s)) where
  source : RightHead e s
  source = has_head laid

  -- the cells of header and types, of the parameters and of the instructions, in their places
  record Placed : Type 0 where
    head : Holds t 0 (cells_from s 0 (params_from s))
    params : Holds t (params_from s) (params_cells e f s (cell_at s 1) (params_from s))
    instrs : Holds t (params_from s + param_width f * cell_at s 1) (instrs_cells f s (cell_at s 5) (body_start e s))

  placed : Placed
  unfolding sheet_cells
  placed =
      let P = params_cells e f s (cell_at s 1) (params_from s) in
      let I = instrs_cells f s (cell_at s 5) (body_start e s) in
      let a = holds_append t 0 (cells_from s 0 (params_from s)) (P ++ I) held in
      let l : 0 + length (cells_from s 0 (params_from s)) ≡ params_from s = omega (arith, from_length s (params_from s) 0) in
      let b = holds_append t (params_from s) P I (holds_from t (P ++ I) l a.1) in
      record { head = a.0; params = b.0; instrs = holds_from t I (ap (λ (n : ℕ). params_from s + n) (params_length e f s (cell_at s 1) (params_from s))) b.1 }

  pub params_held : Holds t (params_from s) (params_cells e f s (cell_at s 1) (params_from s))
  params_held = placed.params

  pub instrs_held : Holds t (params_from s + param_width f * cell_at s 1) (instrs_cells f s (cell_at s 5) (body_start e s))
  instrs_held = placed.instrs

  pub same : (i : ℕ) → i < params_from s → cell_at t i ≡ cell_at s i
  same i l = let z : 0 + i ≡ i = omega arith in rw z at (from_at s t (params_from s) 0 0 placed.head i l)

  -- the header and the types are the same
  here : params_from s ≤ cells t
  here = holds_starts t (params_from s) (params_cells e f s (cell_at s 1) (params_from s)) placed.params

  vars_same : cell_at t 0 ≡ cell_at s 0
  vars_same = same 0 (omega arith)

  params_same : cell_at t 1 ≡ cell_at s 1
  params_same = same 1 (omega arith)

  instrs_same : cell_at t 5 ≡ cell_at s 5
  instrs_same = same 5 (omega arith)

  pub heads : Heads s t
  heads =
      record {
        vars = vars_same;
        right = λ id l. types_each s (cell_at s 0) 0 6 source.types id l;
        code = λ id l. same (6 + 2 * id) (omega arith);
        count = λ id l. same (6 + 2 * id + 1) (omega arith);
      }

  head_held : (k most : ℕ) → k < 6 → cell_at s k ≤ most → Held t k 0 most
  head_held k most l h = let q = same k (omega arith) in record { there = omega (arith, here); least = omega arith; most = omega arith }

  returned : return_check t (cursor 3) ≡ Ok (cursor 5)
  unfolding cells_from
  returned =
      return_moves s t 3 3 source.returned (omega (arith, here), same 3 (omega arith), (omega (arith, here), same 4 (omega arith), omega (arith, here)))

  typed : types_check t (cell_at s 0) 0 (cursor 6) ≡ Ok (cursor (params_from s))
  typed = types_move s t (cell_at s 0) 0 6 source.types here same

  -- the parameters and the instructions
  abbrev last : ℕ
  last = params_from s + param_width f * cell_at s 1 + length (instrs_cells f s (cell_at s 5) (body_start e s))

  pub agreeing : Agree e s (param_ids e s (cell_at s 1) (params_from s)) × Agree e s (instrs_ids s (cell_at s 5) (body_start e s))
  unfolding ids
  agreeing = agree_append e s (param_ids e s (cell_at s 1) (params_from s)) (instrs_ids s (cell_at s 5) (body_start e s)) agree

  params : Carried s (params_from s) (param_width e * cell_at s 1) (params_in f t (cell_at s 1) (cursor (params_from s))) (params_from s + param_width f * cell_at s 1)
      (params_cells f e t (cell_at s 1) (params_from s)) (Agree f t (param_ids f t (cell_at s 1) (params_from s)))
  params = params_carried heads e f (cell_at s 1) (params_from s) (params_from s) source.listed agreeing.0 placed.params

  instrs : Carried s (body_start e s) (length (instrs_cells f s (cell_at s 5) (body_start e s))) (instrs_in f t (cell_at s 5) (cursor (params_from s + param_width f * cell_at s 1))) last
      (instrs_cells e t (cell_at s 5) (params_from s + param_width f * cell_at s 1)) (Agree f t (instrs_ids t (cell_at s 5) (params_from s + param_width f * cell_at s 1)))
  instrs = instrs_carried heads e f (cell_at s 5) (body_start e s) (params_from s + param_width f * cell_at s 1) (walk_from laid).is agreeing.1 placed.instrs

  -- ---- it is right

  ended : end_check Refusal.TornSheet t (cursor last) ≡ Ok (cursor last)
  unfolding end_check
  ended = rw (le-ltb (last * 8) (length t) (omega (arith, whole, sheet_length e f s))) refl

  head_right : head_in f t ≡ Ok ((cell_at s 5), (cursor (params_from s + param_width f * cell_at s 1)))
  unfolding head_in rest_in
  head_right =
      limited_goes t 0 most_variables _ (head_held 0 most_variables (lit≤ tt) source.vars) (lit≤ tt)
      ∙ limited_goes t 1 most_parameters _ (head_held 1 most_parameters (lit≤ tt) source.params) (lit≤ tt)
      ∙ limited_goes t 2 most_labels _ (head_held 2 most_labels (lit≤ tt) source.labels) (lit≤ tt)
      ∙ rw returned (limited_goes t 5 most_instructions _ (head_held 5 most_instructions (lit≤ tt) source.instrs) (lit≤ tt)
      ∙ rw (vars_same, params_same, instrs_same, typed, params.right) refl)

  pub carried_laid : LaidIn f t
  unfolding sheet_in
  carried_laid = record { end = cursor last; is = rw (head_right, instrs.right) ended }

  -- ---- its ids agree with their entries

  pub carried_agrees : Agree f t (ids f t)
  unfolding ids
  carried_agrees =
      rw (vars_same, params_same, instrs_same)
      (agree_both f t (param_ids f t (cell_at s 1) (params_from s)) (instrs_ids t (cell_at s 5) (params_from s + param_width f * cell_at s 1)) params.entries instrs.entries)

  -- ---- and back it is what it was

  pub carried_again : sheet_cells f e t ≡ cells_from s 0 (cells s)
  unfolding sheet_cells
  carried_again =
      let n = length (instrs_cells f s (cell_at s 5) (body_start e s)) in
      let app : List ℕ → List ℕ → List ℕ = λ l r. l ++ r in
      let h : cells_from t 0 (params_from s) ≡ cells_from s 0 (params_from s)
      = ap (cells_from t 0) (sym (from_length s (params_from s) 0)) ∙ from_there t 0 (cells_from s 0 (params_from s)) placed.head in
      rw (vars_same, params_same, instrs_same)
      (ap₂ app h (ap₂ app params.again instrs.again
      ∙ from_split s (param_width e * cell_at s 1) n (params_from s) (body_start e s) (param_width e * cell_at s 1 + n) refl refl)
      ∙ from_split s (params_from s) (param_width e * cell_at s 1 + n) 0 (params_from s) (cells s) (omega arith) (cells_is e f s laid))

-- ---- its parts are written, and counted

pub sheet_bytes : (e f : Edition) (s : List ℕ) →
    cell_bytes (sheet_cells e f s)
    ≡ cell_bytes (cells_from s 0 (params_from s)) ++ (cell_bytes (params_cells e f s (cell_at s 1) (params_from s)) ++ cell_bytes (instrs_cells f s (cell_at s 5) (body_start e s)))
unfolding sheet_cells
sheet_bytes e f s = simp bytes_append

pub sheet_entered : (e : Edition) (s : List ℕ) → Entered s (ids e s) →
    Entered s (param_ids e s (cell_at s 1) (params_from s)) × Entered s (instrs_ids s (cell_at s 5) (body_start e s))
unfolding ids
sheet_entered e s h = entered_parts s (param_ids e s (cell_at s 1) (params_from s)) (instrs_ids s (cell_at s 5) (body_start e s)) h

pub ruleset sheet_writing = (has_params, laid_present, sheet_bytes, sheet_entered, sheet_length)

pub ruleset counting = (cells_is, sheet_length)
