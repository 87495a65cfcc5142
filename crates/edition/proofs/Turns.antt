-- Lists of parts in a loop that is behind i of n: the part at hand, and those behind it.
use Rattle.std.proofs.Common.{◌≡◌, ℕ, suc, ◌+◌, ◌-◌, ◌<◌, ◌≤◌, List, [], ◌∷◌, ◌++◌, refl, arith}
use Rattle.cells.specs.Cells.{cells, cell_at, cells_from}
use Rattle.ir.specs.Function.{behind}
use Rattle.layout.specs.declared.Edition.{Edition}
use Rattle.layout.specs.Layout.{param_width}
use Rattle.edition.specs.Editions.{operand_id, operand_ids, instr_ids, instrs_ids, param_ids, operand_cells, operands_cells, instr_cells, instrs_cells, param_cells, params_cells}
use Rattle.edition.specs.Walked.{Entered, Present}

module _ (list : ℕ → ℕ → List ℕ) (k n i : ℕ) where
  turn : (part : List ℕ) (next : ℕ) → ((m : ℕ) → list (suc m) k ≡ part ++ list m next) → i < n → list (n - i) k ≡ part ++ list (n - (i + 1)) next
  turn part next more h = let l : n - i ≡ suc (n - (i + 1)) = omega arith in rw l (more (n - (i + 1)))

  no_turn : list 0 k ≡ [] → n ≤ i → list (n - i) k ≡ []
  no_turn none h = let l : n - i ≡ 0 = omega arith in rw l none

-- cells that are copied one by one, from the first on
module _ (s : List ℕ) (n i : ℕ) where
  pub cells_on : i < n → cells_from s i (n - i) ≡ (cell_at s i ∷ []) ++ cells_from s (i + 1) (n - (i + 1))
  unfolding cells_from
  cells_on = turn (λ m k. cells_from s k m) i n i (cell_at s i ∷ []) (i + 1) (λ m. refl)

  pub cells_off : n ≤ i → cells_from s i (n - i) ≡ []
  unfolding cells_from
  cells_off = no_turn (λ m k. cells_from s k m) i n i refl

module _ (s : List ℕ) (n i k : ℕ) where
  pub operand_ids_on : i < n → operand_ids s (n - i) k ≡ operand_id s k ++ operand_ids s (n - (i + 1)) (k + 4)
  unfolding operand_ids
  operand_ids_on = turn (operand_ids s) k n i (operand_id s k) (k + 4) (λ m. refl)

  pub operand_ids_off : n ≤ i → operand_ids s (n - i) k ≡ []
  unfolding operand_ids
  operand_ids_off = no_turn (operand_ids s) k n i refl

  pub instr_ids_on : i < n → instrs_ids s (n - i) k ≡ instr_ids s k ++ instrs_ids s (n - (i + 1)) (behind s k)
  unfolding instrs_ids
  instr_ids_on = turn (instrs_ids s) k n i (instr_ids s k) (behind s k) (λ m. refl)

  pub instr_ids_off : n ≤ i → instrs_ids s (n - i) k ≡ []
  unfolding instrs_ids
  instr_ids_off = no_turn (instrs_ids s) k n i refl

  module _ (e : Edition) where
    pub param_ids_on : i < n → param_ids e s (n - i) k ≡ (k ∷ []) ++ param_ids e s (n - (i + 1)) (k + param_width e)
    unfolding param_ids
    param_ids_on = turn (param_ids e s) k n i (k ∷ []) (k + param_width e) (λ m. refl)

    pub param_ids_off : n ≤ i → param_ids e s (n - i) k ≡ []
    unfolding param_ids
    param_ids_off = no_turn (param_ids e s) k n i refl

  module _ (f : Edition) where
    pub operands_on : i < n → operands_cells f s (n - i) k ≡ operand_cells f s k ++ operands_cells f s (n - (i + 1)) (k + 4)
    unfolding operands_cells
    operands_on = turn (operands_cells f s) k n i (operand_cells f s k) (k + 4) (λ m. refl)

    pub operands_off : n ≤ i → operands_cells f s (n - i) k ≡ []
    unfolding operands_cells
    operands_off = no_turn (operands_cells f s) k n i refl

    pub instrs_on : i < n → instrs_cells f s (n - i) k ≡ instr_cells f s k ++ instrs_cells f s (n - (i + 1)) (behind s k)
    unfolding instrs_cells
    instrs_on = turn (instrs_cells f s) k n i (instr_cells f s k) (behind s k) (λ m. refl)

    pub instrs_off : n ≤ i → instrs_cells f s (n - i) k ≡ []
    unfolding instrs_cells
    instrs_off = no_turn (instrs_cells f s) k n i refl

    module _ (e : Edition) where
      pub params_on : i < n → params_cells e f s (n - i) k ≡ param_cells f s k ++ params_cells e f s (n - (i + 1)) (k + param_width e)
      unfolding params_cells
      params_on = turn (params_cells e f s) k n i (param_cells f s k) (k + param_width e) (λ m. refl)

      pub params_off : n ≤ i → params_cells e f s (n - i) k ≡ []
      unfolding params_cells
      params_off = no_turn (params_cells e f s) k n i refl

  pub present_on : i < n → Present s (n - i) k → (behind s k ≤ cells s) × Present s (n - (i + 1)) (behind s k)
  unfolding Present
  present_on h p = let l : n - i ≡ suc (n - (i + 1)) = omega arith in rw l at p

pub entered_parts : (s xs ys : List ℕ) → Entered s (xs ++ ys) → Entered s xs × Entered s ys
entered_parts s [] ys h = (tt, h)
entered_parts s (x ∷ xs) ys h = let r = entered_parts s xs ys h.1 in ((h.0, r.0), r.1)
