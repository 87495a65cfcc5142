-- Which numbers the layout refuses by: tables by 1, a sheet of either edition by 2 and 3.
use Prim.Native.Nat.{ℕ, zero, suc, ◌+◌, ◌*◌, ◌≤◌}
use mathlib.Core.Path.{◌≡◌, refl, subst}
use mathlib.Core.Bool.{Bool, true, false, cond}
use mathlib.Core.List.{List}
use lib.Dec.{ltb, eqb, lit≤}
use lib.ListN.{length}
use native.Mathlib.Omega.{arith}
use Rattle.std.specs.Prelude.{Result, Ok, Err}
use Rattle.cells.specs.Cells.{Cell, cell_at, largest, read_cell, read_within, bind_cell}
use Rattle.cells.specs.declared.Cursor.{Cursor}
use Rattle.cells.specs.Refusals.{bad_table, torn_sheet, oversize, number_of_refusal}
use Rattle.cells.specs.declared.refusals.Refusal.{Refusal}
use Rattle.cells.specs.declared.refusals.Refused.{Refused}
use Rattle.ir.specs.Types.{no_array, offset_behind}
use Rattle.layout.specs.declared.Edition.{Edition}
use Rattle.layout.specs.Limits.{most_strings, most_floats, most_variables, most_parameters, most_labels, most_instructions, most_arguments, most_count}
use Rattle.layout.specs.Layout.{Checked, Limited, refuse, bind_limited, bind_checked, cursor, end_check, floats_check, tables_check, limited, count_check, zeros_check, fields_check, type_check, return_check, own_in, var_in, param_in, holds_var, operand_in, operands_in, first_field, flag_field, operation_most, has_dest, has_left, dest_in, side_in, call_check, body_in, instr_in, types_check, params_in, instrs_in, rest_in, head_in, sheet_in}

-- right, or refused by one of these numbers
pub data Off {A : Type 0} (P : ℕ → Type 0) : Result A Refused → Type 0 where
  right : {a : A} → Off P (Ok a)
  wrong : (r : Refused) → P (number_of_refusal r.refusal) → Off P (Err r)

-- the number of a refusal
pub off_by : {A : Type 0} {P : ℕ → Type 0} {x : Result A Refused} {r : Refused} → Off P x → x ≡ Err r → P (number_of_refusal r.refusal)
off_by right e = let z : ◌≡◌ {A = ℕ} 0 1 = cc in absurd (omega arith)
off_by {P} {r} (wrong m h) e = let l : m ≡ r = cc in subst (λ (r : Refused). P (number_of_refusal r.refusal)) l h

module _ {A : Type 0} {P : ℕ → Type 0} where
  pick : {x y : Result A Refused} (b : Bool) → Off P x → Off P y → Off P (cond b x y)
  pick true p q = p
  pick false p q = q

  cell : (n : Refusal) (x : Cell) {f : ℕ → Cursor → Result A Refused} → P (number_of_refusal n) → ((v : ℕ) (c : Cursor) → Off P (f v c)) → Off P (bind_cell (refuse n) x f)
  cell n (Ok x) h g = g x.0 x.1
  cell n (Err w) h g = wrong _ h

  next : {x : Checked} {f : Cursor → Result A Refused} → Off P x → ((c : Cursor) → Off P (f c)) → Off P (bind_checked Err x f)
  next right g = g _
  next (wrong r h) g = wrong r h

  word : {x : Limited} {f : ℕ → Cursor → Result A Refused} → Off P x → ((v : ℕ) (c : Cursor) → Off P (f v c)) → Off P (bind_limited Err x f)
  word right g = g _ _
  word (wrong r h) g = wrong r h

-- ---- tables

ending : {P : ℕ → Type 0} (n : Refusal) (s : List ℕ) (c : Cursor) → P (number_of_refusal n) → Off P (end_check n s c)
unfolding end_check
ending n s c h = pick (ltb (c.at * 8) (length s)) (wrong _ h) right

abbrev pub IsBadTable : ℕ → Type 0
IsBadTable n = n ≡ bad_table

floats_off : (t : List ℕ) (n : ℕ) (c : Cursor) → Off IsBadTable (floats_check t n c)
unfolding floats_check
floats_off t zero c = ending Refusal.BadTable t c refl
floats_off t (suc n) c = pick (ltb (c.at * 8) (length t)) (cell Refusal.BadTable (read_within t c 0 1) refl (λ v d. floats_off t n d)) right

pub tables_off : (t : List ℕ) → Off IsBadTable (tables_check t)
unfolding tables_check
tables_off t = cell Refusal.BadTable (read_within t (cursor 0) 0 most_strings) refl (λ v d. floats_off t most_floats d)

-- ---- sheets

abbrev pub TornOrOver : ℕ → Type 0
TornOrOver n = (torn_sheet ≤ n) × (n ≤ oversize)

torn : TornOrOver torn_sheet
torn = (lit≤ tt, lit≤ tt)

over : TornOrOver oversize
over = (lit≤ tt, lit≤ tt)

-- a count, and what follows it
count : {A : Type 0} (s : List ℕ) (c : Cursor) (most : ℕ) {f : ℕ → Cursor → Result A Refused} → ((v : ℕ) (c : Cursor) → Off TornOrOver (f v c)) →
    Off TornOrOver (bind_limited Err (limited s c most) f)
unfolding limited
count s c most {f} g = go (read_within s c 0 largest)
  where
    past : (v : ℕ) (d : Cursor) (b : Bool) → Off TornOrOver (bind_limited Err (cond b (refuse Refusal.Oversize c.at) (Ok (v, d))) f)
    past v d true = wrong _ over
    past v d false = g v d

    go : (x : Cell) →
        Off TornOrOver (bind_limited Err (bind_cell (refuse Refusal.TornSheet) x (λ v d. cond (ltb most v) (refuse Refusal.Oversize c.at) (Ok (v, d)))) f)
    go (Ok x) = past x.0 x.1 (ltb most x.0)
    go (Err w) = wrong _ torn

module _ (s : List ℕ) where
  count_off : (c : Cursor) → Off TornOrOver (count_check s c)
  unfolding count_check
  count_off c =
      cell Refusal.TornSheet (read_cell s c) torn (λ v d. pick (eqb v no_array) right
      (pick (ltb largest v) (wrong _ torn) (pick (ltb most_count v) (wrong _ over) right)))

  zeros_off : (n : ℕ) (c : Cursor) → Off TornOrOver (zeros_check s n c)
  unfolding zeros_check
  zeros_off zero c = right
  zeros_off (suc n) c = cell Refusal.TornSheet (read_within s c 0 0) torn (λ v d. zeros_off n d)

  fields_off : (c : Cursor) (x y z : ℕ) → Off TornOrOver (fields_check s c x y z)
  unfolding fields_check
  fields_off c x y z =
      cell Refusal.TornSheet (read_within s c 0 x) torn (λ v c1. cell Refusal.TornSheet (read_within s c1 0 y) torn (λ v c2. cell Refusal.TornSheet (read_within s c2 0 z) torn (λ v c3. right)))

  type_off : (c : Cursor) → Off TornOrOver (type_check s c)
  unfolding type_check
  type_off c = cell Refusal.TornSheet (read_within s c 1 12) torn (λ v d. count_off d)

  return_off : (c : Cursor) → Off TornOrOver (return_check s c)
  unfolding return_check
  return_off c =
      cell Refusal.TornSheet (read_within s c 0 12) torn (λ v d. pick (eqb v 0) (cell Refusal.TornSheet (read_within s d no_array no_array) torn (λ w e. right)) (count_off d))

  types_off : (n end : ℕ) (c : Cursor) → Off TornOrOver (types_check s n end c)
  unfolding types_check
  types_off zero end c = right
  types_off (suc n) end c =
      let offset : ℕ = offset_behind end (record { code = cell_at s c.at; count = cell_at s (c.at + 1) }) in
      next (type_off c) (λ d. pick (ltb most_count offset) (wrong _ over) (types_off n offset d))

  call_off : (c : Cursor) → Off TornOrOver (call_check s c)
  unfolding call_check
  call_off c =
      cell Refusal.TornSheet (read_within s c 0 largest) torn (λ v c1. count s c1 most_arguments (λ n c2. next (zeros_off 6 c2) (λ c3. right)))

own_off : (E : Edition) (s : List ℕ) (c : Cursor) → Off TornOrOver (own_in E s c)
own_off Edition.First s c = type_off s c
own_off Edition.Second s c = zeros_off s 2 c

var_off : (E : Edition) (s : List ℕ) (c : Cursor) → Off TornOrOver (var_in E s c)
unfolding var_in
var_off E s c = cell Refusal.TornSheet (read_within s c 0 largest) torn (λ v d. own_off E s d)

param_off : (E : Edition) (s : List ℕ) (c : Cursor) → Off TornOrOver (param_in E s c)
unfolding param_in
param_off Edition.First s c = var_off Edition.First s c
param_off Edition.Second s c = cell Refusal.TornSheet (read_within s c 0 largest) torn (λ v d. right)

module _ (E : Edition) (s : List ℕ) where
  operand_off : (c : Cursor) → Off TornOrOver (operand_in E s c)
  unfolding operand_in
  operand_off c =
      cell Refusal.TornSheet (read_within s c 0 6) torn (λ v d. pick (holds_var v) (var_off E s d) (fields_off s d (first_field v) (flag_field v) (flag_field v)))

  operands_off : (n : ℕ) (c : Cursor) → Off TornOrOver (operands_in E s n c)
  unfolding operands_in
  operands_off zero c = right
  operands_off (suc n) c = next (operand_off c) (λ d. operands_off n d)

  side_off : (b : Bool) (c : Cursor) → Off TornOrOver (side_in E s b c)
  unfolding side_in
  side_off b c = pick b (operand_off c) (zeros_off s 4 c)

  instr_off : (c : Cursor) → Off TornOrOver (instr_in E s c)
  unfolding instr_in dest_in body_in
  instr_off c =
      cell Refusal.TornSheet (read_within s c 0 10) torn (λ kind c1. cell Refusal.TornSheet (read_within s c1 0 (operation_most kind)) torn (λ op c2.
      next (pick (has_dest kind op) (var_off E s c2) (zeros_off s 3 c2)) (λ c3.
      pick (eqb kind 5) (word (call_off s c3) (λ n c4. operands_off n c4))
      (next (side_off (has_left kind) c3) (λ c4. side_off (eqb kind 2) c4)))))

  params_off : (n : ℕ) (c : Cursor) → Off TornOrOver (params_in E s n c)
  unfolding params_in
  params_off zero c = right
  params_off (suc n) c = next (param_off E s c) (λ d. params_off n d)

  instrs_off : (n : ℕ) (c : Cursor) → Off TornOrOver (instrs_in E s n c)
  unfolding instrs_in
  instrs_off zero c = right
  instrs_off (suc n) c = next (instr_off c) (λ d. instrs_off n d)

  head_off : Off TornOrOver (head_in E s)
  unfolding head_in rest_in
  head_off =
      count s (cursor 0) most_variables (λ vars c1. count s c1 most_parameters (λ params c2. count s c2 most_labels (λ labels c3.
      next (return_off s c3) (λ c4. count s c4 most_instructions (λ instrs c5.
      next (types_off s vars 0 c5) (λ c6. next (params_off params c6) (λ c7. right)))))))

  pub sheet_off : Off TornOrOver (sheet_in E s)
  unfolding sheet_in
  sheet_off = word head_off (λ instrs c. next (instrs_off instrs c) (λ end. ending Refusal.TornSheet s end torn))
