-- Auxiliary: parts of the plain test that one function of it decides. `verdict`, with the lowering's answer, is the first fault (machine's `first_fault`) by the
-- laws of proofs/Answered.antt.
use Rattle.std.specs.Prelude.{◌≡◌, ℕ, suc, ◌+◌, ◌%◌, ◌^◌, ◌<◌, ◌≤◌, Bool, cond, not, ◌&&◌, ◌||◌, List, [], ◌∷◌, length, take, ◌==◌, nat_le, nat_lt, slice_index, slice_set, Option, Some, None}
use Rattle.ir.specs.declared.«Type».{«Type» as IrType}
use Rattle.ir.specs.declared.VarId.{VarId}
use Rattle.ir.specs.declared.Operand.{Operand}
use Rattle.ir.specs.declared.Instr.{Instr}
use Rattle.x86.specs.declared.enums.Instruction.{Instruction}
use Rattle.ir.specs.Types.{bytes}
use Rattle.ir.specs.Function.{Function, Line}
use Rattle.layout.specs.Limits.{most_labels, most_instructions}
use Rattle.codegen.specs.Generation.{accepted, refused, compiled}
use Rattle.machine.specs.Word.{W}
use Rattle.machine.specs.Steps.{width}
use Rattle.machine.specs.Plain.{every, is_plain_code, is_plain_head, is_scalar_var, is_plain_operand, is_plain_instr, label_count}

-- a type's code is plain
abbrev pub has_plain_code : IrType → Bool
has_plain_code t = is_plain_code t.code

-- the pattern of a number from -2^31 to `end` - 1
abbrev pub lies_below : ℕ → ℕ → Bool
lies_below end v = nat_lt ((v + 2 ^ 31) % W) (end + 2 ^ 31)

-- left's width is dest's
abbrev pub is_same : VarId → Operand → Bool
is_same d x = width x == bytes d.ty

-- dest and left
abbrev pub is_plain_pair : Function → VarId → Operand → Bool
is_plain_pair F d x = is_scalar_var F d && is_plain_operand F x

-- a cast from four bytes to eight has a dest of code 1 or 2
abbrev pub is_wide : VarId → Operand → Bool
is_wide d x = not (width x == 4 && bytes d.ty == 8) || (d.ty.code == 1 || d.ty.code == 2)

-- the label that an instruction names; 0 for one that names none
abbrev pub label_of : Instr → ℕ
label_of (Instr.Label l) = l
label_of (Instr.Jump l) = l
label_of (Instr.JumpIfNot x l) = l
label_of _ = 0

-- no label is beyond the limit
unfoldable pub are_named : List Line → Bool
are_named is = every (λ i. nat_lt (label_of i.instr) most_labels) is

-- how often each label stands among lines
pub record Counts (lines : List Line) (counts : List ℕ) : Type 0 where
  pub long : length counts ≡ most_labels
  pub each : (l : ℕ) → l < most_labels → slice_index counts l ≡ label_count l lines

-- there is room for more instructions
pub record Few (counts : List ℕ) : Type 0 where
  pub each : (l : ℕ) → l < most_labels → slice_index counts l ≤ most_instructions

-- the counts behind one more instruction: those of a label have grown by one
abbrev pub one_more : Instr → List ℕ → List ℕ
one_more (Instr.Label l) counts = cond (nat_le most_labels l) counts (slice_set counts l (slice_index counts l + 1))
one_more _ counts = counts

-- the first instruction at fault, where the first is number k, behind the lines `before`
unfoldable pub first_of : Function → List Line → ℕ → List Line → Option ℕ
first_of F before k [] = None
first_of F before k (i ∷ is) = cond (is_plain_instr F before i.instr) (first_of F (i ∷ before) (suc k) is) (Some k)

-- of the head and the first n instructions
unfoldable pub verdict : Function → ℕ → Option ℕ
verdict F n = cond (is_plain_head F) (first_of F [] 1 (take n F.body)) (Some 0)

-- ---- what the lowering answers, with some tables

-- the lowering accepts the sheet
pub record Accepts (s : List ℕ) : Type 0 where
  pub tables : List ℕ
  pub list : List Instruction
  pub is : compiled tables s ≡ accepted list

-- the lowering refuses the sheet by this number, at this place
pub record Refuses (s : List ℕ) (number place : ℕ) : Type 0 where
  pub tables : List ℕ
  pub is : compiled tables s ≡ refused number place
