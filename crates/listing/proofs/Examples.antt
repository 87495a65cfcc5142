-- The text of the listing example, by computation, and of the inputs that are not lowered (docs/FORMAT.md, "The listing program").
use Prim.Native.Nat.{ℕ, ◌^◌, ◌≤◌, ◌<◌}
use mathlib.Core.Path.{◌≡◌, refl}
use mathlib.Core.List.{List, [], ◌∷◌, flatten, append-nil}
use native.Mathlib.Omega.{arith}
use lib.ListN.{length}
use borrow.Author.Tests.{lt-ltb, le-ltb}
use Rattle.cells.specs.Cells.{cells, cell_at, minus}
use Rattle.x86.specs.declared.enums.Size.{Size}
use Rattle.x86.specs.declared.enums.Operand.{Operand}
use Rattle.x86.specs.declared.enums.BinOp.{BinOp}
use Rattle.x86.specs.declared.enums.StackOp.{StackOp}
use Rattle.x86.specs.declared.enums.CtrlOp.{CtrlOp}
use Rattle.x86.specs.declared.enums.Instruction.{Instruction}
use Rattle.x86.specs.Registers.{RAX, RSP, RBP, RDI, rbp_plus}
use Rattle.x86.specs.Records.{record_of}
use Rattle.codegen.specs.Generation.{accepted}
use Rattle.text.specs.Text.{digits, signed, numbers_line, ok_line, refused_line, too_long_line}
use Rattle.text.specs.Input.{split_of}
use Rattle.listing.specs.Listing.{record_line, answer_lines, listing_lines, listing_text}

-- the eight records of the listing example
eight : List Instruction
eight =
    Instruction.Stack StackOp.Push (Operand.Reg RBP) Size.NoSize
    ∷ Instruction.Binary BinOp.Mov (Operand.Reg RBP) (Operand.Reg RSP) Size.NoSize
    ∷ Instruction.Binary BinOp.Sub (Operand.Reg RSP) (Operand.Imm 16) Size.NoSize
    ∷ Instruction.Binary BinOp.Mov (rbp_plus (minus 4)) (Operand.Reg RDI) Size.U32
    ∷ Instruction.Binary BinOp.Mov (Operand.Reg RAX) (rbp_plus (minus 4)) Size.U32
    ∷ Instruction.Binary BinOp.Mov (Operand.Reg RSP) (Operand.Reg RBP) Size.NoSize
    ∷ Instruction.Stack StackOp.Pop (Operand.Reg RBP) Size.NoSize
    ∷ Instruction.Ctrl CtrlOp.Ret Operand.NoOperand ∷ []

-- `ok 8`, `14 0 1 5 0 0 0 0` and so on
eight_lines : answer_lines (accepted eight) ≡
    (111 ∷ 107 ∷ 32 ∷ 56 ∷ 10 ∷ [])
    ∷ (49 ∷ 52 ∷ 32 ∷ 48 ∷ 32 ∷ 49 ∷ 32 ∷ 53 ∷ 32 ∷ 48 ∷ 32 ∷ 48 ∷ 32 ∷ 48 ∷ 32 ∷ 48 ∷ 10 ∷ [])
    ∷ (48 ∷ 32 ∷ 48 ∷ 32 ∷ 49 ∷ 32 ∷ 53 ∷ 32 ∷ 49 ∷ 32 ∷ 52 ∷ 32 ∷ 48 ∷ 32 ∷ 48 ∷ 10 ∷ [])
    ∷ (48 ∷ 32 ∷ 51 ∷ 32 ∷ 49 ∷ 32 ∷ 52 ∷ 32 ∷ 50 ∷ 32 ∷ 49 ∷ 54 ∷ 32 ∷ 48 ∷ 32 ∷ 48 ∷ 10 ∷ [])
    ∷ (48 ∷ 32 ∷ 48 ∷ 32 ∷ 53 ∷ 32 ∷ 45 ∷ 52 ∷ 32 ∷ 49 ∷ 32 ∷ 55 ∷ 32 ∷ 52 ∷ 32 ∷ 48 ∷ 10 ∷ [])
    ∷ (48 ∷ 32 ∷ 48 ∷ 32 ∷ 49 ∷ 32 ∷ 48 ∷ 32 ∷ 53 ∷ 32 ∷ 45 ∷ 52 ∷ 32 ∷ 52 ∷ 32 ∷ 48 ∷ 10 ∷ [])
    ∷ (48 ∷ 32 ∷ 48 ∷ 32 ∷ 49 ∷ 32 ∷ 52 ∷ 32 ∷ 49 ∷ 32 ∷ 53 ∷ 32 ∷ 48 ∷ 32 ∷ 48 ∷ 10 ∷ [])
    ∷ (49 ∷ 52 ∷ 32 ∷ 49 ∷ 32 ∷ 49 ∷ 32 ∷ 53 ∷ 32 ∷ 48 ∷ 32 ∷ 48 ∷ 32 ∷ 48 ∷ 32 ∷ 48 ∷ 10 ∷ [])
    ∷ (54 ∷ 32 ∷ 50 ∷ 32 ∷ 48 ∷ 32 ∷ 48 ∷ 32 ∷ 48 ∷ 32 ∷ 48 ∷ 32 ∷ 48 ∷ 32 ∷ 48 ∷ 10 ∷ []) ∷ []
unfolding digits signed numbers_line ok_line record_of record_line eight
eight_lines = refl

module _ (s : List ℕ) where
  -- input over 65,536 bytes
  over : 65536 < length s → listing_text s ≡ too_long_line
  unfolding listing_text listing_lines split_of flatten
  over h = rw (lt-ltb 65536 (length s) h)

  -- a first cell that is missing
  missing : length s < 8 → listing_text s ≡ refused_line 1 0
  unfolding listing_text listing_lines split_of flatten
  missing h = rw (le-ltb 65536 (length s) (omega arith), le-ltb 0 (cells s) (omega arith)) (append-nil (refused_line 1 0))

  -- .. or beyond the cells that follow
  beyond : 8 ≤ length s → length s ≤ 65536 → cells s ≤ cell_at s 0 → listing_text s ≡ refused_line 1 0
  unfolding listing_text listing_lines split_of flatten
  beyond g f h =
      rw (le-ltb 65536 (length s) f, lt-ltb 0 (cells s) (omega arith), le-ltb (cell_at s 0) (cells s) h) (append-nil (refused_line 1 0))

  -- .. or negative
  negative : 8 ≤ length s → length s ≤ 65536 → 2 ^ 63 ≤ cell_at s 0 → listing_text s ≡ refused_line 1 0
  negative g f h = beyond g f (omega arith)
