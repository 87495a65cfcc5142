-- Auxiliary: what a sheet comes to before a record of it is written: its layout, the bytes of its frame, and how many records it makes, as many as codegen's
-- `compiled` has by `survey_says` (proofs/Lowering).
use Rattle.std.specs.Prelude.{ℕ, ◌+◌, ◌*◌, ◌/◌, ◌≡◌, List, length}
use Rattle.cells.specs.Cells.{cell_at}
use Rattle.std.specs.Prelude.{Ok, Err}
use Rattle.std.specs.Prelude as std
use Rattle.cells.specs.declared.refusals.Refused.{Refused as Refusing}
use Rattle.cells.specs.Refusals.{number_of_refusal}
use Rattle.ir.specs.Answers.{says}
use Rattle.ir.specs.Types as types
use Rattle.ir.specs.Types.{Result, ok}
use Rattle.ir.specs.Function.{types_at}
use Rattle.cells.specs.declared.Cursor.{Cursor}
use Rattle.layout.specs.Layout.{bind_checked, bind_limited, tables_check, head_check, Laid}
use Rattle.x86.specs.declared.enums.Instruction.{Instruction}
use Rattle.codegen.specs.Frame.{offsets_from}
use Rattle.codegen.specs.Generation.{Outcome, accepted, refused, ◌>>=◌, at, compiled}
use Rattle.utils.specs.Answers.{lent, counted}
use Rattle.frame.specs.Sizes.{sizes_at, offsets_after}
use Rattle.body.specs.Body.{Passed}
use Rattle.generation.specs.declared.pass.Head.{Head}
use Rattle.generation.specs.declared.pass.Frame.{Frame as Framed}
use Rattle.generation.specs.Pass.{ending, list_of}

-- ---- the sheet is opened

-- A sheet has the last offset of its variables and the cursor of the first instruction, or a refusal with its place.
pub data Opened : Type 0 where
  Sheet : Result ℕ → Cursor → Opened
  Refused : ℕ → ℕ → Opened

abbrev pub off : Refusing → Opened
off r = Opened.Refused (number_of_refusal r.refusal) r.place

-- The tables are checked, then the sheet's head. The last offset of the variables and the cursor of the first instruction come of it.
unfoldable pub opening : List ℕ → List ℕ → Opened
opening tables s = bind_checked off (tables_check tables) (λ end. bind_limited off (head_check s) (λ instrs from. Opened.Sheet (sizes_at s (cell_at s 0) 6) from))

-- The numbers afterwards are the offsets of the variables and the old numbers behind them, or the old numbers.
unfoldable pub offsets_opened : List ℕ → List ℕ → List ℕ → List ℕ
offsets_opened tables s old = bind_checked (λ r. old) (tables_check tables) (λ end. bind_limited (λ r. old) (head_check s) (λ instrs from. offsets_after s (cell_at s 0) 6 old))

-- ---- the list

-- The prologue, the body, and the epilogue unless the last record is Ret are counted.
abbrev pub counted_list : Result (List Instruction) → Passed → Outcome ℕ
counted_list prologue (Passed.Made rest ret) = at 0 (counted prologue) >>= λ first. accepted (first + rest + length (ending ret))
counted_list prologue (Passed.Refused n place) = at 0 (counted prologue) >>= λ first. refused n place

-- The frame of a total is the least multiple of 16 that is not below it.
abbrev pub rounded : ℕ → ℕ
rounded total = (total + 15) / 16 * 16

-- It comes to the bytes of the frame and a number of records, or a refusal with its place.
pub data Counted : Type 0 where
  Frame : ℕ → ℕ → Counted
  Refused : ℕ → ℕ → Counted

abbrev pub framed : ℕ → Outcome ℕ → Counted
framed bytes (accepted n) = Counted.Frame bytes n
framed bytes (refused n place) = Counted.Refused n place

-- The list follows the last offset of the variables.
abbrev pub sized_then : Result ℕ → (ℕ → Outcome ℕ) → Counted
sized_then (ok total) rest = framed (rounded total) (rest (rounded total))
sized_then (types.refused n) rest = Counted.Refused n 0

-- ---- the whole

-- The tables are right, and so is the sheet's head. The offsets and the total are those of its variables.
pub record Opens (tables s offsets : List ℕ) (total : Result ℕ) (from : Cursor) : Type 0 where
  pub end : Cursor
  pub first : tables_check tables ≡ Ok end
  pub head : head_check s ≡ Ok (cell_at s 5, from)
  pub sizes : total ≡ sizes_at s (cell_at s 0) 6
  pub slots : offsets ≡ offsets_from 0 (types_at s (cell_at s 0) 6)

abbrev pub counted_says : Counted → Outcome ℕ
counted_says (Counted.Frame bytes n) = accepted n
counted_says (Counted.Refused n place) = refused n place

-- The list is written from a sheet whose layout is right, the offsets and the frame.
pub record Lends (tables s offsets : List ℕ) (bytes : ℕ) : Type 0 where
  pub laid : Laid s
  pub list : compiled tables s ≡ list_of (lent tables offsets) bytes s

abbrev pub LendsIf : Counted → List ℕ → List ℕ → List ℕ → Type 0
LendsIf (Counted.Frame bytes n) tables s offsets = Lends tables s offsets bytes
LendsIf (Counted.Refused n place) tables s offsets = Unit {0}

-- ---- the code's answers

abbrev pub opened_says : std.Result Head Refusing → Opened
opened_says (Ok h) = Opened.Sheet (says h.total) h.from
opened_says (Err r) = Opened.Refused (number_of_refusal r.refusal) r.place

abbrev pub frame_says : std.Result Framed Refusing → Counted
frame_says (Ok f) = Counted.Frame f.bytes f.records
frame_says (Err r) = Counted.Refused (number_of_refusal r.refusal) r.place
