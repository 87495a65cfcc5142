-- Believed: the scope's table of twelve cases, with those of signed division (M-106): what the definitions give beside what docs/FORMAT.md says.
-- Sheets are given by their cells, values by a run. No other claim rests on it.
use Prim.Native.Nat.{ℕ, ◌+◌, ◌*◌, ◌^◌}
use Rattle.std.specs.Prelude.{◌≡◌, false, List, [], ◌∷◌, ◌++◌, map}
use lib.ListN.{length, get_or, take, drop, replicate}
use Rattle.cells.specs.Cells.{bytes_of, minus, word}
use Rattle.ir.specs.Types as types
use Rattle.ir.specs.Types.{Result, ok}
use Rattle.ir.specs.Function.{function_of}
use Rattle.x86.specs.declared.enums.Instruction.{Instruction}
use Rattle.codegen.specs.Frame.{var_offsets}
use Rattle.codegen.specs.Generation.{Outcome, accepted, refused, lowered, records_after}
use Rattle.machine.specs.Frames.{offset}
use Rattle.machine.specs.Machine as x86
use Rattle.machine.specs.Machine.{State, Choice}
use Rattle.machine.specs.Steps as steps
use Rattle.machine.specs.Simulation.{Entry, start}

-- ---- cells

abbrev pub from_cells : List ℕ → List ℕ
from_cells [] = []
from_cells (c ∷ cs) = bytes_of c ++ from_cells cs

abbrev pub to_cells : ℕ → List ℕ → List ℕ
to_cells Prim.Native.Nat.zero bs = []
to_cells (Prim.Native.Nat.suc n) bs = word bs 0 ∷ to_cells n (lib.ListN.drop 8 bs)

-- a sheet: header counts and return type none, then variable types, parameters and instructions
abbrev pub sheet : ℕ → ℕ → ℕ → List ℕ → List ℕ
sheet vars params instrs rest = from_cells (vars ∷ params ∷ 0 ∷ 0 ∷ minus 1 ∷ instrs ∷ rest)

-- types: long, unsigned long, short, Bool, and arrays of Bytes, shorts and longs
abbrev pub long : List ℕ
long = 1 ∷ minus 1 ∷ []

abbrev pub unsigned_long : List ℕ
unsigned_long = 2 ∷ minus 1 ∷ []

abbrev pub short : List ℕ
short = 3 ∷ minus 1 ∷ []

abbrev pub bool : List ℕ
bool = 7 ∷ minus 1 ∷ []

abbrev pub byte_array : ℕ → List ℕ
byte_array n = 9 ∷ n ∷ []

abbrev pub short_array : ℕ → List ℕ
short_array n = 3 ∷ n ∷ []

abbrev pub long_array : ℕ → List ℕ
long_array n = 1 ∷ n ∷ []

-- operands: a variable, a constant that is short or long, signed or not, float constant 0, nothing
abbrev pub var : ℕ → List ℕ → List ℕ
var id ty = 0 ∷ id ∷ ty

abbrev pub int : ℕ → ℕ → List ℕ
int v is_short = 1 ∷ v ∷ is_short ∷ 0 ∷ []

abbrev pub unsigned_int : ℕ → ℕ → List ℕ
unsigned_int v is_short = 1 ∷ v ∷ is_short ∷ 1 ∷ []

abbrev pub float : List ℕ
float = 2 ∷ 0 ∷ 0 ∷ 0 ∷ []

abbrev pub nothing : List ℕ
nothing = 0 ∷ 0 ∷ 0 ∷ 0 ∷ []

-- an instruction: kind, operation, dest, left, right
abbrev pub instr : ℕ → ℕ → List ℕ → List ℕ → List ℕ → List ℕ
instr kind operation dest left right = kind ∷ operation ∷ dest ++ left ++ right

abbrev pub no_dest : List ℕ
no_dest = 0 ∷ 0 ∷ 0 ∷ []

-- ---- what is asked of an answer

-- the tables `0`: no strings and no floats
abbrev pub empty : List ℕ
empty = from_cells (0 ∷ [])

-- no strings, one long float constant
abbrev pub one_float : List ℕ
one_float = from_cells (0 ∷ 0 ∷ [])

-- into 64 KiB of record bytes
abbrev pub answer_by : List ℕ → List ℕ → Outcome (List Instruction)
answer_by tables s = lowered tables s 65536

abbrev pub answer : List ℕ → Outcome (List Instruction)
answer s = answer_by empty s

-- 0 and the record count, or number and place
abbrev pub summary : Outcome (List Instruction) → List ℕ
summary (accepted is) = 0 ∷ length is ∷ []
summary (refused n place) = n ∷ place ∷ []

abbrev pub list_of : Outcome (List Instruction) → List Instruction
list_of (accepted is) = is
list_of (refused n place) = []

-- the cells of the records that are left
abbrev pub cells_of : List ℕ → List ℕ
cells_of s = to_cells (8 * length (list_of (answer s))) (records_after (answer s) [])

-- the third record is `sub rsp, frame`
abbrev pub frame_of : List ℕ → ℕ
frame_of s = get_or (cells_of s) 21 0

abbrev pub listed : Result (List ℕ) → List ℕ
listed (ok offsets) = offsets
listed (types.refused n) = []

-- the offsets of three variables: the claims', then the lowering's own
abbrev pub offsets_of : List ℕ → List ℕ
offsets_of s = map (offset (function_of s).vars) (0 ∷ 1 ∷ 2 ∷ []) ++ listed (var_offsets (function_of s).vars)

-- an entry by the ABI: registers 1000 times their number and 8, memory full of sevens
abbrev pub entry : State
entry =
    record {
      regs = λ r. 1000 * r + 8;
      mem = λ a. 7;
      flags = record { zf = false; sf = false; cf = false; pf = false; ov = false; df = false };
      links = λ b k. 0;
      pos = 0;
      status = x86.running;
    }

abbrev pub choice : ℕ → Choice
choice m = record { flags = entry.flags; result = 0; regs = entry.regs; mem = entry.mem }

abbrev pub value_of : steps.Status → List ℕ
value_of steps.running = []
value_of steps.faulted = []
value_of steps.stuck = []
value_of (steps.returned n v) = n ∷ v ∷ []

-- width and value that F returns after n steps, and RAX after m records
abbrev pub returned : List ℕ → ℕ → ℕ → List ℕ
returned s n m = value_of (steps.run (function_of s) n (start (function_of s) entry)).status ++ (x86.run (list_of (answer s)) choice m entry).regs 0 ∷ []

abbrev pub steps_faulted : steps.Status → ℕ
steps_faulted steps.running = 0
steps_faulted steps.faulted = 1
steps_faulted steps.stuck = 0
steps_faulted (steps.returned n v) = 0

abbrev pub records_faulted : x86.Status → ℕ
records_faulted x86.running = 0
records_faulted x86.faulted = 1
records_faulted x86.undefined = 0
records_faulted (x86.returned a) = 0

-- whether F has faulted after n steps, and the run after m records
abbrev pub faulted : List ℕ → ℕ → ℕ → List ℕ
faulted s n m =
    steps_faulted (steps.run (function_of s) n (start (function_of s) entry)).status
    ∷ records_faulted (x86.run (list_of (answer s)) choice m entry).status ∷ []

-- ---- the sheets

-- the cells of the listing example (docs/FORMAT.md, "The listing program")
abbrev pub listing : List ℕ
listing =
    from_cells (1 ∷ 1 ∷ 0 ∷ 3 ∷ minus 1 ∷ 1 ∷ 3 ∷ minus 1 ∷ 0 ∷ 3 ∷ minus 1 ∷ 9 ∷ 0 ∷ 0 ∷ 0 ∷ 0 ∷ 0 ∷ 0 ∷ 3 ∷ minus 1 ∷ 0 ∷ 0 ∷ 0 ∷ 0 ∷ [])

abbrev pub calling : List (List ℕ) → List ℕ
calling args = sheet 0 0 1 (instr 5 0 no_dest (0 ∷ length args ∷ 0 ∷ 0 ∷ []) nothing ++ concat args)
  where
    concat : List (List ℕ) → List ℕ
    concat [] = []
    concat (x ∷ xs) = x ++ concat xs

abbrev pub seventh : List ℕ
seventh = calling (replicate 7 (int 5 0))

abbrev pub less_than : List ℕ → List ℕ
less_than ty = sheet 2 0 1 (bool ++ ty ++ instr 2 7 (0 ∷ bool) (var 1 ty) (var 1 ty))

abbrev pub cast_to_long : List ℕ → List ℕ
cast_to_long constant = sheet 1 0 2 (long ++ instr 3 0 (0 ∷ long) constant nothing ++ instr 9 0 no_dest (var 0 long) nothing)

abbrev pub shifted_by : ℕ → List ℕ
shifted_by k = sheet 1 0 2 (short ++ instr 2 11 (0 ∷ short) (int 1 1) (int k 1) ++ instr 9 0 no_dest (var 0 short) nothing)

-- two long constants, by Div (operation 16) or Rem (17) into a long
abbrev pub divided : ℕ → ℕ → ℕ → List ℕ
divided operation a b = sheet 1 0 2 (long ++ instr 2 operation (0 ∷ long) (int a 0) (int b 0) ++ instr 9 0 no_dest (var 0 long) nothing)

-- ---- the table

pub record Case : Type 0 where
  pub given : List ℕ
  pub expected : List ℕ

abbrev pub case : List ℕ → List ℕ → Case
case a b = record { given = a; expected = b }

-- whole lists and their frames
abbrev pub lists : List Case
lists =
    -- the listing: `ok`, the record count, and a line of eight cells a record
    case (summary (answer listing) ++ cells_of listing)
    (0 ∷ 8
    ∷ 14 ∷ 0 ∷ 1 ∷ 5 ∷ 0 ∷ 0 ∷ 0 ∷ 0
    ∷ 0 ∷ 0 ∷ 1 ∷ 5 ∷ 1 ∷ 4 ∷ 0 ∷ 0
    ∷ 0 ∷ 3 ∷ 1 ∷ 4 ∷ 2 ∷ 16 ∷ 0 ∷ 0
    ∷ 0 ∷ 0 ∷ 5 ∷ minus 4 ∷ 1 ∷ 7 ∷ 4 ∷ 0
    ∷ 0 ∷ 0 ∷ 1 ∷ 0 ∷ 5 ∷ minus 4 ∷ 4 ∷ 0
    ∷ 0 ∷ 0 ∷ 1 ∷ 4 ∷ 1 ∷ 5 ∷ 0 ∷ 0
    ∷ 14 ∷ 1 ∷ 1 ∷ 5 ∷ 0 ∷ 0 ∷ 0 ∷ 0
    ∷ 6 ∷ 2 ∷ 0 ∷ 0 ∷ 0 ∷ 0 ∷ 0 ∷ 0 ∷ [])
    -- no variables and no instructions: six records, frame 0
    ∷ case (frame_of (sheet 0 0 0 []) ∷ summary (answer (sheet 0 0 0 []))) (0 ∷ 0 ∷ 6 ∷ [])
    -- sizes 4, 1, 8: offsets 4, 5, 16, frame 16 (M-110)
    ∷ case (frame_of (sheet 3 0 0 (short ++ bool ++ long)) ∷ offsets_of (sheet 3 0 0 (short ++ bool ++ long))) (16 ∷ 4 ∷ 5 ∷ 16 ∷ 4 ∷ 5 ∷ 16 ∷ [])
    -- last offset 17: frame 32
    ∷ case (frame_of (sheet 1 0 0 (byte_array 17)) ∷ []) (32 ∷ [])
    -- 4, an empty array of shorts, 4: offsets 4, 4, 8; a byte, an empty array of longs, a byte: 1, 8, 9
    ∷ case (offsets_of (sheet 3 0 0 (short ++ short_array 0 ++ short)) ++ offsets_of (sheet 3 0 0 (bool ++ long_array 0 ++ bool)))
    (4 ∷ 4 ∷ 8 ∷ 4 ∷ 4 ∷ 8 ∷ 1 ∷ 8 ∷ 9 ∷ 1 ∷ 8 ∷ 9 ∷ [])
    -- last offset 1,048,576 lowers, one more is 3, with the count cell that passes it; padding counts
    ∷ case (summary (answer (sheet 2 0 0 (byte_array 1048575 ++ bool))) ++ summary (answer (sheet 2 0 0 (byte_array 1048576 ++ bool)))) (0 ∷ 6 ∷ 3 ∷ 9 ∷ [])
    ∷ case (summary (answer (sheet 2 0 0 (bool ++ long_array 131071))) ++ summary (answer (sheet 3 0 0 (bool ++ long_array 131071 ++ bool)))) (0 ∷ 6 ∷ 3 ∷ 11 ∷ []) ∷ []

-- instructions
abbrev pub answers : List Case
answers =
    -- six plain and eight float arguments lower, and a seventh plain (M-112): behind the prologue RSP is lowered by 16, and RAX with the seventh stored there
    case (summary (answer_by one_float (calling (replicate 6 (int 5 0) ++ replicate 8 float))) ++ summary (answer seventh) ++ take 24 (drop 24 (cells_of seventh)))
    (0 ∷ 22 ∷ 0 ∷ 18
    ∷ 0 ∷ 3 ∷ 1 ∷ 4 ∷ 2 ∷ 16 ∷ 0 ∷ 0
    ∷ 0 ∷ 0 ∷ 1 ∷ 0 ∷ 2 ∷ 5 ∷ 8 ∷ 0
    ∷ 0 ∷ 0 ∷ 8 ∷ 0 ∷ 1 ∷ 0 ∷ 8 ∷ 0 ∷ [])
    -- logical And is 7
    ∷ case (summary (answer (sheet 1 0 1 (bool ++ instr 2 1 (0 ∷ bool) (var 0 bool) (var 0 bool))))) (7 ∷ 1 ∷ [])
    -- Lt on unsigned long uses code 8, on long 4: the operation of the seventh record, SetCC
    ∷ case (get_or (cells_of (less_than unsigned_long)) 49 0 ∷ get_or (cells_of (less_than long)) 49 0 ∷ []) (8 ∷ 4 ∷ []) ∷ []

-- values, and the epilogue
abbrev pub runs : List Case
runs =
    -- short 4294967295 cast to long is -1, and 4294967295 when the constant is unsigned (M-105)
    case (returned (cast_to_long (int 4294967295 1)) 2 10 ++ returned (cast_to_long (unsigned_int 4294967295 1)) 2 9)
    (8 ∷ minus 1 ∷ minus 1 ∷ 8 ∷ 4294967295 ∷ 4294967295 ∷ [])
    -- short 1 shifted left by 32 is 1, by 33 is 2
    ∷ case (returned (shifted_by 32) 2 11 ++ returned (shifted_by 33) 2 11) (4 ∷ 1 ∷ 1 ∷ 4 ∷ 2 ∷ 2 ∷ [])
    -- Return then Comment adds no second epilogue
    ∷ case (summary (answer (sheet 0 0 2 (instr 9 0 no_dest (int 0 0) nothing ++ instr 10 0 no_dest nothing nothing)))) (0 ∷ 7 ∷ []) ∷ []

-- signed division (M-106)
abbrev pub quotients : List Case
quotients =
    -- -7 by 2 is -3 and leaves -1
    case (returned (divided 16 (minus 7) 2) 2 12) (8 ∷ minus 3 ∷ minus 3 ∷ [])
    ∷ case (returned (divided 17 (minus 7) 2) 2 12) (8 ∷ minus 1 ∷ minus 1 ∷ [])
    -- the least value by -1 faults, by Rem too
    ∷ case (faulted (divided 16 (2 ^ 63) (minus 1)) 1 7) (1 ∷ 1 ∷ [])
    ∷ case (faulted (divided 17 (2 ^ 63) (minus 1)) 1 7) (1 ∷ 1 ∷ []) ∷ []

abbrev pub cases : List Case
cases = lists ++ (answers ++ (runs ++ quotients))

-- what the definitions give is what stands beside it, in each of some cases
abbrev pub HoldIn : List Case → Type 0
HoldIn cs = map (λ (c : Case). c.given) cs ≡ map (λ (c : Case). c.expected) cs

-- .. in every case, and the runs start where a caller by the ABI may
pub record Hold : Type 0 where
  pub table : HoldIn cases
  pub entered : Entry entry
