-- Believed: it is demand 2. What the System V ABI asks of every accepted list, with its floats and calls: 3.2.1 (the direction flag), 3.2.2 (the stack
-- frame), 3.2.3 (parameter passing); the slots by docs/FORMAT.md, "Records".
use Rattle.std.specs.Prelude.{ℕ, suc, ◌+◌, ◌*◌, ◌-◌, ◌%◌, ◌<◌, ◌≤◌, max, ◌≡◌, ◌⊎◌, Bool, true, false, cond, List, [], ◌∷◌, ◌++◌, eqb, ltb, length, get_or, take, drop}
use Rattle.std.proofs.Math.Option.{some}
use Rattle.ir.specs.declared.«Type».{«Type» as IrType}
use Rattle.ir.specs.declared.VarId.{VarId}
use Rattle.ir.specs.declared.Operand.{Operand as IrOp}
use Rattle.std.specs.Prelude.{Option, Some, None}
use Rattle.ir.specs.declared.Instr.{Instr}
use Rattle.ir.specs.Types.{is_float, is_scalar, element_width, bytes}
use Rattle.ir.specs.Function.{Function, Line, Tables, tables_of, function_of}
use Rattle.x86.specs.declared.mem_address.Base.{Base}
use Rattle.x86.specs.declared.enums.Size.{Size}
use Rattle.x86.specs.declared.enums.Operand.{Operand}
use Rattle.x86.specs.declared.enums.BinOp.{BinOp}
use Rattle.x86.specs.declared.enums.ConvOp.{ConvOp}
use Rattle.x86.specs.declared.enums.CtrlOp.{CtrlOp}
use Rattle.x86.specs.declared.enums.ExtendOp.{ExtendOp}
use Rattle.x86.specs.declared.enums.Prefix.{Prefix}
use Rattle.x86.specs.declared.enums.StringOp.{StringOp}
use Rattle.x86.specs.declared.enums.Instruction.{Instruction}
use Rattle.x86.specs.Registers.{RAX, RCX, RSP, RDI, rbp_plus, rsp_plus}
use Rattle.x86.specs.Decode.{decode_list}
use Rattle.machine.specs.Word.{W, bound, above, store, load}
use Rattle.machine.specs.Encodings as encodings
use Rattle.machine.specs.Machine as x86
use Rattle.machine.specs.Machine.{State, Choice}
use Rattle.machine.specs.Plain.{Plain}
use Rattle.machine.specs.Frames.{frame_size, slot_of, slot_byte, size_of, Framed}
use Rattle.machine.specs.Simulation.{Entry, base, abi_registers, stack_at, place}
use Rattle.ir.specs.declared.BinaryOp.{BinaryOp}

-- ---- the frame in the list

-- which variables are taken, each with the number of its bytes
abbrev pub Taking : Type 1
Taking = VarId → ℕ → Type 0

-- those that records write, and those that they read or whose address they take
abbrev pub Naming : Type 1
Naming = Bool → Taking

-- memory at RBP plus d, of which a record touches n bytes, is the slot of a variable that is taken, and no more of it is touched than is taken
pub record Slot (vars : List IrType) (N : Taking) (n d : ℕ) : Type 0 where
  pub var : VarId
  pub taken : ℕ
  pub named : N var taken
  pub entry : var.id < length vars
  pub at : d ≡ slot_of vars var.id
  pub few : n ≤ taken
  -- where its entry has as many bytes as are taken, each byte that is touched, with RBP at b, is a byte of its slot
  pub inside : (b i : ℕ) → taken ≤ size_of vars var.id → i < n → (i < size_of vars var.id) × (((b + d) % W + i) % W ≡ slot_byte vars b var.id i)

abbrev pub BehindRbp : List IrType → Taking → ℕ → Base → ℕ → Type 0
BehindRbp vars N n Base.Rbp d = Slot vars N n d
BehindRbp vars N n Base.String k = Unit {0}
BehindRbp vars N n Base.Float k = Unit {0}
BehindRbp vars N n Base.Rsp d = ⊥

-- an operand of which a record touches n bytes
abbrev pub InSlot : List IrType → Taking → ℕ → Operand → Type 0
InSlot vars N n Operand.NoOperand = Unit {0}
InSlot vars N n (Operand.Reg r) = Unit {0}
InSlot vars N n (Operand.Imm v) = Unit {0}
InSlot vars N n (Operand.Sym k) = Unit {0}
InSlot vars N n (Operand.Label l) = Unit {0}
InSlot vars N n (Operand.MemoryAddress a) = BehindRbp vars N n a.base a.disp

-- the bytes that a conversion of a size reads
abbrev pub converted_bytes : ConvOp → ℕ → ℕ
converted_bytes ConvOp.Cvtsd2ss n = 8
converted_bytes ConvOp.Cvtsi2sd n = n
converted_bytes ConvOp.Cvtsi2ss n = n
converted_bytes ConvOp.Cvtss2sd n = 4
converted_bytes ConvOp.Cvttsd2si n = 8
converted_bytes ConvOp.Cvttss2si n = 4

-- every address behind RBP that a record has is the slot of a variable that is named: as dst of one that is written, as src of one that is read; Lea
-- takes the address and no byte (for Zero see `zeroing`); none is behind RSP
abbrev pub InSlots : List IrType → Naming → Instruction → Type 0
InSlots vars N (Instruction.Binary op dst src size) = InSlot vars (N true) (encodings.bytes size) dst × InSlot vars (N false) (encodings.bytes size) src
InSlots vars N (Instruction.ComplexBinary op dst src size) = InSlot vars (N true) (encodings.bytes size) dst × InSlot vars (N false) (encodings.bytes size) src
InSlots vars N (Instruction.Convert op dst src size) = InSlot vars (N false) (converted_bytes op (encodings.bytes size)) src
InSlots vars N (Instruction.Ctrl op target) = InSlot vars (N false) 8 target
InSlots vars N (Instruction.Extend op dst src src_size size) = InSlot vars (N false) (encodings.bytes src_size) src
InSlots vars N (Instruction.Lea src dst size) = InSlot vars (N false) 0 src
InSlots vars N (Instruction.Label n) = Unit {0}
InSlots vars N (Instruction.Prefix prefix op size) = Unit {0}
InSlots vars N (Instruction.SetCC op dst) = InSlot vars (N true) 1 dst
InSlots vars N (Instruction.Shift op dst src size) = InSlot vars (N true) (encodings.bytes size) dst × InSlot vars (N false) 1 src
InSlots vars N (Instruction.Stack op value size) = InSlot vars (N true) 8 value
InSlots vars N (Instruction.Unary op dst size) = InSlot vars (N true) (encodings.bytes size) dst

-- ---- arguments

-- the arguments that go into general registers, and those that go into XMM registers, in order (System V ABI, 3.2.3)
abbrev pub is_float_argument : IrOp → Bool
is_float_argument (IrOp.Var v) = is_float v.ty
is_float_argument (IrOp.Int n short unsigned) = false
is_float_argument (IrOp.Float k) = true
is_float_argument (IrOp.Bool b) = false
is_float_argument (IrOp.Address v) = false
is_float_argument (IrOp.DataAddress k) = false
is_float_argument IrOp.Null = false

abbrev pub words : List IrOp → List IrOp
words [] = []
words (x ∷ xs) = cond (is_float_argument x) (words xs) (x ∷ words xs)

abbrev pub floats : List IrOp → List IrOp
floats [] = []
floats (x ∷ xs) = cond (is_float_argument x) (x ∷ floats xs) (floats xs)

-- those that go to the stack, in order: no register of their kind is left, of six and eight, where i and f are taken (System V ABI, 3.2.3; M-112)
abbrev pub beyond : {A : Type 0} → (A → Bool) → ℕ → ℕ → List A → List A
beyond float i f [] = []
beyond float i f (x ∷ xs) =
    cond (float x) (cond (ltb f 8) (beyond float i (suc f) xs) (x ∷ beyond float i f xs))
    (cond (ltb i 6) (beyond float (suc i) f xs) (x ∷ beyond float i f xs))

abbrev pub on_stack : List IrOp → List IrOp
on_stack xs = beyond is_float_argument 0 0 xs

-- n bytes are the area that k arguments on the stack have below the frame: the least multiple of 16 not below 8k (System V ABI, 3.2.2 and 3.2.3; M-112)
pub record Area (k n : ℕ) : Type 0 where
  pub multiple : n % 16 ≡ 0
  pub enough : 8 * k ≤ n
  pub least : (m : ℕ) → m % 16 ≡ 0 → 8 * k ≤ m → n ≤ m

-- the bytes of a variable that are passed: its element's, or eight of an array and of what has no width
abbrev pub passed_bytes : IrType → ℕ
passed_bytes ty = cond (is_scalar ty) (cond (eqb (element_width ty.code) 0) 8 (element_width ty.code)) 8

-- an argument as a number: a variable's bytes, a constant, a float constant's bytes, four of a short one and eight of a long one, a string's address
abbrev pub argument : Tables → List IrType → IrOp → State → ℕ
argument tables vars (IrOp.Var v) s = load s.mem ((s.regs 5 + slot_of vars v.id) % W) (passed_bytes v.ty)
argument tables vars (IrOp.Int n short unsigned) s = n % bound (cond short 4 8)
argument tables vars (IrOp.Float k) s = load s.mem (s.links Base.Float k % W) (cond (tables.short k) 4 8)
argument tables vars (IrOp.Bool b) s = cond b 1 0
argument tables vars (IrOp.Address v) s = 0
argument tables vars (IrOp.DataAddress k) s = s.links Base.String k % W
argument tables vars IrOp.Null s = 0

-- an argument that is a float constant lies, by its link, outside the n bytes at the address a: where the linker places constants is not said here
abbrev pub Clear : Tables → ℕ → ℕ → (Base → ℕ → ℕ) → IrOp → Type 0
Clear tables a n links (IrOp.Var v) = Unit {0}
Clear tables a n links (IrOp.Int k short unsigned) = Unit {0}
Clear tables a n links (IrOp.Float k) = (i : ℕ) → i < cond (tables.short k) 4 8 → n ≤ above a ((links Base.Float k % W + i) % W)
Clear tables a n links (IrOp.Bool b) = Unit {0}
Clear tables a n links (IrOp.Address v) = Unit {0}
Clear tables a n links (IrOp.DataAddress k) = Unit {0}
Clear tables a n links IrOp.Null = Unit {0}

-- s is the state at the first record of a Call's block, s' that at its Call: the registers hold the arguments, with zeros above, and RAX the
-- number of those in XMM registers; argument j of those on the stack is in the eight bytes at RSP plus 8j, with zeros above (System V ABI, 3.2.3)
pub record Passed (tables : Tables) (vars : List IrType) (xs : List IrOp) (s s' : State) : Type 0 where
  pub in_words : (k : ℕ) → k < length (words xs) → k < 6 → s'.regs (get_or abi_registers k 0) ≡ argument tables vars (get_or (words xs) k IrOp.Null) s
  pub in_floats : (k : ℕ) → k < length (floats xs) → k < 8 → Clear tables (s'.regs 4) (8 * length (on_stack xs)) s.links (get_or (floats xs) k IrOp.Null)
      → s'.regs (16 + k) ≡ argument tables vars (get_or (floats xs) k IrOp.Null) s
  pub in_memory : (j : ℕ) → j < length (on_stack xs) → Clear tables (s'.regs 4) (8 * length (on_stack xs)) s.links (get_or (on_stack xs) j IrOp.Null)
      → load s'.mem ((s'.regs 4 + 8 * j) % W) 8 ≡ argument tables vars (get_or (on_stack xs) j IrOp.Null) s
  pub count : s'.regs 0 ≡ length (take 8 (floats xs))
  -- no other byte has changed
  pub others : (y : ℕ) → y < W → 8 * length (on_stack xs) ≤ above (s'.regs 4) y → s'.mem y ≡ s.mem y

-- the records of a block before its Call: one for each argument, one more for each on the stack, the number of floats; and one that lowers RSP
abbrev pub before : List IrOp → ℕ
before xs = suc (length xs) + (length (on_stack xs) + cond (eqb (length (on_stack xs)) 0) 0 1)

-- ---- the variables that an instruction names

-- a variable by its own bytes
abbrev pub Whole : VarId → Taking
Whole d v w = (v ≡ d) × (w ≡ bytes d.ty)

-- an operand by n bytes
abbrev pub Takes : ℕ → IrOp → Taking
Takes n (IrOp.Var u) v w = (v ≡ u) × (w ≡ n)
Takes n (IrOp.Int k short unsigned) v w = ⊥
Takes n (IrOp.Float k) v w = ⊥
Takes n (IrOp.Bool b) v w = ⊥
Takes n (IrOp.Address u) v w = ⊥
Takes n (IrOp.DataAddress k) v w = ⊥
Takes n IrOp.Null v w = ⊥

-- the width of left, by which a comparison takes both sides
abbrev pub compared_bytes : Tables → IrOp → ℕ
compared_bytes tables (IrOp.Var u) = bytes u.ty
compared_bytes tables (IrOp.Int k short unsigned) = cond short 4 8
compared_bytes tables (IrOp.Float k) = cond (tables.short k) 4 8
compared_bytes tables (IrOp.Bool b) = 1
compared_bytes tables (IrOp.Address u) = 8
compared_bytes tables (IrOp.DataAddress k) = 8
compared_bytes tables IrOp.Null = 8

-- by which an operation takes both sides: a comparison by left's width, any other by dest's
abbrev pub binary_bytes : BinaryOp → ℕ → ℕ → ℕ
binary_bytes BinaryOp.Or left dest = dest
binary_bytes BinaryOp.And left dest = dest
binary_bytes BinaryOp.BitOr left dest = dest
binary_bytes BinaryOp.BitXor left dest = dest
binary_bytes BinaryOp.BitAnd left dest = dest
binary_bytes BinaryOp.Eq left dest = left
binary_bytes BinaryOp.NotEq left dest = left
binary_bytes BinaryOp.Lt left dest = left
binary_bytes BinaryOp.Le left dest = left
binary_bytes BinaryOp.Gt left dest = left
binary_bytes BinaryOp.Ge left dest = left
binary_bytes BinaryOp.Shl left dest = dest
binary_bytes BinaryOp.Shr left dest = dest
binary_bytes BinaryOp.Add left dest = dest
binary_bytes BinaryOp.Sub left dest = dest
binary_bytes BinaryOp.Mul left dest = dest
binary_bytes BinaryOp.Div left dest = dest
binary_bytes BinaryOp.Rem left dest = dest

-- a cast takes its source by its own width, an array by four bytes at least
abbrev pub cast_bytes : IrType → ℕ
cast_bytes ty = cond (is_scalar ty) (bytes ty) (max 4 (bytes ty))

abbrev pub Casts : IrOp → Taking
Casts (IrOp.Var u) v w = (v ≡ u) × (w ≡ cast_bytes u.ty)
Casts (IrOp.Int k short unsigned) v w = ⊥
Casts (IrOp.Float k) v w = ⊥
Casts (IrOp.Bool b) v w = ⊥
Casts (IrOp.Address u) v w = ⊥
Casts (IrOp.DataAddress k) v w = ⊥
Casts IrOp.Null v w = ⊥

-- an argument, and a Return's operand, by the bytes that are passed
abbrev pub Passes : IrOp → Taking
Passes (IrOp.Var u) v w = (v ≡ u) × (w ≡ passed_bytes u.ty)
Passes (IrOp.Int k short unsigned) v w = ⊥
Passes (IrOp.Float k) v w = ⊥
Passes (IrOp.Bool b) v w = ⊥
Passes (IrOp.Address u) v w = ⊥
Passes (IrOp.DataAddress k) v w = ⊥
Passes IrOp.Null v w = ⊥

abbrev pub PassesOne : List IrOp → Taking
PassesOne [] v w = ⊥
PassesOne (x ∷ xs) v w = Passes x v w ⊎ PassesOne xs v w

abbrev pub Result : Option VarId → Taking
Result None v w = ⊥
Result (Some d) v w = Whole d v w

-- dest is written, by its own bytes, so that what is stored lies in its slot where its own type is its entry's; operands are read as the instruction
-- takes them
abbrev pub Names : Tables → Instr → List IrOp → Naming
Names tables (Instr.Copy d x) args true v w = Whole d v w
Names tables (Instr.Copy d x) args false v w = Takes (bytes d.ty) x v w
Names tables (Instr.Unary d op x) args true v w = Whole d v w
Names tables (Instr.Unary d op x) args false v w = Takes (bytes d.ty) x v w
Names tables (Instr.Binary d op x y) args true v w = Whole d v w
Names tables (Instr.Binary d op x y) args false v w =
    Takes (binary_bytes op (compared_bytes tables x) (bytes d.ty)) x v w
    ⊎ Takes (binary_bytes op (compared_bytes tables x) (bytes d.ty)) y v w
Names tables (Instr.Cast d x) args true v w = Whole d v w
Names tables (Instr.Cast d x) args false v w = Casts x v w
Names tables (Instr.Zero d) args written v w = Whole d v w
Names tables (Instr.Call d f count) args true v w = Result d v w
Names tables (Instr.Call d f count) args false v w = PassesOne args v w
Names tables (Instr.Label l) args written v w = ⊥
Names tables (Instr.Jump l) args written v w = ⊥
Names tables (Instr.JumpIfNot x l) args true v w = ⊥
Names tables (Instr.JumpIfNot x l) args false v w = Takes 1 x v w
Names tables (Instr.Return x) args true v w = ⊥
Names tables (Instr.Return x) args false v w = Passes x v w
Names tables Instr.Comment args written v w = ⊥

-- the prologue writes the parameters, each by its own bytes
abbrev pub NamesOne : List VarId → Naming
NamesOne [] written v w = ⊥
NamesOne (p ∷ ps) true v w = Whole p v w ⊎ NamesOne ps true v w
NamesOne (p ∷ ps) false v w = ⊥

abbrev pub no_line : Line
no_line = record { instr = Instr.Comment; args = [] }

abbrev pub no_record : Instruction
no_record = Instruction.Label 0

-- Zero's records: Rep Stos has the address of dest's slot in RDI and the number of dest's own bytes in RCX
abbrev pub zeroing : List IrType → VarId → List Instruction
zeroing vars d =
    Instruction.Lea (rbp_plus (slot_of vars d.id)) RDI Size.NoSize ∷ Instruction.Binary BinOp.Mov (Operand.Reg RCX) (Operand.Imm (bytes d.ty)) Size.U64
    ∷ Instruction.Binary BinOp.Mov (Operand.Reg RAX) (Operand.Imm 0) Size.U64 ∷ Instruction.Prefix Prefix.Rep StringOp.Stos Size.U8 ∷ []

-- ---- places on the stack

-- the parameters that have come on the stack, by their own types
abbrev pub is_float_parameter : VarId → Bool
is_float_parameter p = is_float p.ty

abbrev pub from_stack : List VarId → List VarId
from_stack ps = beyond is_float_parameter 0 0 ps

abbrev pub no_var : VarId
no_var = record { id = 0; ty = record { code = 0; count = 0 } }

-- a record that loads n bytes at RBP plus d into RAX
abbrev pub Loads : ℕ → ℕ → Instruction → Type 0
Loads n d i =
    ((z : Size) × (encodings.bytes z ≡ n) × (i ≡ Instruction.Binary BinOp.Mov (Operand.Reg RAX) (rbp_plus d) z))
    ⊎ ((n ≡ 1) × (i ≡ Instruction.Extend ExtendOp.Movzx RAX (rbp_plus d) Size.U8 Size.U64))

-- a record that loads number j of the parameters on the caller's stack, by its own bytes, from RBP plus 16 plus 8j
abbrev pub Fetches : List VarId → Instruction → Type 0
Fetches ps i = (j : ℕ) × (j < length (from_stack ps)) × Loads (bytes (get_or (from_stack ps) j no_var).ty) (16 + 8 * j) i

-- a record that stores, eight bytes, number j of n arguments on the stack at RSP plus 8j
abbrev pub Pushes : ℕ → Instruction → Type 0
Pushes n i = (j : ℕ) × (j < n) × (i ≡ Instruction.Binary BinOp.Mov (rsp_plus (8 * j)) (Operand.Reg RAX) Size.U64)

-- how many arguments an instruction puts on the stack
abbrev pub pushed : Instr → List IrOp → ℕ
pushed (Instr.Copy d x) args = 0
pushed (Instr.Unary d op x) args = 0
pushed (Instr.Binary d op x y) args = 0
pushed (Instr.Cast d x) args = 0
pushed (Instr.Zero d) args = 0
pushed (Instr.Call d f count) args = length (on_stack args)
pushed (Instr.Label l) args = 0
pushed (Instr.Jump l) args = 0
pushed (Instr.JumpIfNot x l) args = 0
pushed (Instr.Return x) args = 0
pushed Instr.Comment args = 0

-- in the prologue every address is a parameter's slot, or its place on the caller's stack, which is read; in the records of an instruction it is dest's
-- slot where a record writes, or the place of an argument on the stack, and that of an operand where it reads; behind all instructions there is none
pub record Addressed (tables : Tables) (F : Function) (c : List Instruction) : Type 0 where
  pub prologue : (j : ℕ) → j < place tables F 0 → InSlots F.vars (NamesOne F.params) (get_or c j no_record) ⊎ Fetches F.params (get_or c j no_record)
  pub line : (k j : ℕ) → k < length F.body → place tables F k ≤ j → j < place tables F (suc k)
      → InSlots F.vars (Names tables (get_or F.body k no_line).instr (get_or F.body k no_line).args) (get_or c j no_record)
      ⊎ Pushes (pushed (get_or F.body k no_line).instr (get_or F.body k no_line).args) (get_or c j no_record)
  pub zeroes : (k : ℕ) (d : VarId) → k < length F.body → (get_or F.body k no_line).instr ≡ Instr.Zero d
      → (r : List Instruction) × (drop (place tables F k) c ≡ zeroing F.vars d ++ r)
  pub epilogue : (j : ℕ) → place tables F (length F.body) ≤ j → j < length c → InSlots F.vars (λ written v w. ⊥) (get_or c j no_record)

-- ---- runs

-- the run of c stands at s, running, and the records r are next
abbrev pub Next : List Instruction → State → List Instruction → Type 0
Next c s r = (s.status ≡ x86.running) × (drop s.pos c ≡ r)

-- RSP is a multiple of 16, from RSP to RBP lie d bytes and the frame (System V ABI, 3.2.2), the direction flag is clear (3.2.1)
pub record Aligned (vars : List IrType) (d : ℕ) (s₀ s : State) : Type 0 where
  pub aligned : s.regs 4 % 16 ≡ 0
  pub sp : s.regs 4 ≡ (base s₀ + (W - (frame_size vars + d))) % W
  pub bp : s.regs 5 ≡ base s₀
  pub upward : s.flags.df ≡ false

-- a Call record of the symbol f is reached only through the block of a Call instruction, whose records have put its arguments in place; R has the
-- states of the run, and K says what is asked of its records from one number to another
pub record Called (tables : Tables) (F : Function) (c : List Instruction) (R : ℕ → State) (K : ℕ → ℕ → Type 0) (s₀ : State) (m f : ℕ) : Type 0 where
  pub number : ℕ
  pub dest : Option VarId
  pub count : ℕ
  pub args : List IrOp
  pub within : number < length F.body
  pub line : get_or F.body number no_line ≡ record { instr = Instr.Call dest f count; args = args }
  pub from : ℕ
  pub records : m ≡ before args + from
  pub running : (R from).status ≡ x86.running
  pub first : (R from).pos ≡ place tables F number
  pub passed : K from m → Passed tables F.vars args (R from) (R m)
  -- below the frame lies the call's area, and nothing else
  pub below : ℕ
  pub area : Area (length (on_stack args)) below
  pub aligned : Aligned F.vars below s₀ (R m)

-- ---- parameters

-- memory m after the store of v's low bytes to parameter p, where the frame ends at b
abbrev pub put : List IrType → ℕ → VarId → ℕ → (ℕ → ℕ) → ℕ → ℕ
put vars b p v m = store m ((b + slot_of vars p.id) % W) (bytes p.ty) (v % bound (bytes p.ty))

-- the parameters that are floats, or those that are not, in order
abbrev pub parameters_of : Bool → List VarId → List VarId
parameters_of float [] = []
parameters_of true (p ∷ ps) = cond (is_float p.ty) (p ∷ parameters_of true ps) (parameters_of true ps)
parameters_of false (p ∷ ps) = cond (is_float p.ty) (parameters_of false ps) (p ∷ parameters_of false ps)

-- XMM0 to XMM7
abbrev pub abi_float_registers : List ℕ
abi_float_registers = 16 ∷ 17 ∷ 18 ∷ 19 ∷ 20 ∷ 21 ∷ 22 ∷ 23 ∷ []

-- memory m after the stores of the parameters ps, each from its register; those beyond the registers are on the stack
abbrev pub stored : List IrType → ℕ → (ℕ → ℕ) → List ℕ → List VarId → (ℕ → ℕ) → ℕ → ℕ
stored vars b regs rs [] m = m
stored vars b regs [] (p ∷ ps) m = m
stored vars b regs (r ∷ rs) (p ∷ ps) m = stored vars b regs rs ps (put vars b p (regs r) m)

-- memory m after the stores of the parameters ps, the first of them number j of those on the stack, as s has them
abbrev pub copied : List IrType → State → ℕ → List VarId → (ℕ → ℕ) → ℕ → ℕ
copied vars s j [] m = m
copied vars s j (p ∷ ps) m = copied vars s (suc j) ps (put vars (base s) p (stack_at s j (bytes p.ty)) m)

-- RBP is saved, then the parameters that are no floats are stored in order, then those that are, then those that have come on the stack
abbrev pub filled : Function → State → ℕ → ℕ
filled F s =
    copied F.vars s 0 (from_stack F.params)
    (stored F.vars (base s) s.regs abi_float_registers (parameters_of true F.params)
    (stored F.vars (base s) s.regs abi_registers (parameters_of false F.params) (store s.mem (base s) 8 (s.regs 5))))

-- no parameter of ps has the id x
abbrev pub Without : ℕ → List VarId → Type 0
Without x [] = Unit {0}
Without x (p ∷ ps) = (x ≡ p.id → ⊥) × Without x ps

-- parameters whose stores do not meet: each has its entry's size, and ids are distinct
abbrev pub Apart : List IrType → List VarId → Type 0
Apart vars [] = Unit {0}
Apart vars (p ∷ ps) = (p.id < length vars) × (size_of vars p.id ≡ bytes p.ty) × Without p.id ps × Apart vars ps

-- the slot of p has v's low bytes, in memory m, where the frame ends at b
abbrev pub Has : List IrType → ℕ → (ℕ → ℕ) → VarId → ℕ → Type 0
Has vars b m p v = load m ((b + slot_of vars p.id) % W) (bytes p.ty) ≡ v % bound (bytes p.ty)

-- the slots hold the registers' low bytes in order, and those at B plus 16 plus 8j
pub record Received (F : Function) (s₀ s : State) : Type 0 where
  pub in_words : (k : ℕ) → k < length (parameters_of false F.params) → k < 6
      → Has F.vars (base s₀) s.mem (get_or (parameters_of false F.params) k no_var) (s₀.regs (get_or abi_registers k 0))
  pub in_floats : (k : ℕ) → k < length (parameters_of true F.params) → k < 8
      → Has F.vars (base s₀) s.mem (get_or (parameters_of true F.params) k no_var) (s₀.regs (16 + k))
  pub in_memory : (j : ℕ) → j < length (from_stack F.params)
      → Has F.vars (base s₀) s.mem (get_or (from_stack F.params) j no_var) (stack_at s₀ j (bytes (get_or (from_stack F.params) j no_var).ty))

-- at the first record behind the prologue
pub record Entered (tables : Tables) (F : Function) (s₀ s : State) : Type 0 where
  pub running : s.status ≡ x86.running
  pub at : s.pos ≡ place tables F 0
  pub memory : s.mem ≡ filled F s₀
  pub received : Apart F.vars F.params → Received F s₀ s

-- ---- the claim

-- what a run of the list does, from an entry by the ABI
pub record Obeys (tables : Tables) (F : Function) (c : List Instruction) (R : ℕ → State) (K : ℕ → ℕ → Type 0) (s₀ : State) : Type 0 where
  pub called : (m f : ℕ) (r : List Instruction) → Next c (R m) (Instruction.Ctrl CtrlOp.Call (Operand.Sym f) ∷ r) → Called tables F c R K s₀ m f
  pub entered : Entered tables F s₀ (R (place tables F 0))
  -- at the first record of each instruction, and behind the last: only the frame lies between RSP and RBP
  pub between : (m k : ℕ) → (R m).status ≡ x86.running → (R m).pos ≡ place tables F k → Aligned F.vars 0 s₀ (R m)

-- the manual has every record that the run R has run from number a to number b
abbrev pub HasAll : List Instruction → (ℕ → State) → ℕ → ℕ → Type 0
HasAll c R a b = (j : ℕ) → a ≤ j → j < b → encodings.known (get_or c (R j).pos no_record) ≡ true

-- what an instruction, and the prologue, takes of a variable is no more than its entry has: with `Slot.inside` no record touches a byte outside the
-- slot that its address is
pub record Within (tables : Tables) (F : Function) : Type 0 where
  pub prologue : (written : Bool) (v : VarId) (w : ℕ) → NamesOne F.params written v w → w ≤ size_of F.vars v.id
  pub line : (k : ℕ) → k < length F.body → (written : Bool) (v : VarId) (w : ℕ)
      → Names tables (get_or F.body k no_line).instr (get_or F.body k no_line).args written v w → w ≤ size_of F.vars v.id

-- of the list that the first n records of the bytes are
pub record Demand2 (tables sheet records : List ℕ) (n : ℕ) : Type 0 where
  pub list : List Instruction
  pub decoded : decode_list records n 0 ≡ some list
  pub framed : Framed (function_of sheet).vars
  -- the frame ends at a multiple of 16, so that every slot lies on its own width
  pub based : (s₀ : State) → Entry s₀ → base s₀ % 16 ≡ 0
  -- the third record makes the frame
  pub frame : get_or list 2 (Instruction.Label 0) ≡ Instruction.Binary BinOp.Sub (Operand.Reg RSP) (Operand.Imm (frame_size (function_of sheet).vars)) Size.NoSize
  pub slots : Addressed (tables_of tables) (function_of sheet) list
  pub within : Plain tables sheet → Within (tables_of tables) (function_of sheet)
  -- a record that the manual does not have only computes: in particular every Call is of a symbol, every jump to a label
  pub computing : (j : ℕ) → j < length list → encodings.known (get_or list j no_record) ≡ false → x86.computes (get_or list j no_record) ≡ true
  -- every run, as far as it comes to no record that the manual does not have
  pub obeys : (o : ℕ → Choice) (s₀ : State) → Entry s₀ → Obeys (tables_of tables) (function_of sheet) list (λ m. x86.run list o m s₀) (λ a b. Unit {0}) s₀
  -- .. and whatever such records do, as long as they keep RSP, RBP and the direction flag; arguments that they bring are open
  pub passes : (o : ℕ → Choice) (s₀ : State) → Entry s₀
      → Obeys (tables_of tables) (function_of sheet) list (λ m. x86.pass list o m s₀) (HasAll list (λ m. x86.pass list o m s₀)) s₀
