-- Believed: demands 2 and 3 rest on it. x86-64 as far as lists of records use it: Intel's manual, volume 2 (each instruction's "Operation" and
-- "Flags Affected"), volume 1, 3.4.1.1 (a four-byte register write clears the upper half), and the System V ABI, 3.2.1 (what a callee keeps).
-- What they leave open, and what a float operation gives, comes from a `Choice`, any, one for each record that is run.
use Rattle.std.specs.Prelude.{ℕ, zero, suc, ◌+◌, ◌*◌, ◌-◌, ◌/◌, ◌%◌, ◌^◌, Bool, true, false, cond, not, ◌&&◌, ◌||◌, List, [], ◌∷◌, ltb, leb, eqb, drop}
use Rattle.x86.specs.declared.register.Register.{Register}
use Rattle.x86.specs.declared.mem_address.Base.{Base}
use Rattle.x86.specs.declared.mem_address.MemAddress.{MemAddress}
use Rattle.x86.specs.declared.enums.Operand.{Operand}
use Rattle.x86.specs.declared.enums.ConditionCode.{ConditionCode}
use Rattle.x86.specs.declared.enums.BinOp.{BinOp}
use Rattle.x86.specs.declared.enums.ShiftOp.{ShiftOp}
use Rattle.x86.specs.declared.enums.ComplexBinOp.{ComplexBinOp}
use Rattle.x86.specs.declared.enums.UnaryOp.{UnaryOp}
use Rattle.x86.specs.declared.enums.StackOp.{StackOp}
use Rattle.x86.specs.declared.enums.CtrlOp.{CtrlOp}
use Rattle.x86.specs.declared.enums.ExtendOp.{ExtendOp}
use Rattle.x86.specs.declared.enums.ConvOp.{ConvOp}
use Rattle.x86.specs.declared.enums.Instruction.{Instruction}
use Rattle.x86.specs.Registers.{number}
use Rattle.machine.specs.Word.{W, bound, above, store, load, update, sign, widen, invert, arith_down, differ, magnitude, negated, bit_and, bit_or, bit_xor}
use Rattle.machine.specs.Encodings.{known, bytes}

-- ---- states

pub record Flags : Type 0 where
  pub zf : Bool
  pub sf : Bool
  pub cf : Bool
  pub pf : Bool
  pub ov : Bool
  pub df : Bool

-- `returned a`: a Ret has gone to the address a; `undefined`: at its position the list has no record, or one that the manual does not have
pub data Status : Type 0 where
  running faulted undefined : Status
  returned : ℕ → Status

-- `regs` has the general registers by their number, and the low eight bytes of XMM register k at 16 + k; `links` has the address where the
-- linker has placed string or float constant k; `pos` is the number of records before the next one
pub record State : Type 0 where
  pub regs : ℕ → ℕ
  pub mem : ℕ → ℕ
  pub flags : Flags
  pub links : Base → ℕ → ℕ
  pub pos : ℕ
  pub status : Status

-- what a record that is run leaves open: flags that the manual leaves undefined, or that a comparison of floats decides; the result of a float
-- operation; registers and memory after a Call
pub record Choice : Type 0 where
  pub flags : Flags
  pub result : ℕ
  pub regs : ℕ → ℕ
  pub mem : ℕ → ℕ

-- ---- parts of a state

abbrev pub next : State → State
next s = record { regs = s.regs; mem = s.mem; flags = s.flags; links = s.links; pos = suc s.pos; status = s.status }

abbrev pub goto : ℕ → State → State
goto p s = record { regs = s.regs; mem = s.mem; flags = s.flags; links = s.links; pos = p; status = s.status }

abbrev pub with_status : Status → State → State
with_status t s = record { regs = s.regs; mem = s.mem; flags = s.flags; links = s.links; pos = s.pos; status = t }

abbrev pub with_flags : Flags → State → State
with_flags f s = record { regs = s.regs; mem = s.mem; flags = f; links = s.links; pos = s.pos; status = s.status }

abbrev pub with_mem : (ℕ → ℕ) → State → State
with_mem m s = record { regs = s.regs; mem = m; flags = s.flags; links = s.links; pos = s.pos; status = s.status }

abbrev pub with_reg : ℕ → ℕ → State → State
with_reg r v s = record { regs = update s.regs r v; mem = s.mem; flags = s.flags; links = s.links; pos = s.pos; status = s.status }

-- ---- operands

-- a write of one or two bytes keeps the bits above them, one of four clears the upper half (volume 1, 3.4.1.1)
abbrev pub keeps_upper : ℕ → Bool
keeps_upper n = ltb n 4

-- what a write of n bytes leaves in a general register that held a
unfoldable pub merge : ℕ → ℕ → ℕ → ℕ
merge n a v = cond (keeps_upper n) (a / bound n * bound n + v % bound n) (v % bound n)

-- RBP or RSP plus a displacement, or RIP-relative, at a constant
abbrev pub place_of : Base → ℕ → State → ℕ
place_of Base.Rbp d s = (s.regs 5 + d) % W
place_of Base.String k s = s.links Base.String k % W
place_of Base.Float k s = s.links Base.Float k % W
place_of Base.Rsp d s = (s.regs 4 + d) % W

abbrev pub address : MemAddress → State → ℕ
address a s = place_of a.base a.disp s

-- the n low bytes of an operand, as a number
abbrev pub read : ℕ → Operand → State → ℕ
read n Operand.NoOperand s = 0
read n (Operand.Reg r) s = s.regs (number r) % bound n
read n (Operand.Imm v) s = v % bound n
read n (Operand.Sym k) s = 0
read n (Operand.Label l) s = 0
read n (Operand.MemoryAddress a) s = load s.mem (address a s) n

-- the n low bytes of v, into a register or memory
abbrev pub write : ℕ → Operand → ℕ → State → State
write n Operand.NoOperand v s = s
write n (Operand.Reg r) v s = with_reg (number r) (merge n (s.regs (number r)) v) s
write n (Operand.Imm k) v s = s
write n (Operand.Sym k) v s = s
write n (Operand.Label l) v s = s
write n (Operand.MemoryAddress a) v s = with_mem (store s.mem (address a s) n v) s

-- the second operand of an operation other than Mov: an immediate has at most four bytes, and an eight-byte operation copies its sign (volume 2A,
-- 2.2.1.5, "Immediates")
abbrev pub second : ℕ → Operand → State → ℕ
second n Operand.NoOperand s = 0
second n (Operand.Reg r) s = read n (Operand.Reg r) s
second n (Operand.Imm v) s = cond (eqb n 8) (widen 4 8 (v % bound 4)) (v % bound n)
second n (Operand.Sym k) s = 0
second n (Operand.Label l) s = 0
second n (Operand.MemoryAddress a) s = read n (Operand.MemoryAddress a) s

-- ---- flags

abbrev pub plus : ℕ → ℕ → ℕ → ℕ
plus n a b = (a + b) % bound n

abbrev pub minus : ℕ → ℕ → ℕ → ℕ
minus n a b = (a + (bound n - b)) % bound n

-- PF: whether the number of ones in the lowest byte is even
abbrev pub parity : ℕ → Bool
parity r =
    eqb ((r % 2 + r / 2 % 2 + r / 4 % 2 + r / 8 % 2 + r / 16 % 2 + r / 32 % 2 + r / 64 % 2 + r / 128 % 2) % 2) 0

-- ZF, SF and PF by the result; CF and OF as given; DF stays
abbrev pub result_flags : ℕ → ℕ → Bool → Bool → Flags → Flags
result_flags n r c o f = record { zf = eqb r 0; sf = sign n r; cf = c; pf = parity r; ov = o; df = f.df }

-- ADD: CF is the carry out, OF a signed sum that does not fit
abbrev pub plus_flags : ℕ → ℕ → ℕ → Flags → Flags
plus_flags n a b f =
    result_flags n (plus n a b) (leb (bound n) (a + b)) (not (differ (sign n a) (sign n b)) && differ (sign n (plus n a b)) (sign n a)) f

-- SUB, CMP, NEG: CF is the borrow, OF a signed difference that does not fit
abbrev pub minus_flags : ℕ → ℕ → ℕ → Flags → Flags
minus_flags n a b f =
    result_flags n (minus n a b) (ltb a b) (differ (sign n a) (sign n b) && differ (sign n (minus n a b)) (sign n a)) f

-- all but DF are undefined
abbrev pub undefined_flags : Flags → Flags → Flags
undefined_flags u f = record { zf = u.zf; sf = u.sf; cf = u.cf; pf = u.pf; ov = u.ov; df = f.df }

-- Jcc, SETcc: when a condition holds
abbrev pub holds : ConditionCode → Flags → Bool
holds ConditionCode.E f = f.zf
holds ConditionCode.NE f = not f.zf
holds ConditionCode.L f = differ f.sf f.ov
holds ConditionCode.GE f = not (differ f.sf f.ov)
holds ConditionCode.LE f = f.zf || differ f.sf f.ov
holds ConditionCode.G f = not (f.zf || differ f.sf f.ov)
holds ConditionCode.B f = f.cf
holds ConditionCode.AE f = not f.cf
holds ConditionCode.BE f = f.cf || f.zf
holds ConditionCode.A f = not (f.cf || f.zf)
holds ConditionCode.P f = f.pf
holds ConditionCode.NP f = not f.pf

abbrev pub bit : Bool → ℕ
bit b = cond b 1 0

-- ---- MOV, ADD, SUB, AND, OR, XOR, CMP; MOVSD, MOVSS, ADDSD .. DIVSS, UCOMISD, UCOMISS

-- a result and its flags
abbrev pub computed : ℕ → Operand → ℕ → Flags → State → State
computed n d v f s = next (with_flags f (write n d v s))

-- AND, OR, XOR clear CF and OF
abbrev pub logical : ℕ → Operand → ℕ → State → State
logical n d v s = computed n d v (result_flags n v false false s.flags) s

-- a scalar operation of n bytes keeps the bytes of the XMM register above them
abbrev pub keep_above : ℕ → ℕ → ℕ → ℕ
keep_above n a v = a / bound n * bound n + v % bound n

-- the n low bytes of an XMM register
abbrev pub with_low : ℕ → Operand → ℕ → State → State
with_low n Operand.NoOperand v s = s
with_low n (Operand.Reg r) v s = with_reg (number r) (keep_above n (s.regs (number r)) v) s
with_low n (Operand.Imm k) v s = s
with_low n (Operand.Sym k) v s = s
with_low n (Operand.Label l) v s = s
with_low n (Operand.MemoryAddress a) v s = s

-- a load from memory clears the bytes above
abbrev pub with_xmm : Operand → ℕ → State → State
with_xmm Operand.NoOperand v s = s
with_xmm (Operand.Reg r) v s = with_reg (number r) v s
with_xmm (Operand.Imm k) v s = s
with_xmm (Operand.Sym k) v s = s
with_xmm (Operand.Label l) v s = s
with_xmm (Operand.MemoryAddress a) v s = s

-- UCOMISS, UCOMISD: OF and SF are cleared
abbrev pub compared_flags : Flags → Flags → Flags
compared_flags u f = record { zf = u.zf; sf = false; cf = u.cf; pf = u.pf; ov = false; df = f.df }

-- undefined for the operations that the machine does not have; `known` turns them away before
abbrev pub exec_binary : BinOp → Operand → Operand → ℕ → Choice → State → State
exec_binary BinOp.Mov d x n u s = next (write n d (read n x s) s)
exec_binary BinOp.Xchg d x n u s = with_status undefined s
exec_binary BinOp.Add d x n u s = computed n d (plus n (read n d s) (second n x s)) (plus_flags n (read n d s) (second n x s) s.flags) s
exec_binary BinOp.Sub d x n u s = computed n d (minus n (read n d s) (second n x s)) (minus_flags n (read n d s) (second n x s) s.flags) s
exec_binary BinOp.Adc d x n u s = with_status undefined s
exec_binary BinOp.Sbb d x n u s = with_status undefined s
exec_binary BinOp.And d x n u s = logical n d (bit_and n (read n d s) (second n x s)) s
exec_binary BinOp.Or d x n u s = logical n d (bit_or n (read n d s) (second n x s)) s
exec_binary BinOp.Xor d x n u s = logical n d (bit_xor n (read n d s) (second n x s)) s
exec_binary BinOp.Cmp d x n u s = next (with_flags (minus_flags n (read n d s) (second n x s) s.flags) s)
exec_binary BinOp.Test d x n u s = with_status undefined s
exec_binary BinOp.LoadF d x n u s = next (with_xmm d (read n x s) s)
exec_binary BinOp.StoreF d x n u s = next (write n d (read n x s) s)
exec_binary BinOp.AddF d x n u s = next (with_low n d u.result s)
exec_binary BinOp.SubF d x n u s = next (with_low n d u.result s)
exec_binary BinOp.MulF d x n u s = next (with_low n d u.result s)
exec_binary BinOp.DivF d x n u s = next (with_low n d u.result s)
exec_binary BinOp.ComiF d x n u s = with_status undefined s
exec_binary BinOp.UcomiF d x n u s = next (with_flags (compared_flags u.flags s.flags) s)

-- ---- DIV, IDIV, IMUL

-- the dividend of n-byte division: its upper part is in AH for one byte, in RDX's low n bytes otherwise
abbrev pub dividend : ℕ → State → ℕ
dividend n s = cond (eqb n 1) (s.regs 0 % bound 2) ((s.regs 2 % bound n) * bound n + s.regs 0 % bound n)

-- the quotient goes to AL and the remainder to AH for one byte, else to RAX and RDX
abbrev pub quotient_to : ℕ → ℕ → ℕ → State → State
quotient_to n q r s =
    cond (eqb n 1) (with_reg 0 (merge 2 (s.regs 0) (q + 256 * r)) s)
    (with_reg 2 (merge n (s.regs 2) r) (with_reg 0 (merge n (s.regs 0) q) s))

-- DIV: a zero divisor, or a quotient that n bytes do not hold, faults
abbrev pub divide_by : Flags → ℕ → ℕ → ℕ → State → State
divide_by u n a b s =
    cond (eqb b 0 || leb (bound n) (a / b)) (with_status faulted (next s))
    (next (with_flags (undefined_flags u s.flags) (quotient_to n (a / b) (a % b) s)))

-- IDIV: truncated towards 0, the remainder with the dividend's sign; a zero divisor, or a quotient that n bytes do not hold as a signed number, faults
abbrev pub divide_signed : Flags → ℕ → ℕ → ℕ → State → State
divide_signed u n a b s =
    let q : ℕ = magnitude (n + n) a / magnitude n b in
    let down : Bool = differ (sign (n + n) a) (sign n b) in
    cond (eqb b 0 || ltb (cond down (bound n / 2) (bound n / 2 - 1)) q) (with_status faulted (next s))
    (next
    (with_flags (undefined_flags u s.flags)
    (quotient_to n (negated down n q) (negated (sign (n + n) a) n (magnitude (n + n) a % magnitude n b)) s)))

-- IMUL of two patterns of n bytes: the whole product as a signed number, which CF and OF compare with its low n bytes; SF, ZF, PF are undefined
abbrev pub whole_product : ℕ → ℕ → ℕ → ℕ
whole_product n a b = widen n (n + n) a * widen n (n + n) b % bound (n + n)

abbrev pub multiply_by : Flags → Operand → ℕ → ℕ → ℕ → State → State
multiply_by u d n a b s =
    let cut : Bool = not (eqb (widen n (n + n) (whole_product n a b % bound n)) (whole_product n a b)) in
    computed n d (a * b % bound n) (record { zf = u.zf; sf = u.sf; cf = cut; pf = u.pf; ov = cut; df = s.flags.df }) s

abbrev pub exec_complex : ComplexBinOp → Operand → Operand → ℕ → Choice → State → State
exec_complex ComplexBinOp.Div d x n u s = divide_by u.flags n (dividend n s) (read n x s) s
exec_complex ComplexBinOp.Imul d x n u s = multiply_by u.flags d n (read n d s) (read n x s) s
exec_complex ComplexBinOp.Idiv d x n u s = divide_signed u.flags n (dividend n s) (read n x s) s

-- DIV and IDIV: of the records only these fault (docs/FORMAT.md, "Plain functions")
abbrev pub is_division : ComplexBinOp → Bool
is_division ComplexBinOp.Div = true
is_division ComplexBinOp.Imul = false
is_division ComplexBinOp.Idiv = true

abbrev pub is_dividing : Instruction → Bool
is_dividing (Instruction.Binary op dst src size) = false
is_dividing (Instruction.ComplexBinary op dst src size) = is_division op
is_dividing (Instruction.Convert op dst src size) = false
is_dividing (Instruction.Ctrl op target) = false
is_dividing (Instruction.Extend op dst src src_size size) = false
is_dividing (Instruction.Lea src dst size) = false
is_dividing (Instruction.Label n) = false
is_dividing (Instruction.Prefix prefix op size) = false
is_dividing (Instruction.SetCC op dst) = false
is_dividing (Instruction.Shift op dst src size) = false
is_dividing (Instruction.Stack op value size) = false
is_dividing (Instruction.Unary op dst size) = false

-- ---- NEG, NOT, CDQ, CQO

-- CDQ and CQO: RDX's low n bytes become copies of the sign of RAX's
abbrev pub sign_extended : ℕ → State → State
sign_extended n s = next (with_reg 2 (merge n (s.regs 2) (cond (sign n (s.regs 0 % bound n)) (bound n - 1) 0)) s)

abbrev pub exec_unary : UnaryOp → Operand → ℕ → State → State
exec_unary UnaryOp.Neg d n s = computed n d (minus n 0 (read n d s)) (minus_flags n 0 (read n d s) s.flags) s
exec_unary UnaryOp.Not d n s = next (write n d (invert n (read n d s)) s)
exec_unary UnaryOp.Cdq d n s = sign_extended 4 s
exec_unary UnaryOp.Cqo d n s = sign_extended 8 s

-- ---- SAL, SHR, SAR

-- the count is taken modulo 32, or 64 for eight bytes
abbrev pub shift_count : ℕ → ℕ → ℕ
shift_count n c = c % cond (eqb n 8) 64 32

abbrev pub shifted : ShiftOp → ℕ → ℕ → ℕ → ℕ
shifted ShiftOp.Shl n a k = a * 2 ^ k % bound n
shifted ShiftOp.Shr n a k = a / 2 ^ k
shifted ShiftOp.Sar n a k = arith_down n a k

-- CF, the last bit moved out, for k above 0; it is undefined where SHL and SHR move by as many bits as there are, or more
abbrev pub last_out : ShiftOp → Flags → ℕ → ℕ → ℕ → Bool
last_out ShiftOp.Shl u n a k = cond (leb (8 * n) k) u.cf (eqb (a / 2 ^ (8 * n - k) % 2) 1)
last_out ShiftOp.Shr u n a k = cond (leb (8 * n) k) u.cf (eqb (a / 2 ^ (k - 1) % 2) 1)
last_out ShiftOp.Sar u n a k = eqb (arith_down n a (k - 1) % 2) 1

-- OF, for k = 1
abbrev pub shift_over : ShiftOp → ℕ → ℕ → Bool
shift_over ShiftOp.Shl n a = differ (sign n (a * 2 % bound n)) (sign n a)
shift_over ShiftOp.Shr n a = sign n a
shift_over ShiftOp.Sar n a = false

-- no flag changes where k is 0; OF is undefined for k above 1
abbrev pub shift_flags : Flags → ShiftOp → ℕ → ℕ → ℕ → Flags → Flags
shift_flags u o n a k f =
    cond (eqb k 0) f (result_flags n (shifted o n a k) (last_out o u n a k) (cond (eqb k 1) (shift_over o n a) u.ov) f)

abbrev pub exec_shift : ShiftOp → Operand → Operand → ℕ → Choice → State → State
exec_shift o d x n u s =
    let k : ℕ = shift_count n (read 1 x s) in
    let a : ℕ = read n d s in
    computed n d (shifted o n a k) (shift_flags u.flags o n a k s.flags) s

-- ---- MOVZX, MOVSXD, conversions

abbrev pub exec_extend : ExtendOp → Register → Operand → ℕ → ℕ → State → State
exec_extend ExtendOp.Movzx r x z n s = next (write n (Operand.Reg r) (read z x s) s)
exec_extend ExtendOp.Movsxd r x z n s = next (write n (Operand.Reg r) (widen z n (read z x s)) s)

-- CVTSS2SD, CVTSI2SD write eight bytes of an XMM register, CVTSD2SS, CVTSI2SS four; CVTTSD2SI, CVTTSS2SI a general register
abbrev pub exec_convert : ConvOp → Register → ℕ → Choice → State → State
exec_convert ConvOp.Cvtsd2ss r n u s = next (with_low 4 (Operand.Reg r) u.result s)
exec_convert ConvOp.Cvtsi2sd r n u s = next (with_low 8 (Operand.Reg r) u.result s)
exec_convert ConvOp.Cvtsi2ss r n u s = next (with_low 4 (Operand.Reg r) u.result s)
exec_convert ConvOp.Cvtss2sd r n u s = next (with_low 8 (Operand.Reg r) u.result s)
exec_convert ConvOp.Cvttsd2si r n u s = next (write n (Operand.Reg r) u.result s)
exec_convert ConvOp.Cvttss2si r n u s = next (write n (Operand.Reg r) u.result s)

-- LEA; undefined where there is no address, which `known` turns away before
abbrev pub exec_lea : Register → Operand → ℕ → State → State
exec_lea r Operand.NoOperand n s = with_status undefined s
exec_lea r (Operand.Reg q) n s = with_status undefined s
exec_lea r (Operand.Imm v) n s = with_status undefined s
exec_lea r (Operand.Sym k) n s = with_status undefined s
exec_lea r (Operand.Label l) n s = with_status undefined s
exec_lea r (Operand.MemoryAddress a) n s = next (write n (Operand.Reg r) (address a s) s)

-- ---- PUSH, POP, REP STOS

abbrev pub exec_stack : StackOp → Operand → State → State
exec_stack StackOp.Push x s =
    let a : ℕ = (s.regs 4 + (W - 8)) % W in
    next (with_reg 4 a (with_mem (store s.mem a 8 (read 8 x s)) s))
exec_stack StackOp.Pop x s =
    let a : ℕ = s.regs 4 % W in
    next (write 8 x (load s.mem a 8) (with_reg 4 ((a + 8) % W) s))

-- REP STOSB: RCX bytes from RDI on get AL, upward with the direction flag clear, else downward
abbrev pub exec_stos : State → State
exec_stos s =
    let n : ℕ = s.regs 1 % W in
    let a : ℕ = s.regs 7 % W in
    next
    (with_reg 1 0
    (with_reg 7 (cond s.flags.df (a + (W - n)) (a + n) % W)
    (with_mem (λ (x : ℕ). cond (ltb (cond s.flags.df (above x a) (above a x)) n) (s.regs 0 % 256) (s.mem x)) s)))

-- ---- JMP, Jcc, CALL, RET

abbrev pub is_label : ℕ → Instruction → Bool
is_label l (Instruction.Binary op dst src size) = false
is_label l (Instruction.ComplexBinary op dst src size) = false
is_label l (Instruction.Convert op dst src size) = false
is_label l (Instruction.Ctrl op target) = false
is_label l (Instruction.Extend op dst src src_size size) = false
is_label l (Instruction.Lea src dst size) = false
is_label l (Instruction.Label k) = eqb k l
is_label l (Instruction.Prefix prefix op size) = false
is_label l (Instruction.SetCC op dst) = false
is_label l (Instruction.Shift op dst src size) = false
is_label l (Instruction.Stack op value size) = false
is_label l (Instruction.Unary op dst size) = false

-- where a label stands: the number of records before the first record that is it, or all of them
unfoldable pub find : ℕ → List Instruction → ℕ
find l [] = 0
find l (i ∷ c) = cond (is_label l i) 0 (suc (find l c))

-- undefined where there is no label, which `known` turns away before
abbrev pub jump : List Instruction → Operand → State → State
jump c Operand.NoOperand s = with_status undefined s
jump c (Operand.Reg r) s = with_status undefined s
jump c (Operand.Imm v) s = with_status undefined s
jump c (Operand.Sym k) s = with_status undefined s
jump c (Operand.Label l) s = goto (find l c) s
jump c (Operand.MemoryAddress a) s = with_status undefined s

-- a callee keeps RBX, RSP, RBP and R12 to R15 (System V ABI, 3.2.1, figure 3.4)
abbrev pub is_kept : ℕ → Bool
is_kept r = eqb r 3 || (eqb r 4 || (eqb r 5 || (leb 12 r && leb r 15)))

-- a Call, with all that is run until its callee has returned behind it; the direction flag stays, being clear at a callee's entry and return (System V
-- ABI, 3.2.1)
abbrev pub called : Choice → State → State
called u s =
    record {
      regs = λ r. cond (is_kept r) (s.regs r) (u.regs r);
      mem = u.mem;
      flags = undefined_flags u.flags s.flags;
      links = s.links;
      pos = suc s.pos;
      status = s.status;
    }

abbrev pub exec_ctrl : List Instruction → CtrlOp → Operand → Choice → State → State
exec_ctrl c CtrlOp.Jmp t u s = jump c t s
exec_ctrl c CtrlOp.Call t u s = called u s
exec_ctrl c CtrlOp.Ret t u s =
    let a : ℕ = s.regs 4 % W in
    with_status (returned (load s.mem a 8)) (next (with_reg 4 ((a + 8) % W) s))
exec_ctrl c (CtrlOp.JmpCC cc) t u s = cond (holds cc s.flags) (jump c t s) (next s)

-- ---- one record, and the run of a list

-- `c` is the whole list, for the jumps
unfoldable pub exec : List Instruction → Choice → Instruction → State → State
exec c u (Instruction.Binary op dst src size) s = exec_binary op dst src (bytes size) u s
exec c u (Instruction.ComplexBinary op dst src size) s = exec_complex op dst src (bytes size) u s
exec c u (Instruction.Convert op dst src size) s = exec_convert op dst (bytes size) u s
exec c u (Instruction.Ctrl op target) s = exec_ctrl c op target u s
exec c u (Instruction.Extend op dst src src_size size) s = exec_extend op dst src (bytes src_size) (bytes size) s
exec c u (Instruction.Lea src dst size) s = exec_lea dst src (bytes size) s
exec c u (Instruction.Label l) s = next s
exec c u (Instruction.Prefix prefix op size) s = exec_stos s
exec c u (Instruction.SetCC op dst) s = next (write 1 dst (bit (holds op s.flags)) s)
exec c u (Instruction.Shift op dst src size) s = exec_shift op dst src (bytes size) u s
exec c u (Instruction.Stack op value size) s = exec_stack op value s
exec c u (Instruction.Unary op dst size) s = exec_unary op dst (bytes size) s

-- a record is run if the run has not ended; where there is none that the manual has, the run is undefined from there on
abbrev pub step_on : List Instruction → Choice → Status → List Instruction → State → State
step_on c u running (i ∷ r) s = cond (known i) (exec c u i s) (with_status undefined s)
step_on c u running [] s = with_status undefined s
step_on c u faulted r s = s
step_on c u undefined r s = s
step_on c u (returned a) r s = s

abbrev pub step : List Instruction → Choice → State → State
step c u s = step_on c u s.status (drop s.pos c) s

-- the state after m records; `o m` has what record m of the run leaves open
unfoldable pub run : List Instruction → (ℕ → Choice) → ℕ → State → State
run c o zero s = s
run c o (suc m) s = step c (o m) (run c o m s)

-- ---- behind a record that the manual does not have

-- a register other than RSP and RBP
abbrev pub is_free : ℕ → Bool
is_free r = not (eqb 4 r || eqb 5 r)

-- a destination other than these
abbrev pub is_free_operand : Operand → Bool
is_free_operand Operand.NoOperand = true
is_free_operand (Operand.Reg r) = is_free (number r)
is_free_operand (Operand.Imm v) = true
is_free_operand (Operand.Sym k) = true
is_free_operand (Operand.Label l) = true
is_free_operand (Operand.MemoryAddress a) = true

-- a record that only computes, by its form: it does not jump, call, return, push or pop, and its destination is neither RSP nor RBP
abbrev pub computes : Instruction → Bool
computes (Instruction.Binary op dst src size) = is_free_operand dst
computes (Instruction.ComplexBinary op dst src size) = is_free_operand dst
computes (Instruction.Convert op dst src size) = is_free (number dst)
computes (Instruction.Ctrl op target) = false
computes (Instruction.Extend op dst src src_size size) = is_free (number dst)
computes (Instruction.Lea src dst size) = is_free (number dst)
computes (Instruction.Label n) = true
computes (Instruction.Prefix prefix op size) = true
computes (Instruction.SetCC op dst) = is_free_operand dst
computes (Instruction.Shift op dst src size) = is_free_operand dst
computes (Instruction.Stack op value size) = false
computes (Instruction.Unary op dst size) = is_free_operand dst

-- such a record, where it only computes: as anything that goes on behind it and keeps RSP, RBP and the direction flag
abbrev pub beyond : Choice → State → State
beyond u s =
    record {
      regs = λ r. cond (eqb r 4 || eqb r 5) (s.regs r) (u.regs r);
      mem = u.mem;
      flags = undefined_flags u.flags s.flags;
      links = s.links;
      pos = suc s.pos;
      status = s.status;
    }

abbrev pub pass_on : List Instruction → Choice → Status → List Instruction → State → State
pass_on c u running (i ∷ r) s = cond (known i) (exec c u i s) (beyond u s)
pass_on c u running [] s = with_status undefined s
pass_on c u faulted r s = s
pass_on c u undefined r s = s
pass_on c u (returned a) r s = s

-- the state after m records, where the run passes those that the manual does not have
unfoldable pub pass : List Instruction → (ℕ → Choice) → ℕ → State → State
pass c o zero s = s
pass c o (suc m) s = let t = pass c o m s in pass_on c (o m) t.status (drop t.pos c) t
