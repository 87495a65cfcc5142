-- Believed: demand 3 rests on it. F's states and steps (docs/FORMAT.md, "Plain functions"). They are defined for every function. F is stuck at a Call, at a
-- logical And or Or, at a float constant, a string address or an `Address` as operand, and where it jumps to a label that stands nowhere. No claim
-- rests on what else a function does here that is not plain.
use Rattle.std.specs.Prelude.{ℕ, zero, suc, ◌+◌, ◌*◌, ◌-◌, ◌/◌, ◌%◌, ◌^◌, Bool, true, false, cond, not, ◌&&◌, ◌||◌, List, [], ◌∷◌, ltb, leb, eqb, length, drop}
use Rattle.ir.specs.declared.«Type».{«Type» as IrType}
use Rattle.ir.specs.declared.VarId.{VarId}
use Rattle.ir.specs.declared.Operand.{Operand}
use Rattle.ir.specs.declared.UnaryOp.{UnaryOp}
use Rattle.ir.specs.declared.Instr.{Instr}
use Rattle.ir.specs.Types.{bytes}
use Rattle.ir.specs.Function.{Function, Line}
use Rattle.machine.specs.Word.{bound, byte, number, sign, widen, invert, arith_down, rank, differ, magnitude, negated, bit_and, bit_or, bit_xor}
use Rattle.ir.specs.declared.BinaryOp.{BinaryOp}

-- ---- operands

-- codes 1 and 3, long and short, are signed
abbrev pub is_signed_type : IrType → Bool
is_signed_type ty = eqb ty.code 1 || eqb ty.code 3

-- an operand's width in bytes: a variable's, Int 4 or 8 by its flag, Bool 1, Null 8
unfoldable pub width : Operand → ℕ
width (Operand.Var v) = bytes v.ty
width (Operand.Int v short unsigned) = cond short 4 8
width (Operand.Float k) = 0
width (Operand.Bool b) = 1
width (Operand.Address v) = 0
width (Operand.DataAddress k) = 0
width Operand.Null = 8

abbrev pub is_signed : Operand → Bool
is_signed (Operand.Var v) = is_signed_type v.ty
is_signed (Operand.Int v short unsigned) = not unsigned
is_signed (Operand.Float k) = false
is_signed (Operand.Bool b) = false
is_signed (Operand.Address v) = false
is_signed (Operand.DataAddress k) = false
is_signed Operand.Null = false

-- the bytes of each variable
abbrev pub Values : Type 0
Values = ℕ → ℕ → ℕ

-- an operand as a number of n bytes
abbrev pub value_at : ℕ → Operand → Values → ℕ
value_at n (Operand.Var v) σ = number (σ v.id) n
value_at n (Operand.Int v short unsigned) σ = v % bound n
value_at n (Operand.Float k) σ = 0
value_at n (Operand.Bool b) σ = cond b 1 0
value_at n (Operand.Address v) σ = 0
value_at n (Operand.DataAddress k) σ = 0
value_at n Operand.Null σ = 0

abbrev pub value : Operand → Values → ℕ
value x σ = value_at (width x) x σ

-- ---- operations on numbers of n bytes

-- a comparison of two numbers; false for the other operations
abbrev pub compares : BinaryOp → ℕ → ℕ → Bool
compares BinaryOp.Or a b = false
compares BinaryOp.And a b = false
compares BinaryOp.BitOr a b = false
compares BinaryOp.BitXor a b = false
compares BinaryOp.BitAnd a b = false
compares BinaryOp.Eq a b = eqb a b
compares BinaryOp.NotEq a b = not (eqb a b)
compares BinaryOp.Lt a b = ltb a b
compares BinaryOp.Le a b = leb a b
compares BinaryOp.Gt a b = ltb b a
compares BinaryOp.Ge a b = leb b a
compares BinaryOp.Shl a b = false
compares BinaryOp.Shr a b = false
compares BinaryOp.Add a b = false
compares BinaryOp.Sub a b = false
compares BinaryOp.Mul a b = false
compares BinaryOp.Div a b = false
compares BinaryOp.Rem a b = false

-- the order of two numbers of n bytes, signed or not
abbrev pub ordered : Bool → ℕ → BinaryOp → ℕ → ℕ → Bool
ordered true n op a b = compares op (rank n a) (rank n b)
ordered false n op a b = compares op a b

-- shift counts are taken modulo 32, or 64 for eight bytes
abbrev pub shift_by : ℕ → ℕ → ℕ
shift_by n b = b % cond (eqb n 8) 64 32

abbrev pub shift_right : Bool → ℕ → ℕ → ℕ → ℕ
shift_right true n a k = arith_down n a k
shift_right false n a k = a / 2 ^ k

-- Div and Rem read both operands as signed where dest is, else as unsigned (M-106): the quotient is rounded toward zero, and the remainder has
-- the dividend's sign
abbrev pub quotient : Bool → ℕ → ℕ → ℕ → ℕ
quotient true n a b = negated (differ (sign n a) (sign n b)) n (magnitude n a / magnitude n b)
quotient false n a b = a / b

abbrev pub remainder : Bool → ℕ → ℕ → ℕ → ℕ
remainder true n a b = negated (sign n a) n (magnitude n a % magnitude n b)
remainder false n a b = a % b

-- what a binary operation makes of two operands of n bytes, modulo 2^width; `left` says whether left's type is signed, `dest` whether dest's code is 1
-- or 3; the logical pair makes nothing
unfoldable pub binary : BinaryOp → Bool → Bool → ℕ → ℕ → ℕ → ℕ
binary BinaryOp.Or left dest n a b = 0
binary BinaryOp.And left dest n a b = 0
binary BinaryOp.BitOr left dest n a b = bit_or n a b
binary BinaryOp.BitXor left dest n a b = bit_xor n a b
binary BinaryOp.BitAnd left dest n a b = bit_and n a b
binary BinaryOp.Eq left dest n a b = cond (ordered left n BinaryOp.Eq a b) 1 0
binary BinaryOp.NotEq left dest n a b = cond (ordered left n BinaryOp.NotEq a b) 1 0
binary BinaryOp.Lt left dest n a b = cond (ordered left n BinaryOp.Lt a b) 1 0
binary BinaryOp.Le left dest n a b = cond (ordered left n BinaryOp.Le a b) 1 0
binary BinaryOp.Gt left dest n a b = cond (ordered left n BinaryOp.Gt a b) 1 0
binary BinaryOp.Ge left dest n a b = cond (ordered left n BinaryOp.Ge a b) 1 0
binary BinaryOp.Shl left dest n a b = a * 2 ^ shift_by n b % bound n
binary BinaryOp.Shr left dest n a b = shift_right dest n a (shift_by n b)
binary BinaryOp.Add left dest n a b = (a + b) % bound n
binary BinaryOp.Sub left dest n a b = (a + (bound n - b)) % bound n
binary BinaryOp.Mul left dest n a b = a * b % bound n
binary BinaryOp.Div left dest n a b = quotient dest n a b
binary BinaryOp.Rem left dest n a b = remainder dest n a b

-- Not flips the lowest bit
unfoldable pub unary : UnaryOp → ℕ → ℕ → ℕ
unary UnaryOp.Neg n a = (bound n - a) % bound n
unary UnaryOp.BitNot n a = invert n a
unary UnaryOp.Not n a = bit_xor n a 1

-- a number of n bytes as one of m bytes: narrowing keeps low bytes; one byte widens with zeros, four with the sign where the operand is signed, else
-- with zeros (M-105)
unfoldable pub cast : Bool → ℕ → ℕ → ℕ → ℕ
cast signed n m a = cond (leb m n) (a % bound m) (cond (eqb n 4 && signed) (widen 4 m a) a)

-- ---- states

-- `returned n v`: with the value v of n bytes, and n is 0 where there is no value
pub data Status : Type 0 where
  running faulted stuck : Status
  returned : ℕ → ℕ → Status

-- `next` is the number of instructions before the next one: that one's number less 1
pub record State : Type 0 where
  pub next : ℕ
  pub vals : Values
  pub status : Status

-- the values after the n low bytes of v have been written to variable x
abbrev pub put : Values → ℕ → ℕ → ℕ → Values
put σ x n v y i = cond (eqb y x && ltb i n) (byte v i) (σ y i)

-- ---- steps

-- at instruction k; with none left F has returned, without a value
abbrev pub arrive : Function → ℕ → Values → State
arrive F k σ = record { next = k; vals = σ; status = cond (ltb k (length F.body)) running (returned 0 0) }

abbrev pub ended : Status → State → State
ended t s = record { next = s.next; vals = s.vals; status = t }

-- the next in order, with dest's bytes changed
abbrev pub assign : Function → VarId → ℕ → State → State
assign F d v s = arrive F (suc s.next) (put s.vals d.id (bytes d.ty) v)

abbrev pub is_label : ℕ → Instr → Bool
is_label l (Instr.Copy dest src) = false
is_label l (Instr.Unary dest op src) = false
is_label l (Instr.Binary dest op left right) = false
is_label l (Instr.Cast dest src) = false
is_label l (Instr.Zero dest) = false
is_label l (Instr.Call dest symbol count) = false
is_label l (Instr.Label k) = eqb k l
is_label l (Instr.Jump k) = false
is_label l (Instr.JumpIfNot condition k) = false
is_label l (Instr.Return op) = false
is_label l Instr.Comment = false

-- the number of instructions before the first that is the label l, or all of them
unfoldable pub find : ℕ → List Line → ℕ
find l [] = 0
find l (i ∷ is) = cond (is_label l i.instr) 0 (suc (find l is))

-- to the Label that a jump names
abbrev pub leap : Function → ℕ → State → State
leap F l s = cond (ltb (find l F.body) (length F.body)) (arrive F (find l F.body) s.vals) (ended stuck s)

abbrev pub is_division : BinaryOp → Bool
is_division BinaryOp.Or = false
is_division BinaryOp.And = false
is_division BinaryOp.BitOr = false
is_division BinaryOp.BitXor = false
is_division BinaryOp.BitAnd = false
is_division BinaryOp.Eq = false
is_division BinaryOp.NotEq = false
is_division BinaryOp.Lt = false
is_division BinaryOp.Le = false
is_division BinaryOp.Gt = false
is_division BinaryOp.Ge = false
is_division BinaryOp.Shl = false
is_division BinaryOp.Shr = false
is_division BinaryOp.Add = false
is_division BinaryOp.Sub = false
is_division BinaryOp.Mul = false
is_division BinaryOp.Div = true
is_division BinaryOp.Rem = true

-- where a division ends F by a fault (M-106): a zero divisor, and of signed numbers the least by -1, whose quotient n bytes do not hold
abbrev pub is_bad : Bool → ℕ → ℕ → ℕ → Bool
is_bad dest n a b = eqb b 0 || (dest && (eqb (2 * a) (bound n) && eqb (b + 1) (bound n)))

-- where an operation ends F by a fault: a Div or Rem of such operands
abbrev pub fails : BinaryOp → Bool → ℕ → ℕ → ℕ → Bool
fails op dest n a b = is_division op && is_bad dest n a b

-- the operands are taken as they were; an operation that fails changes nothing
abbrev pub exec_binary : Function → VarId → BinaryOp → Operand → Operand → State → State
exec_binary F d op x y s =
    cond (fails op (is_signed_type d.ty) (width x) (value x s.vals) (value y s.vals)) (ended faulted s)
    (assign F d (binary op (is_signed x) (is_signed_type d.ty) (width x) (value x s.vals) (value y s.vals)) s)

-- one instruction
unfoldable pub exec : Function → Instr → State → State
exec F (Instr.Copy d x) s = assign F d (value x s.vals) s
exec F (Instr.Unary d op x) s = assign F d (unary op (width x) (value x s.vals)) s
exec F (Instr.Binary d op x y) s = exec_binary F d op x y s
exec F (Instr.Cast d x) s = assign F d (cast (is_signed x) (width x) (bytes d.ty) (value x s.vals)) s
exec F (Instr.Zero d) s = assign F d 0 s
exec F (Instr.Call d symbol count) s = ended stuck s
exec F (Instr.Label l) s = arrive F (suc s.next) s.vals
exec F (Instr.Jump l) s = leap F l s
exec F (Instr.JumpIfNot x l) s = cond (eqb (value x s.vals) 0) (leap F l s) (arrive F (suc s.next) s.vals)
exec F (Instr.Return x) s = ended (returned (width x) (value x s.vals)) s
exec F Instr.Comment s = arrive F (suc s.next) s.vals

-- ---- what a plain function can have

-- a variable or an integer, Bool or Null constant
abbrev pub is_meant : Operand → Bool
is_meant (Operand.Var v) = true
is_meant (Operand.Int v short unsigned) = true
is_meant (Operand.Float k) = false
is_meant (Operand.Bool b) = true
is_meant (Operand.Address v) = false
is_meant (Operand.DataAddress k) = false
is_meant Operand.Null = true

abbrev pub is_logical : BinaryOp → Bool
is_logical BinaryOp.Or = true
is_logical BinaryOp.And = true
is_logical BinaryOp.BitOr = false
is_logical BinaryOp.BitXor = false
is_logical BinaryOp.BitAnd = false
is_logical BinaryOp.Eq = false
is_logical BinaryOp.NotEq = false
is_logical BinaryOp.Lt = false
is_logical BinaryOp.Le = false
is_logical BinaryOp.Gt = false
is_logical BinaryOp.Ge = false
is_logical BinaryOp.Shl = false
is_logical BinaryOp.Shr = false
is_logical BinaryOp.Add = false
is_logical BinaryOp.Sub = false
is_logical BinaryOp.Mul = false
is_logical BinaryOp.Div = false
is_logical BinaryOp.Rem = false

-- the logical pair, Or and And, has no meaning here
abbrev pub has_meaning : Instr → Bool
has_meaning (Instr.Copy d x) = is_meant x
has_meaning (Instr.Unary d op x) = is_meant x
has_meaning (Instr.Binary d op x y) = not (is_logical op) && (is_meant x && is_meant y)
has_meaning (Instr.Cast d x) = is_meant x
has_meaning (Instr.Zero d) = true
has_meaning (Instr.Call d symbol count) = false
has_meaning (Instr.Label l) = true
has_meaning (Instr.Jump l) = true
has_meaning (Instr.JumpIfNot x l) = is_meant x
has_meaning (Instr.Return x) = is_meant x
has_meaning Instr.Comment = true

-- ---- runs

abbrev pub step_on : Function → Status → List Line → State → State
step_on F running (i ∷ is) s = cond (has_meaning i.instr) (exec F i.instr s) (ended stuck s)
step_on F running [] s = s
step_on F faulted is s = s
step_on F stuck is s = s
step_on F (returned n v) is s = s

abbrev pub step : Function → State → State
step F s = step_on F s.status (drop s.next F.body) s

-- the state after n steps
unfoldable pub run : Function → ℕ → State → State
run F zero s = s
run F (suc n) s = step F (run F n s)
