-- Decoding reads back what was written: of each instruction that has a record, and of a list in its bytes.
use Prim.Native.Nat.{ℕ, ◌+◌, ◌^◌, ◌<◌}
use mathlib.Core.Path.{◌≡◌, refl, sym, ap, ap₂, ◌∙◌}
use mathlib.Core.List.{List, [], ◌∷◌, ◌++◌, append_assoc}
use mathlib.Core.Option.{some}
use mathlib.Core.Bool.{true}
use lib.Dec.{lit<}
use lib.ListN.{length, length-append}
use native.Mathlib.Omega.{arith}
use borrow.Author.Tests.{lt-ltb, eq-eqb}
use Rattle.cells.specs.Cells.{bytes_of, word}
use Rattle.cells.proofs.Bytes.{word_of_bytes, bytes_of_length}
use Rattle.x86.specs.declared.register.Register.{Register}
use Rattle.x86.specs.declared.mem_address.Base.{Base}
use Rattle.x86.specs.declared.enums.Size.{Size}
use Rattle.x86.specs.declared.enums.Operand.{Operand}
use Rattle.x86.specs.declared.enums.StringOp.{StringOp}
use Rattle.x86.specs.declared.enums.Prefix.{Prefix}
use Rattle.x86.specs.declared.enums.Instruction.{Instruction}
use Rattle.x86.specs.Registers.{number}
use Rattle.x86.specs.Records.{Record, tag_of, value_of, record_of, record_bytes, list_bytes}
use Rattle.x86.proofs.Codes.{size_back, condition_back, binary_back, shift_back, complex_back, unary_back, stack_back, extend_back, conversion_back, control_back, narrow_record}
use Rattle.x86.specs.Decode.{register_at, operand_of, candidate, same_cells, decode, record_at, decode_list, FitsRegister, FitsOperand, Fits, AllFit}

-- ---- operands

register_back : (r : Register) → FitsRegister r → register_at (number r) ≡ some r
register_back r h = rw (lt-ltb r.number 32 h)

address_back : (b : Base) (d : ℕ) → operand_of (tag_of (Operand.MemoryAddress (record { base = b; disp = d }))) d ≡ some (Operand.MemoryAddress (record { base = b; disp = d }))
address_back Base.Rbp d = refl
address_back Base.String d = refl
address_back Base.Float d = refl
address_back Base.Rsp d = refl

operand_back : (x : Operand) → FitsOperand x → operand_of (tag_of x) (value_of x) ≡ some x
operand_back Operand.NoOperand h = refl
operand_back (Operand.Reg r) h = rw (register_back r h)
operand_back (Operand.Imm v) h = refl
operand_back (Operand.Sym k) h = refl
operand_back (Operand.Label l) h = refl
operand_back (Operand.MemoryAddress a) h = address_back a.base a.disp

-- ---- instructions

prefix_back : (p : Prefix) (o : StringOp) (z : Size) → candidate (record_of (Instruction.Prefix p o z)) ≡ some (Instruction.Prefix p o z)
unfolding candidate record_of
prefix_back Prefix.Rep StringOp.Stos z = rw (size_back z)

candidate_back : (i : Instruction) → Fits i → candidate (record_of i) ≡ some i
unfolding candidate record_of
candidate_back (Instruction.Binary op d x z) (h, k) = rw (binary_back op, operand_back d h, operand_back x k, size_back z)
candidate_back (Instruction.ComplexBinary op d x z) (h, k) = rw (complex_back op, operand_back d h, operand_back x k, size_back z)
candidate_back (Instruction.Convert op r x z) (h, k) = rw (conversion_back op, register_back r h, operand_back x k, size_back z)
candidate_back (Instruction.Ctrl op t) h = rw (control_back op, operand_back t h)
candidate_back (Instruction.Extend op r x y z) (h, k) = rw (extend_back op, register_back r h, operand_back x k, size_back y, size_back z)
candidate_back (Instruction.Lea x r z) (h, k) = rw (register_back r h, operand_back x k, size_back z)
candidate_back (Instruction.Label n) h = refl
candidate_back (Instruction.Prefix p op z) h = prefix_back p op z
candidate_back (Instruction.SetCC op d) h = rw (condition_back op, operand_back d h)
candidate_back (Instruction.Shift op d x z) (h, k) = rw (shift_back op, operand_back d h, operand_back x k, size_back z)
candidate_back (Instruction.Stack op x z) h = rw (stack_back op, operand_back x h, size_back z)
candidate_back (Instruction.Unary op d z) h = rw (unary_back op, operand_back d h, size_back z)

same_refl : (r : Record) → same_cells r r ≡ true
same_refl r =
    rw (eq-eqb r.form r.form refl, eq-eqb r.operation r.operation refl, eq-eqb r.dst_tag r.dst_tag refl, eq-eqb r.dst r.dst refl, eq-eqb r.src_tag r.src_tag refl, eq-eqb r.src r.src refl, eq-eqb r.size r.size refl, eq-eqb r.src_size r.src_size refl)

pub decode_back : (i : Instruction) → Fits i → decode (record_of i) ≡ some i
unfolding decode
decode_back i h = rw (candidate_back i h, same_refl (record_of i))

-- ---- the cells are below 2 ^ 64

value_lt : (x : Operand) → FitsOperand x → value_of x < 2 ^ 64
value_lt Operand.NoOperand h = lit< tt
value_lt (Operand.Reg r) h = omega arith
value_lt (Operand.Imm v) h = h
value_lt (Operand.Sym k) h = h
value_lt (Operand.Label l) h = h
value_lt (Operand.MemoryAddress a) h = h

-- every cell of a record
record Small (r : Record) : Type 0 where
  form : r.form < 2 ^ 64
  operation : r.operation < 2 ^ 64
  dst_tag : r.dst_tag < 2 ^ 64
  dst : r.dst < 2 ^ 64
  src_tag : r.src_tag < 2 ^ 64
  src : r.src < 2 ^ 64
  size : r.size < 2 ^ 64
  src_size : r.src_size < 2 ^ 64

-- the two values
values : (i : Instruction) → Fits i → ((record_of i).dst < 2 ^ 64) × ((record_of i).src < 2 ^ 64)
unfolding record_of
values (Instruction.Binary op d x z) (h, k) = (value_lt d h, value_lt x k)
values (Instruction.ComplexBinary op d x z) (h, k) = (value_lt d h, value_lt x k)
values (Instruction.Convert op r x z) (h, k) = (value_lt (Operand.Reg r) h, value_lt x k)
values (Instruction.Ctrl op t) h = (value_lt t h, lit< tt)
values (Instruction.Extend op r x y z) (h, k) = (value_lt (Operand.Reg r) h, value_lt x k)
values (Instruction.Lea x r z) (h, k) = (value_lt (Operand.Reg r) h, value_lt x k)
values (Instruction.Label n) h = (value_lt (Operand.Label n) h, lit< tt)
values (Instruction.Prefix p op z) h = (lit< tt, lit< tt)
values (Instruction.SetCC op d) h = (value_lt d h, lit< tt)
values (Instruction.Shift op d x z) (h, k) = (value_lt d h, value_lt x k)
values (Instruction.Stack op x z) h = (value_lt x h, lit< tt)
values (Instruction.Unary op d z) h = (value_lt d h, lit< tt)

small : (i : Instruction) → Fits i → Small (record_of i)
small i h =
    let n = narrow_record i in
    record {
      form = omega (arith, n.form);
      operation = omega (arith, n.operation);
      dst_tag = omega (arith, n.dst_tag);
      dst = (values i h).0;
      src_tag = omega (arith, n.src_tag);
      src = (values i h).1;
      size = omega (arith, n.size);
      src_size = omega (arith, n.src_size);
    }

-- ---- bytes

-- the list s is p, a number's bytes and q, and p is `at` long
record Seen (s : List ℕ) (at v : ℕ) (q : List ℕ) : Type 0 where
  before : List ℕ
  long : length before ≡ at
  is : s ≡ before ++ (bytes_of v ++ q)

-- the number there, and what lies behind it
read : {s q : List ℕ} {at v : ℕ} → Seen s at v q → v < 2 ^ 64 → word s at ≡ v
read {s} {q} {at} {v} h k = ap (λ (s : List ℕ). word s at) h.is ∙ word_of_bytes h.before q at v h.long k

behind : {s q : List ℕ} {at v w : ℕ} → Seen s at v (bytes_of w ++ q) → Seen s (at + 8) w q
behind {s} {q} {at} {v} {w} h =
    record {
      before = h.before ++ bytes_of v;
      long = length-append h.before (bytes_of v) ∙ ap₂ (λ (a b : ℕ). a + b) h.long (bytes_of_length v);
      is = h.is ∙ sym (append_assoc h.before (bytes_of v) (bytes_of w ++ q));
    }

-- the same at a place that is written as a sum
moved : {s q : List ℕ} {at at' v : ℕ} → at ≡ at' → Seen s at v q → Seen s at' v q
moved {s} {q} {at} {at'} {v} e h = record { before = h.before; long = h.long ∙ e; is = h.is }

record_back : (p q : List ℕ) (at : ℕ) (r : Record) → length p ≡ at → Small r → record_at (p ++ (record_bytes r ++ q)) at ≡ r
unfolding record_bytes
record_back p q at r e h =
    let s : List ℕ = p ++ (record_bytes r ++ q) in
    let rest : List ℕ =
    bytes_of r.operation ++ (bytes_of r.dst_tag ++ (bytes_of r.dst ++ (bytes_of r.src_tag ++ (bytes_of r.src ++ (bytes_of r.size ++ (bytes_of r.src_size ++ q)))))) in
    let s1 : Seen s at r.form rest = record { before = p; long = e; is = simp append_assoc } in
    let s2 = moved {at' = at + 8} refl (behind s1) in
    let s3 = moved {at' = at + 16} (omega arith) (behind s2) in
    let s4 = moved {at' = at + 24} (omega arith) (behind s3) in
    let s5 = moved {at' = at + 32} (omega arith) (behind s4) in
    let s6 = moved {at' = at + 40} (omega arith) (behind s5) in
    let s7 = moved {at' = at + 48} (omega arith) (behind s6) in
    let s8 = moved {at' = at + 56} (omega arith) (behind s7) in
    λ i. record {
      form = read s1 h.form i;
      operation = read s2 h.operation i;
      dst_tag = read s3 h.dst_tag i;
      dst = read s4 h.dst i;
      src_tag = read s5 h.src_tag i;
      src = read s6 h.src i;
      size = read s7 h.size i;
      src_size = read s8 h.src_size i;
    }

pub record_bytes_length : (r : Record) → length (record_bytes r) ≡ 64
unfolding record_bytes
record_bytes_length r = simp (length-append, bytes_of_length)

-- the list in its bytes, wherever they stand
pub list_back : (is : List Instruction) (p q : List ℕ) (at : ℕ) → length p ≡ at → AllFit is → decode_list (p ++ (list_bytes is ++ q)) (length is) at ≡ some is
unfolding decode_list list_bytes
list_back [] p q at e h = refl
list_back (i ∷ is) p q at e (h, k) =
    let b : List ℕ = record_bytes (record_of i) in
    let s : List ℕ = p ++ ((b ++ list_bytes is) ++ q) in
    let s' : s ≡ p ++ (b ++ (list_bytes is ++ q)) = ap (λ (x : List ℕ). p ++ x) (append_assoc b (list_bytes is) q) in
    let l : length (p ++ b) ≡ at + 64 = length-append p b ∙ ap₂ (λ (x y : ℕ). x + y) e (record_bytes_length (record_of i)) in
    let first : decode (record_at s at) ≡ some i =
    ap (λ (x : List ℕ). decode (record_at x at)) s' ∙ ap decode (record_back p (list_bytes is ++ q) at (record_of i) e (small i h)) ∙ decode_back i h in
    let rest : decode_list s (length is) (at + 64) ≡ some is =
    ap (λ (x : List ℕ). decode_list x (length is) (at + 64)) (s' ∙ sym (append_assoc p b (list_bytes is ++ q))) ∙ list_back is (p ++ b) q (at + 64) l k in
    rw (first, rest)
