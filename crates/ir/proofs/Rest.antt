-- The numbers that no arm of a `match` on a number names, and an offset behind another.
use Prim.Native.Nat.{ℕ, zero, suc, ◌+◌, ◌*◌, ◌/◌, ◌%◌, ◌^◌, ◌≤◌, ◌<◌}
use mathlib.Core.Path.{◌≡◌, refl}
use mathlib.Core.Bool.{false}
use native.Mathlib.Omega.{arith}
use borrow.Author.Tests.{ne_eqb}
use Rattle.x86.specs.declared.enums.Size.{Size}
use Rattle.ir.specs.declared.«Type».{«Type» as IrType}
use Rattle.ir.specs.Types.{element_width, element_size, bytes, rounded_up, offset_behind}
use mathlib.Core.List.{List, [], ◌∷◌}
use lib.ListN.{get_or}
use lib.Dec.{eqb}
use Rattle.ir.specs.Function.{unary_op, binary_op, var_operand, int_operand, float_operand, bool_operand, address_operand, data_operand, copy_at, unary_at, binary_at, cast_at, zero_at, call_at, label_at, jump_at, jump_if_not_at, return_at}
use Rattle.ir.specs.declared.Operand.{Operand}
use Rattle.ir.specs.declared.Instr.{Instr}
use Rattle.ir.specs.declared.UnaryOp.{UnaryOp}
use Rattle.ir.specs.declared.BinaryOp.{BinaryOp}

-- the codes from 16 on have no width
pub wide_code : (code : ℕ) → 16 ≤ code → 0 ≡ element_width code
unfolding element_width
wide_code zero h = absurd (omega (arith, h))
wide_code (suc zero) h = absurd (omega (arith, h))
wide_code (suc (suc zero)) h = absurd (omega (arith, h))
wide_code (suc (suc (suc zero))) h = absurd (omega (arith, h))
wide_code (suc (suc (suc (suc zero)))) h = absurd (omega (arith, h))
wide_code (suc (suc (suc (suc (suc zero))))) h = absurd (omega (arith, h))
wide_code (suc (suc (suc (suc (suc (suc zero)))))) h = absurd (omega (arith, h))
wide_code (suc (suc (suc (suc (suc (suc (suc zero))))))) h = absurd (omega (arith, h))
wide_code (suc (suc (suc (suc (suc (suc (suc (suc zero)))))))) h = absurd (omega (arith, h))
wide_code (suc (suc (suc (suc (suc (suc (suc (suc (suc zero))))))))) h = absurd (omega (arith, h))
wide_code (suc (suc (suc (suc (suc (suc (suc (suc (suc (suc zero)))))))))) h = absurd (omega (arith, h))
wide_code (suc (suc (suc (suc (suc (suc (suc (suc (suc (suc (suc zero))))))))))) h = absurd (omega (arith, h))
wide_code (suc (suc (suc (suc (suc (suc (suc (suc (suc (suc (suc (suc zero)))))))))))) h = absurd (omega (arith, h))
wide_code (suc (suc (suc (suc (suc (suc (suc (suc (suc (suc (suc (suc (suc n))))))))))))) h = refl

-- the others by four bits each
pub packed_width : (code : ℕ) → code < 16 → 0x811_1484_4880 / 2 ^ (4 * code) % 16 ≡ element_width code
unfolding element_width
packed_width zero h = refl
packed_width (suc zero) h = refl
packed_width (suc (suc zero)) h = refl
packed_width (suc (suc (suc zero))) h = refl
packed_width (suc (suc (suc (suc zero)))) h = refl
packed_width (suc (suc (suc (suc (suc zero))))) h = refl
packed_width (suc (suc (suc (suc (suc (suc zero)))))) h = refl
packed_width (suc (suc (suc (suc (suc (suc (suc zero))))))) h = refl
packed_width (suc (suc (suc (suc (suc (suc (suc (suc zero)))))))) h = refl
packed_width (suc (suc (suc (suc (suc (suc (suc (suc (suc zero))))))))) h = refl
packed_width (suc (suc (suc (suc (suc (suc (suc (suc (suc (suc zero)))))))))) h = refl
packed_width (suc (suc (suc (suc (suc (suc (suc (suc (suc (suc (suc zero))))))))))) h = refl
packed_width (suc (suc (suc (suc (suc (suc (suc (suc (suc (suc (suc (suc zero)))))))))))) h = refl
packed_width (suc (suc (suc (suc (suc (suc (suc (suc (suc (suc (suc (suc (suc zero))))))))))))) h = refl
packed_width (suc (suc (suc (suc (suc (suc (suc (suc (suc (suc (suc (suc (suc (suc zero)))))))))))))) h = refl
packed_width (suc (suc (suc (suc (suc (suc (suc (suc (suc (suc (suc (suc (suc (suc (suc zero))))))))))))))) h = refl
packed_width (suc (suc (suc (suc (suc (suc (suc (suc (suc (suc (suc (suc (suc (suc (suc (suc n)))))))))))))))) h = absurd (omega (arith, h))

-- what holds of every width holds of a code's
pub each_width : (P : ℕ → Type 0) (code : ℕ) → P 0 → P 1 → P 4 → P 8 → P (element_width code)
unfolding element_width
each_width P zero none one four eight = none
each_width P (suc zero) none one four eight = eight
each_width P (suc (suc zero)) none one four eight = eight
each_width P (suc (suc (suc zero))) none one four eight = four
each_width P (suc (suc (suc (suc zero)))) none one four eight = four
each_width P (suc (suc (suc (suc (suc zero))))) none one four eight = eight
each_width P (suc (suc (suc (suc (suc (suc zero)))))) none one four eight = four
each_width P (suc (suc (suc (suc (suc (suc (suc zero))))))) none one four eight = one
each_width P (suc (suc (suc (suc (suc (suc (suc (suc zero)))))))) none one four eight = one
each_width P (suc (suc (suc (suc (suc (suc (suc (suc (suc zero))))))))) none one four eight = one
each_width P (suc (suc (suc (suc (suc (suc (suc (suc (suc (suc zero)))))))))) none one four eight = eight
each_width P (suc (suc (suc (suc (suc (suc (suc (suc (suc (suc (suc zero))))))))))) none one four eight = none
each_width P (suc (suc (suc (suc (suc (suc (suc (suc (suc (suc (suc (suc zero)))))))))))) none one four eight = none
each_width P (suc (suc (suc (suc (suc (suc (suc (suc (suc (suc (suc (suc (suc n))))))))))))) none one four eight = none

-- each is at most eight
pub few_bytes : (code : ℕ) → element_width code ≤ 8
few_bytes code = each_width (λ w. w ≤ 8) code (omega arith) (omega arith) (omega arith) (omega arith)

-- what is not 1, 4 or 8 is none
pub no_width_lem : (code : ℕ) → (element_width code ≡ 1 → ⊥) → (element_width code ≡ 4 → ⊥) → (element_width code ≡ 8 → ⊥) → element_width code ≡ 0
no_width_lem code =
    each_width (λ w. (w ≡ 1 → ⊥) → (w ≡ 4 → ⊥) → (w ≡ 8 → ⊥) → w ≡ 0) code (λ a b c. refl) (λ a b c. absurd (a refl)) (λ a b c. absurd (b refl))
    (λ a b c. absurd (c refl))

pub no_size : (w : ℕ) → (w ≡ 1 → ⊥) → (w ≡ 4 → ⊥) → (w ≡ 8 → ⊥) → Size.NoSize ≡ element_size w
no_size w h1 h4 h8 = rw (ne_eqb w 1 h1, ne_eqb w 4 h4, ne_eqb w 8 h8)

-- ---- the numbers that no arm names

pub last_unary : (k : ℕ) → 2 ≤ k → UnaryOp.Not ≡ unary_op k
unfolding unary_op
last_unary zero h = absurd (omega (arith, h))
last_unary (suc zero) h = absurd (omega (arith, h))
last_unary (suc (suc n)) h = refl

pub last_binary : (k : ℕ) → 17 ≤ k → BinaryOp.Rem ≡ binary_op k
unfolding binary_op
last_binary zero h = absurd (omega (arith, h))
last_binary (suc zero) h = absurd (omega (arith, h))
last_binary (suc (suc zero)) h = absurd (omega (arith, h))
last_binary (suc (suc (suc zero))) h = absurd (omega (arith, h))
last_binary (suc (suc (suc (suc zero)))) h = absurd (omega (arith, h))
last_binary (suc (suc (suc (suc (suc zero))))) h = absurd (omega (arith, h))
last_binary (suc (suc (suc (suc (suc (suc zero)))))) h = absurd (omega (arith, h))
last_binary (suc (suc (suc (suc (suc (suc (suc zero))))))) h = absurd (omega (arith, h))
last_binary (suc (suc (suc (suc (suc (suc (suc (suc zero)))))))) h = absurd (omega (arith, h))
last_binary (suc (suc (suc (suc (suc (suc (suc (suc (suc zero))))))))) h = absurd (omega (arith, h))
last_binary (suc (suc (suc (suc (suc (suc (suc (suc (suc (suc zero)))))))))) h = absurd (omega (arith, h))
last_binary (suc (suc (suc (suc (suc (suc (suc (suc (suc (suc (suc zero))))))))))) h = absurd (omega (arith, h))
last_binary (suc (suc (suc (suc (suc (suc (suc (suc (suc (suc (suc (suc zero)))))))))))) h = absurd (omega (arith, h))
last_binary (suc (suc (suc (suc (suc (suc (suc (suc (suc (suc (suc (suc (suc zero))))))))))))) h = absurd (omega (arith, h))
last_binary (suc (suc (suc (suc (suc (suc (suc (suc (suc (suc (suc (suc (suc (suc zero)))))))))))))) h = absurd (omega (arith, h))
last_binary (suc (suc (suc (suc (suc (suc (suc (suc (suc (suc (suc (suc (suc (suc (suc zero))))))))))))))) h = absurd (omega (arith, h))
last_binary (suc (suc (suc (suc (suc (suc (suc (suc (suc (suc (suc (suc (suc (suc (suc (suc zero)))))))))))))))) h = absurd (omega (arith, h))
last_binary (suc (suc (suc (suc (suc (suc (suc (suc (suc (suc (suc (suc (suc (suc (suc (suc (suc zero))))))))))))))))) h = refl
last_binary (suc (suc (suc (suc (suc (suc (suc (suc (suc (suc (suc (suc (suc (suc (suc (suc (suc (suc n)))))))))))))))))) h = refl

pub null_operand : (n : ℕ) (s : List ℕ) (k : ℕ) → 6 ≤ n →
    Operand.Null ≡ get_or (var_operand ∷ int_operand ∷ float_operand ∷ bool_operand ∷ address_operand ∷ data_operand ∷ []) n (λ s k. Operand.Null) s k
null_operand zero s k h = absurd (omega (arith, h))
null_operand (suc zero) s k h = absurd (omega (arith, h))
null_operand (suc (suc zero)) s k h = absurd (omega (arith, h))
null_operand (suc (suc (suc zero))) s k h = absurd (omega (arith, h))
null_operand (suc (suc (suc (suc zero)))) s k h = absurd (omega (arith, h))
null_operand (suc (suc (suc (suc (suc zero))))) s k h = absurd (omega (arith, h))
null_operand (suc (suc (suc (suc (suc (suc n)))))) s k h = refl

pub comment_instr : (n : ℕ) (s : List ℕ) (k : ℕ) → 10 ≤ n →
    Instr.Comment ≡ get_or (copy_at ∷ unary_at ∷ binary_at ∷ cast_at ∷ zero_at ∷ call_at ∷ label_at ∷ jump_at ∷ jump_if_not_at ∷ return_at ∷ []) n (λ s k. Instr.Comment) s k
comment_instr zero s k h = absurd (omega (arith, h))
comment_instr (suc zero) s k h = absurd (omega (arith, h))
comment_instr (suc (suc zero)) s k h = absurd (omega (arith, h))
comment_instr (suc (suc (suc zero))) s k h = absurd (omega (arith, h))
comment_instr (suc (suc (suc (suc zero)))) s k h = absurd (omega (arith, h))
comment_instr (suc (suc (suc (suc (suc zero))))) s k h = absurd (omega (arith, h))
comment_instr (suc (suc (suc (suc (suc (suc zero)))))) s k h = absurd (omega (arith, h))
comment_instr (suc (suc (suc (suc (suc (suc (suc zero))))))) s k h = absurd (omega (arith, h))
comment_instr (suc (suc (suc (suc (suc (suc (suc (suc zero)))))))) s k h = absurd (omega (arith, h))
comment_instr (suc (suc (suc (suc (suc (suc (suc (suc (suc zero))))))))) s k h = absurd (omega (arith, h))
comment_instr (suc (suc (suc (suc (suc (suc (suc (suc (suc (suc n)))))))))) s k h = refl

-- ---- an offset behind another

pub rounded_one : (n : ℕ) → n ≡ rounded_up 1 n
rounded_one n = omega arith

pub offset_on : (end : ℕ) (t : IrType) {w : ℕ} → element_width t.code ≡ w → eqb w 0 ≡ false → rounded_up w (end + bytes t) ≡ offset_behind end t
unfolding offset_behind
offset_on end t e h = simp (e, h)

pub offset_kept : (end : ℕ) (t : IrType) → element_width t.code ≡ 0 → end ≡ offset_behind end t
unfolding offset_behind
offset_kept end t e = simp e
