-- Believed: Krc's `Type` and its answers (parser/postparser/structs.rs), Krc's `Operand::size` (converter/ir/structs.rs), type codes (docs/FORMAT.md, "Types")
-- and offsets (docs/FORMAT.md, "Records"; M-110).
use Rattle.std.specs.Prelude.{ℕ, ◌+◌, ◌*◌, ◌/◌, ◌^◌, ◌-◌, min, List, [], ◌∷◌, Bool, cond, not, ◌&&◌, ◌||◌, get_or, eqb}
use Rattle.cells.specs.Refusals.{no_width}
use Rattle.x86.specs.declared.enums.Size.{Size}
use Rattle.ir.specs.declared.«Type».{«Type» as IrType}
use Rattle.ir.specs.declared.Operand.{Operand}

-- a value, or the number of a refusal (docs/FORMAT.md, "Refusals")
pub data Result (A : Type 0) : Type 0 where
  ok : A → Result A
  refused : ℕ → Result A

-- what follows a value; the first refusal stands
infixl 20 ◌>>=◌
abbrev pub ◌>>=◌ : {A B : Type 0} → Result A → (A → Result B) → Result B
ok a >>= f = f a
refused n >>= f = refused n

-- the count of a type that is no array: the pattern of -1 (docs/FORMAT.md, "Types")
abbrev pub no_array : ℕ
no_array = 2 ^ 64 - 1

abbrev pub is_scalar : IrType → Bool
is_scalar ty = eqb ty.count no_array

-- the bytes of an element, by its code: 1 long, 2 unsigned long, 3 short, 4 unsigned short, 5 float, 6 short float, 7 Bool, 8 Char, 9 Byte,
-- 10 Address, 11 Custom, 12 Null (docs/FORMAT.md, "Types"); 0 for the two that have no width, and for what is no code
unfoldable pub element_width : ℕ → ℕ
element_width code = get_or (0 ∷ 8 ∷ 8 ∷ 4 ∷ 4 ∷ 8 ∷ 4 ∷ 1 ∷ 1 ∷ 1 ∷ 8 ∷ 0 ∷ 0 ∷ []) code 0

-- the bytes of a variable of a type: the product of element and count; 0 where there is no width. No count is above 1,048,576 (docs/FORMAT.md, "Limits")
unfoldable pub bytes : IrType → ℕ
bytes ty = cond (is_scalar ty) (element_width ty.code) (element_width ty.code * min ty.count 1048576)

-- n rounded up to a multiple of w
abbrev pub rounded_up : ℕ → ℕ → ℕ
rounded_up w n = (n + (w - 1)) / w * w

-- a variable's offset under RBP, behind one of offset `end`: `end` plus its size, rounded up to its element's width; one with no width keeps `end`
-- (docs/FORMAT.md, "Records"; M-110)
unfoldable pub offset_behind : ℕ → IrType → ℕ
offset_behind end ty = cond (eqb (element_width ty.code) 0) end (rounded_up (element_width ty.code) (end + bytes ty))

-- the last offset of a list of variables, where those before them end at `end`
unfoldable pub last_offset : ℕ → List IrType → ℕ
last_offset end [] = end
last_offset end (t ∷ ts) = last_offset (offset_behind end t) ts

-- `Type::size`: refusal 4 on Custom, Null and arrays of them (docs/FORMAT.md, "Refusals")
unfoldable pub type_size : IrType → Result ℕ
type_size ty = cond (eqb (element_width ty.code) 0) (refused no_width) (ok (bytes ty))

-- `Type::is_float`: an array of floats is none
unfoldable pub is_float : IrType → Bool
is_float ty = is_scalar ty && (eqb ty.code 5 || eqb ty.code 6)

-- `Type::is_unsigned`: all but the signed integers and the floats, arrays among them
unfoldable pub is_unsigned : IrType → Bool
is_unsigned ty = not (is_scalar ty && (eqb ty.code 1 || (eqb ty.code 3 || (eqb ty.code 5 || eqb ty.code 6))))

-- the size of a move of one element
abbrev pub element_size : ℕ → Size
element_size w = cond (eqb w 1) Size.U8 (cond (eqb w 4) Size.U32 (cond (eqb w 8) Size.U64 Size.NoSize))

-- `Type::to_elf_size`: an array has an address's
unfoldable pub elf_size : IrType → Size
elf_size ty = cond (is_scalar ty) (element_size (element_width ty.code)) Size.U64

-- `Operand::size`
unfoldable pub operand_size : Operand → Size
operand_size (Operand.Var v) = elf_size v.ty
operand_size (Operand.Int n short unsigned) = cond short Size.U32 Size.U64
operand_size (Operand.Float k) = Size.U64
operand_size (Operand.Bool b) = Size.U8
operand_size (Operand.Address v) = Size.U64
operand_size (Operand.DataAddress k) = Size.U64
operand_size Operand.Null = Size.NoSize
