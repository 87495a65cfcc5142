-- Believed: demands 2 and 3 rest on it. The variables' slots and the frame (docs/FORMAT.md, "Records"; docs/CONTRACTS.md, "Demand 2"), in the
-- claims' own words: with the lowering they share the sizes of types, and no offset.
use Rattle.std.specs.Prelude.{ℕ, zero, suc, ◌+◌, ◌*◌, ◌-◌, ◌/◌, ◌%◌, ◌<◌, ◌≤◌, ◌≡◌, cond, List, [], ◌∷◌, eqb, length, get_or}
use Rattle.ir.specs.declared.«Type».{«Type» as IrType}
use Rattle.ir.specs.Types.{bytes, element_width}
use Rattle.machine.specs.Word.{W, above}
use Rattle.machine.specs.Plain.{no_type}

-- the width of a type's element; 0 where it has none
abbrev pub unit : IrType → ℕ
unit t = element_width t.code

-- a variable's offset, where that of the one before it is `end`: the least multiple of its element's width not below `end` plus its size, or `end`
-- where it has no width (M-110)
unfoldable pub behind : ℕ → IrType → ℕ
behind end t = cond (eqb (unit t) 0) end ((end + bytes t + (unit t - 1)) / unit t * unit t)

-- the offset of variable x of those behind `end`
unfoldable pub offset_from : ℕ → List IrType → ℕ → ℕ
offset_from end [] x = end
offset_from end (t ∷ ts) zero = behind end t
offset_from end (t ∷ ts) (suc x) = offset_from (behind end t) ts x

-- the last offset of those behind `end`
unfoldable pub depth_from : ℕ → List IrType → ℕ
depth_from end [] = end
depth_from end (t ∷ ts) = depth_from (behind end t) ts

abbrev pub offset : List IrType → ℕ → ℕ
offset vars x = offset_from 0 vars x

abbrev pub depth : List IrType → ℕ
depth vars = depth_from 0 vars

abbrev pub size_of : List IrType → ℕ → ℕ
size_of vars x = bytes (get_or vars x no_type)

abbrev pub unit_of : List IrType → ℕ → ℕ
unit_of vars x = unit (get_or vars x no_type)

-- the least multiple of 16 not below the last offset
abbrev pub frame_size : List IrType → ℕ
frame_size vars = (depth vars + 15) / 16 * 16

-- the displacement of variable x from RBP, as a pattern: minus its offset
abbrev pub slot_of : List IrType → ℕ → ℕ
slot_of vars x = (W - offset vars x) % W

-- the address of byte i of variable x, where the frame ends at b: its slot starts at b less the offset
abbrev pub slot_byte : List IrType → ℕ → ℕ → ℕ → ℕ
slot_byte vars b x i = ((b + slot_of vars x) % W + i) % W

-- one offset behind another: the least that will do
pub record Stepped (end : ℕ) (t : IrType) : Type 0 where
  pub multiple : behind end t % unit t ≡ 0
  pub enough : end + bytes t ≤ behind end t
  pub least : (n : ℕ) → n % unit t ≡ 0 → end + bytes t ≤ n → behind end t ≤ n

pub record Framed (vars : List IrType) : Type 0 where
  -- an offset is the least multiple of its element's width not below that before it plus its size
  pub stepped : (end : ℕ) (t : IrType) → 0 < unit t → Stepped end t
  -- the frame is the least multiple of 16 not below the last offset
  pub multiple : frame_size vars % 16 ≡ 0
  pub enough : depth vars ≤ frame_size vars
  pub least : (n : ℕ) → n % 16 ≡ 0 → depth vars ≤ n → frame_size vars ≤ n
  -- every byte of a slot lies in the frame, wherever that ends, and belongs to one slot
  pub inside : (b x i : ℕ) → b < W → x < length vars → i < size_of vars x → above ((b + (W - frame_size vars)) % W) (slot_byte vars b x i) < frame_size vars
  pub apart : (b x y i j : ℕ) → b < W → x < length vars → y < length vars → i < size_of vars x → j < size_of vars y
      → slot_byte vars b x i ≡ slot_byte vars b y j → x ≡ y
  -- where the frame ends at a multiple of 16, as at every entry by the ABI, each slot's address, and that of each element in it, is a multiple of
  -- its element's width
  pub aligned : (b x i : ℕ) → b % 16 ≡ 0 → x < length vars → 0 < unit_of vars x → slot_byte vars b x (i * unit_of vars x) % unit_of vars x ≡ 0
