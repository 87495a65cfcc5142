-- Believed: cells of a byte list: eight bytes each, little-endian, two's complement, counted from 0 (docs/FORMAT.md, "Cells").
-- A byte is taken modulo 256 where it is read, so that every cell is below 2 ^ 64 whatever the list holds.
use Rattle.std.specs.Prelude.{ℕ, zero, suc, ◌+◌, ◌*◌, ◌-◌, ◌/◌, ◌%◌, ◌^◌, ◌<◌, List, [], ◌∷◌, ◌++◌, cond, length, get_or, take, drop, ltb, Result, Ok, Err}
use Rattle.cells.specs.declared.Cursor.{Cursor}
use Rattle.cells.specs.declared.WrongCell.{WrongCell}

-- the byte at a place
abbrev pub byte_at : List ℕ → ℕ → ℕ
byte_at s at = get_or s at 0 % 256

-- the number that the four bytes from `at` make
unfoldable pub half : List ℕ → ℕ → ℕ
half s at = byte_at s at + 256 * byte_at s (at + 1) + 65536 * byte_at s (at + 2) + 16777216 * byte_at s (at + 3)

-- the number that the eight bytes from `at` make
unfoldable pub word : List ℕ → ℕ → ℕ
word s at = half s at + 4294967296 * half s (at + 4)

-- how many whole cells a byte list has
abbrev pub cells : List ℕ → ℕ
cells s = length s / 8

-- cell k
abbrev pub cell_at : List ℕ → ℕ → ℕ
cell_at s k = word s (k * 8)

-- the pattern of a negative number: minus n, for n up to 2 ^ 63
abbrev pub minus : ℕ → ℕ
minus n = (2 ^ 64 - n) % 2 ^ 64

-- the largest number that is not negative
abbrev pub largest : ℕ
largest = 2 ^ 63 - 1

-- a cell and the cursor behind it, or the number of a cell that is missing, torn or wrong
abbrev pub Cell : Type 0
Cell = Result (ℕ × Cursor) WrongCell

abbrev pub wrong : ℕ → Cell
wrong k = Err (record { cell = k })

-- reading at a cursor
unfoldable pub read_cell : List ℕ → Cursor → Cell
read_cell s c = cond (ltb c.at (cells s)) (Ok (cell_at s c.at, record { at = c.at + 1 })) (wrong c.at)

-- a cell that was read at `at`, if its number is from low to high, else a wrong cell
abbrev pub keep_within : ℕ → ℕ → ℕ → Cell → Cell
keep_within at low high (Ok x) = cond (ltb x.0 low) (wrong at) (cond (ltb high x.0) (wrong at) (Ok x))
keep_within at low high (Err w) = Err w

-- reading a cell whose number is from low to high
unfoldable pub read_within : List ℕ → Cursor → ℕ → ℕ → Cell
read_within s c low high = keep_within c.at low high (read_cell s c)

-- what follows a cell that was read; a wrong cell is refused
abbrev pub bind_cell : {R : Type 0} → (ℕ → R) → Cell → (ℕ → Cursor → R) → R
bind_cell refuse (Ok x) rest = rest x.0 x.1
bind_cell refuse (Err w) rest = refuse w.cell

-- the eight bytes of a number
unfoldable pub bytes_of : ℕ → List ℕ
bytes_of v =
    v % 256 ∷ v / 256 % 256 ∷ v / 65536 % 256 ∷ v / 16777216 % 256 ∷ v / 4294967296 % 256 ∷ v / 1099511627776 % 256
    ∷ v / 281474976710656 % 256 ∷ v / 72057594037927936 % 256 ∷ []

-- the list with bs in the place of as many bytes from `at` on; proofs use the laws of proofs/Bytes.antt
unfoldable pub write : List ℕ → ℕ → List ℕ → List ℕ
write s at bs = take at s ++ bs ++ drop (at + length bs) s

-- ---- lists of cells

-- n cells from cell k on
unfoldable pub cells_from : List ℕ → ℕ → ℕ → List ℕ
cells_from s k zero = []
cells_from s k (suc n) = cell_at s k ∷ cells_from s (k + 1) n

-- their bytes
unfoldable pub cell_bytes : List ℕ → List ℕ
cell_bytes [] = []
cell_bytes (x ∷ xs) = bytes_of x ++ cell_bytes xs

-- every element of a list is a byte
abbrev pub Bytes : List ℕ → Type 0
Bytes s = (i : ℕ) → get_or s i 0 < 256
