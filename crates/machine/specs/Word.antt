-- Believed: demands 2 and 3 rest on it. Numbers as bytes. A byte is taken modulo 256 and an address modulo 2 ^ 64 wherever one is read, so no
-- state needs a side condition.
use Rattle.std.specs.Prelude.{ℕ, zero, suc, ◌+◌, ◌*◌, ◌-◌, ◌/◌, ◌%◌, ◌^◌, Bool, cond, not, ltb, leb, eqb}
use Rattle.std.specs.Bool.{beq}

-- addresses and full registers are numbers below this
abbrev pub W : ℕ
W = 2 ^ 64

-- numbers of n bytes are those below this
abbrev pub bound : ℕ → ℕ
bound n = 256 ^ n

-- byte i of v, the lowest first
abbrev pub byte : ℕ → ℕ → ℕ
byte v i = v / 256 ^ i % 256

-- the number whose bytes, the lowest first, are f 0, .., f (n - 1)
unfoldable pub number : (ℕ → ℕ) → ℕ → ℕ
number f zero = 0
number f (suc n) = f 0 % 256 + 256 * number (λ i. f (suc i)) n

-- ---- numbers of n bytes as two's complement patterns

-- whether a pattern of n bytes is negative: its highest bit
abbrev pub sign : ℕ → ℕ → Bool
sign n a = leb (bound n) (2 * a)

-- a pattern of n bytes as one of m bytes, its sign copied
abbrev pub widen : ℕ → ℕ → ℕ → ℕ
widen n m a = cond (sign n a) (a + (bound m - bound n)) a

-- every bit of a pattern of n bytes flipped
abbrev pub invert : ℕ → ℕ → ℕ
invert n a = bound n - 1 - a

-- a pattern of n bytes moved down by k bits, its sign copied
abbrev pub arith_down : ℕ → ℕ → ℕ → ℕ
arith_down n a k = cond (sign n a) (invert n (invert n a / 2 ^ k)) (a / 2 ^ k)

-- the place of a pattern of n bytes in the order of signed numbers: half the range is added
abbrev pub rank : ℕ → ℕ → ℕ
rank n a = (a + bound n / 2) % bound n

-- whether two signs are not the same
abbrev pub differ : Bool → Bool → Bool
differ a b = not (beq a b)

-- how far a pattern of n bytes lies from 0
abbrev pub magnitude : ℕ → ℕ → ℕ
magnitude n a = cond (sign n a) (bound n - a) a

-- the pattern of minus a, if b says so
abbrev pub negated : Bool → ℕ → ℕ → ℕ
negated b n a = cond b ((bound n - a) % bound n) a

-- ---- bit by bit

-- the k low bits of a and b, combined by f
unfoldable pub bitwise : (ℕ → ℕ → ℕ) → ℕ → ℕ → ℕ → ℕ
bitwise f zero a b = 0
bitwise f (suc k) a b = f (a % 2) (b % 2) + 2 * bitwise f k (a / 2) (b / 2)

-- numbers of n bytes
abbrev pub bit_and : ℕ → ℕ → ℕ → ℕ
bit_and n a b = bitwise (λ x y. x * y) (8 * n) a b

abbrev pub bit_or : ℕ → ℕ → ℕ → ℕ
bit_or n a b = bitwise (λ x y. x + y - x * y) (8 * n) a b

abbrev pub bit_xor : ℕ → ℕ → ℕ → ℕ
bit_xor n a b = bitwise (λ x y. (x + y) % 2) (8 * n) a b

-- ---- memory

-- how far the address x lies above the address a, round the end of the address space
abbrev pub above : ℕ → ℕ → ℕ
above a x = (x + (W - a)) % W

-- memory after a store of the n low bytes of v at the address a
abbrev pub store : (ℕ → ℕ) → ℕ → ℕ → ℕ → ℕ → ℕ
store m a n v x = cond (ltb (above a x) n) (byte v (above a x)) (m x)

-- the n bytes of memory at the address a, as a number
abbrev pub load : (ℕ → ℕ) → ℕ → ℕ → ℕ
load m a n = number (λ i. m ((a + i) % W)) n

-- a table with one entry changed
abbrev pub update : (ℕ → ℕ) → ℕ → ℕ → ℕ → ℕ
update f k v x = cond (eqb x k) v (f x)
