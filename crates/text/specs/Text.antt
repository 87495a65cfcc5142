-- Believed: the lines of the listing program's text, as ASCII codes (docs/FORMAT.md, "The listing program").
use Rattle.std.specs.Prelude.{ℕ, zero, suc, ◌+◌, ◌-◌, ◌/◌, ◌%◌, ◌^◌, ◌≤◌, List, [], ◌∷◌, ◌++◌, cond, ltb, eqb, ◌≡◌, length, take}
use Rattle.cells.specs.Cells.{write}

-- a number in decimal, the highest digit first, in at most k digits: 48 is `0`
unfoldable pub digits : ℕ → ℕ → List ℕ
digits zero n = []
digits (suc k) n = cond (ltb n 10) ((48 + n) ∷ []) (digits k (n / 10) ++ ((48 + n % 10) ∷ []))

-- a number below 10 ^ 20, as every number of 64 bits is
abbrev pub decimal : ℕ → List ℕ
decimal n = digits 20 n

-- a cell, a two's complement pattern: 45 is `-`, and 2 ^ 64 - 4 is `-4`
unfoldable pub signed : ℕ → List ℕ
signed v = cond (ltb v (2 ^ 63)) (decimal v) (45 ∷ decimal (2 ^ 64 - v))

-- numbers as cells have them, a blank (32) behind each but the last, and a new line (10) behind that
unfoldable pub numbers_line : List ℕ → List ℕ
numbers_line [] = []
numbers_line (v ∷ vs) = signed (v % 2 ^ 64) ++ (cond (eqb (length vs) 0) 10 32 ∷ numbers_line vs)

-- `ok `
abbrev pub ok_word : List ℕ
ok_word = 111 ∷ 107 ∷ 32 ∷ []

-- `ok ` and the record count
unfoldable pub ok_line : ℕ → List ℕ
ok_line n = ok_word ++ (decimal n ++ (10 ∷ []))

-- `refused `
abbrev pub refused_word : List ℕ
refused_word = 114 ∷ 101 ∷ 102 ∷ 117 ∷ 115 ∷ 101 ∷ 100 ∷ 32 ∷ []

-- `refused `, number and place
unfoldable pub refused_line : ℕ → ℕ → List ℕ
refused_line n place = refused_word ++ (decimal n ++ (32 ∷ (decimal place ++ (10 ∷ []))))

-- `too long`
abbrev pub too_long_line : List ℕ
too_long_line = 116 ∷ 111 ∷ 111 ∷ 32 ∷ 108 ∷ 111 ∷ 110 ∷ 103 ∷ 10 ∷ []

-- the text bs stands in the list from `at` on, the rest of the list is as it was, and r is the place behind bs
pub record Put (before : List ℕ) (at : ℕ) (bs : List ℕ) (r : ℕ) (after : List ℕ) : Type 0 where
  pub behind : r ≡ at + length bs
  pub text : after ≡ write before at bs

-- r counts bytes at the start of a list; the second part follows from the first, and both are what lending those bytes asks
abbrev pub Counts : ℕ → List ℕ → Type 0
Counts r s = (r ≤ length s) × (r ≡ length (take r s))
