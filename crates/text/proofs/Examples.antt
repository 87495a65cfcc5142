-- Texts that the checker evaluates: numbers at their edges, and a line of the listing example (docs/FORMAT.md, "The listing program").
use Prim.Native.Nat.{◌^◌, ◌-◌}
use mathlib.Core.Path.{◌≡◌, refl}
use mathlib.Core.List.{[], ◌∷◌}
use Rattle.cells.specs.Cells.{minus}
use Rattle.text.specs.Text.{digits, decimal, signed, numbers_line, ok_line, refused_line}

-- `0`
zero_text : decimal 0 ≡ 48 ∷ []
unfolding digits
zero_text = refl

-- `18446744073709551615`
largest_text : decimal (2 ^ 64 - 1) ≡
    49 ∷ 56 ∷ 52 ∷ 52 ∷ 54 ∷ 55 ∷ 52 ∷ 52 ∷ 48 ∷ 55 ∷ 51 ∷ 55 ∷ 48 ∷ 57 ∷ 53 ∷ 53 ∷ 49 ∷ 54 ∷ 49 ∷ 53 ∷ []
unfolding digits
largest_text = refl

-- `-9223372036854775808`
least_text : signed (2 ^ 63) ≡ 45 ∷ 57 ∷ 50 ∷ 50 ∷ 51 ∷ 51 ∷ 55 ∷ 50 ∷ 48 ∷ 51 ∷ 54 ∷ 56 ∷ 53 ∷ 52 ∷ 55 ∷ 55 ∷ 53 ∷ 56 ∷ 48 ∷ 56 ∷ []
unfolding digits signed
least_text = refl

-- `0 0 5 -4 1 7 4 0`, the fourth record of the listing example
fourth_line : numbers_line (0 ∷ 0 ∷ 5 ∷ minus 4 ∷ 1 ∷ 7 ∷ 4 ∷ 0 ∷ []) ≡
    48 ∷ 32 ∷ 48 ∷ 32 ∷ 53 ∷ 32 ∷ 45 ∷ 52 ∷ 32 ∷ 49 ∷ 32 ∷ 55 ∷ 32 ∷ 52 ∷ 32 ∷ 48 ∷ 10 ∷ []
unfolding digits signed numbers_line
fourth_line = refl

-- `ok 8` and `refused 9 1027`
ok_text : ok_line 8 ≡ 111 ∷ 107 ∷ 32 ∷ 56 ∷ 10 ∷ []
unfolding digits ok_line
ok_text = refl

refused_text : refused_line 9 1027 ≡ 114 ∷ 101 ∷ 102 ∷ 117 ∷ 115 ∷ 101 ∷ 100 ∷ 32 ∷ 57 ∷ 32 ∷ 49 ∷ 48 ∷ 50 ∷ 55 ∷ 10 ∷ []
unfolding digits refused_line
refused_text = refl
