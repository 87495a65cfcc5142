-- Auxiliary: left and right as a list of operands and the unused cells behind them, equal to `body_in` by `one_list` (proofs/Sides.antt).
use Rattle.std.specs.Prelude.{ℕ, ◌*◌, ◌-◌, cond, eqb}
use Rattle.layout.specs.Layout.{has_left}

-- how many operands the eight cells behind the dest hold; a call's arguments are behind them
abbrev pub sides_of : ℕ → ℕ
sides_of kind = cond (eqb kind 2) 2 (cond (has_left kind) 1 0)

-- how many of these cells are unused; a call has its own in their place
abbrev pub unused_of : ℕ → ℕ
unused_of kind = cond (eqb kind 5) 0 (8 - 4 * sides_of kind)
