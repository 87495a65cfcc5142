-- The unsigned code and the float code of a comparison, by where the code's number lies (M-103).
use Prim.Native.Nat.{◌+◌, ◌-◌, ◌≤◌, ◌<◌}
use mathlib.Core.Path.{◌≡◌}
use mathlib.Core.Bool.{Bool, true, false, ◌||◌}
use lib.Dec.{eqb}
use native.Mathlib.Omega.{arith}
use borrow.Author.Tests.{le-leb, lt-leb, eqb-true}
use Rattle.x86.specs.declared.enums.ConditionCode.{ConditionCode}
use Rattle.x86.specs.Records.{condition_code}
use Rattle.x86.specs.Decode.{condition_of}
use Rattle.codegen.specs.Arithmetic.{unsigned_code, is_swapped, float_code}

module _ (cc : ConditionCode) where
  pub moved : 2 ≤ condition_code cc → condition_code cc ≤ 5 → condition_of (condition_code cc + 4) ≡ unsigned_code cc
  unfolding unsigned_code
  moved h k = rw (le-leb 2 (condition_code cc) h, le-leb (condition_code cc) 5 k)

  pub stays_low : condition_code cc < 2 → cc ≡ unsigned_code cc
  unfolding unsigned_code
  stays_low h = rw (lt-leb 2 (condition_code cc) h)

  pub stays_high : 5 < condition_code cc → cc ≡ unsigned_code cc
  unfolding unsigned_code
  stays_high h = rw (le-leb 2 (condition_code cc) (omega arith), lt-leb (condition_code cc) 5 h)

  -- L and LE are numbers 4 and 5
  pub swapped_from : is_swapped cc ≡ true → 2 ≤ condition_code cc
  swapped_from e = go (eqb (condition_code cc) 4) (eqb-true (condition_code cc) 4) (eqb-true (condition_code cc) 5) e
    where
      go : (a : Bool) → (a ≡ true → condition_code cc ≡ 4) → {b : Bool} → (b ≡ true → condition_code cc ≡ 5) → (a || b) ≡ true → 2 ≤ condition_code cc
      go true h k q = let e : condition_code cc ≡ 4 = h q in omega arith
      go false h k q = let e : condition_code cc ≡ 5 = k q in omega arith

  pub of_swapped : is_swapped cc ≡ true → unsigned_code (condition_of (condition_code cc - 2)) ≡ float_code cc
  unfolding float_code
  of_swapped e = rw e

  pub of_kept : is_swapped cc ≡ false → unsigned_code cc ≡ float_code cc
  unfolding float_code
  of_kept e = rw e
