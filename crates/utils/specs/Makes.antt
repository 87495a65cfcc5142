-- Auxiliary: what a maker of records asks, says and leaves, in both passes, where it writes and where it only counts.
use Rattle.std.specs.Prelude.{ℕ, ◌+◌, ◌*◌, ◌≤◌, ◌≡◌, List, [], ◌∷◌, ◌++◌, Bool, true, cond, length}
use Rattle.cells.specs.Cells.{write}
use Rattle.ir.specs.Types.{Result, ok, refused}
use Rattle.x86.specs.declared.enums.Instruction.{Instruction}
use Rattle.x86.specs.Records.{list_bytes}
use Rattle.std.specs.Prelude as std
use Rattle.cells.specs.declared.refusals.Refusal.{Refusal}
use Rattle.ir.specs.Answers as answer
use Rattle.utils.specs.Answers.{counted}

-- a record alone
abbrev pub alone : Result Instruction → Result (List Instruction)
alone (ok i) = ok (i ∷ [])
alone (refused n) = refused n

-- the list that is made of what the look-ups found
abbrev pub listed : {A : Type 0} → Result A → (A → List Instruction) → Result (List Instruction)
listed (ok a) f = ok (f a)
listed (refused n) f = refused n

-- the bytes with the list from `at` on; a refusal leaves them
abbrev pub after : Result (List Instruction) → ℕ → List ℕ → List ℕ
after (ok is) at old = write old at (list_bytes is)
after (refused n) at old = old

-- how many records, or which refusal; and the bytes afterwards, which change only where it writes
pub record Makes (writes : Bool) (list : Result (List Instruction)) (at : ℕ) (old new : List ℕ) (r : std.Result ℕ Refusal) : Type 0 where
  pub says : answer.says r ≡ counted list
  pub bytes : new ≡ cond writes (after list at old) old

-- there is a list, and room for it
abbrev pub Fits : Result (List Instruction) → ℕ → ℕ → Type 0
Fits (ok is) at n = at + 64 * length is ≤ n
Fits (refused k) at n = ⊥

-- what a maker asks: nothing where it counts
pub record Ready (writes : Bool) (list : Result (List Instruction)) (at n : ℕ) : Type 0 where
  pub room : writes ≡ true → Fits list at n

-- ---- makers one after the other

-- records before those of a result
abbrev pub before : List Instruction → Result (List Instruction) → Result (List Instruction)
before xs (ok is) = ok (xs ++ is)
before xs (refused n) = refused n

-- a list, and what follows it; the first refusal stands
abbrev pub then : Result (List Instruction) → Result (List Instruction) → Result (List Instruction)
then (ok is) rest = before is rest
then (refused n) rest = refused n
