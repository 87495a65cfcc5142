-- Auxiliary: arguments or parameters in order, and what they take. `beyond` is codegen's `excess` by its definition; that `behind_one` is its step is `count_turn`
-- (proofs/Taken).
use Rattle.std.specs.Prelude.{ℕ, suc, ◌≤◌, Bool, cond, List, []}
use Rattle.ir.specs.Types.{Result, ok}
use Rattle.x86.specs.declared.enums.Instruction.{Instruction}
use Rattle.codegen.specs.Instructions.{is_spent, words_taken, floats_taken, excess}
use Rattle.codegen.specs.declared.registers.Taken.{Taken}

-- general registers, XMM registers and eightbytes of the stack
abbrev pub taken : ℕ → ℕ → ℕ → Taken
taken i f j = record { words = i; floats = f; stack = j }

-- it finds the registers of its kind taken
abbrev pub is_beyond : Bool → Taken → Bool
is_beyond float t = is_spent float t.words t.floats

-- what is taken with it
abbrev pub behind_one : Bool → Taken → Taken
behind_one float t =
    cond (is_beyond float t) (taken t.words t.floats (suc t.stack)) (taken (words_taken float t.words) (floats_taken float t.floats) t.stack)

-- those of a list that are beyond
abbrev pub beyond : {A : Type 0} → (A → Bool) → Taken → List A → List A
beyond float t xs = excess float t.words t.floats xs

-- the records of one that is beyond, and none of another
abbrev pub if_beyond : Bool → Taken → Result (List Instruction) → Result (List Instruction)
if_beyond float t r = cond (is_beyond float t) r (ok [])

-- no register but those of parameters
pub record Within (t : Taken) : Type 0 where
  pub words : t.words ≤ 6
  pub floats : t.floats ≤ 8
