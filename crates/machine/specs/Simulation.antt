-- Believed: it is demand 3. What a run of the lowered list of a plain function does, as one claim about the whole run (docs/FORMAT.md, "Plain functions";
-- docs/CONTRACTS.md, "Demand 3").
use Rattle.std.specs.Prelude.{ℕ, suc, ◌+◌, ◌*◌, ◌-◌, ◌%◌, ◌<◌, ◌≤◌, ◌≡◌, ◌↔◌, ◌⊎◌, false, cond, List, [], ◌∷◌, ◌++◌, ltb, length, get_or, take, drop}
use Rattle.std.proofs.Math.Option.{some}
use Rattle.ir.specs.declared.VarId.{VarId}
use Rattle.ir.specs.Types as types
use Rattle.ir.specs.Types.{Result, ok, bytes}
use Rattle.ir.specs.Function.{Function, Line, Tables, tables_of, function_of}
use Rattle.x86.specs.declared.enums.Instruction.{Instruction}
use Rattle.x86.specs.Decode.{decode_list}
use Rattle.codegen.specs.Context.{Context, context_of}
use Rattle.codegen.specs.Frame.{offsets_from, frame, func_prologue}
use Rattle.codegen.specs.Generation.{generate_instruction}
use Rattle.machine.specs.Word.{W, bound, above, load}
use Rattle.machine.specs.Machine as x86
use Rattle.machine.specs.Machine.{State, Choice, is_dividing}
use Rattle.machine.specs.Steps as steps
use Rattle.machine.specs.Steps.{Values, put, arrive}
use Rattle.machine.specs.Frames.{frame_size, slot_byte, size_of}

-- ---- entry, by the System V ABI

-- RSP plus 8 is a multiple of 16 (3.2.2), the direction flag is clear (3.2.1); nothing else is asked
pub record Entry (s : State) : Type 0 where
  pub going : s.status ≡ x86.running
  pub first : s.pos ≡ 0
  pub aligned : (s.regs 4 + 8) % 16 ≡ 0
  pub upward : s.flags.df ≡ false

-- B, where the caller's RBP is saved: RSP at entry less 8; the frame ends here (docs/FORMAT.md, "Plain functions")
abbrev pub base : State → ℕ
base s = (s.regs 4 + (W - 8)) % W

-- RDI, RSI, RDX, RCX, R8, R9 carry the parameters in order (3.2.3)
abbrev pub abi_registers : List ℕ
abi_registers = 7 ∷ 6 ∷ 2 ∷ 1 ∷ 8 ∷ 9 ∷ []

-- the n low bytes of number j of the values that the caller has put on the stack (System V ABI, 3.2.3; M-112)
abbrev pub stack_at : State → ℕ → ℕ → ℕ
stack_at s j n = load s.mem ((base s + (16 + 8 * j)) % W) n

-- the value of parameter k, of n bytes: the low bytes of its register, or of its place on the stack
abbrev pub parameter_at : State → ℕ → ℕ → ℕ
parameter_at s k n = cond (ltb k 6) (s.regs (get_or abi_registers k 0) % bound n) (stack_at s (k - 6) n)

-- the parameters from number k on get their values
abbrev pub fill : State → ℕ → List VarId → Values → Values
fill s k [] σ = σ
fill s k (p ∷ ps) σ = fill s (suc k) ps (put σ p.id (bytes p.ty) (parameter_at s k (bytes p.ty)))

-- F at its entry: a parameter starts with its value, any other variable with its slot's bytes
abbrev pub start : Function → State → steps.State
start F s = arrive F 0 (fill s 0 F.params (λ x i. s.mem (slot_byte F.vars (base s) x i)))

-- ---- F's place

-- the records of a part of the lowering that was accepted
abbrev pub records_of : Result (List Instruction) → List Instruction
records_of (ok is) = is
records_of (types.refused n) = []

abbrev pub context_for : Tables → Function → Context
context_for tables F = context_of tables (offsets_from 0 F.vars)

unfoldable pub records_of_lines : Tables → Function → List Line → List Instruction
records_of_lines tables F [] = []
records_of_lines tables F (l ∷ ls) = records_of (generate_instruction (context_for tables F) F.labels F.ret l) ++ records_of_lines tables F ls

-- behind the prologue and the records of all instructions before instruction k
unfoldable pub place : Tables → Function → ℕ → ℕ
place tables F k =
    length (records_of (func_prologue (context_for tables F) (frame F.vars) F.params))
    + length (records_of_lines tables F (take k F.body))

-- behind the Ret by which F returns from instruction k, or with none left
abbrev pub behind_ret : Tables → Function → List Instruction → ℕ → ℕ
behind_ret tables F c k = cond (ltb k (length F.body)) (place tables F (suc k)) (length c)

-- the number of records before the first that divides
unfoldable pub find_division : List Instruction → ℕ
find_division [] = 0
find_division (i ∷ c) = cond (is_dividing i) 0 (suc (find_division c))

-- behind the Div or Idiv of instruction k, the record that faults
abbrev pub behind_division : Tables → Function → List Instruction → ℕ → ℕ
behind_division tables F c k = place tables F k + suc (find_division (drop (place tables F k) c))

-- ---- the claim

-- the address a lies neither in the frame nor in the saved RBP
abbrev pub Outside : Function → State → ℕ → Type 0
Outside F s a = (a < W) × (frame_size F.vars + 8 ≤ above ((base s + (W - frame_size F.vars)) % W) a)

-- as the run ends by a return: to the caller, with F's value in the low bytes of RAX, the caller's RBP, RSP behind the return address, and
-- RBX and R12 to R15 as they were
pub record Returned (s₀ s : State) (n v : ℕ) : Type 0 where
  pub to : s.status ≡ x86.returned (load s₀.mem (s₀.regs 4 % W) 8)
  pub value : s.regs 0 % bound n ≡ v
  pub bp : s.regs 5 % W ≡ s₀.regs 5 % W
  pub sp : s.regs 4 % W ≡ (s₀.regs 4 + 8) % W
  pub bx : s.regs 3 ≡ s₀.regs 3
  pub others : (r : ℕ) → 12 ≤ r → r ≤ 15 → s.regs r ≡ s₀.regs r

-- how the run of c stands, by how F stands; s₀ is the state at entry. The record that faults is one of its instruction's own
abbrev pub Stands : Tables → Function → List Instruction → State → State → steps.State → steps.Status → Type 0
Stands tables F c s₀ s t steps.running = (s.status ≡ x86.running) × (s.pos ≡ place tables F t.next)
Stands tables F c s₀ s t steps.faulted =
    (s.status ≡ x86.faulted) × (s.pos ≡ behind_division tables F c t.next) × (s.pos ≤ place tables F (suc t.next))
Stands tables F c s₀ s t steps.stuck = ⊥
Stands tables F c s₀ s t (steps.returned n v) = Returned s₀ s n v × (s.pos ≡ behind_ret tables F c t.next)

-- each slot holds its variable's value
pub record Agrees (tables : Tables) (F : Function) (c : List Instruction) (s₀ s : State) (t : steps.State) : Type 0 where
  pub slots : (x i : ℕ) → x < length F.vars → i < size_of F.vars x → s.mem (slot_byte F.vars (base s₀) x i) ≡ t.vals x i
  pub stands : Stands tables F c s₀ s t t.status

-- the most records for n steps of F, with k parameters beyond the six registers: 12 + 2k + 5n (M-112)
abbrev pub most : Function → ℕ → ℕ
most F n = 12 + 2 * (length F.params - 6) + 5 * n

-- the run keeps pace with F, step by step: after n steps of F, `at n` records have run to F's place
pub record Follows (tables : Tables) (F : Function) (c : List Instruction) (o : ℕ → Choice) (s₀ : State) : Type 0 where
  pub at : ℕ → ℕ
  pub few : (n : ℕ) → at n ≤ most F n
  pub onward : (n : ℕ) → at n ≤ at (suc n)
  -- as long as F goes on, a step is the records of its instruction, all of them and no others: `at` grows wherever there are any
  pub counts : (n : ℕ) → (steps.run F (suc n) (start F s₀)).status ≡ steps.running
      → place tables F (suc (steps.run F n (start F s₀)).next) + at n ≡ place tables F (steps.run F n (start F s₀)).next + at (suc n)
  pub agrees : (n : ℕ) → Agrees tables F c s₀ (x86.run c o (at n) s₀) (steps.run F n (start F s₀))
  -- every record of the run comes before F's place after some n steps, or F has ended by then: an F that runs for ever is followed for ever
  pub passes : (m : ℕ) → (n : ℕ) × ((m ≤ at n) ⊎ ((at n ≤ m) × ((steps.run F n (start F s₀)).status ≡ steps.running → ⊥)))

-- `o` has what the manual leaves open
pub record Simulates (tables : Tables) (F : Function) (c : List Instruction) (o : ℕ → Choice) (s₀ : State) : Type 0 where
  -- for every n, after n steps of F the records have run to F's place, `most F n` of them at most
  pub follows : Follows tables F c o s₀
  -- they fault exactly when F does: on a zero divisor, and of signed numbers on the least by -1
  pub faults :
      ((n : ℕ) × ((steps.run F n (start F s₀)).status ≡ steps.faulted)) ↔ ((m : ℕ) × ((x86.run c o m s₀).status ≡ x86.faulted))
  -- they return exactly when F returns
  pub returns :
      ((n w v : ℕ) × ((steps.run F n (start F s₀)).status ≡ steps.returned w v)) ↔ ((m a : ℕ) × ((x86.run c o m s₀).status ≡ x86.returned a))
  -- they never come to a record that the manual does not have
  pub defined : (m : ℕ) → (x86.run c o m s₀).status ≡ x86.undefined → ⊥
  -- at no time have they changed a byte outside the frame and the saved RBP
  pub keeps : (m a : ℕ) → Outside F s₀ a → (x86.run c o m s₀).mem a ≡ s₀.mem a

-- the first n records of the bytes are a list that simulates the function of the sheet, from every entry
pub record Demand3 (tables sheet records : List ℕ) (n : ℕ) : Type 0 where
  pub list : List Instruction
  pub decoded : decode_list records n 0 ≡ some list
  pub simulates : (o : ℕ → Choice) (s₀ : State) → Entry s₀ → Simulates (tables_of tables) (function_of sheet) list o s₀
