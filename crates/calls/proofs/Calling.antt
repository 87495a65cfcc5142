-- The parts of a call, one behind the other, and how many records each of them has.
use Prim.Native.Nat.{ℕ, ◌+◌, ◌*◌, ◌≤◌}
use mathlib.Core.Path.{◌≡◌, refl, sym, ap, ◌∙◌}
use mathlib.Core.Bool.{Bool}
use mathlib.Core.List.{List, [], ◌∷◌, ◌++◌, append_assoc}
use native.Mathlib.Omega.{arith}
use borrow.Author.Tests.{ne_eqb}
use lib.ListN.{length, length-append}
use Rattle.ir.specs.declared.Operand.{Operand as IrOp}
use Rattle.std.specs.Prelude.{Option, Some, None}
use Rattle.ir.specs.Types.{Result, ok, refused, ◌>>=◌}
use Rattle.ir.specs.Function.{operands_at}
use Rattle.x86.specs.declared.enums.Size.{Size}
use Rattle.x86.specs.declared.enums.BinOp.{BinOp}
use Rattle.x86.specs.declared.enums.Operand.{Operand}
use Rattle.x86.specs.declared.enums.Instruction.{Instruction}
use Rattle.x86.specs.Registers.{RSP}
use Rattle.codegen.specs.Context.{Context}
use Rattle.codegen.specs.Instructions.{floating, excess, load_arguments, push_arguments, call_area, move_stack, store_result, generate_call}
use Rattle.codegen.proofs.Results.{Yields, yields, refuses, weaken}
use Rattle.codegen.proofs.Shapes.{loads_few, pushes_few, stack_few, result_part, excess_few}
use Rattle.std.specs.Prelude.{Ok, Err}
use Rattle.std.specs.Prelude as std
use Rattle.cells.specs.declared.refusals.Refusal.{Refusal}
use Rattle.utils.specs.Makes.{Makes, Ready, then}
use Rattle.utils.proofs.Rows.{InRow, first_ready, first_stops, second_ready, second_stops, both_made}
use Rattle.calls.specs.Calls.{stack_arguments, call_of, call_raised, call_symbol}
use Rattle.ir.proofs.Sheet.{operands_length}
use Rattle.ir.specs.declared.VarId.{VarId}

-- ---- the parts

in_parts : (ctx : Context) (dest : Option VarId) (symbol : ℕ) (args : List IrOp) {k : ℕ} → k ≡ length (excess floating 0 0 args)
    → InRow (generate_call ctx dest symbol args) (stack_arguments ctx args) (then (load_arguments ctx 0 0 args) (call_symbol ctx dest symbol k))
unfolding generate_call stack_arguments call_symbol
in_parts ctx dest symbol args {k} e = rw e (record { is = go (push_arguments ctx 0 (excess floating 0 0 args)) (load_arguments ctx 0 0 args) (store_result ctx dest) })
  where
    down : List Instruction
    down = move_stack BinOp.Sub (length (excess floating 0 0 args))

    up : List Instruction
    up = move_stack BinOp.Add (length (excess floating 0 0 args))

    go : (a b c : Result (List Instruction)) → (a >>= λ pushes. b >>= λ loads. c >>= λ store. ok (down ++ (pushes ++ (loads ++ call_of symbol ∷ (up ++ store)))))
        ≡ then (then (ok down) a) (then b (then (ok (call_of symbol ∷ up)) c))
    go (ok pushes) (ok loads) (ok store) = ap ok (sym (append_assoc down pushes (loads ++ call_of symbol ∷ (up ++ store))))
    go (ok pushes) (ok loads) (refused n) = refl
    go (ok pushes) (refused n) c = refl
    go (refused n) b c = refl

pub stack_parts : (ctx : Context) (args : List IrOp) {k : ℕ} → k ≡ length (excess floating 0 0 args)
    → InRow (stack_arguments ctx args) (ok (move_stack BinOp.Sub k)) (push_arguments ctx 0 (excess floating 0 0 args))
unfolding stack_arguments
stack_parts ctx args e = rw e (record { is = refl })

pub symbol_parts : (ctx : Context) (dest : Option VarId) (symbol k : ℕ) → InRow (call_symbol ctx dest symbol k) (ok (call_raised symbol k)) (store_result ctx dest)
unfolding call_symbol
symbol_parts ctx dest symbol k = record { is = refl }

pub raised_parts : (symbol k : ℕ) → InRow (ok (call_raised symbol k)) (ok (call_of symbol ∷ [])) (ok (move_stack BinOp.Add k))
raised_parts symbol k = record { is = refl }

-- ---- RSP is moved

module _ (op : BinOp) (k : ℕ) (h : k ≡ 0 → ⊥) where
  pub moved : ◌≡◌ {A = Result (List Instruction)} (ok (move_stack op k)) (ok (Instruction.Binary op (Operand.Reg RSP) (Operand.Imm (call_area k)) Size.NoSize ∷ []))
  moved = rw (ne_eqb k 0 h)

  pub one_moved : {writes : Bool} {at : ℕ} {old new : List ℕ} {r : std.Result ℕ Refusal} → Makes writes (ok (move_stack op k)) at old new r
      → Makes writes (ok (move_stack op k)) at old new (Ok 1)
  one_moved m = record { says = rw (ne_eqb k 0 h); bytes = m.bytes }

-- ---- no argument is in excess

none_in : {A : Type 0} (xs : List A) → 0 ≡ length xs → xs ≡ []
none_in [] e = refl
none_in (x ∷ xs) e = absurd (omega arith)

pub none_stacked : (ctx : Context) (args : List IrOp) {k : ℕ} → k ≡ length (excess floating 0 0 args) → k ≡ 0 → stack_arguments ctx args ≡ ok []
unfolding stack_arguments push_arguments
none_stacked ctx args e z = rw (none_in (excess floating 0 0 args) (sym z ∙ e))

-- ---- how many records

then_few : {a b : Result (List Instruction)} {m n : ℕ} → Yields a (λ is. length is ≤ m) → Yields b (λ is. length is ≤ n) → Yields (then a b) (λ is. length is ≤ m + n)
then_few {a} {b} {m} {n} = go a b
  where
    go : (a b : Result (List Instruction)) → Yields a (λ is. length is ≤ m) → Yields b (λ is. length is ≤ n) → Yields (then a b) (λ is. length is ≤ m + n)
    go (ok is) (ok js) y z = yields (rw length-append (omega (arith, y.of is refl, z.of js refl)))
    go (ok is) (refused q) y z = refuses q
    go (refused q) b y z = refuses q

pub few_moved : (op : BinOp) (k : ℕ) → Yields (ok (move_stack op k)) (λ is. length is ≤ 1)
few_moved op k = yields (stack_few op k)

module _ (s : List ℕ) (n from : ℕ) where
  pub excess_count : {k : ℕ} → k ≡ length (excess floating 0 0 (operands_at s n from)) → k ≤ n
  excess_count e = omega (arith, excess_few floating 0 0 (operands_at s n from), operands_length s n from)

  pub few_pushes : (ctx : Context) → Yields (push_arguments ctx 0 (excess floating 0 0 (operands_at s n from))) (λ is. length is ≤ 2 * n)
  few_pushes ctx = weaken (pushes_few ctx 0 (excess floating 0 0 (operands_at s n from))) (λ is p. omega (arith, p, excess_count refl))

  pub few_stacked : (ctx : Context) → Yields (stack_arguments ctx (operands_at s n from)) (λ is. length is ≤ 1 + 2 * n)
  unfolding stack_arguments
  few_stacked ctx = then_few (few_moved BinOp.Sub (length (excess floating 0 0 (operands_at s n from)))) (few_pushes ctx)

  pub few_loads : (ctx : Context) → Yields (load_arguments ctx 0 0 (operands_at s n from)) (λ is. length is ≤ n + 1)
  few_loads ctx = weaken (loads_few ctx 0 0 (operands_at s n from)) (λ is p. omega (arith, p, operands_length s n from))

pub few_raised : (symbol k : ℕ) → Yields (ok (call_raised symbol k)) (λ is. length is ≤ 2)
few_raised symbol k = yields (omega (arith, stack_few BinOp.Add k))

pub few_stored : (ctx : Context) (dest : Option VarId) → Yields (store_result ctx dest) (λ is. length is ≤ 1)
few_stored ctx dest = weaken (result_part ctx dest) (λ is p. p.few)

pub few_called : (ctx : Context) (dest : Option VarId) (symbol k : ℕ) → Yields (call_symbol ctx dest symbol k) (λ is. length is ≤ 3)
unfolding call_symbol
few_called ctx dest symbol k = then_few (few_raised symbol k) (few_stored ctx dest)

-- ---- the three parts, made in turn

module _ (ctx : Context) (dest : Option VarId) (symbol : ℕ) (args : List IrOp) (old : List ℕ) {k : ℕ} (e : k ≡ length (excess floating 0 0 args)) {writes : Bool} {at : ℕ}
    (room : Ready writes (generate_call ctx dest symbol args) at (length old)) where
  parts : InRow (generate_call ctx dest symbol args) (stack_arguments ctx args) (then (load_arguments ctx 0 0 args) (call_symbol ctx dest symbol k))
  parts = in_parts ctx dest symbol args e

  last_parts : InRow (then (load_arguments ctx 0 0 args) (call_symbol ctx dest symbol k)) (load_arguments ctx 0 0 args) (call_symbol ctx dest symbol k)
  last_parts = record { is = refl }

  pub stack_ready : Ready writes (stack_arguments ctx args) at (length old)
  stack_ready = first_ready old parts room

  pub stack_stops : {m : Refusal} {new : List ℕ} → Makes writes (stack_arguments ctx args) at old new (Err m)
      → Makes writes (generate_call ctx dest symbol args) at old new (Err m)
  stack_stops made = first_stops parts room made

  module _ {x : ℕ} {mid : List ℕ} (p : Makes writes (stack_arguments ctx args) at old mid (Ok x)) where
    rest_ready : Ready writes (then (load_arguments ctx 0 0 args) (call_symbol ctx dest symbol k)) (at + 64 * x) (length mid)
    rest_ready = second_ready parts room p refl

    pub loads_ready : Ready writes (load_arguments ctx 0 0 args) (at + 64 * x) (length mid)
    loads_ready = first_ready mid last_parts rest_ready

    pub loads_stop : {m : Refusal} {new : List ℕ} → Makes writes (load_arguments ctx 0 0 args) (at + 64 * x) mid new (Err m)
        → Makes writes (generate_call ctx dest symbol args) at old new (Err m)
    loads_stop made = second_stops parts room p (first_stops last_parts rest_ready made)

    module _ {y : ℕ} {late : List ℕ} (l : Makes writes (load_arguments ctx 0 0 args) (at + 64 * x) mid late (Ok y)) where
      pub call_ready : Ready writes (call_symbol ctx dest symbol k) (at + 64 * x + 64 * y) (length late)
      call_ready = second_ready last_parts rest_ready l refl

      pub call_stops : {m : Refusal} {new : List ℕ} → Makes writes (call_symbol ctx dest symbol k) (at + 64 * x + 64 * y) late new (Err m)
          → Makes writes (generate_call ctx dest symbol args) at old new (Err m)
      call_stops made = second_stops parts room p (second_stops last_parts rest_ready l made)

      pub all_made : {m : ℕ} {new : List ℕ} → Makes writes (call_symbol ctx dest symbol k) (at + 64 * x + 64 * y) late new (Ok m)
          → Makes writes (generate_call ctx dest symbol args) at old new (Ok (x + y + m))
      all_made {m} made = let z : x + (y + m) ≡ x + y + m = omega arith in rw z at (both_made parts room p refl (both_made last_parts rest_ready l refl made))
