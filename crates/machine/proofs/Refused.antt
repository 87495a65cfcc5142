-- What a refusal of the lowering says: its place is 0 or the number of an instruction, and all instructions before it have records.
use Prim.Native.Nat.{ℕ, zero, suc, ◌+◌, ◌≤◌, ◌<◌}
use mathlib.Core.Path.{◌≡◌, refl, sym, ap, ◌∙◌, subst}
use mathlib.Core.Bool.{Bool, true, false, cond}
use mathlib.Core.List.{List, [], ◌∷◌, ◌++◌}
use lib.ListN.{length, drop}
use native.Mathlib.Omega.{arith}
use Rattle.cells.specs.Refusals.{no_width}
use Rattle.x86.specs.declared.enums.Instruction.{Instruction}
use Rattle.ir.specs.Types as types
use Rattle.ir.specs.Types.{Result, ok}
use Rattle.ir.specs.Function.{Function, Line, Tables}
use Rattle.codegen.specs.Context.{context_of}
use Rattle.codegen.specs.Frame.{offsets_from, have_widths, var_offsets, frame, func_prologue}
use Rattle.codegen.specs.Generation.{Outcome, accepted, refused, ◌>>=◌, at, generate_instruction, generate_body, with_epilogue, generate}
use Rattle.machine.specs.Simulation.{context_for}
use Rattle.machine.proofs.Accepted.{never}
use Rattle.machine.proofs.Run.{heads}

place_of : {A : Type 0} {n p m q : ℕ} → ◌≡◌ {A = Outcome A} (refused n p) (refused m q) → p ≡ q
place_of e = cc

module _ (tables : Tables) (F : Function) where
  abbrev records : Line → Result (List Instruction)
  records l = generate_instruction (context_for tables F) F.labels F.ret l

  abbrev body_of : ℕ → List Line → Outcome (List Instruction)
  body_of i ls = generate_body (context_for tables F) F.labels F.ret i ls

  abbrev Made : Line → Type 0
  Made l = (is : List Instruction) × (records l ≡ ok is)

  -- of lines of which the first has the number i
  record Stops (ls : List Line) (i place : ℕ) : Type 0 where
    from : i ≤ place
    within : place < i + length ls
    lines : (k : ℕ) (l : Line) (r : List Line) → i + k < place → drop k ls ≡ l ∷ r → Made l

  -- behind a line that has records
  behind_line : (l : Line) (ls : List Line) (i place : ℕ) {is : List Instruction} → records l ≡ ok is → Stops ls (suc i) place → Stops (l ∷ ls) i place
  behind_line l ls i place {is} q w = record { from = omega (arith, w.from); within = omega (arith, w.within); lines = each }
    where
      each : (k : ℕ) (x : Line) (r : List Line) → i + k < place → drop k (l ∷ ls) ≡ x ∷ r → Made x
      each zero x r h d = subst Made (heads d) (is, q)
      each (suc k) x r h d = w.lines k x r (omega arith) d

  body_stops : (ls : List Line) (i n place : ℕ) → body_of i ls ≡ refused n place → Stops ls i place
  unfolding generate_body
  body_stops [] i n place e = absurd (never (sym e))
  body_stops (l ∷ ls) i n place e = go (records l) refl (body_of (suc i) ls) refl (λ m p. body_stops ls (suc i) m place p) e
    where
      go : (r : Result (List Instruction)) → records l ≡ r → (o : Outcome (List Instruction)) → body_of (suc i) ls ≡ o
          → ((m : ℕ) → body_of (suc i) ls ≡ refused m place → Stops ls (suc i) place)
          → (at i r >>= λ is. o >>= λ more. accepted (is ++ more)) ≡ refused n place → Stops (l ∷ ls) i place
      go (ok is) q (accepted more) p later e = absurd (never (sym e))
      go (ok is) q (refused m k) p later e = behind_line l ls i place q (later m (p ∙ ap (refused m) (place_of e)))
      go (types.refused m) q o p later e =
          let z : i ≡ place = place_of e in
          record { from = omega arith; within = omega arith; lines = λ k x r h d. absurd (omega arith) }

  pub record Refused (place : ℕ) : Type 0 where
    pub within : place ≤ length F.body
    pub lines : (k : ℕ) (l : Line) (r : List Line) → suc k < place → drop k F.body ≡ l ∷ r
        → (is : List Instruction) × (generate_instruction (context_for tables F) F.labels F.ret l ≡ ok is)

  -- before the body
  early : {m n place : ℕ} → ◌≡◌ {A = Outcome (List Instruction)} (refused m 0) (refused n place) → Refused place
  early {place = p} e =
      let z : 0 ≡ p = place_of e in
      record { within = omega arith; lines = λ k l r h d. absurd (omega arith) }

  -- in the body
  late : (is : List Instruction) (n place : ℕ) (o : Outcome (List Instruction)) → body_of 1 F.body ≡ o
      → (o >>= λ body. accepted (with_epilogue (is ++ body))) ≡ refused n place → Refused place
  late is n place (accepted body) p e = absurd (never (sym e))
  late is n place (refused m k) p e =
      let w = body_stops F.body 1 m place (p ∙ ap (refused m) (place_of e)) in
      record { within = omega (arith, w.within); lines = λ k l r h d. w.lines k l r (omega arith) d }

  pub refused_at : (n place : ℕ) → generate tables F ≡ refused n place → Refused place
  unfolding generate var_offsets
  refused_at n place e = widths (have_widths F.vars) e
    where
      front : (r : Result (List Instruction)) → (at 0 r >>= λ prologue. body_of 1 F.body >>= λ body. accepted (with_epilogue (prologue ++ body))) ≡ refused n place
          → Refused place
      front (ok is) e = late is n place (body_of 1 F.body) refl e
      front (types.refused m) e = early e

      widths : (b : Bool) → (at 0 (cond b (ok (offsets_from 0 F.vars)) (types.refused no_width)) >>= λ offsets.
          at 0 (func_prologue (context_of tables offsets) (frame F.vars) F.params) >>= λ prologue.
          generate_body (context_of tables offsets) F.labels F.ret 1 F.body >>= λ body. accepted (with_epilogue (prologue ++ body))) ≡ refused n place
          → Refused place
      widths true e = front (func_prologue (context_for tables F) (frame F.vars) F.params) e
      widths false e = early e
