-- The four parts of the prologue, one behind the other, and how many records there are of each.
use Prim.Native.Nat.{ℕ, ◌+◌, ◌*◌, ◌≤◌}
use mathlib.Core.Path.{◌≡◌, refl}
use mathlib.Core.Bool.{Bool, true, false}
use mathlib.Core.List.{List, [], ◌++◌}
use native.Mathlib.Omega.{arith}
use lib.ListN.{length}
use Rattle.ir.specs.declared.VarId.{VarId}
use Rattle.ir.specs.Types.{Result, ok, refused, ◌>>=◌}
use Rattle.ir.specs.Function.{vars_at}
use Rattle.ir.proofs.Sheet.{vars_length}
use Rattle.x86.specs.declared.enums.Instruction.{Instruction}
use Rattle.codegen.specs.Context.{Context}
use Rattle.codegen.specs.Instructions.{excess}
use Rattle.codegen.specs.Frame.{store_params, copy_params, is_float_param, func_prologue}
use Rattle.codegen.proofs.Results.{Yields, weaken}
use Rattle.codegen.proofs.Shapes.{stores_few, copies_few, excess_few}
use Rattle.std.specs.Prelude.{Ok, Err}
use Rattle.std.specs.Prelude as std
use Rattle.cells.specs.declared.refusals.Refusal.{Refusal}
use Rattle.utils.specs.Makes.{Makes, Ready, then}
use Rattle.utils.proofs.Made.{Going, begins, next_ready, next, stops, finishes}
use Rattle.utils.proofs.Rows.{then_none, always}
use Rattle.frame.specs.Stores.{entering}
use Rattle.frame.proofs.Stores.{registers_few}

-- ---- how many records

pub few_stores : (ctx : Context) (float : Bool) (ps : List VarId) → Yields (store_params ctx float 0 ps) (λ is. length is ≤ 8)
few_stores ctx float ps = weaken (stores_few ctx float 0 ps (omega arith)) (λ is p. omega (arith, p, registers_few float))

pub few_copies : (ctx : Context) (s : List ℕ) (n from : ℕ) → Yields (copy_params ctx 0 (excess is_float_param 0 0 (vars_at s n from))) (λ is. length is ≤ 2 * n)
few_copies ctx s n from =
    weaken (copies_few ctx 0 (excess is_float_param 0 0 (vars_at s n from))) (λ is p. omega (arith, p, excess_few is_float_param 0 0 (vars_at s n from), vars_length s n from))

-- ---- the parts

in_parts : (ctx : Context) (bytes : ℕ) (ps : List VarId) →
    then (ok (entering bytes)) (then (store_params ctx false 0 ps) (then (store_params ctx true 0 ps) (copy_params ctx 0 (excess is_float_param 0 0 ps)))) ≡ func_prologue ctx bytes ps
unfolding func_prologue
in_parts ctx bytes ps = go (store_params ctx false 0 ps) (store_params ctx true 0 ps) (copy_params ctx 0 (excess is_float_param 0 0 ps))
  where
    go : (a b c : Result (List Instruction)) → then (ok (entering bytes)) (then a (then b c))
        ≡ (a >>= λ words. b >>= λ floats. c >>= λ copies. ok (entering bytes ++ words ++ (floats ++ copies)))
    go (ok words) (ok floats) (ok copies) = refl
    go (ok words) (ok floats) (refused n) = refl
    go (ok words) (refused n) c = refl
    go (refused n) b c = refl

module _ (ctx : Context) (bytes : ℕ) (ps : List VarId) (old : List ℕ) {writes : Bool} (room : Ready writes (func_prologue ctx bytes ps) 0 (length old)) where
  abbrev whole : Result (List Instruction)
  whole = func_prologue ctx bytes ps

  abbrev words : Result (List Instruction)
  words = store_params ctx false 0 ps

  abbrev floats : Result (List Instruction)
  floats = store_params ctx true 0 ps

  abbrev copies : Result (List Instruction)
  copies = copy_params ctx 0 (excess is_float_param 0 0 ps)

  start : Going writes whole 0 old (then (ok (entering bytes)) (then words (then floats copies))) 0 old
  start = begins writes whole (then (ok (entering bytes)) (then words (then floats copies))) 0 old (in_parts ctx bytes ps)

  pub enter_ready : Ready writes (ok (entering bytes)) 0 (length old)
  enter_ready = next_ready start room (ok (entering bytes)) (then words (then floats copies)) refl refl

  module _ {r : std.Result ℕ Refusal} {t : List ℕ} (e : Makes writes (ok (entering bytes)) 0 old t r) where
    entered : Going writes whole 0 old (then words (then floats copies)) 3 t
    entered = next start room (ok (entering bytes)) (then words (then floats copies)) refl refl (always e)

    pub words_ready : Ready writes words 192 (length t)
    words_ready = next_ready entered room words (then floats copies) refl refl

    pub words_stop : {m : Refusal} {new : List ℕ} → Makes writes words 192 t new (Err m) → Makes writes whole 0 old new (Err m)
    words_stop made = stops entered room words (then floats copies) refl made

    module _ {x : ℕ} {u : List ℕ} (w : Makes writes words 192 t u (Ok x)) where
      worded : Going writes whole 0 old (then floats copies) (3 + x) u
      worded = next entered room words (then floats copies) refl refl w

      here : 192 + 64 * x ≡ 0 + 64 * (3 + x)
      here = omega arith

      pub floats_ready : Ready writes floats (192 + 64 * x) (length u)
      floats_ready = next_ready worded room floats copies refl here

      pub floats_stop : {m : Refusal} {new : List ℕ} → Makes writes floats (192 + 64 * x) u new (Err m) → Makes writes whole 0 old new (Err m)
      floats_stop made = stops worded room floats copies refl made

      module _ {y : ℕ} {v : List ℕ} (f : Makes writes floats (192 + 64 * x) u v (Ok y)) where
        floated : Going writes whole 0 old copies (3 + x + y) v
        floated = next worded room floats copies refl here f

        there : 192 + 64 * x + 64 * y ≡ 0 + 64 * (3 + x + y)
        there = omega arith

        pub copies_ready : Ready writes copies (192 + 64 * x + 64 * y) (length v)
        copies_ready = next_ready floated room copies (ok []) (then_none copies) there

        pub copies_stop : {m : Refusal} {new : List ℕ} → Makes writes copies (192 + 64 * x + 64 * y) v new (Err m) → Makes writes whole 0 old new (Err m)
        copies_stop made = stops floated room copies (ok []) (then_none copies) made

        pub all_made : {m : ℕ} {new : List ℕ} → Makes writes copies (192 + 64 * x + 64 * y) v new (Ok m) → Makes writes whole 0 old new (Ok (3 + x + y + m))
        all_made made = finishes (next floated room copies (ok []) (then_none copies) there made) room refl
