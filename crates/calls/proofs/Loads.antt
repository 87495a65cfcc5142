-- The loop over the arguments that find registers: the loads so far, and those that are left.
use Prim.Native.Nat.{ℕ, ◌+◌, ◌*◌, ◌-◌, ◌≤◌, ◌<◌}
use mathlib.Core.Path.{◌≡◌, refl, ap, ◌∙◌}
use mathlib.Core.Bool.{Bool, true, false}
use mathlib.Core.List.{List, [], ◌∷◌}
use native.Mathlib.Omega.{arith}
use lib.ListN.{length}
use Rattle.std.specs.Prelude.{Ok, Err}
use Rattle.std.specs.Prelude as std
use Rattle.cells.specs.declared.refusals.Refusal.{Refusal}
use Rattle.ir.specs.declared.Operand.{Operand as IrOp}
use Rattle.ir.specs.Types.{Result, ok, refused, ◌>>=◌}
use Rattle.ir.specs.Function.{operand_at, operands_at}
use Rattle.x86.specs.declared.enums.Size.{Size}
use Rattle.x86.specs.declared.enums.Instruction.{Instruction}
use Rattle.codegen.specs.Context.{Context}
use Rattle.codegen.specs.Utils.{load_operand}
use Rattle.codegen.specs.Instructions.{floating, words_taken, floats_taken, register_of, load_arguments}
use Rattle.codegen.specs.declared.registers.Taken.{Taken}
use Rattle.codegen.specs.Excess.{taken, is_beyond, behind_one, Within}
use Rattle.codegen.proofs.Taken.{within_more, stack_more}
use Rattle.utils.specs.Makes.{alone, Makes, Ready, then}
use Rattle.utils.proofs.Made.{Going, begins, next_ready, next, stops, finishes}
use Rattle.utils.proofs.Rows.{always, one_made}
use Rattle.utils.proofs.Beyond.{all_left, next_left, none_left}
use Rattle.calls.specs.Calls.{count_of}
use Rattle.calls.proofs.Pushes.{operands_placed}

-- ---- one argument, and those behind it

-- the loads of arguments, where some registers are taken
abbrev loads_from : Context → List IrOp → Taken → Result (List Instruction)
loads_from ctx xs t = load_arguments ctx t.words t.floats xs

-- the load of one that finds a register
abbrev load_of : Context → Taken → Bool → IrOp → Result Instruction
load_of ctx t b x = load_operand ctx (register_of b t.words t.floats) x Size.NoSize

turn_beyond : (ctx : Context) (t : Taken) (x : IrOp) (xs : List IrOp) → is_beyond (floating x) t ≡ true → loads_from ctx (x ∷ xs) t ≡ loads_from ctx xs (behind_one (floating x) t)
unfolding load_arguments
turn_beyond ctx t x xs h = rw h refl

turn_within : (ctx : Context) (t : Taken) (x : IrOp) (xs : List IrOp) → is_beyond (floating x) t ≡ false
    → loads_from ctx (x ∷ xs) t ≡ then (alone (load_of ctx t (floating x) x)) (loads_from ctx xs (behind_one (floating x) t))
unfolding load_arguments
turn_within ctx t x xs h = rw h (go (load_of ctx t (floating x) x) (load_arguments ctx (words_taken (floating x) t.words) (floats_taken (floating x) t.floats) xs))
  where
    go : (a : Result Instruction) (r : Result (List Instruction)) → (a >>= λ load. r >>= λ rest. ok (load ∷ rest)) ≡ then (alone a) r
    go (ok i) (ok is) = refl
    go (ok i) (refused n) = refl
    go (refused n) r = refl

-- it takes one register more
one_taken : (b : Bool) (t : Taken) → is_beyond b t ≡ false → t.words + t.floats + 1 ≡ (behind_one b t).words + (behind_one b t).floats
one_taken b t h = rw h (go b)
  where
    go : (b : Bool) → t.words + t.floats + 1 ≡ words_taken b t.words + floats_taken b t.floats
    go true = omega arith
    go false = omega arith

-- ---- the loop

-- i arguments of n are done
pub record Loading (writes : Bool) (ctx : Context) (s : List ℕ) (n from at : ℕ) (old : List ℕ) (i : ℕ) (t : Taken) (new : List ℕ) : Type 0 where
  pub few : t.stack ≤ i
  pub within : Within t
  pub going : Going writes (load_arguments ctx 0 0 (operands_at s n from)) at old (loads_from ctx (operands_at s (n - i) (from + 4 * i)) t) (t.words + t.floats) new

pub none_loaded : (writes : Bool) (ctx : Context) (s : List ℕ) (n from at : ℕ) (old : List ℕ) → Loading writes ctx s n from at old 0 (taken 0 0 0) old
none_loaded writes ctx s n from at old =
    record {
      few = omega arith;
      within = record { words = omega arith; floats = omega arith };
      going = begins writes _ _ at old (ap (load_arguments ctx 0 0) (all_left (operands_placed s) n from));
    }

module _ {writes : Bool} {ctx : Context} {s : List ℕ} {n from at : ℕ} {old : List ℕ} {i : ℕ} {t : Taken} {new : List ℕ}
    (g : Loading writes ctx s n from at old i t new) (room : Ready writes (load_arguments ctx 0 0 (operands_at s n from)) at (length old)) where
  -- a turn: the next argument, x, and those behind it
  module _ (h : i < n) {x : IrOp} (e : x ≡ operand_at s (from + 4 * i)) {b : Bool} (d : b ≡ floating x) {c : Bool} (f : c ≡ is_beyond b t) where
    abbrev others : List IrOp
    others = operands_at s (n - (i + 1)) (from + 4 * (i + 1))

    here : operands_at s (n - i) (from + 4 * i) ≡ x ∷ others
    here = rw e (next_left (operands_placed s) n from h)

    -- one that finds a register
    module _ (q : c ≡ false) where
      abbrev load : Result (List Instruction)
      load = alone (load_of ctx t b x)

      free : is_beyond (floating x) t ≡ false
      free = rw (← d, ← f, q)

      left_is : loads_from ctx (operands_at s (n - i) (from + 4 * i)) t ≡ then load (loads_from ctx others (behind_one (floating x) t))
      left_is = ap (λ (xs : List IrOp). loads_from ctx xs t) here ∙ rw d (turn_within ctx t x others free)

      pub load_ready : {p : ℕ} → p ≡ at + 64 * (t.words + t.floats) → Ready writes load p (length new)
      load_ready s = next_ready g.going room load (loads_from ctx others (behind_one (floating x) t)) left_is s

      pub load_refused : {p : ℕ} {m : Refusal} {newer : List ℕ} → Makes writes load p new newer (Err m)
          → Makes writes (load_arguments ctx 0 0 (operands_at s n from)) at old newer (Err m)
      load_refused made = stops g.going room load (loads_from ctx others (behind_one (floating x) t)) left_is made

      pub load_made : {p m : ℕ} {newer : List ℕ} {u : Taken} → p ≡ at + 64 * (t.words + t.floats) → Makes writes load p new newer (Ok m) → u ≡ behind_one b t
          → Loading writes ctx s n from at old (i + 1) u newer
      load_made {p} {m} {newer} s made k =
          rw (k, d) (record {
            few = omega (arith, g.few, stack_more (floating x) t);
            within = within_more (floating x) t g.within;
            going =
                rw (one_taken (floating x) t free) at
                (next g.going room load (loads_from ctx others (behind_one (floating x) t)) left_is s (one_made (load_of ctx t b x) made));
          })

    -- one that is in excess
    pub load_over : {u : Taken} → c ≡ true → u ≡ behind_one b t → Loading writes ctx s n from at old (i + 1) u new
    load_over {u} q k =
        let spent : is_beyond (floating x) t ≡ true = rw (← d, ← f, q) in
        let l : loads_from ctx (operands_at s (n - i) (from + 4 * i)) t ≡ loads_from ctx others (behind_one (floating x) t) =
        ap (λ (xs : List IrOp). loads_from ctx xs t) here ∙ turn_beyond ctx t x others spent in
        rw (k, d) (record {
          few = omega (arith, g.few, stack_more (floating x) t);
          within = within_more (floating x) t g.within;
          going = rw spent (rw (l, spent) at g.going);
        })

  -- all are loaded: the number of floats is left
  module _ (h : n ≤ i) where
    floats_left : loads_from ctx (operands_at s (n - i) (from + 4 * i)) t ≡ then (ok (count_of t.floats ∷ [])) (ok [])
    unfolding load_arguments
    floats_left = ap (λ (xs : List IrOp). loads_from ctx xs t) (none_left (operands_placed s) n from h)

    pub count_ready : {p : ℕ} → p ≡ at + 64 * (t.words + t.floats) → Ready writes (ok (count_of t.floats ∷ [])) p (length new)
    count_ready f = next_ready g.going room (ok (count_of t.floats ∷ [])) (ok []) floats_left f

    pub all_loaded : {p : ℕ} {r : std.Result ℕ Refusal} {newer : List ℕ} → p ≡ at + 64 * (t.words + t.floats) → Makes writes (ok (count_of t.floats ∷ [])) p new newer r
        → Makes writes (load_arguments ctx 0 0 (operands_at s n from)) at old newer (Ok (t.words + t.floats + 1))
    all_loaded f made = finishes (next g.going room (ok (count_of t.floats ∷ [])) (ok []) floats_left f (always made)) room refl
