-- Two makers in a row; how many records a maker can have made.
use Prim.Native.Nat.{ℕ, ◌+◌, ◌*◌, ◌≤◌}
use mathlib.Core.Path.{◌≡◌, refl, sym, ap}
use mathlib.Core.Bool.{Bool, true, false}
use mathlib.Core.List.{List, [], append-nil}
use native.Mathlib.Omega.{arith}
use lib.ListN.{length}
use Rattle.ir.specs.Types.{Result, ok, refused}
use Rattle.x86.specs.declared.enums.Instruction.{Instruction}
use Rattle.x86.proofs.Lists.{none}
use Rattle.codegen.proofs.Results.{Yields, never}
use Rattle.std.specs.Prelude.{Ok, Err}
use Rattle.std.specs.Prelude as std
use Rattle.cells.specs.declared.refusals.Refusal.{Refusal}
use Rattle.utils.specs.Answers.{counted}
use Rattle.utils.specs.Makes.{alone, Makes, Ready, then}
use Rattle.utils.proofs.Made.{Going, begins, next_ready, next, stops, finishes}

pub then_none : (r : Result (List Instruction)) → r ≡ then r (ok [])
then_none (ok is) = ap ok (sym (append-nil is))
then_none (refused n) = refl

pub record InRow (whole a b : Result (List Instruction)) : Type 0 where
  pub is : whole ≡ then a b

module _ {writes : Bool} {whole a b : Result (List Instruction)} {at : ℕ} {old : List ℕ} (e : InRow whole a b) (room : Ready writes whole at (length old)) where
  start : Going writes whole at old (then a b) 0 old
  start = begins writes whole (then a b) at old (sym e.is)

  pub first_stops : {m : Refusal} {new : List ℕ} → Makes writes a at old new (Err m) → Makes writes whole at old new (Err m)
  first_stops made = stops start room a b refl made

  module _ {x : ℕ} {mid : List ℕ} (made : Makes writes a at old mid (Ok x)) where
    half : Going writes whole at old b x mid
    half = let z : 0 + x ≡ x = omega arith in rw z at (next start room a b refl (omega arith) made)

    pub second_ready : {p : ℕ} → p ≡ at + 64 * x → Ready writes b p (length mid)
    second_ready f = next_ready half room b (ok []) (then_none b) f

    pub second_stops : {m : Refusal} {p : ℕ} {new : List ℕ} → Makes writes b p mid new (Err m) → Makes writes whole at old new (Err m)
    second_stops also = stops half room b (ok []) (then_none b) also

    pub both_made : {m p : ℕ} {new : List ℕ} → p ≡ at + 64 * x → Makes writes b p mid new (Ok m) → Makes writes whole at old new (Ok (x + m))
    both_made f also = finishes (next half room b (ok []) (then_none b) f also) room refl

pub first_ready : {writes : Bool} {whole a b : Result (List Instruction)} {at : ℕ} (old : List ℕ) → InRow whole a b → Ready writes whole at (length old) → Ready writes a at (length old)
first_ready {writes} {whole} {a} {b} {at} old e room = next_ready (start {old = old} e room) room a b refl (omega arith)

-- a list that is always made
pub always : {is : List Instruction} {writes : Bool} {at : ℕ} {old new : List ℕ} {r : std.Result ℕ Refusal} → Makes writes (ok is) at old new r
    → Makes writes (ok is) at old new (Ok (length is))
always m = record { says = refl; bytes = m.bytes }

-- a record alone, or none
pub one_made : (a : Result Instruction) {writes : Bool} {at m : ℕ} {old new : List ℕ} → Makes writes (alone a) at old new (Ok m)
    → Makes writes (alone a) at old new (Ok 1)
one_made a {writes} {at} {m} made = record { says = go a made.says; bytes = made.bytes }
  where
    go : (a : Result Instruction) → ok m ≡ counted (alone a) → ok 1 ≡ counted (alone a)
    go (ok i) e = refl
    go (refused n) e = absurd (never (sym e))

pub none_made : {writes : Bool} {list : Result (List Instruction)} {at : ℕ} {old : List ℕ} → list ≡ ok [] → Makes writes list at old old (Ok 0)
none_made {writes} {list} {at} {old} e = rw e (go writes)
  where
    go : (b : Bool) → Makes b (ok []) at old old (Ok 0)
    go true = record { says = refl; bytes = none old at }
    go false = record { says = refl; bytes = refl }

-- ---- how many records were made

pub few_made : {list : Result (List Instruction)} {most : ℕ} {writes : Bool} {at m : ℕ} {old new : List ℕ} → Yields list (λ is. length is ≤ most)
    → Makes writes list at old new (Ok m) → m ≤ most
few_made {list} {most} {writes} {at} {m} y made = go list y made.says
  where
    go : (r : Result (List Instruction)) → Yields r (λ is. length is ≤ most) → ok m ≡ counted r → m ≤ most
    go (ok is) y e = let l : m ≡ length is = let z = e in cc in omega (arith, y.of is refl)
    go (refused n) y e = absurd (never (sym e))
