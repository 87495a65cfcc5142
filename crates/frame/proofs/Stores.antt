-- The loop over the parameters: the stores so far, and those that are left.
use Prim.Native.Nat.{ℕ, suc, ◌+◌, ◌*◌, ◌-◌, ◌≤◌, ◌<◌}
use mathlib.Core.Path.{◌≡◌, refl, sym, ap, ◌∙◌}
use mathlib.Core.Bool.{Bool, true, false, cond, not, beq}
use mathlib.Core.List.{List, [], ◌∷◌}
use native.Mathlib.Omega.{arith}
use borrow.Author.Tests.{ltb-true, lt-ltb, le-ltb}
use lib.ListN.{length, get_or}
use lib.Dec.{ltb, lit≤}
use Rattle.ir.specs.declared.VarId.{VarId}
use Rattle.ir.specs.Types.{Result, ok, refused, ◌>>=◌, is_float}
use Rattle.ir.specs.Function.{var_at, vars_at}
use Rattle.x86.specs.declared.enums.Size.{Size}
use Rattle.x86.specs.declared.enums.Operand.{Operand}
use Rattle.x86.specs.declared.enums.Instruction.{Instruction}
use Rattle.x86.specs.Registers.{RAX}
use Rattle.codegen.specs.Context.{Context}
use Rattle.codegen.specs.Utils.{var_size, convert_var}
use Rattle.codegen.specs.Frame.{registers_of, store_of, store_params}
use Rattle.codegen.proofs.Results.{Yields, yields, any, bind, weaken, choose, never}
use Rattle.std.specs.Prelude.{Ok, Err}
use Rattle.std.proofs.lemmas.Bool.{not-true, not-false}
use Rattle.cells.specs.declared.refusals.Refusal.{Refusal}
use Rattle.utils.specs.Answers.{counted}
use Rattle.utils.specs.Makes.{listed, Makes, Ready, before, then}
use Rattle.utils.specs.Slots.{look_slot}
use Rattle.utils.proofs.Looked.{slot_looked}
use Rattle.utils.proofs.Made.{Going, before_none, begins, next_ready, next, stops, finishes}
use Rattle.utils.proofs.Beyond.{Items, all_left, next_left, none_left}
use Rattle.frame.specs.Stores.{param_of, store_one, store_param}

-- ---- one parameter

pub one_looked : (ctx : Context) (float : Bool) (k : ℕ) (p : VarId)
    → store_one ctx float k p ≡ listed (look_slot ctx p) (λ t. param_of (store_of float) (get_or (registers_of float) k RAX) t ∷ [])
unfolding store_one
one_looked ctx float k p = slot_looked ctx p (λ t. param_of (store_of float) (get_or (registers_of float) k RAX) t ∷ [])

-- by the tests of the code
module _ (ctx : Context) (float : Bool) (k : ℕ) (p : VarId) {f : Bool} (e : f ≡ is_float p.ty) where
  pub other_kind : not (beq f float) ≡ true → store_param ctx float k p ≡ ok []
  unfolding store_param
  other_kind t = rw (← e, not-true (beq f float) t)

  pub no_register_left : {m : ℕ} → not (beq f float) ≡ false → m ≡ length (registers_of float) → m ≤ k → store_param ctx float k p ≡ ok []
  unfolding store_param
  no_register_left t q h = rw (← e, not-false (beq f float) t, le-ltb k (length (registers_of float)) (omega arith))

  pub has_register : {m : ℕ} → not (beq f float) ≡ false → m ≡ length (registers_of float) → k < m → store_param ctx float k p ≡ store_one ctx float k p
  unfolding store_param
  has_register t q h = rw (← e, not-false (beq f float) t, lt-ltb k (length (registers_of float)) (omega arith))

-- ---- the parameters one after the other

one_store : (ctx : Context) (float : Bool) (k : ℕ) (p : VarId) → Yields (store_one ctx float k p) (λ is. length is ≡ 1)
unfolding store_one
one_store ctx float k p = bind (any (convert_var ctx p)) (λ var a. bind (any (var_size p)) (λ size b. yields refl))

-- at most one record, and no more than registers
pub turn_few : (ctx : Context) (float : Bool) (k : ℕ) (p : VarId) → k ≤ length (registers_of float) →
    Yields (store_param ctx float k p) (λ is. k + length is ≤ length (registers_of float))
unfolding store_param
turn_few ctx float k p h =
    choose (beq (is_float p.ty) float)
    (λ e.
    choose (ltb k (length (registers_of float))) (λ q. weaken (one_store ctx float k p) (λ is l. let t = ltb-true k (length (registers_of float)) q in omega arith))
    (λ q. yields (omega arith)))
    (λ e. yields (omega arith))

-- where no register is left there is no record
none_free : (ctx : Context) (float : Bool) (k : ℕ) (ps : List VarId) → ltb k (length (registers_of float)) ≡ false → store_params ctx float k ps ≡ ok []
unfolding store_params
none_free ctx float k [] h = refl
none_free ctx float k (p ∷ ps) h = rw h (go (beq (is_float p.ty) float) (none_free ctx float k ps h))
  where
    go : (b : Bool) → store_params ctx float k ps ≡ ok [] → cond b (ok []) (store_params ctx float k ps) ≡ ok []
    go true e = refl
    go false e = e

-- a record, and those of a result behind it
in_turn : (i : Instruction) (r : Result (List Instruction)) → (r >>= λ is. ok (i ∷ is)) ≡ before (i ∷ []) r
in_turn i (ok is) = refl
in_turn i (refused n) = refl

-- how many records a list has
abbrev pub size_of : Result (List Instruction) → ℕ
size_of (ok is) = length is
size_of (refused n) = 0

-- the records of one parameter, and of those behind it
pub turn : (ctx : Context) (float : Bool) (k : ℕ) (p : VarId) (ps : List VarId) →
    store_params ctx float k (p ∷ ps) ≡ then (store_param ctx float k p) (store_params ctx float (k + size_of (store_param ctx float k p)) ps)
unfolding store_params store_param store_one
turn ctx float k p ps = go (beq (is_float p.ty) float) (ltb k (length (registers_of float))) refl
  where
    behind : Result (List Instruction) → Result (List Instruction)
    behind r = then r (store_params ctx float (k + size_of r) ps)

    record_of_lem : Operand → Size → Instruction
    record_of_lem var size = Instruction.Binary (store_of float) var (Operand.Reg (get_or (registers_of float) k RAX)) size

    no_store : store_params ctx float k ps ≡ before [] (store_params ctx float (k + 0) ps)
    no_store = let z : k ≡ k + 0 = omega arith in sym (before_none (store_params ctx float k ps)) ∙ ap (λ (j : ℕ). before [] (store_params ctx float j ps)) z

    one : (a : Result Operand) (b : Result Size) →
        (a >>= λ v. b >>= λ z. store_params ctx float (suc k) ps >>= λ is. ok (record_of_lem v z ∷ is)) ≡ behind (a >>= λ v. b >>= λ z. ok (record_of_lem v z ∷ []))
    one (ok v) (ok z) =
        let l : suc k ≡ k + 1 = omega arith in
        in_turn (record_of_lem v z) (store_params ctx float (suc k) ps) ∙ ap (λ (j : ℕ). before (record_of_lem v z ∷ []) (store_params ctx float j ps)) l
    one (ok v) (refused n) = refl
    one (refused n) b = refl

    go : (a b : Bool) → ltb k (length (registers_of float)) ≡ b →
        cond a (cond b (convert_var ctx p >>= λ var. var_size p >>= λ size. store_params ctx float (suc k) ps >>= λ rest. ok (record_of_lem var size ∷ rest)) (ok [])) (store_params ctx float k ps)
        ≡ behind (cond a (cond b (convert_var ctx p >>= λ var. var_size p >>= λ size. ok (record_of_lem var size ∷ [])) (ok [])) (ok []))
    go true true e = one (convert_var ctx p) (var_size p)
    go true false e = sym (none_free ctx float k ps e) ∙ no_store
    go false b e = no_store

pub registers_few : (float : Bool) → length (registers_of float) ≤ 8
registers_few true = lit≤ tt
registers_few false = lit≤ tt

-- ---- the loop

pub vars_placed : (s : List ℕ) → Items (var_at s) (vars_at s) 3
unfolding vars_at
vars_placed s = record { none = λ cell. refl; more = λ left cell. refl }

-- i of the parameters are done, and k of them stored
pub record Storing (writes : Bool) (ctx : Context) (float : Bool) (s : List ℕ) (n from at : ℕ) (old : List ℕ) (i k : ℕ) (new : List ℕ) : Type 0 where
  pub free : k ≤ length (registers_of float)
  pub going : Going writes (store_params ctx float 0 (vars_at s n from)) at old (store_params ctx float k (vars_at s (n - i) (from + 3 * i))) k new

pub none_stored : (writes : Bool) (ctx : Context) (float : Bool) (s : List ℕ) (n from at : ℕ) (old : List ℕ) → Storing writes ctx float s n from at old 0 0 old
none_stored writes ctx float s n from at old =
    record { free = omega arith; going = begins writes _ _ at old (ap (store_params ctx float 0) (all_left (vars_placed s) n from)) }

counts_so : (r : Result (List Instruction)) {writes : Bool} {at m : ℕ} {old new : List ℕ} → Makes writes r at old new (Ok m) → size_of r ≡ m
counts_so (ok is) made = let z = made.says in cc
counts_so (refused n) made = absurd (never (sym made.says))

module _ {writes : Bool} {ctx : Context} {float : Bool} {s : List ℕ} {n from at : ℕ} {old : List ℕ} {i k : ℕ} {new : List ℕ}
    (g : Storing writes ctx float s n from at old i k new) (room : Ready writes (store_params ctx float 0 (vars_at s n from)) at (length old)) where
  -- a turn: the store of the next parameter, p, and those behind it
  module _ (h : i < n) {p : VarId} (e : p ≡ var_at s (from + 3 * i)) where
    abbrev store : Result (List Instruction)
    store = store_param ctx float k p

    abbrev others : List VarId
    others = vars_at s (n - (i + 1)) (from + 3 * (i + 1))

    abbrev behind_it : Result (List Instruction)
    behind_it = store_params ctx float (k + size_of store) others

    left_is : store_params ctx float k (vars_at s (n - i) (from + 3 * i)) ≡ then store behind_it
    left_is =
        let here : vars_at s (n - i) (from + 3 * i) ≡ p ∷ others = rw e (next_left (vars_placed s) n from h) in
        ap (store_params ctx float k) here ∙ turn ctx float k p others

    pub store_ready : Ready writes store (at + 64 * k) (length new)
    store_ready = next_ready g.going room store behind_it left_is refl

    pub stored_more : {m : ℕ} {newer : List ℕ} → Makes writes store (at + 64 * k) new newer (Ok m) → Storing writes ctx float s n from at old (i + 1) (k + m) newer
    stored_more {m} {newer} made =
        let e : size_of store ≡ m = counts_so store made in
        record {
          free = yields_count store (turn_few ctx float k p g.free) made.says;
          going = rw e at (next g.going room store behind_it left_is refl made);
        }
      where
        yields_count : (q : Result (List Instruction)) → Yields q (λ is. k + length is ≤ length (registers_of float)) → ok m ≡ counted q
            → k + m ≤ length (registers_of float)
        yields_count (ok is) y z = let l : m ≡ length is = let w = z in cc in let y = y.of is refl in omega arith
        yields_count (refused j) y z = absurd (never (sym z))

    pub store_refused : {m : Refusal} {newer : List ℕ} → Makes writes store (at + 64 * k) new newer (Err m)
        → Makes writes (store_params ctx float 0 (vars_at s n from)) at old newer (Err m)
    store_refused made = stops g.going room store behind_it left_is made

  pub all_stored : n ≤ i → Makes writes (store_params ctx float 0 (vars_at s n from)) at old new (Ok k)
  unfolding store_params
  all_stored h = finishes g.going room (ap (store_params ctx float k) (none_left (vars_placed s) n from h))
