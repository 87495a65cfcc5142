-- Prologue, body and epilogue, one behind the other: how many records they are, and the bytes that have them.
use Prim.Native.Nat.{ℕ, suc, ◌+◌, ◌*◌, ◌≤◌, ◌<◌}
use mathlib.Core.Path.{◌≡◌, refl, sym, ap, ◌∙◌}
use mathlib.Core.Bool.{Bool, true, false, beq}
use mathlib.Core.List.{List, [], ◌∷◌, ◌++◌, append-nil, append_assoc}
use native.Mathlib.Omega.{arith}
use lib.ListN.{length, get_or, length-append}
use lib.Dec.{ltb}
use Rattle.cells.specs.Cells.{cell_at, write}
use Rattle.ir.specs.declared.VarId.{VarId}
use Rattle.ir.specs.Function.{vars_at}
use Rattle.ir.proofs.Sheet.{vars_length}
use Rattle.ir.specs.Types as types
use Rattle.ir.specs.Types.{Result, ok, is_float}
use Rattle.x86.specs.declared.enums.Instruction.{Instruction}
use Rattle.x86.specs.declared.enums.Operand.{Operand}
use Rattle.x86.specs.declared.enums.Size.{Size}
use Rattle.x86.specs.declared.enums.BinOp.{BinOp}
use Rattle.x86.specs.Registers.{RAX, RSP}
use Rattle.x86.specs.Records.{list_bytes}
use Rattle.codegen.specs.Context.{Context}
use Rattle.codegen.specs.Utils.{var_size, convert_var}
use Rattle.codegen.specs.Instructions.{func_epilogue, excess, move}
use Rattle.codegen.specs.Frame.{registers_of, store_of, store_params, copy_params, is_float_param, func_prologue}
use Rattle.codegen.specs.Bounds.{most_in_prologue}
use Rattle.codegen.specs.Generation.{Outcome, accepted, refused, ◌>>=◌, at, is_ret, ends_in_ret, with_epilogue}
use Rattle.codegen.proofs.Results.{Yields, yields, any, bind, choose, never}
use Rattle.codegen.proofs.Shapes.{ends_last, ends_same, prologue_few}
use Rattle.utils.specs.Answers.{lent, counted}
use Rattle.std.specs.Prelude.{Ok, Err}
use Rattle.cells.specs.declared.refusals.Refusal.{Refusal}
use Rattle.utils.specs.Makes.{Makes, Fits, Ready, then}
use Rattle.utils.proofs.Made.{Going, begins, next_ready, next, finishes}
use Rattle.generation.specs.Answers.{counted_outcome}
use Rattle.body.specs.Body.{Passed, body_of, without_place, passed_of}
use Rattle.generation.specs.Pass.{list_of, ending}
use Rattle.generation.specs.Survey.{Counted, counted_list, framed}

-- ---- the prologue is short, and does not end in Ret

-- no record of a list is Ret, as its end shows behind any record that is none
abbrev Open : List Instruction → Type 0
Open is = (x : Instruction) → is_ret x ≡ false → ends_in_ret (x ∷ is) ≡ false

stores_open : (ctx : Context) (float : Bool) (k : ℕ) (ps : List VarId) → Yields (store_params ctx float k ps) Open
unfolding store_params ends_in_ret
stores_open ctx float k [] = yields (λ x e. e)
stores_open ctx float k (p ∷ ps) =
    choose (beq (is_float p.ty) float)
    (λ a.
    choose (ltb k (length (registers_of float)))
    (λ b. bind (any (convert_var ctx p)) (λ var c. bind (any (var_size p)) (λ size d. bind (stores_open ctx float (suc k) ps) (λ rest h. yields (λ x e. h (Instruction.Binary (store_of float) var (Operand.Reg (get_or (registers_of float) k RAX)) size) refl)))))
    (λ b. yields (λ x e. e)))
    (λ a. stores_open ctx float k ps)

both_open : (xs ys : List Instruction) → Open xs → Open ys → Open (xs ++ ys)
unfolding ends_in_ret
both_open xs [] h k x e = ends_same (x ∷ xs) [] refl ∙ h x e
both_open xs (y ∷ ys) h k x e = ends_last (x ∷ xs) y ys ∙ k x e

copies_open : (ctx : Context) (j : ℕ) (ps : List VarId) → Yields (copy_params ctx j ps) Open
unfolding copy_params ends_in_ret
copies_open ctx j [] = yields (λ x e. e)
copies_open ctx j (p ∷ ps) =
    bind (any (var_size p)) (λ size a. bind (any (convert_var ctx p)) (λ var b. bind (copies_open ctx (suc j) ps) (λ rest h. yields (λ x e. h (move var (Operand.Reg RAX) size) refl))))

-- it does not end in Ret
abbrev pub Unended : List Instruction → Type 0
Unended is = ends_in_ret is ≡ false

pub prologue_open : (ctx : Context) (bytes : ℕ) (ps : List VarId) → Yields (func_prologue ctx bytes ps) Unended
unfolding func_prologue ends_in_ret
prologue_open ctx bytes ps =
    bind (stores_open ctx false 0 ps) (λ words h.
    bind (stores_open ctx true 0 ps) (λ floats k.
    bind (copies_open ctx 0 (excess is_float_param 0 0 ps)) (λ copies l.
    yields (both_open words (floats ++ copies) h (both_open floats copies k l)
    (Instruction.Binary BinOp.Sub (Operand.Reg RSP) (Operand.Imm bytes) Size.NoSize) refl))))

pub first_few : (ctx : Context) (bytes : ℕ) (s : List ℕ) (m from : ℕ) {n : ℕ} → m ≤ 256 → ok n ≡ counted (func_prologue ctx bytes (vars_at s m from)) → n ≤ most_in_prologue 256
first_few ctx bytes s m from {n} few = go (func_prologue ctx bytes (vars_at s m from)) (prologue_few ctx bytes (vars_at s m from))
  where
    go : (r : Result (List Instruction)) → Yields r (λ is. length is ≤ most_in_prologue (length (vars_at s m from))) → ok n ≡ counted r → n ≤ most_in_prologue 256
    go (ok is) y e = let l : n ≡ length is = let z = e in cc in omega (arith, y.of is refl, vars_length s m from, few)
    go (types.refused q) y e = absurd (never (sym e))

-- ---- the epilogue

with_ending : (is : List Instruction) (t : Bool) → ends_in_ret is ≡ t → with_epilogue is ≡ is ++ ending t
unfolding with_epilogue
with_ending is true e = rw e (sym (append-nil is))
with_ending is false e = rw e refl

joined_end : (xs ys : List Instruction) → ends_in_ret xs ≡ false → ends_in_ret (xs ++ ys) ≡ ends_in_ret ys
unfolding ends_in_ret
joined_end xs [] e = ends_same xs [] refl ∙ e
joined_end xs (y ∷ ys) e = ends_last xs y ys

-- ---- the parts

abbrev pub joined : Result (List Instruction) → Outcome (List Instruction) → Outcome (List Instruction)
joined p b = at 0 p >>= λ xs. b >>= λ ys. accepted (with_epilogue (xs ++ ys))

pub list_is : (tables offsets : List ℕ) (bytes : ℕ) (s : List ℕ) {n m : ℕ} → n ≡ cell_at s 0 → m ≡ cell_at s 1 →
    joined (func_prologue (lent tables offsets) bytes (vars_at s m (6 + 2 * n))) (body_of (lent tables offsets) s) ≡ list_of (lent tables offsets) bytes s
unfolding list_of
list_is tables offsets bytes s e f = rw (e, f) refl

-- a whole list: its three parts
joined_is : (xs ys : List Instruction) → ends_in_ret xs ≡ false → with_epilogue (xs ++ ys) ≡ (xs ++ ys) ++ ending (ends_in_ret ys)
joined_is xs ys o = with_ending (xs ++ ys) (ends_in_ret ys) (joined_end xs ys o)

joined_long : (xs ys : List Instruction) → ends_in_ret xs ≡ false → length (with_epilogue (xs ++ ys)) ≡ length xs + length ys + length (ending (ends_in_ret ys))
joined_long xs ys o = rw (joined_is xs ys o, length-append, length-append) refl

-- how many records there are
pub list_counted : (p : Result (List Instruction)) (b : Outcome (List Instruction)) → Yields p Unended → counted_list p (passed_of b) ≡ counted_outcome (joined p b)
list_counted (ok xs) (accepted ys) h = ap accepted (sym (joined_long xs ys (h.of xs refl)))
list_counted (ok xs) (refused n i) h = refl
list_counted (types.refused n) (accepted ys) h = refl
list_counted (types.refused n) (refused m i) h = refl

-- .. where the prologue refuses
pub first_refused : (p : Result (List Instruction)) (bytes : ℕ) (b : Passed) {n : ℕ} → types.refused n ≡ counted p → Counted.Refused n 0 ≡ framed bytes (counted_list p b)
first_refused p bytes (Passed.Made m r) e = rw (← e) refl
first_refused p bytes (Passed.Refused m i) e = rw (← e) refl

module _ (first : Result ℕ) (bytes x : ℕ) (e : ok x ≡ first) where
  -- .. where the body does
  pub body_refused : (n i : ℕ) → Counted.Refused n i ≡ framed bytes (at 0 first >>= λ k. refused n i)
  body_refused n i = rw (← e) refl

  pub all_counted : (m : ℕ) {k n : ℕ} → k ≡ n → Counted.Frame bytes (x + m + k) ≡ framed bytes (at 0 first >>= λ j. accepted (j + m + n))
  all_counted m f = rw (← e, f) refl

-- ---- what is written

-- It is true where the last record is Ret.
abbrev ret_of : Result (List Instruction) → Bool
ret_of (ok ys) = ends_in_ret ys
ret_of (types.refused n) = true

-- The list is made of its three parts in turn.
in_turn : (p : Result (List Instruction)) (b : Outcome (List Instruction)) → Yields p Unended →
    without_place (joined p b) ≡ then p (then (without_place b) (ok (ending (ret_of (without_place b)))))
in_turn (ok xs) (accepted ys) h = ap ok (joined_is xs ys (h.of xs refl) ∙ append_assoc xs ys (ending (ends_in_ret ys)))
in_turn (ok xs) (refused n i) h = refl
in_turn (types.refused n) b h = refl

-- A maker that has room does not refuse.
room_made : {r : Result (List Instruction)} {at m n : ℕ} {A : Type 0} → Ready true r at m → types.refused n ≡ counted r → A
room_made {r} {at} {m} {n} {A} y e = go r (y.room refl) e
  where
    go : (r : Result (List Instruction)) → Fits r at m → types.refused n ≡ counted r → A
    go (ok is) f e = absurd (never e)
    go (types.refused k) f e = absurd f

-- These are the parts of the list of a sheet that has n variables and m parameters.
module _ (tables offsets : List ℕ) (bytes : ℕ) (s : List ℕ) (n m : ℕ) where
  abbrev whole : Result (List Instruction)
  whole = without_place (list_of (lent tables offsets) bytes s)

  abbrev first : Result (List Instruction)
  first = func_prologue (lent tables offsets) bytes (vars_at s m (6 + 2 * n))

  abbrev body : Result (List Instruction)
  body = without_place (body_of (lent tables offsets) s)

  abbrev last : List Instruction
  last = ending (ret_of body)

  module _ (f : n ≡ cell_at s 0) (g : m ≡ cell_at s 1) (old : List ℕ) (room : Ready true whole 0 (length old)) where
    start : Going true whole 0 old (then first (then body (ok last))) 0 old
    start = begins true whole (then first (then body (ok last))) 0 old (sym (in_turn first (body_of (lent tables offsets) s) (prologue_open _ _ _)) ∙ ap without_place (list_is tables offsets bytes s f g))

    pub first_ready : Ready true first 0 (length old)
    first_ready = next_ready start room first (then body (ok last)) refl refl

    pub first_never : {A : Type 0} {k : Refusal} {mid : List ℕ} → Makes true first 0 old mid (Err k) → A
    first_never r = room_made first_ready r.says

    module _ {x : ℕ} {mid : List ℕ} (made : Makes true first 0 old mid (Ok x)) where
      pub first_short : m ≤ 256 → x ≤ most_in_prologue 256
      first_short few = first_few _ _ _ _ _ few made.says

      behind_first : Going true whole 0 old (then body (ok last)) x mid
      behind_first = let z : 0 + x ≡ x = omega arith in rw z at (next start room first (then body (ok last)) refl refl made)

      pub body_ready : Ready true body (64 * x) (length mid)
      body_ready = next_ready behind_first room body (ok last) refl (omega arith)

      module _ {y : ℕ} {late : List ℕ} (wrote : Makes true body (64 * x) mid late (Ok y)) where
        behind_body : Going true whole 0 old (ok last) (x + y) late
        behind_body = next behind_first room body (ok last) refl (omega arith) wrote

        module _ {needed : ℕ} (many : ok needed ≡ counted whole) where
          -- What is left of the needed records is the epilogue, or nothing.
          left_is : needed ≡ x + y + length last
          left_is = let z : ◌≡◌ {A = Result ℕ} (ok needed) (ok (length (behind_body.made ++ last))) = many ∙ ap counted behind_body.is in
              let l : needed ≡ length (behind_body.made ++ last) = cc in
              l ∙ length-append behind_body.made last ∙ omega (arith, behind_body.count)

          pub made_few : x + y ≤ needed
          made_few = omega (arith, left_is)

          -- None is left.
          pub all_written : needed ≤ x + y → Makes true whole 0 old late (Ok needed)
          all_written h =
              let l : needed ≡ x + y = omega (arith, made_few) in
              rw l (finishes behind_body room (go (ret_of body) (omega (arith, left_is))))
            where
              go : (t : Bool) → length (ending t) ≤ 0 → ◌≡◌ {A = Result (List Instruction)} (ok (ending t)) (ok [])
              go true k = refl
              go false k = absurd (omega arith)

          module _ (h : x + y < needed) where
            last_due : last ≡ func_epilogue
            last_due = go (ret_of body) (omega (arith, left_is))
              where
                go : (t : Bool) → 0 < length (ending t) → ending t ≡ func_epilogue
                go true k = absurd (omega arith)
                go false k = refl

            -- There is room for the epilogue.
            pub last_ready : Ready true (ok func_epilogue) (64 * (x + y)) (length late)
            last_ready = next_ready behind_body room (ok func_epilogue) (ok []) (ap ok last_due) (omega arith)

            pub last_written : {new : List ℕ} → new ≡ write late (64 * (x + y)) (list_bytes func_epilogue) → Makes true whole 0 old new (Ok needed)
            last_written f =
                let l : needed ≡ x + y + 3 = omega (arith, left_is, ap length last_due) in
                rw l (finishes (next behind_body room (ok func_epilogue) (ok []) (ap ok last_due) (omega arith) (record { says = refl; bytes = f })) room refl)
