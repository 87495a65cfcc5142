-- Left and right as one list of operands, with the unused cells behind it.
use Prim.Native.Nat.{ℕ, zero, suc, ◌+◌, ◌*◌, ◌-◌}
use mathlib.Core.Path.{◌≡◌, refl, sym, ap, ◌∙◌}
use mathlib.Core.Bool.{Bool, true, false, cond}
use mathlib.Core.List.{List}
use native.Mathlib.Omega.{arith}
use borrow.Author.Tests.{eqb-true}
use lib.Dec.{eqb}
use Rattle.std.specs.Prelude.{Ok, Err}
use Rattle.cells.specs.Cells.{Cell, read_within, bind_cell}
use Rattle.cells.specs.declared.Cursor.{Cursor}
use Rattle.cells.specs.declared.refusals.Refusal.{Refusal}
use Rattle.layout.specs.declared.Edition.{Edition}
use Rattle.layout.specs.Layout.{Checked, Limited, refuse, bind_limited, bind_checked, zeros_check, operand_in, operands_in, has_left, side_in, call_check, body_in}
use Rattle.layout.specs.Sides.{sides_of, unused_of}

-- nothing follows
last_one : (x : Checked) → bind_checked Err x (λ c. Ok c) ≡ x
last_one (Ok c) = refl
last_one (Err r) = refl

alike : (x : Checked) {f g : Cursor → Checked} → ((c : Cursor) → f c ≡ g c) → bind_checked Err x f ≡ bind_checked Err x g
alike (Ok c) e = e c
alike (Err r) e = refl

-- m unused cells, and n behind them
zeros_both : (s : List ℕ) (m n : ℕ) (c : Cursor) → bind_checked Err (zeros_check s m c) (λ d. zeros_check s n d) ≡ zeros_check s (m + n) c
unfolding zeros_check
zeros_both s zero n c = let l : 0 + n ≡ n = omega arith in rw l
zeros_both s (suc m) n c =
    let l : suc m + n ≡ suc (m + n) = omega arith in
    rw l (go (λ d. zeros_both s m n d) (read_within s c 0 0))
  where
    go : ((d : Cursor) → bind_checked Err (zeros_check s m d) (λ e. zeros_check s n e) ≡ zeros_check s (m + n) d) → (x : Cell) →
        bind_checked Err (bind_cell (refuse Refusal.TornSheet) x (λ v d. zeros_check s m d)) (λ d. zeros_check s n d)
        ≡ bind_cell (refuse Refusal.TornSheet) x (λ v d. zeros_check s (m + n) d)
    go f (Ok x) = f x.1
    go f (Err w) = refl

module _ (E : Edition) (s : List ℕ) (c : Cursor) where
  -- both are operands, left is one, or none is
  two_operands :
      bind_checked Err (operand_in E s c) (λ d. operand_in E s d)
      ≡ bind_checked Err (operands_in E s 2 c) (λ d. zeros_check s 0 d)
  unfolding operands_in zeros_check
  two_operands = sym (last_one _ ∙ alike (operand_in E s c) (λ d. last_one (operand_in E s d)))

  one_operand :
      bind_checked Err (operand_in E s c) (λ d. zeros_check s 4 d)
      ≡ bind_checked Err (operands_in E s 1 c) (λ d. zeros_check s 4 d)
  unfolding operands_in
  one_operand = ap (λ (x : Checked). bind_checked Err x (λ d. zeros_check s 4 d)) (sym (last_one (operand_in E s c)))

  no_operand :
      bind_checked Err (zeros_check s 4 c) (λ d. zeros_check s 4 d)
      ≡ bind_checked Err (operands_in E s 0 c) (λ d. zeros_check s 8 d)
  unfolding operands_in
  no_operand = zeros_both s 4 4 c

  -- of any kind
  two_sides : (kind : ℕ) →
      bind_checked Err (side_in E s (has_left kind) c) (λ d. side_in E s (eqb kind 2) d)
      ≡ bind_checked Err (operands_in E s (sides_of kind) c) (λ d. zeros_check s (8 - 4 * sides_of kind) d)
  unfolding side_in
  two_sides kind = go (eqb kind 2) (has_left kind) (λ e. let l = eqb-true kind 2 e in rw l)
    where
      go : (both left : Bool) → (both ≡ true → left ≡ true) →
          bind_checked Err (cond left (operand_in E s c) (zeros_check s 4 c)) (λ d. cond both (operand_in E s d) (zeros_check s 4 d))
          ≡ bind_checked Err (operands_in E s (cond both 2 (cond left 1 0)) c) (λ d. zeros_check s (8 - 4 * cond both 2 (cond left 1 0)) d)
      go true left h = rw (h refl) two_operands
      go false true h = one_operand
      go false false h = no_operand

  -- a call's arguments among them
  pub one_list : (kind : ℕ) →
      body_in E s kind c
      ≡ bind_limited Err (cond (eqb kind 5) (call_check s c) (Ok (sides_of kind, c)))
      (λ n d. bind_checked Err (operands_in E s n d) (λ e. zeros_check s (unused_of kind) e))
  unfolding body_in zeros_check
  one_list kind = go (eqb kind 5)
    where
      arguments : (x : Limited) →
          bind_limited Err x (λ n d. operands_in E s n d)
          ≡ bind_limited Err x (λ n d. bind_checked Err (operands_in E s n d) (λ e. Ok e))
      arguments (Ok x) = sym (last_one (operands_in E s x.0 x.1))
      arguments (Err r) = refl

      go : (call : Bool) →
          cond call (bind_limited Err (call_check s c) (λ n d. operands_in E s n d))
          (bind_checked Err (side_in E s (has_left kind) c) (λ d. side_in E s (eqb kind 2) d))
          ≡ bind_limited Err (cond call (call_check s c) (Ok (sides_of kind, c)))
          (λ n d. bind_checked Err (operands_in E s n d) (λ e. zeros_check s (cond call 0 (8 - 4 * sides_of kind)) e))
      go true = arguments (call_check s c)
      go false = two_sides kind
