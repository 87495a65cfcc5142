-- The loop over the variables' types: the offsets of those before the next one.
use Prim.Native.Nat.{ℕ, suc, ◌+◌, ◌-◌, ◌*◌, ◌≤◌, ◌<◌}
use mathlib.Core.Path.{◌≡◌, refl, sym, ap, subst, ◌∙◌}
use mathlib.Core.Bool.{Bool, true, ◌&&◌, not}
use mathlib.Core.List.{List, [], ◌∷◌, ◌++◌, append_assoc}
use native.Mathlib.Omega.{arith}
use lib.ListN.{length, take, drop, set, length-set, take-append-drop}
use lib.Seq.{take-suc-set, drop-set-lt}
use lib.Dec.{eqb, lit≤}
use Rattle.std.specs.Prelude.{Ok}
use Rattle.std.proofs.Math.Bool.{and_assoc, and-true}
use Rattle.cells.specs.Cells.{cells}
use Rattle.ir.specs.declared.«Type».{«Type» as IrType}
use Rattle.ir.specs.Types.{element_width, offset_behind, last_offset}
use Rattle.ir.specs.Function.{type_at, types_at}
use Rattle.ir.proofs.Sheet.{types_length}
use Rattle.layout.specs.Limits.{most_count}
use Rattle.layout.specs.Layout.{cursor, types_check}
use Rattle.layout.proofs.Laws.{type_right, types_more}
use Rattle.codegen.specs.Frame.{offsets_from, have_widths}
use Rattle.utils.proofs.Beyond.{Items, all_left, next_left, none_left}
use Rattle.frame.specs.Sizes.{total_of, sizes_at, offsets_after}

-- ---- the offsets

-- those before `left` of all variables end at `end`; `widths` says whether each of them has a width
pub record Sized (all left : List IrType) (end : ℕ) (widths : Bool) : Type 0 where
  pub have : (widths && have_widths left) ≡ have_widths all
  pub last : last_offset end left ≡ last_offset 0 all

one_more_lem : {all ts : List IrType} {t : IrType} {end : ℕ} {widths : Bool} {e : ℕ} → Sized all (t ∷ ts) end widths → e ≡ offset_behind end t →
    Sized all ts e (widths && not (eqb (element_width t.code) 0))
unfolding have_widths last_offset
one_more_lem {all} {ts} {t} {end} {widths} {e} f z =
    record {
      have = and_assoc widths (not (eqb (element_width t.code) 0)) (have_widths ts) ∙ f.have;
      last = ap (λ (n : ℕ). last_offset n ts) z ∙ f.last;
    }

-- k numbers are filled in, and those that are left give the whole
pub record Filled (whole : List ℕ) (k end : ℕ) (left : List IrType) (os : List ℕ) : Type 0 where
  pub so_far : take k os ++ (offsets_from end left ++ drop (k + length left) os) ≡ whole

none_filled : (s : List ℕ) (n from : ℕ) (old : List ℕ) → Filled (offsets_after s n from old) 0 0 (types_at s n from) old
none_filled s n from old = let z : 0 + length (types_at s n from) ≡ n = omega (arith, types_length s n from) in record { so_far = rw z }

-- the offset of one more
fill : {whole : List ℕ} {k end : ℕ} {t : IrType} {ts : List IrType} {os : List ℕ} {e : ℕ} → Filled whole k end (t ∷ ts) os → e ≡ offset_behind end t
    → k < length os → Filled whole (k + 1) e ts (set os k e)
unfolding offsets_from
fill {whole} {k} {end} {t} {ts} {os} {e} f z l =
    let m : k + suc (length ts) ≡ suc k + length ts = omega arith in
    let s : suc k ≡ k + 1 = omega arith in
    rw (← s) (record {
      so_far =
          ap (λ (xs : List ℕ). xs ++ (offsets_from e ts ++ drop (suc k + length ts) (set os k e))) (take-suc-set os k e l)
          ∙ append_assoc (take k os) (e ∷ []) (offsets_from e ts ++ drop (suc k + length ts) (set os k e))
          ∙ ap (λ (xs : List ℕ). take k os ++ (e ∷ (offsets_from e ts ++ xs))) (drop-set-lt (suc k + length ts) os k e (omega arith))
          ∙ rw (← z, m) at f.so_far;
    })

-- none is left
filled : {whole : List ℕ} {k end : ℕ} {os : List ℕ} → Filled whole k end [] os → os ≡ whole
unfolding offsets_from
filled {whole} {k} {end} {os} f = let z : k + 0 ≡ k = omega arith in sym (take-append-drop k os) ∙ rw z at f.so_far

-- ---- the loop

types_placed : (s : List ℕ) → Items (type_at s) (types_at s) 2
unfolding types_at
types_placed s = record { none = λ cell. refl; more = λ left cell. refl }

-- n types from a cell on, whose layout is right
module _ (s : List ℕ) (n from : ℕ) (old : List ℕ) where
  -- those behind the first i
  abbrev left : ℕ → List IrType
  left i = types_at s (n - i) (from + 2 * i)

  -- i of them are done, and end at an offset within its limit
  pub record Offsetting (i end : ℕ) (widths : Bool) (os : List ℕ) : Type 0 where
    pub small : end ≤ most_count
    pub long : length os ≡ length old
    pub layout : types_check s (n - i) end (cursor (from + 2 * i)) ≡ Ok (cursor (from + 2 * n))
    pub sized : Sized (types_at s n from) (left i) end widths
    pub filling : Filled (offsets_after s n from old) i end (left i) os

  pub begins : types_check s n 0 (cursor from) ≡ Ok (cursor (from + 2 * n)) → Offsetting 0 0 true old
  begins h =
      let l : n - 0 ≡ n = omega arith in
      let c : from + 2 * 0 ≡ from = omega arith in
      let all = all_left (types_placed s) n from in
      record {
        small = lit≤ tt;
        long = refl;
        layout = rw (l, c) h;
        sized = record { have = ap have_widths all; last = ap (last_offset 0) all };
        filling = rw all (none_filled s n from old);
      }

  module _ {i end : ℕ} {widths : Bool} {os : List ℕ} (f : Offsetting i end widths os) where
    module _ (h : i < n) where
      abbrev here : IrType
      here = type_at s (from + 2 * i)

      -- the next type is there, and those behind it are right, behind its own offset
      next_right : (from + 2 * i + 2 ≤ cells s) × (offset_behind end here ≤ most_count)
          × (types_check s (n - (i + 1)) (offset_behind end here) (cursor (from + 2 * (i + 1))) ≡ Ok (cursor (from + 2 * n)))
      next_right =
          let l : n - i ≡ suc (n - (i + 1)) = omega arith in
          let p = types_more s (n - (i + 1)) end (cursor (from + 2 * i)) (rw l at f.layout) in
          let r = type_right s (cursor (from + 2 * i)) p.1 in
          let c : p.0 ≡ cursor (from + 2 * (i + 1)) = ap cursor (let z : p.0.at ≡ from + 2 * (i + 1) = omega (arith, r.0) in z) in
          (r.1, p.2, rw c at p.3)

      pub next_there : from + 2 * i + 2 ≤ cells s
      next_there = next_right.0

      pub turn_on : {e : ℕ} → e ≡ offset_behind end here → n ≤ length old → Offsetting (i + 1) e (widths && not (eqb (element_width here.code) 0)) (set os i e)
      turn_on {e} is room =
          let more = next_left (types_placed s) n from h in
          record {
            small = rw is next_right.1;
            long = length-set os i e ∙ f.long;
            layout = rw is next_right.2;
            sized = one_more_lem (subst (λ (ts : List IrType). Sized (types_at s n from) ts end widths) more f.sized) is;
            filling = fill (subst (λ (ts : List IrType). Filled (offsets_after s n from old) i end ts os) more f.filling) is (omega (arith, f.long));
          }

    module _ (h : n ≤ i) where
      none : left i ≡ []
      none = none_left (types_placed s) n from h

      pub sizes_are : total_of widths end ≡ sizes_at s n from
      unfolding have_widths last_offset
      sizes_are =
          let g = subst (λ (ts : List IrType). Sized (types_at s n from) ts end widths) none f.sized in
          ap (λ (b : Bool). total_of b end) (sym (and-true widths) ∙ g.have)
          ∙ ap (λ (m : ℕ). total_of (have_widths (types_at s n from)) m) g.last

      pub offsets_are : os ≡ offsets_after s n from old
      offsets_are = filled (subst (λ (ts : List IrType). Filled (offsets_after s n from old) i end ts os) none f.filling)
