-- A sheet that is opened, and one that is refused.
use Prim.Native.Nat.{ℕ, ◌≤◌}
use mathlib.Core.Path.{◌≡◌, refl, sym, ap, ◌∙◌}
use mathlib.Core.List.{List}
use native.Mathlib.Omega.{arith}
use lib.ListN.{length, take, drop, length-append, length-drop}
use lib.Seq.{take_at}
use Rattle.cells.specs.Cells.{cells, cell_at}
use Rattle.cells.specs.declared.Cursor.{Cursor}
use Rattle.std.specs.Prelude.{Ok, Err}
use Rattle.cells.specs.declared.refusals.Refused.{Refused}
use Rattle.ir.specs.Types.{Result}
use Rattle.ir.specs.Function.{types_at, tables_of, function_of}
use Rattle.ir.proofs.Sheet.{types_length}
use Rattle.layout.specs.Limits.{most_variables}
use Rattle.layout.specs.declared.Edition.{Edition}
use Rattle.layout.specs.Layout.{Checked, Limited, bind_limited, bind_checked, tables_check, head_check, sheet_in, sheet_check}
use Rattle.layout.proofs.Laws.{head_right, head_header, head_vars}
use Rattle.codegen.specs.Frame.{offsets_from}
use Rattle.codegen.specs.Generation.{refused, checked, generate, compiled}
use Rattle.machine.proofs.Frame.{offsets_length}
use Rattle.frame.specs.Sizes.{sizes_at, offsets_after}
use Rattle.generation.specs.Survey.{Opened, off, opening, offsets_opened, Opens}

same_sheet : {a b : Result ℕ} {c d : Cursor} → Opened.Sheet a c ≡ Opened.Sheet b d → (b ≡ a) × (d ≡ c)
same_sheet e = (let z = e in cc, let z = e in cc)

never_sheet : {A : Type 0} {n place : ℕ} {a : Result ℕ} {c : Cursor} → Opened.Refused n place ≡ Opened.Sheet a c → A
never_sheet e = absurd (let z : ◌≡◌ {A = ℕ} 0 1 = cc in omega arith)

-- ---- what is right

slots_long : (s : List ℕ) → length (offsets_from 0 (types_at s (cell_at s 0) 6)) ≡ cell_at s 0
slots_long s = offsets_length 0 (types_at s (cell_at s 0) 6) ∙ types_length s (cell_at s 0) 6

-- tables and head
record Both (tables s : List ℕ) (total : Result ℕ) (from : Cursor) : Type 0 where
  end : Cursor
  first : tables_check tables ≡ Ok end
  head : head_check s ≡ Ok (cell_at s 5, from)
  sizes : total ≡ sizes_at s (cell_at s 0) 6

module _ (tables s : List ℕ) {total : Result ℕ} {from : Cursor} (e : opening tables s ≡ Opened.Sheet total from) where
  both : Both tables s total from
  unfolding opening
  both = go (tables_check tables) refl (head_check s) refl e
    where
      go : (x : Checked) → tables_check tables ≡ x → (y : Limited) → head_check s ≡ y →
          bind_checked off x (λ end. bind_limited off y (λ instrs c. Opened.Sheet (sizes_at s (cell_at s 0) 6) c)) ≡ Opened.Sheet total from →
          Both tables s total from
      go (Ok d) p (Ok (n, c)) q z =
          let w = same_sheet z in
          record {
            end = d;
            first = p;
            head = q ∙ ap (λ (m : ℕ). Ok (m, c)) (head_right Edition.First s q).1 ∙ ap (λ (b : Cursor). Ok (cell_at s 5, b)) (sym w.1);
            sizes = w.0;
          }
      go (Ok d) p (Err r) q z = never_sheet z
      go (Err r) p y q z = never_sheet z

  pub opened_header : 6 ≤ cells s
  opened_header = head_header s both.head

  pub opened_vars : cell_at s 0 ≤ most_variables
  opened_vars = head_vars s both.head

  module _ (old : List ℕ) {os : List ℕ} (left : os ≡ offsets_opened tables s old) where
    filled : os ≡ offsets_after s (cell_at s 0) 6 old
    unfolding offsets_opened
    filled = rw (both.first, both.head) at left

    pub opens : Opens tables s (take (cell_at s 0) os) total from
    opens =
        record {
          end = both.end;
          first = both.first;
          head = both.head;
          sizes = both.sizes;
          slots = ap (take (cell_at s 0)) filled ∙ take_at (offsets_from 0 (types_at s (cell_at s 0) 6)) _ (cell_at s 0) (slots_long s);
        }

    -- as many numbers as before
    pub opened_long : length old ≡ 256 → length os ≡ 256
    opened_long h =
        ap length filled ∙ length-append (offsets_from 0 (types_at s (cell_at s 0) 6)) (drop (cell_at s 0) old)
        ∙ omega (arith, slots_long s, length-drop (cell_at s 0) old, opened_vars)

-- ---- what is refused

-- a wrong cell of the head is the sheet's
head_wrong : (s : List ℕ) {r : Refused} → head_check s ≡ Err r → sheet_check s ≡ Err r
unfolding sheet_in
head_wrong s e = rw e refl

pub not_opened : (tables s : List ℕ) {n place : ℕ} → opening tables s ≡ Opened.Refused n place → compiled tables s ≡ refused n place
unfolding opening compiled
not_opened tables s {n} {place} = go (tables_check tables) (head_check s) refl
  where
    go : (x : Checked) (y : Limited) → head_check s ≡ y →
        bind_checked off x (λ end. bind_limited off y (λ instrs c. Opened.Sheet (sizes_at s (cell_at s 0) 6) c)) ≡ Opened.Refused n place →
        checked x (λ u. checked (sheet_check s) (λ v. generate (tables_of tables) (function_of s))) ≡ refused n place
    go (Ok d) (Ok (m, c)) q e = never_sheet (sym e)
    go (Ok d) (Err r) q e = rw (head_wrong s q) (let z = e in cc)
    go (Err r) y q e = let z = e in cc
