-- From the answer for a sheet to its function's list: what was accepted was generated, and the bytes decode to it.
use Prim.Native.Nat.{ℕ, ◌*◌, ◌≤◌}
use mathlib.Core.Path.{◌≡◌, refl, sym, ap, ◌∙◌}
use mathlib.Core.Bool.{Bool, true, false, cond, not, ◌||◌, false≢true}
use mathlib.Core.List.{List, []}
use mathlib.Core.Option.{some}
use lib.Dec.{ltb}
use lib.ListN.{length, drop}
use native.Mathlib.Omega.{arith}
use Rattle.ir.specs.Types.{last_offset}
use Rattle.ir.specs.Function.{tables_of, function_of}
use Rattle.cells.specs.declared.Cursor.{Cursor}
use Rattle.cells.specs.Refusals.{page_full}
use Rattle.std.specs.Prelude.{Ok, Err}
use Rattle.layout.specs.Layout.{Checked}
use Rattle.layout.specs.Layout.{tables_check, sheet_check, Laid}
use Rattle.layout.specs.Limits.{most_count}
use Rattle.layout.proofs.Laws.{head_total, head_laid}
use Rattle.layout.proofs.Walk.{laid_from}
use Rattle.x86.specs.declared.enums.Instruction.{Instruction}
use Rattle.x86.specs.Decode.{decode_list}
use Rattle.x86.proofs.Decoded.{list_back}
use Rattle.codegen.specs.Generation.{Outcome, accepted, refused, generate, checked, compiled, page, lowered, records_after}
use Rattle.machine.specs.Plain.{Plain, is_plain_at, is_fault, after_layout, is_refused_at}
use Rattle.machine.proofs.Accepted.{never, taken, split, code, accepted_list}
use Rattle.machine.proofs.Frame.{total_is}
use Rattle.machine.proofs.Every.{SmallLines, FewArguments}
use Rattle.machine.proofs.Fits.{sheet_small, sheet_args, sheet_params, code_fits}

-- what follows a layout that is right
checked_accepted : {A : Type 0} (c : Checked) (rest : Unit {0} → Outcome A) (a : A) → checked c rest ≡ accepted a
    → (rest tt ≡ accepted a) × ((k : ℕ) (f : Unit {0} → Bool) → after_layout c k f ≡ f tt) × ((d : Cursor) × (c ≡ Ok d))
checked_accepted (Ok c) rest a e = (e, (λ k f. refl), (c, refl))
checked_accepted (Err r) rest a e = absurd (never e)

page_accepted : (m : ℕ) (b is : List Instruction) → page m b ≡ accepted is → b ≡ is
page_accepted m b is e = go (ltb m (64 * length b)) e
  where
    go : (t : Bool) → cond t (refused page_full (length b)) (accepted b) ≡ accepted is → b ≡ is
    go true e = absurd (never e)
    go false e = taken e

plain_yes : (a b : Bool) → (not a || b) ≡ false → a ≡ true
plain_yes true b e = refl
plain_yes false b e = absurd (false≢true (sym e))

module _ (tables sheet : List ℕ) (m : ℕ) (is : List Instruction) (e : lowered tables sheet m ≡ accepted is) where
  -- tables and sheet are on the layout
  parts : (generate (tables_of tables) (function_of sheet) ≡ accepted is)
      × ((k : ℕ) → is_fault tables sheet k ≡ (not (is_plain_at (function_of sheet) k) || is_refused_at (generate (tables_of tables) (function_of sheet)) k))
      × ((d : Cursor) × (sheet_check sheet ≡ Ok d))
  unfolding lowered compiled is_fault
  parts =
      let (b, e₁, f) = split (compiled tables sheet) (page m) is e in
      let (g, t, c) = checked_accepted (tables_check tables) _ b e₁ in
      let (i, s, d) = checked_accepted (sheet_check sheet) _ b g in
      (i ∙ ap accepted (page_accepted m b is f), (λ k. t k _ ∙ s k _), d)

  pub generated : generate (tables_of tables) (function_of sheet) ≡ accepted is
  generated = parts.0

  -- no number is at fault
  pub plain_all : Plain tables sheet → (k : ℕ) → is_plain_at (function_of sheet) k ≡ true
  plain_all p k = plain_yes _ _ (sym (parts.1 k) ∙ p.faultless k)

  laid : Laid sheet
  laid = laid_from parts.2.1

  -- the total of the variables' sizes is within its limit
  pub small : last_offset 0 (function_of sheet).vars ≤ most_count
  unfolding function_of
  small = head_total sheet (head_laid laid)

  -- .. and so are its parameters and each call's arguments
  pub few_params : length (function_of sheet).params ≤ 256
  few_params = sheet_params sheet laid

  pub few_args : FewArguments (function_of sheet)
  few_args = sheet_args sheet laid

  -- its numbers are cells
  pub small_lines : SmallLines (function_of sheet)
  small_lines = sheet_small sheet laid

  pub decodes : (old : List ℕ) → decode_list (records_after (lowered tables sheet m) old) (length is) 0 ≡ some is
  unfolding records_after
  decodes old =
      let (a, c) = accepted_list (tables_of tables) (function_of sheet) is generated in
      let f = code_fits (tables_of tables) (function_of sheet) (omega (arith, small, total_is (function_of sheet).vars)) few_params a small_lines in
      rw e (rw c (list_back (code (tables_of tables) (function_of sheet)) [] (drop (64 * length (code (tables_of tables) (function_of sheet))) old) 0 refl f))
