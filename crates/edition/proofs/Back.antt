-- Going out and back returns the first bytes, from either edition.
use Prim.Native.Nat.{ℕ, ◌*◌}
use mathlib.Core.Path.{◌≡◌, refl}
use mathlib.Core.Bool.{Bool, true, false, cond}
use mathlib.Core.List.{List}
use native.Mathlib.Omega.{arith}
use borrow.Author.Tests.{le-ltb}
use lib.Dec.{ltb}
use lib.ListN.{length}
use Rattle.std.specs.Prelude.{Option, Some, None, Ok, Err}
use Rattle.cells.specs.Cells.{cells, cells_from, cell_bytes}
use Rattle.cells.specs.Outcomes.{accepted, refused, ◌>>=◌, outcome}
use Rattle.cells.specs.Refusals.{type_differs, page_full}
use Rattle.cells.proofs.Lists.{bytes_length, bytes_hold, from_length, whole_bytes}
use Rattle.layout.specs.declared.Edition.{Edition}
use Rattle.layout.specs.Layout.{Checked, sheet_in, LaidIn}
use Rattle.layout.proofs.Laws.{sheet_right}
use Rattle.edition.specs.Editions.{other, ids, sheet_cells, stray_in, unless, converted}
use Rattle.edition.specs.RoundTrip.{RoundTrip}
use Rattle.edition.proofs.Parts.{Agree, none_stray, all_agreed}
use Rattle.edition.proofs.Sheets.{small_sheet, carried_laid, carried_agrees, carried_again}

other_other : (e : Edition) → other (other e) ≡ e
other_other Edition.First = refl
other_other Edition.Second = refl

-- an accepted conversion: the layout is right, every id agrees with its entry, and there are these cells
pub record Goes (e : Edition) (s xs : List ℕ) : Type 0 where
  pub laid : LaidIn e s
  pub agree : Agree e s (ids e s)
  pub are : xs ≡ sheet_cells e (other e) s

pub goes : (e : Edition) (s : List ℕ) (room : ℕ) {xs : List ℕ} → converted e s room ≡ accepted xs → Goes e s xs
unfolding converted
goes e s room {xs} h =
    go (sheet_in e s) (stray_in e s (ids e s)) (ltb room (8 * length (sheet_cells e (other e) s))) refl refl h
  where
    go : (x : Checked) (o : Option ℕ) (short : Bool) → sheet_in e s ≡ x → stray_in e s (ids e s) ≡ o →
        outcome x >>= (λ end. unless type_differs o >>= (λ u. cond short (refused page_full (length (sheet_cells e (other e) s))) (accepted (sheet_cells e (other e) s)))) ≡ accepted xs → Goes e s xs
    go (Ok end) None false p q h = record { laid = record { end = end; is = p }; agree = none_stray e s (ids e s) q; are = cc }
    go (Ok end) None true p q h = absurd cc
    go (Ok end) (Some k) short p q h = absurd cc
    go (Err r) o short p q h = absurd cc

pub round_trip : RoundTrip
unfolding converted
round_trip e s room xs bytes h =
    let g = goes e s room h in
    let f = other e in
    let ys = sheet_cells e f s in
    let t = cell_bytes ys in
    let held = bytes_hold ys (small_sheet e f s) in
    let long = bytes_length ys in
    let laid = carried_laid e f s t g.laid g.agree held long in
    let w : cells s * 8 ≡ length s = omega (arith, (sheet_right e s g.laid.is).whole) in
    record {
      laid = rw g.are laid;
      first = cells_from s 0 (cells s);
      bytes = whole_bytes s bytes w;
      back =
          λ m l.
          rw (g.are, laid.is)
          (rw (all_agreed f t (ids f t) (carried_agrees e f s t g.laid g.agree held long), other_other e, carried_again e f s t g.laid g.agree held long)
          (rw (le-ltb m (8 * length (cells_from s 0 (cells s))) (omega (arith, from_length s (cells s) 0))) refl));
    }
