-- Which numbers a conversion refuses by: 2 and 3 of the layout, 9 and 17.
use Prim.Native.Nat.{ℕ, ◌*◌}
use mathlib.Core.Path.{◌≡◌, refl}
use mathlib.Core.Bool.{Bool, true, false, cond}
use mathlib.Core.List.{List, [], ◌∷◌, Memᴰ}
use Rattle.std.specs.Prelude.{Option, Some, None, Ok, Err}
use native.Mathlib.Omega.{arith}
use borrow.Author.Tests.{eqb-true, eqb-false}
use lib.Dec.{ltb, eqb}
use lib.ListN.{length}
use Rattle.cells.specs.Outcomes.{accepted, refused, ◌>>=◌, outcome}
use Rattle.cells.specs.Refusals.{torn_sheet, oversize, page_full, type_differs, number_of_refusal}
use Rattle.layout.specs.declared.Edition.{Edition}
use Rattle.layout.specs.Layout.{Checked, sheet_in}
use Rattle.layout.proofs.Refused.{TornOrOver, off_by, sheet_off}
use Rattle.edition.specs.Editions.{other, ids, stray_in, sheet_cells, fitted, unless, converted}

abbrev Among : ℕ → Type 0
Among n = Memᴰ n (torn_sheet ∷ oversize ∷ page_full ∷ type_differs ∷ [])

layouts : (n : ℕ) → TornOrOver n → Among n
layouts n h = go (eqb n torn_sheet) refl
  where
    go : (b : Bool) → eqb n torn_sheet ≡ b → Among n
    go true p = Memᴰ.head (eqb-true n torn_sheet p)
    go false p =
        let d : n ≡ torn_sheet → ⊥ = eqb-false n torn_sheet p in
        let l : n ≡ oversize = omega arith in
        Memᴰ.tail (Memᴰ.head l)

pub refused_by : (e : Edition) (s : List ℕ) (room : ℕ) {n place : ℕ} → converted e s room ≡ refused n place → Among n
unfolding converted
refused_by e s room {n} {place} h = go (sheet_in e s) refl (stray_in e s (ids e s)) h
  where
    xs : List ℕ
    xs = sheet_cells e (other e) s

    paged : (b : Bool) → cond b (refused page_full (length xs)) (accepted xs) ≡ refused n place → Among n
    paged true h = let l : n ≡ page_full = cc in Memᴰ.tail (Memᴰ.tail (Memᴰ.head l))
    paged false h = absurd cc

    go : (x : Checked) → sheet_in e s ≡ x → (o : Option ℕ) →
        outcome x >>= (λ end. unless type_differs o >>= (λ u. fitted room (sheet_cells e (other e) s))) ≡ refused n place → Among n
    go (Err r) p o h = let l : n ≡ number_of_refusal r.refusal = cc in rw l (layouts _ (off_by (sheet_off e s) p))
    go (Ok d) p (Some k) h = let l : n ≡ type_differs = cc in Memᴰ.tail (Memᴰ.tail (Memᴰ.tail (Memᴰ.head l)))
    go (Ok d) p None h = paged (ltb room (8 * length (sheet_cells e (other e) s))) h
