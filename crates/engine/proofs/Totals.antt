-- From the totals of a pack to the numbers that C gets.
use Prim.Native.Nat.{ℕ}
use mathlib.Core.Path.{◌≡◌, refl, sym}
use mathlib.Core.List.{List}
use mathlib.Core.Logic.{inl, inr}
use Rattle.cells.specs.Outcomes.{accepted, refused, number_of, place_of}
use Rattle.totals.specs.declared.Totals.{Totals}
use Rattle.totals.specs.Totals.{pack_totals, records_of, refused_of}
use Rattle.totals.proofs.Walks.{totals_refused}
use Rattle.engine.specs.Numbers.{IsTotalsNumber}

module _ (tables p : List ℕ) where
  -- what C gets: number, place, records, refused sheets
  abbrev pub Counts : ℕ → ℕ → ℕ → ℕ → Type 0
  Counts r place records turned =
      (r ≡ number_of (pack_totals tables p)) × (IsTotalsNumber r × ((place ≡ place_of (λ t. 0) (pack_totals tables p)) × ((records ≡ records_of (pack_totals tables p))
      × ((turned ≡ refused_of (pack_totals tables p)) × ((tables ≡ tables) × (p ≡ p))))))

  pub totals_are : {t : Totals} → accepted t ≡ pack_totals tables p → Counts 0 0 t.records t.refused
  totals_are e = rw (← e) (refl, (inl refl, (refl, (refl, (refl, (refl, refl))))))

  pub no_totals : {n k : ℕ} → refused n k ≡ pack_totals tables p → Counts n k 0 0
  no_totals e = let h = totals_refused tables p (sym e) in rw (← e) (refl, (inr h, (refl, (refl, (refl, (refl, refl))))))
