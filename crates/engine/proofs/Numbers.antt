-- From an answer to what C gets.
use Prim.Native.Nat.{ℕ}
use mathlib.Core.Path.{◌≡◌, refl, sym}
use mathlib.Core.Logic.{◌↔◌}
use mathlib.Core.Option.{none, some}
use mathlib.Core.List.Memᴰ
use mathlib.Core.List.{List, [], ◌∷◌, Memᴰ}
use native.Mathlib.Omega.{arith}
use mathlib.Core.Logic.{⊎_elim}
use Rattle.cells.specs.Refusals.{torn_sheet, oversize, page_full, type_differs}
use Rattle.machine.specs.Plain.{Plain, first_fault}
use Rattle.machine.proofs.First.{plain_first}

-- 1 exactly where the function is plain
pub plain_yes : {t s : List ℕ} → none ≡ first_fault t s → ◌≡◌ {A = ℕ} 1 1 ↔ Plain t s
plain_yes {t} {s} e = (λ z. (plain_first t s).1 (sym e), λ p. refl)

pub plain_no : {t s : List ℕ} {k : ℕ} → some k ≡ first_fault t s → ◌≡◌ {A = ℕ} 0 1 ↔ Plain t s
plain_no {t} {s} e = (λ z. absurd (omega arith), λ p. let y = (plain_first t s).0 p in cc)

-- no refusal of a conversion is 0
pub no_conversion : {A : Type 0} {n : ℕ} → Memᴰ n (torn_sheet ∷ oversize ∷ page_full ∷ type_differs ∷ []) → n ≡ 0 → A
no_conversion {A} {n} m z =
    ⊎_elim (λ e. absurd (omega arith)) (λ m1.
    ⊎_elim (λ e. absurd (omega arith)) (λ m2.
    ⊎_elim (λ e. absurd (omega arith)) (λ m3.
    ⊎_elim (λ e. absurd (omega arith)) (λ m4. absurd (Memᴰ.not-nil m4)) (Memᴰ.cases_cons m3)) (Memᴰ.cases_cons m2)) (Memᴰ.cases_cons m1))
    (Memᴰ.cases_cons m)
