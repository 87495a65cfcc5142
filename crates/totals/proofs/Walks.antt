-- The walk over the sheets of a pack, from the last to the first.
use Prim.Native.Nat.{ℕ, suc, ◌+◌, ◌*◌, ◌-◌, ◌≤◌, ◌<◌}
use mathlib.Core.Path.{◌≡◌, refl, sym, ap, ◌∙◌}
use mathlib.Core.List.{List, ◌∷◌, reverse, reverse-cons}
use native.Mathlib.Omega.{arith}
use lib.ListN.{length}
use Rattle.cells.specs.Refusals.{bad_pack}
use Rattle.std.specs.Prelude.{Ok, Err}
use Rattle.cells.specs.declared.refusals.Refused.{Refused}
use Rattle.cells.specs.Refusals.{number_of_refusal}
use Rattle.layout.specs.Layout.{Checked}
use Rattle.x86.specs.declared.enums.Instruction.{Instruction}
use Rattle.codegen.specs.Generation.{Outcome, accepted, refused, checked, compiled}
use Rattle.generation.specs.Answers.{counted_outcome}
use Rattle.machine.proofs.Accepted.{never}
use Rattle.pack.specs.Pack.{Checks, pack_check, sheet_count, sheet_at, sheets_at, sheets_of}
use Rattle.pack.proofs.Refusals.{pack_refused}
use Rattle.totals.specs.declared.Totals.{Totals}
use Rattle.totals.specs.Totals.{totals, with_sheet, taken, pack_totals}
use Rattle.totals.proofs.Few.{most_in_sheet, sheet_few}
use Rattle.totals.proofs.Orders.{one_more_lem, any_order}

-- where `left` sheets are left: the totals are those of the others, taken from the last on, and they are in range
pub record Walked (tables p : List ℕ) (left records turned : ℕ) : Type 0 where
  pub few : left ≤ sheet_count p
  pub are : totals records turned ≡ taken tables (totals 0 0) (reverse (sheets_at p (sheet_count p - left) left))
  pub short : records ≤ most_in_sheet * (sheet_count p - left)
  pub fewer : turned + left ≤ sheet_count p

module _ (tables p : List ℕ) where
  pub begins : (n : ℕ) → n ≡ sheet_count p → Walked tables p n 0 0
  unfolding sheets_at taken
  begins n e =
      let z : sheet_count p - n ≡ 0 = omega arith in
      record { few = omega arith; are = rw z refl; short = omega arith; fewer = omega arith }

  module _ {left records turned : ℕ} (h : Walked tables p left records turned) (some : 0 < left) where
    -- the sheets from the next one on
    next : sheets_at p (sheet_count p - (left - 1)) (left - 1) ≡ sheet_at p (left - 1) ∷ sheets_at p (sheet_count p - left) left
    unfolding sheets_at
    next =
        let e : sheet_count p - (left - 1) ≡ suc (sheet_count p - left) = omega (arith, h.few) in
        let f : suc (left - 1) ≡ left = omega arith in
        rw (e, f)

    -- the totals with it
    more : {o : Outcome (List Instruction)} → compiled tables (sheet_at p (left - 1)) ≡ o →
        taken tables (totals 0 0) (reverse (sheets_at p (sheet_count p - (left - 1)) (left - 1))) ≡ with_sheet (totals records turned) o
    more e =
        rw (next, reverse-cons (sheet_at p (left - 1)) (sheets_at p (sheet_count p - left) left), one_more_lem tables (totals 0 0) (reverse (sheets_at p (sheet_count p - left) left)) (sheet_at p (left - 1)), ← h.are, e)

    -- it lowers
    pub lowers : {n : ℕ} → accepted n ≡ counted_outcome (compiled tables (sheet_at p (left - 1))) → (n ≤ most_in_sheet) × Walked tables p (left - 1) (records + n) turned
    lowers {n} = go (compiled tables (sheet_at p (left - 1))) refl
      where
        go : (o : Outcome (List Instruction)) → compiled tables (sheet_at p (left - 1)) ≡ o → accepted n ≡ counted_outcome o → (n ≤ most_in_sheet) × Walked tables p (left - 1) (records + n) turned
        go (refused m k) e f = absurd (never (sym f))
        go (accepted is) e f =
            let l : n ≡ length is = let z = f in cc in
            let b = sheet_few tables (sheet_at p (left - 1)) e in (
              omega arith,
              record {
                few = omega (arith, h.few);
                are = rw l (sym (more e));
                short = shorter (sheet_count p) left records n h.few some h.short (omega arith);
                fewer = omega (arith, h.fewer);
              },
            )
          where
            shorter : (c l r n : ℕ) → l ≤ c → 0 < l → r ≤ most_in_sheet * (c - l) → n ≤ most_in_sheet → r + n ≤ most_in_sheet * (c - (l - 1))
            shorter c l r n p q s t = omega arith

    -- it is refused
    pub turns_away : {m k : ℕ} → refused m k ≡ counted_outcome (compiled tables (sheet_at p (left - 1))) → Walked tables p (left - 1) records (turned + 1)
    turns_away {m} {k} = go (compiled tables (sheet_at p (left - 1))) refl
      where
        go : (o : Outcome (List Instruction)) → compiled tables (sheet_at p (left - 1)) ≡ o → refused m k ≡ counted_outcome o → Walked tables p (left - 1) records (turned + 1)
        go (accepted is) e f = absurd (never f)
        go (refused n j) e f =
            record { few = omega (arith, h.few); are = sym (more e); short = omega (arith, h.short); fewer = omega (arith, h.fewer) }

  -- no sheet is left: from the last to the first they are the totals from the first to the last
  pub ends : {left records turned : ℕ} → Walked tables p left records turned → left ≤ 0 → totals records turned ≡ taken tables (totals 0 0) (sheets_of p)
  ends {left} h l =
      let e : left ≡ 0 = omega arith in
      let f : sheet_count p - left ≡ sheet_count p = omega arith in
      h.are ∙ rw (f, e) (any_order tables (totals 0 0) (sheets_of p))

  -- ---- the whole

  pub good_totals : Checks p → {t : Totals} → t ≡ taken tables (totals 0 0) (sheets_of p) → accepted t ≡ pack_totals tables p
  unfolding pack_totals
  good_totals g e = rw (g.is, e)

  pub bad_pack_lem : {r : Refused} → pack_check p ≡ Err r → refused (number_of_refusal r.refusal) r.place ≡ pack_totals tables p
  unfolding pack_totals
  bad_pack_lem e = rw e

  -- and it is refused as a bad pack alone
  pub totals_refused : {n k : ℕ} → pack_totals tables p ≡ refused n k → n ≡ bad_pack
  unfolding pack_totals
  totals_refused {n} {k} e = go (pack_check p) refl e
    where
      go : (x : Checked) → pack_check p ≡ x → checked x (λ u. accepted (taken tables (totals 0 0) (sheets_of p))) ≡ refused n k → n ≡ bad_pack
      go (Ok c) f g = absurd (never (sym g))
      go (Err r) f g = let l : n ≡ number_of_refusal r.refusal = let z = g in cc in l ∙ pack_refused p f
