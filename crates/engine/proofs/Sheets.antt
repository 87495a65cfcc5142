-- From a look-up in a pack to the numbers that C gets, and from the lowering of a part to that of a sheet in its pack.
use Prim.Native.Nat.{ℕ, ◌*◌, ◌≤◌, ◌<◌}
use mathlib.Core.Path.{◌≡◌, refl, sym, ap, ◌∙◌}
use mathlib.Core.Bool.{Bool, true, false, cond}
use mathlib.Core.List.{List}
use mathlib.Core.Logic.{◌⊎◌, inl, inr, ⊎_elim}
use native.Mathlib.Omega.{arith}
use lib.Dec.{ltb}
use lib.ListN.{length, take, drop}
use Rattle.cells.specs.Refusals.{no_entry, bad_pack}
use Rattle.cells.specs.Outcomes.{number_of, place_of}
use Rattle.std.specs.Prelude.{Ok, Err}
use Rattle.layout.specs.Layout.{Checked}
use Rattle.x86.specs.declared.enums.Instruction.{Instruction}
use Rattle.codegen.specs.Generation.{Outcome, accepted, refused, checked, lowered, records_after}
use Rattle.machine.specs.Plain.{Plain}
use Rattle.machine.specs.Calls.{Demand2}
use Rattle.machine.specs.Simulation.{Demand3}
use Rattle.pack.specs.declared.Pair.{Pair}
use Rattle.pack.specs.Pack.{pack_check, sheet_count, part_at, sheet_at, find_pair, look_up, part_of, start_of, size_of, lowered_in}
use Rattle.pack.proofs.LookUps.{looked_up}
use Rattle.pack.proofs.Refusals.{look_up_refused}
use Rattle.engine.specs.Numbers.{IsNumber, IsLookUpNumber, IsPackNumber}

-- what an exported lowering states: number, place and record bytes by its answer, what is lent, and the demands of its sheet
abbrev Lowers : List ℕ → List ℕ → List ℕ → ℕ → ℕ → Outcome (List Instruction) → Type 0 → List ℕ → List ℕ → Type 0
Lowers tables old new r place o known sheet held =
    (r ≡ number_of o) × (known × ((place ≡ place_of length o) × ((new ≡ records_after o old) × (((tables ≡ tables) × (held ≡ held))
    × (((r ≡ 0) → Demand2 tables sheet new place) × ((r ≡ 0) → Plain tables sheet → Demand3 tables sheet new place))))))

-- ---- where a sheet stands

module _ (p : List ℕ) (k : ℕ) where
  -- what C gets: number, place, first byte and bytes, and what they mean
  abbrev pub Finds : ℕ → ℕ → ℕ → ℕ → Type 0
  Finds r place from size =
      (r ≡ number_of (find_pair p k)) × (IsLookUpNumber r × ((place ≡ place_of (λ pair. 0) (find_pair p k)) × ((from ≡ start_of (find_pair p k)) × ((size ≡ size_of (find_pair p k))
      × (((r ≡ 0) → look_up p k ≡ accepted (take size (drop from p))) × (p ≡ p))))))

  pub sheet_found : {pair : Pair} → accepted pair ≡ find_pair p k → Finds 0 0 (pair.offset * 8) (pair.length * 8)
  unfolding look_up part_at
  sheet_found e = rw (← e) (refl, (inl refl, (refl, (refl, (refl, (λ z. refl, refl))))))

  pub sheet_refused : {n j : ℕ} → refused n j ≡ find_pair p k → Finds n j 0 0
  unfolding look_up
  sheet_refused {n} {j} e =
      let a : look_up p k ≡ refused n j = rw (← e) refl in
      let h : (n ≡ no_entry) ⊎ (n ≡ bad_pack) = look_up_refused p k a in
      rw (← e) (refl, (inr h, (refl, (refl, (refl, (λ z. absurd (⊎_elim (λ (q : n ≡ no_entry). omega arith) (λ (q : n ≡ bad_pack). omega arith) h), refl))))))

  -- ---- the lowering of a sheet in its pack

  -- a part that was found is the sheet
  pub part_found : {refusal : ℕ} → refusal ≡ number_of (look_up p k) → refusal ≤ 0 → look_up p k ≡ accepted (sheet_at p k)
  part_found {refusal} r l = go (look_up p k) refl r
    where
      is_sheet : (x : Checked) (b : Bool) {s : List ℕ} → checked x (λ u. cond b (accepted (sheet_at p k)) (refused no_entry 0)) ≡ accepted s → accepted s ≡ accepted (sheet_at p k)
      is_sheet (Ok d) true e = sym e
      is_sheet (Ok d) false e = let z : ◌≡◌ {A = ℕ} 0 1 = cc in absurd (omega arith)
      is_sheet (Err r) b e = let z : ◌≡◌ {A = ℕ} 0 1 = cc in absurd (omega arith)

      go : (o : Outcome (List ℕ)) → look_up p k ≡ o → refusal ≡ number_of o → look_up p k ≡ accepted (sheet_at p k)
      go (accepted s) e f = e ∙ is_sheet (pack_check p) (ltb k (sheet_count p)) (sym (looked_up p k) ∙ e)
      go (refused n j) e f = absurd (⊎_elim (λ (q : n ≡ no_entry). omega arith) (λ (q : n ≡ bad_pack). omega arith) (look_up_refused p k e))

  module _ (tables : List ℕ) (m : ℕ) where
    pub in_its_pack : look_up p k ≡ accepted (sheet_at p k) → lowered tables (sheet_at p k) m ≡ lowered_in tables p k m
    unfolding lowered_in
    in_its_pack e = rw e refl

    -- a look-up that is refused
    pub turned_away : (old : List ℕ) (refusal place : ℕ) → refusal ≡ number_of (look_up p k) → place ≡ place_of (λ s. 0) (look_up p k) → 0 < refusal →
        Lowers tables old old refusal place (lowered_in tables p k m) (IsPackNumber refusal) (sheet_at p k) p
    unfolding lowered_in records_after
    turned_away old refusal place r s l = go (look_up p k) refl r s
      where
        go : (o : Outcome (List ℕ)) → look_up p k ≡ o → refusal ≡ number_of o → place ≡ place_of (λ s. 0) o → Lowers tables old old refusal place (lowered_in tables p k m) (IsPackNumber refusal) (sheet_at p k) p
        go (accepted a) e f g = absurd (omega arith)
        go (refused n j) e f g =
            let h : IsPackNumber refusal =
            ⊎_elim (λ (q : n ≡ no_entry). inl (omega arith, λ z. omega arith)) (λ (q : n ≡ bad_pack). inr (f ∙ q)) (look_up_refused p k e) in
            rw e (f, (h, (g, (refl, ((refl, refl), (λ z. absurd (omega arith), λ z. absurd (omega arith)))))))

    -- a look-up that finds a part: what is said of the part is said of the sheet
    pub lowered_there : (old new : List ℕ) (r place : ℕ) {found : List ℕ} {refusal : ℕ} → refusal ≡ number_of (look_up p k) → refusal ≤ 0 → found ≡ part_of (look_up p k) →
        Lowers tables old new r place (lowered tables found m) (IsNumber r) found found → Lowers tables old new r place (lowered_in tables p k m) (IsPackNumber r) (sheet_at p k) p
    lowered_there old new r place {found} q l g h =
        let e = part_found q l in
        let f : found ≡ sheet_at p k = g ∙ ap part_of e in
        let i = in_its_pack e in
        let w : Lowers tables old new r place (lowered tables (sheet_at p k) m) (IsNumber r) (sheet_at p k) (sheet_at p k) = rw f at h in (
          w.0 ∙ ap number_of i,
          (
            inl w.1.0,
            (
              w.1.1.0 ∙ ap (place_of length) i,
              (
                w.1.1.1.0 ∙ ap (λ (o : Outcome (List Instruction)). records_after o old) i,
                ((refl, refl), (w.1.1.1.1.1.0, w.1.1.1.1.1.1)),
              ),
            ),
          ),
        )
