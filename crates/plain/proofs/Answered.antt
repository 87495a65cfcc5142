-- From the conditions and the lowering's answer to the least number at fault.
use Rattle.std.proofs.Common.{◌≡◌, ℕ, zero, suc, ◌+◌, ◌-◌, ◌<◌, ◌≤◌, Bool, true, false, cond, not, ◌||◌, ◌⊎◌, List, [], ◌∷◌, length, take, sym, refl, ◌∙◌, subst, inl, inr, le_of_suc-le-suc, arith, eq-eqb, ne_eqb, Option, None, Some, Ok, Err}
use Rattle.std.specs.Option.{option_or}
use mathlib.Core.Option.{some}
use Rattle.std.proofs.Math.Bool.{or-true}
use Rattle.cells.specs.Cells.{cell_at}
use Rattle.cells.specs.declared.Cursor.{Cursor}
use Rattle.layout.specs.Layout.{Checked, tables_check, sheet_check, Laid}
use Rattle.layout.specs.declared.Edition.{Edition}
use Rattle.layout.proofs.Laws.{sheet_right, head_labels}
use Rattle.layout.proofs.Refused.{off_by, tables_off, sheet_off}
use Rattle.ir.specs.Function.{Function, Line, tables_of, function_of, body_from}
use Rattle.ir.proofs.Sheet.{lines_length}
use Rattle.x86.specs.declared.enums.Instruction.{Instruction}
use Rattle.codegen.specs.Generation.{Outcome, accepted, refused, generate, checked, compiled}
use Rattle.codegen.proofs.Refusals.{four_to_seven}
use Rattle.machine.specs.Plain.{is_plain_head, is_plain_instr, is_plain_line, is_plain_at, is_refused_at, is_fault, first_fault}
use Rattle.machine.proofs.Accepted.{never}
use Rattle.machine.proofs.Run.{le_or_lt}
use Rattle.machine.proofs.Refused.{refused_at}
use Rattle.machine.proofs.First.{Least, only_least, plain_beyond, first_least}
use Rattle.plain.specs.Answers.{plain_says}
use Rattle.plain.specs.Parts.{are_named, first_of, verdict, Accepts, Refuses}
use Rattle.plain.proofs.Named.{accepted_named, refused_named}

-- ---- the conditions

module _ (F : Function) where
  -- of the first n lines behind `before`, whose first is number k: all are plain, or the first that is not has the number m
  abbrev Lines : List Line → ℕ → List Line → ℕ → Option ℕ → Type 0
  Lines before k is n None = (j : ℕ) → j < n → is_plain_line F before is j ≡ true
  Lines before k is n (Some m) =
      (j : ℕ) × (m ≡ k + j) × (j < n) × (is_plain_line F before is j ≡ false) × ((i : ℕ) → i < j → is_plain_line F before is i ≡ true)

  first_line : (before : List Line) (k : ℕ) (is : List Line) (n : ℕ) → Lines before k is n (first_of F before k (take n is))
  unfolding first_of
  first_line before k is zero = λ j h. absurd (omega arith)
  first_line before k [] (suc n) = λ j h. refl
  first_line before k (i ∷ is) (suc n) =
      go (is_plain_instr F before i.instr) refl (first_of F (i ∷ before) (suc k) (take n is)) (first_line (i ∷ before) (suc k) is n)
    where
      on : (n : ℕ) → is_plain_instr F before i.instr ≡ true → ((j : ℕ) → j < n → is_plain_line F (i ∷ before) is j ≡ true)
          → (j : ℕ) → j < suc n → is_plain_line F before (i ∷ is) j ≡ true
      on n e w zero h = e
      on n e w (suc j) h = w j (le_of_suc-le-suc h)

      go : (b : Bool) → is_plain_instr F before i.instr ≡ b → (r : Option ℕ) → Lines (i ∷ before) (suc k) is n r
          → Lines before k (i ∷ is) (suc n) (cond b r (Some k))
      go true e None w = on n e w
      go true e (Some m) w = (suc w.0, omega (arith, w.1), omega (arith, w.2), w.3, on w.0 e w.4)
      go false e r w = (0, omega arith, omega arith, e, λ i h. absurd (omega arith))

  -- of the numbers up to n
  abbrev Upto : ℕ → Option ℕ → Type 0
  Upto n None = (j : ℕ) → j ≤ n → is_plain_at F j ≡ true
  Upto n (Some m) = (m ≤ n) × (is_plain_at F m ≡ false) × ((j : ℕ) → j < m → is_plain_at F j ≡ true)

  first_upto : (n : ℕ) → Upto n (verdict F n)
  unfolding verdict is_plain_at
  first_upto n = go (is_plain_head F) refl (first_of F [] 1 (take n F.body)) (first_line [] 1 F.body n)
    where
      on : (n : ℕ) → is_plain_head F ≡ true → ((j : ℕ) → j < n → is_plain_line F [] F.body j ≡ true) → (j : ℕ) → j ≤ n → is_plain_at F j ≡ true
      on n e w zero h = e
      on n e w (suc j) h = w j h

      go : (b : Bool) → is_plain_head F ≡ b → (r : Option ℕ) → Lines [] 1 F.body n r → Upto n (cond b r (Some 0))
      go true e None w = on n e w
      go true e (Some m) w =
          let z : m ≡ suc w.0 = omega (arith, w.1) in
          (omega (arith, w.2), rw z w.3, λ j h. on w.0 e w.4 j (omega arith))
      go false e r w = (omega arith, e, λ j h. absurd (omega arith))

-- ---- the layout is right

module _ (t s : List ℕ) where
  -- an answer that is the least number at fault
  least_says : (r : Option ℕ) → Least (is_fault t s) (plain_says r) → plain_says r ≡ first_fault t s
  least_says r h = only_least (is_fault t s) (plain_says r) (first_fault t s) h (first_least t s)

  module _ {c d : Cursor} (a : tables_check t ≡ Ok c) (b : sheet_check s ≡ Ok d) where
    fault_is : (k : ℕ) → is_fault t s k ≡ (not (is_plain_at (function_of s) k) || is_refused_at (generate (tables_of t) (function_of s)) k)
    unfolding is_fault
    fault_is k = rw (a, b)

    body_length : length (function_of s).body ≡ cell_at s 5
    unfolding function_of
    body_length = lines_length s (cell_at s 5) (body_from s)

    few_labels : (function_of s).labels ≤ 256
    unfolding function_of
    few_labels = head_labels s (sheet_right Edition.First s b).head

    -- a condition that is broken
    broken : (k : ℕ) → is_plain_at (function_of s) k ≡ false → is_fault t s k ≡ true
    broken k e = fault_is k ∙ rw e

    module _ (is : List Instruction) (e : generate (tables_of t) (function_of s) ≡ accepted is) where
      kept : (k : ℕ) → is_plain_at (function_of s) k ≡ true → is_fault t s k ≡ false
      kept k p = fault_is k ∙ rw (p, e)

      accepted_least : (r : Option ℕ) → Upto (function_of s) (cell_at s 5) r → Least (is_fault t s) (plain_says r)
      accepted_least None w = λ j. go j (le_or_lt j (cell_at s 5))
        where
          go : (j : ℕ) → (j ≤ cell_at s 5) ⊎ (cell_at s 5 < j) → is_fault t s j ≡ false
          go j (inl h) = kept j (w j h)
          go j (inr h) = kept j (plain_beyond (function_of s) j (omega (arith, body_length)))
      accepted_least (Some m) w = (broken m w.1, λ j h. kept j (w.2 j h))

    module _ (n place : ℕ) (e : generate (tables_of t) (function_of s) ≡ refused n place) where
      there : is_fault t s place ≡ true
      there = fault_is place ∙ rw e (rw (eq-eqb place place refl) (or-true (not (is_plain_at (function_of s) place))))

      kept_before : (k : ℕ) → k < place → is_plain_at (function_of s) k ≡ true → is_fault t s k ≡ false
      kept_before k h p = fault_is k ∙ rw (p, e) (ne_eqb place k (λ q. omega arith))

      -- an instruction at fault before its place, or else its place
      refused_least : 0 < place → (r : Option ℕ) → Upto (function_of s) (place - 1) r → Least (is_fault t s) (plain_says (option_or r (Some place)))
      refused_least p None w = (there, λ j h. kept_before j h (w j (omega arith)))
      refused_least p (Some m) w = (broken m w.1, λ j h. let l = w.0 in kept_before j (omega arith) (w.2 j h))

  -- ---- the lowering's answer

  same_number : {m k n place : ℕ} → ◌≡◌ {A = Outcome (List Instruction)} (refused m k) (refused n place) → m ≡ n
  same_number e = cc

  pub record Right : Type 0 where
    pub tables_end : Cursor
    pub tables_right : tables_check t ≡ Ok tables_end
    pub sheet_end : Cursor
    pub sheet_right : sheet_check s ≡ Ok sheet_end

  -- tables and sheet are on the layout, and the function has the answer, where it is none of refusals 1 to 3
  compiled_right : (o : Outcome (List Instruction)) → compiled t s ≡ o → ((n place : ℕ) → refused n place ≡ o → 4 ≤ n)
      → Right × (generate (tables_of t) (function_of s) ≡ o)
  unfolding compiled
  compiled_right o e h = go (tables_check t) refl (sheet_check s) refl e
    where
      go : (a : Checked) → tables_check t ≡ a → (b : Checked) → sheet_check s ≡ b
          → checked a (λ u. checked b (λ v. generate (tables_of t) (function_of s))) ≡ o → Right × (generate (tables_of t) (function_of s) ≡ o)
      go (Ok c) p (Ok d) q e = (record { tables_end = c; tables_right = p; sheet_end = d; sheet_right = q }, e)
      go (Ok c) p (Err r) q e = let (x, y) = off_by (sheet_off Edition.First s) q in let l = h _ _ e in absurd (omega arith)
      go (Err r) p b q e = let x = off_by (tables_off t) p in let l = h _ _ e in absurd (omega arith)

  -- it is accepted
  accepted_right : (is : List Instruction) → compiled t s ≡ accepted is → Right × (generate (tables_of t) (function_of s) ≡ accepted is)
  accepted_right is e = compiled_right (accepted is) e (λ n place z. absurd (never z))

  -- .. or refused by 4 to 7
  refused_right : (n place : ℕ) → 4 ≤ n → compiled t s ≡ refused n place → Right × (generate (tables_of t) (function_of s) ≡ refused n place)
  refused_right n place h e = compiled_right (refused n place) e (λ m k z. let l : m ≡ n = same_number z in omega arith)

  -- ---- what the functions answer

  pub says_accepted : (is : List Instruction) → compiled t s ≡ accepted is → (r : Option ℕ) → r ≡ verdict (function_of s) (cell_at s 5) → plain_says r ≡ first_fault t s
  says_accepted is e r v =
      let (p, g) = accepted_right is e in
      least_says r (accepted_least p.tables_right p.sheet_right is g r (subst (Upto (function_of s) (cell_at s 5)) (sym v) (first_upto (function_of s) (cell_at s 5))))

  module _ (n place : ℕ) (e : compiled t s ≡ refused n place) where
    -- refusals 1 to 3
    pub says_layout : n < 4 → some 0 ≡ first_fault t s
    unfolding compiled is_fault
    says_layout h = least_says (Some 0) (go (tables_check t) refl (sheet_check s) refl e, λ j h. absurd (omega arith))
      where
        go : (a : Checked) → tables_check t ≡ a → (b : Checked) → sheet_check s ≡ b
            → checked a (λ u. checked b (λ v. generate (tables_of t) (function_of s))) ≡ refused n place → is_fault t s 0 ≡ true
        go (Err r) p b q e = rw p
        go (Ok c) p (Err r) q e = rw (p, q)
        go (Ok c) p (Ok d) q e = let (x, y) = (four_to_seven (tables_of t) (function_of s)).of n place e in absurd (omega arith)

    module _ (h : 4 ≤ n) where
      -- before the body
      pub says_head : place ≡ 0 → some 0 ≡ first_fault t s
      says_head z =
          let (p, g) = refused_right n place h e in
          least_says (Some 0) (rw z at (there p.tables_right p.sheet_right n place g), λ j l. absurd (omega arith))

      pub says_body : 0 < place → (r : Option ℕ) → r ≡ verdict (function_of s) (place - 1) → plain_says (option_or r (Some place)) ≡ first_fault t s
      says_body l r v =
          let (p, g) = refused_right n place h e in
          least_says (option_or r (Some place))
          (refused_least p.tables_right p.sheet_right n place g l r (subst (Upto (function_of s) (place - 1)) (sym v) (first_upto (function_of s) (place - 1))))

-- ---- what they ask

module _ {s : List ℕ} where
  pub accepts_laid : Accepts s → Laid s
  accepts_laid x = let (p, g) = accepted_right x.tables s x.list x.is in record { end = p.sheet_end; is = p.sheet_right }

  pub accepts_named : Accepts s → are_named (take (cell_at s 5) (function_of s).body) ≡ true
  accepts_named x =
      let (p, g) = accepted_right x.tables s x.list x.is in
      accepted_named (tables_of x.tables) (function_of s) (few_labels x.tables s p.tables_right p.sheet_right) x.list g (cell_at s 5)

  module _ {n place : ℕ} (x : Refuses s n place) (h : 4 ≤ n) where
    pub refuses_laid : Laid s
    refuses_laid = let (p, g) = refused_right x.tables s n place h x.is in record { end = p.sheet_end; is = p.sheet_right }

    pub refuses_within : place ≤ cell_at s 5
    refuses_within =
        let (p, g) = refused_right x.tables s n place h x.is in
        omega (arith, (refused_at (tables_of x.tables) (function_of s) n place g).within, body_length x.tables s p.tables_right p.sheet_right)

    pub refuses_named : are_named (take (place - 1) (function_of s).body) ≡ true
    refuses_named =
        let (p, g) = refused_right x.tables s n place h x.is in
        refused_named (tables_of x.tables) (function_of s) (few_labels x.tables s p.tables_right p.sheet_right) n place g
