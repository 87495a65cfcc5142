-- The first instruction at fault: those that have been tested are plain.
use Rattle.std.proofs.Common.{◌≡◌, ℕ, zero, suc, ◌+◌, ◌-◌, ◌<◌, ◌≤◌, true, false, ltb, List, [], ◌∷◌, replicate, take, refl, ap, Option, None, Some, le_of_suc-le-suc, add-one, arith, ltb-true}
use Rattle.cells.specs.Cells.{cell_at}
use Rattle.cells.proofs.Turns.{Turns, goes_on, stops, ends}
use Rattle.ir.specs.Function.{Line, instr_at, line_at, lines_at, behind, body_from, function_of}
use Rattle.machine.specs.Plain.{every, is_plain_instr}
use Rattle.machine.proofs.Tests.{both}
use Rattle.layout.specs.Layout.{Laid}
use Rattle.plain.specs.Parts.{label_of, are_named, one_more, first_of}
use Rattle.plain.proofs.Counting.{Walked, none_walked, one_walked}

named_more : (i : Line) (is : List Line) → are_named (i ∷ is) ≡ true → (label_of i.instr < 256) × (are_named is ≡ true)
unfolding are_named every
named_more i is h =
    let p = both (ltb (label_of i.instr) 256) _ h in
    (ltb-true _ _ p.0, p.1)

-- the first lines of a body
lines_take : (s : List ℕ) (n m k : ℕ) → n ≤ m → take n (lines_at s m k) ≡ lines_at s n k
unfolding lines_at
lines_take s zero m k h = refl
lines_take s (suc n) zero k h = absurd (omega arith)
lines_take s (suc n) (suc m) k h = ap (λ (is : List Line). line_at s k ∷ is) (lines_take s n m (behind s k) (le_of_suc-le-suc h))

-- the first fault among n lines from a cell on, behind others, of which there are k - 1
abbrev pub faults : List ℕ → ℕ → List Line × ℕ × ℕ → Option ℕ
faults s n (before, k, cell) = first_of (function_of s) before k (lines_at s n cell)

-- of n instructions i have been tested
pub record Testing (s : List ℕ) (n i cell : ℕ) (counts : List ℕ) : Type 0 where
  pub before : List Line
  pub walked : Walked s i cell before counts
  pub named : are_named (lines_at s (n - i) cell) ≡ true
  pub turns : Turns (faults s) (first_of (function_of s) [] 1 (take n (function_of s).body)) n i (before, i + 1, cell)

module _ {s : List ℕ} {n : ℕ} where
  pub none_tested : Laid s → n ≤ cell_at s 5 → are_named (take n (function_of s).body) ≡ true → Testing s n 0 (body_from s) (replicate 256 0)
  unfolding function_of
  none_tested r few h =
      let e = lines_take s n (cell_at s 5) (body_from s) few in
      let z : n ≡ n - 0 = omega arith in
      record {
        before = [];
        walked = none_walked r;
        named = rw (e, z) at h;
        turns = record { is = rw (e, ← z) };
      }

  module _ {i cell : ℕ} {counts : List ℕ} (g : Testing s n i cell counts) (h : i < n) where
    parts : (label_of (instr_at s cell) < 256) × (are_named (lines_at s (n - (i + 1)) (behind s cell)) ≡ true)
    unfolding lines_at
    parts =
        let l : n - i ≡ suc (n - (i + 1)) = omega arith in
        named_more (line_at s cell) _ (rw l at g.named)

    pub label_small : label_of (instr_at s cell) < 256
    label_small = parts.0

    pub one_tested : n ≤ cell_at s 5 → is_plain_instr (function_of s) g.before (instr_at s cell) ≡ true
        → Testing s n (i + 1) (behind s cell) (one_more (instr_at s cell) counts)
    unfolding first_of lines_at
    one_tested few e =
        record {
          before = line_at s cell ∷ g.before;
          walked = one_walked g.walked (omega arith);
          named = parts.1;
          turns = goes_on _ _ g.turns _ h (rw (e, add-one (i + 1)));
        }

    pub fault_found : is_plain_instr (function_of s) g.before (instr_at s cell) ≡ false
        → Some (i + 1) ≡ first_of (function_of s) [] 1 (take n (function_of s).body)
    unfolding first_of lines_at
    fault_found e = stops _ _ g.turns h (rw e)

  pub all_tested : {i cell : ℕ} {counts : List ℕ} → Testing s n i cell counts → n ≤ i
      → None ≡ first_of (function_of s) [] 1 (take n (function_of s).body)
  unfolding first_of lines_at
  all_tested g h = ends _ _ g.turns h refl
