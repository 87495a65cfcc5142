-- How often each label stands: what has been counted and what is left are the whole.
use Rattle.std.proofs.Common.{◌≡◌, ℕ, suc, ◌+◌, ◌-◌, ◌<◌, ◌≤◌, cond, List, [], ◌∷◌, length, get_or, replicate, refl, ◌∙◌, arith, length-set, get_or-set_other, get_or-set_same}
use Rattle.std.proofs.lemmas.Bool.Decides.{nat_tests}
use lib.ListN.{length-replicate, get_or-replicate}
use Rattle.ir.specs.declared.Instr.{Instr}
use Rattle.cells.specs.Cells.{cells, cell_at}
use Rattle.ir.specs.Function.{Line, instr_at, line_at, lines_at, behind, body_from, function_of}
use Rattle.machine.specs.Steps.{is_label}
use Rattle.machine.specs.Plain.{label_count}
use Rattle.layout.specs.Layout.{Laid}
use Rattle.plain.specs.Parts.{Counts, Few, one_more}
use Rattle.layout.proofs.Walk.{Walk, has_few, walk_from, walk_here, walk_next}

-- ---- one instruction

module _ (counts : List ℕ) (long : length counts ≡ 256) (l : ℕ) (small : l < 256) where
  more : (i : Instr) → get_or (one_more i counts) l 0 ≡ get_or counts l 0 + cond (is_label l i) 1 0
  more (Instr.Label k) = grind (arith, nat_tests, get_or-set_other {A = ℕ}, get_or-set_same {A = ℕ})
  more _ = omega arith

more_long : (i : Instr) (counts : List ℕ) → length (one_more i counts) ≡ length counts
more_long (Instr.Label k) counts = grind (arith, length-set {A = ℕ})
more_long _ counts = refl

-- no line at all
pub none_counted_yet : Counts [] (replicate 256 0)
unfolding label_count
none_counted_yet = record { long = length-replicate {A = ℕ} 256 0; each = λ l h. get_or-replicate {A = ℕ} 256 l 0 0 h }

-- ---- the body

label_few : (l : ℕ) (is : List Line) → label_count l is ≤ length is
unfolding label_count
label_few l [] = omega arith
label_few l (i ∷ is) = grind (arith, label_few l is)

label_step : (l : ℕ) (i : Line) (is : List Line) → label_count l (i ∷ is) ≡ cond (is_label l i.instr) 1 0 + label_count l is
unfolding label_count
label_step l i is = grind arith

-- behind one more line
pub one_more_lem : {lines : List Line} {counts : List ℕ} → Counts lines counts → (i : Line) → Counts (i ∷ lines) (one_more i.instr counts)
one_more_lem {lines} {counts} m i =
    record {
      long = more_long i.instr counts ∙ m.long;
      each = λ l h. omega (arith, more counts m.long l h i.instr, m.each l h, label_step l i lines);
    }

-- lines that are few leave room for more
pub few_lines : {lines : List Line} {counts : List ℕ} → Counts lines counts → length lines ≤ 4096 → Few counts
few_lines {lines} m h = record { each = λ l p. omega (arith, m.each l p, label_few l lines) }

-- ---- behind i instructions of the body, which are the lines `before`; the next begins at this cell

pub record Walked (s : List ℕ) (i cell : ℕ) (before : List Line) (counts : List ℕ) : Type 0 where
  pub counted : Counts before counts
  pub passed : length before ≡ i
  pub walk : Walk s (cell_at s 5 - i) cell

pub none_walked : {s : List ℕ} → Laid s → Walked s 0 (body_from s) [] (replicate 256 0)
none_walked {s} r =
    let l : cell_at s 5 ≡ cell_at s 5 - 0 = omega arith in
    record { counted = none_counted_yet; passed = refl; walk = rw l at (walk_from r) }

module _ {s : List ℕ} {i cell : ℕ} {before : List Line} {counts : List ℕ} (w : Walked s i cell before counts) (h : i < cell_at s 5) where
  pub line_there : (cell + 13 ≤ cells s) × (behind s cell ≤ cells s)
  line_there = walk_here (cell_at s 5 - i) cell w.walk (omega arith)

  pub room_left : Laid s → Few counts
  room_left r = few_lines w.counted (omega (arith, w.passed, has_few r))

  pub one_walked : Walked s (i + 1) (behind s cell) (line_at s cell ∷ before) (one_more (instr_at s cell) counts)
  one_walked =
      let l : cell_at s 5 - i - 1 ≡ cell_at s 5 - (i + 1) = omega arith in
      record {
        counted = one_more_lem w.counted (line_at s cell);
        passed = omega (arith, w.passed);
        walk = rw l at (walk_next (cell_at s 5 - i) cell w.walk (omega arith));
      }

-- ---- what has been counted, and what is left

pub record Counting (s : List ℕ) (i cell : ℕ) (counts : List ℕ) : Type 0 where
  pub before : List Line
  pub walked : Walked s i cell before counts
  pub each : (l : ℕ) → label_count l before + label_count l (lines_at s (cell_at s 5 - i) cell) ≡ label_count l (function_of s).body

pub none_counted : {s : List ℕ} → Laid s → Counting s 0 (body_from s) (replicate 256 0)
unfolding label_count function_of
none_counted {s} r =
    let l : cell_at s 5 - 0 ≡ cell_at s 5 = omega arith in
    record { before = []; walked = none_walked r; each = λ k. rw l (omega arith) }

module _ {s : List ℕ} {i cell : ℕ} {counts : List ℕ} (g : Counting s i cell counts) where
  pub one_counted : i < cell_at s 5 → Counting s (i + 1) (behind s cell) (one_more (instr_at s cell) counts)
  unfolding lines_at
  one_counted h =
      let n = cell_at s 5 - (i + 1) in
      let l : cell_at s 5 - i ≡ suc n = omega arith in
      record {
        before = line_at s cell ∷ g.before;
        walked = one_walked g.walked h;
        each = λ k.
            let e = rw l at (g.each k) in
            omega (arith, e, label_step k (line_at s cell) g.before, label_step k (line_at s cell) (lines_at s n (behind s cell)));
      }

  pub all_counted : cell_at s 5 ≤ i → Counts (function_of s).body counts
  unfolding label_count lines_at
  all_counted h =
      let z : cell_at s 5 - i ≡ 0 = omega arith in
      record { long = g.walked.counted.long; each = λ k p. let e = rw z at (g.each k) in omega (arith, e, g.walked.counted.each k p) }
