-- Parts that are written one behind the other, and what a walk over a sheet has of it.
use Rattle.std.proofs.Common.{◌≡◌, ℕ, zero, suc, ◌+◌, ◌-◌, ◌*◌, ◌≤◌, List, [], ◌∷◌, ◌++◌, length, take, drop, arith, refl, sym, ap, ◌∙◌, append_assoc, append-nil, length-append, length-take, length-drop}
use Rattle.std.proofs.lemmas.Slice.{take-put_mid}
use Rattle.std.proofs.Math.Seq.{take_at}
use Rattle.std.proofs.lemmas.List.{take_all}
use borrow.Rule.Slice.PartMut.{put_mid}
use Rattle.cells.specs.Cells.{cells, cell_at, cells_from, cell_bytes, Bytes}
use Rattle.cells.proofs.Lists.{bytes_length, bytes_append, from_length, from_bytes}
use Rattle.ir.specs.Function.{behind}
use Rattle.layout.specs.declared.Edition.{Edition}
use Rattle.layout.specs.Layout.{cursor, body_start, LaidIn}
use Rattle.layout.proofs.Laws.{instr_right, instrs_more}
use Rattle.layout.proofs.Walk.{WalkIn, walk_from}
use Rattle.edition.specs.Walked.{Entered, Present}
use Rattle.edition.proofs.Lines.{instr_length, behind_is_so}
use Rattle.edition.proofs.Parts.{Agree, has_entry}
use Rattle.edition.proofs.Turns.{entered_parts, operand_ids_on, operands_on, operands_off, param_ids_on, params_on, params_off, instr_ids_on, instrs_on, instrs_off, present_on}

-- ---- bytes

-- cells that are copied
pub copied : (s : List ℕ) (k n : ℕ) → Bytes s → k + n ≤ cells s → take (8 * (k + n) - 8 * k) (drop (8 * k) s) ≡ cell_bytes (cells_from s k n)
copied s k n b h =
    let xs = cell_bytes (cells_from s k n) in
    let a : 8 * k ≡ k * 8 = omega arith in
    let w : length xs ≡ 8 * (k + n) - k * 8 = omega (arith, bytes_length (cells_from s k n), from_length s n k) in
    rw (a, ← from_bytes s b n k (omega arith)) (take_at xs (drop ((k + n) * 8) s) (8 * (k + n) - k * 8) w)

-- a cell in front
pub behind_cell : (x : ℕ) (xs : List ℕ) → cell_bytes (x ∷ []) ++ cell_bytes xs ≡ cell_bytes (x ∷ xs)
behind_cell x xs = sym (bytes_append (x ∷ []) xs)

-- ---- n parts of a sheet s, from cell k on, are written into `out`: i of them are done, in its first `at` bytes, and the next one begins at cell `from`

module _ (s : List ℕ) (ids list : ℕ → ℕ → List ℕ) where
  pub record Writing (n k i from at : ℕ) (out : List ℕ) : Type 0 where
    pub is : take at out ++ cell_bytes (list (n - i) from) ≡ cell_bytes (list n k)
    pub room : at + 8 * length (list (n - i) from) ≡ length out
    pub entered : Entered s (ids (n - i) from)

  module _ {n k i from at : ℕ} {out : List ℕ} (h : Writing n k i from at out) where
    module _ (here : List ℕ) (next : ℕ) (ids_on : ids (n - i) from ≡ here ++ ids (n - (i + 1)) next) where
      behind_here : Entered s here × Entered s (ids (n - (i + 1)) next)
      behind_here = entered_parts s here (ids (n - (i + 1)) next) (rw ids_on at h.entered)

      -- the ids of the next part have entries
      pub first : Entered s here
      first = behind_here.0

      module _ (part : List ℕ) (list_on : list (n - i) from ≡ part ++ list (n - (i + 1)) next) where
        pub goes_on : (to end : ℕ) (new : List ℕ) → to ≡ next → end ≡ at + 8 * length part → new ≡ cell_bytes part → Writing n k (i + 1) to end (put_mid at (end - at) out new)
        goes_on to end new t b p =
            let more = list (n - (i + 1)) next in
            let l = ap length list_on ∙ length-append part more in
            let w : length new ≡ 8 * length part = ap length p ∙ bytes_length part in
            rw t (record {
              is =
                  rw (take-put_mid at (end - at) out new end (omega arith) (omega (arith, h.room)), p) (append_assoc (take at out) (cell_bytes part) (cell_bytes more)
                  ∙ ap (λ (xs : List ℕ). take at out ++ xs) (sym (bytes_append part more) ∙ ap cell_bytes (sym list_on)) ∙ h.is);
              room = simp (length-append, length-take, length-drop) (omega (arith, h.room));
              entered = behind_here.1;
            })

    pub ends : list (n - i) from ≡ [] → out ≡ cell_bytes (list n k)
    unfolding cell_bytes
    ends e =
        let l = ap length e in
        sym (take_all at out (omega (arith, h.room))) ∙ sym (append-nil (take at out)) ∙ ap (λ (xs : List ℕ). take at out ++ cell_bytes xs) (sym e) ∙ h.is

-- ---- ids that have entries, and instructions that are there

pub entered_all : (e : Edition) (s ks : List ℕ) → Agree e s ks → Entered s ks
entered_all e s [] h = tt
entered_all e s (k ∷ ks) h = (has_entry e s k h.0, entered_all e s ks h.1)

walk_present : {e : Edition} {s : List ℕ} (n k : ℕ) → WalkIn e s n k → Present s n k
unfolding Present
walk_present zero k w = tt
walk_present {e} {s} (suc n) k w =
    let p = instrs_more e s n (cursor k) w.is in
    ((instr_right e s (cursor k) p.0).within, walk_present n (behind s k) (record { end = w.end; is = p.1 }))

-- all instructions of a sheet are there
pub laid_present : {e : Edition} {s : List ℕ} → LaidIn e s → Present s (cell_at s 5) (body_start e s)
laid_present {e} {s} laid = walk_present (cell_at s 5) (body_start e s) (walk_from laid)

pub ruleset instr_written = (bytes_append, entered_parts)

pub ruleset instrs_there = (present_on, behind_is_so, instrs_on, instr_length, length-append)
