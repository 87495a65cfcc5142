-- Instructions, carried from a sheet s of edition e into a sheet t of edition f.
use Prim.Native.Nat.{ℕ, zero, suc, ◌+◌, ◌*◌, ◌<◌}
use mathlib.Core.Path.{◌≡◌, refl, ap, ap₂, ◌∙◌}
use mathlib.Core.Bool.{Bool, true, false, cond}
use mathlib.Core.List.{List, ◌++◌}
use native.Mathlib.Omega.{arith}
use borrow.Author.Tests.{eqb-true}
use lib.Dec.{eqb}
use lib.ListN.{length, length-append}
use Rattle.cells.specs.Cells.{cells, cell_at, cells_from}
use Rattle.cells.specs.declared.Cursor.{Cursor}
use Rattle.std.specs.Prelude.{Ok, Err}
use Rattle.cells.specs.declared.refusals.Refusal.{Refusal}
use Rattle.ir.specs.Function.{arguments_at, behind}
use Rattle.layout.specs.declared.Edition.{Edition}
use Rattle.layout.specs.Layout.{refuse, bind_checked, bind_limited, cursor, operation_most, has_dest, has_left, dest_in, side_in, call_check, operands_in, body_in, instr_in, instrs_in}
use Rattle.layout.proofs.Passed.{Held, place, word_passed, within_passed, passed_at}
use Rattle.layout.proofs.Laws.{dest_right, side_right, call_right, instrs_more}
use Rattle.edition.specs.Editions.{id_if, side_id, operand_ids, instr_ids, instrs_ids, dest_cells, side_cells, operands_cells, instr_cells, instrs_cells}
use Rattle.cells.proofs.Lists.{Holds, holds_append, holds_join, holds_is, holds_from, from_there, from_length, from_split}
use Rattle.edition.proofs.Moves.{behind_is, held_moves, within_goes, call_moves}
use Rattle.edition.proofs.Parts.{Agree, agree_append, agree_both, dest_length, side_length, operands_length, Heads, Carried, dest_carried, side_carried, operands_carried}

-- ---- how many cells instructions have, and where they end

pub behind_is_so : (s : List ℕ) (k : ℕ) → behind s k ≡ k + 13 + 4 * arguments_at s k
unfolding behind
behind_is_so s k = refl

module _ (f : Edition) (s : List ℕ) where
  pub instr_length : (k : ℕ) → length (instr_cells f s k) ≡ 13 + 4 * arguments_at s k
  unfolding instr_cells
  instr_length k =
      let D = dest_cells f s (has_dest (cell_at s k) (cell_at s (k + 1))) (k + 2) in
      let L = side_cells f s (has_left (cell_at s k)) (k + 5) in
      let R = side_cells f s (eqb (cell_at s k) 2) (k + 9) in
      let A = operands_cells f s (arguments_at s k) (k + 13) in
      length-append (cells_from s k 2) (D ++ (L ++ (R ++ A)))
      ∙ omega (
        arith,
        from_length s 2 k,
        length-append D (L ++ (R ++ A)),
        length-append L (R ++ A),
        length-append R A,
        dest_length f s (has_dest (cell_at s k) (cell_at s (k + 1))) (k + 2),
        side_length f s (has_left (cell_at s k)) (k + 5),
        side_length f s (eqb (cell_at s k) 2) (k + 9),
        operands_length f s (arguments_at s k) (k + 13),
      )

  instrs_length : (n k : ℕ) → length (instrs_cells f s (suc n) k) ≡ (13 + 4 * arguments_at s k) + length (instrs_cells f s n (behind s k))
  unfolding instrs_cells
  instrs_length n k = length-append (instr_cells f s k) (instrs_cells f s n (behind s k)) ∙ omega (arith, instr_length k)

  pub instrs_end : (e : Edition) (n k : ℕ) {d : Cursor} → instrs_in e s n (cursor k) ≡ Ok d → d.at ≡ k + length (instrs_cells f s n k)
  unfolding instrs_in instrs_cells
  instrs_end e zero k c = place c ∙ omega arith
  instrs_end e (suc n) k c =
      let p = instrs_more e s n (cursor k) c in
      let b = behind_is_so s k in
      omega (arith, instrs_end e n (behind s k) p.1, instrs_length n k)

-- ---- the ids of an instruction

pub agree_instr : (e : Edition) (s : List ℕ) (k : ℕ) → Agree e s (instr_ids s k) →
    Agree e s (id_if (has_dest (cell_at s k) (cell_at s (k + 1))) (k + 2)) × Agree e s (side_id s (has_left (cell_at s k)) (k + 5))
    × Agree e s (side_id s (eqb (cell_at s k) 2) (k + 9)) × Agree e s (operand_ids s (arguments_at s k) (k + 13))
unfolding instr_ids
agree_instr e s k a =
    let L = side_id s (has_left (cell_at s k)) (k + 5) in
    let R = side_id s (eqb (cell_at s k) 2) (k + 9) in
    let A = operand_ids s (arguments_at s k) (k + 13) in
    let u = agree_append e s (id_if (has_dest (cell_at s k) (cell_at s (k + 1))) (k + 2)) (L ++ (R ++ A)) a in
    let v = agree_append e s L (R ++ A) u.1 in
    let w = agree_append e s R A v.1 in
    (u.0, v.0, w.0, w.1)

-- ---- an instruction that is right: kind, operation, dest and what is behind it

record Parted (e : Edition) (s : List ℕ) (k : ℕ) (d : Cursor) : Type 0 where
  kind : Held s k 0 10
  operation : Held s (k + 1) 0 (operation_most (cell_at s k))
  dest : dest_in e s (has_dest (cell_at s k) (cell_at s (k + 1))) (cursor (k + 2)) ≡ Ok (cursor (k + 5))
  body : body_in e s (cell_at s k) (cursor (k + 5)) ≡ Ok d

parted : (e : Edition) (s : List ℕ) (k : ℕ) {d : Cursor} → instr_in e s (cursor k) ≡ Ok d → Parted e s k d
unfolding instr_in
parted e s k c =
    let n = cell_at s k in
    let has = has_dest n (cell_at s (k + 1)) in
    let p = within_passed Refusal.TornSheet s (cursor k) 0 10 _ c in
    let q = within_passed Refusal.TornSheet s (cursor (k + 1)) 0 (operation_most n) _ p.1 in
    let two : k + 1 + 1 ≡ k + 2 = omega arith in
    let r = passed_at (dest_in e s has (cursor (k + 2))) (λ c3. body_in e s n c3) (k + 5)
    (λ m h. let z = dest_right e s has (cursor (k + 2)) h in omega arith) (rw two at q.1) in
    record { kind = p.0; operation = q.0; dest = r.0; body = r.1 }

module _ {s t : List ℕ} (heads : Heads s t) (e f : Edition) where
  -- ---- left, right and arguments of an instruction of kind n that has so many arguments

  record Sided (n args k j : ℕ) : Type 0 where
    check : body_in f t n (cursor (j + 5)) ≡ Ok (cursor (j + 13 + 4 * args))
    left : side_cells e t (has_left n) (j + 5) ≡ cells_from s (k + 5) 4
    lefts : Agree f t (side_id t (has_left n) (j + 5))
    right : side_cells e t (eqb n 2) (j + 9) ≡ cells_from s (k + 9) 4
    rights : Agree f t (side_id t (eqb n 2) (j + 9))
    rest : operands_cells e t args (j + 13) ≡ cells_from s (k + 13) (4 * args)
    rests : Agree f t (operand_ids t args (j + 13))

  sides_carried : (n k j : ℕ) {d : Cursor} → eqb n 5 ≡ false →
      bind_checked Err (side_in e s (has_left n) (cursor (k + 5))) (λ c1. side_in e s (eqb n 2) c1) ≡ Ok d →
      Agree e s (side_id s (has_left n) (k + 5)) → Agree e s (side_id s (eqb n 2) (k + 9)) →
      Holds t (j + 5) (side_cells f s (has_left n) (k + 5)) → Holds t (j + 9) (side_cells f s (eqb n 2) (k + 9)) → Sided n 0 k j
  unfolding body_in operands_cells operand_ids cells_from
  sides_carried n k j call c a b g h =
      let p = passed_at (side_in e s (has_left n) (cursor (k + 5))) _ (k + 9)
      (λ m q. let z = side_right e s (has_left n) (cursor (k + 5)) q in omega arith) c in
      let l = side_carried heads e f (has_left n) (k + 5) (j + 5) p.0 a g in
      let r = side_carried heads e f (eqb n 2) (k + 9) (j + 9) p.1 b h in
      let nine : j + 5 + 4 ≡ j + 9 = omega arith in
      let end : j + 9 + 4 ≡ j + 13 + 4 * 0 = omega arith in
      record {
        check = rw (call, l.right ∙ behind_is nine) (r.right ∙ behind_is end);
        left = l.again;
        lefts = l.entries;
        right = r.again;
        rights = r.entries;
        rest = refl;
        rests = tt;
      }

  call_carried : (k j : ℕ) {d : Cursor} → bind_limited Err (call_check s (cursor (k + 5))) (λ count c1. operands_in e s count c1) ≡ Ok d →
      Agree e s (operand_ids s (cell_at s (k + 6)) (k + 13)) → Holds t (j + 5) (cells_from s (k + 5) 4) → Holds t (j + 9) (cells_from s (k + 9) 4) →
      Holds t (j + 13) (operands_cells f s (cell_at s (k + 6)) (k + 13)) → Sided 5 (cell_at s (k + 6)) k j
  unfolding body_in cells_from
  call_carried k j {d} c a g h i =
      let w = word_passed (call_check s (cursor (k + 5))) _ c in
      let q = call_right s k w.2 in
      let from : w.1 ≡ cursor (k + 13) = ap cursor q.3 in
      let args : operands_in e s (cell_at s (k + 6)) (cursor (k + 13)) ≡ Ok d = rw (← q.2, ← from) w.3 in
      let o = operands_carried heads e f (cell_at s (k + 6)) (k + 13) (j + 13) args a i in
      let nine : j + 5 + 4 ≡ j + 9 = omega arith in
      let v = holds_join t (j + 5) (cells_from s (k + 5) 4) (cells_from s (k + 9) 4) g (holds_from t (cells_from s (k + 9) 4) (omega (arith, from_length s 4 (k + 5))) h) in
      let own = call_moves s t (k + 5) (j + 5) w.2 (holds_is t (j + 5) (from_split s 4 4 (k + 5) (k + 9) 8 (omega arith) refl) v) in
      let six : k + 5 + 1 ≡ k + 6 = omega arith in
      let thirteen : j + 5 + 8 ≡ j + 13 = omega arith in
      record {
        check = rw (own, six, thirteen) o.right;
        left = from_there t (j + 5) (cells_from s (k + 5) 4) g;
        lefts = tt;
        right = from_there t (j + 9) (cells_from s (k + 9) 4) h;
        rights = tt;
        rest = o.again;
        rests = o.entries;
      }

  -- any kind
  body_carried : (n k j : ℕ) {d : Cursor} (b : Bool) → eqb n 5 ≡ b →
      cond b (bind_limited Err (call_check s (cursor (k + 5))) (λ count c1. operands_in e s count c1)) (bind_checked Err (side_in e s (has_left n) (cursor (k + 5))) (λ c1. side_in e s (eqb n 2) c1)) ≡ Ok d →
      Agree e s (side_id s (has_left n) (k + 5)) → Agree e s (side_id s (eqb n 2) (k + 9)) → Agree e s (operand_ids s (cond b (cell_at s (k + 6)) 0) (k + 13)) →
      Holds t (j + 5) (side_cells f s (has_left n) (k + 5)) → Holds t (j + 9) (side_cells f s (eqb n 2) (k + 9)) →
      Holds t (j + 13) (operands_cells f s (cond b (cell_at s (k + 6)) 0) (k + 13)) → Sided n (cond b (cell_at s (k + 6)) 0) k j
  body_carried n k j false p c a b i g h l = sides_carried n k j p c a b g h
  body_carried n k j true p c a b i g h l =
      let five : n ≡ 5 = eqb-true _ _ p in
      let g5 : Holds t (j + 5) (side_cells f s (has_left 5) (k + 5)) = rw five at g in
      let h5 : Holds t (j + 9) (side_cells f s (eqb 5 2) (k + 9)) = rw five at h in
      rw five (call_carried k j c i g5 h5 l)

  -- ---- instructions

  -- the cells of an instruction in their places
  pub record Split (k j : ℕ) : Type 0 where
    pub there : j < cells t
    pub kind : cell_at t j ≡ cell_at s k
    pub next : j + 1 < cells t
    pub operation : cell_at t (j + 1) ≡ cell_at s (k + 1)
    pub first : cells_from t j 2 ≡ cells_from s k 2
    pub dest : Holds t (j + 2) (dest_cells f s (has_dest (cell_at s k) (cell_at s (k + 1))) (k + 2))
    pub left : Holds t (j + 5) (side_cells f s (has_left (cell_at s k)) (k + 5))
    pub right : Holds t (j + 9) (side_cells f s (eqb (cell_at s k) 2) (k + 9))
    pub rest : Holds t (j + 13) (operands_cells f s (arguments_at s k) (k + 13))

  two_cells : (k j : ℕ) → Holds t j (cells_from s k 2) → (j < cells t) × (cell_at t j ≡ cell_at s k) × (j + 1 < cells t) × (cell_at t (j + 1) ≡ cell_at s (k + 1)) × (cells_from t j 2 ≡ cells_from s k 2)
  unfolding cells_from
  two_cells k j h = (h.0, h.1, h.2.0, h.2.1, from_there t j (cells_from s k 2) h)

  pub split : (k j : ℕ) → Holds t j (instr_cells f s k) → Split k j
  unfolding instr_cells
  split k j h =
      let D = dest_cells f s (has_dest (cell_at s k) (cell_at s (k + 1))) (k + 2) in
      let L = side_cells f s (has_left (cell_at s k)) (k + 5) in
      let R = side_cells f s (eqb (cell_at s k) 2) (k + 9) in
      let A = operands_cells f s (arguments_at s k) (k + 13) in
      let a = holds_append t j (cells_from s k 2) (D ++ (L ++ (R ++ A))) h in
      let b = holds_append t (j + 2) D (L ++ (R ++ A)) (holds_from t (D ++ (L ++ (R ++ A))) (ap (λ (n : ℕ). j + n) (from_length s 2 k)) a.1) in
      let l : j + 2 + length D ≡ j + 5 = omega (arith, dest_length f s (has_dest (cell_at s k) (cell_at s (k + 1))) (k + 2)) in
      let c = holds_append t (j + 5) L (R ++ A) (holds_from t (L ++ (R ++ A)) l b.1) in
      let m : j + 5 + length L ≡ j + 9 = omega (arith, side_length f s (has_left (cell_at s k)) (k + 5)) in
      let d = holds_append t (j + 9) R A (holds_from t (R ++ A) m c.1) in
      let n : j + 9 + length R ≡ j + 13 = omega (arith, side_length f s (eqb (cell_at s k) 2) (k + 9)) in
      let z = two_cells k j a.0 in
      record {
        there = z.0;
        kind = z.1;
        next = z.2;
        operation = z.3;
        first = z.4;
        dest = b.0;
        left = c.0;
        right = d.0;
        rest = holds_from t A n d.1;
      }

  -- a call has as many arguments
  count_same : (n k j : ℕ) (b : Bool) → eqb n 5 ≡ b → Holds t (j + 5) (side_cells f s (has_left n) (k + 5)) → cond b (cell_at t (j + 6)) 0 ≡ cond b (cell_at s (k + 6)) 0
  unfolding cells_from
  count_same n k j false p h = refl
  count_same n k j true p h =
      let five : n ≡ 5 = eqb-true _ _ p in
      let g : Holds t (j + 5) (side_cells f s (has_left 5) (k + 5)) = rw five at h in
      let six : k + 6 ≡ k + 5 + 1 = omega arith in
      let sixth : j + 6 ≡ j + 5 + 1 = omega arith in
      rw (six, sixth) g.2.1

  pub arguments_same : (k j : ℕ) → Split k j → arguments_at t j ≡ arguments_at s k
  unfolding arguments_at
  arguments_same k j h = rw h.kind (count_same (cell_at s k) k j (eqb (cell_at s k) 5) refl h.left)

  -- five parts are cells_from one behind the other
  joined : (k n : ℕ) {v w x y z : List ℕ} → v ≡ cells_from s k 2 → w ≡ cells_from s (k + 2) 3 → x ≡ cells_from s (k + 5) 4 → y ≡ cells_from s (k + 9) 4 → z ≡ cells_from s (k + 13) n →
      v ++ (w ++ (x ++ (y ++ z))) ≡ cells_from s k (13 + n)
  joined k n a b c d g =
      let app : List ℕ → List ℕ → List ℕ = λ l r. l ++ r in
      ap₂ app a (ap₂ app b (ap₂ app c (ap₂ app d g ∙ from_split s 4 n (k + 9) (k + 13) (4 + n) (omega arith) refl)
      ∙ from_split s 4 (4 + n) (k + 5) (k + 9) (8 + n) (omega arith) (omega arith))
      ∙ from_split s 3 (8 + n) (k + 2) (k + 5) (11 + n) (omega arith) (omega arith))
      ∙ from_split s 2 (11 + n) k (k + 2) (13 + n) refl (omega arith)

  body_of : (k j : ℕ) {d : Cursor} → body_in e s (cell_at s k) (cursor (k + 5)) ≡ Ok d →
      Agree e s (side_id s (has_left (cell_at s k)) (k + 5)) → Agree e s (side_id s (eqb (cell_at s k) 2) (k + 9)) → Agree e s (operand_ids s (arguments_at s k) (k + 13)) →
      Split k j → Sided (cell_at s k) (arguments_at s k) k j
  unfolding body_in arguments_at
  body_of k j c a b i h = body_carried (cell_at s k) k j (eqb (cell_at s k) 5) refl c a b i h.left h.right h.rest

  instr_carried : (k j : ℕ) {d : Cursor} → instr_in e s (cursor k) ≡ Ok d → Agree e s (instr_ids s k) → Holds t j (instr_cells f s k) →
      Carried s k (13 + 4 * arguments_at s k) (instr_in f t (cursor j)) (behind t j) (instr_cells e t j) (Agree f t (instr_ids t j))
      × (behind t j ≡ j + (13 + 4 * arguments_at s k))
  unfolding instr_in instr_ids instr_cells behind
  instr_carried k j c a h =
      let n = cell_at s k in
      let has = has_dest n (cell_at s (k + 1)) in
      let p = parted e s k c in
      let g = split k j h in
      let same = arguments_same k j g in
      let r = agree_instr e s k a in
      let d = dest_carried heads e f has (k + 2) (j + 2) p.dest r.0 g.dest in
      let b = body_of k j p.body r.1 r.2 r.3 g in
      let two : j + 1 + 1 ≡ j + 2 = omega arith in
      let five : j + 2 + 3 ≡ j + 5 = omega arith in
      let end : j + 13 + 4 * arguments_at t j ≡ j + (13 + 4 * arguments_at s k) = omega arith in (
        record {
          right =
              within_goes (refuse Refusal.TornSheet) t j 0 10 _ (held_moves s t p.kind g.there g.kind)
              ∙ rw g.kind (within_goes (refuse Refusal.TornSheet) t (j + 1) 0 (operation_most n) _ (held_moves s t p.operation g.next g.operation)
              ∙ rw (g.operation, two, d.right ∙ behind_is five, same) b.check);
          again = rw (g.kind, g.operation, same) (joined k (4 * arguments_at s k) g.first d.again b.left b.right b.rest);
          entries =
              rw (g.kind, g.operation, same)
              (agree_both f t (id_if has (j + 2)) _ d.entries
              (agree_both f t (side_id t (has_left n) (j + 5)) _ b.lefts
              (agree_both f t (side_id t (eqb n 2) (j + 9)) (operand_ids t (arguments_at s k) (j + 13)) b.rights b.rests)));
        },
        end,
      )

  -- ---- lists of instructions

  pub instrs_carried : (n k j : ℕ) {d : Cursor} → instrs_in e s n (cursor k) ≡ Ok d → Agree e s (instrs_ids s n k) → Holds t j (instrs_cells f s n k) →
      Carried s k (length (instrs_cells f s n k)) (instrs_in f t n (cursor j)) (j + length (instrs_cells f s n k)) (instrs_cells e t n j) (Agree f t (instrs_ids t n j))
  unfolding instrs_in instrs_ids instrs_cells cells_from
  instrs_carried zero k j c a h = record { right = behind_is (let z : j ≡ j + 0 = omega arith in z); again = refl; entries = tt }
  instrs_carried (suc n) k j c a h =
      let p = instrs_more e s n (cursor k) c in
      let b = agree_append e s (instr_ids s k) (instrs_ids s n (behind s k)) a in
      let g = holds_append t j (instr_cells f s k) (instrs_cells f s n (behind s k)) h in
      let i = instr_carried k j p.0 b.0 g.0 in
      let l : j + length (instr_cells f s k) ≡ behind t j = omega (arith, instr_length f s k, i.1) in
      let r = instrs_carried n (behind s k) (behind t j) p.1 b.1 (holds_from t (instrs_cells f s n (behind s k)) l g.1) in
      let w = instrs_length f s n k in
      let m : behind t j + length (instrs_cells f s n (behind s k)) ≡ j + length (instrs_cells f s (suc n) k) = omega (arith, i.1) in
      let q : behind s k ≡ k + (13 + 4 * arguments_at s k) = behind_is_so s k ∙ omega arith in
      record {
        right = rw i.0.right (r.right ∙ behind_is m);
        again =
            ap₂ (λ (x y : List ℕ). x ++ y) i.0.again r.again
            ∙ from_split s (13 + 4 * arguments_at s k) (length (instrs_cells f s n (behind s k))) k (behind s k) (length (instrs_cells f s (suc n) k)) q w;
        entries = agree_both f t (instr_ids t j) (instrs_ids t n (behind t j)) i.0.entries r.entries;
      }
