-- Variables, parameters, operands and lists of them, carried from a sheet s of edition e into a sheet t of edition f: what is right stays right, what agrees
-- with its entry agrees, and what is carried back is what it was.
use Prim.Native.Nat.{ℕ, zero, suc, ◌+◌, ◌*◌, ◌<◌}
use mathlib.Core.Path.{◌≡◌, refl, sym, ap, ap₂, ◌∙◌}
use mathlib.Core.Bool.{Bool, true, false, cond}
use mathlib.Core.List.{List, [], ◌∷◌, ◌++◌}
use native.Mathlib.Omega.{arith}
use native.Mathlib.Nat.{mul-suc}
use Rattle.std.proofs.lemmas.Bool.{and_parts}
use borrow.Author.Tests.{ltb-true, lt-ltb, eqb-true, eq-eqb}
use lib.Dec.{ltb, eqb}
use lib.ListN.{length, length-append}
use Rattle.cells.specs.Cells.{cell_at, largest, cells_from}
use Rattle.cells.specs.declared.Cursor.{Cursor}
use Rattle.std.specs.Prelude.{Some, None, Ok}
use Rattle.cells.specs.declared.refusals.Refusal.{Refusal}
use Rattle.layout.specs.declared.Edition.{Edition}
use Rattle.layout.specs.Layout.{Checked, refuse, cursor, zeros_check, fields_check, type_check, own_in, var_in, param_in, param_width, holds_var, first_field, flag_field, operand_in, operands_in, dest_in, side_in, params_in}
use Rattle.layout.proofs.Passed.{Held, within_passed, passed_at}
use Rattle.layout.proofs.Laws.{operand_right, param_right}
use Rattle.edition.specs.Editions.{id_if, operand_id, side_id, operand_ids, param_ids, entry_at, own_agrees, agrees, own_cells, var_cells, param_cells, operand_cells, dest_cells, side_cells, operands_cells, params_cells, stray_in}
use Rattle.cells.proofs.Lists.{Holds, holds_append, from_there, from_split}
use Rattle.edition.proofs.Moves.{behind_is, held_moves, within_goes, type_moves, zeros_moves, fields_moves}

-- ---- ids that agree with their entries

abbrev pub Agree : Edition → List ℕ → List ℕ → Type 0
Agree e s [] = Unit {0}
Agree e s (k ∷ ks) = (agrees e s k ≡ true) × Agree e s ks

pub agree_append : (e : Edition) (s xs ys : List ℕ) → Agree e s (xs ++ ys) → Agree e s xs × Agree e s ys
agree_append e s [] ys h = (tt, h)
agree_append e s (x ∷ xs) ys h = let r = agree_append e s xs ys h.1 in ((h.0, r.0), r.1)

pub agree_both : (e : Edition) (s xs ys : List ℕ) → Agree e s xs → Agree e s ys → Agree e s (xs ++ ys)
agree_both e s [] ys p q = q
agree_both e s (x ∷ xs) ys p q = (p.0, agree_both e s xs ys p.1 q)

-- no id is stray
pub none_stray : (e : Edition) (s ks : List ℕ) → stray_in e s ks ≡ None → Agree e s ks
unfolding stray_in
none_stray e s [] h = tt
none_stray e s (k ∷ ks) h = go (λ q. none_stray e s ks q) (agrees e s k) refl h
  where
    go : (stray_in e s ks ≡ None → Agree e s ks) → (b : Bool) → agrees e s k ≡ b → cond b (stray_in e s ks) (Some k) ≡ None → Agree e s (k ∷ ks)
    go f true p h = (p, f h)
    go f false p h = absurd cc

pub all_agreed : (e : Edition) (s ks : List ℕ) → Agree e s ks → stray_in e s ks ≡ None
unfolding stray_in
all_agreed e s [] h = refl
all_agreed e s (k ∷ ks) h = rw h.0 (all_agreed e s ks h.1)

pub has_entry : (e : Edition) (s : List ℕ) (k : ℕ) → agrees e s k ≡ true → cell_at s k < cell_at s 0
unfolding agrees
has_entry e s k h = ltb-true _ _ (and_parts (ltb (cell_at s k) (cell_at s 0)) (own_agrees e s k) h).0

-- ---- a variable that agrees with its entry is its own cells

-- the own type of edition 1 is the entry's
pub own_agree : (s : List ℕ) (k : ℕ) → agrees Edition.First s k ≡ true →
    (cell_at s (entry_at (cell_at s k)) ≡ cell_at s (k + 1)) × (cell_at s (entry_at (cell_at s k) + 1) ≡ cell_at s (k + 1 + 1))
unfolding agrees
own_agree s k h =
    let p = and_parts (ltb (cell_at s k) (cell_at s 0)) (own_agrees Edition.First s k) h in
    let q = and_parts (eqb (cell_at s (k + 1)) (cell_at s (entry_at (cell_at s k)))) (eqb (cell_at s (k + 2)) (cell_at s (entry_at (cell_at s k) + 1))) p.1 in
    let two : k + 1 + 1 ≡ k + 2 = omega arith in
    (sym (eqb-true _ _ q.0), rw two (sym (eqb-true _ _ q.1)))

zeros_two : (s : List ℕ) (k : ℕ) {d : Cursor} → zeros_check s 2 (cursor k) ≡ Ok d → (cell_at s k ≡ 0) × (cell_at s (k + 1) ≡ 0)
unfolding zeros_check
zeros_two s k e =
    let p = within_passed Refusal.TornSheet s (cursor k) 0 0 _ e in
    let q = within_passed Refusal.TornSheet s (cursor (k + 1)) 0 0 _ p.1 in
    (omega (arith, p.0.most), omega (arith, q.0.most))

var_own : (e : Edition) (s : List ℕ) (k : ℕ) {d : Cursor} → var_in e s (cursor k) ≡ Ok d → agrees e s k ≡ true → var_cells e s k ≡ cells_from s k 3
unfolding var_in var_cells cells_from
var_own Edition.First s k e h = let o = own_agree s k h in rw (o.0, o.1) refl
var_own Edition.Second s k e h =
    let z = zeros_two s (k + 1) (within_passed Refusal.TornSheet s (cursor k) 0 largest _ e).1 in
    rw (z.0, z.1) refl

var_held : (e : Edition) (s : List ℕ) (k : ℕ) {d : Cursor} → var_in e s (cursor k) ≡ Ok d → Held s k 0 largest
unfolding var_in
var_held e s k h = (within_passed Refusal.TornSheet s (cursor k) 0 largest _ h).0

-- ---- how many cells a part has

own_length : (f : Edition) (s : List ℕ) (id : ℕ) → length (own_cells f s id) ≡ 2
own_length Edition.First s id = refl
own_length Edition.Second s id = refl

pub var_length : (f : Edition) (s : List ℕ) (k : ℕ) → length (var_cells f s k) ≡ 3
unfolding var_cells
var_length f s k = ap suc (own_length f s (cell_at s k))

pub param_length : (f : Edition) (s : List ℕ) (k : ℕ) → length (param_cells f s k) ≡ param_width f
unfolding param_cells var_cells
param_length Edition.First s k = refl
param_length Edition.Second s k = refl

pub params_length : (e f : Edition) (s : List ℕ) (n k : ℕ) → length (params_cells e f s n k) ≡ param_width f * n
unfolding params_cells
params_length e f s zero k = let z : 0 ≡ param_width f * 0 = omega arith in z
params_length e f s (suc n) k =
    length-append (param_cells f s k) (params_cells e f s n (k + param_width e))
    ∙ omega (arith, param_length f s k, params_length e f s n (k + param_width e), mul-suc (param_width f) n)

pub operand_length : (f : Edition) (s : List ℕ) (k : ℕ) → length (operand_cells f s k) ≡ 4
unfolding operand_cells cells_from
operand_length f s k = go (holds_var (cell_at s k))
  where
    go : (b : Bool) → suc (length (cond b (var_cells f s (k + 1)) (cells_from s (k + 1) 3))) ≡ 4
    go true = ap suc (var_length f s (k + 1))
    go false = refl

pub dest_length : (f : Edition) (s : List ℕ) (has : Bool) (k : ℕ) → length (dest_cells f s has k) ≡ 3
unfolding cells_from
dest_length f s true k = var_length f s k
dest_length f s false k = refl

pub side_length : (f : Edition) (s : List ℕ) (has : Bool) (k : ℕ) → length (side_cells f s has k) ≡ 4
unfolding cells_from
side_length f s true k = operand_length f s k
side_length f s false k = refl

pub operands_length : (f : Edition) (s : List ℕ) (n k : ℕ) → length (operands_cells f s n k) ≡ 4 * n
unfolding operands_cells
operands_length f s zero k = refl
operands_length f s (suc n) k =
    length-append (operand_cells f s k) (operands_cells f s n (k + 4)) ∙ omega (arith, operand_length f s k, operands_length f s n (k + 4))

-- ---- the two sheets have the same variable types

pub record Heads (s t : List ℕ) : Type 0 where
  pub vars : cell_at t 0 ≡ cell_at s 0
  pub right : (id : ℕ) → id < cell_at s 0 → type_check s (cursor (entry_at id)) ≡ Ok (cursor (entry_at id + 2))
  pub code : (id : ℕ) → id < cell_at s 0 → cell_at t (entry_at id) ≡ cell_at s (entry_at id)
  pub count : (id : ℕ) → id < cell_at s 0 → cell_at t (entry_at id + 1) ≡ cell_at s (entry_at id + 1)

-- a part of the one, of w cells from k on, and the same part of the other, which ends at m
pub record Carried (s : List ℕ) (k w : ℕ) (check : Checked) (m : ℕ) (back : List ℕ) (agree : Type 0) : Type 0 where
  pub right : check ≡ Ok (cursor m)
  pub again : back ≡ cells_from s k w
  pub entries : agree

module _ {s t : List ℕ} (heads : Heads s t) where
  -- ---- variables

  own_passes : (f : Edition) (id j : ℕ) → id < cell_at s 0 → Holds t j (own_cells f s id) → own_in f t (cursor j) ≡ Ok (cursor (j + 2))
  unfolding zeros_check cells_from
  own_passes Edition.First id j l h = type_moves s t (entry_at id) j (heads.right id l) h
  own_passes Edition.Second id j l h =
      let a : Held t j 0 0 = record { there = h.0; least = omega arith; most = omega (arith, h.1) } in
      let b : Held t (j + 1) 0 0 = record { there = h.2.0; least = omega arith; most = omega (arith, h.2.1) } in
      let two : j + 1 + 1 ≡ j + 2 = omega arith in
      within_goes (refuse Refusal.TornSheet) t j 0 0 _ a ∙ within_goes (refuse Refusal.TornSheet) t (j + 1) 0 0 _ b ∙ behind_is two

  var_passes : (f : Edition) (k j : ℕ) → Held s k 0 largest → cell_at s k < cell_at s 0 → Holds t j (var_cells f s k) → var_in f t (cursor j) ≡ Ok (cursor (j + 3))
  unfolding var_in var_cells
  var_passes f k j a l h =
      let three : j + 1 + 2 ≡ j + 3 = omega arith in
      within_goes (refuse Refusal.TornSheet) t j 0 largest _ (held_moves s t a h.0 h.1) ∙ own_passes f (cell_at s k) (j + 1) l h.2 ∙ behind_is three

  -- the entry is the same, so that a variable is written in the same way
  own_same : (e : Edition) (id : ℕ) → id < cell_at s 0 → own_cells e t id ≡ own_cells e s id
  own_same Edition.First id l = rw (heads.code id l, heads.count id l) refl
  own_same Edition.Second id l = refl

  var_again : (e : Edition) (k j : ℕ) → cell_at t j ≡ cell_at s k → cell_at s k < cell_at s 0 → var_cells e t j ≡ var_cells e s k
  unfolding var_cells
  var_again e k j h l = rw h (ap (λ (r : List ℕ). cell_at s k ∷ r) (own_same e (cell_at s k) l))

  entry_there : (k j : ℕ) → cell_at t j ≡ cell_at s k → cell_at s k < cell_at s 0 → ltb (cell_at t j) (cell_at t 0) ≡ true
  entry_there k j h l = rw (h, heads.vars) (lt-ltb _ _ l)

  var_agrees : (f : Edition) (k j : ℕ) → cell_at s k < cell_at s 0 → Holds t j (var_cells f s k) → agrees f t j ≡ true
  unfolding agrees var_cells
  var_agrees Edition.First k j l h =
      let two : j + 2 ≡ j + 1 + 1 = omega arith in
      rw (entry_there k j h.1 l, two, h.2.1, h.2.2.1, h.1)
      (rw (eq-eqb _ _ (sym (heads.code (cell_at s k) l)), eq-eqb _ _ (sym (heads.count (cell_at s k) l))) refl)
  var_agrees Edition.Second k j l h = rw (entry_there k j h.1 l) refl

  module _ (e f : Edition) where
    var_carried : (k j : ℕ) {d : Cursor} → var_in e s (cursor k) ≡ Ok d → agrees e s k ≡ true → Holds t j (var_cells f s k) →
        Carried s k 3 (var_in f t (cursor j)) (j + 3) (var_cells e t j) (agrees f t j ≡ true)
    unfolding var_cells
    var_carried k j c a h =
        let l = has_entry e s k a in
        record { right = var_passes f k j (var_held e s k c) l h; again = var_again e k j h.1 l ∙ var_own e s k c a; entries = var_agrees f k j l h }

  -- ---- parameters

  param_held : (e : Edition) (k : ℕ) {d : Cursor} → param_in e s (cursor k) ≡ Ok d → Held s k 0 largest
  unfolding param_in
  param_held Edition.First k c = var_held Edition.First s k c
  param_held Edition.Second k c = (within_passed Refusal.TornSheet s (cursor k) 0 largest _ c).0

  param_first : (f : Edition) (k j : ℕ) → Holds t j (param_cells f s k) → cell_at t j ≡ cell_at s k
  unfolding param_cells var_cells
  param_first Edition.First k j h = h.1
  param_first Edition.Second k j h = h.1

  param_passes : (f : Edition) (k j : ℕ) → Held s k 0 largest → cell_at s k < cell_at s 0 → Holds t j (param_cells f s k) → param_in f t (cursor j) ≡ Ok (cursor (j + param_width f))
  unfolding param_in param_cells
  param_passes Edition.First k j a l h = var_passes Edition.First k j a l h
  param_passes Edition.Second k j a l h = within_goes (refuse Refusal.TornSheet) t j 0 largest _ (held_moves s t a h.0 h.1)

  param_again : (e : Edition) (k j : ℕ) {d : Cursor} → param_in e s (cursor k) ≡ Ok d → agrees e s k ≡ true → cell_at t j ≡ cell_at s k → param_cells e t j ≡ cells_from s k (param_width e)
  unfolding param_in param_cells cells_from
  param_again Edition.First k j c a h = var_again Edition.First k j h (has_entry Edition.First s k a) ∙ var_own Edition.First s k c a
  param_again Edition.Second k j c a h = rw h refl

  param_agrees : (f : Edition) (k j : ℕ) → cell_at s k < cell_at s 0 → Holds t j (param_cells f s k) → agrees f t j ≡ true
  unfolding agrees param_cells
  param_agrees Edition.First k j l h = var_agrees Edition.First k j l h
  param_agrees Edition.Second k j l h = rw (entry_there k j h.1 l) refl

  module _ (e f : Edition) where
    pub params_carried : (n k j : ℕ) {d : Cursor} → params_in e s n (cursor k) ≡ Ok d → Agree e s (param_ids e s n k) → Holds t j (params_cells e f s n k) →
        Carried s k (param_width e * n) (params_in f t n (cursor j)) (j + param_width f * n) (params_cells f e t n j) (Agree f t (param_ids f t n j))
    unfolding params_in param_ids params_cells cells_from
    params_carried zero k j c a h =
        record { right = behind_is (let z : j ≡ j + param_width f * 0 = omega arith in z); again = (let z : param_width e * 0 ≡ 0 = omega arith in rw z refl); entries = tt }
    params_carried (suc n) k j c a h =
        let p = passed_at (param_in e s (cursor k)) _ (k + param_width e) (λ m q. (param_right e s (cursor k) q).0) c in
        let l = has_entry e s k a.0 in
        let g = holds_append t j (param_cells f s k) (params_cells e f s n (k + param_width e)) h in
        let r = params_carried n (k + param_width e) (j + param_width f) p.1 a.1 (rw (param_length f s k) at g.1) in
        let m : j + param_width f + param_width f * n ≡ j + param_width f * suc n = omega (arith, mul-suc (param_width f) n) in
        let w : param_width e * suc n ≡ param_width e + param_width e * n = omega (arith, mul-suc (param_width e) n) in
        record {
          right = rw (param_passes f k j (param_held e k p.0) l g.0) (r.right ∙ behind_is m);
          again =
              ap₂ (λ (x y : List ℕ). x ++ y) (param_again e k j p.0 a.0 (param_first f k j g.0)) r.again
              ∙ from_split s (param_width e) (param_width e * n) k (k + param_width e) (param_width e * suc n) refl w;
          entries = (param_agrees f k j l g.0, r.entries);
        }

  -- ---- operands, dests and sides

  module _ (e f : Edition) where
    -- what stands behind the kind of an operand
    fields_carried : (b : Bool) (x y k j : ℕ) {d : Cursor} → cond b (var_in e s (cursor k)) (fields_check s (cursor k) x y y) ≡ Ok d →
        Agree e s (id_if b k) → Holds t j (cond b (var_cells f s k) (cells_from s k 3)) →
        Carried s k 3 (cond b (var_in f t (cursor j)) (fields_check t (cursor j) x y y)) (j + 3) (cond b (var_cells e t j) (cells_from t j 3)) (Agree f t (id_if b j))
    unfolding cells_from
    fields_carried true x y k j c a h =
        let r = var_carried e f k j c a.0 h in
        record { right = r.right; again = r.again; entries = (r.entries, tt) }
    fields_carried false x y k j c a h =
        record { right = fields_moves s t k j x y y c h; again = from_there t j (cells_from s k 3) h; entries = tt }

    operand_carried : (k j : ℕ) {d : Cursor} → operand_in e s (cursor k) ≡ Ok d → Agree e s (operand_id s k) → Holds t j (operand_cells f s k) →
        Carried s k 4 (operand_in f t (cursor j)) (j + 4) (operand_cells e t j) (Agree f t (operand_id t j))
    unfolding operand_in operand_cells cells_from
    operand_carried k j c a h =
        let p = within_passed Refusal.TornSheet s (cursor k) 0 6 _ c in
        let n = cell_at s k in
        let r = fields_carried (holds_var n) (first_field n) (flag_field n) (k + 1) (j + 1) p.1 a h.2 in
        let four : j + 1 + 3 ≡ j + 4 = omega arith in
        record {
          right = within_goes (refuse Refusal.TornSheet) t j 0 6 _ (held_moves s t p.0 h.0 h.1) ∙ rw h.1 r.right ∙ behind_is four;
          again = rw h.1 (ap (λ (x : List ℕ). cell_at s k ∷ x) r.again);
          entries = rw h.1 r.entries;
        }

    pub dest_carried : (has : Bool) (k j : ℕ) {d : Cursor} → dest_in e s has (cursor k) ≡ Ok d → Agree e s (id_if has k) → Holds t j (dest_cells f s has k) →
        Carried s k 3 (dest_in f t has (cursor j)) (j + 3) (dest_cells e t has j) (Agree f t (id_if has j))
    unfolding dest_in cells_from
    dest_carried true k j c a h =
        let r = var_carried e f k j c a.0 h in
        record { right = r.right; again = r.again; entries = (r.entries, tt) }
    dest_carried false k j c a h = record { right = zeros_moves s t 3 k j c h; again = from_there t j (cells_from s k 3) h; entries = tt }

    pub side_carried : (has : Bool) (k j : ℕ) {d : Cursor} → side_in e s has (cursor k) ≡ Ok d → Agree e s (side_id s has k) → Holds t j (side_cells f s has k) →
        Carried s k 4 (side_in f t has (cursor j)) (j + 4) (side_cells e t has j) (Agree f t (side_id t has j))
    unfolding side_in cells_from
    side_carried true k j c a h = operand_carried k j c a h
    side_carried false k j c a h = record { right = zeros_moves s t 4 k j c h; again = from_there t j (cells_from s k 4) h; entries = tt }

    pub operands_carried : (n k j : ℕ) {d : Cursor} → operands_in e s n (cursor k) ≡ Ok d → Agree e s (operand_ids s n k) → Holds t j (operands_cells f s n k) →
        Carried s k (4 * n) (operands_in f t n (cursor j)) (j + 4 * n) (operands_cells e t n j) (Agree f t (operand_ids t n j))
    unfolding operands_in operand_ids operands_cells cells_from
    operands_carried zero k j c a h = record { right = behind_is (let z : j ≡ j + 4 * 0 = omega arith in z); again = refl; entries = tt }
    operands_carried (suc n) k j c a h =
        let p = passed_at (operand_in e s (cursor k)) _ (k + 4) (λ m q. (operand_right e s (cursor k) q).0) c in
        let b = agree_append e s (operand_id s k) (operand_ids s n (k + 4)) a in
        let g = holds_append t j (operand_cells f s k) (operands_cells f s n (k + 4)) h in
        let o = operand_carried k j p.0 b.0 g.0 in
        let r = operands_carried n (k + 4) (j + 4) p.1 b.1 (rw (operand_length f s k) at g.1) in
        let m : j + 4 + 4 * n ≡ j + 4 * suc n = omega arith in
        let w : 4 * suc n ≡ 4 + 4 * n = omega arith in
        record {
          right = rw o.right (r.right ∙ behind_is m);
          again = ap₂ (λ (x y : List ℕ). x ++ y) o.again r.again ∙ from_split s 4 (4 * n) k (k + 4) (4 * suc n) refl w;
          entries = agree_both f t (operand_id t j) (operand_ids t n (j + 4)) o.entries r.entries;
        }
