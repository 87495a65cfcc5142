-- Lists of cells: in their places in a byte list, and as bytes, which read back as the cells.
use Prim.Native.Nat.{ℕ, zero, suc, ◌+◌, ◌*◌, ◌/◌, ◌%◌, ◌^◌, ◌≤◌, ◌<◌}
use mathlib.Core.Path.{◌≡◌, refl, sym, ap, ap₂, subst, ◌∙◌}
use mathlib.Core.List.{List, [], ◌∷◌, ◌++◌, append_assoc, append-nil}
use native.Mathlib.Omega.{arith}
use native.Mathlib.Nat.{add-zero, div-div-eq-div-mul, mod-eq_of_lt}
use lib.ListN.{length, get_or, drop, length-append}
use lib.Seq.{drop-cons, drop-length}
use Rattle.cells.specs.Cells.{cells, cell_at, half, word, bytes_of, cells_from, cell_bytes, Bytes}
use Rattle.cells.proofs.Bytes.{bytes_of_length, word_of_bytes, word_lt}

-- ---- cells in their place

-- the cells of t from cell j on are these
abbrev pub Holds : List ℕ → ℕ → List ℕ → Type 0
Holds t j [] = j ≤ cells t
Holds t j (x ∷ xs) = (j < cells t) × (cell_at t j ≡ x) × Holds t (j + 1) xs

pub holds_starts : (t : List ℕ) (j : ℕ) (xs : List ℕ) → Holds t j xs → j ≤ cells t
holds_starts t j [] h = h
holds_starts t j (x ∷ xs) h = omega (arith, h.0)

pub holds_append : (t : List ℕ) (j : ℕ) (xs ys : List ℕ) → Holds t j (xs ++ ys) → Holds t j xs × Holds t (j + length xs) ys
holds_append t j [] ys h = (holds_starts t j ys h, rw (add-zero j) h)
holds_append t j (x ∷ xs) ys h =
    let r = holds_append t (j + 1) xs ys h.2 in
    let l : j + suc (length xs) ≡ j + 1 + length xs = omega arith in
    ((h.0, h.1, r.0), rw l r.1)

pub holds_join : (t : List ℕ) (j : ℕ) (xs ys : List ℕ) → Holds t j xs → Holds t (j + length xs) ys → Holds t j (xs ++ ys)
holds_join t j [] ys h g = rw (add-zero j) at g
holds_join t j (x ∷ xs) ys h g =
    let l : j + suc (length xs) ≡ j + 1 + length xs = omega arith in
    (h.0, h.1, holds_join t (j + 1) xs ys h.2 (rw l at g))

-- told in another way
pub holds_is : (t : List ℕ) (j : ℕ) {xs ys : List ℕ} → xs ≡ ys → Holds t j xs → Holds t j ys
holds_is t j e h = subst (λ (l : List ℕ). Holds t j l) e h

pub holds_from : (t xs : List ℕ) {j m : ℕ} → j ≡ m → Holds t j xs → Holds t m xs
holds_from t xs e h = subst (λ (i : ℕ). Holds t i xs) e h

-- read from there, they are these
pub from_there : (t : List ℕ) (j : ℕ) (xs : List ℕ) → Holds t j xs → cells_from t j (length xs) ≡ xs
unfolding cells_from
from_there t j [] h = refl
from_there t j (x ∷ xs) h = rw (h.1, from_there t (j + 1) xs h.2) refl

-- cell by cell
pub from_at : (s t : List ℕ) (n j k : ℕ) → Holds t j (cells_from s k n) → (i : ℕ) → i < n → cell_at t (j + i) ≡ cell_at s (k + i)
unfolding cells_from
from_at s t zero j k h i l = absurd (omega arith)
from_at s t (suc n) j k h zero l = rw (add-zero j, add-zero k) h.1
from_at s t (suc n) j k h (suc i) l =
    let a : j + suc i ≡ j + 1 + i = omega arith in
    let b : k + suc i ≡ k + 1 + i = omega arith in
    rw (a, b) (from_at s t n (j + 1) (k + 1) h.2 i (omega arith))

pub from_length : (s : List ℕ) (n k : ℕ) → length (cells_from s k n) ≡ n
unfolding cells_from
from_length s zero k = refl
from_length s (suc n) k = ap suc (from_length s n (k + 1))

from_append : (s : List ℕ) (m n k : ℕ) → cells_from s k m ++ cells_from s (k + m) n ≡ cells_from s k (m + n)
unfolding cells_from
from_append s zero n k =
    let a : 0 + n ≡ n = omega arith in
    rw (add-zero k, a) refl
from_append s (suc m) n k =
    let a : k + suc m ≡ k + 1 + m = omega arith in
    let b : suc m + n ≡ suc (m + n) = omega arith in
    rw (a, b) (ap (λ (r : List ℕ). cell_at s k ∷ r) (from_append s m n (k + 1)))

-- the same, split at a known place
pub from_split : (s : List ℕ) (m n k j w : ℕ) → j ≡ k + m → w ≡ m + n → cells_from s k m ++ cells_from s j n ≡ cells_from s k w
from_split s m n k j w e f = rw (e, f) (from_append s m n k)

-- ---- cells as bytes

abbrev pub Small : List ℕ → Type 0
Small [] = Unit {0}
Small (x ∷ xs) = (x < 2 ^ 64) × Small xs

pub small_append : (xs ys : List ℕ) → Small xs → Small ys → Small (xs ++ ys)
small_append [] ys p q = q
small_append (x ∷ xs) ys p q = (p.0, small_append xs ys p.1 q)

pub small_from : (s : List ℕ) (n k : ℕ) → Small (cells_from s k n)
unfolding cells_from
small_from s zero k = tt
small_from s (suc n) k = (word_lt s (k * 8), small_from s n (k + 1))

pub bytes_length : (xs : List ℕ) → length (cell_bytes xs) ≡ 8 * length xs
unfolding cell_bytes
bytes_length [] = refl
bytes_length (x ∷ xs) = length-append (bytes_of x) (cell_bytes xs) ∙ (let a = bytes_of_length x in let b = bytes_length xs in omega arith)

pub bytes_append : (xs ys : List ℕ) → cell_bytes (xs ++ ys) ≡ cell_bytes xs ++ cell_bytes ys
unfolding cell_bytes
bytes_append [] ys = refl
bytes_append (x ∷ xs) ys = rw (bytes_append xs ys) (sym (append_assoc (bytes_of x) (cell_bytes xs) (cell_bytes ys)))

-- what is written reads back
bytes_behind : (pre xs : List ℕ) → Small xs → Holds (cell_bytes (pre ++ xs)) (length pre) xs
unfolding cell_bytes
bytes_behind pre [] h = let a = bytes_length (pre ++ []) in let b = length-append pre [] in omega arith
bytes_behind pre (x ∷ xs) h =
    let a = bytes_length (pre ++ (x ∷ xs)) in
    let b = length-append pre (x ∷ xs) in
    let n : length (cell_bytes pre) ≡ length pre * 8 = bytes_length pre ∙ omega arith in
    let r = bytes_behind (pre ++ (x ∷ [])) xs h.1 in
    let l : length (pre ++ (x ∷ [])) ≡ length pre + 1 = length-append pre (x ∷ []) in
    let t : (pre ++ (x ∷ [])) ++ xs ≡ pre ++ (x ∷ xs) = append_assoc pre (x ∷ []) xs in
    (omega arith, rw (bytes_append pre (x ∷ xs)) (word_of_bytes (cell_bytes pre) (cell_bytes xs) (length pre * 8) x n h.0), rw (t, l) at r)

pub bytes_hold : (xs : List ℕ) → Small xs → Holds (cell_bytes xs) 0 xs
bytes_hold = bytes_behind []

-- ---- the cells of a byte list are its bytes

low_digit : (b r : ℕ) → b < 256 → (b + 256 * r) % 256 ≡ b
low_digit b r h = omega arith

high_digits : (b r : ℕ) → b < 256 → (b + 256 * r) / 256 ≡ r
high_digits b r h = omega arith

eight_digits : (a b c d e f g h : ℕ) → a < 256 → b < 256 → c < 256 → d < 256 → e < 256 → f < 256 → g < 256 → h < 256 →
    bytes_of (a + 256 * (b + 256 * (c + 256 * (d + 256 * (e + 256 * (f + 256 * (g + 256 * h))))))) ≡ (a ∷ b ∷ c ∷ d ∷ e ∷ f ∷ g ∷ h ∷ [])
unfolding bytes_of
eight_digits a b c d e f g h la lb lc ld le lf lg lh =
    let v7 = h in
    let v6 = g + 256 * v7 in
    let v5 = f + 256 * v6 in
    let v4 = e + 256 * v5 in
    let v3 = d + 256 * v4 in
    let v2 = c + 256 * v3 in
    let v1 = b + 256 * v2 in
    let v0 = a + 256 * v1 in
    let d1 : v0 / 256 ≡ v1 = high_digits a v1 la in
    let d2 : v0 / 65536 ≡ v2 = sym (div-div-eq-div-mul v0 256 256) ∙ ap (λ (x : ℕ). x / 256) d1 ∙ high_digits b v2 lb in
    let d3 : v0 / 16777216 ≡ v3 = sym (div-div-eq-div-mul v0 65536 256) ∙ ap (λ (x : ℕ). x / 256) d2 ∙ high_digits c v3 lc in
    let d4 : v0 / 4294967296 ≡ v4 = sym (div-div-eq-div-mul v0 16777216 256) ∙ ap (λ (x : ℕ). x / 256) d3 ∙ high_digits d v4 ld in
    let d5 : v0 / 1099511627776 ≡ v5 = sym (div-div-eq-div-mul v0 4294967296 256) ∙ ap (λ (x : ℕ). x / 256) d4 ∙ high_digits e v5 le in
    let d6 : v0 / 281474976710656 ≡ v6 = sym (div-div-eq-div-mul v0 1099511627776 256) ∙ ap (λ (x : ℕ). x / 256) d5 ∙ high_digits f v6 lf in
    let d7 : v0 / 72057594037927936 ≡ v7 = sym (div-div-eq-div-mul v0 281474976710656 256) ∙ ap (λ (x : ℕ). x / 256) d6 ∙ high_digits g v7 lg in
    rw (d1, d2, d3, d4, d5, d6, d7)
    (rw (low_digit a v1 la, low_digit b v2 lb, low_digit c v3 lc, low_digit d v4 ld, low_digit e v5 le, low_digit f v6 lf, low_digit g v7 lg, mod-eq_of_lt lh) refl)

word_digits : (a b c d e f g h : ℕ) →
    (a + 256 * b + 65536 * c + 16777216 * d) + 4294967296 * (e + 256 * f + 65536 * g + 16777216 * h)
    ≡ a + 256 * (b + 256 * (c + 256 * (d + 256 * (e + 256 * (f + 256 * (g + 256 * h))))))
word_digits a b c d e f g h = omega arith

-- one element, and what is behind it
drop_next : (s : List ℕ) (at next : ℕ) → next ≡ at + 1 → at < length s → drop at s ≡ get_or s at 0 ∷ drop next s
drop_next s at next e h = drop-cons s at 0 h ∙ ap (λ (k : ℕ). get_or s at 0 ∷ drop k s) (let z : suc at ≡ next = omega arith in z)

module _ (s : List ℕ) (bytes : Bytes s) where
  drop_eight : (at : ℕ) → at + 8 ≤ length s →
      drop at s
      ≡ (get_or s at 0 ∷ get_or s (at + 1) 0 ∷ get_or s (at + 2) 0 ∷ get_or s (at + 3) 0 ∷ get_or s (at + 4) 0 ∷ get_or s (at + 5) 0 ∷ get_or s (at + 6) 0 ∷ get_or s (at + 7) 0 ∷ drop (at + 8) s)
  drop_eight at h =
      let cons : ℕ → List ℕ → List ℕ = λ k r. get_or s k 0 ∷ r in
      drop_next s at (at + 1) refl (omega arith)
      ∙ ap (cons at) (drop_next s (at + 1) (at + 2) (omega arith) (omega arith)
      ∙ ap (cons (at + 1)) (drop_next s (at + 2) (at + 3) (omega arith) (omega arith)
      ∙ ap (cons (at + 2)) (drop_next s (at + 3) (at + 4) (omega arith) (omega arith)
      ∙ ap (cons (at + 3)) (drop_next s (at + 4) (at + 5) (omega arith) (omega arith)
      ∙ ap (cons (at + 4)) (drop_next s (at + 5) (at + 6) (omega arith) (omega arith)
      ∙ ap (cons (at + 5)) (drop_next s (at + 6) (at + 7) (omega arith) (omega arith)
      ∙ ap (cons (at + 6)) (drop_next s (at + 7) (at + 8) (omega arith) (omega arith))))))))

  byte_is : (i : ℕ) → get_or s i 0 % 256 ≡ get_or s i 0
  byte_is i = mod-eq_of_lt (bytes i)

  half_is : (at : ℕ) → half s at ≡ get_or s at 0 + 256 * get_or s (at + 1) 0 + 65536 * get_or s (at + 2) 0 + 16777216 * get_or s (at + 3) 0
  unfolding half
  half_is at = rw (byte_is at, byte_is (at + 1), byte_is (at + 2), byte_is (at + 3)) refl

  word_is : (at : ℕ) →
      bytes_of (word s at)
      ≡ (get_or s at 0 ∷ get_or s (at + 1) 0 ∷ get_or s (at + 2) 0 ∷ get_or s (at + 3) 0 ∷ get_or s (at + 4) 0 ∷ get_or s (at + 5) 0 ∷ get_or s (at + 6) 0 ∷ get_or s (at + 7) 0 ∷ [])
  unfolding word
  word_is at =
      let five : at + 4 + 1 ≡ at + 5 = omega arith in
      let six : at + 4 + 2 ≡ at + 6 = omega arith in
      let seven : at + 4 + 3 ≡ at + 7 = omega arith in
      let high : half s (at + 4) ≡ get_or s (at + 4) 0 + 256 * get_or s (at + 5) 0 + 65536 * get_or s (at + 6) 0 + 16777216 * get_or s (at + 7) 0
      = rw (five, six, seven) at (half_is (at + 4)) in
      ap bytes_of (ap₂ (λ (x y : ℕ). x + 4294967296 * y) (half_is at) high
      ∙ word_digits (get_or s at 0) (get_or s (at + 1) 0) (get_or s (at + 2) 0) (get_or s (at + 3) 0) (get_or s (at + 4) 0) (get_or s (at + 5) 0) (get_or s (at + 6) 0) (get_or s (at + 7) 0))
      ∙ eight_digits _ _ _ _ _ _ _ _ (bytes at) (bytes (at + 1)) (bytes (at + 2)) (bytes (at + 3)) (bytes (at + 4)) (bytes (at + 5)) (bytes (at + 6)) (bytes (at + 7))

  cell_bytes_lem : (at : ℕ) → at + 8 ≤ length s → bytes_of (word s at) ++ drop (at + 8) s ≡ drop at s
  cell_bytes_lem at h = ap (λ (l : List ℕ). l ++ drop (at + 8) s) (word_is at) ∙ sym (drop_eight at h)

  pub from_bytes : (n k : ℕ) → (k + n) * 8 ≤ length s → cell_bytes (cells_from s k n) ++ drop ((k + n) * 8) s ≡ drop (k * 8) s
  unfolding cell_bytes cells_from
  from_bytes zero k h = let z : (k + 0) * 8 ≡ k * 8 = omega arith in rw z refl
  from_bytes (suc n) k h =
      let a : (k + suc n) * 8 ≡ (k + 1 + n) * 8 = omega arith in
      let b : (k + 1) * 8 ≡ k * 8 + 8 = omega arith in
      append_assoc (bytes_of (cell_at s k)) (cell_bytes (cells_from s (k + 1) n)) (drop ((k + suc n) * 8) s)
      ∙ ap (λ (l : List ℕ). bytes_of (cell_at s k) ++ l) (rw a (from_bytes n (k + 1) (omega arith)) ∙ ap (λ (m : ℕ). drop m s) b)
      ∙ cell_bytes_lem (k * 8) (omega arith)

  pub whole_bytes : cells s * 8 ≡ length s → cell_bytes (cells_from s 0 (cells s)) ≡ s
  whole_bytes e =
      let z : 0 + cells s ≡ cells s = omega arith in
      let n : drop (cells s * 8) s ≡ [] = rw e (drop-length s) in
      sym (append-nil (cell_bytes (cells_from s 0 (cells s))))
      ∙ ap (λ (l : List ℕ). cell_bytes (cells_from s 0 (cells s)) ++ l) (sym n)
      ∙ rw z at (from_bytes (cells s) 0 (omega arith))
