-- Pieces of text put one behind the other, and how long the text of a number, a cell and a line can be.
use Prim.Native.Nat.{ℕ, zero, suc, ◌+◌, ◌*◌, ◌-◌, ◌/◌, ◌%◌, ◌^◌, ◌≤◌, ◌<◌}
use mathlib.Core.Path.{◌≡◌, refl, sym, ap, ◌∙◌}
use mathlib.Core.Bool.{Bool, true, false, cond}
use mathlib.Core.List.{List, [], ◌∷◌, ◌++◌, append-nil, append_assoc}
use native.Mathlib.Nat.{add-zero, add-suc, mod-eq_of_lt}
use native.Mathlib.Numerals.{add-one, sub-one}
use native.Mathlib.Omega.{arith}
use lib.Dec.{ltb, eqb}
use lib.ListN.{drop, length, set, length-append, take-append-drop}
use lib.Seq.{sets-eq, length-take-le}
use borrow.Author.Tests.{lt-ltb, le-ltb}
use Rattle.cells.specs.Cells.{write, cell_at}
use Rattle.cells.proofs.Bytes.{write_write, write_length, word_lt}
use Rattle.text.specs.Text.{digits, signed, numbers_line, ok_word, ok_line, refused_word, refused_line, Put, Counts}
use Rattle.text.specs.Records.{cells_from, cells_line, records_text}

-- nothing
pub put_none : (s : List ℕ) (at : ℕ) → Put s at [] at s
unfolding write
put_none s at = record { behind = sym (add-zero at); text = simp (add-zero, append-nil) (sym (take-append-drop at s)) }

-- one byte stored
pub put_one : (s : List ℕ) (at b : ℕ) → at < length s → Put s at (b ∷ []) (at + 1) (set s at b)
unfolding write
put_one s at b h = record { behind = refl; text = sets-eq (b ∷ []) s at (omega arith) }

-- a second piece behind the first
pub put_append : {s a b mid out : List ℕ} {at r q : ℕ} → Put s at a r mid → Put mid r b q out → at + (length a + length b) ≤ length s →
    Put s at (a ++ b) q out
put_append {s} {a} {b} {mid} {out} {at} {r} {q} x y h =
    record { behind = simp length-append (omega (arith, x.behind, y.behind)); text = y.text ∙ rw (x.text, x.behind) (write_write s a b at h) }

-- a number's digits, by cases
pub digits_few : (k n : ℕ) → (k ≡ 0 → ⊥) → n < 10 → digits k n ≡ (48 + n) ∷ []
unfolding digits
digits_few zero n h p = absurd (h refl)
digits_few (suc k) n h p = rw (lt-ltb n 10 p)

pub digits_more : (k n : ℕ) → (k ≡ 0 → ⊥) → 10 ≤ n → digits k n ≡ digits (k - 1) (n / 10) ++ ((48 + n % 10) ∷ [])
unfolding digits
digits_more zero n h p = absurd (h refl)
digits_more (suc k) n h p = rw (le-ltb n 10 p, sub-one (suc k))

shorter : (k n : ℕ) (ds : List ℕ) (b : Bool) → length ds ≤ k → length (cond b ((48 + n) ∷ []) (ds ++ ((48 + n % 10) ∷ []))) ≤ suc k
shorter k n ds true h = omega arith
shorter k n ds false h = simp length-append (omega arith)

pub digits_length : (k n : ℕ) → length (digits k n) ≤ k
unfolding digits
digits_length zero n = omega arith
digits_length (suc k) n = shorter k n (digits k (n / 10)) (ltb n 10) (digits_length k (n / 10))

-- the place behind a number
pub digits_end : {s out : List ℕ} {at r : ℕ} (k n : ℕ) → Put s at (digits k n) r out → r ≤ at + k
digits_end k n x = omega (arith, x.behind, digits_length k n)

-- a cell's text
pub signed_plain : (v : ℕ) → v < 2 ^ 63 → signed v ≡ digits 20 v
unfolding signed
signed_plain v h = rw (lt-ltb v (2 ^ 63) h)

pub signed_minus : (v : ℕ) → 2 ^ 63 ≤ v → signed v ≡ (45 ∷ []) ++ digits 20 (2 ^ 64 - v)
unfolding signed
signed_minus v h = rw (le-ltb v (2 ^ 63) h)

short : (b : Bool) (ds es : List ℕ) → length ds ≤ 20 → length es ≤ 20 → length (cond b ds (45 ∷ es)) ≤ 21
short true ds es h k = omega arith
short false ds es h k = omega arith

pub signed_length : (v : ℕ) → length (signed v) ≤ 21
unfolding signed
signed_length v = short (ltb v (2 ^ 63)) (digits 20 v) (digits 20 (2 ^ 64 - v)) (digits_length 20 v) (digits_length 20 (2 ^ 64 - v))

-- a line of numbers
pub numbers_length : (vs : List ℕ) → length (numbers_line vs) ≤ 22 * length vs
unfolding numbers_line
numbers_length [] = omega arith
numbers_length (v ∷ vs) = simp length-append (omega (arith, signed_length (v % 2 ^ 64), numbers_length vs))

cells_length : (bs : List ℕ) (k n : ℕ) → length (cells_from bs k n) ≡ n
unfolding cells_from
cells_length bs k zero = refl
cells_length bs k (suc n) = ap suc (cells_length bs (k + 1) n)

pub line_length : (bs : List ℕ) (k n : ℕ) → length (cells_line bs k n) ≤ 22 * n
line_length bs k n = omega (arith, numbers_length (cells_from bs k n), cells_length bs k n)

-- a line of cells: the first of them, what stands behind it, and the others
pub line_more : (bs : List ℕ) (k n : ℕ) → (n ≡ 0 → ⊥) →
    cells_line bs k n ≡ (signed (cell_at bs k) ++ (cond (eqb (n - 1) 0) 10 32 ∷ [])) ++ cells_line bs (k + 1) (n - 1)
unfolding cells_from numbers_line
line_more bs k zero h = absurd (h refl)
line_more bs k (suc n) h = rw (sub-one (suc n), cells_length bs (k + 1) n, mod-eq_of_lt (word_lt bs (k * 8))) (simp append_assoc)

-- the text of records grows with their count
records_grow : (bs : List ℕ) (m d : ℕ) → length (records_text bs m) ≤ length (records_text bs (m + d))
unfolding records_text
records_grow bs m zero = rw (add-zero m) (omega arith)
records_grow bs m (suc d) = rw (add-suc m d) (simp length-append (omega (arith, records_grow bs m d)))

pub records_more : (bs : List ℕ) (m n : ℕ) → m ≤ n → length (records_text bs m) ≤ length (records_text bs n)
records_more bs m n h =
    let e : m + (n - m) ≡ n = omega arith in
    rw e at (records_grow bs m (n - m))

-- ---- what each turn of the recursions puts

pub no_digits : {s : List ℕ} {at : ℕ} (k n : ℕ) → k ≡ 0 → Put s at (digits k n) at s
unfolding digits
no_digits {s} {at} k n e = rw e (put_none s at)

pub one_digit : {s out : List ℕ} {at r : ℕ} (k n : ℕ) {d : ℕ} → (k ≡ 0 → ⊥) → n < 10 → d ≡ 48 + n → Put s at (d ∷ []) r out → Put s at (digits k n) r out
one_digit k n h p e x = rw (digits_few k n h p, ← e) x

pub more_digits : {s mid out : List ℕ} {at r q : ℕ} (k n : ℕ) {d : ℕ} → (k ≡ 0 → ⊥) → 10 ≤ n → d ≡ 48 + n % 10 → at + k ≤ length s →
    Put s at (digits (k - 1) (n / 10)) r mid → Put mid r (d ∷ []) q out → Put s at (digits k n) q out
more_digits {s} {at = at} k n {d} h p e f x y =
    rw (digits_more k n h p, ← e) (put_append x y (omega (arith, digits_length (k - 1) (n / 10), f, h)))

pub no_cells : {s : List ℕ} {at : ℕ} (bs : List ℕ) (k n : ℕ) → n ≡ 0 → Put s at (cells_line bs k n) at s
unfolding cells_from numbers_line
no_cells {s} {at} bs k n e = rw e (put_none s at)

pub more_cells : {s mid lo out : List ℕ} {at r q p : ℕ} (bs : List ℕ) (k n : ℕ) {v d : ℕ} → (n ≡ 0 → ⊥) → at + 22 * n ≤ length s → v ≡ cell_at bs k →
    d ≡ cond (eqb (n - 1) 0) 10 32 → Put s at (signed v) r mid → Put mid r (d ∷ []) q lo → Put lo q (cells_line bs (k + 1) (n - 1)) p out →
    Put s at (cells_line bs k n) p out
more_cells {s} {at = at} bs k n {v} {d} h f e g x y z =
    let a = signed_length v in
    let b = line_length bs (k + 1) (n - 1) in
    rw (line_more bs k n h, ← e, ← g)
    (put_append (put_append x y (omega (arith, a, f, h))) z (simp length-append (omega (arith, a, b, f, h))))

pub plain_cell : {s out : List ℕ} {at r : ℕ} (v : ℕ) → v < 2 ^ 63 → Put s at (digits 20 v) r out → Put s at (signed v) r out
plain_cell v h x = rw (signed_plain v h) x

pub minus_cell : {s mid out : List ℕ} {at r q : ℕ} (v w : ℕ) → 2 ^ 63 ≤ v → w ≡ 2 ^ 64 - v → at + 21 ≤ length s →
    Put s at (45 ∷ []) r mid → Put mid r (digits 20 w) q out → Put s at (signed v) q out
minus_cell v w h e f x y = rw (signed_minus v h, ← e) (put_append x y (omega (arith, digits_length 20 w, f)))

-- ---- the loops

-- text at the start of a list
pub front_put : (s bs : List ℕ) → Put s 0 bs (length bs) (bs ++ drop (length bs) s)
unfolding write
front_put s bs = record { behind = omega arith; text = let z : 0 + length bs ≡ length bs = omega arith in rw z refl }

pub no_records : {s : List ℕ} {at : ℕ} (bs : List ℕ) → Put s at (records_text bs 0) at s
unfolding records_text
no_records {s} {at} bs = put_none s at

-- one record more
pub more_records : {s mid out : List ℕ} {at r q : ℕ} (bs : List ℕ) (k n : ℕ) → k < n → at + length (records_text bs n) + 176 ≤ length s →
    Put s at (records_text bs k) r mid → Put mid r (cells_line bs (k * 8) 8) q out → Put s at (records_text bs (k + 1)) q out
unfolding records_text
more_records bs k n h f x y =
    rw (add-one k) (put_append x y (omega (arith, records_more bs k n (omega arith), line_length bs (k * 8) 8, f)))

-- ---- the lines

pub ok_length : (n : ℕ) → length (ok_line n) ≤ 24
unfolding ok_line
ok_length n = simp length-append (omega (arith, digits_length 20 n))

-- the place behind the first line
pub ok_end : {s out : List ℕ} {r : ℕ} (n : ℕ) → Put s 0 (ok_line n) r out → r ≤ 24
ok_end n x = omega (arith, x.behind, ok_length n)

-- a text behind the first line
pub ok_more : {s mid out bs : List ℕ} {r q : ℕ} (n : ℕ) → Put s 0 (ok_line n) r mid → Put mid r bs q out → 24 + length bs ≤ length s →
    Put s 0 (ok_line n ++ bs) q out
ok_more n x y h = put_append x y (omega (arith, ok_length n))

pub refused_length : (n place : ℕ) → length (refused_line n place) ≤ 50
unfolding refused_line
refused_length n place = simp length-append (omega (arith, digits_length 20 n, digits_length 20 place))

pub ok_put : {s mid lo out : List ℕ} {a b q : ℕ} (n : ℕ) → 24 ≤ length s → Put s 0 ok_word a mid → Put mid a (digits 20 n) b lo → Put lo b (10 ∷ []) q out →
    Put s 0 (ok_line n) q out
unfolding ok_line
ok_put n h x y z =
    let d = digits_length 20 n in
    rw (← append_assoc ok_word (digits 20 n) (10 ∷ []))
    (put_append (put_append x y (omega (arith, d, h))) z (simp length-append (omega (arith, d, h))))

pub refused_put : {s s1 s2 s3 s4 out : List ℕ} {a b c d q : ℕ} (n place : ℕ) → 50 ≤ length s → Put s 0 refused_word a s1 → Put s1 a (digits 20 n) b s2 →
    Put s2 b (32 ∷ []) c s3 → Put s3 c (digits 20 place) d s4 → Put s4 d (10 ∷ []) q out → Put s 0 (refused_line n place) q out
unfolding refused_line
refused_put n place h x y z v w =
    let e = digits_length 20 n in
    let f = digits_length 20 place in
    let one = put_append x y (omega (arith, e, h)) in
    let two = put_append one z (simp length-append (omega (arith, e, h))) in
    let three = put_append two v (simp length-append (omega (arith, e, f, h))) in
    let four = put_append three w (simp length-append (omega (arith, e, f, h))) in
    simp append_assoc at four

-- ---- the whole text

-- a text that fits is counted by its length
counted : {s out bs : List ℕ} {q : ℕ} → Put s 0 bs q out → length bs ≤ length s → Counts q out
counted {s} {out} {bs} {q} x h =
    let l : length out ≡ length s = ap length x.text ∙ write_length s bs 0 (omega arith) in
    let f : q ≤ length out = omega (arith, x.behind) in
    (f, sym (length-take-le q out f))

-- .. and so under another name
pub whole : {s out bs : List ℕ} {q : ℕ} (cs : List ℕ) → Put s 0 bs q out → bs ≡ cs → length bs ≤ length s → Put s 0 cs q out × Counts q out
whole cs x e h = rw (← e) (x, counted x h)
