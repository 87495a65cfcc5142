-- A list's bytes read back: the lines of its records as the bytes have them are the lines of `Listing`.
use Prim.Native.Nat.{ℕ, suc, ◌+◌, ◌*◌, ◌/◌, ◌%◌, ◌^◌, ◌<◌}
use mathlib.Core.Path.{◌≡◌, refl, sym, ap, ◌∙◌}
use mathlib.Core.List.{List, [], ◌∷◌, ◌++◌, map, flatten, append-nil, append_assoc}
use native.Mathlib.Nat.{add-zero, mod-mod, add-mul-div_left, add-mul-mod_self_left}
use native.Mathlib.Omega.{arith}
use lib.Dec.{lit<}
use lib.ListN.{length, length-append, length-map}
use Rattle.cells.specs.Cells.{bytes_of, word}
use Rattle.cells.proofs.Bytes.{word_of_bytes, bytes_of_length}
use Rattle.x86.specs.declared.enums.Instruction.{Instruction}
use Rattle.x86.specs.Records.{record_of, record_bytes, list_bytes}
use Rattle.x86.proofs.Decoded.{record_bytes_length}
use Rattle.text.specs.Text.{numbers_line}
use Rattle.text.specs.Records.{cells_from, cells_line, records_text}
use Rattle.listing.specs.Listing.{numbers_of, record_line}

-- ---- numbers

-- a byte of a number, from place c on, is that of its remainder
byte_mod : (v m c k : ℕ) → 0 < c → v ≡ m + c * (256 * k) → v / c % 256 ≡ m / c % 256
byte_mod v m c k h e = rw (e, add-mul-div_left m (256 * k) h) (add-mul-mod_self_left (m / c) 256 k)

bytes_mod : (v : ℕ) → bytes_of v ≡ bytes_of (v % 2 ^ 64)
unfolding bytes_of
bytes_mod v =
    let q = v / 2 ^ 64 in
    let m = v % 2 ^ 64 in
    let a : v % 256 ≡ m % 256 = omega arith in
    let b = byte_mod v m 256 (281474976710656 * q) (lit< tt) (omega arith) in
    let c = byte_mod v m 65536 (1099511627776 * q) (lit< tt) (omega arith) in
    let d = byte_mod v m 16777216 (4294967296 * q) (lit< tt) (omega arith) in
    let e = byte_mod v m 4294967296 (16777216 * q) (lit< tt) (omega arith) in
    let f = byte_mod v m 1099511627776 (65536 * q) (lit< tt) (omega arith) in
    let g = byte_mod v m 281474976710656 (256 * q) (lit< tt) (omega arith) in
    let h = byte_mod v m 72057594037927936 q (lit< tt) (omega arith) in
    cc

number_read : (p q : List ℕ) (at v : ℕ) → length p ≡ at → word (p ++ (bytes_of v ++ q)) at ≡ v % 2 ^ 64
number_read p q at v e = rw (bytes_mod v) (word_of_bytes p q at (v % 2 ^ 64) e (omega arith))

-- numbers one behind the other
cells_bytes : List ℕ → List ℕ
cells_bytes [] = []
cells_bytes (v ∷ vs) = bytes_of v ++ cells_bytes vs

cells_read : (vs p q : List ℕ) (k : ℕ) → length p ≡ k * 8 → cells_from (p ++ (cells_bytes vs ++ q)) k (length vs) ≡ map (λ (v : ℕ). v % 2 ^ 64) vs
unfolding cells_from cells_bytes
cells_read [] p q k e = refl
cells_read (v ∷ vs) p q k e =
    let b : List ℕ = bytes_of v in
    let s : List ℕ = p ++ ((b ++ cells_bytes vs) ++ q) in
    let first : s ≡ p ++ (b ++ (cells_bytes vs ++ q)) = ap (λ (x : List ℕ). p ++ x) (append_assoc b (cells_bytes vs) q) in
    let others : s ≡ (p ++ b) ++ (cells_bytes vs ++ q) = first ∙ sym (append_assoc p b (cells_bytes vs ++ q)) in
    let l : length (p ++ b) ≡ (k + 1) * 8 = simp (length-append, bytes_of_length) (omega arith) in
    let head : word s (k * 8) ≡ v % 2 ^ 64 = ap (λ (x : List ℕ). word x (k * 8)) first ∙ number_read p (cells_bytes vs ++ q) (k * 8) v e in
    let tail = ap (λ (x : List ℕ). cells_from x (k + 1) (length vs)) others ∙ cells_read vs (p ++ b) q (k + 1) l in
    ap (λ (x : ℕ). x ∷ cells_from s (k + 1) (length vs)) head ∙ ap (λ (x : List ℕ). v % 2 ^ 64 ∷ x) tail

-- a line of numbers is that of their remainders
numbers_mod : (vs : List ℕ) → numbers_line (map (λ (v : ℕ). v % 2 ^ 64) vs) ≡ numbers_line vs
unfolding numbers_line
numbers_mod [] = refl
numbers_mod (v ∷ vs) = rw (mod-mod v (2 ^ 64), length-map vs (λ (v : ℕ). v % 2 ^ 64), numbers_mod vs)

-- ---- records

bytes_cells : (i : Instruction) → record_bytes (record_of i) ≡ cells_bytes (numbers_of (record_of i))
unfolding record_bytes cells_bytes
bytes_cells i = simp (append_assoc, append-nil)

line_read : (i : Instruction) (p q : List ℕ) (k : ℕ) → length p ≡ k * 64 → cells_line (p ++ (record_bytes (record_of i) ++ q)) (k * 8) 8 ≡ record_line i
unfolding record_line
line_read i p q k e = rw (bytes_cells i, cells_read (numbers_of (record_of i)) p q (k * 8) (omega arith)) (numbers_mod (numbers_of (record_of i)))

-- the lines of a list whose bytes stand behind k records
pub lines_read : (is : List Instruction) (p q : List ℕ) (k : ℕ) → length p ≡ k * 64 →
    records_text (p ++ (list_bytes is ++ q)) k ++ flatten (map record_line is) ≡ records_text (p ++ (list_bytes is ++ q)) (k + length is)
unfolding records_text list_bytes flatten
lines_read [] p q k e = rw (append-nil, add-zero k)
lines_read (i ∷ is) p q k e =
    let b : List ℕ = record_bytes (record_of i) in
    let s : List ℕ = p ++ ((b ++ list_bytes is) ++ q) in
    let f : List ℕ = flatten (map record_line is) in
    let s' : s ≡ (p ++ b) ++ (list_bytes is ++ q) = simp append_assoc in
    let l : length (p ++ b) ≡ suc k * 64 = simp (length-append, record_bytes_length) (omega arith) in
    let line : cells_line s (k * 8) 8 ≡ record_line i = rw (append_assoc b (list_bytes is) q) (line_read i p (list_bytes is ++ q) k e) in
    let behind : records_text ((p ++ b) ++ (list_bytes is ++ q)) (suc k) ++ f ≡ records_text ((p ++ b) ++ (list_bytes is ++ q)) (suc k + length is) =
    lines_read is (p ++ b) q (suc k) l in
    let rest : records_text s (suc k) ++ f ≡ records_text s (suc k + length is) =
    ap (λ (x : List ℕ). records_text x (suc k) ++ f) s' ∙ behind ∙ ap (λ (x : List ℕ). records_text x (suc k + length is)) (sym s') in
    let n : suc k + length is ≡ k + suc (length is) = omega arith in
    sym (append_assoc (records_text s k) (record_line i) f) ∙ ap (λ (x : List ℕ). (records_text s k ++ x) ++ f) (sym line) ∙ rest ∙ ap (records_text s) n
