-- Laws of byte lists and cells: pieces written one behind the other are one piece, and a number's eight bytes read back as the number.
use Prim.Native.Nat.{ℕ, ◌+◌, ◌-◌, ◌*◌, ◌/◌, ◌%◌, ◌^◌, ◌≤◌, ◌<◌}
use mathlib.Core.Path.{◌≡◌, refl, sym, ap, ◌∙◌}
use mathlib.Core.List.{List, [], ◌∷◌, ◌++◌, append_assoc}
use native.Mathlib.Nat.{add_assoc, add-zero, mod-mod, mod-eq_of_lt, div-div-eq-div-mul}
use lib.Arith.{mod-mul}
use native.Mathlib.Omega.{arith}
use lib.ListN.{length, get_or, take, drop, length-append, length-take, length-drop}
use lib.Seq.{take_at, drop_at, drop-drop, get_or-append-add}
use borrow.Rule.Slice.PartMut.{put_mid}
use Rattle.cells.specs.Cells.{write, bytes_of, half, word}

-- ---- pieces

pub bytes_of_length : (v : ℕ) → length (bytes_of v) ≡ 8
unfolding bytes_of
bytes_of_length v = refl

-- a piece written behind what stands already, up to which the rest of the list is as it was
pub write_seam : (a s bs : List ℕ) (at : ℕ) → length a ≡ at → at + length bs ≤ length s →
    write (a ++ drop at s) at bs ≡ (a ++ bs) ++ drop (at + length bs) s
unfolding write
write_seam a s bs at e p =
    let d : drop (at + length bs) (a ++ drop at s) ≡ drop (at + length bs) s =
    rw (← drop-drop (length bs) at (a ++ drop at s), drop_at a (drop at s) at e) (drop-drop (length bs) at s) in
    rw (take_at a (drop at s) at e, d, append_assoc)

pub write_length : (s bs : List ℕ) (at : ℕ) → at + length bs ≤ length s → length (write s at bs) ≡ length s
unfolding write
write_length s bs at p = simp (length-append, length-take, length-drop) (omega arith)

-- a second piece behind the first
pub write_write : (s bs cs : List ℕ) (at : ℕ) → at + (length bs + length cs) ≤ length s →
    write (write s at bs) (at + length bs) cs ≡ write s at (bs ++ cs)
unfolding write
write_write s bs cs at p =
    let q : length (take at s ++ bs) ≡ at + length bs = simp (length-append, length-take) (omega arith) in
    write_seam (take at s ++ bs) s cs (at + length bs) q (omega arith) ∙ simp (append_assoc, length-append, add_assoc)

-- ---- numbers

-- what the four bytes from the end of a list on make, and the eight
half_behind : (p q : List ℕ) (at a b c d : ℕ) → length p ≡ at →
    half (p ++ (a ∷ b ∷ c ∷ d ∷ q)) at ≡ a % 256 + 256 * (b % 256) + 65536 * (c % 256) + 16777216 * (d % 256)
unfolding half
half_behind p q at a b c d e =
    let g : (n : ℕ) → get_or (p ++ (a ∷ b ∷ c ∷ d ∷ q)) (at + n) 0 ≡ get_or (a ∷ b ∷ c ∷ d ∷ q) n 0 =
    λ n. ap (λ (k : ℕ). get_or (p ++ (a ∷ b ∷ c ∷ d ∷ q)) (k + n) 0) (sym e) ∙ get_or-append-add p (a ∷ b ∷ c ∷ d ∷ q) n 0 in
    let z : get_or (p ++ (a ∷ b ∷ c ∷ d ∷ q)) at 0 ≡ a = ap (λ (k : ℕ). get_or (p ++ (a ∷ b ∷ c ∷ d ∷ q)) k 0) (sym (add-zero at)) ∙ g 0 in
    rw (z, g 1, g 2, g 3)

-- four digits of base 256, from their remainders
four_digits : (a b c d x y z : ℕ) → x ≡ b * 256 + a → y ≡ c * 65536 + x → z ≡ d * 16777216 + y → a + 256 * b + 65536 * c + 16777216 * d ≡ z
four_digits a b c d x y z e f g = omega arith

pos : (n : ℕ) → 0 < n + 1
pos n = omega arith

digits : (v : ℕ) → v % 256 + 256 * (v / 256 % 256) + 65536 * (v / 65536 % 256) + 16777216 * (v / 16777216 % 256) ≡ v % 4294967296
digits v =
    four_digits (v % 256) (v / 256 % 256) (v / 65536 % 256) (v / 16777216 % 256) (v % 65536) (v % 16777216) (v % 4294967296)
    (mod-mul v (pos 255) (pos 255)) (mod-mul v (pos 255) (pos 65535)) (mod-mul v (pos 255) (pos 16777215))

-- a byte is a byte already
four_bytes : (a b c d : ℕ) → a % 256 % 256 + 256 * (b % 256 % 256) + 65536 * (c % 256 % 256) + 16777216 * (d % 256 % 256)
    ≡ a % 256 + 256 * (b % 256) + 65536 * (c % 256) + 16777216 * (d % 256)
four_bytes a b c d = rw (mod-mod a 256, mod-mod b 256, mod-mod c 256, mod-mod d 256)

low_half : (v : ℕ) →
    v % 256 % 256 + 256 * (v / 256 % 256 % 256) + 65536 * (v / 65536 % 256 % 256) + 16777216 * (v / 16777216 % 256 % 256) ≡ v % 4294967296
low_half v = four_bytes v (v / 256) (v / 65536) (v / 16777216) ∙ digits v

high_half : (v : ℕ) → v < 2 ^ 64 →
    v / 4294967296 % 256 % 256 + 256 * (v / 1099511627776 % 256 % 256) + 65536 * (v / 281474976710656 % 256 % 256)
    + 16777216 * (v / 72057594037927936 % 256 % 256) ≡ v / 4294967296
high_half v h =
    four_bytes (v / 4294967296) (v / 1099511627776) (v / 281474976710656) (v / 72057594037927936)
    ∙ rw (← div-div-eq-div-mul v 4294967296 256, ← div-div-eq-div-mul v 4294967296 65536, ← div-div-eq-div-mul v 4294967296 16777216)
    (digits (v / 4294967296) ∙ mod-eq_of_lt (omega arith))

-- a number's bytes read back
pub word_of_bytes : (p q : List ℕ) (at v : ℕ) → length p ≡ at → v < 2 ^ 64 → word (p ++ (bytes_of v ++ q)) at ≡ v
unfolding word bytes_of
word_of_bytes p q at v e h =
    let f : List ℕ = v % 256 ∷ v / 256 % 256 ∷ v / 65536 % 256 ∷ v / 16777216 % 256 ∷ [] in
    let g : List ℕ = v / 4294967296 % 256 ∷ v / 1099511627776 % 256 ∷ v / 281474976710656 % 256 ∷ v / 72057594037927936 % 256 ∷ q in
    let low : half (p ++ (f ++ g)) at ≡ v % 4294967296 = half_behind p g at _ _ _ _ e ∙ low_half v in
    let l : length (p ++ f) ≡ at + 4 = length-append p f ∙ ap (λ (k : ℕ). k + 4) e in
    let high : half ((p ++ f) ++ g) (at + 4) ≡ v / 4294967296 = half_behind (p ++ f) q (at + 4) _ _ _ _ l ∙ high_half v h in
    let high' : half (p ++ (f ++ g)) (at + 4) ≡ v / 4294967296 = ap (λ (s : List ℕ). half s (at + 4)) (sym (append_assoc p f g)) ∙ high in
    omega (arith, low, high')

-- every cell is below 2 ^ 64
half_lt : (s : List ℕ) (at : ℕ) → half s at < 4294967296
unfolding half
half_lt s at = omega arith

pub word_lt : (s : List ℕ) (at : ℕ) → word s at < 2 ^ 64
unfolding word
word_lt s at = omega (arith, half_lt s at, half_lt s (at + 4))

-- a part from `at` to before `e`, written over with as many bytes
pub part_written : (xs : List ℕ) (at e : ℕ) (bs : List ℕ) → e ≡ at + length bs → put_mid at (e - at) xs bs ≡ write xs at bs
unfolding write
part_written xs at e bs h =
    let k : e - at ≡ length bs = omega arith in
    rw k (rw drop-drop (sym (append_assoc (take at xs) bs (drop (at + length bs) xs))))
