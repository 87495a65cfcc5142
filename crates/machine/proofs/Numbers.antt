-- Laws of bytes, of addresses modulo 2 ^ 64, and of what a store leaves. All for a width left open.
use Prim.Native.Nat.{ℕ, zero, suc, ◌+◌, ◌*◌, ◌-◌, ◌/◌, ◌%◌, ◌^◌, ◌<◌, ◌≤◌}
use mathlib.Core.Path.{◌≡◌, refl, sym, ap, ap₂, ◌∙◌, fun_ext}
use mathlib.Core.Bool.{Bool, true, false, cond}
use lib.Dec.{ltb}
use native.Mathlib.Nat.{mod-lt, mod-mod, div-div-eq-div-mul, pow-succ', div-one, one-le-pow, pow-suc, not-suc-le-zero, le_of_suc-le-suc}
use native.Mathlib.Omega.{arith}
use borrow.Author.Tests.{lt-ltb, le-ltb, ltb-true, leb-true, leb-false}
use lib.Arith.{mod-mul, digits_mod}
use lib.Pow.{pow-add, mod-mod-pow, field}
use Rattle.machine.specs.Word.{W, bound, byte, number, above, store, sign, widen, bitwise}
use Rattle.machine.specs.Machine.{keeps_upper, merge}

pub bound_pos : (n : ℕ) → 0 < bound n
bound_pos n = one-le-pow n 256 (omega arith)

-- as a power of two
pub bound_pow : (n : ℕ) → bound n ≡ 2 ^ (8 * n)
bound_pow zero = refl
bound_pow (suc n) = pow-suc 256 n ∙ ap (λ (k : ℕ). k * 256) (bound_pow n) ∙ sym (pow-add 2 (8 * n) 8) ∙ ap (λ (k : ℕ). 2 ^ k) (omega arith)

-- ---- numbers of bytes

pub number_cong : (f g : ℕ → ℕ) (n : ℕ) → ((i : ℕ) → i < n → f i ≡ g i) → number f n ≡ number g n
unfolding number
number_cong f g zero h = refl
number_cong f g (suc n) h =
    ap₂ (λ (a b : ℕ). a % 256 + 256 * b) (h 0 (omega arith)) (number_cong (λ i. f (suc i)) (λ i. g (suc i)) n (λ i k. h (suc i) (omega arith)))

pub number_lt : (f : ℕ → ℕ) (n : ℕ) → number f n < bound n
unfolding number
number_lt f zero = omega arith
number_lt f (suc n) = omega (arith, number_lt (λ i. f (suc i)) n, pow-suc 256 n)

byte_suc : (v i : ℕ) → byte v (suc i) ≡ byte (v / 256) i
byte_suc v i = ap (λ (d : ℕ). v / d % 256) (pow-succ' 256 i) ∙ ap (λ (q : ℕ). q % 256) (sym (div-div-eq-div-mul v 256 (256 ^ i)))

pub number_byte : (v n : ℕ) → number (byte v) n ≡ v % bound n
unfolding number
number_byte v zero = omega arith
number_byte v (suc n) =
    ap₂ (λ (a b : ℕ). a + 256 * b) (ap (λ (x : ℕ). x % 256 % 256) (div-one v) ∙ mod-mod v 256)
    (number_cong (λ i. byte v (suc i)) (byte (v / 256)) n (λ i h. byte_suc v i) ∙ number_byte (v / 256) n)
    ∙ (let h : v % (256 ^ n * 256) ≡ v / 256 % 256 ^ n * 256 + v % 256 = mod-mul v (bound_pos n) (omega arith) in
    rw pow-suc (omega arith))

-- fewer bytes are a remainder
pub bound_mod : (m n v : ℕ) → m ≤ n → v % bound n % bound m ≡ v % bound m
bound_mod m n v h =
    ap₂ (λ (a b : ℕ). v % a % b) (bound_pow n ∙ ap (λ (k : ℕ). 2 ^ k) (omega arith)) (bound_pow m)
    ∙ mod-mod-pow v (8 * (n - m)) (8 * m) ∙ ap (λ (b : ℕ). v % b) (sym (bound_pow m))

pub number_mod : (f : ℕ → ℕ) (m n : ℕ) → m ≤ n → number f n % bound m ≡ number f m
unfolding number
number_mod f zero n h = omega arith
number_mod f (suc m) zero h = absurd (not-suc-le-zero h)
number_mod f (suc m) (suc n) h =
    let g : ℕ → ℕ = λ i. f (suc i) in
    let x : ℕ = f 0 % 256 + 256 * number g n in
    let e : x % (bound m * 256) ≡ x / 256 % bound m * 256 + x % 256 = mod-mul x (bound_pos m) (omega arith) in
    let q : x / 256 ≡ number g n = omega arith in
    let r : x / 256 % bound m ≡ number g m = ap (λ (k : ℕ). k % bound m) q ∙ number_mod g m n (le_of_suc-le-suc h) in
    ap (λ (b : ℕ). x % b) (pow-suc 256 m) ∙ e ∙ omega (arith, r)

-- a byte of the n low ones
pub byte_mod : (v n i : ℕ) → i < n → byte (v % bound n) i ≡ byte v i
byte_mod v n i h =
    let w : 8 * n ≡ 8 * (n - i) + 8 * i = omega arith in
    let u : 8 * (n - i) ≡ 8 * (n - i - 1) + 8 = omega arith in
    ap₂ (λ (a b : ℕ). v % a / b % 256) (bound_pow n ∙ ap (λ (k : ℕ). 2 ^ k) w) (bound_pow i)
    ∙ ap (λ (q : ℕ). q % 256) (field v (8 * (n - i)) (8 * i) ∙ ap (λ (k : ℕ). v / 2 ^ (8 * i) % 2 ^ k) u)
    ∙ mod-mod-pow (v / 2 ^ (8 * i)) (8 * (n - i - 1)) 8 ∙ ap (λ (b : ℕ). v / b % 256) (sym (bound_pow i))

-- ---- two's complement

-- four bytes, their sign copied, are the eight bytes of a number in -2^31 to 2^31 - 1
pub copied : (v : ℕ) → (v + 2 ^ 31) % W < 2 ^ 32 → widen 4 8 (v % bound 4) ≡ v % bound 8
copied v h = go (sign 4 (v % bound 4)) refl
  where
    go : (b : Bool) → sign 4 (v % bound 4) ≡ b → cond b (v % bound 4 + (bound 8 - bound 4)) (v % bound 4) ≡ v % bound 8
    go true e = let k : bound 4 ≤ 2 * (v % bound 4) = leb-true (bound 4) (2 * (v % bound 4)) e in omega arith
    go false e = let k : 2 * (v % bound 4) < bound 4 = leb-false (bound 4) (2 * (v % bound 4)) e in omega arith

-- ---- registers

pub merge_low : (n a v : ℕ) → merge n a v % bound n ≡ v % bound n
unfolding merge
merge_low n a v = go (keeps_upper n)
  where
    go : (b : Bool) → cond b (a / bound n * bound n + v % bound n) (v % bound n) % bound n ≡ v % bound n
    go true = digits_mod (a / bound n) (mod-lt v (bound_pos n))
    go false = mod-mod v (bound n)

-- ---- addresses

pub above_at : (a k : ℕ) → a < W → k < W → above a ((a + k) % W) ≡ k
above_at a k ha hk = omega arith

-- the address (b + p) % W and what lies k above it, seen from b
pub address_add : (b p k : ℕ) → ((b + p) % W + k) % W ≡ (b + (p + k)) % W
address_add b p k = omega arith

-- a store at b + p, read at b + q: places p and q are counted round from b
pub above_up : (b p q : ℕ) → p ≤ q → q < W → above ((b + p) % W) ((b + q) % W) ≡ q - p
above_up b p q h k = omega arith

pub above_down : (b p q : ℕ) → q < p → p ≤ W → above ((b + p) % W) ((b + q) % W) ≡ W - (p - q)
above_down b p q h k = omega arith

module _ (m : ℕ → ℕ) (a n v x : ℕ) where
  pub store_in : (k : ℕ) → above a x ≡ k → k < n → store m a n v x ≡ byte v k
  store_in k e h = rw (e, lt-ltb k n h)

  pub store_out : n ≤ above a x → store m a n v x ≡ m x
  store_out h = rw (le-ltb (above a x) n h)

-- only the n low bytes of v are stored
pub store_mod : (m : ℕ → ℕ) (a n v : ℕ) → store m a n (v % bound n) ≡ store m a n v
store_mod m a n v = fun_ext (λ x. go x (ltb (above a x) n) refl)
  where
    go : (x : ℕ) (b : Bool) → ltb (above a x) n ≡ b → cond b (byte (v % bound n) (above a x)) (m x) ≡ cond b (byte v (above a x)) (m x)
    go x true e = byte_mod v n (above a x) (ltb-true (above a x) n e)
    go x false e = refl

-- ---- bit by bit

-- a number and itself differ in no bit
pub xor_self : (k a : ℕ) → bitwise (λ x y. (x + y) % 2) k a a ≡ 0
unfolding bitwise
xor_self zero a = refl
xor_self (suc k) a = omega (arith, xor_self k (a / 2))
