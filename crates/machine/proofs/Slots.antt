-- The variables' slots: they lie in the frame, apart from each other, and a store to one is F's write to its variable.
use Prim.Native.Nat.{ℕ, zero, suc, ◌+◌, ◌*◌, ◌-◌, ◌/◌, ◌%◌, ◌<◌, ◌≤◌, min}
use mathlib.Core.Path.{◌≡◌, refl, sym, ap, ◌∙◌, subst, fun_ext}
use mathlib.Core.Bool.{Bool, true, false, cond, ◌&&◌}
use mathlib.Core.List.{List, [], ◌∷◌}
use lib.Dec.{ltb, eqb}
use lib.ListN.{length, get_or}
use lib.Arith.{lt_of_le-ne}
use native.Mathlib.Nat.{not-suc-le-zero, le_of_suc-le-suc, le_trans, mul-mod_left}
use native.Mathlib.Omega.{arith}
use borrow.Author.Tests.{eqb-true, eqb-false, lt-ltb, ltb-true, ltb-false}
use Rattle.ir.specs.declared.«Type».{«Type» as IrType}
use Rattle.ir.specs.Types.{bytes, element_width, is_scalar}
use Rattle.ir.proofs.Rest.{each_width}
use Rattle.machine.specs.Word.{W, bound, byte, above, store}
use Rattle.machine.specs.Steps.{Values, put}
use Rattle.machine.specs.Plain.{no_type}
use Rattle.machine.specs.Frames.{unit, behind, offset_from, depth_from, offset, depth, size_of, unit_of, frame_size, slot_of, slot_byte, Stepped, Framed}
use Rattle.machine.proofs.Numbers.{byte_mod, above_up, above_down, address_add, store_in, store_out, above_at}

-- ---- offsets: all that follows of them rests on one law of one step

abbrev up : ℕ → ℕ → ℕ → ℕ
up w end n = cond (eqb w 0) end ((end + n + (w - 1)) / w * w)

behind_multiple : (end : ℕ) (t : IrType) → 0 < unit t → behind end t % unit t ≡ 0
unfolding behind
behind_multiple end t h =
    each_width (λ w. 0 < w → up w end (bytes t) % w ≡ 0) t.code (λ h. omega arith) (λ h. omega arith) (λ h. omega arith) (λ h. omega arith) h

-- a type with no width has no bytes
no_bytes : (t : IrType) → unit t ≡ 0 → bytes t ≡ 0
unfolding bytes
no_bytes t h = go (is_scalar t)
  where
    go : (b : Bool) → cond b (element_width t.code) (element_width t.code * min t.count 1048576) ≡ 0
    go true = h
    go false = rw h (omega arith)

grows : (end : ℕ) (t : IrType) → end + bytes t ≤ behind end t
unfolding behind
grows end t =
    each_width (λ w. (w ≡ 0 → bytes t ≡ 0) → end + bytes t ≤ up w end (bytes t)) t.code (λ h. omega (arith, h refl)) (λ h. omega arith) (λ h. omega arith)
    (λ h. omega arith) (no_bytes t)

stepped : (end : ℕ) (t : IrType) → 0 < unit t → Stepped end t
unfolding behind
stepped end t h =
    record {
      multiple = behind_multiple end t h;
      enough = grows end t;
      least = each_width (λ w. 0 < w → (n : ℕ) → n % w ≡ 0 → end + bytes t ≤ n → up w end (bytes t) ≤ n) t.code (λ h n a b. omega arith)
          (λ h n a b. omega arith) (λ h n a b. omega arith) (λ h n a b. omega arith) h;
    }

offset_multiple : (end : ℕ) (ts : List IrType) (x : ℕ) → x < length ts → 0 < unit_of ts x → offset_from end ts x % unit_of ts x ≡ 0
unfolding offset_from
offset_multiple end [] x h k = absurd (not-suc-le-zero h)
offset_multiple end (t ∷ ts) zero h k = behind_multiple end t k
offset_multiple end (t ∷ ts) (suc x) h k = offset_multiple (behind end t) ts x (le_of_suc-le-suc h) k

-- an address that far below a multiple of 16
lies : (b o j : ℕ) (code : ℕ) → b % 16 ≡ 0 → 0 < element_width code → o % element_width code ≡ 0 → j % element_width code ≡ 0 → o ≤ 1048576
    → ((b + (W - o) % W) % W + j) % W % element_width code ≡ 0
lies b o j code h k e f g =
    each_width (λ w. 0 < w → o % w ≡ 0 → j % w ≡ 0 → ((b + (W - o) % W) % W + j) % W % w ≡ 0) code (λ k e f. omega arith) (λ k e f. omega arith)
    (λ k e f. omega arith) (λ k e f. omega arith) k e f

depth_grows : (end : ℕ) (ts : List IrType) → end ≤ depth_from end ts
unfolding depth_from
depth_grows end [] = omega arith
depth_grows end (t ∷ ts) = le_trans (omega (arith, grows end t)) (depth_grows (behind end t) ts)

offset_from_le : (end : ℕ) (ts : List IrType) (x : ℕ) → offset_from end ts x ≤ depth_from end ts
unfolding offset_from depth_from
offset_from_le end [] x = omega arith
offset_from_le end (t ∷ ts) zero = depth_grows (behind end t) ts
offset_from_le end (t ∷ ts) (suc x) = offset_from_le (behind end t) ts x

size_from_le : (end : ℕ) (ts : List IrType) (x : ℕ) → x < length ts → end + size_of ts x ≤ offset_from end ts x
unfolding offset_from
size_from_le end [] x h = absurd (not-suc-le-zero h)
size_from_le end (t ∷ ts) zero h = grows end t
size_from_le end (t ∷ ts) (suc x) h = omega (arith, grows end t, size_from_le (behind end t) ts x (le_of_suc-le-suc h))

from_apart : (end : ℕ) (ts : List IrType) (x y : ℕ) → x < y → y < length ts → offset_from end ts x + size_of ts y ≤ offset_from end ts y
unfolding offset_from
from_apart end [] x y h k = absurd (not-suc-le-zero k)
from_apart end (t ∷ ts) x zero h k = absurd (not-suc-le-zero h)
from_apart end (t ∷ ts) zero (suc y) h k = size_from_le (behind end t) ts y (le_of_suc-le-suc k)
from_apart end (t ∷ ts) (suc x) (suc y) h k = from_apart (behind end t) ts x y (le_of_suc-le-suc h) (le_of_suc-le-suc k)

-- of what is no variable too
pub offset_total : (ts : List IrType) (x : ℕ) → offset ts x ≤ depth ts
offset_total ts x = offset_from_le 0 ts x

pub offset_le : (ts : List IrType) (x : ℕ) → x < length ts → offset ts x ≤ depth ts
offset_le ts x h = offset_total ts x

pub size_le : (ts : List IrType) (x : ℕ) → x < length ts → size_of ts x ≤ offset ts x
size_le ts x h = omega (arith, size_from_le 0 ts x h)

offset_apart : (ts : List IrType) (x y : ℕ) → x < y → y < length ts → offset ts x + size_of ts y ≤ offset ts y
offset_apart ts x y h k = from_apart 0 ts x y h k

-- ---- addresses beside the frame

beyond : (a l e n f : ℕ) → l < W → a < W → e + n ≤ f → f ≤ 1048591 → f + 8 ≤ above l a → n ≤ above ((l + e) % W) a
beyond a l e n f hl ha he hf h = omega arith

outside_slot : (a b f o n : ℕ) → a < W → b < W → n ≤ o → o ≤ f → f ≤ 1048591 → f + 8 ≤ above ((b + (W - f)) % W) a → n ≤ above ((b + (W - o)) % W) a
outside_slot a b f o n ha hb hn ho hf h =
    let e : ((b + (W - f)) % W + (f - o)) % W ≡ (b + (W - o)) % W =
    address_add b (W - f) (f - o) ∙ ap (λ (k : ℕ). (b + k) % W) (omega arith) in
    subst (λ (s : ℕ). n ≤ above s a) e (beyond a ((b + (W - f)) % W) (f - o) n f (omega arith) ha (omega arith) hf h)

-- a displacement taken modulo 2 ^ 64 leads to the same address
pub wrap : (b o : ℕ) → (b + (W - o) % W) % W ≡ (b + (W - o)) % W
wrap b o = omega arith

pub outside_saved : (a b f : ℕ) → a < W → b < W → f ≤ 1048591 → f + 8 ≤ above ((b + (W - f)) % W) a → 8 ≤ above b a
outside_saved a b f ha hb hf h = omega arith

-- two bytes at one address are as far below the frame's end
same_byte : (b p q : ℕ) → b < W → p < W → q < W → (b + p) % W ≡ (b + q) % W → p ≡ q
same_byte b p q hb hp hq e = omega arith

-- F writes the low bytes of a number
pub put_mod : (σ : Values) (x n v : ℕ) → put σ x n (v % bound n) ≡ put σ x n v
put_mod σ x n v = fun_ext (λ y. fun_ext (λ i. go y i (eqb y x) (ltb i n) refl))
  where
    go : (y i : ℕ) (a b : Bool) → ltb i n ≡ b → cond (a && b) (byte (v % bound n) i) (σ y i) ≡ cond (a && b) (byte v i) (σ y i)
    go y i true true e = byte_mod v n i (ltb-true i n e)
    go y i true false e = refl
    go y i false b e = refl

-- ---- slots

module _ (vars : List IrType) (small : depth vars ≤ 1048576) where
  -- where a variable's bytes lie, counted round from the frame's end
  abbrev down : ℕ → ℕ
  down x = W - offset vars x

  pub frame_le : frame_size vars ≤ 1048591
  frame_le = omega arith

  pub offset_frame : (x : ℕ) → x < length vars → offset vars x ≤ frame_size vars
  offset_frame x h = omega (arith, offset_le vars x h)

  reach : (x : ℕ) → x < length vars → (size_of vars x ≤ offset vars x) × (offset vars x ≤ 1048576)
  reach x h = (size_le vars x h, omega (arith, offset_le vars x h))

  at : (b x i : ℕ) → slot_byte vars b x i ≡ (b + (down x + i)) % W
  at b x i = ap (λ (a : ℕ). (a + i) % W) (wrap b (offset vars x)) ∙ address_add b (down x) i

  -- a store to the slot of d leaves the bytes that the frame ends at, and those outside, as they are
  pub off_saved : (b d i : ℕ) → d < length vars → i < 8 → size_of vars d ≤ above ((b + slot_of vars d) % W) ((b + i) % W)
  off_saved b d i hd k =
      let h : size_of vars d ≤ offset vars d = (reach d hd).0 in
      let g : offset vars d ≤ 1048576 = (reach d hd).1 in
      rw wrap (go (offset vars d) (size_of vars d) h g)
    where
      go : (o n : ℕ) → n ≤ o → o ≤ 1048576 → n ≤ above ((b + (W - o)) % W) ((b + i) % W)
      go zero n h g = omega arith
      go (suc o) n h g = rw (above_down b (W - suc o) i (omega arith) (omega arith)) (omega arith)

  pub off_outside : (b d a : ℕ) → b < W → d < length vars → a < W → frame_size vars + 8 ≤ above ((b + (W - frame_size vars)) % W) a
      → size_of vars d ≤ above ((b + slot_of vars d) % W) a
  off_outside b d a hb hd ha k =
      rw wrap (outside_slot a b (frame_size vars) (offset vars d) (size_of vars d) ha hb (reach d hd).0 (offset_frame d hd) frame_le k)

  -- the saved RBP lies apart from every slot
  pub slot_saved : (b x i : ℕ) → b < W → x < length vars → i < size_of vars x → 8 ≤ above b (slot_byte vars b x i)
  slot_saved b x i hb hx hi =
      let h : size_of vars x ≤ offset vars x = (reach x hx).0 in
      let g : offset vars x ≤ 1048576 = (reach x hx).1 in
      rw (at b x i, above_at b (down x + i) hb (omega arith)) (omega arith)

  -- the store of d's bytes, read at a slot
  pub store_slot : (m : ℕ → ℕ) (σ : Values) (b d n v x i : ℕ) → size_of vars d ≡ n → d < length vars → x < length vars → i < size_of vars x
      → m (slot_byte vars b x i) ≡ σ x i → store m ((b + slot_of vars d) % W) n v (slot_byte vars b x i) ≡ put σ d n v x i
  store_slot m σ b d n v x i en hd hx hi e = go (eqb x d) refl
    where
      go : (c : Bool) → eqb x d ≡ c → store m ((b + slot_of vars d) % W) n v (slot_byte vars b x i) ≡ cond (c && ltb i n) (byte v i) (σ x i)
      go true q =
          let w : size_of vars d ≡ size_of vars x = ap (size_of vars) (sym (eqb-true x d q)) in
          store_in m ((b + slot_of vars d) % W) n v (slot_byte vars b x i) i
          (ap (λ (y : ℕ). above ((b + slot_of vars d) % W) (slot_byte vars b y i)) (eqb-true x d q)
          ∙ above_at ((b + slot_of vars d) % W) i (omega arith) (omega (arith, reach x hx)))
          (omega arith)
          ∙ (rw (lt-ltb i n (omega arith)))
      go false q = store_out m ((b + slot_of vars d) % W) n v (slot_byte vars b x i) (rw (wrap b (offset vars d), at b x i, ← en) (apart (ltb x d) refl)) ∙ e
        where
          apart : (c : Bool) → ltb x d ≡ c → size_of vars d ≤ above ((b + down d) % W) ((b + (down x + i)) % W)
          apart true r =
              let h : offset vars x + size_of vars d ≤ offset vars d = offset_apart vars x d (ltb-true x d r) hd in
              rw (above_up b (down d) (down x + i) (omega (arith, reach x hx, reach d hd)) (omega (arith, reach x hx))) (omega (arith, reach x hx, reach d hd))
          apart false r =
              let k : d < x = lt_of_le-ne (ltb-false x d r) (λ z. eqb-false x d q (sym z)) in
              let h : offset vars d + size_of vars x ≤ offset vars x = offset_apart vars d x k hx in
              rw (above_down b (down d) (down x + i) (omega (arith, reach x hx, reach d hd)) (omega arith)) (omega (arith, reach x hx, reach d hd))

  -- ---- the frame

  pub framed : Framed vars
  framed =
      record {
        stepped = stepped;
        multiple = omega arith;
        enough = omega arith;
        least = λ n h k. omega arith;
        inside = inside;
        apart = apart;
        aligned = λ b x i h hx k.
            lies b (offset vars x) (i * unit_of vars x) (get_or vars x no_type).code h k (offset_multiple 0 vars x hx k) (mul-mod_left i (unit_of vars x)) (reach x hx).1;
      }
    where
      inside : (b x i : ℕ) → b < W → x < length vars → i < size_of vars x → above ((b + (W - frame_size vars)) % W) (slot_byte vars b x i) < frame_size vars
      inside b x i hb hx hi =
          let h : offset vars x ≤ depth vars = offset_le vars x hx in
          let k : size_of vars x ≤ offset vars x = size_le vars x hx in
          rw (at b x i, above_up b (W - frame_size vars) (down x + i) (omega arith) (omega arith)) (omega arith)

      below : (b x y i j : ℕ) → b < W → x < y → y < length vars → i < size_of vars x → j < size_of vars y → slot_byte vars b x i ≡ slot_byte vars b y j → ⊥
      below b x y i j hb h hy hi hj e =
          let k : offset vars x + size_of vars y ≤ offset vars y = offset_apart vars x y h hy in
          let w : offset vars y ≤ depth vars = offset_le vars y hy in
          let v : size_of vars x ≤ offset vars x = size_le vars x (omega arith) in
          let u : size_of vars y ≤ offset vars y = size_le vars y hy in
          let p : down x + i ≡ down y + j =
          same_byte b (down x + i) (down y + j) hb (omega arith) (omega arith) (sym (at b x i) ∙ e ∙ at b y j) in
          omega arith

      apart : (b x y i j : ℕ) → b < W → x < length vars → y < length vars → i < size_of vars x → j < size_of vars y → slot_byte vars b x i ≡ slot_byte vars b y j → x ≡ y
      apart b x y i j hb hx hy hi hj e = go (ltb x y) (ltb y x) refl refl
        where
          go : (p q : Bool) → ltb x y ≡ p → ltb y x ≡ q → x ≡ y
          go true q u v = absurd (below b x y i j hb (ltb-true x y u) hy hi hj e)
          go false true u v = absurd (below b y x j i hb (ltb-true y x v) hx hj hi (sym e))
          go false false u v = let l : y ≤ x = ltb-false x y u in let k : x ≤ y = ltb-false y x v in omega arith
