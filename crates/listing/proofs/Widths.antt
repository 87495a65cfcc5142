-- A record's line has at most 62 bytes: all of its numbers but the two values are below 100.
use Prim.Native.Nat.{ℕ, suc, ◌+◌, ◌*◌, ◌/◌, ◌%◌, ◌^◌, ◌≤◌, ◌<◌}
use mathlib.Core.Path.{◌≡◌}
use mathlib.Core.Bool.{Bool, true, false, cond}
use mathlib.Core.List.{List, [], ◌∷◌, map, flatten}
use native.Mathlib.Nat.{mod-eq_of_lt}
use native.Mathlib.Omega.{arith}
use lib.Dec.{ltb}
use lib.ListN.{length, length-append}
use borrow.Author.Tests.{lt-ltb}
use Rattle.x86.specs.declared.enums.Instruction.{Instruction}
use Rattle.x86.specs.Records.{Record, record_of}
use Rattle.x86.proofs.Codes.{Narrow, narrow_record}
use Rattle.text.specs.Text.{digits, signed, numbers_line}
use Rattle.text.proofs.Pieces.{signed_plain, signed_length}
use Rattle.listing.specs.Listing.{numbers_of, record_line}

-- ---- two digits

two : (b : Bool) (x y z : ℕ) → length (cond b (x ∷ []) (y ∷ z ∷ [])) ≤ 2
two true x y z = omega arith
two false x y z = omega arith

two_digits : (k n : ℕ) → n < 100 → length (digits (suc (suc k)) n) ≤ 2
unfolding digits
two_digits k n h = rw (lt-ltb (n / 10) 10 (omega arith)) (two (ltb n 10) (48 + n) (48 + n / 10) (48 + n % 10))

narrow : (v : ℕ) → v < 100 → length (signed (v % 2 ^ 64)) ≤ 2
narrow v h =
    let e : v % 2 ^ 64 ≡ v = mod-eq_of_lt (omega arith) in
    rw (e, signed_plain v (omega arith)) (two_digits 18 v h)

narrow_line : (r : Record) → Narrow r → length (numbers_line (numbers_of r)) ≤ 62
unfolding numbers_line
narrow_line r h =
    simp length-append
    (omega (
      arith,
      narrow r.form h.form,
      narrow r.operation h.operation,
      narrow r.dst_tag h.dst_tag,
      signed_length (r.dst % 2 ^ 64),
      narrow r.src_tag h.src_tag,
      signed_length (r.src % 2 ^ 64),
      narrow r.size h.size,
      narrow r.src_size h.src_size,
    ))

-- the lines of a list
pub lines_length : (is : List Instruction) → length (flatten (map record_line is)) ≤ 62 * length is
unfolding flatten record_line
lines_length [] = omega arith
lines_length (i ∷ is) = simp length-append (omega (arith, narrow_line (record_of i) (narrow_record i), lines_length is))
