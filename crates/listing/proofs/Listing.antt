-- The text that is made for an answer of the lowering is the text of `Listing`, and it fits; tables and sheet as they are lent are the parts of the input.
use Prim.Native.Nat.{ℕ, ◌+◌, ◌-◌, ◌*◌, ◌/◌, ◌≤◌}
use mathlib.Core.Path.{◌≡◌, refl, sym, ap}
use mathlib.Core.List.{List, [], ◌∷◌, ◌++◌, map, flatten, append-nil}
use native.Mathlib.Nat.{zero-add}
use native.Mathlib.Omega.{arith}
use lib.ListN.{length, take, drop, length-append, length-drop}
use lib.Seq.{take_all}
use Rattle.x86.specs.declared.enums.Instruction.{Instruction}
use Rattle.x86.specs.Records.{record_of, list_bytes}
use Rattle.x86.proofs.Decoded.{record_bytes_length}
use Rattle.codegen.specs.Generation.{Outcome, accepted, refused, lowered, records_after}
use Rattle.generation.specs.Answers.{counted_outcome}
use Rattle.std.specs.Prelude.{Ok, Err}
use Rattle.text.specs.declared.input.InputError.{InputError}
use Rattle.text.specs.Text.{ok_line, refused_line, too_long_line}
use Rattle.text.specs.Records.{records_text}
use Rattle.text.specs.Input.{split_of, tables_part, sheet_part}
use Rattle.listing.specs.Listing.{record_line, answer_lines, listing_lines, listing_text, listing_records}
use Rattle.listing.proofs.Lines.{lines_read}
use Rattle.listing.proofs.Widths.{lines_length}

-- ---- an accepted sheet

list_length : (is : List Instruction) → length (list_bytes is) ≡ 64 * length is
unfolding list_bytes
list_length [] = refl
list_length (i ∷ is) = simp length-append (omega (arith, record_bytes_length (record_of i), list_length is))

-- what the text of n records needs, and what it is
pub record Lists (o : Outcome (List Instruction)) (n : ℕ) (out : List ℕ) : Type 0 where
  pub there : n ≤ length out / 64
  pub room : 24 + length (records_text out n) + 176 ≤ 65536
  pub text : ok_line n ++ records_text out n ≡ flatten (answer_lines o)

lists : (is : List Instruction) (old : List ℕ) {out : List ℕ} → out ≡ list_bytes is ++ drop (64 * length is) old → length old ≡ 65536 →
    length out ≡ length old → Lists (accepted is) (length is) out
unfolding records_text flatten
lists is old {out} e f g =
    let l = simp (length-append, length-drop, list_length is) at (ap length e) in
    let t : records_text out (length is) ≡ flatten (map record_line is) =
    rw e (sym (rw (zero-add (length is)) at (lines_read is [] (drop (64 * length is) old) 0 refl))) in
    record {
      there = omega arith;
      room = rw t (omega (arith, lines_length is));
      text = rw t;
    }

accepted_outcome : (o : Outcome (List Instruction)) (old : List ℕ) {n : ℕ} {out : List ℕ} → length old ≡ 65536 → length out ≡ length old →
    accepted n ≡ counted_outcome o → out ≡ records_after o old → Lists o n out
unfolding records_after
accepted_outcome (accepted is) old {n} f g h e =
    let m : n ≡ length is = cc in
    rw m (lists is old e f g)
accepted_outcome (refused m place) old f g h e =
    let z : ◌≡◌ {A = ℕ} 0 1 = cc in
    absurd (omega arith)

refused_outcome : (o : Outcome (List Instruction)) {n place : ℕ} → refused n place ≡ counted_outcome o → refused_line n place ≡ flatten (answer_lines o)
unfolding flatten
refused_outcome (accepted is) h =
    let z : ◌≡◌ {A = ℕ} 0 1 = cc in
    absurd (omega arith)
refused_outcome (refused m at) {n} {place} h =
    let a : n ≡ m = cc in
    let b : place ≡ at = cc in
    rw (a, b) (sym (append-nil _))

-- ---- the lowering's answer for tables and sheet, into 64 KiB

module _ (t s old : List ℕ) (f : length old ≡ 65536) where
  pub accepted_lists : {n : ℕ} {out : List ℕ} → length out ≡ length old → accepted n ≡ counted_outcome (lowered t s (length old)) →
      out ≡ records_after (lowered t s (length old)) old → Lists (lowered t s 65536) n out
  accepted_lists g h e = accepted_outcome (lowered t s 65536) old f g (rw f at h) (rw f at e)

  pub refused_lists : {n place : ℕ} → refused n place ≡ counted_outcome (lowered t s (length old)) → refused_line n place ≡ flatten (answer_lines (lowered t s 65536))
  refused_lists h = refused_outcome (lowered t s 65536) (rw f at h)

  pub left : {out : List ℕ} → out ≡ records_after (lowered t s (length old)) old → out ≡ records_after (lowered t s 65536) old
  left e = rw f at e

-- ---- the parts of an input

tables_lent : (s : List ℕ) (n : ℕ) → take (8 + 8 * n - 8) (drop 8 s) ≡ tables_part s n
tables_lent s n =
    let e : 8 + 8 * n - 8 ≡ 8 * n = omega arith in
    rw e

sheet_lent : (s : List ℕ) (n : ℕ) → take (length s - (8 + 8 * n)) (drop (8 + 8 * n) s) ≡ sheet_part s n
sheet_lent s n = take_all (length s - (8 + 8 * n)) (drop (8 + 8 * n) s) (simp length-drop (omega arith))

module _ (s : List ℕ) where
  pub too_long : split_of s ≡ Err InputError.TooLong → too_long_line ≡ listing_text s
  unfolding listing_text listing_lines flatten
  too_long e = rw e

  pub no_tables : split_of s ≡ Err InputError.NoTables → refused_line 1 0 ≡ listing_text s
  unfolding listing_text listing_lines flatten
  no_tables e = rw e (sym (append-nil _))

  pub parts_text : (n : ℕ) → split_of s ≡ Ok n →
      flatten (answer_lines (lowered (take (8 + 8 * n - 8) (drop 8 s)) (take (length s - (8 + 8 * n)) (drop (8 + 8 * n) s)) 65536)) ≡ listing_text s
  unfolding listing_text listing_lines
  parts_text n e = rw (e, tables_lent s n, sheet_lent s n)

  pub parts_records_lem : (n : ℕ) (old : List ℕ) {out : List ℕ} → split_of s ≡ Ok n →
      out ≡ records_after (lowered (take (8 + 8 * n - 8) (drop 8 s)) (take (length s - (8 + 8 * n)) (drop (8 + 8 * n) s)) 65536) old → out ≡ listing_records s old
  unfolding listing_records
  parts_records_lem n old e x = rw e (rw (tables_lent s n, sheet_lent s n) at x)
