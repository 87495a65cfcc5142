-- A record's cells, written one behind the other, are its bytes.
use Prim.Native.Nat.{ℕ, ◌+◌, ◌*◌, ◌≤◌, ◌<◌}
use mathlib.Core.Path.{◌≡◌, ◌∙◌}
use mathlib.Core.List.{List, append_assoc, append-nil}
use native.Mathlib.Omega.{arith}
use native.Mathlib.Nat.{add-zero}
use lib.ListN.{length, get_or, take, length-take}
use Rattle.std.proofs.lemmas.List.{take_more, take-append-drop}
use Rattle.cells.specs.Cells.{write, bytes_of, cell_bytes}
use Rattle.cells.proofs.Bytes.{write_write, bytes_of_length}
use Rattle.cells.proofs.Lists.{bytes_length, bytes_append}
use Rattle.x86.specs.Records.{Record, record_bytes}
use Rattle.records.specs.Cells.{record_cells}

-- s with the first k cells of xs from `at` on
abbrev pub written : List ℕ → ℕ → List ℕ → ℕ → List ℕ
written s at xs k = write s at (cell_bytes (take k xs))

pub none_yet : (s : List ℕ) (at : ℕ) (xs : List ℕ) → s ≡ written s at xs 0
unfolding write cell_bytes
none_yet s at xs = rw (append-nil, add-zero, take-append-drop)

pub one_more : (s : List ℕ) (at : ℕ) (xs : List ℕ) (k : ℕ) → at + 8 * length xs ≤ length s → k < length xs
    → write (written s at xs k) (at + 8 * k) (bytes_of (get_or xs k 0)) ≡ written s at xs (k + 1)
unfolding cell_bytes
one_more s at xs k h l =
    let n : length (cell_bytes (take k xs)) ≡ 8 * k = bytes_length (take k xs) ∙ simp length-take (omega arith) in
    let p : at + (length (cell_bytes (take k xs)) + length (bytes_of (get_or xs k 0))) ≤ length s = rw (n, bytes_of_length) (omega arith) in
    rw (take_more xs k 0 l, bytes_append, append-nil) (rw n at (write_write s (cell_bytes (take k xs)) (bytes_of (get_or xs k 0)) at p))

-- a record's cells, all eight of them
pub all_eight : (s : List ℕ) (at : ℕ) (xs : List ℕ) (k : ℕ) (r : Record) → xs ≡ record_cells r → k ≡ 8 → written s at xs k ≡ write s at (record_bytes r)
unfolding cell_bytes record_bytes
all_eight s at xs k r e n = rw (e, n) (simp (append_assoc, append-nil))
