-- What an accepted call leaves: a sheet of the other edition, of the same function, which goes back into the first bytes.
use Rattle.std.proofs.Common.{◌≡◌, ℕ, ◌*◌, List, ◌++◌, length, take, drop, refl, sym, ap, ◌∙◌, arith}
use Rattle.std.proofs.Math.Seq.{take_at}
use Rattle.cells.specs.Cells.{cell_bytes, Bytes}
use Rattle.cells.specs.Outcomes.{Outcome, accepted, refused, amount}
use Rattle.cells.proofs.Lists.{bytes_length}
use Rattle.layout.specs.declared.Edition.{Edition}
use Rattle.edition.specs.Editions.{converted, output_after}
use Rattle.edition.specs.RoundTrip.{Kept}
use Rattle.edition.specs.Meaning.{Means}
use Rattle.edition.proofs.Back.{round_trip}
use Rattle.edition.proofs.Same.{same_function}

-- the bytes of the result
pub record Wrote (e : Edition) (s old new : List ℕ) (n : ℕ) : Type 0 where
  pub cells : List ℕ
  pub is : converted e s (length old) ≡ accepted cells
  pub first : take (8 * n) new ≡ cell_bytes cells

pub wrote : (e : Edition) (s old new : List ℕ) {n : ℕ} → accepted n ≡ amount length (converted e s (length old)) → new ≡ output_after (converted e s (length old)) old → Wrote e s old new n
unfolding output_after
wrote e s old new {n} p q = go (converted e s (length old)) refl p q
  where
    go : (x : Outcome (List ℕ)) → converted e s (length old) ≡ x → accepted n ≡ amount length x → new ≡ output_after x old → Wrote e s old new n
    go (accepted xs) i p q =
        let l : n ≡ length xs = let z = p in cc in
        record { cells = xs; is = i; first = rw (q, l) (take_at (cell_bytes xs) (drop (8 * length xs) old) (8 * length xs) (bytes_length xs)) }
    go (refused m k) i p q = let z : ◌≡◌ {A = ℕ} 0 1 = cc in absurd (omega arith)

-- the cells xs of the result are at the start of the output
module _ (e : Edition) (s : List ℕ) (room : ℕ) (xs : List ℕ) (bytes : Bytes s) (is : converted e s room ≡ accepted xs)
    (n : ℕ) (count : n ≡ length xs) (new rest : List ℕ) (written : new ≡ cell_bytes xs) where
  first : take (8 * n) (new ++ rest) ≡ cell_bytes xs
  first = rw (written, count) (take_at (cell_bytes xs) rest (8 * length xs) (bytes_length xs))

  pub kept : Kept e s (new ++ rest) n
  unfolding output_after
  kept =
      let r = round_trip e s room xs bytes is in
      record {
        laid = rw first r.laid;
        back =
            λ buffer l.
            let m : 8 * length r.first ≡ length s = sym (bytes_length r.first) ∙ ap length r.bytes in
            rw (first, r.back (length buffer) l, r.bytes, m) refl;
      }

  pub means : Means e s (new ++ rest) n
  means = rw first (same_function e s room xs bytes is)
