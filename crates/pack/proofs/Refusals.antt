-- A pack's layout is refused by 13 alone, and a look-up by 13 or 5.
use Prim.Native.Nat.{ℕ, zero, suc, ◌+◌, ◌*◌}
use mathlib.Core.Path.{◌≡◌, refl, sym, ap, ◌∙◌}
use mathlib.Core.Bool.{Bool, true, false, cond}
use mathlib.Core.List.{List}
use mathlib.Core.Logic.{◌⊎◌, inl, inr}
use native.Mathlib.Omega.{arith}
use lib.Dec.{ltb}
use lib.ListN.{length}
use Rattle.cells.specs.Cells.{cells, largest, read_within, bind_cell}
use Rattle.cells.specs.declared.Cursor.{Cursor}
use Rattle.cells.specs.Cells.{Cell}
use Rattle.cells.specs.Refusals.{no_entry, bad_pack}
use Rattle.layout.specs.Limits.{most_sheets}
use Rattle.std.specs.Prelude.{Result, Ok, Err}
use Rattle.cells.specs.declared.refusals.Refusal.{Refusal}
use Rattle.cells.specs.declared.refusals.Refused.{Refused}
use Rattle.cells.specs.Refusals.{number_of_refusal}
use Rattle.layout.specs.Layout.{Checked, Limited, bind_limited, refuse}
use Rattle.layout.specs.Layout.{cursor, end_check}
use Rattle.codegen.specs.Generation.{accepted, refused, checked}
use Rattle.pack.specs.Pack.{pair_check, pairs_check, sheets_from, pack_check, sheet_count, sheet_at, look_up}
use Rattle.pack.proofs.LookUps.{looked_up}

-- an answer that is no refusal but 13
data Thirteen {A : Type 0} : Result A Refused → Type 0 where
  behind : {a : A} → Thirteen (Ok a)
  bad : (k : ℕ) → Thirteen (refuse Refusal.BadPack k)

module _ {A : Type 0} where
  either : {x y : Result A Refused} (b : Bool) → Thirteen x → Thirteen y → Thirteen (cond b x y)
  either true h k = h
  either false h k = k

  reads : (x : Cell) {f : ℕ → Cursor → Result A Refused} → ((v : ℕ) (c : Cursor) → Thirteen (f v c)) → Thirteen (bind_cell (refuse Refusal.BadPack) x f)
  reads (Ok x) h = h x.0 x.1
  reads (Err w) h = bad w.cell

  follows : {x : Limited} {f : ℕ → Cursor → Result A Refused} → Thirteen x → ((v : ℕ) (c : Cursor) → Thirteen (f v c)) → Thirteen (bind_limited Err x f)
  follows behind h = h _ _
  follows (bad k) h = bad k

one : (p : List ℕ) (from : ℕ) (c : Cursor) → Thirteen (pair_check p from c)
unfolding pair_check
one p from c =
    reads (read_within p c from from) (λ offset c1. reads (read_within p c1 0 largest) (λ size c2.
    either (ltb (cells p) (from + size)) (bad c1.at) behind))

pairs : (p : List ℕ) (n from : ℕ) (c : Cursor) → Thirteen (pairs_check p n from c)
unfolding pairs_check end_check
pairs p zero from c = either (ltb (from * 8) (length p)) (bad from) behind
pairs p (suc n) from c = follows (one p from c) (λ behind_it next. pairs p n behind_it next)

whole : (p : List ℕ) → Thirteen (pack_check p)
unfolding pack_check
whole p = reads (read_within p (cursor 0) 1 most_sheets) (λ count next. pairs p count (sheets_from count) next)

pub pack_refused : (p : List ℕ) {r : Refused} → pack_check p ≡ Err r → number_of_refusal r.refusal ≡ bad_pack
pack_refused p {r} e = go (whole p) e
  where
    go : {x : Checked} → Thirteen x → x ≡ Err r → number_of_refusal r.refusal ≡ bad_pack
    go behind e = let z : ◌≡◌ {A = ℕ} 0 1 = cc in absurd (omega arith)
    go (bad j) e = let l : r ≡ record { refusal = Refusal.BadPack; place = j } = cc in ap (λ (q : Refused). number_of_refusal q.refusal) l

pub look_up_refused : (p : List ℕ) (k : ℕ) {n j : ℕ} → look_up p k ≡ refused n j → (n ≡ no_entry) ⊎ (n ≡ bad_pack)
look_up_refused p k {n} {j} e = go (pack_check p) (ltb k (sheet_count p)) refl (sym (looked_up p k) ∙ e)
  where
    go : (x : Checked) (b : Bool) → pack_check p ≡ x → checked x (λ u. cond b (accepted (sheet_at p k)) (refused no_entry 0)) ≡ refused n j → (n ≡ no_entry) ⊎ (n ≡ bad_pack)
    go (Err r) b f e = inr (let l : n ≡ number_of_refusal r.refusal = let z = e in cc in l ∙ pack_refused p f)
    go (Ok c) true f e = let z : ◌≡◌ {A = ℕ} 0 1 = cc in absurd (omega arith)
    go (Ok c) false f e = inl (let z = e in sym (cc))
