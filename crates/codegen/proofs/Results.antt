-- What holds of every value that a part of the lowering yields, and by which numbers it refuses, put together along its binds.
use Prim.Native.Nat.{ℕ, ◌≤◌}
use mathlib.Core.Path.{◌≡◌, refl, subst}
use mathlib.Core.Bool.{Bool, true, false, cond}
use native.Mathlib.Omega.{arith}
use lib.Dec.{leb}
use borrow.Author.Tests.{leb-true}
use Rattle.ir.specs.Types.{Result, ok, refused, ◌>>=◌}

-- P holds of the value, if there is one
pub record Yields {A : Type 0} (r : Result A) (P : A → Type 0) : Type 0 where
  pub of : (a : A) → r ≡ ok a → P a

pub never : {A : Type 0} {a : A} {n : ℕ} → refused n ≡ ok a → ⊥
never e = let z : ◌≡◌ {A = ℕ} 0 1 = cc in omega arith

pub yields : {A : Type 0} {P : A → Type 0} {a : A} → P a → Yields (ok a) P
yields {A} {P} h = record { of = λ b e. subst P (let z = e in cc) h }

pub refuses : {A : Type 0} {P : A → Type 0} (n : ℕ) → Yields (refused n) P
refuses n = record { of = λ b e. absurd (never e) }

-- of a value of which nothing is asked
pub any : {A : Type 0} (r : Result A) → Yields r (λ a. Unit {0})
any r = record { of = λ a e. tt }

pub bind : {A B : Type 0} {r : Result A} {f : A → Result B} {P : A → Type 0} {Q : B → Type 0} → Yields r P → ((a : A) → P a → Yields (f a) Q) → Yields (r >>= f) Q
bind {A} {B} {r} {f} {P} {Q} h k = go r refl
  where
    go : (q : Result A) → r ≡ q → Yields (q >>= f) Q
    go (ok a) e = k a (h.of a e)
    go (refused n) e = refuses n

pub weaken : {A : Type 0} {r : Result A} {P Q : A → Type 0} → Yields r P → ((a : A) → P a → Q a) → Yields r Q
weaken h k = record { of = λ a e. k a (h.of a e) }

-- one of two, by a test
pub choose : {A : Type 0} {P : A → Type 0} {r q : Result A} (b : Bool) → (b ≡ true → Yields r P) → (b ≡ false → Yields q P) → Yields (cond b r q) P
choose true h k = h refl
choose false h k = k refl

-- .. and where only one of them yields
pub guard : {A : Type 0} {P : A → Type 0} {r : Result A} (n : ℕ) (b : Bool) → (b ≡ true → Yields r P) → Yields (cond b r (refused n)) P
guard n b h = choose b h (λ e. refuses n)

-- ---- the refusals too

-- the numbers by which the lowering refuses (docs/FORMAT.md, "Refusals"); 8 no longer occurs (M-112)
abbrev pub FourToSeven : ℕ → Type 0
FourToSeven n = (4 ≤ n) × (n ≤ 7)

-- a value of which P holds, or a refusal by one of these numbers
pub data Closed {A : Type 0} (P : A → Type 0) : Result A → Type 0 where
  gives : {a : A} → P a → Closed P (ok a)
  slips : {n : ℕ} → FourToSeven n → Closed P (refused n)

-- .. of a value of which nothing is asked
abbrev pub Slips : {A : Type 0} → Result A → Type 0
Slips r = Closed (λ a. Unit {0}) r

pub fine : {A : Type 0} {a : A} → Slips (ok a)
fine = gives tt

pub slip : {A : Type 0} {P : A → Type 0} (n : ℕ) → leb 4 n ≡ true → leb n 7 ≡ true → Closed P (refused n)
slip n g h = slips (leb-true 4 n g, leb-true n 7 h)

-- a part, and what follows from what it found
pub look : {A B : Type 0} {r : Result A} {f : A → Result B} {Q : B → Type 0} → Slips r → ((a : A) → r ≡ ok a → Closed Q (f a)) → Closed Q (r >>= f)
look (gives h) k = k _ refl
look (slips h) k = slips h

pub found : {A : Type 0} {r : Result A} → Slips r → Closed (λ a. r ≡ ok a) r
found (gives h) = gives refl
found (slips h) = slips h

pub implies : {A : Type 0} {P Q : A → Type 0} {r : Result A} → Closed P r → ((a : A) → P a → Q a) → Closed Q r
implies (gives h) k = gives (k _ h)
implies (slips h) k = slips h

pub either : {A : Type 0} {P : A → Type 0} {r q : Result A} (b : Bool) → (b ≡ true → Closed P r) → (b ≡ false → Closed P q) → Closed P (cond b r q)
either true h k = h refl
either false h k = k refl

pub values : {A : Type 0} {P : A → Type 0} {r : Result A} → Closed P r → Yields r P
values (gives h) = yields h
values (slips {n} h) = refuses n
