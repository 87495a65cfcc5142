-- Believed: the plain test's answer, no number for yes (docs/FORMAT.md, "Plain functions").
use Rattle.std.specs.Prelude.{ℕ, Some, None}
use Rattle.std.specs.Prelude as std
use Rattle.std.proofs.Math.Option.{Option, none, some}

abbrev pub plain_says : std.Option ℕ → Option ℕ
plain_says None = none
plain_says (Some k) = some k
