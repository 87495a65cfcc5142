-- The bounds that the code gives for short and for small constants are those of the definitions.
use Rattle.std.proofs.Common.{◌≡◌, ℕ, ◌^◌, refl}
use Rattle.machine.specs.Plain.{is_short, is_small}
use Rattle.plain.specs.Parts.{lies_below}

pub below_short_end : (v : ℕ) → lies_below (2 ^ 32) v ≡ is_short v
below_short_end v = refl

pub below_small_end : (v : ℕ) → lies_below (2 ^ 31) v ≡ is_small v
below_small_end v = refl
