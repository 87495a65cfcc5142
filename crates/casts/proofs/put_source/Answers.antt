use mathlib.Core.Path.{sym, ◌∙◌}
use native.Mathlib.Omega.{arith}
use Rattle.x86.proofs.Lists.{puts, first, put, done, none}
use Rattle.casts.specs.Casts.{source_records}
use Rattle.casts.proofs.put_source.Goals as goal

pub returns-then-is_byte : goal.returns-then-is_byte
unfolding source_records
returns-then-is_byte c =
    let byte = sym c.is_byte.ensures ∙ c.if-is_byte.true in
    let h = rw (c.in-Some.is, byte) at c.requires in
    rw (c.in-Some.is, byte) (puts (first c.put_load.ensures (put (rw c.movzx.ensures at c.put_instruction.ensures) done)) (omega arith))

pub returns-else-is_byte : goal.returns-else-is_byte
unfolding source_records
returns-else-is_byte c =
    let byte = sym c.is_byte.ensures ∙ c.if-is_byte.false in
    let h = rw (c.in-Some.is, byte) at c.requires in
    rw (c.in-Some.is, byte) (puts (first c.put_load.ensures done) (omega arith))

pub returns-then-is_byte-2 : goal.returns-then-is_byte-2
unfolding source_records
returns-then-is_byte-2 c =
    let byte = sym c.is_byte-2.ensures ∙ c.if-is_byte-2.true in
    let h = rw (c.in_default.is, byte) at c.requires in
    rw (c.in_default.is, byte) (puts (first (rw c.movzx-then-is_byte-2.ensures at c.put_instruction-then-is_byte-2.ensures) done) (omega arith))

pub returns-else-is_byte-2 : goal.returns-else-is_byte-2
unfolding source_records
returns-else-is_byte-2 c = rw (c.in_default.is, sym c.is_byte-2.ensures ∙ c.if-is_byte-2.false) (none _ _)
