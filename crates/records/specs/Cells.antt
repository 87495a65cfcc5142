-- Auxiliary: the cells of a record as a list.
use Rattle.std.specs.Prelude.{ℕ, List, [], ◌∷◌}
use Rattle.x86.specs.Records.{Record}

-- the eight cells, in the order in which they are written
abbrev pub record_cells : Record → List ℕ
record_cells r = r.form ∷ r.operation ∷ r.dst_tag ∷ r.dst ∷ r.src_tag ∷ r.src ∷ r.size ∷ r.src_size ∷ []
