use Prim.Native.Nat.{◌*◌}
use mathlib.Core.Path.{ap, ◌∙◌}
use Rattle.pack.specs.declared.Pair.{Pair}
use Rattle.pack.specs.Pack.{part_at, moved}
use Rattle.pack.proofs.Tiles.{sheet_stands}
use Rattle.pack.proofs.LookUps.{sheet_inside}
use Rattle.pack.proofs.sheet_at.Goals as goal

pub pair_at-requires : goal.pair_at-requires
pair_at-requires c = (sheet_stands _ c.requires.0.is _ c.requires.1).there

pub part-requires : goal.part-requires
part-requires c = sheet_inside _ _ c.requires.0 c.requires.1 c.pair_at.ensures

pub returns : goal.returns
returns c =
    let a = c.args.pack in
    let e = c.pair_at.ensures in
    record { part = c.part.ensures.part ∙ ap (part_at a.now) e; own = c.part.ensures.own ∙ ap (λ (pair : Pair). moved a.ref_ptr (pair.offset * 8)) e }
