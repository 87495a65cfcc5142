-- Auxiliary: a cast's parts as the code holds them. Codegen's `cast_operand`, `widened` and `cast_between` are these, by `cast_looked`, and its `zero_extended` by `zero_extended_looked` (proofs/Casts).
use Rattle.std.specs.Prelude.{ℕ, Bool, cond, not, ◌&&◌, List, [], ◌∷◌, ◌++◌, eqb, Option, Some, None}
use Rattle.ir.specs.declared.VarId.{VarId}
use Rattle.ir.specs.declared.Operand.{Operand as IrOp}
use Rattle.ir.specs.Types.{Result, ok, ◌>>=◌, operand_size}
use Rattle.x86.specs.declared.enums.Size.{Size}
use Rattle.x86.specs.declared.enums.Operand.{Operand}
use Rattle.x86.specs.declared.enums.ConvOp.{ConvOp}
use Rattle.x86.specs.declared.enums.ExtendOp.{ExtendOp}
use Rattle.x86.specs.declared.enums.Instruction.{Instruction}
use Rattle.x86.specs.Registers.{xmm, RAX}
use Rattle.codegen.specs.Context.{Context}
use Rattle.codegen.specs.Utils.{size_from, var_size, convert_operand}
use Rattle.codegen.specs.Frame.{store_of}
use Rattle.codegen.specs.Instructions as spec
use Rattle.codegen.specs.Instructions.{source, is_copy}
use Rattle.utils.specs.declared.kinds.Kind.{Kind}
use Rattle.utils.specs.declared.slots.Slot.{Slot}
use Rattle.utils.specs.Kinds.{kind_says}
use Rattle.utils.specs.Sources.{load_of}
use Rattle.utils.specs.Slots.{look_slot}
use Rattle.casts.specs.declared.Source.{Source}

-- ---- the source

-- the size by which a constant is loaded into RAX
abbrev pub constant_size : IrOp → Option Size
constant_size (IrOp.Var v) = None
constant_size (IrOp.Int n short unsigned) = Some (operand_size (IrOp.Int n short unsigned))
constant_size (IrOp.Float k) = None
constant_size (IrOp.Bool b) = Some (operand_size (IrOp.Bool b))
constant_size (IrOp.Address v) = None
constant_size (IrOp.DataAddress k) = None
constant_size IrOp.Null = None

-- an operand of a kind, by what it is converted to
abbrev pub source_from : IrOp → Kind → Operand → Source
source_from op k x = record { operand = x; constant = constant_size op; kind = k }

-- one byte that is no float
abbrev pub is_byte : Kind → Bool
is_byte k = not k.float && eqb k.size 1

-- it is widened with zeros
abbrev pub movzx : Operand → Instruction
movzx x = Instruction.Extend ExtendOp.Movzx RAX x Size.U8 Size.U64

-- a constant's load
abbrev pub load_records : Option Size → Operand → List Instruction
load_records None x = []
load_records (Some z) x = load_of RAX x z ∷ []

-- where a constant is then, and any other operand
abbrev pub loaded : Option Size → Operand → Operand
loaded None x = x
loaded (Some z) x = Operand.Reg RAX

-- a constant's load, then Movzx of one byte
unfoldable pub source_records : Source → List Instruction
source_records s = load_records s.constant s.operand ++ cond (is_byte s.kind) (movzx (loaded s.constant s.operand) ∷ []) []

-- the operand that is converted once these have run
abbrev pub source_operand : Source → Operand
source_operand s = cond (is_byte s.kind) (Operand.Reg RAX) (loaded s.constant s.operand)

-- its size in bytes
abbrev pub source_size : Source → ℕ
source_size s = cond (is_byte s.kind) 8 s.kind.size

-- the source in codegen's words
abbrev pub source_says : Source → spec.Source
source_says s = source (source_records s) (source_operand s) (source_size s)

-- ---- the conversion

-- one of two, by a float's size in bytes
abbrev pub by_width : ℕ → ConvOp → ConvOp → ConvOp
by_width n eight four = cond (eqb n 8) eight four

-- four bytes are widened with their sign
abbrev pub movsxd : Operand → Instruction
movsxd x = Instruction.Extend ExtendOp.Movsxd RAX x Size.U32 Size.U64

-- the record that converts the source, if there is one
abbrev pub conversion_of : Source → Kind → VarId → Result (Option Instruction)
conversion_of s to dest =
    cond to.float
    (cond s.kind.float
    (ok (Some (Instruction.Convert (by_width to.size ConvOp.Cvtss2sd ConvOp.Cvtsd2ss) (xmm 0) (source_operand s) Size.NoSize)))
    (size_from (source_size s) >>= λ z. ok (Some (Instruction.Convert (by_width to.size ConvOp.Cvtsi2sd ConvOp.Cvtsi2ss) (xmm 0) (source_operand s) z))))
    (cond s.kind.float
    (var_size dest >>= λ z. ok (Some (Instruction.Convert (by_width (source_size s) ConvOp.Cvttsd2si ConvOp.Cvttss2si) RAX (source_operand s) z)))
    (ok (cond (eqb (source_size s) 8) None (Some (movsxd (source_operand s))))))

-- ---- the cast

-- the low bytes are enough
unfoldable pub is_copied : Kind → Kind → Bool
is_copied from to = is_copy (kind_says from) to.float to.size

-- a record that there may be
abbrev pub perhaps : Option Instruction → List Instruction
perhaps None = []
perhaps (Some i) = i ∷ []

-- a float is stored from XMM0, all else from RAX
abbrev pub store : Bool → Slot → Instruction
store float t = Instruction.Binary (store_of float) t.var (Operand.Reg (cond float (xmm 0) RAX)) t.size

-- the source's records, the conversion, and the store of its result
unfoldable pub cast_of : Source → Option Instruction → Instruction → List Instruction
cast_of s conversion last = source_records s ++ (perhaps conversion ++ last ∷ [])

-- .. behind their look-ups
unfoldable pub cast_made : Context → VarId → IrOp → Kind → Kind → Result (List Instruction)
cast_made ctx dest src k to = do
  x ← convert_operand ctx src
  conversion ← conversion_of (source_from src k x) to dest
  slot ← look_slot ctx dest
  ok (cast_of (source_from src k x) conversion (store to.float slot))
