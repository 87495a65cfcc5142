-- Auxiliary: what the code's answers say of an operand's kind, in the words of codegen's `operand_kind`.
use Rattle.ir.specs.declared.VarId.{VarId}
use Rattle.ir.specs.Types.{Result, ok, refused, ◌>>=◌, type_size, is_float, is_unsigned}
use Rattle.codegen.specs.Instructions as spec
use Rattle.codegen.specs.Instructions.{kind}
use Rattle.utils.specs.declared.kinds.Kind.{Kind}
use Rattle.std.specs.Prelude.{Ok, Err}
use Rattle.std.specs.Prelude as std
use Rattle.cells.specs.declared.refusals.Refusal.{Refusal}
use Rattle.cells.specs.Refusals.{number_of_refusal}

abbrev pub kind_says : Kind → spec.Kind
kind_says k = kind k.size k.float k.unsigned

abbrev pub kind_result_says : std.Result Kind Refusal → Result spec.Kind
kind_result_says (Ok k) = ok (kind_says k)
kind_result_says (Err r) = refused (number_of_refusal r)

-- `operand_kind` of a variable
abbrev pub var_kind : VarId → Result spec.Kind
var_kind v = type_size v.ty >>= λ n. ok (kind n (is_float v.ty) (is_unsigned v.ty))
