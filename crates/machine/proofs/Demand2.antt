-- Demand 2: the bytes that an accepted call leaves are a list that obeys the System V ABI.
use Prim.Native.Nat.{ℕ, zero, suc, ◌+◌, ◌<◌, ◌≤◌}
use mathlib.Core.Path.{◌≡◌, refl, sym, ap, ◌∙◌, subst}
use mathlib.Core.Logic.{◌⊎◌, inl, inr}
use mathlib.Core.Bool.{Bool, true, false, cond}
use mathlib.Core.List.{List, [], ◌∷◌, ◌++◌, append_assoc, append-nil}
use lib.ListN.{length, get_or, drop, drop_of_length-le, get_or-append}
use lib.Seq.{drop-cons}
use native.Mathlib.Omega.{arith}
use Rattle.ir.specs.declared.VarId.{VarId}
use Rattle.ir.specs.declared.Operand.{Operand as IrOp}
use Rattle.ir.specs.declared.Instr.{Instr}
use Rattle.ir.specs.Function.{Function, Line, Tables, tables_of, function_of}
use Rattle.x86.specs.declared.enums.Size.{Size}
use Rattle.x86.specs.declared.enums.Operand.{Operand}
use Rattle.x86.specs.declared.enums.BinOp.{BinOp}
use Rattle.x86.specs.declared.enums.Instruction.{Instruction}
use Rattle.x86.specs.Registers.{RSP}
use Rattle.codegen.specs.Instructions.{func_epilogue}
use Rattle.codegen.specs.Generation.{accepted, ends_in_ret, generate_instr, lowered, records_after}
use Rattle.machine.specs.Machine.{run, pass}
use Rattle.machine.specs.Frames.{depth, frame_size}
use Rattle.machine.specs.Simulation.{context_for, records_of_lines, place}
use Rattle.machine.specs.Calls.{Naming, InSlots, Names, NamesOne, Fetches, Pushes, pushed, no_line, no_record, zeroing, Addressed, Obeys, HasAll, Demand2}
use Rattle.machine.proofs.Run.{All, cons_not_nil}
use Rattle.machine.proofs.Slots.{framed}
use Rattle.machine.proofs.Frame.{total_is, frame_is}
use Rattle.machine.proofs.Accepted.{Accepted, records, front, whole, tail, code, accepted_list, nothing_left, place_zero, place_suc, place_drop, place_end, records_at}
use Rattle.machine.proofs.Generated.{Own, made_all, zeroing_is}
use Rattle.machine.proofs.Lines.{line_made_lem, front_made, stores_all}
use Rattle.machine.proofs.Every.{FewArguments, all_at}
use Rattle.machine.proofs.Arguments.{on_stack_lem}
use Rattle.machine.proofs.Kept.{code_is}
use Rattle.machine.proofs.Plainness.{Meant, meant}
use Rattle.machine.proofs.Inside.{params_inside, line_inside}
use Rattle.machine.proofs.Computing.{Computing, code_computing}
use Rattle.machine.proofs.Obeys.{obeys, obeys_run}
use Rattle.machine.proofs.Sheet.{small, few_params, few_args, small_lines, generated, plain_all, decodes}

-- ---- the list

-- a record of a part of a list
part_at : (P : Instruction → Type 0) (p : ℕ) (a b c : List Instruction) (j : ℕ) (d : Instruction) → drop p c ≡ a ++ b → All P a → p ≤ j → j < p + length a
    → P (get_or c j d)
part_at P zero a b c j d e h k l =
    subst P (sym (ap (λ (x : List Instruction). get_or x j d) e ∙ get_or-append a b d j (omega arith))) (all_at P a j d h (omega arith))
part_at P (suc p) [] b [] j d e h k l = absurd (omega arith)
part_at P (suc p) (i ∷ a) b [] j d e h k l = absurd (cons_not_nil (sym e))
part_at P (suc p) a b (x ∷ c) zero d e h k l = absurd (omega arith)
part_at P (suc p) a b (x ∷ c) (suc j) d e h k l = part_at P p a b c j d e h (omega arith) (omega arith)

module _ (tables : Tables) (F : Function) (a : Accepted tables F) where
  -- the addresses of an instruction's records: slots, and places of arguments on the stack
  abbrev Line-slots : Instr → List IrOp → Instruction → Type 0
  Line-slots i args j = InSlots F.vars (Names tables i args) j ⊎ Pushes (pushed i args) j

  own_slots : (i : Instr) (args : List IrOp) → Own ⊥ (Line-slots i args) i args
  own_slots (Instr.Copy d x) args = tt
  own_slots (Instr.Unary d op x) args = tt
  own_slots (Instr.Binary d op x y) args = tt
  own_slots (Instr.Cast d x) args = tt
  own_slots (Instr.Zero d) args = tt
  own_slots (Instr.Call d f count) args =
      record {
        calls = inl tt;
        lowers = λ n q. inl (tt, tt);
        raises = λ n q. inl (tt, tt);
        puts = λ j k q. inr (j, omega (arith, ap length (on_stack_lem args)), refl);
      }
  own_slots (Instr.Label l) args = inl tt
  own_slots (Instr.Jump l) args = tt
  own_slots (Instr.JumpIfNot x l) args = tt
  own_slots (Instr.Return x) args = tt
  own_slots Instr.Comment args = tt

  epilogue_slots : (N : Naming) → All (InSlots F.vars N) func_epilogue
  epilogue_slots N = ((tt, tt), (tt, (tt, tt)))

  line_slots : (k : ℕ) (l : Line) (r : List Line) → drop k F.body ≡ l ∷ r → All (Line-slots l.instr l.args) (records tables F l)
  line_slots k l r d =
      let N : Naming = Names tables l.instr l.args in
      let (e₀, (e₁, (e₂, e₃))) = epilogue_slots N in
      made_all F.vars N ⊥ (Line-slots l.instr l.args) (λ i s. inl s.slots) tables (inl e₀, (inl e₁, (inl e₂, e₃))) l.instr l.args (records tables F l)
      (λ q. absurd q) (own_slots l.instr l.args) (line_made_lem tables F a ⊥ k l r (λ q. absurd q) d)

  -- .. of the prologue's records: slots, and places of parameters on the caller's stack
  abbrev Front-slots : Instruction → Type 0
  Front-slots j = InSlots F.vars (NamesOne F.params) j ⊎ Fetches F.params j

  front_slots : All Front-slots (front tables F)
  front_slots =
      rw (front_made tables F a).is (
        inl tt,
        (
          inl (tt, tt),
          (
            inl (tt, tt),
            stores_all tables F a ⊥ Front-slots (λ i s. inl s.slots)
                (record { by_mov = λ j z h e. inr (j, h, inl (z, e, refl)); by_movzx = λ j h e. inr (j, h, inr (sym e, refl)) }),
          ),
        ),
      )

  tail_slots : All (InSlots F.vars (λ written v w. ⊥)) (tail tables F)
  tail_slots = go (ends_in_ret (whole tables F))
    where
      go : (b : Bool) → All (InSlots F.vars (λ written v w. ⊥)) (cond b [] func_epilogue)
      go true = tt
      go false = epilogue_slots (λ written v w. ⊥)

  line_zeroes : (k : ℕ) (l : Line) (r : List Line) (d : VarId) → drop k F.body ≡ l ∷ r → l.instr ≡ Instr.Zero d → records tables F l ≡ zeroing F.vars d
  unfolding generate_instr
  line_zeroes k l r d e q =
      (zeroing_is tables F.vars (λ written v w. ⊥) ⊥ d).of (records tables F l)
      (ap (λ (i : Instr). generate_instr (context_for tables F) F.labels F.ret i l.args) (sym q) ∙ a.lines k l r e)

  code_slots : Addressed tables F (code tables F)
  unfolding code
  code_slots =
      record {
        prologue = λ j h.
            part_at Front-slots 0 (front tables F) _ (code tables F) j no_record
            (append_assoc (front tables F) (records_of_lines tables F F.body) (tail tables F)) front_slots (omega arith)
            (omega (arith, place_zero tables F));
        line = λ k j h f g.
            let l : Line = get_or F.body k no_line in
            let d : drop k F.body ≡ l ∷ drop (suc k) F.body = drop-cons F.body k no_line h in
            part_at (Line-slots l.instr l.args) (place tables F k) (records tables F l) _ (code tables F) j no_record
            (records_at tables F k d) (line_slots k l (drop (suc k) F.body) d) f (omega (arith, place_suc tables F k d));
        zeroes = λ k d h q.
            let l : Line = get_or F.body k no_line in
            let e : drop k F.body ≡ l ∷ drop (suc k) F.body = drop-cons F.body k no_line h in
            let r : List Instruction = records_of_lines tables F (drop (suc k) F.body) ++ tail tables F in
            (r, records_at tables F k e ∙ ap (λ (b : List Instruction). b ++ r) (line_zeroes k l (drop (suc k) F.body) d e q));
        epilogue = λ j f g.
            let e : records_of_lines tables F (drop (length F.body) F.body) ≡ [] =
            ap (records_of_lines tables F) (drop_of_length-le F.body {i = length F.body} (omega arith)) ∙ nothing_left tables F in
            part_at (InSlots F.vars (λ written v w. ⊥)) (place tables F (length F.body)) (tail tables F) [] (code tables F) j no_record
            (place_drop tables F (length F.body) ∙ ap (λ (b : List Instruction). b ++ tail tables F) e ∙ sym (append-nil (tail tables F))) tail_slots f
            (omega (arith, place_end tables F (length F.body) e));
      }

  -- the third record makes the frame
  code_frame : get_or (code tables F) 2 (Instruction.Label 0) ≡ Instruction.Binary BinOp.Sub (Operand.Reg RSP) (Operand.Imm (frame_size F.vars)) Size.NoSize
  code_frame =
      ap (λ (l : List Instruction). get_or l 2 (Instruction.Label 0)) (code_is tables F a)
      ∙ ap (λ (n : ℕ). Instruction.Binary BinOp.Sub (Operand.Reg RSP) (Operand.Imm n) Size.NoSize) (frame_is F.vars)

-- ---- the theorem

pub demand2 : (tables sheet old : List ℕ) (is : List Instruction) → lowered tables sheet (length old) ≡ accepted is
    → Demand2 tables sheet (records_after (lowered tables sheet (length old)) old) (length is)
demand2 tables sheet old is e =
    let T : Tables = tables_of tables in
    let F : Function = function_of sheet in
    let (a, c) = accepted_list T F is (generated tables sheet (length old) is e) in
    let total : depth F.vars ≤ 1048576 = omega (arith, small tables sheet (length old) is e, total_is F.vars) in
    let params : length F.params ≤ 256 = few_params tables sheet (length old) is e in
    let args : FewArguments F = few_args tables sheet (length old) is e in
    record {
      list = is;
      decoded = decodes tables sheet (length old) is e old;
      framed = framed F.vars total;
      based = λ s₀ h. omega (arith, h.aligned);
      frame = ap (λ (l : List Instruction). get_or l 2 (Instruction.Label 0)) c ∙ code_frame T F a;
      slots = subst (Addressed T F) (sym c) (code_slots T F a);
      computing = λ j h. all_at Computing is j no_record (subst (All Computing) (sym c) (code_computing T F total (small_lines tables sheet (length old) is e) a)) h;
      within = λ p.
          let m : Meant F = meant F (plain_all tables sheet (length old) is e p) in
          record {
            prologue = params_inside T F F.params m.params;
            line = λ k h.
                let l : Line = get_or F.body k no_line in
                line_inside T F l.instr l.args (m.lines k l (drop (suc k) F.body) (drop-cons F.body k no_line h));
          };
      obeys = λ o s₀ h. subst (λ (l : List Instruction). Obeys T F l (λ m. run l o m s₀) (λ a b. Unit {0}) s₀) (sym c) (obeys_run T F total params args a o s₀ h);
      passes = λ o s₀ h. subst (λ (l : List Instruction). Obeys T F l (λ m. pass l o m s₀) (HasAll l (λ m. pass l o m s₀)) s₀) (sym c) (obeys T F total params args a o s₀ h);
    }
