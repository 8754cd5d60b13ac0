-- The woven method, part by part.
use Rattle.std.proofs.Common.{◌≡◌, ℕ, suc, ◌+◌, Bool, true, false, List, [], ◌∷◌, ◌++◌, length, refl, ap, sym, subst, ◌∙◌, arith}
use Rattle.std.specs.Prelude.{if◌then◌else◌}
use Rattle.kilim_program.specs.declared.class.Method.{Method}
use Rattle.kilim_program.specs.declared.instr.Instr.{Instr}
use Rattle.kilim_program.specs.declared.ty.Qualifier.TheVariants.{Safe}
use Rattle.kilim_program.specs.declared.verified.Frame.{Frame}
use Rattle.kilim_program.specs.declared.verified.VType.{VType}
use Rattle.kilim_program.specs.BuiltIn.{class_type}
use Rattle.kilim_program.specs.Program.{Program}
use Rattle.kilim_type_spec.specs.Step.{class_vtype}
use Rattle.kilim_weave_spec.specs.Woven.{Item, added_types, behind, fiber, fiber_slot, lay, marks, woven_items, woven_method}
use Rattle.kilim_weave_method.specs.Laid.{IsLaid, Output}
use Rattle.kilim_weave_laws.specs.woven_program.Made.{made_as, method_plan}
use Rattle.kilim_weave_method.specs.declared.method.Slots.{Slots}
use Rattle.kilim_weave_method.specs.Flags.{AreSlots}

abbrev pub made_of : Method → (class max_locals end : ℕ) → List (ℕ × Instr) → List (ℕ × Frame) → Method
made_of m class max_locals end code frames = record m {
  params = m.params ++ class_type class ∷ [];
  qualifiers = m.qualifiers ++ Safe ∷ [];
  max_stack = m.max_stack + 4;
  max_locals = max_locals;
  code_length = end;
  code = code;
  frames = frames;
}

locals_are : (b : Bool) (slot receiver : ℕ) (f t : VType) → receiver ≡ suc slot → (if b then receiver else receiver + 1) ≡ slot + length (f ∷ (if b then [] else t ∷ []))
locals_are true slot receiver f t e = omega (arith, e)
locals_are false slot receiver f t e = omega (arith, e)

pub woven_is : (p : Program) (m : Method) (live : ℕ → ℕ → Bool) (s : Slots) (b : Output) (r : Method × List Bool) → AreSlots p m s → IsLaid (woven_items (method_plan p m live)) b
    → r.0 ≡ made_of m s.class (if m.is_static then s.receiver else s.receiver + 1) b.end b.code b.frames → r.1 ≡ b.counted → r ≡ made_as true true p m live
woven_is p m live s b r slots laid method counted =
    let x = method_plan p m live in
    let locals = if m.is_static then s.receiver else s.receiver + 1 in
    let locals_is : locals ≡ fiber_slot m + length (added_types x) = locals_are m.is_static (fiber_slot m) s.receiver (fiber p) (class_vtype m.owner) slots.receiver in
    let e : r.0 ≡ woven_method x =
    method
    ∙ (ap (λ (n : ℕ). made_of m n locals b.end b.code b.frames) slots.class
    ∙ (ap (λ (n : ℕ). made_of m (length p.classes) n b.end b.code b.frames) locals_is
    ∙ (ap (λ (n : ℕ). made_of m (length p.classes) (fiber_slot m + length (added_types x)) n b.code b.frames) laid.end
    ∙ (ap (λ (c : List (ℕ × Instr)). made_of m (length p.classes) (fiber_slot m + length (added_types x)) (behind 0 (woven_items x)) c b.frames) laid.code
    ∙ ap (λ (f : List (ℕ × Frame)). made_of m (length p.classes) (fiber_slot m + length (added_types x)) (behind 0 (woven_items x)) (lay 0 (woven_items x)) f) laid.frames)))) in
    let c : r.1 ≡ marks (woven_items x) = counted ∙ laid.counted in
    ap (λ (w : Method). let y : Method × List Bool = (w, r.1) in y) e ∙ ap (λ (bs : List Bool). let y : Method × List Bool = (woven_method x, bs) in y) c
