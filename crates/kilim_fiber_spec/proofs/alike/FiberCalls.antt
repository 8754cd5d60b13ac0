-- The calls of the fiber's members that woven code makes.
use Rattle.std.proofs.Common.{◌≡◌, ℕ, Bool, true, List, [], ◌∷◌, length, Option, Some, refl, ap, ◌∙◌}
use Rattle.std.specs.Prelude.{reverse, codes, if◌then◌else◌, slice_get}
use Rattle.kilim_program.specs.declared.class.Method.{Method}
use Rattle.kilim_program.specs.declared.instr.Instr.TheVariants as instr
use Rattle.kilim_program.specs.declared.names.MethodId.{MethodId}
use Rattle.kilim_program.specs.declared.ty.Ty.{Ty}
use Rattle.kilim_program.specs.declared.value.Value.{Value}
use Rattle.kilim_program.specs.declared.value.Value.TheVariants as value
use Rattle.kilim_program.specs.Program.{Program}
use Rattle.kilim_run_state.specs.Machine.{Objects}
use Rattle.kilim_program.specs.Names.{class_name, method_at}
use Rattle.kilim_run_machine.specs.Effect.{Effect, Asks, Calls, with_some, on_value, on_values, as_class}
use Rattle.kilim_program.specs.Members.{named_type}
use Rattle.kilim_run_machine.specs.Does.{does, calls_method, calls_on, calls_text, takes_element}
use Rattle.kilim_run_machine.specs.Natives.{is_text_method, is_handed_out}
use Rattle.kilim_weave_spec.specs.Woven.{member}
use Rattle.kilim_run_machine.specs.Natives.{FiberMember, Pc, Down, Up, Save, Place, Restore, Receiver}
use Rattle.kilim_fiber_spec.specs.alike.Shares.{IsMember, size_of}
use Rattle.kilim_fiber_spec.specs.Form.{members_in_order, takes_alone, Members}
use Rattle.kilim_fiber_spec.proofs.alike.Handed.{asks_other, asks_handed}

module _ (W : Program) (own : Method) (fiber : Ty) (fiber_is : named_type W (codes "kilim/Fiber") ≡ Some fiber) (id : MethodId) (nx : ℕ) (l s : List Value) (heap : Objects) where
  calls_is : (size : ℕ) (k : FiberMember) → IsMember W id size k fiber → (args r : List Value) → calls_method (method_at W id) id args nx l r heap ≡ Asks id args nx l r heap
  calls_is size k m args r =
      ap (λ (o : Option Method). calls_method o id args nx l r heap) m.there
      ∙ ap (λ (d : Effect). if m.method.built_in then d else Calls id args nx l r heap) (asks_other m.method id args nx l r heap (asks_handed (class_name W m.method.owner) m.method m.handed_out))
      ∙ ap (λ (b : Bool). if b then Asks id args nx l r heap else Calls id args nx l r heap) m.built_in

  pub alone_does : (k : FiberMember) → IsMember W id 0 k fiber → does W own (instr.Invokevirtual id) nx l (value.Fiber ∷ s) heap ≡ Asks id (value.Fiber ∷ []) nx l s heap
  unfolding does
  alone_does k m =
      ap (λ (o : Option Method). with_some o (λ method. on_values (length method.params) (value.Fiber ∷ s) (λ args below. on_value below (λ receiver rest. if is_text_method W method then calls_text method (reverse args) nx l rest heap receiver else as_class W receiver heap (calls_on W method id (reverse args) nx l rest heap receiver))))) m.there
      ∙ ap (λ (t : Bool). on_values (length m.method.params) (value.Fiber ∷ s) (λ args below. on_value below (λ receiver rest. if t then calls_text m.method (reverse args) nx l rest heap receiver else as_class W receiver heap (calls_on W m.method id (reverse args) nx l rest heap receiver)))) m.no_text
      ∙ ap (λ (n : ℕ). on_values n (value.Fiber ∷ s) (λ args below. on_value below (λ receiver rest. as_class W receiver heap (calls_on W m.method id (reverse args) nx l rest heap receiver)))) m.size_is
      ∙ ap (λ (o : Option Ty). calls_on W m.method id [] nx l s heap value.Fiber o) fiber_is
      ∙ ap (λ (c : MethodId). calls_method (method_at W c) c (value.Fiber ∷ []) nx l s heap) m.chosen_is ∙ calls_is 0 k m (value.Fiber ∷ []) s

  abbrev static_by : Method → Bool → List Value → Effect
  static_by method t st = if t then on_values (length method.params) st (λ args rest. Asks id (reverse args) nx l rest heap) else (if method.built_in then takes_element nx l st heap else on_values (length method.params) st (λ args rest. Calls id (reverse args) nx l rest heap))

  static_is : (size : ℕ) (k : FiberMember) (m : IsMember W id size k fiber) (st : List Value) → does W own (instr.Invokestatic id) nx l st heap ≡ on_values size st (λ args rest. Asks id (reverse args) nx l rest heap)
  unfolding does
  static_is size k m st =
      ap (λ (o : Option Method). with_some o (λ method. static_by method (is_handed_out W method) st)) m.there
      ∙ ap (λ (t : Bool). static_by m.method t st) m.handed_out
      ∙ ap (λ (n : ℕ). on_values n st (λ args rest. Asks id (reverse args) nx l rest heap)) m.size_is

  pub save_does : (k : FiberMember) (v : Value) → IsMember W id 2 k fiber → does W own (instr.Invokestatic id) nx l (value.Fiber ∷ v ∷ s) heap ≡ Asks id (v ∷ value.Fiber ∷ []) nx l s heap
  save_does k v m = static_is 2 k m (value.Fiber ∷ v ∷ s)

  pub place_does : (k : FiberMember) (v y : Value) → IsMember W id 3 k fiber → does W own (instr.Invokestatic id) nx l (value.Fiber ∷ y ∷ v ∷ s) heap ≡ Asks id (v ∷ y ∷ value.Fiber ∷ []) nx l s heap
  place_does k v y m = static_is 3 k m (value.Fiber ∷ y ∷ v ∷ s)

pub members_from : (P W : Program) (fiber : Ty) → named_type W (codes "kilim/Fiber") ≡ Some fiber → ((n : ℕ) (k : FiberMember) → slice_get members_in_order n ≡ Some k → IsMember W (member P n) (size_of k) k fiber) → Members P W
members_from P W fiber e is = record {
  named = λ n k h. (is n k h).kind;
  alone = λ n k h a own nx l s heap. by n k (is n k h) a own nx l s heap;
  save = λ n h own nx v l s heap. save_does W own fiber e (member P n) nx l s heap Save v (is n Save h);
  place = λ own nx v y l s heap. place_does W own fiber e (member P 6) nx l s heap Place v y (is 6 Place refl);
}
  where
    by : (n : ℕ) (k : FiberMember) → IsMember W (member P n) (size_of k) k fiber → takes_alone k ≡ true → (own : Method) (nx : ℕ) (l s : List Value) (heap : Objects) → does W own (instr.Invokevirtual (member P n)) nx l (value.Fiber ∷ s) heap ≡ Asks (member P n) (value.Fiber ∷ []) nx l s heap
    by n Pc m a own nx l s heap = alone_does W own fiber e (member P n) nx l s heap Pc m
    by n Down m a own nx l s heap = alone_does W own fiber e (member P n) nx l s heap Down m
    by n Up m a own nx l s heap = alone_does W own fiber e (member P n) nx l s heap Up m
    by n Restore m a own nx l s heap = alone_does W own fiber e (member P n) nx l s heap Restore m
    by n Receiver m a own nx l s heap = alone_does W own fiber e (member P n) nx l s heap Receiver m
    by n Save m a own nx l s heap = absurd (cc)
    by n Place m a own nx l s heap = absurd (cc)
