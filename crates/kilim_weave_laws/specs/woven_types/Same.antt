-- What a method and its woven form share, as far as types go.
use Rattle.std.specs.Prelude.{◌≡◌, ℕ, ◌≤◌, true, false, [], ◌∷◌, ◌++◌, Some}
use Rattle.kilim_program.specs.declared.class.Method.{Method}
use Rattle.kilim_program.specs.declared.names.ClassId.{ClassId}
use Rattle.kilim_program.specs.declared.verified.VType.{VType}
use Rattle.kilim_program.specs.Program.{Program}
use Rattle.kilim_program.specs.Names.{class_at}
use Rattle.kilim_program.specs.Same.{is_constructor}
use Rattle.kilim_program.specs.declared.names.MethodId.{MethodId}
use Rattle.kilim_program.specs.Names.{method_at}
use Rattle.kilim_type_spec.specs.Step.{assignable, made_at, superclass_at, text_type, object_type, throwable_type, may_make, may_name, special_fits}
use Rattle.kilim_weave_spec.specs.Woven.{fiber_ty}

pub record Shared (P W : Program) (m w : Method) (at : ℕ → ℕ) : Type 0 where
  pub assigns : (a b : VType) → assignable P a b ≡ true → assignable W a b ≡ true
  pub above : superclass_at (class_at W m.owner) ≡ superclass_at (class_at P m.owner)
  pub owner : w.owner ≡ m.owner
  pub result : w.result ≡ m.result
  pub plain : is_constructor m ≡ false
  pub plain_too : is_constructor w ≡ false
  pub stack : m.max_stack ≤ w.max_stack
  pub locals : m.max_locals ≤ w.max_locals
  pub differ : (a b : ℕ) → at a ≡ at b → a ≡ b
  pub made : (q : ℕ) (c : ClassId) → made_at m.code q ≡ Some c → made_at w.code (at q) ≡ Some c

-- a pausable method and its woven form, as far as a call goes
pub record Callee (P : Program) (a b : Method) : Type 0 where
  pub params : b.params ≡ a.params ++ (fiber_ty P ∷ [])
  pub result : b.result ≡ a.result
  pub owner : b.owner ≡ a.owner
  pub is_static : b.is_static ≡ a.is_static
  pub is_private : b.is_private ≡ a.is_private
  pub plain : is_constructor a ≡ false
  pub plain_too : is_constructor b ≡ false

-- a program and its woven form
pub record Programs (P W : Program) (m w : Method) : Type 0 where
  pub fields : W.fields ≡ P.fields
  pub text : text_type W ≡ text_type P
  pub object : object_type W ≡ object_type P
  pub throwable : throwable_type W ≡ throwable_type P
  pub makes : (c : ClassId) → may_make W c (class_at W c) ≡ may_make P c (class_at P c)
  pub unchanged : (id : MethodId) (a : Method) → method_at P id ≡ Some a → a.pausable ≡ false → method_at W id ≡ Some a
  pub changed : (id : MethodId) (a : Method) → method_at P id ≡ Some a → a.pausable ≡ true → (b : Method) × (method_at W id ≡ Some b) × Callee P a b
  -- invokespecial may call what it may call in the old program
  pub special : (id : MethodId) (a b : Method) → method_at P id ≡ Some a → method_at W id ≡ Some b → is_constructor a ≡ false → may_name m a.is_private a.owner ≡ true → special_fits P m id a ≡ true → special_fits W w id b ≡ true
