-- Which method a call finds, of every program: it is like the one that is named.
use Rattle.kilim_program.specs.Members.{is_concrete}
use Rattle.kilim_program.specs.declared.ty.Base.TheVariants as base
use Rattle.kilim_program.specs.declared.ty.Base.{Base}
use Rattle.std.specs.Str.{bytes_eq}
use Rattle.std.specs.Prelude.{◌≡◌, ◌==◌, true, false, Some, ℕ, Bool, ◌||◌, List, codes, zero, suc}
use Rattle.std.specs.List.{list_any}
use Rattle.kilim_program.specs.declared.class.Method.{Method}
use Rattle.kilim_program.specs.declared.names.ClassId.{ClassId}
use Rattle.kilim_program.specs.declared.names.MethodId.{MethodId}
use Rattle.kilim_program.specs.Keeps.{Keeps}
use Rattle.kilim_program.specs.Names.{line_of, method_at, class_at}
use Rattle.kilim_program.specs.Program.{Program}
use Rattle.kilim_program.specs.Same.{is_constructor, selected}

-- The method that is found in the line of a class for a named one: of the same types, qualifiers, flags and receiver, of a class
-- of that line.
pub record IsChosen (p : Program) (c : ClassId) (named : Method) (id : MethodId) : Type 0 where
  pub method : Method
  pub there : method_at p id ≡ Some method
  pub name : method.name ≡ named.name
  pub params : method.params ≡ named.params
  pub result : method.result ≡ named.result
  pub is_static : method.is_static ≡ named.is_static
  pub pausable : method.pausable ≡ named.pausable
  pub receiver : method.receiver ≡ named.receiver
  pub qualifiers : method.qualifiers ≡ named.qualifiers
  pub in_line : list_any (λ d. d.0 == method.owner.0) (line_of p c) ≡ true

-- A call on an object of a class finds, for a method that a class of its line declares and that is neither private nor a
-- constructor, one that is like it.
abbrev pub FindsChosen : Type 0
FindsChosen =
    (p : Program) (id : MethodId) (named : Method) (c : ClassId) → Keeps p → method_at p id ≡ Some named → named.is_private ≡ false → is_constructor named ≡ false → list_any (λ d. d.0 == named.owner.0) (line_of p c) ≡ true →
    (found : MethodId) × (selected p c named ≡ Some found) × IsChosen p c named found

abbrev pub is_value_name : List ℕ → Bool
is_value_name name = bytes_eq name (codes "java/lang/String") || (bytes_eq name (codes "kilim/Mailbox") || bytes_eq name (codes "kilim/Fiber"))

abbrev pub has_instances : Program → ℕ → Base → Bool
has_instances p zero (base.Class c) = is_concrete (class_at p c)
has_instances p zero b = false
has_instances p (suc d) b = true
