-- `kilim/Sys.take` takes a message out of an array of messages.
use Rattle.std.proofs.Common.{◌≡◌, ℕ, suc, ◌+◌, Bool, true, false, List, [], ◌∷◌, length, Some, refl, ap, subst, ◌∙◌}
use Rattle.std.specs.Prelude.{slice_get, codes}
use Rattle.std.specs.List.{AllByRecursion}
use Rattle.kilim_program.specs.declared.class.Form.TheVariants.{Plain, Woven}
use Rattle.kilim_program.specs.declared.class.Form.{Form}
use Rattle.kilim_program.specs.declared.class.Method.{Method}
use Rattle.kilim_program.specs.declared.names.ClassId.{ClassId}
use Rattle.kilim_program.specs.declared.names.MethodId.{MethodId}
use Rattle.kilim_program.specs.declared.ty.Base.{Base}
use Rattle.kilim_program.specs.declared.ty.Base.TheVariants as base
use Rattle.kilim_program.specs.declared.ty.Qualifier.{Qualifier}
use Rattle.kilim_program.specs.declared.ty.Qualifier.TheVariants.{Cuttable, Safe}
use Rattle.kilim_program.specs.declared.ty.Ty.{Ty}
use Rattle.kilim_program.specs.Program.{Program}
use Rattle.kilim_program.proofs.BuiltIns.{exceptions_too}
use Rattle.kilim_program.specs.BuiltIn.{built_in_methods_in, class_id, fiber_methods}
use Rattle.kilim_program.specs.Kinds.{class_kind}
use Rattle.kilim_program.specs.Keeps.{Keeps}
use Rattle.kilim_program.specs.Names.{class_name, method_at}
use Rattle.kilim_run_machine.specs.Natives.{is_handed_out}
use Rattle.kilim_lemmas.proofs.Texts.{same_text}
use Rattle.kilim_type_sound.proofs.BuiltInMembers.{NamedAt, built_in_at, named_at, none_built_in, takes}
use Rattle.kilim_type_laws.proofs.members.ValueClasses.{all_of_at}
use Rattle.kilim_isolation_laws.specs.graph_rows.Facts.{IsTake}
use Rattle.kilim_isolation_laws.proofs.sorts.Sorted.{message_is_tree}

-- a static built-in method that is handed an array and one thing more
abbrev OfArray : ℕ → ℕ → Base → List Qualifier → Type 0
OfArray n (suc d) (base.Class k) qs = (k ≡ class_id (n + 2)) × (qs ≡ Cuttable ∷ Safe ∷ [])
OfArray n d b qs = Unit {0}

abbrev OfTwo : ℕ → List Ty → List Qualifier → Type 0
OfTwo n (ty ∷ second ∷ []) qs = OfArray n ty.dims ty.base qs
OfTwo n tys qs = Unit {0}

abbrev OfStatic : ℕ → Bool → List Ty → List Qualifier → Type 0
OfStatic n true tys qs = OfTwo n tys qs
OfStatic n false tys qs = Unit {0}

abbrev TakesSo : ℕ → Method → Type 0
TakesSo n m = OfStatic n m.is_static m.params m.qualifiers

so_plain : (n : ℕ) → AllByRecursion (TakesSo n) (built_in_methods_in Plain n)
so_plain n = (tt, (tt, (tt, (tt, (tt, (tt, (tt, (tt, (tt, (tt, (tt, (tt, (tt, (tt, (tt, (tt, (tt, (tt, (tt, ((refl, refl), exceptions_too (TakesSo n) n [] (λ c. tt) (λ c. tt) tt tt))))))))))))))))))))

so_woven : (n : ℕ) → AllByRecursion (TakesSo n) (built_in_methods_in Woven n)
so_woven n = (tt, (tt, (tt, (tt, (tt, (tt, (tt, (tt, (tt, (tt, (tt, (tt, (tt, (tt, (tt, (tt, (tt, (tt, (tt, ((refl, refl), exceptions_too (TakesSo n) n (fiber_methods Woven n) (λ c. tt) (λ c. tt) tt (tt, (tt, (tt, (tt, (tt, (tt, (tt, (tt, (tt, (tt, (tt, tt)))))))))))))))))))))))))))))))

so : (form : Form) (n : ℕ) → AllByRecursion (TakesSo n) (built_in_methods_in form n)
so Plain n = so_plain n
so Woven n = so_woven n

message_at : (form : Form) (a b : ℕ) → NamedAt form a b 2 (codes "kilim/Message")
message_at Plain a b = record { class = _; at = refl; is = refl }
message_at Woven a b = record { class = _; at = refl; is = refl }

module _ (p : Program) (keeps : Keeps p) where
  abbrev first : ℕ
  first = length keeps.built_in.own_classes

  pub is_take : (id : MethodId) (named : Method) → method_at p id ≡ Some named → named.built_in ≡ true → named.is_static ≡ true → is_handed_out p named ≡ false → IsTake p named
  is_take id named there own static none =
      let t = takes p keeps id named there own static none in
      let b = built_in_at keeps.built_in.own_methods (built_in_methods_in p.form first) id.0 named (subst (λ (ms : List Method). slice_get ms id.0 ≡ Some named) keeps.built_in.methods there) (none_built_in p keeps) own in
      let s = all_of_at (TakesSo first) (built_in_methods_in p.form first) (so p.form first) b.0 named b.1 in
      let w : (t.0 ≡ class_id (first + 2)) × (named.qualifiers ≡ Cuttable ∷ Safe ∷ []) = subst (λ (tys : List Ty). OfTwo first tys named.qualifiers) t.1 (subst (λ (z : Bool). OfStatic first z named.params named.qualifiers) static s) in
      let name : class_name p (class_id (first + 2)) ≡ codes "kilim/Message" = named_at p keeps p.form refl 2 (codes "kilim/Message") (message_at p.form first (length keeps.built_in.own_methods)) in
      record { class = t.0; params = t.1; result = t.2; qualifiers = w.1; tree = ap (λ (k : ClassId). class_kind p k) w.0 ∙ message_is_tree p keeps (class_id (first + 2)) (same_text (class_name p (class_id (first + 2))) (codes "kilim/Message") name) }
