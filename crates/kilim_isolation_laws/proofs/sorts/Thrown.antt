-- What can be thrown is private: `java/lang/Throwable` is, and so is each class below it.
use Rattle.std.proofs.Common.{◌≡◌, inl, inr, ℕ, zero, suc, ◌+◌, ◌≤◌, Bool, true, false, true≢false, cond, eqb, List, [], ◌∷◌, length, Option, Some, None, refl, sym, ap, subst, ◌∙◌, arith}
use Rattle.std.specs.Prelude.{◌||◌, codes}
use Rattle.std.specs.List.{list_any}
use Rattle.std.specs.Str.{bytes_eq}
use Rattle.kilim_program.specs.declared.class.Class.{Class}
use Rattle.kilim_program.specs.declared.names.ClassId.{ClassId}
use Rattle.kilim_program.specs.declared.ty.Kind.{Kind}
use Rattle.kilim_program.specs.declared.ty.Kind.TheVariants as kind
use Rattle.kilim_program.specs.Program.{Program}
use Rattle.kilim_program.specs.BuiltIn.{class_id, class_type}
use Rattle.kilim_program.specs.Keeps.{Keeps, is_object}
use Rattle.kilim_program.specs.Kinds.{class_kind, is_marked, is_message, is_value_class, kind_of}
use Rattle.kilim_program.specs.Names.{◌>>=◌, class_at, class_name, is_named_task, is_task, line_up_to}
use Rattle.kilim_lemmas.proofs.Texts.{text_is}
use Rattle.kilim_run_machine.specs.Raising.{is_throwable}
use Rattle.kilim_type_sound.proofs.Raisable.{built, many, methods, n, name_is, numbered, there, throwable_is, throwable_row}
use Rattle.kilim_type_sound.proofs.Throwables.{below_named, throwable_name}
use Rattle.kilim_isolation_laws.proofs.sorts.Lines.{any_more, first_is_object, in_line, object_is_private}

not_both : (b : Bool) → (b ≡ true → ⊥) → b ≡ false
not_both true no_true = absurd (no_true refl)
not_both false no_true = refl

no_task : (v t m : Bool) → cond v kind.Value (cond (t || m) kind.Tree kind.Private) ≡ kind.Private → t ≡ false
no_task true t m e = absurd (cc)
no_task false true m e = absurd (cc)
no_task false false m e = refl

private_by : (v t m : Bool) → v ≡ false → t ≡ false → m ≡ false → cond v kind.Value (cond (t || m) kind.Tree kind.Private) ≡ kind.Private
private_by false false false a b c = refl
private_by true t m a b c = absurd (cc)
private_by false true m a b c = absurd (cc)
private_by false false true a b c = absurd (cc)

module _ (p : Program) (keeps : Keeps p) where
  abbrev top : ClassId
  top = numbered p keeps 7

  name : class_name p top ≡ throwable_name
  name = let row = throwable_row p.form (n p keeps) (methods p keeps) in name_is p keeps 7 0 throwable_name row ∙ text_is row.class.name throwable_name row.named

  up_is : (class_at p top >>= λ (class : Class). class.superclass) ≡ Some (class_id (n p keeps))
  up_is =
      let row = throwable_row p.form (n p keeps) (methods p keeps) in
      let number : n p keeps + 0 ≡ n p keeps = omega arith in
      ap (λ (o : Option Class). o >>= λ (class : Class). class.superclass) (there p keeps 7 0 throwable_name row) ∙ (row.above ∙ ap (λ (k : ℕ). Some (class_id k)) number)

  object_no_task : (m : ℕ) → m ≤ length p.classes → list_any (is_named_task p) (line_up_to p m (class_id (n p keeps))) ≡ false
  object_no_task m less = not_both _ (λ e.
      true≢false (sym (any_more p keeps (is_named_task p) m (length p.classes) (class_id (n p keeps)) less e) ∙ no_task _ _ (is_message p (class_id (n p keeps))) (object_is_private p keeps (class_id (n p keeps)) (first_is_object p keeps))))

  task_free : is_task p top ≡ false
  task_free =
      let size = many p keeps in
      ap (λ (fuel : ℕ). list_any (is_named_task p) (line_up_to p fuel top)) size.1
      ∙ (ap (λ (o : Option ClassId). is_named_task p top || list_any (is_named_task p) (elim o [ None ↦ [] | Some u ↦ line_up_to p (suc (suc (suc (suc size.0)))) u ])) up_is
      ∙ (ap (λ (t : List ℕ). bytes_eq t (codes "kilim/Task") || list_any (is_named_task p) (line_up_to p (suc (suc (suc (suc size.0)))) (class_id (n p keeps)))) name
      ∙ object_no_task (suc (suc (suc (suc size.0)))) (let e = size.1 in omega (arith, e))))

  top_is_private : class_kind p top ≡ kind.Private
  top_is_private =
      let row = throwable_row p.form (n p keeps) (methods p keeps) in
      private_by (is_value_class (class_name p top)) (is_task p top) (is_message p top) (ap is_value_class name) task_free (ap is_marked (there p keeps 7 0 throwable_name row) ∙ row.unmarked)

  pub thrown_is_private : (c : ClassId) → is_throwable p c ≡ true → kind_of p (class_type c.0) ≡ kind.Private
  thrown_is_private c throwable =
      let r = below_named p keeps c throwable in
      let is : r.0 ≡ top = throwable_is p keeps r.0 r.1 in
      elim (in_line p keeps (length p.classes) c r.0 r.2) [
        | inl same ↦ sym same ∙ (ap (class_kind p) is ∙ top_is_private)
        | inr object ↦ absurd (let z = sym (ap (λ (k : ClassId). is_object p k) is ∙ ap (λ (t : List ℕ). bytes_eq t (codes "java/lang/Object")) name) ∙ object in let no : false ≡ true = z in cc)
      ]
