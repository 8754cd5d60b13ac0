-- What keeps and gives the message of an exception.
use Rattle.std.proofs.Common.{◌≡◌, ℕ, ◌+◌, true, false, List, [], ◌∷◌, ◌++◌, length, Some, refl, sym, ap, subst, ◌∙◌}
use Rattle.std.specs.Prelude.{slice_get, codes}
use Rattle.std.specs.Str.{bytes_eq}
use Rattle.std.specs.List.{AllByRecursion}
use Rattle.kilim_program.specs.declared.class.Field.{Field}
use Rattle.kilim_program.specs.declared.class.Form.{Form}
use Rattle.kilim_program.specs.declared.class.Form.TheVariants.{Plain, Woven}
use Rattle.kilim_program.specs.declared.class.Method.{Method}
use Rattle.kilim_program.specs.declared.names.ClassId.{ClassId}
use Rattle.kilim_program.specs.declared.names.MethodId.{MethodId}
use Rattle.kilim_program.specs.declared.ty.Ty.{Ty}
use Rattle.kilim_program.specs.Program.{Program}
use Rattle.kilim_program.specs.BuiltIn.{built_in_constructor, built_in_methods_in, class_id, class_type, exception_methods, exception_numbers, fiber_methods}
use Rattle.kilim_program.specs.Fits.{fits_type}
use Rattle.kilim_program.specs.Keeps.{Keeps}
use Rattle.kilim_program.specs.Names.{method_at}
use Rattle.kilim_program.proofs.BuiltIns.{exceptions_by}
use Rattle.kilim_run_machine.specs.Natives.{is_get_message, is_message_constructor}
use Rattle.kilim_run_machine.specs.Raising.{is_throwable}
use Rattle.kilim_type_laws.proofs.members.ValueClasses.{all_of_at}
use Rattle.kilim_type_sound.specs.Facts.{OfMessage}
use Rattle.kilim_type_sound.proofs.BuiltInMembers.{NamedAt, built_in_at, named_at, none_built_in}
use Rattle.kilim_type_sound.proofs.Raisable.{all_thrown, throwable_is}
use Rattle.kilim_type_sound.proofs.Throwables.{caught}
use Rattle.std.proofs.lemmas.Bool.{and_parts, false≢true}

pub string_named : (form : Form) (a b : ℕ) → NamedAt form a b 1 (codes "java/lang/String")
string_named Plain a b = record { class = _; at = refl; is = refl }
string_named Woven a b = record { class = _; at = refl; is = refl }

module _ (p : Program) (n : ℕ) where
  abbrev text : Ty
  text = class_type (n + 1)

  abbrev KeepsSo : Method → Type 0
  KeepsSo m = is_message_constructor m ≡ true → (is_throwable p m.owner ≡ true) × (m.params ≡ text ∷ [])

  abbrev GivesSo : Method → Type 0
  GivesSo m = is_get_message m ≡ true → (is_throwable p m.owner ≡ true) × (m.params ≡ []) × (m.result ≡ Some text)

  So : Method → Type 0
  So m = KeepsSo m × GivesSo m

  neither : (m : Method) → is_message_constructor m ≡ false → is_get_message m ≡ false → So m
  unfolding So
  neither m k g = ((λ e. absurd (false≢true (sym k ∙ e))), (λ e. absurd (false≢true (sym g ∙ e))))

  abbrev Thrown : ℕ → Type 0
  Thrown k = is_throwable p (class_id (n + k)) ≡ true

  of_exceptions : AllByRecursion Thrown (7 ∷ exception_numbers) → (rest : List Method) → AllByRecursion So rest → AllByRecursion So (exception_methods n ++ rest)
  unfolding So
  of_exceptions thrown rest others =
      exceptions_by So Thrown n rest thrown (λ k t. neither (built_in_constructor (class_id (n + k))) refl refl) (λ k t. ((λ e. (t, refl)), (λ e. absurd (false≢true e)))) ((λ e. absurd (false≢true e)), (λ e. (thrown.0, refl, refl))) others

  so_plain : AllByRecursion Thrown (7 ∷ exception_numbers) → AllByRecursion So (built_in_methods_in Plain n)
  so_plain thrown = (neither _ refl refl, (neither _ refl refl, (neither _ refl refl, (neither _ refl refl, (neither _ refl refl, (neither _ refl refl, (neither _ refl refl, (neither _ refl refl, (neither _ refl refl, (neither _ refl refl, (neither _ refl refl, (neither _ refl refl, (neither _ refl refl, (neither _ refl refl, (neither _ refl refl, (neither _ refl refl, (neither _ refl refl, (neither _ refl refl, (neither _ refl refl, (neither _ refl refl, of_exceptions thrown [] tt))))))))))))))))))))

  so_woven : AllByRecursion Thrown (7 ∷ exception_numbers) → AllByRecursion So (built_in_methods_in Woven n)
  so_woven thrown = (neither _ refl refl, (neither _ refl refl, (neither _ refl refl, (neither _ refl refl, (neither _ refl refl, (neither _ refl refl, (neither _ refl refl, (neither _ refl refl, (neither _ refl refl, (neither _ refl refl, (neither _ refl refl, (neither _ refl refl, (neither _ refl refl, (neither _ refl refl, (neither _ refl refl, (neither _ refl refl, (neither _ refl refl, (neither _ refl refl, (neither _ refl refl, (neither _ refl refl, of_exceptions thrown (fiber_methods Woven n) (neither _ refl refl, (neither _ refl refl, (neither _ refl refl, (neither _ refl refl, (neither _ refl refl, (neither _ refl refl, (neither _ refl refl, (neither _ refl refl, (neither _ refl refl, (neither _ refl refl, (neither _ refl refl, tt)))))))))))))))))))))))))))))))

  so_all : (form : Form) → AllByRecursion Thrown (7 ∷ exception_numbers) → AllByRecursion So (built_in_methods_in form n)
  so_all Plain thrown = so_plain thrown
  so_all Woven thrown = so_woven thrown

module _ (p : Program) (keeps : Keeps p) where
  abbrev first : ℕ
  first = length keeps.built_in.own_classes

  built_so : (id : MethodId) (m : Method) → method_at p id ≡ Some m → m.built_in ≡ true → So p first m
  built_so id m there own =
      let b = built_in_at keeps.built_in.own_methods (built_in_methods_in p.form first) id.0 m (subst (λ (ms : List Method). slice_get ms id.0 ≡ Some m) keeps.built_in.methods there) (none_built_in p keeps) own in
      all_of_at (So p first) (built_in_methods_in p.form first) (so_all p first p.form (all_thrown p keeps)) b.0 m b.1

  -- what can be thrown is of the class that has the message
  below : (c : ClassId) → is_throwable p c ≡ true → fits_type p (class_type c.0) (class_type (first + 7)) ≡ true
  below c e = let t = caught p keeps c e in subst (λ (k : ClassId). fits_type p (class_type c.0) (class_type k.0) ≡ true) (throwable_is p keeps t.0 t.1) t.2

  of_message : (m : Method) → is_throwable p m.owner ≡ true → OfMessage p m
  of_message m e = record {
    field = _;
    there = ap (λ (fs : List Field). slice_get fs 0) keeps.built_in.fields;
    instance = refl;
    text = class_id (first + 1);
    typed = refl;
    is_text = ap (λ (name : List ℕ). bytes_eq name (codes "java/lang/String")) (named_at p keeps p.form refl 1 (codes "java/lang/String") (string_named p.form first (length keeps.built_in.own_methods)));
    above = below m.owner e;
  }

  pub keeps_messages : (id : MethodId) (m : Method) → method_at p id ≡ Some m → is_message_constructor m ≡ true → (x : OfMessage p m) × (m.params ≡ x.field.ty ∷ [])
  unfolding So of_message
  keeps_messages id m there is = let so = (built_so id m there (and_parts m.built_in _ is).0).0 is in (of_message m so.0, so.1)

  pub gives_messages : (id : MethodId) (m : Method) → method_at p id ≡ Some m → is_get_message m ≡ true → (x : OfMessage p m) × (m.params ≡ []) × (m.result ≡ Some x.field.ty)
  unfolding So of_message
  gives_messages id m there is = let so = (built_so id m there (and_parts m.built_in _ is).0).1 is in (of_message m so.0, so.1, so.2)
