-- What a put and a start take.
use Rattle.std.proofs.Common.{◌≡◌, ℕ, ◌+◌, true, false, List, [], ◌∷◌, length, Option, Some, None, refl, sym, ap, subst, ◌∙◌}
use Rattle.std.specs.Prelude.{codes}
use Rattle.std.specs.List.{AllByRecursion}
use Rattle.kilim_program.specs.declared.class.Form.TheVariants.{Plain}
use Rattle.kilim_program.specs.declared.class.Method.{Method}
use Rattle.kilim_program.specs.declared.names.MethodId.{MethodId}
use Rattle.kilim_program.specs.declared.ty.Qualifier.TheVariants.{Free}
use Rattle.kilim_program.specs.BuiltIn.{built_in_constructor, built_in_methods_in, class_id, class_type, get_message, message_constructor}
use Rattle.kilim_program.specs.Keeps.{Keeps}
use Rattle.kilim_program.specs.Names.{◌>>=◌, class_name, method_at}
use Rattle.kilim_program.specs.Program.{Program}
use Rattle.kilim_program.proofs.BuiltIns.{exceptions_too}
use Rattle.kilim_run_machine.specs.Natives.{Native, native_in, native_method, native_of}
use Rattle.kilim_run_machine.specs.Natives as native
use Rattle.kilim_type_sound.proofs.BuiltInMembers.{NamedAt, named_at}
use Rattle.kilim_isolation_laws.proofs.typed_threads.fine.Natives.{built_in_one, first, message_is_none, object_name, task_name}

pub record PutIs (n : ℕ) (m : Method) : Type 0 where
  pub instance : m.is_static ≡ false
  pub owner : m.owner ≡ class_id (n + 5)
  pub params : m.params ≡ class_type (n + 2) ∷ []
  pub qualifiers : m.qualifiers ≡ Free ∷ []

pub record StartIs (n : ℕ) (m : Method) : Type 0 where
  pub instance : m.is_static ≡ false
  pub owner : m.owner ≡ class_id (n + 4)
  pub receiver : m.receiver ≡ Free
  pub params : m.params ≡ []
  pub qualifiers : m.qualifiers ≡ []

abbrev pub Takes : ℕ → Native → Method → Type 0
Takes n native.Put m = PutIs n m
Takes n native.PutWait m = PutIs n m
Takes n native.Start m = StartIs n m
Takes n k m = Unit {0}

abbrev by_name : Method → List ℕ → Option Native
by_name m name = native_in name m

TakesAs : Program → ℕ → Method → Type 0
TakesAs p n m = (k : Native) → native_method p m ≡ Some k → Takes n k m

some_native : (a b : Native) → Some a ≡ Some b → a ≡ b
some_native a b e = cc

none_native : (o : Option Native) (n : Native) → o ≡ None → o ≡ Some n → ⊥
none_native o n e f = cc

module _ (p : Program) (n : ℕ) where
  as_none : (m : Method) (name : List ℕ) → class_name p m.owner ≡ name → by_name m name ≡ None → TakesAs p n m
  unfolding TakesAs
  as_none m name is e = λ k t. absurd (none_native (by_name m (class_name p m.owner)) k (ap (by_name m) is ∙ e) t)

  as_some : (m : Method) (name : List ℕ) (k : Native) → class_name p m.owner ≡ name → by_name m name ≡ Some k → Takes n k m → TakesAs p n m
  unfolding TakesAs
  as_some m name k is e r = λ j t. subst (λ (x : Native). Takes n x m) (some_native k j (sym (ap (by_name m) is ∙ e) ∙ t)) r

module _ (p : Program) (n : ℕ) (object : class_name p (class_id n) ≡ codes "java/lang/Object") (string : class_name p (class_id (n + 1)) ≡ codes "java/lang/String") (task : class_name p (class_id (n + 4)) ≡ codes "kilim/Task")
    (mailbox : class_name p (class_id (n + 5)) ≡ codes "kilim/Mailbox") (sys : class_name p (class_id (n + 6)) ≡ codes "kilim/Sys") where
  all_take : AllByRecursion (TakesAs p n) (built_in_methods_in Plain n)
  all_take = (as_none p n _ (codes "java/lang/Object") object refl, (as_none p n _ (codes "java/lang/String") string refl, (as_none p n _ (codes "java/lang/String") string refl, (as_none p n _ (codes "java/lang/String") string refl, (as_none p n _ (codes "kilim/Task") task refl, (as_some p n _ (codes "kilim/Task") native.Start task refl (record { instance = refl; owner = refl; receiver = refl; params = refl; qualifiers = refl }), (as_some p n _ (codes "kilim/Task") native.Execute task refl tt, (as_none p n _ (codes "kilim/Mailbox") mailbox refl, (as_some p n _ (codes "kilim/Mailbox") native.Bound mailbox refl tt, (as_some p n _ (codes "kilim/Mailbox") native.Put mailbox refl (record { instance = refl; owner = refl; params = refl; qualifiers = refl }), (as_some p n _ (codes "kilim/Mailbox") native.PutWait mailbox refl (record { instance = refl; owner = refl; params = refl; qualifiers = refl }), (as_some p n _ (codes "kilim/Mailbox") native.Get mailbox refl tt, (as_some p n _ (codes "kilim/Mailbox") native.Getnb mailbox refl tt, (as_some p n _ (codes "kilim/Sys") native.Print sys refl tt, (as_some p n _ (codes "kilim/Sys") native.Print sys refl tt, (as_some p n _ (codes "kilim/Sys") native.Print sys refl tt, (as_some p n _ (codes "kilim/Sys") native.Yield sys refl tt, (as_some p n _ (codes "kilim/Sys") native.ArgCount sys refl tt, (as_some p n _ (codes "kilim/Sys") native.Arg sys refl tt, (as_none p n _ (codes "kilim/Sys") sys refl, exceptions_too (TakesAs p n) n [] (λ c. as_none p n (built_in_constructor c) (class_name p c) refl refl) (λ c. as_none p n (message_constructor n c) (class_name p c) refl (message_is_none (class_name p c) (message_constructor n c) refl)) (as_none p n (get_message n) (class_name p (class_id (n + 7))) refl (message_is_none (class_name p (class_id (n + 7))) (get_message n) refl)) tt))))))))))))))))))))

string_at : (a b : ℕ) → NamedAt Plain a b 1 (codes "java/lang/String")
string_at a b = record { class = _; at = refl; is = refl }

mailbox_at : (a b : ℕ) → NamedAt Plain a b 5 (codes "kilim/Mailbox")
mailbox_at a b = record { class = _; at = refl; is = refl }

sys_at : (a b : ℕ) → NamedAt Plain a b 6 (codes "kilim/Sys")
sys_at a b = record { class = _; at = refl; is = refl }

module _ (p : Program) (keeps : Keeps p) (form : p.form ≡ Plain) where
  abbrev count : ℕ
  count = first p keeps form

  abbrev methods : ℕ
  methods = length keeps.built_in.own_methods

  native_is : (id : MethodId) (n : Native) (o : Option Method) → method_at p id ≡ o → (o >>= native_method p) ≡ Some n → (m : Method) → o ≡ Some m → native_method p m ≡ Some n
  native_is id n o e is m there = sym (ap (λ (x : Option Method). x >>= native_method p) there) ∙ is

  pub native_takes : (id : MethodId) (m : Method) (k : Native) → method_at p id ≡ Some m → m.built_in ≡ true → native_of p id ≡ Some k → Takes count k m
  unfolding TakesAs
  native_takes id m k there own e =
      built_in_one p keeps form (TakesAs p count)
      (all_take p count (object_name p keeps form) (named_at p keeps Plain form 1 (codes "java/lang/String") (string_at count methods)) (task_name p keeps form) (named_at p keeps Plain form 5 (codes "kilim/Mailbox") (mailbox_at count methods)) (named_at p keeps Plain form 6 (codes "kilim/Sys") (sys_at count methods)))
      id m there own k (native_is id k (method_at p id) refl e m there)

  pub mailbox_name : class_name p (class_id (count + 5)) ≡ codes "kilim/Mailbox"
  mailbox_name = named_at p keeps Plain form 5 (codes "kilim/Mailbox") (mailbox_at count methods)
