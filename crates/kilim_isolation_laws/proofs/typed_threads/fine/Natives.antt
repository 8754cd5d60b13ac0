-- What each built-in method gives, by what it does.
use Rattle.std.proofs.Common.{◌≡◌, ℕ, ◌+◌, Bool, true, false, cond, List, [], length, Option, Some, None, refl, sym, ap, subst, ◌∙◌, arith}
use Rattle.std.specs.Prelude.{◌&&◌, ◌||◌, not, slice_get, codes}
use Rattle.std.specs.Str.{bytes_eq}
use Rattle.std.proofs.lemmas.Bool.{false≢true}
use Rattle.std.specs.List.{AllByRecursion}
use Rattle.kilim_program.specs.declared.class.Form.TheVariants.{Plain}
use Rattle.kilim_program.specs.declared.class.Form.{Form}
use Rattle.kilim_program.specs.declared.class.Method.{Method}
use Rattle.kilim_program.specs.declared.names.MethodId.{MethodId}
use Rattle.kilim_program.specs.declared.ty.Ty.{Ty}
use Rattle.kilim_program.specs.BuiltIn.{built_in_constructor, built_in_methods_in, class_id, class_type, get_message, int_type, message_constructor}
use Rattle.kilim_program.specs.Keeps.{Keeps}
use Rattle.kilim_program.specs.Names.{◌>>=◌, class_name, method_at}
use Rattle.kilim_program.specs.Program.{Program}
use Rattle.kilim_program.proofs.BuiltIns.{exceptions_too}
use Rattle.kilim_run_machine.specs.Natives.{Native, is_built_in_constructor, is_of, is_of_message, native_in, native_method, native_named, native_of, natives}
use Rattle.kilim_run_machine.specs.Natives as native
use Rattle.kilim_type_sound.proofs.BuiltInMembers.{NamedAt, built_in_at, named_at, none_built_in}
use Rattle.kilim_type_laws.proofs.members.ValueClasses.{all_of_at}

-- the type of its result, where the first built-in class has this number
abbrev pub gives : ℕ → Native → Option Ty
gives first native.Get = Some (class_type (first + 2))
gives first native.Getnb = Some (class_type (first + 2))
gives first native.ArgCount = Some int_type
gives first native.Arg = Some int_type
gives first n = None

abbrev by_name : Method → List ℕ → Option Native
by_name m name = native_in name m

GivesAs : Program → ℕ → Method → Type 0
GivesAs p first m = (n : Native) → native_method p m ≡ Some n → m.result ≡ gives first n

some_native : (a b : Native) → Some a ≡ Some b → a ≡ b
some_native a b e = cc

none_native : (o : Option Native) (n : Native) → o ≡ None → o ≡ Some n → ⊥
none_native o n e f = cc

-- what keeps or gives the message of an exception is handed to nobody
pub message_is_none : (class : List ℕ) (m : Method) → is_of_message m ≡ true → native_in class m ≡ None
message_is_none class m is =
    ap (λ (z : Bool). cond z (native_named natives class m.name) None)
    (not_out m.built_in (is_built_in_constructor m) (is_of class (codes "java/lang/String") m) (is_of class (codes "kilim/Sys") m && bytes_eq m.name (codes "take")) (is_of_message m) is)
  where
    not_out : (z constructs text take message : Bool) → message ≡ true → (z && not (constructs || (text || (take || message)))) ≡ false
    not_out false constructs text take message is = refl
    not_out true true text take message is = refl
    not_out true false true take message is = refl
    not_out true false false true message is = refl
    not_out true false false false true is = refl
    not_out true false false false false is = absurd (false≢true is)

module _ (p : Program) (first : ℕ) where
  as_none : (m : Method) (name : List ℕ) → class_name p m.owner ≡ name → by_name m name ≡ None → GivesAs p first m
  unfolding GivesAs
  as_none m name is e = λ n t. absurd (none_native (by_name m (class_name p m.owner)) n (ap (by_name m) is ∙ e) t)

  as_some : (m : Method) (name : List ℕ) (k : Native) → class_name p m.owner ≡ name → by_name m name ≡ Some k → m.result ≡ gives first k → GivesAs p first m
  unfolding GivesAs
  as_some m name k is e r = λ n t. r ∙ ap (gives first) (some_native k n (sym (ap (by_name m) is ∙ e) ∙ t))

module _ (p : Program) (n : ℕ) (object : class_name p (class_id n) ≡ codes "java/lang/Object") (string : class_name p (class_id (n + 1)) ≡ codes "java/lang/String") (task : class_name p (class_id (n + 4)) ≡ codes "kilim/Task")
    (mailbox : class_name p (class_id (n + 5)) ≡ codes "kilim/Mailbox") (sys : class_name p (class_id (n + 6)) ≡ codes "kilim/Sys") where
  all_give : AllByRecursion (GivesAs p n) (built_in_methods_in Plain n)
  all_give = (as_none p n _ (codes "java/lang/Object") object refl, (as_none p n _ (codes "java/lang/String") string refl, (as_none p n _ (codes "java/lang/String") string refl, (as_none p n _ (codes "java/lang/String") string refl, (as_none p n _ (codes "kilim/Task") task refl, (as_some p n _ (codes "kilim/Task") native.Start task refl refl, (as_some p n _ (codes "kilim/Task") native.Execute task refl refl, (as_none p n _ (codes "kilim/Mailbox") mailbox refl, (as_some p n _ (codes "kilim/Mailbox") native.Bound mailbox refl refl, (as_some p n _ (codes "kilim/Mailbox") native.Put mailbox refl refl, (as_some p n _ (codes "kilim/Mailbox") native.PutWait mailbox refl refl, (as_some p n _ (codes "kilim/Mailbox") native.Get mailbox refl refl, (as_some p n _ (codes "kilim/Mailbox") native.Getnb mailbox refl refl, (as_some p n _ (codes "kilim/Sys") native.Print sys refl refl, (as_some p n _ (codes "kilim/Sys") native.Print sys refl refl, (as_some p n _ (codes "kilim/Sys") native.Print sys refl refl, (as_some p n _ (codes "kilim/Sys") native.Yield sys refl refl, (as_some p n _ (codes "kilim/Sys") native.ArgCount sys refl refl, (as_some p n _ (codes "kilim/Sys") native.Arg sys refl refl, (as_none p n _ (codes "kilim/Sys") sys refl, exceptions_too (GivesAs p n) n [] (λ c. as_none p n (built_in_constructor c) (class_name p c) refl refl) (λ c. as_none p n (message_constructor n c) (class_name p c) refl (message_is_none (class_name p c) (message_constructor n c) refl)) (as_none p n (get_message n) (class_name p (class_id (n + 7))) refl (message_is_none (class_name p (class_id (n + 7))) (get_message n) refl)) tt))))))))))))))))))))

-- ---- of a program in plain form

object_at : (a b : ℕ) → NamedAt Plain a b 0 (codes "java/lang/Object")
object_at a b = record { class = _; at = refl; is = refl }

string_at : (a b : ℕ) → NamedAt Plain a b 1 (codes "java/lang/String")
string_at a b = record { class = _; at = refl; is = refl }

task_at : (a b : ℕ) → NamedAt Plain a b 4 (codes "kilim/Task")
task_at a b = record { class = _; at = refl; is = refl }

mailbox_at : (a b : ℕ) → NamedAt Plain a b 5 (codes "kilim/Mailbox")
mailbox_at a b = record { class = _; at = refl; is = refl }

sys_at : (a b : ℕ) → NamedAt Plain a b 6 (codes "kilim/Sys")
sys_at a b = record { class = _; at = refl; is = refl }

module _ (p : Program) (keeps : Keeps p) (form : p.form ≡ Plain) where
  abbrev pub first : ℕ
  first = length keeps.built_in.own_classes

  abbrev methods : ℕ
  methods = length keeps.built_in.own_methods

  pub object_name : class_name p (class_id first) ≡ codes "java/lang/Object"
  object_name = subst (λ (k : ℕ). class_name p (class_id k) ≡ codes "java/lang/Object") (let z : first + 0 ≡ first = omega arith in z) (named_at p keeps Plain form 0 (codes "java/lang/Object") (object_at first methods))

  pub task_name : class_name p (class_id (first + 4)) ≡ codes "kilim/Task"
  task_name = named_at p keeps Plain form 4 (codes "kilim/Task") (task_at first methods)

  -- a built-in method is one of this list
  pub built_in_one : (P : Method → Type 0) → AllByRecursion P (built_in_methods_in Plain first) → (id : MethodId) (m : Method) → method_at p id ≡ Some m → m.built_in ≡ true → P m
  built_in_one P all id m there own =
      let b = built_in_at keeps.built_in.own_methods (built_in_methods_in p.form first) id.0 m (subst (λ (ms : List Method). slice_get ms id.0 ≡ Some m) keeps.built_in.methods there) (none_built_in p keeps) own in
      all_of_at P (built_in_methods_in p.form first) (subst (λ (f : Form). AllByRecursion P (built_in_methods_in f first)) (sym form) all) b.0 m b.1

  native_is : (id : MethodId) (n : Native) (o : Option Method) → method_at p id ≡ o → (o >>= native_method p) ≡ Some n → (m : Method) → o ≡ Some m → native_method p m ≡ Some n
  native_is id n o is e m there = sym (ap (λ (x : Option Method). x >>= native_method p) there) ∙ e

  -- what is handed out gives what its native does
  pub native_gives : (id : MethodId) (m : Method) (n : Native) → method_at p id ≡ Some m → m.built_in ≡ true → native_of p id ≡ Some n → m.result ≡ gives first n
  unfolding GivesAs
  native_gives id m n there own e =
      built_in_one (GivesAs p first)
      (all_give p first object_name (named_at p keeps Plain form 1 (codes "java/lang/String") (string_at first methods)) task_name (named_at p keeps Plain form 5 (codes "kilim/Mailbox") (mailbox_at first methods)) (named_at p keeps Plain form 6 (codes "kilim/Sys") (sys_at first methods)))
      id m there own n (native_is id n (method_at p id) refl e m there)
