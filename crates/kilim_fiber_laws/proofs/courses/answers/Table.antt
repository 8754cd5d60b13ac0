-- What each built-in method that is handed out takes, by its declared types.
use Rattle.std.proofs.Common.{◌≡◌, ℕ, ◌+◌, true, false, ℤ, List, [], ◌∷◌, length, Option, Some, refl, sym, ap, subst, ◌∙◌}
use Rattle.std.specs.Prelude.{◌&&◌, codes}
use Rattle.std.specs.List.{AllByRecursion}
use Rattle.std.specs.Str.{bytes_eq}
use Rattle.std.proofs.lemmas.Bool.{and_parts, false≢true}
use Rattle.kilim_program.specs.declared.class.Form.TheVariants.{Plain}
use Rattle.kilim_program.specs.declared.class.Method.{Method}
use Rattle.kilim_program.specs.declared.names.MethodId.{MethodId}
use Rattle.kilim_program.specs.declared.value.Value.{Value}
use Rattle.kilim_program.specs.declared.value.Value.TheVariants.{Box, Fiber, Int, Long, Null, Ref, Text}
use Rattle.kilim_program.specs.declared.verified.VType.{VType}
use Rattle.kilim_program.specs.declared.verified.VType.TheVariants as vtype
use Rattle.kilim_program.specs.BuiltIn.{built_in_constructor, built_in_methods_in, class_id, class_type, get_message, message_constructor}
use Rattle.kilim_program.specs.Keeps.{Keeps}
use Rattle.kilim_program.specs.Names.{class_name, method_at}
use Rattle.kilim_program.specs.Program.{Program}
use Rattle.kilim_program.proofs.BuiltIns.{exceptions_too}
use Rattle.kilim_isolation_laws.proofs.typed_threads.fine.Natives.{built_in_one, first, task_name}
use Rattle.kilim_type_sound.specs.Fits.{AreThere, Classes, HeapFits, has_type, have_types}
use Rattle.kilim_type_sound.specs.Sound.{native_types}
use Rattle.kilim_run_state.specs.declared.value.Token.{Token}
use Rattle.kilim_run_state.specs.declared.value.Token.TheVariants as token
use Rattle.kilim_run_state.specs.Machine.{Objects}
use Rattle.kilim_run_machine.specs.Natives.{Native, native_method, native_in}
use Rattle.kilim_run_machine.specs.Natives as native
use Rattle.kilim_run_model.specs.Lone.{printed}
use Rattle.kilim_fiber_laws.proofs.courses.answers.Asked.{AsksWell, HasFirst}
use Rattle.kilim_fiber_laws.proofs.courses.answers.Deeds.{TakesSuch}
use Rattle.kilim_fiber_laws.proofs.courses.answers.Texts.{box_is, mailbox_name, message_is, string_name, sys_name, task_is, text_shown}

pub AnswersAs : Program → Classes → Objects → Method → Type 0
AnswersAs p of h m = (args : List Value) → AsksWell p h m args → have_types p m of (native_types m) args ≡ true → (k : Native) × (native_method p m ≡ Some k) × TakesSuch k args

abbrev by_name : Method → List ℕ → Option Native
by_name m name = native_in name m

module _ (p : Program) (m : Method) (of : Classes) where
  one : (t : VType) (args : List Value) → have_types p m of (t ∷ []) args ≡ true → (v : Value) × (args ≡ v ∷ []) × (has_type p m of t v ≡ true)
  one t [] e = absurd (false≢true e)
  one t (v ∷ []) e = (v, refl, (and_parts (has_type p m of t v) true e).0)
  one t (v ∷ w ∷ vs) e = absurd (false≢true (and_parts (has_type p m of t v) false e).1)

  two : (t u : VType) (args : List Value) → have_types p m of (t ∷ u ∷ []) args ≡ true → (v : Value) × (w : Value) × (args ≡ v ∷ w ∷ []) × (has_type p m of t v ≡ true) × (has_type p m of u w ≡ true)
  two t u [] e = absurd (false≢true e)
  two t u (v ∷ vs) e =
      let es = and_parts (has_type p m of t v) (have_types p m of (u ∷ []) vs) e in
      let r = one u vs es.1 in
      (v, r.0, ap (λ (x : List Value). v ∷ x) r.1, es.0, r.2)

  zero_args : (args : List Value) → have_types p m of [] args ≡ true → args ≡ []
  zero_args [] e = refl
  zero_args (v ∷ vs) e = absurd (false≢true e)

  int_is : (v : Value) → has_type p m of vtype.Int v ≡ true → (x : ℤ) × (v ≡ Int x)
  int_is (Int x) e = (x, refl)
  int_is (Long x) e = absurd (false≢true e)
  int_is Null e = absurd (false≢true e)
  int_is (Ref k) e = absurd (false≢true e)
  int_is (Text units) e = absurd (false≢true e)
  int_is (Box box) e = absurd (false≢true e)
  int_is Fiber e = absurd (false≢true e)

  long_is : (v : Value) → has_type p m of vtype.Long v ≡ true → (x : ℤ) × (v ≡ Long x)
  long_is (Int x) e = absurd (false≢true e)
  long_is (Long x) e = (x, refl)
  long_is Null e = absurd (false≢true e)
  long_is (Ref k) e = absurd (false≢true e)
  long_is (Text units) e = absurd (false≢true e)
  long_is (Box box) e = absurd (false≢true e)
  long_is Fiber e = absurd (false≢true e)

module _ (p : Program) (keeps : Keeps p) (form : p.form ≡ Plain) (of : Classes) (h : Objects) (heap : HeapFits p of h) where
  known : (m : Method) (name : List ℕ) (k : Native) → class_name p m.owner ≡ name → by_name m name ≡ Some k → native_method p m ≡ Some k
  known m name k is e = ap (by_name m) is ∙ e

  -- of tasks
  of_task : (m : Method) (k : Native) → m.is_static ≡ false → ((n : ℕ) → TakesSuch k (Ref n ∷ [])) → (name : List ℕ) → class_name p m.owner ≡ name → by_name m name ≡ Some k → native_types m ≡ vtype.Object (class_type (first p keeps form + 4)) ∷ [] → AnswersAs p of h m
  unfolding AnswersAs
  of_task m k instance takes name named is types args a e =
      let o = one p m of (vtype.Object (class_type (first p keeps form + 4))) args (subst (λ (ts : List VType). have_types p m of ts args ≡ true) types e) in
      let r = task_is p keeps form m of o.0 (subst (λ (x : List Value). HasFirst x) o.1 (a.first instance)) o.2 in
      (k, known m name k named is, subst (λ (x : List Value). TakesSuch k x) (sym (o.1 ∙ ap (λ (v : Value). v ∷ []) r.1)) (takes r.0))

  -- of mailboxes
  of_box : (m : Method) (k : Native) → m.is_static ≡ false → ((box : _) → TakesSuch k (Box box ∷ [])) → (name : List ℕ) → class_name p m.owner ≡ name → by_name m name ≡ Some k → native_types m ≡ vtype.Object (class_type (first p keeps form + 5)) ∷ [] → AnswersAs p of h m
  unfolding AnswersAs
  of_box m k instance takes name named is types args a e =
      let o = one p m of (vtype.Object (class_type (first p keeps form + 5))) args (subst (λ (ts : List VType). have_types p m of ts args ≡ true) types e) in
      let r = box_is p keeps form m of h heap o.0 (subst (λ (x : List Value). HasFirst x) o.1 (a.first instance)) (subst (λ (x : List Value). AreThere h x) o.1 a.there).0 o.2 in
      (k, known m name k named is, subst (λ (x : List Value). TakesSuch k x) (sym (o.1 ∙ ap (λ (v : Value). v ∷ []) r.1)) (takes r.0))

  puts : (m : Method) → m.is_static ≡ false → (name : List ℕ) → class_name p m.owner ≡ name → by_name m name ≡ Some native.Put → native_types m ≡ vtype.Object (class_type (first p keeps form + 5)) ∷ vtype.Object (class_type (first p keeps form + 2)) ∷ [] → AnswersAs p of h m
  unfolding AnswersAs
  puts m instance name named is types args a e =
      let o = two p m of (vtype.Object (class_type (first p keeps form + 5))) (vtype.Object (class_type (first p keeps form + 2))) args (subst (λ (ts : List VType). have_types p m of ts args ≡ true) types e) in
      let r = box_is p keeps form m of h heap o.0 (subst (λ (x : List Value). HasFirst x) o.2 (a.first instance)) (subst (λ (x : List Value). AreThere h x) o.2 a.there).0 o.3 in
      (native.Put, known m name native.Put named is, subst (λ (x : List Value). TakesSuch native.Put x) (sym (o.2 ∙ ap (λ (v : Value). v ∷ o.1 ∷ []) r.1)) (message_is p keeps form m of o.1 o.4))

  puts_or_waits : (m : Method) → m.is_static ≡ false → (name : List ℕ) → class_name p m.owner ≡ name → by_name m name ≡ Some native.PutWait → native_types m ≡ vtype.Object (class_type (first p keeps form + 5)) ∷ vtype.Object (class_type (first p keeps form + 2)) ∷ [] → AnswersAs p of h m
  unfolding AnswersAs
  puts_or_waits m instance name named is types args a e =
      let o = two p m of (vtype.Object (class_type (first p keeps form + 5))) (vtype.Object (class_type (first p keeps form + 2))) args (subst (λ (ts : List VType). have_types p m of ts args ≡ true) types e) in
      let r = box_is p keeps form m of h heap o.0 (subst (λ (x : List Value). HasFirst x) o.2 (a.first instance)) (subst (λ (x : List Value). AreThere h x) o.2 a.there).0 o.3 in
      (native.PutWait, known m name native.PutWait named is, subst (λ (x : List Value). TakesSuch native.PutWait x) (sym (o.2 ∙ ap (λ (v : Value). v ∷ o.1 ∷ []) r.1)) (message_is p keeps form m of o.1 o.4))

  bounds : (m : Method) → m.is_static ≡ false → (name : List ℕ) → class_name p m.owner ≡ name → by_name m name ≡ Some native.Bound → native_types m ≡ vtype.Object (class_type (first p keeps form + 5)) ∷ vtype.Int ∷ [] → AnswersAs p of h m
  unfolding AnswersAs
  bounds m instance name named is types args a e =
      let o = two p m of (vtype.Object (class_type (first p keeps form + 5))) vtype.Int args (subst (λ (ts : List VType). have_types p m of ts args ≡ true) types e) in
      let r = box_is p keeps form m of h heap o.0 (subst (λ (x : List Value). HasFirst x) o.2 (a.first instance)) (subst (λ (x : List Value). AreThere h x) o.2 a.there).0 o.3 in
      let i = int_is p m of o.1 o.4 in
      (native.Bound, known m name native.Bound named is, subst (λ (x : List Value). TakesSuch native.Bound x) (sym (o.2 ∙ (ap (λ (v : Value). v ∷ o.1 ∷ []) r.1 ∙ ap (λ (v : Value). Box r.0 ∷ v ∷ []) i.1))) tt)

  prints : (m : Method) (t : VType) → (name : List ℕ) → class_name p m.owner ≡ name → by_name m name ≡ Some native.Print → native_types m ≡ t ∷ [] → ((n : Method) (v : Value) → AreThere h (v ∷ []) → has_type p n of t v ≡ true → (x : Token) × (printed v ≡ Some x)) → AnswersAs p of h m
  unfolding AnswersAs
  prints m t name named is types shown args a e =
      let o = one p m of t args (subst (λ (ts : List VType). have_types p m of ts args ≡ true) types e) in
      (native.Print, known m name native.Print named is, subst (λ (x : List Value). TakesSuch native.Print x) (sym o.1) (shown m o.0 (subst (λ (x : List Value). AreThere h x) o.1 a.there) o.2))

  alone : (m : Method) (k : Native) → TakesSuch k [] → (name : List ℕ) → class_name p m.owner ≡ name → by_name m name ≡ Some k → native_types m ≡ [] → AnswersAs p of h m
  unfolding AnswersAs
  alone m k takes name named is types args a e = (k, known m name k named is, subst (λ (x : List Value). TakesSuch k x) (sym (zero_args p m of args (subst (λ (ts : List VType). have_types p m of ts args ≡ true) types e))) takes)

  gives_arg : (m : Method) → (name : List ℕ) → class_name p m.owner ≡ name → by_name m name ≡ Some native.Arg → native_types m ≡ vtype.Int ∷ [] → AnswersAs p of h m
  unfolding AnswersAs
  gives_arg m name named is types args a e =
      let o = one p m of vtype.Int args (subst (λ (ts : List VType). have_types p m of ts args ≡ true) types e) in
      let r = int_is p m of o.0 o.2 in
      (native.Arg, known m name native.Arg named is, subst (λ (x : List Value). TakesSuch native.Arg x) (sym (o.1 ∙ ap (λ (v : Value). v ∷ []) r.1)) tt)

  -- those that aren't handed out
  plainly : (m : Method) → Rattle.kilim_run_machine.specs.Natives.is_built_in_constructor m ≡ true → AnswersAs p of h m
  unfolding AnswersAs
  plainly m is args a e = absurd (false≢true (sym a.plain ∙ is))

  of_text : (m : Method) → Rattle.kilim_run_machine.specs.Natives.is_text_method p m ≡ true → AnswersAs p of h m
  unfolding AnswersAs
  of_text m is args a e = absurd (false≢true (sym a.other ∙ is))

  of_message : (m : Method) → Rattle.kilim_run_machine.specs.Natives.is_of_message m ≡ true → AnswersAs p of h m
  unfolding AnswersAs
  of_message m is args a e = absurd (false≢true (sym a.no_message ∙ is))

  takes : (m : Method) → m.is_static ≡ true → Rattle.kilim_run_machine.specs.Natives.is_take p m ≡ true → AnswersAs p of h m
  unfolding AnswersAs
  takes m static is args a e = absurd (false≢true (sym (a.taken static) ∙ is))

  text_named : bytes_eq (class_name p (class_id (first p keeps form + 1))) (codes "java/lang/String") ≡ true
  text_named = ap (λ (x : List ℕ). bytes_eq x (codes "java/lang/String")) (string_name p keeps form)

  all_answer : AllByRecursion (AnswersAs p of h) (built_in_methods_in Plain (length keeps.built_in.own_classes))
  all_answer = (plainly _ refl, (of_text _ text_named, (of_text _ text_named, (of_text _ text_named, (plainly _ refl, (of_task _ native.Start refl (λ n. tt) (codes "kilim/Task") (task_name p keeps form) refl refl, (of_task _ native.Execute refl (λ n. tt) (codes "kilim/Task") (task_name p keeps form) refl refl, (plainly _ refl, (bounds _ refl (codes "kilim/Mailbox") (mailbox_name p keeps form) refl refl, (puts _ refl (codes "kilim/Mailbox") (mailbox_name p keeps form) refl refl, (puts_or_waits _ refl (codes "kilim/Mailbox") (mailbox_name p keeps form) refl refl, (of_box _ native.Get refl (λ b. tt) (codes "kilim/Mailbox") (mailbox_name p keeps form) refl refl, (of_box _ native.Getnb refl (λ b. tt) (codes "kilim/Mailbox") (mailbox_name p keeps form) refl refl, (prints _ vtype.Int (codes "kilim/Sys") (sys_name p keeps form) refl refl (λ m v t e. let r = int_is p m of v e in (token.Int r.0, ap printed r.1)), (prints _ vtype.Long (codes "kilim/Sys") (sys_name p keeps form) refl refl (λ m v t e. let r = long_is p m of v e in (token.Long r.0, ap printed r.1)), (prints _ (vtype.Object (class_type (first p keeps form + 1))) (codes "kilim/Sys") (sys_name p keeps form) refl refl (λ m v t e. text_shown p keeps form m of h heap v t.0 e), (alone _ native.Yield tt (codes "kilim/Sys") (sys_name p keeps form) refl refl, (alone _ native.ArgCount tt (codes "kilim/Sys") (sys_name p keeps form) refl refl, (gives_arg _ (codes "kilim/Sys") (sys_name p keeps form) refl refl, (takes _ refl (ap (λ (x : List ℕ). bytes_eq x (codes "kilim/Sys") && true) (sys_name p keeps form)), exceptions_too (AnswersAs p of h) (length keeps.built_in.own_classes) [] (λ c. plainly (built_in_constructor c) refl) (λ c. of_message (message_constructor (length keeps.built_in.own_classes) c) refl) (of_message (get_message (length keeps.built_in.own_classes)) refl) tt))))))))))))))))))))

  pub answers : (id : MethodId) (m : Method) → method_at p id ≡ Some m → m.built_in ≡ true → (args : List Value) → AsksWell p h m args → have_types p m of (native_types m) args ≡ true → (k : Native) × (native_method p m ≡ Some k) × TakesSuch k args
  unfolding AnswersAs
  answers id m there own args a e = built_in_one p keeps form (AnswersAs p of h) all_answer id m there own args a e
