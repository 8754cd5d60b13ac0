-- What well-typed code names, and what its calls call.
use Rattle.std.proofs.Common.{◌≡◌, ◌≢◌, ℕ, zero, suc, ◌+◌, Bool, true, false, not, ◌&&◌, ◌||◌, ℤ, List, [], ◌∷◌, length, Option, Some, None, Ok, refl, sym, ap, subst, ◌∙◌, arith}
use Rattle.std.specs.Prelude.{slice_get, codes, if◌then◌else◌, reverse}
use Rattle.std.specs.FinMap.{get}
use Rattle.std.specs.List.{AllByRecursion}
use Rattle.std.specs.Str.{bytes_eq}
use Rattle.std.proofs.lemmas.Bool.{and_parts, false≢true}
use Rattle.kilim_program.specs.declared.class.Class.{Class}
use Rattle.kilim_program.specs.declared.class.Form.TheVariants.{Plain}
use Rattle.kilim_program.specs.declared.class.Method.{Method}
use Rattle.kilim_program.specs.declared.instr.Instr.{Instr}
use Rattle.kilim_program.specs.declared.instr.Instr.TheVariants.{Invokevirtual, Invokespecial, Invokestatic, New}
use Rattle.kilim_program.specs.declared.names.ClassId.{ClassId}
use Rattle.kilim_program.specs.declared.names.MethodId.{MethodId}
use Rattle.kilim_program.specs.declared.ty.Ty.{Ty}
use Rattle.kilim_program.specs.declared.value.Value.{Value}
use Rattle.kilim_program.specs.declared.value.Value.TheVariants.{Int, Long, Null, Ref, Text, Box, Fiber}
use Rattle.kilim_program.specs.BuiltIn.{built_in_constructor, built_in_methods_in, class_id, class_type, get_message, message_constructor}
use Rattle.kilim_program.specs.Fits.{fits_type}
use Rattle.kilim_program.specs.Keeps.{Keeps, code_is_whole}
use Rattle.kilim_program.specs.Lengths.{code_stands, fetched}
use Rattle.kilim_program.specs.Names.{class_at, class_name, is_empty, method_at}
use Rattle.kilim_program.specs.Program.{Program}
use Rattle.kilim_program.proofs.BuiltIns.{exceptions_too}
use Rattle.kilim_program.specs.Same.{is_constructor}
use Rattle.kilim_run_state.specs.declared.value.Object.{Object}
use Rattle.kilim_run_machine.specs.Does.{does, calls_method, calls_on, calls_text, chosen, gives_message, keeps_message, special, takes_element, text_answers, unit_at, at_unit}
use Rattle.kilim_run_machine.specs.Effect.{Effect, Goes, Makes, Opens, Calls, Asks, Returns, Raises, Throws, Ends, Stuck, with_some, on_value, on_values, as_receiver, as_class, as_int, as_object, at_index, at_place, text_of, when}
use Rattle.kilim_program.specs.Members.{named_type}
use Rattle.kilim_run_state.specs.Machine.{Objects}
use Rattle.kilim_run_machine.specs.Natives.{Native, is_built_in_constructor, is_get_message, is_handed_out, is_message_constructor, is_of, is_of_message, is_take, is_text_method, native_method, native_named, natives, native_in, takes_object}
use Rattle.kilim_type_spec.specs.Step.{Types, by_row, missing, may_make, may_name, row, special_by, special_fits, special_row, static_row, type_step, virtual_row}
use Rattle.kilim_type_spec.specs.Typed.{IsWellTyped, typing_of}
use Rattle.kilim_type_laws.proofs.Edges.{stands_at}
use Rattle.kilim_type_laws.proofs.Tops.{passed}
use Rattle.kilim_type_sound.proofs.BuiltInMembers.{NamedAt, built_in_at, named_at, none_built_in}
use Rattle.kilim_type_laws.proofs.members.FromKeeps.{all_at}
use Rattle.kilim_type_laws.proofs.members.ValueClasses.{all_of_at}
use Rattle.kilim_weave_laws.proofs.woven_types.Codes.{whole_code}
use Rattle.kilim_weave_laws.proofs.woven_types.Old.{special_asks}
use Rattle.kilim_weave_laws.proofs.woven_programs.Frames.{by_place}
use Rattle.kilim_fiber_spec.specs.Fibers.{as_member}
use Rattle.kilim_fiber_spec.specs.Rows.{IsClean, below_arguments, class_if, value_class}
use Rattle.kilim_fiber_spec.specs.Serves.{is_pausing_native}
use Rattle.kilim_fiber_spec.proofs.alike.Lands.{hushed, q_object, q_some}

-- ---- the built-in methods of plain programs

abbrev pub FitNative : Option Native → Bool → Type 0
FitNative None pausable = Unit {0}
FitNative (Some n) pausable = (is_pausing_native n ≡ pausable) × (as_member (Some n) ≡ None)

-- Those that pause are the natives that pause, none is a member of the fiber, and none that pauses is a method of strings or
-- `kilim/Sys.take`.
pub record FitBuiltIn (P : Program) (m : Method) : Type 0 where
  pub native : FitNative (native_method P m) m.pausable
  pub text : m.pausable ≡ true → is_text_method P m ≡ false
  pub handed_out : m.pausable ≡ true → is_handed_out P m ≡ true

module _ (P : Program) where
  -- one that doesn't pause
  still : (m : Method) (class : List ℕ) → class_name P m.owner ≡ class → m.built_in ≡ true → m.pausable ≡ false → FitNative (native_in class m) false → FitBuiltIn P m
  still m class e b p n = record {
    native = subst (λ (z : Bool). FitNative (native_method P m) z) (sym p) (subst (λ (z : List ℕ). FitNative (native_in z m) false) (sym e) n);
    text = λ h. absurd (false≢true (sym p ∙ h));
    handed_out = λ h. absurd (false≢true (sym p ∙ h));
  }

  -- one of the message of an exception
  of_message : (m : Method) (class : List ℕ) → class_name P m.owner ≡ class → m.built_in ≡ true → m.pausable ≡ false → is_of_message m ≡ true → FitBuiltIn P m
  of_message m class e b p o = still m class e b p (subst (λ (z : Option Native). FitNative z false) (sym none) tt)
    where
      not_out : (z constructs text take message : Bool) → message ≡ true → (z && not (constructs || (text || (take || message)))) ≡ false
      not_out false constructs text take message is = refl
      not_out true true text take message is = refl
      not_out true false true take message is = refl
      not_out true false false true message is = refl
      not_out true false false false true is = refl
      not_out true false false false false is = absurd (false≢true is)

      none : native_in class m ≡ None
      none = ap (λ (z : Bool). if z then native_named natives class m.name else None)
          (not_out m.built_in (is_built_in_constructor m) (is_of class (codes "java/lang/String") m) (is_of class (codes "kilim/Sys") m && bytes_eq m.name (codes "take")) (is_of_message m) o)

  -- one that pauses
  pauses : (m : Method) (class : List ℕ) → class_name P m.owner ≡ class → m.built_in ≡ true → m.pausable ≡ true → FitNative (native_in class m) true
      → bytes_eq class (codes "java/lang/String") ≡ false → bytes_eq m.name (codes "<init>") ≡ false → bytes_eq m.name (codes "take") ≡ false → bytes_eq m.name (codes "getMessage") ≡ false → FitBuiltIn P m
  pauses m class e b p n text plain take gets = record {
    native = subst (λ (z : Bool). FitNative (native_method P m) z) (sym p) (subst (λ (z : List ℕ). FitNative (native_in z m) true) (sym e) n);
    text = λ h. no_text;
    handed_out = λ h. handed;
  }
    where
      no_text : is_text_method P m ≡ false
      no_text = ap (λ (z : Bool). z && bytes_eq (class_name P m.owner) (codes "java/lang/String")) b ∙ ap (λ (z : List ℕ). true && bytes_eq z (codes "java/lang/String")) e ∙ text

      no_take : is_take P m ≡ false
      no_take = ap (λ (z : Bool). (m.built_in && bytes_eq (class_name P m.owner) (codes "kilim/Sys")) && z) take ∙ falls (m.built_in && bytes_eq (class_name P m.owner) (codes "kilim/Sys"))
        where
          falls : (z : Bool) → (z && false) ≡ false
          falls true = refl
          falls false = refl

      no_constructor : is_built_in_constructor m ≡ false
      no_constructor = ap (λ (z : Bool). z && (bytes_eq m.name (codes "<init>") && is_empty m.params)) b ∙ ap (λ (z : Bool). true && (z && is_empty m.params)) plain

      no_message : is_of_message m ≡ false
      no_message =
          ap (λ (z : Bool). (z && (bytes_eq m.name (codes "<init>") && takes_object m.params)) || (z && bytes_eq m.name (codes "getMessage"))) b
          ∙ ap (λ (z : Bool). (true && (z && takes_object m.params)) || (true && bytes_eq m.name (codes "getMessage"))) plain ∙ gets

      handed : is_handed_out P m ≡ true
      handed =
          ap (λ (z : Bool). z && not (is_built_in_constructor m || (is_text_method P m || (is_take P m || is_of_message m)))) b
          ∙ ap (λ (z : Bool). true && not (z || (is_text_method P m || (is_take P m || is_of_message m)))) no_constructor
          ∙ ap (λ (z : Bool). true && not (false || (z || (is_take P m || is_of_message m)))) no_text
          ∙ ap (λ (z : Bool). true && not (false || (false || (z || is_of_message m)))) no_take
          ∙ ap (λ (z : Bool). true && not (false || (false || (false || z)))) no_message

module _ (P : Program) (keeps : Keeps P) (plainly : P.form ≡ Plain) where
  abbrev n : ℕ
  n = length keeps.built_in.own_classes

  abbrev o : ℕ
  o = length keeps.built_in.own_methods

  class_of : (k : ℕ) (name : List ℕ) → NamedAt Plain n o k name → class_name P (class_id (n + k)) ≡ name
  class_of k name h = named_at P keeps Plain plainly k name h

  object : class_name P (class_id n) ≡ codes "java/lang/Object"
  object = ap (λ (z : ℕ). class_name P (class_id z)) (let e : n ≡ n + 0 = omega arith in e) ∙ class_of 0 (codes "java/lang/Object") (record { class = _; at = refl; is = refl })

  string : class_name P (class_id (n + 1)) ≡ codes "java/lang/String"
  string = class_of 1 (codes "java/lang/String") (record { class = _; at = refl; is = refl })

  task : class_name P (class_id (n + 4)) ≡ codes "kilim/Task"
  task = class_of 4 (codes "kilim/Task") (record { class = _; at = refl; is = refl })

  mailbox : class_name P (class_id (n + 5)) ≡ codes "kilim/Mailbox"
  mailbox = class_of 5 (codes "kilim/Mailbox") (record { class = _; at = refl; is = refl })

  sys : class_name P (class_id (n + 6)) ≡ codes "kilim/Sys"
  sys = class_of 6 (codes "kilim/Sys") (record { class = _; at = refl; is = refl })

  all_built : AllByRecursion (FitBuiltIn P) (built_in_methods_in Plain n)
  all_built = (
    still P _ _ object refl refl tt,
    (
      still P _ _ string refl refl tt,
      (
        still P _ _ string refl refl tt,
        (
          still P _ _ string refl refl tt,
          (
            still P _ _ task refl refl tt,
            (
              still P _ _ task refl refl (refl, refl),
              (
                pauses P _ _ task refl refl (refl, refl) refl refl refl refl,
                (
                  still P _ _ mailbox refl refl tt,
                  (
                    still P _ _ mailbox refl refl (refl, refl),
                    (
                      still P _ _ mailbox refl refl (refl, refl),
                      (
                        pauses P _ _ mailbox refl refl (refl, refl) refl refl refl refl,
                        (
                          pauses P _ _ mailbox refl refl (refl, refl) refl refl refl refl,
                          (
                            still P _ _ mailbox refl refl (refl, refl),
                            (
                              still P _ _ sys refl refl (refl, refl),
                              (
                                still P _ _ sys refl refl (refl, refl),
                                (
                                  still P _ _ sys refl refl (refl, refl),
                                  (
                                    pauses P _ _ sys refl refl (refl, refl) refl refl refl refl,
                                    (
                                      still P _ _ sys refl refl (refl, refl),
                                      (
                                        still P _ _ sys refl refl (refl, refl),
                                        (still P _ _ sys refl refl tt, exceptions_too (FitBuiltIn P) n [] (λ c. still P (built_in_constructor c) (class_name P c) refl refl refl tt) (λ c. of_message P (message_constructor n c) (class_name P c) refl refl refl refl) (of_message P (get_message n) (class_name P (class_id (n + 7))) refl refl refl refl) tt),
                                      ),
                                    ),
                                  ),
                                ),
                              ),
                            ),
                          ),
                        ),
                      ),
                    ),
                  ),
                ),
              ),
            ),
          ),
        ),
      ),
    ),
  )

  -- every method: one with code has no native
  pub fit : (id : MethodId) (m : Method) → method_at P id ≡ Some m → m.built_in ≡ true → FitBuiltIn P m
  fit id m at is =
      let b = built_in_at keeps.built_in.own_methods (built_in_methods_in P.form n) id.0 m (subst (λ (ms : List Method). slice_get ms id.0 ≡ Some m) keeps.built_in.methods at) (none_built_in P keeps) is in
      all_of_at (FitBuiltIn P) (built_in_methods_in Plain n) all_built b.0 m (subst (λ (f : _). slice_get (built_in_methods_in f n) b.0 ≡ Some m) plainly b.1)

  pub native_fits : (id : MethodId) (m : Method) → method_at P id ≡ Some m → FitNative (native_method P m) m.pausable
  native_fits id m at = by m.built_in refl
    where
      by : (z : Bool) → m.built_in ≡ z → FitNative (native_method P m) m.pausable
      by true e = (fit id m at e).native
      by false e = subst (λ (z : Bool). FitNative (if z && not (is_built_in_constructor m || (is_text_method P m || (is_take P m || is_of_message m))) then native_named natives (class_name P m.owner) m.name else None) m.pausable) (sym e) tt

-- ---- well-typed code

missing_fails : (P : Program) (m : Method) (q : ℕ) (f g : Types) → by_row P m q missing f ≡ Ok g → ⊥
missing_fails P m q f g h =
    let p3 = passed 3 _ _ g h in
    let p8 = passed 8 false (Ok f) g p3.1 in
    let x : false ≡ true = p8.0 in
    absurd (false≢true x)

flips : (b : Bool) → not b ≡ true → b ≡ false
flips true e = absurd (false≢true e)
flips false e = refl

has_found : (es : List (ℕ × Instr)) (end p : ℕ) (z : Instr × ℕ) → fetched es end p ≡ Some z → not (is_empty es) ≡ true
has_found [] end p z e = absurd (cc)
has_found (x ∷ es) end p z e = refl

module _ (P : Program) (keeps : Keeps P) (typed : IsWellTyped P) where
  -- the instruction at a place steps
  pub step_of : (k : MethodId) (u : Method) → method_at P k ≡ Some u → (q to : ℕ) (i : Instr) → fetched u.code u.code_length q ≡ Some (i, to) → (f : Types) × (g : Types) × (type_step P u q i f ≡ Ok g)
  unfolding code_is_whole
  step_of k u at q to i e =
      let whole = (and_parts (code_stands 0 u.code u.code_length) _ (all_at code_is_whole P.methods k.0 u keeps.code at)).0 in
      let well = by_place P u (whole_code u whole).grows (typed.methods k u at (has_found u.code u.code_length q (i, to) e)) in
      let s = stands_at P keeps u (typing_of P u) well q i to e in
      (typing_of P u q, s.after, s.step)

  virtual_asks : (u : Method) (q : ℕ) (id : MethodId) (f g : Types) (o : Option Method) → method_at P id ≡ o → by_row P u q (virtual_row u o) f ≡ Ok g → (a : Method) × (method_at P id ≡ Some a) × (is_constructor a ≡ false)
  virtual_asks u q id f g None at e = absurd (missing_fails P u q f g e)
  virtual_asks u q id f g (Some a) at e =
      let p3 = passed 3 _ _ g e in
      let p4 = passed 4 _ _ g p3.1 in
      let p5 = passed 5 _ _ g p4.1 in
      let p8 = passed 8 _ _ g p5.1 in
      let p10 = passed 10 _ _ g p8.1 in
      (a, at, flips (is_constructor a) (and_parts (not (is_constructor a)) _ p10.0).0)

  pub names_virtual : (k : MethodId) (u : Method) → method_at P k ≡ Some u → (q to : ℕ) (id : MethodId) → fetched u.code u.code_length q ≡ Some (Invokevirtual id, to) → (a : Method) × (method_at P id ≡ Some a) × (is_constructor a ≡ false)
  unfolding row
  names_virtual k u at q to id e = let s = step_of k u at q to (Invokevirtual id) e in virtual_asks u q id s.0 s.1 (method_at P id) refl s.2

  static_asks : (u : Method) (q : ℕ) (id : MethodId) (f g : Types) (o : Option Method) → method_at P id ≡ o → by_row P u q (static_row u o) f ≡ Ok g → (a : Method) × (method_at P id ≡ Some a)
  static_asks u q id f g None at e = absurd (missing_fails P u q f g e)
  static_asks u q id f g (Some a) at e = (a, at)

  pub names_static : (k : MethodId) (u : Method) → method_at P k ≡ Some u → (q to : ℕ) (id : MethodId) → fetched u.code u.code_length q ≡ Some (Invokestatic id, to) → (a : Method) × (method_at P id ≡ Some a)
  unfolding row
  names_static k u at q to id e = let s = step_of k u at q to (Invokestatic id) e in static_asks u q id s.0 s.1 (method_at P id) refl s.2

  pub special_names : (u : Method) (q : ℕ) (id : MethodId) (f g : Types) (o : Option Method) → method_at P id ≡ o → by_row P u q (special_row P u id o) f ≡ Ok g
      → (a : Method) × (method_at P id ≡ Some a) × (is_constructor a ≡ false → (may_name u a.is_private a.owner ≡ true) × (special_fits P u id a ≡ true))
  special_names u q id f g None at e = absurd (missing_fails P u q f g e)
  special_names u q id f g (Some a) at e = (a, at, λ c. special_asks P u q id a f g (ap (λ (z : Bool). by_row P u q (special_by z P u id a) f) (sym c) ∙ e))

  pub names_special : (k : MethodId) (u : Method) → method_at P k ≡ Some u → (q to : ℕ) (id : MethodId) → fetched u.code u.code_length q ≡ Some (Invokespecial id, to)
      → (a : Method) × (method_at P id ≡ Some a) × (is_constructor a ≡ false → (may_name u a.is_private a.owner ≡ true) × (special_fits P u id a ≡ true))
  unfolding row
  names_special k u at q to id e = let s = step_of k u at q to (Invokespecial id) e in special_names u q id s.0 s.1 (method_at P id) refl s.2

  made_there : (u : Method) (q : ℕ) (c : ClassId) (o : Option Class) → class_at P c ≡ o → may_make P c o ≡ true → (class : Class) × (class_at P c ≡ Some class)
  made_there u q c None at e = absurd (false≢true e)
  made_there u q c (Some class) at e = (class, at)

  -- a class of which code makes an object is there
  pub names_class : (k : MethodId) (u : Method) → method_at P k ≡ Some u → (q to : ℕ) (c : ClassId) → fetched u.code u.code_length q ≡ Some (New c, to) → (class : Class) × (class_at P c ≡ Some class)
  unfolding row
  names_class k u at q to c e =
      let s = step_of k u at q to (New c) e in
      let p4 = passed 4 _ _ s.1 s.2 in
      let p10 = passed 10 _ _ s.1 p4.1 in
      let p13 = passed 13 _ _ s.1 p10.1 in
      made_there u q c (class_at P c) refl p13.0

-- ---- what calls call

-- every method that an effect calls
abbrev pub AllCalled : (MethodId → Type 0) → Effect → Type 0
AllCalled good (Calls c args q l s heap) = good c
AllCalled good (Asks c args q l s heap) = good c
AllCalled good e = Unit {0}

module _ (good : MethodId → Type 0) (P : Program) (to : ℕ) (l : List Value) (heap : Objects) where
  -- what calls nothing
  quiet : (e : Effect) → hushed e ≡ e → AllCalled good e
  quiet (Calls c args q l s k) e = absurd (let z : Stuck ≡ Calls c args q l s k = e in cc)
  quiet (Asks c args q l s k) e = absurd (let z : Stuck ≡ Asks c args q l s k = e in cc)
  quiet (Goes q l s k) e = tt
  quiet (Makes o q l s k) e = tt
  quiet (Opens q l s k) e = tt
  quiet (Returns v k) e = tt
  quiet (Raises c) e = tt
  quiet (Throws n k c) e = tt
  quiet (Ends c) e = tt
  quiet Stuck e = tt

  g_method : (c : MethodId) (args s : List Value) → ((m : Method) → method_at P c ≡ Some m → good c) → AllCalled good (calls_method (method_at P c) c args to l s heap)
  g_method c args s h = by (method_at P c) refl
    where
      keeps_none : (args : List Value) → AllCalled good (keeps_message args to l s heap)
      keeps_none [] = tt
      keeps_none (v ∷ []) = tt
      keeps_none (v ∷ w ∷ []) = quiet (keeps_message (v ∷ w ∷ []) to l s heap) (simp (q_object, q_some))
      keeps_none (v ∷ w ∷ x ∷ vs) = tt

      gives_none : (args : List Value) → AllCalled good (gives_message args to l s heap)
      gives_none [] = tt
      gives_none (v ∷ []) = quiet (gives_message (v ∷ []) to l s heap) (simp (q_object, q_some))
      gives_none (v ∷ w ∷ vs) = tt

      kinds : (m : Method) → method_at P c ≡ Some m → (t keeps gives : Bool) → AllCalled good (if t then (if keeps then keeps_message args to l s heap else (if gives then gives_message args to l s heap else Asks c args to l s heap)) else Calls c args to l s heap)
      kinds m e true true gives = keeps_none args
      kinds m e true false true = gives_none args
      kinds m e true false false = h m e
      kinds m e false keeps gives = h m e

      by : (o : Option Method) → method_at P c ≡ o → AllCalled good (calls_method o c args to l s heap)
      by None e = tt
      by (Some m) e = kinds m e m.built_in (is_message_constructor m) (is_get_message m)

  g_values : (k : ℕ) (s : List Value) (go : List Value → List Value → Effect) → ((vs r : List Value) → below_arguments k s ≡ r → AllCalled good (go vs r)) → AllCalled good (on_values k s go)
  g_values zero s go h = h [] s refl
  g_values (suc k) [] go h = tt
  g_values (suc k) (v ∷ s) go h = g_values k s (λ vs r. go (v ∷ vs) r) (λ vs r e. h (v ∷ vs) r e)

  g_value : (s : List Value) (go : Value → List Value → Effect) → ((v : Value) (r : List Value) → s ≡ v ∷ r → AllCalled good (go v r)) → AllCalled good (on_value s go)
  g_value [] go h = tt
  g_value (v ∷ r) go h = h v r refl

  g_receiver : (v : Value) (go : Value → Effect) → ((u : Value) → AllCalled good (go u)) → AllCalled good (as_receiver v go)
  g_receiver (Int x) go h = tt
  g_receiver (Long x) go h = tt
  g_receiver Null go h = tt
  g_receiver (Ref k) go h = h (Ref k)
  g_receiver (Text u) go h = h (Text u)
  g_receiver (Box u) go h = h (Box u)
  g_receiver Fiber go h = h Fiber

  g_class : (v : Value) (go : Option Ty → Effect) → (v ≢ Fiber) → AllCalled good (go None) → ((ty : Ty) → value_class P v heap ≡ Some ty → AllCalled good (go (Some ty))) → AllCalled good (as_class P v heap go)
  g_class (Int x) go ne n h = tt
  g_class (Long x) go ne n h = tt
  g_class Null go ne n h = n
  g_class (Ref k) go ne n h = by (get heap k) refl
    where
      by : (o : Option Object) → get heap k ≡ o → AllCalled good (with_some o (λ object. go (Some object.class)))
      by None e = tt
      by (Some object) e = h object.class (ap class_if e)
  g_class (Text u) go ne n h = by (named_type P (codes "java/lang/String")) refl
    where
      by : (o : Option Ty) → named_type P (codes "java/lang/String") ≡ o → AllCalled good (go o)
      by None e = n
      by (Some ty) e = h ty e
  g_class (Box u) go ne n h = by (named_type P (codes "kilim/Mailbox")) refl
    where
      by : (o : Option Ty) → named_type P (codes "kilim/Mailbox") ≡ o → AllCalled good (go o)
      by None e = n
      by (Some ty) e = h ty e
  g_class Fiber go ne n h = absurd (ne refl)

  g_if : (t : Bool) (d e : Effect) → AllCalled good d → AllCalled good e → AllCalled good (if t then d else e)
  g_if true d e x y = x
  g_if false d e x y = y

  g_when : (t : Bool) (d : Effect) → AllCalled good d → AllCalled good (when t d)
  g_when true d x = x
  g_when false d x = tt

  g_int : (v : Value) (go : ℤ → Effect) → ((z : ℤ) → AllCalled good (go z)) → AllCalled good (as_int v go)
  g_int (Int z) go h = h z
  g_int (Long z) go h = tt
  g_int Null go h = tt
  g_int (Ref k) go h = tt
  g_int (Text u) go h = tt
  g_int (Box u) go h = tt
  g_int Fiber go h = tt

  g_text : (a : Method) (args rest : List Value) (v : Value) → AllCalled good (calls_text a args to l rest heap v)
  g_text a args rest v = g_receiver v _ (λ r. by (text_of r))
    where
      unit : (z : Option ℕ) → AllCalled good (at_unit z (λ w. Goes to l (w ∷ rest) heap))
      unit None = tt
      unit (Some z) = tt

      units_at : (units : List ℕ) (i : ℤ) → AllCalled good (unit_at units i (λ w. Goes to l (w ∷ rest) heap))
      units_at units (Rattle.std.specs.Prelude.pos i) = unit (slice_get units i)
      units_at units (Rattle.std.specs.Prelude.negsuc i) = tt

      answers : (units : List ℕ) (as1 : List Value) → AllCalled good (text_answers a.name units as1 (λ w. Goes to l (w ∷ rest) heap))
      answers units [] = g_when (bytes_eq a.name (codes "length")) _ tt
      answers units (w ∷ []) = g_if (bytes_eq a.name (codes "equals")) _ _ tt (g_when (bytes_eq a.name (codes "charAt")) _ (g_int w _ (λ i. units_at units i)))
      answers units (w ∷ x ∷ ws) = tt

      by : (o : Option (List ℕ)) → AllCalled good (with_some o (λ units. text_answers a.name units args (λ w. Goes to l (w ∷ rest) heap)))
      by None = tt
      by (Some units) = answers units args

  g_object : (v : Value) (go : ℕ → Object → Effect) → ((k : ℕ) (x : Object) → AllCalled good (go k x)) → AllCalled good (as_object v heap go)
  g_object (Int x) go h = tt
  g_object (Long x) go h = tt
  g_object Null go h = tt
  g_object (Ref k) go h = by (get heap k)
    where
      by : (o : Option Object) → AllCalled good (with_some o (λ object. go k object))
      by None = tt
      by (Some object) = h k object
  g_object (Text u) go h = tt
  g_object (Box u) go h = tt
  g_object Fiber go h = tt

  g_index : (vs : List Value) (i : ℤ) (go : ℕ → Value → Effect) → ((k : ℕ) (v : Value) → AllCalled good (go k v)) → AllCalled good (at_index vs i go)
  g_index vs (Rattle.std.specs.Prelude.negsuc i) go h = tt
  g_index vs (Rattle.std.specs.Prelude.pos i) go h = by (slice_get vs i)
    where
      by : (o : Option Value) → AllCalled good (at_place o (go i))
      by None = tt
      by (Some v) = h i v

  g_take : (s : List Value) → AllCalled good (takes_element to l s heap)
  g_take s = g_value s _ (λ w r e. g_int w _ (λ i. g_value r _ (λ x rest e2. g_object x _ (λ k object. g_index object.elements i _ (λ j y. tt)))))

  pub called_virtual : (own : Method) (id : MethodId) (a : Method) (s : List Value) → method_at P id ≡ Some a → IsClean P (Invokevirtual id) s heap
      → ((ty : Ty) → fits_type P ty (class_type a.owner.0) ≡ true → (m : Method) → method_at P (chosen P a id ty) ≡ Some m → good (chosen P a id ty)) → AllCalled good (does P own (Invokevirtual id) to l s heap)
  unfolding does
  called_virtual own id a s at ready h =
      subst (λ (z : Option Method). AllCalled good (with_some z (λ method. on_values (length method.params) s (λ args below. on_value below (λ receiver rest. if is_text_method P method then calls_text method (reverse args) to l rest heap receiver else as_class P receiver heap (calls_on P method id (reverse args) to l rest heap receiver)))))) (sym at)
      (g_values (length a.params) s _ (λ vs r below. g_value r _ (λ v rest top. g_if (is_text_method P a) _ _ (g_text a (reverse vs) rest v)
      (g_class v _ (not_fiber (length a.params) s ready.clean r v rest below top) tt (λ ty class. g_method (chosen P a id ty) (v ∷ reverse vs) rest (λ m e. h ty (ready.receives a at v rest (below ∙ top) ty class) m e))))))
    where
      kept_clean : (k : ℕ) (s : List Value) → Rattle.kilim_fiber_spec.specs.Rows.Clean s → Rattle.kilim_fiber_spec.specs.Rows.Clean (below_arguments k s)
      kept_clean zero s c = c
      kept_clean (suc k) [] c = tt
      kept_clean (suc k) (v ∷ s) c = kept_clean k s c.1

      not_fiber : (k : ℕ) (s : List Value) → Rattle.kilim_fiber_spec.specs.Rows.Clean s → (r : List Value) (v : Value) (rest : List Value) → below_arguments k s ≡ r → r ≡ v ∷ rest → v ≢ Fiber
      not_fiber k s c r v rest e top = (subst (λ (z : List Value). Rattle.kilim_fiber_spec.specs.Rows.Clean z) (e ∙ top) (kept_clean k s c)).0

  pub called_special : (own : Method) (id : MethodId) (a : Method) (s : List Value) → method_at P id ≡ Some a → ((m : Method) → method_at P (special P own a id) ≡ Some m → good (special P own a id)) → AllCalled good (does P own (Invokespecial id) to l s heap)
  unfolding does
  called_special own id a s at h =
      subst (λ (z : Option Method). AllCalled good (with_some z (λ method. if is_built_in_constructor method then on_value s (λ v rest. as_receiver v (λ receiver. Goes to l rest heap)) else on_values (length method.params) s (λ args below. on_value below (λ v rest. as_receiver v (λ receiver. calls_method (method_at P (special P own method id)) (special P own method id) (receiver ∷ reverse args) to l rest heap)))))) (sym at)
      (g_if (is_built_in_constructor a) _ _ (g_value s _ (λ v rest e. g_receiver v _ (λ u. tt)))
      (g_values (length a.params) s _ (λ vs r e. g_value r _ (λ v rest e2. g_receiver v _ (λ u. g_method (special P own a id) (u ∷ reverse vs) rest h)))))

  pub called_static : (own : Method) (id : MethodId) (a : Method) (s : List Value) → method_at P id ≡ Some a → good id → AllCalled good (does P own (Invokestatic id) to l s heap)
  unfolding does
  called_static own id a s at h =
      subst (λ (z : Option Method). AllCalled good (with_some z (λ method. if is_handed_out P method then on_values (length method.params) s (λ args rest. Asks id (reverse args) to l rest heap) else (if method.built_in then takes_element to l s heap else on_values (length method.params) s (λ args rest. Calls id (reverse args) to l rest heap))))) (sym at)
      (g_if (is_handed_out P a) _ _ (g_values (length a.params) s _ (λ vs r e. h)) (g_if a.built_in _ _ (g_take s) (g_values (length a.params) s _ (λ vs r e. h))))
