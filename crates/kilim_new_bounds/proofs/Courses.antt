-- A course, seen from one mailbox: as long as its thread doesn't know it, nothing is done at it.
use Rattle.std.proofs.Common.{◌≡◌, ◌⊎◌, inl, inr, ℕ, zero, suc, ◌+◌, ◌≤◌, Bool, true, false, cond, eqb, List, [], ◌∷◌, ◌++◌, length, map, Option, Some, None, refl, sym, ap, subst, ◌∙◌, arith}
use Rattle.std.specs.Prelude.{◌&&◌, ◌||◌, not, slice_get, codes}
use Rattle.std.specs.FinMap.{get, get-empty, empty, insert}
use Rattle.std.specs.List.{AllByRecursion, list_all, list_any}
use Rattle.std.specs.Str.{bytes_eq}
use Rattle.std.proofs.lemmas.Bool.{and_parts, eq-eqb, eqb-true, or_left, or_right}
use Rattle.kilim_program.specs.declared.class.Class.{Class}
use Rattle.kilim_program.specs.declared.class.Form.TheVariants.{Plain}
use Rattle.kilim_program.specs.declared.class.Form.{Form}
use Rattle.kilim_program.specs.declared.class.Method.{Method}
use Rattle.kilim_program.specs.declared.names.BoxName.{BoxName}
use Rattle.kilim_program.specs.declared.names.ClassId.{ClassId}
use Rattle.kilim_program.specs.declared.names.FieldId.{FieldId}
use Rattle.kilim_program.specs.declared.names.MethodId.{MethodId}
use Rattle.kilim_program.specs.declared.value.Value.TheVariants.{Null, Box}
use Rattle.kilim_program.specs.BuiltIn.{built_in_classes_in, built_in_methods_in, class_id, methods_from}
use Rattle.kilim_program.specs.Keeps.{Keeps, members_are_owned, owned_from}
use Rattle.kilim_program.specs.Members.{constructor_of, execute_of}
use Rattle.kilim_program.specs.Names.{◌>>=◌, class_at, class_name, method_at}
use Rattle.kilim_program.specs.Program.{Program}
use Rattle.kilim_program.specs.Same.{is_constructor}
use Rattle.kilim_run_state.specs.declared.cause.EndCause.TheVariants as cause
use Rattle.kilim_run_state.specs.declared.value.Object.{Object}
use Rattle.kilim_run_state.specs.declared.value.Token.{Token}
use Rattle.kilim_run_state.specs.Machine.{Activation, Objects}
use Rattle.kilim_run_state.specs.Objects.{new_object}
use Rattle.kilim_run_state.specs.Trees.{OfMessage, OfTask, built, tree_names, with_objects}
use Rattle.kilim_run_machine.specs.Does.{is_mailbox}
use Rattle.kilim_run_machine.specs.Natives.{Native, is_handed_out_of, native_in, native_method, native_named, native_of, natives}
use Rattle.kilim_run_machine.specs.Natives as native
use Rattle.kilim_run_journal.specs.declared.entry.Act.{Act}
use Rattle.kilim_run_journal.specs.declared.entry.Act.TheVariants as act
use Rattle.kilim_run_board.specs.NewBounds.{is_done_at}
use Rattle.kilim_run_model.specs.State.{Setting, Thread, Alive, Ended, begun_on, class_of, execute_frames, same_box}
use Rattle.kilim_run_model.specs.Lone.{Lone, Next, Goes, Puts, PutWaits, Bounds, Gets, Probes, Starts, Prints, Ends, Stands, ended, next_move, pushed}
use Rattle.kilim_run_model.specs.Course.{Course, Done, Follows, IsLone, Moves, Quiet, Stays, did, done_by, fills_deed, lone_begun, lone_built, lone_in, next_action, probes_deed, puts_deed, received, starts_deed, takes_deed, tree_came, tree_left}
use Rattle.kilim_run_model.specs.declared.deed.Beginning.{Beginning}
use Rattle.kilim_run_model.specs.declared.deed.Beginning.TheVariants.{Boot, Begun}
use Rattle.kilim_run_model.specs.declared.deed.Deed.{Deed}
use Rattle.kilim_lemmas.proofs.Lists.{get_right}
use Rattle.kilim_lemmas.proofs.Texts.{text_is}
use Rattle.kilim_type_laws.proofs.members.Through.{each_at}
use Rattle.kilim_type_laws.specs.Laws.{typing_at}
use Rattle.kilim_isolation_laws.specs.Laws.{IsRunOfAccepted, StandsWell}
use Rattle.kilim_isolation_laws.specs.typed_threads.fine.Typed.{IsVerified}
use Rattle.kilim_isolation_laws.proofs.Keeping.{is_verified, quiet_fits, stack_there, thread_fits}
use Rattle.kilim_isolation_laws.proofs.typed_threads.Executing.{same_class}
use Rattle.kilim_isolation_laws.proofs.typed_threads.Threads.{action_splits, is_acting}
use Rattle.kilim_new_bounds.proofs.Calls.{new_plain}
use Rattle.kilim_new_bounds.proofs.Frames.{Stage, Clear, Held, Open, heap_mode}
use Rattle.kilim_new_bounds.proofs.Shapes.{ObjectsSo, TokensSo, built_so, with_objects_so, without_so}
use Rattle.kilim_new_bounds.proofs.Slots.{HeapSo, Away, Known, insert_so, is_box, known_heap, value_so}
use Rattle.kilim_new_bounds.proofs.Threads.{LoneIs, NextIs, ThreadIs, begun_frames, next_is}

-- ---- the methods of the mailbox's class are built in

among_owned : (ms : List Method) (n k : ℕ) (m : Method) → slice_get ms k ≡ Some m → list_any (λ (j : ℕ). eqb j (n + k)) (owned_from (λ g. g.owner) m.owner n ms) ≡ true
among_owned [] n k m at = absurd (cc)
among_owned (x ∷ ms) n zero m at =
    let s : x ≡ m = cc in
    let number : n ≡ n + 0 = omega arith in
    let same : eqb x.owner.0 m.owner.0 ≡ true = eq-eqb x.owner.0 m.owner.0 (ap (λ (g : Method). g.owner.0) s) in
    subst (λ (z : Bool). list_any (λ (j : ℕ). eqb j (n + 0)) (cond z (n ∷ owned_from (λ g. g.owner) m.owner (suc n) ms) (owned_from (λ g. g.owner) m.owner (suc n) ms)) ≡ true) (sym same) (or_left (eqb n (n + 0)) _ (eq-eqb n (n + 0) number))
among_owned (x ∷ ms) n (suc k) m at =
    let number : suc n + k ≡ n + suc k = omega arith in
    by (eqb x.owner.0 m.owner.0) (subst (λ (j : ℕ). list_any (λ (i : ℕ). eqb i j) (owned_from (λ g. g.owner) m.owner (suc n) ms) ≡ true) number (among_owned ms (suc n) k m at))
  where
    by : (z : Bool) → list_any (λ (j : ℕ). eqb j (n + suc k)) (owned_from (λ g. g.owner) m.owner (suc n) ms) ≡ true → list_any (λ (j : ℕ). eqb j (n + suc k)) (cond z (n ∷ owned_from (λ g. g.owner) m.owner (suc n) ms) (owned_from (λ g. g.owner) m.owner (suc n) ms)) ≡ true
    by true e = or_right (eqb n (n + suc k)) _ e
    by false e = e

abbrev is_built_at : List Method → ℕ → Bool
is_built_at ms k = elim (slice_get ms k) [ None ↦ false | Some m ↦ m.built_in ]

built_there : (own ms : List Method) (ks : List ℕ) → list_all (is_built_at ms) ks ≡ true → (x : ℕ) (m : Method) → slice_get (own ++ ms) x ≡ Some m → list_any (λ (j : ℕ). eqb j x) (map (λ (y : MethodId). y.0) (methods_from (length own) ks)) ≡ true → m.built_in ≡ true
built_there own ms [] all x m at e = absurd (cc)
built_there own ms (k ∷ ks) all x m at e = by (eqb (length own + k) x) refl e (λ rest. built_there own ms ks (and_parts (is_built_at ms k) (list_all (is_built_at ms) ks) all).1 x m at rest)
  where
    here : (o : Option Method) → slice_get ms k ≡ o → elim o [ None ↦ false | Some m ↦ m.built_in ] ≡ true → slice_get ms k ≡ Some m → m.built_in ≡ true
    here None is z f = absurd (cc)
    here (Some y) is z f = ap (λ (g : Method). g.built_in) (sym (let s : y ≡ m = cc in s)) ∙ z

    by : (z : Bool) → eqb (length own + k) x ≡ z → (z || list_any (λ (j : ℕ). eqb j x) (map (λ (y : MethodId). y.0) (methods_from (length own) ks))) ≡ true → (list_any (λ (j : ℕ). eqb j x) (map (λ (y : MethodId). y.0) (methods_from (length own) ks)) ≡ true → m.built_in ≡ true) → m.built_in ≡ true
    by true is e again =
        let place = eqb-true (length own + k) x is in
        here (slice_get ms k) refl (and_parts (is_built_at ms k) (list_all (is_built_at ms) ks) all).0 (sym (get_right own ms (length own + k) k refl) ∙ (ap (slice_get (own ++ ms)) place ∙ at))
    by false is e again = again e

-- the numbers of its methods behind those of the files
abbrev own_numbers : List ℕ
own_numbers = 7 ∷ 8 ∷ 9 ∷ 10 ∷ 11 ∷ 12 ∷ []

record MailboxClass (a m : ℕ) : Type 0 where
  class : Class
  at : slice_get (built_in_classes_in Plain a m) 5 ≡ Some class
  methods : class.methods ≡ methods_from m own_numbers
  named : class.name ≡ codes "kilim/Mailbox"

mailbox_class : (a m : ℕ) → MailboxClass a m
mailbox_class a m = record { class = _; at = refl; methods = refl; named = refl }

own_built : (n : ℕ) → list_all (is_built_at (built_in_methods_in Plain n)) own_numbers ≡ true
own_built n = refl

module _ (p : Program) (keeps : Keeps p) (form : p.form ≡ Plain) where
  abbrev n : ℕ
  n = length keeps.built_in.own_classes

  abbrev before : ℕ
  before = length keeps.built_in.own_methods

  class_there : class_at p (class_id (n + 5)) ≡ Some (mailbox_class n before).class
  class_there =
      ap (λ (cs : List Class). slice_get cs (n + 5)) keeps.built_in.classes
      ∙ (get_right keeps.built_in.own_classes (built_in_classes_in p.form n before) (n + 5) 5 refl
      ∙ (ap (λ (f : Form). slice_get (built_in_classes_in f n before) 5) form ∙ (mailbox_class n before).at))

  pub mailbox_built : (id : MethodId) (callee : Method) → method_at p id ≡ Some callee → is_mailbox p callee.owner ≡ true → callee.built_in ≡ true
  unfolding members_are_owned
  mailbox_built id callee at e =
      let x = mailbox_class n before in
      let name : bytes_eq (class_name p (class_id (n + 5))) (codes "kilim/Mailbox") ≡ true = ap (λ (o : Option Class). bytes_eq (elim o [ None ↦ [] | Some class ↦ class.name ]) (codes "kilim/Mailbox")) class_there ∙ ap (λ (t : List ℕ). bytes_eq t (codes "kilim/Mailbox")) x.named in
      let owner : callee.owner.0 ≡ n + 5 = same_class p keeps form (codes "kilim/Mailbox") refl callee.owner (class_id (n + 5)) e name in
      let one = each_at (λ (k : ClassId) (class : Class). bytes_eq (map (λ (f : FieldId). f.0) class.fields) (owned_from (λ f. f.owner) k 0 p.fields) && bytes_eq (map (λ (m : MethodId). m.0) class.methods) (owned_from (λ m. m.owner) k 0 p.methods)) 0 p.classes (n + 5) x.class keeps.members class_there in
      let number : 0 + (n + 5) ≡ callee.owner.0 = let o = owner in omega (arith, o) in
      let same = text_is (map (λ (m : MethodId). m.0) x.class.methods) (owned_from (λ (m : Method). m.owner) (class_id (0 + (n + 5))) 0 p.methods) (and_parts (bytes_eq (map (λ (f : FieldId). f.0) x.class.fields) (owned_from (λ f. f.owner) (class_id (0 + (n + 5))) 0 p.fields)) _ one).1 in
      let here : map (λ (m : MethodId). m.0) (methods_from before own_numbers) ≡ owned_from (λ (m : Method). m.owner) callee.owner 0 p.methods = ap (map (λ (m : MethodId). m.0)) (sym x.methods) ∙ (same ∙ ap (λ (k : ℕ). owned_from (λ (m : Method). m.owner) (class_id k) 0 p.methods) number) in
      let place : 0 + id.0 ≡ id.0 = omega arith in
      let found : list_any (λ (j : ℕ). eqb j id.0) (owned_from (λ (m : Method). m.owner) callee.owner 0 p.methods) ≡ true = subst (λ (i : ℕ). list_any (λ (j : ℕ). eqb j i) (owned_from (λ (m : Method). m.owner) callee.owner 0 p.methods) ≡ true) place (among_owned p.methods 0 id.0 callee at) in
      built_there keeps.built_in.own_methods (built_in_methods_in p.form n) own_numbers (subst (λ (f : Form). list_all (is_built_at (built_in_methods_in f n)) own_numbers ≡ true) (sym form) (own_built n)) id.0 callee
      (subst (λ (ms : List Method). slice_get ms id.0 ≡ Some callee) keeps.built_in.methods at) (subst (λ (js : List ℕ). list_any (λ (j : ℕ). eqb j id.0) js ≡ true) (sym here) found)

-- ---- of the built-in methods that are handed out, the constructor is that which bounds

abbrev is_bound : Native → Bool
is_bound native.Bound = true
is_bound k = false

abbrev BoundAlone : List ℕ × List ℕ × Native → Type 0
BoundAlone x = is_bound x.2 ≡ bytes_eq x.1 (codes "<init>")

bound_alone : AllByRecursion BoundAlone natives
bound_alone = (refl, (refl, (refl, (refl, (refl, (refl, (refl, (refl, (refl, (refl, (refl, (refl, (refl, (refl, (refl, (refl, (refl, (refl, (refl, (refl, (refl, (refl, tt))))))))))))))))))))))

named_alone : (ns : List (List ℕ × List ℕ × Native)) → AllByRecursion BoundAlone ns → (class name : List ℕ) (k : Native) → native_named ns class name ≡ Some k → is_bound k ≡ bytes_eq name (codes "<init>")
named_alone [] all class name k e = absurd (cc)
named_alone (x ∷ ns) all class name k e = by (bytes_eq class x.0) (bytes_eq name x.1) refl refl e (λ later. named_alone ns all.1 class name k later)
  where
    by : (y z : Bool) → bytes_eq class x.0 ≡ y → bytes_eq name x.1 ≡ z → cond (y && z) (Some x.2) (native_named ns class name) ≡ Some k → (native_named ns class name ≡ Some k → is_bound k ≡ bytes_eq name (codes "<init>")) → is_bound k ≡ bytes_eq name (codes "<init>")
    by true true f g e again = ap is_bound (sym (let s : x.2 ≡ k = cc in s)) ∙ (all.0 ∙ ap (λ (t : List ℕ). bytes_eq t (codes "<init>")) (sym (text_is name x.1 g)))
    by true false f g e again = again e
    by false z f g e again = again e

in_alone : (class : List ℕ) (m : Method) (k : Native) → native_in class m ≡ Some k → is_bound k ≡ is_constructor m
in_alone class m k e = by (is_handed_out_of class m) e
  where
    by : (z : Bool) → cond z (native_named natives class m.name) None ≡ Some k → is_bound k ≡ is_constructor m
    by true e = named_alone natives bound_alone class m.name k e
    by false e = absurd (cc)

is_the_bound : (k : Native) → is_bound k ≡ true → k ≡ native.Bound
is_the_bound native.Bound e = refl
is_the_bound k e = absurd (cc)

pub bounds_alone : (p : Program) (id : MethodId) (callee : Method) (k : Native) → method_at p id ≡ Some callee → native_of p id ≡ Some k → (is_constructor callee ≡ true → k ≡ native.Bound) × (k ≡ native.Bound → is_constructor callee ≡ true)
bounds_alone p id callee k at known =
    let same = in_alone (class_name p callee.owner) callee k (sym (ap (λ (o : Option Method). o >>= native_method p) at) ∙ known) in
    ((λ con. is_the_bound k (same ∙ con)), (λ e. sym same ∙ ap is_bound e))

-- what is done is an action
did_act : (set : Setting) (x : Next) (d : Deed) (y : Done) → done_by set x d ≡ Some y → is_acting x ≡ true
did_act set (Goes l) d y e = absurd (cc)
did_act set Stands d y e = absurd (cc)
did_act set (Puts box root shape l) d y e = refl
did_act set (PutWaits box root shape l) d y e = refl
did_act set (Bounds box most l) d y e = refl
did_act set (Gets box l) d y e = refl
did_act set (Probes box l) d y e = refl
did_act set (Starts root shape l) d y e = refl
did_act set (Prints token l) d y e = refl
did_act set (Ends c l) d y e = refl

-- ---- acts and shapes

abbrev pub Clean : BoxName → List Token → Type 0
Clean b ts = TokensSo b Away ts

-- nothing is done at the mailbox, and no shape has it
abbrev pub ActClean : BoxName → Act → Type 0
ActClean b (act.Put box n shape) = (same_box b box ≡ false) × Clean b shape
ActClean b (act.Take box n) = same_box b box ≡ false
ActClean b (act.Empty box) = same_box b box ≡ false
ActClean b (act.Bound box n) = same_box b box ≡ false
ActClean b (act.Start n shape) = Clean b shape
ActClean b (act.Print shape) = Unit {0}
ActClean b (act.End why) = Unit {0}
ActClean b (act.Wait box) = Unit {0}

pub not_done : (b : BoxName) (a : Act) → ActClean b a → is_done_at b a ≡ false
not_done b (act.Put box n shape) e = e.0
not_done b (act.Take box n) e = e
not_done b (act.Empty box) e = e
not_done b (act.Bound box n) e = e
not_done b (act.Start n shape) e = refl
not_done b (act.Print shape) e = refl
not_done b (act.End why) e = refl
not_done b (act.Wait box) e = refl

abbrev pub BeginsClean : BoxName → Beginning → Type 0
BeginsClean b Boot = Unit {0}
BeginsClean b (Begun shape) = Clean b shape

known_tokens : (b : BoxName) (ts : List Token) → TokensSo b Known ts
known_tokens b [] = tt
known_tokens b (t ∷ ts) = (refl, known_tokens b ts)

in_stage : (b : BoxName) (st : Stage) (ts : List Token) → Clean b ts → TokensSo b (heap_mode st) ts
in_stage b Clear ts e = e
in_stage b (Held d q) ts e = e
in_stage b Open ts e = known_tokens b ts

clean_of : (b : BoxName) (st : Stage) (ts : List Token) → (st ≡ Open → ⊥) → TokensSo b (heap_mode st) ts → Clean b ts
clean_of b Clear ts n e = e
clean_of b (Held d q) ts n e = e
clean_of b Open ts n e = absurd (n refl)

other_of : (b box : BoxName) (st : Stage) → (st ≡ Open → ⊥) → value_so b (heap_mode st) (Box box) ≡ true → same_box b box ≡ false
other_of b box Clear n e = is_not (same_box b box) e
  where
    is_not : (z : Bool) → not z ≡ true → z ≡ false
    is_not true e = absurd (cc)
    is_not false e = refl
other_of b box (Held d q) n e = is_not (same_box b box) e
  where
    is_not : (z : Bool) → not z ≡ true → z ≡ false
    is_not true e = absurd (cc)
    is_not false e = refl
other_of b box Open n e = absurd (n refl)

done_is : (x y : Done) → Some x ≡ Some y → x ≡ y
done_is x y e = cc

lone_is : (x y : Lone) → Some x ≡ Some y → x ≡ y
lone_is x y e = cc

-- ---- along a course

module _ (set : Setting) (run : IsRunOfAccepted set) (b : BoxName) where
  abbrev p : Program
  p = set.program

  pub verified : IsVerified set (typing_at p) (λ id at k. true)
  verified = is_verified set run.keeps run.form run.well run.accepted run.main run.begins

  pub built_in : (id : MethodId) (callee : Method) → method_at p id ≡ Some callee → is_mailbox p callee.owner ≡ true → callee.built_in ≡ true
  built_in = mailbox_built p run.keeps run.form

  abbrev pub Is : ℕ → Stage → Lone → Type 0
  Is t st l = LoneIs set verified built_in (bounds_alone p) b t st l

  abbrev Then : ℕ → Stage → Next → Type 0
  Then t st x = NextIs set verified built_in (bounds_alone p) b t st x

  pub record Later (t : ℕ) (st : Stage) (l : Lone) : Type 0 where
    pub stage : Stage
    pub known : st ≡ Open → stage ≡ Open
    pub alone : (b.task ≡ t → ⊥) → st ≡ Clear → stage ≡ Clear
    pub is : Is t stage l

  fits_on : (t : ℕ) (a l : Lone) → StandsWell set a → Quiet set t a l → StandsWell set l
  fits_on t a l f q = quiet_fits set run.keeps run.form run.well run.accepted run.main run.begins t a l f q

  next_of : (t : ℕ) (st : Stage) (l : Lone) → StandsWell set l → Is t st l → Then t st (next_move set t l)
  next_of t st l f x = next_is set verified built_in (bounds_alone p) b t st l f.of f.fits (stack_there set run.keeps run.form run.well run.accepted run.main run.begins l f) x

  quiet_is : (t : ℕ) (st : Stage) (a l : Lone) → StandsWell set a → Is t st a → Quiet set t a l → Later t st l
  quiet_is t st a l f x (Stays same) = record { stage = st; known = λ e. e; alone = λ n e. e; is = subst (Is t st) same x }
  quiet_is t st a l f x (Moves c q e) =
      let y = quiet_is t st a c f x q in
      let fc = fits_on t a c f q in
      let fl = fits_on t a l f (Moves c q e) in
      let z = subst (Then t y.stage) e (next_of t y.stage c fc y.is) fl.of fl.fits in
      record { stage = z.stage; known = λ o. z.known (y.known o); alone = λ n o. z.alone n (y.alone n o); is = z.is }

  -- ---- a deed

  pub record Done_so (t : ℕ) (st : Stage) (a : Act) (mid : Lone) : Type 0 where
    pub stage : Stage
    pub known : st ≡ Open → stage ≡ Open
    pub alone : (b.task ≡ t → ⊥) → st ≡ Clear → stage ≡ Clear
    pub is : Is t stage mid
    pub clean : (stage ≡ Open → ⊥) → ActClean b a

  same_done : (t : ℕ) (st : Stage) (own a : Act) (l mid : Lone) → did own l ≡ did a mid → Is t st l → ((st ≡ Open → ⊥) → ActClean b own) → Done_so t st a mid
  same_done t st own a l mid e x clean =
      let s = done_is (record { act = own; after = l }) (record { act = a; after = mid }) e in
      record { stage = st; known = λ o. o; alone = λ n o. o; is = subst (Is t st) (ap (λ (d : Done). d.after) s) x; clean = λ n. subst (ActClean b) (ap (λ (d : Done). d.act) s) (clean n) }

  left_is : (t : ℕ) (st : Stage) (root : ℕ) (l : Lone) → Is t st l → Is t st (tree_left p root l)
  left_is t st root l x = by l.thread x
    where
      by : (th : Thread) → ThreadIs set verified built_in (bounds_alone p) b t st l.heap th → ThreadIs set verified built_in (bounds_alone p) b t st (tree_left p root l).heap th
      by (Alive frames done boxes) x = (record { frames = x.0.frames; heap = without_so b (heap_mode st) l.heap (tree_names p l.heap root) x.0.heap; range = x.0.range }, x.1)
      by (Ended why) x = without_so b (heap_mode st) l.heap (tree_names p l.heap root) x

  ended_is : (t : ℕ) (st : Stage) (l : Lone) (why : _) → Is t st l → Is t st (ended l why)
  ended_is t st l why x = by l.thread x
    where
      by : (th : Thread) → ThreadIs set verified built_in (bounds_alone p) b t st l.heap th → HeapSo b (heap_mode st) l.heap
      by (Alive frames done boxes) x = x.0.heap
      by (Ended c) x = x

  module _ (t : ℕ) (st : Stage) (d : Deed) (taken : TokensSo b (heap_mode st) d.taken) where
    puts_so : (box : BoxName) (root : ℕ) (shape : List Token) (l : Lone) (own a : Act) (mid : Lone) → (value_so b (heap_mode st) (Box box) ≡ true) × TokensSo b (heap_mode st) shape × Is t st l → puts_deed p box root shape l own ≡ Some (record { act = a; after = mid }) → Done_so t st a mid
    puts_so box root shape l (act.Put c n s) a mid x e = same_done t st (act.Put box n shape) a (tree_left p root l) mid e (left_is t st root l x.2) (λ n. (other_of b box st n x.0, clean_of b st shape n x.1))
    puts_so box root shape l own a mid x e = absurd (cc)

    fills_so : (box : BoxName) (root : ℕ) (shape : List Token) (l : Lone) (own a : Act) (mid : Lone) → (value_so b (heap_mode st) (Box box) ≡ true) × TokensSo b (heap_mode st) shape × Is t st l → fills_deed p box root shape l own ≡ Some (record { act = a; after = mid }) → Done_so t st a mid
    fills_so box root shape l (act.Put c n s) a mid x e = same_done t st (act.Put box n shape) a (tree_left p root l) mid e (left_is t st root l x.2) (λ n. (other_of b box st n x.0, clean_of b st shape n x.1))
    fills_so box root shape l (act.End why) a mid x e = same_done t st (act.End cause.Full) a (ended l cause.Full) mid e (ended_is t st l cause.Full x.2) (λ n. tt)
    fills_so box root shape l own a mid x e = absurd (cc)

    starts_so : (root : ℕ) (shape : List Token) (l : Lone) (own a : Act) (mid : Lone) → TokensSo b (heap_mode st) shape × Is t st l → starts_deed p root shape l own ≡ Some (record { act = a; after = mid }) → Done_so t st a mid
    starts_so root shape l (act.Start n s) a mid x e = same_done t st (act.Start n shape) a (tree_left p root l) mid e (left_is t st root l x.1) (λ n. clean_of b st shape n x.0)
    starts_so root shape l (act.End why) a mid x e = same_done t st (act.End cause.Tasks) a (ended l cause.Tasks) mid e (ended_is t st l cause.Tasks x.1) (λ n. tt)
    starts_so root shape l own a mid x e = absurd (cc)

    abbrev Receives : Lone → Type 0
    Receives l = (objects : List Object) → ObjectsSo b (heap_mode st) objects → Is t st (received l objects)

    came_so : (box : BoxName) (n : ℕ) (l : Lone) (o : Option (List Object)) → built p OfMessage l.next d.taken ≡ o → (a : Act) (mid : Lone) → value_so b (heap_mode st) (Box box) ≡ true → Receives l → tree_came box n l o ≡ Some (record { act = a; after = mid }) → Done_so t st a mid
    came_so box n l None at a mid g r e = absurd (cc)
    came_so box n l (Some objects) at a mid g r e = same_done t st (act.Take box n) a (received l objects) mid e (r objects (built_so b (heap_mode st) p OfMessage l.next d.taken objects taken at)) (λ n. other_of b box st n g)

    takes_so : (box : BoxName) (l : Lone) (own a : Act) (mid : Lone) → value_so b (heap_mode st) (Box box) ≡ true → Receives l → takes_deed p box l d own ≡ Some (record { act = a; after = mid }) → Done_so t st a mid
    takes_so box l (act.Take c n) a mid g r e = came_so box n l (built p OfMessage l.next d.taken) refl a mid g r e
    takes_so box l own a mid g r e = absurd (cc)

    probes_so : (box : BoxName) (l : Lone) (own a : Act) (mid : Lone) → value_so b (heap_mode st) (Box box) ≡ true → Receives l → Is t st (pushed Null l) → probes_deed p box l d own ≡ Some (record { act = a; after = mid }) → Done_so t st a mid
    probes_so box l (act.Empty c) a mid g r x e = same_done t st (act.Empty box) a (pushed Null l) mid e x (λ n. other_of b box st n g)
    probes_so box l (act.Take c n) a mid g r x e = takes_so box l (act.Take c n) a mid g r e
    probes_so box l own a mid g r x e = absurd (cc)

    act_so : (x : Next) (a : Act) (mid : Lone) → Then t st x → done_by set x d ≡ Some (record { act = a; after = mid }) → Done_so t st a mid
    act_so (Goes l) a mid x e = absurd (cc)
    act_so (Puts box root shape l) a mid x e = fills_so box root shape l d.act a mid x e
    act_so (PutWaits box root shape l) a mid x e = puts_so box root shape l d.act a mid x e
    act_so (Bounds box most l) a mid (inl x, least) e =
        let s = done_is (record { act = act.Bound box most; after = l }) (record { act = a; after = mid }) e in
        record { stage = Open; known = λ o. refl; alone = λ n o. absurd (x.1.0 o); is = subst (Is t Open) (ap (λ (y : Done). y.after) s) x.2; clean = λ n. absurd (n refl) }
    act_so (Bounds box most l) a mid (inr x, least) e = same_done t st (act.Bound box most) a l mid e x.1 (λ n. x.0)
    act_so (Gets box l) a mid x e = takes_so box l d.act a mid x.0 x.1 e
    act_so (Probes box l) a mid x e = probes_so box l d.act a mid x.0 x.1 x.2 e
    act_so (Starts root shape l) a mid x e = starts_so root shape l d.act a mid x e
    act_so (Prints token l) a mid x e = same_done t st (act.Print (token ∷ [])) a l mid e x (λ n. tt)
    act_so (Ends why l) a mid x e = same_done t st (act.End why) a l mid e x (λ n. tt)
    act_so Stands a mid x e = absurd (cc)

  deed_is : (t : ℕ) (st : Stage) (l mid : Lone) (d : Deed) → StandsWell set l → Is t st l → ((k : Stage) → (st ≡ Open → k ≡ Open) → TokensSo b (heap_mode k) d.taken) → done_by set (next_action set t l) d ≡ Some (record { act = d.act; after = mid }) → Done_so t st d.act mid
  deed_is t st l mid d f x taken e =
      let s = action_splits set t l (next_action set t l) refl (did_act set (next_action set t l) d _ e) in
      let y = quiet_is t st l s.at f x s.quiet in
      let z = act_so t y.stage d (taken y.stage y.known) (next_action set t l) d.act mid (subst (Then t y.stage) s.acts (next_of t y.stage s.at (fits_on t l s.at f s.quiet) y.is)) e in
      record { stage = z.stage; known = λ o. z.known (y.known o); alone = λ n o. z.alone n (y.alone n o); is = z.is; clean = z.clean }

  abbrev pub TakenClean : List Deed → Type 0
  TakenClean ds = AllByRecursion (λ (d : Deed). Clean b d.taken) ds

  -- a thread after deeds of a course
  record Reach (t : ℕ) (l : Lone) : Type 0 where
    course : Course
    lone : IsLone set t course l

  stood : (t : ℕ) (l : Lone) → Reach t l → StandsWell set l
  stood t l r = thread_fits set run.keeps run.form run.well run.accepted run.main run.begins t r.course l l r.lone (Stays refl)

  follows_more : (t : ℕ) (first : Lone) (ds : List Deed) (d : Deed) (l mid : Lone) → Follows set t first ds l → done_by set (next_action set t l) d ≡ Some (record { act = d.act; after = mid }) → Follows set t first (ds ++ d ∷ []) mid
  follows_more t first [] d l mid f e = (mid, subst (λ (x : Lone). done_by set (next_action set t x) d ≡ Some (record { act = d.act; after = mid })) (sym f) e, refl)
  follows_more t first (c ∷ ds) d l mid f e = (f.0, f.1, follows_more t f.0 ds d l mid f.2 e)

  reach_on : (t : ℕ) (l mid : Lone) (d : Deed) → Reach t l → done_by set (next_action set t l) d ≡ Some (record { act = d.act; after = mid }) → Reach t mid
  reach_on t l mid d r e = record {
    course = record { beginning = r.course.beginning; deeds = r.course.deeds ++ d ∷ [] };
    lone = record { first = r.lone.first; begins = r.lone.begins; follows = follows_more t r.lone.first r.course.deeds d l mid r.lone.follows e };
  }

  -- once it is known, it stays so
  known_along : (t : ℕ) (l : Lone) (ds : List Deed) (last : Lone) → Reach t l → Is t Open l → Follows set t l ds last → Is t Open last
  known_along t l [] last r x follows = subst (Is t Open) follows x
  known_along t l (d ∷ ds) last r x follows =
      let y = deed_is t Open l follows.0 d (stood t l r) x (λ k o. subst (λ (z : Stage). TokensSo b (heap_mode z) d.taken) (sym (o refl)) (known_tokens b d.taken)) follows.1 in
      known_along t follows.0 ds last (reach_on t l follows.0 d r follows.1) (subst (λ (k : Stage). Is t k follows.0) (y.known refl) y.is) follows.2

  -- where its thread doesn't come to know it, or is another's and never does
  abbrev Unknown : ℕ → Stage → Lone → Type 0
  Unknown t st last = ((b.task ≡ t → ⊥) × (st ≡ Clear)) ⊎ (Is t Open last → ⊥)

  -- the first deeds took clean shapes: then so does the next do clean things
  clean_along : (t : ℕ) (st : Stage) (l : Lone) (ds : List Deed) (d : Deed) (more : List Deed) (last : Lone) → Reach t l → Is t st l → Follows set t l (ds ++ d ∷ more) last → TakenClean ds → Clean b d.taken → Unknown t st last → ActClean b d.act
  clean_along t st l [] d more last r x follows taken own unknown =
      let y = deed_is t st l follows.0 d (stood t l r) x (λ k o. in_stage b k d.taken own) follows.1 in
      y.clean (not_known y unknown)
    where
      not_known : (y : Done_so t st d.act follows.0) → Unknown t st last → y.stage ≡ Open → ⊥
      not_known y (inl u) o = absurd (let z : Clear ≡ Open = sym (y.alone u.0 u.1) ∙ o in cc)
      not_known y (inr u) o = u (known_along t follows.0 more last (reach_on t l follows.0 d r follows.1) (subst (λ (k : Stage). Is t k follows.0) o y.is) follows.2)
  clean_along t st l (c ∷ ds) d more last r x follows taken own unknown =
      let y = deed_is t st l follows.0 c (stood t l r) x (λ k o. in_stage b k c.taken taken.0) follows.1 in
      clean_along t y.stage follows.0 ds d more last (reach_on t l follows.0 c r follows.1) y.is follows.2 taken.1 own (on y unknown)
    where
      on : (y : Done_so t st c.act follows.0) → Unknown t st last → Unknown t y.stage last
      on y (inl u) = inl (u.0, y.alone u.0 u.1)
      on y (inr u) = inr u

  -- ---- a beginning

  abbrev no_objects : Objects
  no_objects = empty

  no_heap : HeapSo b Away no_objects
  no_heap k o e = absurd (nothing k o e)
    where
      nothing : (k : ℕ) (o : Object) → get no_objects k ≡ Some o → ⊥
      nothing k o e = let none : get no_objects k ≡ None = get-empty _ k in let z : None ≡ Some o = sym none ∙ e in cc

  frames_begin : (t : ℕ) (h : Objects) (next : ℕ) (kept : Option ℕ) (id : Option MethodId) (n : ℕ) (x : Option (List Activation)) (l : Lone) → begun_on p id n ≡ x → lone_in h next kept x ≡ Some l → StandsWell set l → HeapSo b Away h → Is t Clear l
  frames_begin t h next kept id n None l e is f heap = absurd (cc)
  frames_begin t h next kept id n (Some []) l e is f heap =
      let s = lone_is (record { heap = h; next = next; thread = Alive [] 0 0; kept = kept }) l is in
      subst (Is t Clear) s (record { frames = tt; heap = heap; range = tt }, tt)
  frames_begin t h next kept id n (Some (a ∷ as1)) l e is f heap =
      let s = lone_is (record { heap = h; next = next; thread = Alive (a ∷ as1) 0 0; kept = kept }) l is in
      let fs : StandsWell set (record { heap = h; next = next; thread = Alive (a ∷ as1) 0 0; kept = kept }) = subst (StandsWell set) (sym s) f in
      subst (Is t Clear) s (begun_frames set verified built_in (bounds_alone p) b h fs.of n id a as1 e Clear fs.fits.fits heap, tt)

  task_begins : (t : ℕ) (o : Option (List Object)) (l : Lone) → (objects : ((os : List Object) → o ≡ Some os → ObjectsSo b Away os)) → lone_built p o ≡ Some l → StandsWell set l → Is t Clear l
  task_begins t None l objects e f = absurd (cc)
  task_begins t (Some os) l objects e f =
      frames_begin t (with_objects empty 0 os) (length os) None (get (with_objects empty 0 os) 0 >>= λ (object : Object). class_of object.class.base >>= λ c. execute_of p c) 0 (execute_frames p (with_objects empty 0 os) 0) l refl e f (with_objects_so b Away os empty 0 no_heap (objects os refl))

  first_is : (t : ℕ) (beginning : Beginning) (l : Lone) → BeginsClean b beginning → lone_begun set beginning ≡ Some l → StandsWell set l → Is t Clear l
  first_is t Boot l clean e f =
      frames_begin t (insert empty 0 (new_object p set.main)) 1 (Some 0) (constructor_of p set.main) 0 (begun_on p (constructor_of p set.main) 0) l refl e f (insert_so b Away empty 0 (new_object p set.main) no_heap (new_plain p b Away set.main))
  first_is t (Begun shape) l clean e f = task_begins t (built p OfTask 0 shape) l (λ os at. built_so b Away p OfTask 0 shape os clean at) e f

  reach_first : (t : ℕ) (c : Course) (first : Lone) → lone_begun set c.beginning ≡ Some first → Reach t first
  reach_first t c first e = record { course = record { beginning = c.beginning; deeds = [] }; lone = record { first = first; begins = e; follows = refl } }

  stands_first : (t : ℕ) (c : Course) (first : Lone) → lone_begun set c.beginning ≡ Some first → StandsWell set first
  stands_first t c first e = thread_fits set run.keeps run.form run.well run.accepted run.main run.begins t (record { beginning = c.beginning; deeds = [] }) first first (record { first = first; begins = e; follows = refl }) (Stays refl)

  -- ---- a course

  pub course_clean : (t : ℕ) (c : Course) (last : Lone) → IsLone set t c last → ((b.task ≡ t → ⊥) ⊎ (Is t Open last → ⊥)) → BeginsClean b c.beginning → (ds : List Deed) (d : Deed) (more : List Deed) → c.deeds ≡ ds ++ d ∷ more → TakenClean ds → Clean b d.taken → ActClean b d.act
  course_clean t c last is unknown begins ds d more parts taken own =
      let f = stands_first t c is.first is.begins in
      clean_along t Clear is.first ds d more last (reach_first t c is.first is.begins) (first_is t c.beginning is.first begins is.begins f) (subst (λ (xs : List Deed). Follows set t is.first xs last) parts is.follows) taken own (by unknown)
    where
      by : (b.task ≡ t → ⊥) ⊎ (Is t Open last → ⊥) → Unknown t Clear last
      by (inl n) = inl (n, refl)
      by (inr n) = inr n

  -- ---- another task's mailbox is known to whoever holds it

  frames_open : (t : ℕ) → (b.task ≡ t → ⊥) → (h : Objects) (next : ℕ) (kept : Option ℕ) (id : Option MethodId) (n : ℕ) (x : Option (List Activation)) (l : Lone) → begun_on p id n ≡ x → lone_in h next kept x ≡ Some l → StandsWell set l → Is t Open l
  frames_open t other h next kept id n None l e is f = absurd (cc)
  frames_open t other h next kept id n (Some []) l e is f =
      let s = lone_is (record { heap = h; next = next; thread = Alive [] 0 0; kept = kept }) l is in
      subst (Is t Open) s (record { frames = tt; heap = known_heap b h; range = tt }, λ o. absurd (other o))
  frames_open t other h next kept id n (Some (a ∷ as1)) l e is f =
      let s = lone_is (record { heap = h; next = next; thread = Alive (a ∷ as1) 0 0; kept = kept }) l is in
      let fs : StandsWell set (record { heap = h; next = next; thread = Alive (a ∷ as1) 0 0; kept = kept }) = subst (StandsWell set) (sym s) f in
      subst (Is t Open) s (begun_frames set verified built_in (bounds_alone p) b h fs.of n id a as1 e Open fs.fits.fits (known_heap b h), λ o. absurd (other o))

  task_open : (t : ℕ) → (b.task ≡ t → ⊥) → (o : Option (List Object)) (l : Lone) → lone_built p o ≡ Some l → StandsWell set l → Is t Open l
  task_open t other None l e f = absurd (cc)
  task_open t other (Some os) l e f =
      frames_open t other (with_objects empty 0 os) (length os) None (get (with_objects empty 0 os) 0 >>= λ (object : Object). class_of object.class.base >>= λ c. execute_of p c) 0 (execute_frames p (with_objects empty 0 os) 0) l refl e f

  first_open : (t : ℕ) → (b.task ≡ t → ⊥) → (beginning : Beginning) (l : Lone) → lone_begun set beginning ≡ Some l → StandsWell set l → Is t Open l
  first_open t other Boot l e f = frames_open t other (insert empty 0 (new_object p set.main)) 1 (Some 0) (constructor_of p set.main) 0 (begun_on p (constructor_of p set.main) 0) l refl e f
  first_open t other (Begun shape) l e f = task_open t other (built p OfTask 0 shape) l e f

  last_open : (t : ℕ) (c : Course) (l : Lone) → (b.task ≡ t → ⊥) → IsLone set t c l → Is t Open l
  last_open t c l other is =
      let f = stands_first t c is.first is.begins in
      known_along t is.first c.deeds l (reach_first t c is.first is.begins) (first_open t other c.beginning is.first is.begins f) is.follows

  -- ---- where a mailbox is bounded, its thread doesn't know it yet

  next_open : (t : ℕ) (c : Course) (l : Lone) (box : BoxName) (most : ℕ) (after : Lone) → IsLone set t c l → next_action set t l ≡ Bounds box most after → Is t Open l → Then t Open (Bounds box most after)
  next_open t c l box most after is e x =
      let s = action_splits set t l (Bounds box most after) e refl in
      let f = thread_fits set run.keeps run.form run.well run.accepted run.main run.begins t c l l is (Stays refl) in
      let y = quiet_is t Open l s.at f x s.quiet in
      subst (Then t Open) s.acts (next_of t Open s.at (fits_on t l s.at f s.quiet) (subst (λ (k : Stage). Is t k s.at) (y.known refl) y.is))

  pub not_known : (t : ℕ) (c : Course) (l : Lone) (most : ℕ) (after : Lone) → IsLone set t c l → next_action set t l ≡ Bounds b most after → Is t Open l → ⊥
  not_known t c l most after is e x = by (next_open t c l b most after is e x).0
    where
      same_self : same_box b b ≡ true
      same_self = subst (λ (z : Bool). (z && eqb b.number b.number) ≡ true) (sym (eq-eqb b.task b.task refl)) (eq-eqb b.number b.number refl)

      by : ((is_box b (Box b) ≡ true) × ((Open ≡ Clear → ⊥) × (Open ≡ Open → ⊥)) × Is t Open after) ⊎ ((is_box b (Box b) ≡ false) × Is t Open after) → ⊥
      by (inl z) = z.1.1 refl
      by (inr z) = absurd (let w = same_self in let v = z.0 in cc)

  -- a thread bounds mailboxes of its own alone
  pub its_own : (t : ℕ) (c : Course) (l : Lone) (most : ℕ) (after : Lone) → IsLone set t c l → next_action set t l ≡ Bounds b most after → (b.task ≡ t → ⊥) → ⊥
  its_own t c l most after is e other = not_known t c l most after is e (last_open t c l other is)

  pub least : (t : ℕ) (c : Course) (l : Lone) (box : BoxName) (most : ℕ) (after : Lone) → (b.task ≡ t → ⊥) → IsLone set t c l → next_action set t l ≡ Bounds box most after → 1 ≤ most
  least t c l box most after other is e = (next_open t c l box most after is e (last_open t c l other is)).1
