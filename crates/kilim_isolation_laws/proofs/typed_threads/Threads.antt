-- Each thread that there can be fits.
use Rattle.std.proofs.Common.{◌≡◌, ℕ, zero, suc, ◌≤◌, arith, Bool, true, false, List, [], ◌∷◌, ◌++◌, length, Option, Some, None, refl, sym, ap, subst, ◌∙◌}
use Rattle.std.specs.FinMap.{empty, get, insert, get-empty}
use Rattle.std.proofs.lemmas.Bool.{and_parts, eqb-true}
use Rattle.kilim_program.specs.declared.ty.Base.{Base}
use Rattle.kilim_program.specs.declared.ty.Base.TheVariants as base
use Rattle.kilim_program.specs.declared.ty.Ty.{Ty}
use Rattle.kilim_program.specs.BuiltIn.{class_type}
use Rattle.kilim_program.specs.Names.{◌>>=◌, class_at, is_task}
use Rattle.kilim_program.specs.Program.{Program}
use Rattle.kilim_run_state.specs.declared.value.Object.{Object}
use Rattle.kilim_run_state.specs.declared.value.Token.{Token}
use Rattle.kilim_run_state.specs.Machine.{Objects, Activation}
use Rattle.kilim_program.specs.Members.{constructor_of, execute_of, is_concrete}
use Rattle.kilim_run_state.specs.Objects.{new_object}
use Rattle.kilim_run_state.specs.Trees.{OfTask, built, is_root, is_whole_class, with_objects}
use Rattle.kilim_run_model.specs.State.{Setting, begun_on, class_of, execute_frames, is_fit}
use Rattle.kilim_run_model.specs.Lone.{Lone, Next, Goes, Puts, PutWaits, Bounds, Gets, Probes, Starts, Prints, Ends, Stands, next_move}
use Rattle.kilim_run_model.specs.Course.{Course, Done, Follows, IsLone, Moves, Quiet, Stays, done_by, lone_begun, lone_built, lone_in, next_action, next_or, next_within}
use Rattle.kilim_run_model.specs.declared.deed.Beginning.{Beginning}
use Rattle.kilim_run_model.specs.declared.deed.Beginning.TheVariants.{Boot, Begun}
use Rattle.kilim_run_model.specs.declared.deed.Deed.{Deed}
use Rattle.kilim_type_sound.specs.Fits.{Classes, Fits, HeapFits, Typing, Wanted}
use Rattle.kilim_isolation_laws.specs.typed_threads.fine.Typed.{IsVerified}
use Rattle.kilim_isolation_laws.specs.typed_threads.Typed.{Further, IsTyped, StacksAreThere}
use Rattle.kilim_isolation_laws.specs.typed_threads.Law.{BeginningsAreTyped, ThreadsAreTyped}
use Rattle.kilim_isolation_laws.proofs.typed_threads.Booting.{boot_begins, new_fits}
use Rattle.kilim_isolation_laws.proofs.typed_threads.Came.{came_fit, classes_fresh, classes_placed, with_classes}
use Rattle.kilim_isolation_laws.proofs.typed_threads.Executing.{execute_begins}
use Rattle.kilim_isolation_laws.proofs.typed_threads.Moving.{deeds_stay_typed, moves_stay_typed}
use Rattle.kilim_isolation_laws.proofs.typed_threads.Read.{Placed, built_is, whole_objects}

some_same : {A : Type 0} (x y : A) → Some x ≡ Some y → x ≡ y
some_same x y e = cc

no_classes : Classes
no_classes = λ q. None

abbrev no_objects : Objects
no_objects = empty

nothing_there : (n : ℕ) (o : Object) → get no_objects n ≡ Some o → ⊥
nothing_there n o e = let none : get no_objects n ≡ None = get-empty _ n in let z : None ≡ Some o = sym none ∙ e in cc

empty_fits : (p : Program) → HeapFits p no_classes no_objects
unfolding no_classes
empty_fits p = record { proper = λ n c e. absurd (let z : None ≡ Some c = e in cc); classes = λ n o e. absurd (nothing_there n o e); objects = λ n o e. absurd (nothing_there n o e) }

-- ---- beginnings

module _ (set : Setting) (typing : Typing) (live : Wanted) (is : IsVerified set typing live) where
  abbrev p : Program
  p = set.program

  lone_fits : (of : Classes) (heap : Objects) (next : ℕ) (kept : Option ℕ) (o : Option (List Activation)) (l : Lone) → ((frames : List Activation) → o ≡ Some frames → Fits p typing live of frames heap) → ((q : ℕ) → next ≤ q → of q ≡ None) →
      ((q : ℕ) → kept ≡ Some q → of q ≡ Some (class_type set.main.0)) → lone_in heap next kept o ≡ Some l → IsTyped set typing live l
  lone_fits of heap next kept None l begun fresh own e = absurd (cc)
  lone_fits of heap next kept (Some frames) l begun fresh own e =
      subst (λ (x : Lone). IsTyped set typing live x) (some_same _ l e) (record { of = of; is = record { fits = begun frames refl; fresh = fresh; kept = own } })

  boot_typed : is_fit set ≡ true → (l : Lone) → lone_begun set Boot ≡ Some l → IsTyped set typing live l
  unfolding no_classes
  boot_typed main l e =
      let a = and_parts (is_concrete (class_at p set.main)) _ main in
      let b = and_parts (is_task p set.main) _ a.1 in
      let object = new_object p set.main in
      let of = with_classes no_classes 0 (object ∷ []) in
      let heap : HeapFits p of (insert empty 0 object) = came_fit p no_classes empty 0 (object ∷ []) (empty_fits p) (λ q le. refl) (new_fits p is.keeps is.form of set.main a.0 b.0, tt) in
      let here : of 0 ≡ Some (class_type set.main.0) = (classes_placed no_classes 0 (object ∷ [])).0 in
      lone_fits of (insert empty 0 object) 1 (Some 0) (begun_on p (constructor_of p set.main) 0) l
      (λ frames begun. boot_begins p is.keeps is.form typing live is.verified of (insert empty 0 object) heap set.main 0 frames main here begun)
      (classes_fresh no_classes 0 (object ∷ []) (λ q le. refl))
      (λ q k. subst (λ (j : ℕ). of j ≡ Some (class_type set.main.0)) (some_same 0 q k) here)
      e

  -- a task's tree
  task_begins : (of : Classes) (h : Objects) → HeapFits p of h → (d : ℕ) (b : Base) → of 0 ≡ Some (record { dims = d; base = b }) → is_root p OfTask (record { dims = d; base = b }) ≡ true → is_whole_class p (record { dims = d; base = b }) ≡ true → (frames : List Activation) →
      begun_on p (class_of b >>= λ c. execute_of p c) 0 ≡ Some frames → Fits p typing live of frames h
  task_begins of h heap zero (base.Class c) here kind whole frames e = execute_begins p is.keeps is.form typing live is.verified of h heap c 0 frames (and_parts (is_concrete (class_at p c)) _ (whole_objects p c whole)).0 kind here e
  task_begins of h heap (suc d) b here kind whole frames e = absurd (let z = eqb-true (suc d) 0 (and_parts _ _ kind).0 in omega (arith, z))
  task_begins of h heap zero base.Bool here kind whole frames e = absurd (cc)
  task_begins of h heap zero base.Byte here kind whole frames e = absurd (cc)
  task_begins of h heap zero base.Char here kind whole frames e = absurd (cc)
  task_begins of h heap zero base.Short here kind whole frames e = absurd (cc)
  task_begins of h heap zero base.Int here kind whole frames e = absurd (cc)
  task_begins of h heap zero base.Long here kind whole frames e = absurd (cc)

  root_begins : (of : Classes) (h : Objects) → HeapFits p of h → (ty : Ty) → of 0 ≡ Some ty → is_root p OfTask ty ≡ true → is_whole_class p ty ≡ true → (o : Option Object) → get h 0 ≡ o → (frames : List Activation) →
      begun_on p (o >>= λ (object : Object). class_of object.class.base >>= λ c. execute_of p c) 0 ≡ Some frames → Fits p typing live of frames h
  root_begins of h heap ty here kind whole None at frames e = absurd (cc)
  root_begins of h heap ty here kind whole (Some object) at frames e =
      let own = heap.classes 0 object at in
      let same : ty ≡ object.class = some_same ty object.class (sym here ∙ own) in
      task_begins of h heap object.class.dims object.class.base own (subst (λ (t : Ty). is_root p OfTask t ≡ true) same kind) (subst (λ (t : Ty). is_whole_class p t ≡ true) same whole) frames e

  begun_typed : (shape : List Token) (o : Option (List Object)) → built p OfTask 0 shape ≡ o → (l : Lone) → lone_built p o ≡ Some l → IsTyped set typing live l
  unfolding no_classes
  begun_typed shape None e l made = absurd (cc)
  begun_typed shape (Some objects) e l made =
      let b = built_is p OfTask 0 shape objects e in
      let of = with_classes no_classes 0 objects in
      let h = with_objects empty 0 objects in
      let placed = classes_placed no_classes 0 objects in
      let heap : HeapFits p of h = came_fit p no_classes empty 0 objects (empty_fits p) (λ q le. refl) (b.fits of placed) in
      let first : Placed of 0 (b.first ∷ b.rest) = subst (λ (os : List Object). Placed of 0 os) b.is placed in
      let here : of 0 ≡ Some b.ty = first.0 ∙ ap (λ (c : Ty). Some c) b.class in
      lone_fits of h (length objects) None (execute_frames p h 0) l
      (λ frames begun. root_begins of h heap b.ty here b.kind b.whole (get h 0) refl frames begun)
      (λ q le. classes_fresh no_classes 0 objects (λ q le. refl) q (omega (arith, le)))
      (λ q k. absurd (cc))
      made

pub beginnings_are_typed : BeginningsAreTyped
beginnings_are_typed set typing live is main Boot first e = boot_typed set typing live is main first e
beginnings_are_typed set typing live is main (Begun shape) first e = begun_typed set typing live is shape (built set.program OfTask 0 shape) refl first e

-- ---- up to the next action

-- it acts
abbrev pub is_acting : Next → Bool
is_acting (Goes l) = false
is_acting Stands = false
is_acting next = true

pub record Splits (set : Setting) (t : ℕ) (a : Lone) (x : Next) : Type 0 where
  pub at : Lone
  pub quiet : Quiet set t a at
  pub acts : next_move set t at ≡ x

quiet_from : (set : Setting) (t : ℕ) (a b l : Lone) → next_move set t a ≡ Goes b → Quiet set t b l → Quiet set t a l
quiet_from set t a b l e (Stays same) = subst (λ (x : Lone). Quiet set t a x) same (Moves a (Stays refl) e)
quiet_from set t a b l e (Moves m q f) = Moves m (quiet_from set t a b m e q) f

within_splits : (set : Setting) (t n : ℕ) (a : Lone) (x : Next) → next_within set t n a ≡ x → is_acting x ≡ true → Splits set t a x
within_splits set t zero a x e acts = absurd (let s = ap is_acting e in cc)
within_splits set t (suc n) a x e acts = by (next_move set t a) refl e (λ b f. within_splits set t n b x f acts)
  where
    here : (y : Next) → next_move set t a ≡ y → y ≡ x → Splits set t a x
    here y m e = record { at = a; quiet = Stays refl; acts = m ∙ e }

    further : (b : Lone) → next_move set t a ≡ Goes b → Splits set t b x → Splits set t a x
    further b m s = record { at = s.at; quiet = quiet_from set t a b s.at m s.quiet; acts = s.acts }

    by : (y : Next) → next_move set t a ≡ y → next_or y (next_within set t n) ≡ x → ((b : Lone) → next_within set t n b ≡ x → Splits set t b x) → Splits set t a x
    by (Goes b) m e again = further b m (again b e)
    by (Puts box root shape l) m e again = here _ m e
    by (PutWaits box root shape l) m e again = here _ m e
    by (Bounds box most l) m e again = here _ m e
    by (Gets box l) m e again = here _ m e
    by (Probes box l) m e again = here _ m e
    by (Starts root shape l) m e again = here _ m e
    by (Prints token l) m e again = here _ m e
    by (Ends c l) m e again = here _ m e
    by Stands m e again = here _ m e

-- the next action is that of a thread some moves further
pub action_splits : (set : Setting) (t : ℕ) (a : Lone) (x : Next) → next_action set t a ≡ x → is_acting x ≡ true → Splits set t a x
unfolding next_action
action_splits set t a x e acts = within_splits set t (suc set.limits.steps) a x e acts

-- what is done is an action
did_act : (set : Setting) (x : Next) (d : Deed) (y : Done) → done_by set x d ≡ Some y → is_acting x ≡ true
did_act set (Goes l) d y e = absurd (cc)
did_act set Stands d y e = absurd (cc)
did_act set (Puts box root shape l) d y e = refl
did_act set (PutWaits box root shape l) d y e = refl
did_act set (Bounds box most l) d y e = refl
did_act set (Gets box l) d y e = refl
did_act set (Probes box l) d y e = refl
did_act set (Starts root shape l) d y e = refl
did_act set (Prints token l) d y e = refl
did_act set (Ends c l) d y e = refl

-- one deed more
follows_one : (set : Setting) (t : ℕ) (a l mid : Lone) (ds : List Deed) (d : Deed) → Follows set t a ds l → done_by set (next_action set t l) d ≡ Some (record { act = d.act; after = mid }) → Follows set t a (ds ++ d ∷ []) mid
follows_one set t a l mid [] d f e = (mid, subst (λ (x : Lone). done_by set (next_action set t x) d ≡ Some (record { act = d.act; after = mid })) (sym f) e, refl)
follows_one set t a l mid (x ∷ ds) d f e = (f.0, f.1, follows_one set t f.0 l mid ds d f.2 e)

-- ---- all threads

module _ (set : Setting) (typing : Typing) (live : Wanted) (is : IsVerified set typing live) (main : is_fit set ≡ true) (stacks : StacksAreThere set) (t : ℕ) where
  typed_on : (l : Lone) (of : Classes) → Further set typing live of l → IsTyped set typing live l
  typed_on l of f = record { of = f.more; is = f.is }

  quiet_typed : (c : Course) (last l : Lone) → IsLone set t c last → IsTyped set typing live last → Quiet set t last l → IsTyped set typing live l
  quiet_typed c last l lone typed (Stays same) = subst (λ (x : Lone). IsTyped set typing live x) same typed
  quiet_typed c last l lone typed (Moves b q e) =
      let before = quiet_typed c last b lone typed q in
      typed_on l before.of (moves_stay_typed set typing live before.of is main t b l before.is (stacks t c last b lone q) e)

  deed_typed : (c : Course) (last mid : Lone) (d : Deed) → IsLone set t c last → IsTyped set typing live last → done_by set (next_action set t last) d ≡ Some (record { act = d.act; after = mid }) → IsTyped set typing live mid
  deed_typed c last mid d lone typed e =
      let s = action_splits set t last (next_action set t last) refl (did_act set (next_action set t last) d _ e) in
      let before = quiet_typed c last s.at lone typed s.quiet in
      typed_on mid before.of (deeds_stay_typed set typing live before.of is main t s.at mid d d.act before.is (stacks t c last s.at lone s.quiet) (ap (λ (x : Next). done_by set x d) s.acts ∙ e))

  along : (beginning : Beginning) (first : Lone) → lone_begun set beginning ≡ Some first → (before : List Deed) (l : Lone) → Follows set t first before l → IsTyped set typing live l → (ds : List Deed) (last : Lone) → Follows set t l ds last → IsTyped set typing live last
  along beginning first begins before l done typed [] last f = subst (λ (x : Lone). IsTyped set typing live x) f typed
  along beginning first begins before l done typed (d ∷ ds) last f =
      let c : Course = record { beginning = beginning; deeds = before } in
      let lone : IsLone set t c l = record { first = first; begins = begins; follows = done } in
      along beginning first begins (before ++ d ∷ []) f.0 (follows_one set t first l f.0 before d done f.1) (deed_typed c l f.0 d lone typed f.1) ds last f.2

  lone_typed : (c : Course) (last : Lone) → IsLone set t c last → IsTyped set typing live last
  lone_typed c last lone = along c.beginning lone.first lone.begins [] lone.first refl (beginnings_are_typed set typing live is main c.beginning lone.first lone.begins) c.deeds last lone.follows

pub threads_are_typed : ThreadsAreTyped
threads_are_typed set typing live is main stacks t c last l lone quiet = quiet_typed set typing live is main stacks t c last l lone (lone_typed set typing live is main stacks t c last lone) quiet
