-- The fibers with which tasks begin.
use Rattle.std.proofs.Common.{◌≡◌, ◌≢◌, ℕ, Bool, true, false, cond, not, List, [], ◌∷◌, length, Option, Some, None, refl, sym, ap, subst, ◌∙◌, arith}
use Rattle.std.specs.Prelude.{nat_le, ◌&&◌}
use Rattle.std.specs.FinMap.{empty, get, insert}
use Rattle.std.proofs.lemmas.Bool.{and_parts, false≢true}
use Rattle.std.proofs.lemmas.Option.{none-some, same_Some}
use Rattle.kilim_program.specs.declared.class.Method.{Method}
use Rattle.kilim_program.specs.declared.names.ClassId.{ClassId}
use Rattle.kilim_program.specs.declared.names.MethodId.{MethodId}
use Rattle.kilim_program.specs.declared.ty.Ty.{Ty}
use Rattle.kilim_program.specs.declared.value.Value.{Value}
use Rattle.kilim_program.specs.declared.value.Value.TheVariants.{Ref, Fiber}
use Rattle.kilim_program.specs.Names.{◌>>=◌, class_at, first_that, is_task, method_at}
use Rattle.kilim_program.specs.Program.{Program}
use Rattle.kilim_program.specs.Same.{answers, selected}
use Rattle.kilim_fiber_spec.proofs.fiber_kin.Boots.{boot_like}
use Rattle.kilim_fiber_spec.proofs.fiber_kin.Came.{no_names, nothing, none_below}
use Rattle.kilim_fiber_spec.specs.fiber_kin.Acts.{IsSound}
use Rattle.kilim_fiber_spec.specs.fiber_kin.Held as held
use Rattle.kilim_run_model.proofs.kin.Kins.{kin_entered}
use Rattle.kilim_run_state.specs.declared.cause.EndCause.TheVariants as cause
use Rattle.kilim_run_state.specs.declared.value.Object.{Object}
use Rattle.kilim_run_state.specs.declared.value.Token.{Token}
use Rattle.kilim_run_state.specs.Machine.{Objects, Activation}
use Rattle.kilim_program.specs.Members.{constructor_of, execute_of, is_concrete, is_own_constructor, is_task_execute}
use Rattle.kilim_run_machine.specs.Moves.{entered}
use Rattle.kilim_run_state.specs.Objects.{new_object}
use Rattle.kilim_run_state.specs.Trees.{OfTask, built, with_objects}
use Rattle.kilim_run_model.specs.Course.{IsLone, lone_begun, lone_built, lone_in, next_action, next_or, next_within}
use Rattle.kilim_run_model.specs.declared.deed.Beginning.TheVariants.{Boot, Begun}
use Rattle.kilim_run_model.specs.Lone.{Lone, ended, next_move, over}
use Rattle.kilim_run_model.specs.Lone as thread
use Rattle.kilim_run_model.specs.State.{Alive, Setting, begun_in, begun_on, class_of}
use Rattle.kilim_isolation_laws.proofs.heaps.Heaps.{get_new}
use Rattle.kilim_run_trees.specs.Moved.{PutIn}
use Rattle.kilim_isolation_laws.proofs.typed_threads.Read.{built_is}
use Rattle.kilim_fiber_laws.specs.Fibers.{IsFiberOf}
use Rattle.kilim_fiber_laws.specs.Laws.{FirstBegins, TasksBegin, TasksEnd, new_course}
use Rattle.kilim_fiber_laws.specs.Served.{CanServe}
use Rattle.kilim_fiber_laws.proofs.woven_kin.Trees.{came}
use Rattle.kilim_fiber_laws.specs.woven_kin.Alike.{Like}
use Rattle.kilim_fiber_laws.specs.woven_kin.Nexts.{begun_in as woven_begun_in, begun_with}
use Rattle.kilim_fiber_laws.specs.woven_kin.Standing.{Standing}
use Rattle.kilim_fiber_laws.proofs.woven_served.ready.Executes.{execute_same}
use Rattle.kilim_fiber_laws.proofs.receivers.Begins.{root_task, task_class}
use Rattle.kilim_fiber_spec.specs.Acts.{ending, spending}
use Rattle.kilim_fiber_spec.specs.Fibers.{WStop, executes_on, new_fiber, wstarted, wstarted_in, enter}
use Rattle.kilim_fiber_laws.proofs.woven_served.Constructors.{constructor_is_same}
use Rattle.kilim_fiber_laws.specs.woven_served.Served.{constructing_in}
use Rattle.kilim_fiber_laws.proofs.stands.shares.Names.{Twin, twin}
use Rattle.kilim_fiber_laws.specs.receivers.states.Law.{world_at}

-- ---- with its first frame

module _ (set : Setting) (W : Program) (marks : List (List Bool)) (served : CanServe set W marks) where
  abbrev p : Program
  p = set.program

  twin_of : (m : MethodId) (a : Method) → method_at p m ≡ Some a → Twin p W m a
  twin_of m a at = twin p W marks served.run.keeps served.run.form served.woven m a at

  -- the frames with which a method of the woven program begins
  begun_by : (m : MethodId) (b : Method) (args : List Value) (frames : List Activation) → method_at W m ≡ Some b → begun_with W (Some m) args ≡ Some frames → cond b.built_in [] (entered W m args ∷ []) ≡ frames
  begun_by m b args frames at e = same_Some _ _ (sym (ap (woven_begun_in W m args) at) ∙ e)

  -- ---- task 0

  boots_at : (t x next : ℕ) (frames : List Activation) (c : MethodId) → constructor_of p set.main ≡ Some c → constructor_of W set.main ≡ Some c → (a : Method) → method_at p c ≡ Some a → a.built_in ≡ false → begun_with W (Some c) (Ref x ∷ []) ≡ Some frames →
      IsFiberOf set W marks t (new_course Boot) (record { frames = frames; fiber = new_fiber; heap = insert empty x (new_object p set.main); next = next; done = 0; boxes = 0; kept = Some x; aside = [] })
  boots_at t x next frames c old new a at own e =
      let b = twin_of c a at in
      let code : b.method.built_in ≡ false = b.built_in ∙ own in
      let first : entered W c (Ref x ∷ []) ∷ [] ≡ frames = sym (ap (λ (z : Bool). cond z [] (entered W c (Ref x ∷ []) ∷ [])) code) ∙ begun_by c b.method (Ref x ∷ []) frames b.there e in
      let heap : Objects = insert empty 0 (new_object p set.main) in
      let in_p : (n : ℕ) → begun_on p (constructor_of p set.main) n ≡ Some (entered p c (Ref n ∷ []) ∷ []) = λ n. ap (λ (o : Option MethodId). begun_on p o n) old ∙ (ap (begun_in p c n) at ∙ ap (λ (z : Bool). Some (cond z [] (entered p c (Ref n ∷ []) ∷ []))) own) in
      let l : Lone = record { heap = heap; next = 1; thread = Alive (entered p c (Ref 0 ∷ []) ∷ []) 0 0; kept = Some 0 } in
      let begins : lone_begun set Boot ≡ Some l = ap (lone_in heap 1 (Some 0)) (in_p 0) in
      let boot = boot_like set x (entered p c (Ref x ∷ []) ∷ []) (in_p x) in
      let like = subst (λ (z : Lone). held.Like z (held.as_lone (record { frames = entered p c (Ref x ∷ []) ∷ []; heap = insert empty x (new_object p set.main); done = 0; boxes = 0; kept = Some x }))) (same_Some _ _ (sym boot.1 ∙ begins)) boot.2 in
      let i = like.is in
      subst (λ (fs : List Activation). IsFiberOf set W marks t (new_course Boot) (record { frames = fs; fiber = new_fiber; heap = insert empty x (new_object p set.main); next = next; done = 0; boxes = 0; kept = Some x; aside = [] })) first
      (record {
        lone = l;
        is = record { first = l; begins = begins; follows = refl };
        holds = record {
          at = record { frames = entered W c (Ref 0 ∷ []) ∷ []; fiber = new_fiber; heap = heap; next = 1; done = 0; boxes = 0; kept = Some 0; aside = [] };
          reached = record { begun = l; begins = begins; comes = λ rest k more. (k ∷ more, 0, ap (constructing_in set W marks (world_at t l rest []) (k ∷ more)) new) };
          like = record {
            of = like.of;
            is = record {
              frames = kin_entered like.of W c (Ref 0 ∷ []) (Ref x ∷ []) [] [] (i.kept, tt) tt;
              fiber = (tt, (refl, tt, tt), tt, refl, refl);
              heaps = i.heaps;
              done = refl;
              boxes = refl;
              kept = i.kept;
              aside = tt;
              below = i.below;
            };
          };
        };
      })

  own_method : (o : Option Method) → is_own_constructor o ≡ true → (a : Method) × (o ≡ Some a) × (a.built_in ≡ false)
  own_method None e = absurd (false≢true e)
  own_method (Some a) e = (a, refl, by a.is_static a.built_in e)
    where
      by : (s z : Bool) → (not s && not z) ≡ true → z ≡ false
      by s false e = refl
      by true true e = absurd (false≢true e)
      by false true e = absurd (false≢true e)

  pub boots : (t x next : ℕ) (frames : List Activation) → begun_with W (constructor_of W set.main) (Ref x ∷ []) ≡ Some frames →
      IsFiberOf set W marks t (new_course Boot) (record { frames = frames; fiber = new_fiber; heap = insert empty x (new_object p set.main); next = next; done = 0; boxes = 0; kept = Some x; aside = [] })
  boots t x next frames e =
      let parts = and_parts (is_concrete (class_at p set.main)) _ served.run.main in
      let there : class_at p set.main ≢ None = λ none. false≢true (sym (ap is_concrete none) ∙ parts.0) in
      by (constructor_of p set.main) refl (and_parts (is_task p set.main) _ parts.1).1 (constructor_is_same p W marks served.run.keeps served.run.form served.woven set.main there)
    where
      by : (o : Option MethodId) → constructor_of p set.main ≡ o → is_own_constructor (o >>= method_at p) ≡ true → constructor_of W set.main ≡ constructor_of p set.main →
          IsFiberOf set W marks t (new_course Boot) (record { frames = frames; fiber = new_fiber; heap = insert empty x (new_object p set.main); next = next; done = 0; boxes = 0; kept = Some x; aside = [] })
      by None old is same = absurd (false≢true is)
      by (Some c) old is same =
          let a = own_method (method_at p c) is in
          boots_at t x next frames c old (same ∙ old) a.0 a.1 a.2 (sym (ap (λ (o : Option MethodId). begun_with W o (Ref x ∷ [])) (same ∙ old)) ∙ e)

  -- ---- a started task

  empty_at : Standing
  empty_at = record { frames = []; fiber = new_fiber; heap = empty; next = 0; done = 0; boxes = 0; kept = None; aside = [] }

  like_empty : Like empty_at empty_at
  unfolding empty_at
  like_empty = record { of = no_names; is = record { frames = tt; fiber = (tt, (refl, tt, tt), tt, refl, refl); heaps = nothing empty; done = refl; boxes = refl; kept = tt; aside = tt; below = none_below } }

  passes_first : (test : MethodId → Bool) (ms : List MethodId) (m : MethodId) → first_that test ms ≡ Some m → test m ≡ true
  passes_first test [] m e = absurd (none-some m e)
  passes_first test (k ∷ ks) m e = by (test k) refl e (λ later. passes_first test ks m later)
    where
      by : (z : Bool) → test k ≡ z → cond z (Some k) (first_that test ks) ≡ Some m → (first_that test ks ≡ Some m → test m ≡ true) → test m ≡ true
      by true is e go = ap test (sym (same_Some k m e)) ∙ is
      by false is e go = go e

  answering : (named : Method) (o : Option Method) → answers named o ≡ true → (a : Method) × (o ≡ Some a)
  answering named None e = absurd (false≢true e)
  answering named (Some a) e = (a, refl)

  -- an `execute` of a class is a method of the program
  execute_there : (c : ClassId) (m : MethodId) → execute_of p c ≡ Some m → (a : Method) × (method_at p m ≡ Some a)
  execute_there c m e = by (first_that is_task_execute p.methods) e
    where
      by : (o : Option Method) → (o >>= selected p c) ≡ Some m → (a : Method) × (method_at p m ≡ Some a)
      by None e = absurd (none-some m e)
      by (Some named) e = answering named (method_at p m) (passes_first (λ k. answers named (method_at p k)) _ m e)

  module _ (t : ℕ) (tree : List Object) (shape : List Token) (heap : Objects) (x : ℕ) (sound : IsSound p OfTask tree shape) (put : PutIn empty tree heap x) where
    -- what the machine and the thread have of it
    record Root : Type 0 where
      objects : List Object
      builds : built p OfTask 0 shape ≡ Some objects
      like : Like (record { frames = []; fiber = new_fiber; heap = with_objects empty 0 objects; next = length objects; done = 0; boxes = 0; kept = None; aside = [] }) (record { frames = []; fiber = new_fiber; heap = heap; next = 0; done = 0; boxes = 0; kept = None; aside = [] })
      named : like.of 0 ≡ Some x
      class : ClassId
      task : is_task p class ≡ true
      first : (Q : Program) → executes_on Q (with_objects empty 0 objects) (Ref 0) ≡ execute_of Q class
      place : (Q : Program) → executes_on Q heap (Ref x) ≡ execute_of Q class

    root : Root
    unfolding empty_at
    root =
        let w = came p OfTask empty_at empty_at tree shape heap x like_empty sound put in
        let b = built_is p OfTask 0 shape w.objects w.builds in
        let first : get (with_objects empty 0 w.objects) 0 ≡ Some b.first = ap (λ (os : List Object). get (with_objects empty 0 os) 0) b.is ∙ get_new empty 0 (b.first ∷ b.rest) 0 b.first refl in
        let s = w.is.heaps.same 0 b.first first in
        let there : get heap x ≡ Some s.1 = ap (get heap) (same_Some _ _ (sym w.named ∙ s.2)) ∙ s.3 in
        let k = task_class set served.run b.first.class (root_task set served.run shape w.objects w.builds b.first first) in
        let by : (Q : Program) → (class_of b.first.class.base >>= λ c. execute_of Q c) ≡ execute_of Q k.class = λ Q. ap (λ (ty : Ty). class_of ty.base >>= λ c. execute_of Q c) k.is in
        record {
          objects = w.objects;
          builds = w.builds;
          like = record { of = w.of; is = record { frames = tt; fiber = w.is.fiber; heaps = w.is.heaps; done = refl; boxes = refl; kept = tt; aside = tt; below = λ n y e. let lt = w.is.below n y e in omega (arith, lt) } };
          named = w.named;
          class = k.class;
          task = k.task;
          first = λ Q. ap (λ (o : Option Object). o >>= λ (object : Object). class_of object.class.base >>= λ c. execute_of Q c) first ∙ by Q;
          place = λ Q. ap (λ (o : Option Object). o >>= λ (object : Object). class_of object.class.base >>= λ c. execute_of Q c) there ∙ (ap (λ (ty : Ty). class_of ty.base >>= λ c. execute_of Q c) (sym s.4.class) ∙ by Q);
        }

    -- its `execute`, in both programs
    record Executed (frames : List Activation) : Type 0 where
      method : MethodId
      is_old : execute_of p root.class ≡ Some method
      is_new : execute_of W root.class ≡ Some method
      old : Method
      in_old : method_at p method ≡ Some old
      new : Method
      in_new : method_at W method ≡ Some new
      same : new.built_in ≡ old.built_in
      begun : cond new.built_in [] (entered W method (Ref x ∷ Fiber ∷ []) ∷ []) ≡ frames

    executed : (frames : List Activation) → begun_with W (executes_on W heap (Ref x)) (Ref x ∷ Fiber ∷ []) ≡ Some frames → Executed frames
    executed frames e = by (execute_of p root.class) refl (ap (λ (o : Option MethodId). begun_with W o (Ref x ∷ Fiber ∷ [])) (sym (root.place W ∙ same)) ∙ e)
      where
        same : execute_of W root.class ≡ execute_of p root.class
        same = execute_same p W marks served.run.keeps served.run.form served.woven root.class root.task

        by : (o : Option MethodId) → execute_of p root.class ≡ o → begun_with W (execute_of p root.class) (Ref x ∷ Fiber ∷ []) ≡ Some frames → Executed frames
        by None is e = absurd (none-some frames (ap (λ (o : Option MethodId). begun_with W o (Ref x ∷ Fiber ∷ [])) (sym is) ∙ e))
        by (Some m) is e =
            let a = execute_there root.class m is in
            let b = twin_of m a.0 a.1 in
            record {
              method = m;
              is_old = is;
              is_new = same ∙ is;
              old = a.0;
              in_old = a.1;
              new = b.method;
              in_new = b.there;
              same = b.built_in;
              begun = begun_by m b.method (Ref x ∷ Fiber ∷ []) frames b.there (ap (λ (o : Option MethodId). begun_with W o (Ref x ∷ Fiber ∷ [])) (sym is) ∙ e);
            }

    abbrev lone_of : List Activation → Lone
    lone_of fs = record { heap = with_objects empty 0 root.objects; next = length root.objects; thread = Alive fs 0 0; kept = None }

    begins_with : (frames : List Activation) (ex : Executed frames) → lone_begun set (Begun shape) ≡ Some (lone_of (cond ex.old.built_in [] (entered p ex.method (Ref 0 ∷ []) ∷ [])))
    begins_with frames ex =
        ap (lone_built p) root.builds ∙ ap (lone_in (with_objects empty 0 root.objects) (length root.objects) None) (ap (λ (o : Option MethodId). begun_on p o 0) (root.first p ∙ ex.is_old) ∙ ap (begun_in p ex.method 0) ex.in_old)

    -- with code
    starts : (next : ℕ) (top : Activation) (below : List Activation) → Executed (top ∷ below) → IsFiberOf set W marks t (new_course (Begun shape)) (record { frames = top ∷ below; fiber = new_fiber; heap = heap; next = next; done = 0; boxes = 0; kept = None; aside = [] })
    starts next top below ex = by ex.new.built_in refl ex.begun
      where
        code_at : ex.new.built_in ≡ false → entered W ex.method (Ref x ∷ Fiber ∷ []) ∷ [] ≡ top ∷ below → IsFiberOf set W marks t (new_course (Begun shape)) (record { frames = top ∷ below; fiber = new_fiber; heap = heap; next = next; done = 0; boxes = 0; kept = None; aside = [] })
        code_at code frames =
            let l : Lone = lone_of (entered p ex.method (Ref 0 ∷ []) ∷ []) in
            let begins : lone_begun set (Begun shape) ≡ Some l = begins_with (top ∷ below) ex ∙ ap (λ (z : Bool). Some (lone_of (cond z [] (entered p ex.method (Ref 0 ∷ []) ∷ [])))) (sym ex.same ∙ code) in
            let i = root.like.is in
            subst (λ (fs : List Activation). IsFiberOf set W marks t (new_course (Begun shape)) (record { frames = fs; fiber = new_fiber; heap = heap; next = next; done = 0; boxes = 0; kept = None; aside = [] })) frames
            (record {
              lone = l;
              is = record { first = l; begins = begins; follows = refl };
              holds = record {
                at = record { frames = entered W ex.method (Ref 0 ∷ Fiber ∷ []) ∷ []; fiber = new_fiber; heap = with_objects empty 0 root.objects; next = length root.objects; done = 0; boxes = 0; kept = None; aside = [] };
                reached = record {
                  begun = l;
                  begins = begins;
                  comes = λ rest k more. (
                    k ∷ more,
                    0,
                    ap (wstarted set W marks 0 (world_at t l rest []) new_fiber (k ∷ more)) (root.first W ∙ ex.is_new)
                        ∙ (ap (wstarted_in set W marks ex.method 0 (world_at t l rest []) new_fiber (k ∷ more)) ex.in_new
                        ∙ ap (λ (z : Bool). cond z (spending set (world_at t l rest []) WStop (ending set (world_at t l rest []) WStop cause.Done)) (enter set W marks ex.method (Ref 0 ∷ Fiber ∷ []) [] new_fiber (world_at t l rest []) (k ∷ more))) code),
                  );
                };
                like = record {
                  of = root.like.of;
                  is = record {
                    frames = kin_entered root.like.of W ex.method (Ref 0 ∷ Fiber ∷ []) (Ref x ∷ Fiber ∷ []) [] [] (root.named, (tt, tt)) tt;
                    fiber = i.fiber;
                    heaps = i.heaps;
                    done = refl;
                    boxes = refl;
                    kept = tt;
                    aside = tt;
                    below = i.below;
                  };
                };
              };
            })

        by : (z : Bool) → ex.new.built_in ≡ z → cond z [] (entered W ex.method (Ref x ∷ Fiber ∷ []) ∷ []) ≡ top ∷ below → IsFiberOf set W marks t (new_course (Begun shape)) (record { frames = top ∷ below; fiber = new_fiber; heap = heap; next = next; done = 0; boxes = 0; kept = None; aside = [] })
        by true code e = absurd (cc)
        by false code e = code_at code e

    -- the built-in one
    ends : Executed [] → (lone : Lone) × IsLone set t (new_course (Begun shape)) lone × ((after : Lone) × (next_action set t lone ≡ thread.Ends (cond (nat_le set.limits.steps 0) cause.Spent cause.Done) after))
    unfolding next_action next_move
    ends ex = by ex.new.built_in refl ex.begun
      where
        ends_so : (z : Bool) (go : Lone → thread.Next) → (after : Lone) × (next_or (cond z (over (lone_of []) cause.Spent) (over (lone_of []) cause.Done)) go ≡ thread.Ends (cond z cause.Spent cause.Done) after)
        ends_so true go = (ended (lone_of []) cause.Spent, refl)
        ends_so false go = (ended (lone_of []) cause.Done, refl)

        action : (after : Lone) × (next_action set t (lone_of []) ≡ thread.Ends (cond (nat_le set.limits.steps 0) cause.Spent cause.Done) after)
        action = ends_so (nat_le set.limits.steps 0) (next_within set t set.limits.steps)

        by : (z : Bool) → ex.new.built_in ≡ z → cond z [] (entered W ex.method (Ref x ∷ Fiber ∷ []) ∷ []) ≡ [] → (lone : Lone) × IsLone set t (new_course (Begun shape)) lone × ((after : Lone) × (next_action set t lone ≡ thread.Ends (cond (nat_le set.limits.steps 0) cause.Spent cause.Done) after))
        by true code e = (
          lone_of [],
          record { first = lone_of []; begins = begins_with [] ex ∙ ap (λ (z : Bool). Some (lone_of (cond z [] (entered p ex.method (Ref 0 ∷ []) ∷ [])))) (sym ex.same ∙ code); follows = refl },
          action,
        )
        by false code e = absurd (cc)

pub first_begins : FirstBegins
first_begins set W marks served t x next frames e = boots set W marks served t x next frames e

pub tasks_begin : TasksBegin
tasks_begin set W marks served t tree shape heap x next top below sound put e = starts set W marks served t tree shape heap x sound put next top below (executed set W marks served t tree shape heap x sound put (top ∷ below) e)

pub tasks_end : TasksEnd
tasks_end set W marks served t tree shape heap x sound put e = ends set W marks served t tree shape heap x sound put (executed set W marks served t tree shape heap x sound put [] e)
