-- A thread of an accepted program goes on typed, and standing with its shape graphs, step by step: no name loses its class.
use Rattle.std.proofs.Common.{◌≡◌, ℕ, true, true≢false, List, [], ◌∷◌, Option, Some, None, refl, sym, ap, subst, ◌∙◌}
use Rattle.std.specs.FinMap.{get}
use Rattle.std.proofs.lemmas.Bool.{and_parts}
use Rattle.kilim_program.specs.BuiltIn.{class_type}
use Rattle.kilim_program.specs.Names.{is_task}
use Rattle.kilim_isolation_laws.specs.typed_threads.fine.Typed.{FitsAs}
use Rattle.kilim_type_sound.specs.Fits.{Classes, HeapFits, Wanted}
use Rattle.kilim_type_sound.specs.Law.{Extends}
use Rattle.kilim_isolation_laws.specs.graph_rows.Holds.{IsOf, Tree, Trees, is_tree_object, object_sort}
use Rattle.kilim_run_journal.specs.declared.entry.Act.{Act}
use Rattle.kilim_run_journal.specs.declared.entry.Act.TheVariants.{End}
use Rattle.kilim_run_state.specs.declared.cause.EndCause.{EndCause}
use Rattle.kilim_run_state.specs.declared.value.Object.{Object}
use Rattle.kilim_run_state.specs.Machine.{Activation, Objects}
use Rattle.kilim_program.specs.Members.{execute_of, is_concrete}
use Rattle.kilim_isolation_laws.specs.Laws.{IsRunOfAccepted, StandsWell, listed_at}
use Rattle.kilim_isolation_laws.specs.Standing.{Standing}
use Rattle.kilim_isolation_laws.proofs.Beginning.{execute_stands, task_sort}
use Rattle.kilim_isolation_laws.proofs.Keeping.{is_verified, sound, stack_there}
use Rattle.kilim_isolation_laws.proofs.Moving.{deed_keeps, move_keeps}
use Rattle.kilim_isolation_laws.specs.reached_objects.graphs.Threads.{EndFits, TopIsCoded}
use Rattle.kilim_isolation_laws.specs.reached_objects.graphs.Threads as graphs
use Rattle.kilim_run_model.specs.Course.{Done, done_by}
use Rattle.kilim_run_model.specs.declared.deed.Deed.{Deed}
use Rattle.kilim_run_model.specs.Lone.{Lone, Next, next_move}
use Rattle.kilim_run_model.specs.Lone as next
use Rattle.kilim_run_model.specs.State.{Setting, begun_on}
use Rattle.kilim_isolation_laws.proofs.typed_threads.Moving.{deeds_stay_typed, moves_stay_typed}
use Rattle.kilim_type_laws.specs.Laws.{typing_at}
use Rattle.kilim_fiber_spec.proofs.lone.Steps.{steps}
use Rattle.kilim_fiber_spec.specs.lone.Law.{IsActed, IsAt, IsBehind, IsDone, IsLast, IsNext, IsWanted, lone_at, wanted}
use Rattle.kilim_fiber_spec.specs.Acts.{Action, Astray, Finished, Lost, Over, Wants, Apart}
use Rattle.kilim_fiber_spec.specs.Thread.{Run, Stop, Thread, step}

-- all locals are wanted
abbrev pub wants_all : Wanted
wants_all = λ id at k. true

module _ (set : Setting) (run : IsRunOfAccepted set) where
  -- ---- the object that task 0 keeps

  some_is : (o : Object) (q : ℕ) (h : Objects) → {A : Type 0} → (x y : A) → Some x ≡ Some y → x ≡ y
  some_is o q h x y e = cc

  pub tree_there : (h : Objects) (of : Classes) (q : ℕ) → HeapFits set.program of h → of q ≡ Some (class_type set.main.0) → (o : Option Object) → get h q ≡ o → is_tree_object set.program o ≡ true → IsOf set.program h q (Tree 0 Trees)
  tree_there h of q heap here None at tree = absurd (true≢false (sym tree))
  tree_there h of q heap here (Some object) at tree =
      let task = (and_parts (is_task set.program set.main) _ (and_parts (is_concrete _) _ run.main).1).0 in
      let class = some_is object q h object.class (class_type set.main.0) (sym (heap.classes q object at) ∙ here) in
      (object, at, ap (object_sort set.program) class ∙ task_sort set wants_all (listed_at set.program) (sound set run.keeps run.form run.well run.accepted run.main run.begins) (is_verified set run.keeps run.form run.well run.accepted run.main run.begins) run.main set.main task)

  begins_kept : (l : Lone) → (b : StandsWell set l) → (h : Objects) (q : ℕ) (frames : List Activation) → l.kept ≡ Some q → EndFits set.program (Some q) h → HeapFits set.program b.of h → begun_on set.program (execute_of set.program set.main) q ≡ Some frames → TopIsCoded set.program frames →
      graphs.FramesFit set.program (typing_at set.program) (listed_at set.program) None h frames
  begins_kept l b h q frames kept ends heap begun coded =
      let task = (and_parts (is_task set.program set.main) _ (and_parts (is_concrete _) _ run.main).1).0 in
      let tree = tree_there h b.of q heap (b.fits.kept q kept) (get h q) refl (ends.there q refl) in
      execute_stands set wants_all (listed_at set.program) (sound set run.keeps run.form run.well run.accepted run.main run.begins) (is_verified set run.keeps run.form run.well run.accepted run.main run.begins) run.main h q set.main frames task ends.heap ends.forest tree coded begun

  -- ---- one step

  -- it is typed by these classes of names, and stands
  pub record IsWell (of : Classes) (l : Lone) : Type 0 where
    pub fits : FitsAs set (typing_at set.program) wants_all of l
    pub stands : Standing set.program (typing_at set.program) (listed_at set.program) l

  abbrev pub WellAs : Classes → Thread → Type 0
  WellAs of (Run m p l s x b w) = IsWell of (lone_at m p l s b w)
  WellAs of (Stop o) = Unit {0}

  abbrev pub as_well : (of : Classes) (l : Lone) → IsWell of l → StandsWell set l
  as_well of l w = record { of = of; fits = w.fits; stands = w.stands }

  -- a state with more classes
  abbrev pub WellFurther : Classes → Thread → Type 0
  WellFurther of t = (more : Classes) × Extends of more × WellAs more t

  over_well : (of : Classes) (o : Over) (t : Thread) → t ≡ Stop o → WellFurther of t
  over_well of o t e = subst (λ (z : Thread). WellFurther of z) (sym e) (of, (λ n c k. k), tt)

  last_well : (of : Classes) (why : EndCause) (ds : List Deed) (t : Thread) → IsLast why ds t → WellFurther of t
  last_well of why [] t is = over_well of (Finished why is.0) t is.1
  last_well of why (d ∷ ds) t is = over_well of Astray t is

  wanted_well : (of : Classes) (o : Option (Action × Option Lone)) (t : Thread) → IsWanted o t → WellFurther of t
  wanted_well of None t is = absurd is
  wanted_well of (Some wish) t is = over_well of (Wants wish.0 is.0) t is.1

  module _ (of : Classes) (k : ℕ) (aside : List Apart) (here : Lone) (well : IsWell of here) where
    at_well : (after : Lone) → (more : Classes) → Extends of more → IsWell more after → (ds : List Deed) (as1 : List Act) (t : Thread) → IsAt after ds as1 k aside t → WellFurther of t
    at_well after more grows is ds as1 (Run m p l s x b w) a = (more, grows, subst (λ (z : Lone). IsWell more z) (sym a.0) is)
    at_well after more grows is ds as1 (Stop o) a = absurd a

    moved : (after : Lone) → next_move set k here ≡ next.Goes after → (ds : List Deed) (as1 : List Act) (t : Thread) → IsAt after ds as1 k aside t → WellFurther of t
    moved after e ds as1 t a =
        let b = as_well of here well in
        let there = stack_there set run.keeps run.form run.well run.accepted run.main run.begins here b in
        let v = is_verified set run.keeps run.form run.well run.accepted run.main run.begins in
        let further = moves_stay_typed set (typing_at set.program) wants_all of v run.main k here after well.fits there e in
        at_well after further.more further.grows (record {
          fits = further.is;
          stands = move_keeps set wants_all (listed_at set.program) (sound set run.keeps run.form run.well run.accepted run.main run.begins) v run.main k here after of further.more (begins_kept here b) well.fits there well.stands e further.is;
        }) ds as1 t a

    acted : (n : Next) → next_move set k here ≡ n → (d : Deed) (y : Done) → done_by set n d ≡ Some y → (ds : List Deed) (as1 : List Act) (t : Thread) → IsAt y.after ds as1 k aside t → WellFurther of t
    acted n e d y did ds as1 t a =
        let b = as_well of here well in
        let there = stack_there set run.keeps run.form run.well run.accepted run.main run.begins here b in
        let v = is_verified set run.keeps run.form run.well run.accepted run.main run.begins in
        let done : done_by set (next_move set k here) d ≡ Some (record { act = y.act; after = y.after }) = ap (λ (z : Next). done_by set z d) e ∙ did in
        let further = deeds_stay_typed set (typing_at set.program) wants_all of v run.main k here y.after d y.act well.fits there done in
        at_well y.after further.more further.grows (record {
          fits = further.is;
          stands = deed_keeps set wants_all (listed_at set.program) (sound set run.keeps run.form run.well run.accepted run.main run.begins) v run.main k here y.after of d y.act (begins_kept here b) well.fits there well.stands done;
        }) ds as1 t a

    behind : (n : Next) → next_move set k here ≡ n → (d : Deed) (y : Done) → done_by set n d ≡ Some y → (act : Act) (ds : List Deed) (as1 : List Act) (t : Thread) → IsBehind act ds as1 k aside y.after t → WellFurther of t
    behind n e d y did (End why) ds as1 t a = last_well of why ds t a
    behind n e d y did act ds as1 t a = acted n e d y did ds (act ∷ as1) t a

    done_on : (n : Next) → next_move set k here ≡ n → (d : Deed) (o : Option Done) → done_by set n d ≡ o → (ds : List Deed) (as1 : List Act) (t : Thread) → IsDone ds as1 k aside o t → WellFurther of t
    done_on n e d None did ds as1 t a = over_well of Astray t a
    done_on n e d (Some y) did ds as1 t a = behind n e d y did y.act ds as1 t a

    acts_on : (n : Next) → next_move set k here ≡ n → (ds : List Deed) (as1 : List Act) (t : Thread) → IsActed set ds as1 k aside n t → WellFurther of t
    acts_on n e [] as1 t a = wanted_well of (wanted n) t a
    acts_on n e (d ∷ ds) as1 t a = done_on n e d (done_by set n d) refl ds as1 t a

    next_on : (n : Next) → next_move set k here ≡ n → (ds : List Deed) (as1 : List Act) (t : Thread) → IsNext set ds as1 k aside n t → WellFurther of t
    next_on (next.Goes after) e ds as1 t a = moved after e ds as1 t a
    next_on (next.Puts box root shape l) e ds as1 t a = acts_on (next.Puts box root shape l) e ds as1 t a
    next_on (next.PutWaits box root shape l) e ds as1 t a = acts_on (next.PutWaits box root shape l) e ds as1 t a
    next_on (next.Bounds box most l) e ds as1 t a = acts_on (next.Bounds box most l) e ds as1 t a
    next_on (next.Gets box l) e ds as1 t a = acts_on (next.Gets box l) e ds as1 t a
    next_on (next.Probes box l) e ds as1 t a = acts_on (next.Probes box l) e ds as1 t a
    next_on (next.Starts root shape l) e ds as1 t a = acts_on (next.Starts root shape l) e ds as1 t a
    next_on (next.Prints token l) e ds as1 t a = acts_on (next.Prints token l) e ds as1 t a
    next_on (next.Ends why l) e ds as1 t a = acts_on (next.Ends why l) e ds as1 t a
    next_on next.Stands e ds as1 t a = over_well of Lost t a

  pub step_well : (of : Classes) (t : Thread) → WellAs of t → WellFurther of (step set t)
  step_well of (Run m p l s x b w) is =
      next_on of w.task w.aside (lone_at m p l s b w) is (next_move set w.task (lone_at m p l s b w)) refl w.deeds w.acts (step set (Run m p l s x b w)) (steps set m p l s x b w)
  step_well of (Stop o) is = (of, (λ n c k. k), tt)
