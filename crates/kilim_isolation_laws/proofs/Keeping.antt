-- Each thread that there can be of an accepted program stands with its graphs, and what it keeps.
use Rattle.std.proofs.Common.{◌≡◌, ℕ, true, true≢false, List, [], ◌∷◌, Option, Some, None, refl, sym, ap, subst, ◌∙◌}
use Rattle.std.specs.FinMap.{get}
use Rattle.std.proofs.lemmas.Bool.{and_parts}
use Rattle.kilim_program.specs.declared.class.Form.TheVariants.{Plain}
use Rattle.kilim_program.specs.BuiltIn.{class_type}
use Rattle.kilim_program.specs.Keeps.{Keeps}
use Rattle.kilim_program.specs.Names.{is_task}
use Rattle.kilim_program.specs.Program.{Program}
use Rattle.kilim_run_state.specs.declared.value.Object.{Object}
use Rattle.kilim_run_state.specs.Machine.{Activation, Objects}
use Rattle.kilim_program.specs.Members.{execute_of, is_concrete}
use Rattle.kilim_run_model.specs.State.{Alive, Ended, Setting, Thread, begun_on, is_fit}
use Rattle.kilim_run_model.specs.Lone.{Lone, Next, Goes, Puts, PutWaits, Bounds, Gets, Probes, Starts, Prints, Ends, Stands, next_move}
use Rattle.kilim_run_model.specs.Course.{Course, Done, Follows, IsLone, Moves, Quiet, Stays, done_by, next_action}
use Rattle.kilim_run_model.specs.declared.deed.Deed.{Deed}
use Rattle.kilim_type_spec.specs.Typed.{IsWellTyped}
use Rattle.kilim_type_laws.specs.Laws.{typing_at}
use Rattle.kilim_type_laws.proofs.ByPlace.{typed_by_place}
use Rattle.kilim_isolation.specs.Faults.{IsAccepted}
use Rattle.kilim_type_sound.specs.Fits.{Classes, Fits, HeapFits, Verified, Wanted}
use Rattle.kilim_type_sound.proofs.Grounds.{are_verified, are_wanted}
use Rattle.kilim_isolation_laws.specs.typed_threads.fine.Typed.{IsVerified, StackIsThere, TopIsThere, frames_of}
use Rattle.kilim_isolation_laws.proofs.typed_threads.Moving.{deeds_stay_typed, moves_stay_typed}
use Rattle.kilim_isolation_laws.proofs.typed_threads.Threads.{action_splits, beginnings_are_typed, is_acting}
use Rattle.kilim_isolation_laws.specs.graph_rows.Holds.{IsOf, Tree, Trees, is_tree_object, object_sort}
use Rattle.kilim_isolation_laws.specs.reached_objects.graphs.Threads.{EndFits, IsSound, Listed, TopIsCoded}
use Rattle.kilim_isolation_laws.specs.reached_objects.graphs.Threads as graphs
use Rattle.kilim_isolation_laws.specs.reached_objects.Laws.{IsChecked}
use Rattle.kilim_isolation_laws.proofs.reached_objects.Frames.{top_stacks_are_there}
use Rattle.kilim_isolation_laws.specs.Standing.{MainBegins, ThreadStands}
use Rattle.kilim_isolation_laws.proofs.Beginning.{beginnings_stand, execute_stands, task_sort}
use Rattle.kilim_isolation_laws.specs.Laws.{StandsWell, ThreadsStand, listed_at}
use Rattle.kilim_isolation_laws.proofs.Grounds.{is_sound}
use Rattle.kilim_isolation_laws.specs.reached_objects.Laws.{typed}
use Rattle.kilim_isolation_laws.proofs.Moving.{deed_keeps, move_keeps}

-- what is done is an action
did_act : (set : Setting) (x : Next) (d : Deed) (y : Done) → done_by set x d ≡ Some y → is_acting x ≡ true
did_act set (Goes l) d y e = absurd (cc)
did_act set Stands d y e = absurd (cc)
did_act set (Puts box root shape l) d y e = refl
did_act set (PutWaits box root shape l) d y e = refl
did_act set (Bounds box most l) d y e = refl
did_act set (Gets box l) d y e = refl
did_act set (Probes box l) d y e = refl
did_act set (Starts root shape l) d y e = refl
did_act set (Prints token l) d y e = refl
did_act set (Ends c l) d y e = refl

some_is : {A : Type 0} (x y : A) → Some x ≡ Some y → x ≡ y
some_is x y e = cc

module _ (set : Setting) (keeps : Keeps set.program) (form : set.program.form ≡ Plain) (well : IsWellTyped set.program) (accepted : IsAccepted (typed set.program)) (main : is_fit set ≡ true) (begins : MainBegins set.program set.main) where
  abbrev p : Program
  p = set.program

  -- all locals may be wanted
  abbrev pub wanted : Wanted
  wanted = λ id at k. true

  pub sound : IsSound p (typing_at p) (listed_at p)
  sound = is_sound p keeps well accepted

  verified : Verified p (typing_at p) wanted
  verified = are_verified p (typing_at p) wanted keeps (λ id m is coded. typed_by_place p keeps well id m is coded) (λ id m is at found there. are_wanted.all m.handlers at found.1 found.0)

  pub is_verified : IsVerified set (typing_at p) wanted
  is_verified = record { keeps = keeps; form = form; verified = verified }

  pub checked : IsChecked p wanted
  checked = record { keeps = keeps; well = well; accepted = accepted; verified = verified }

  abbrev FitsWell : Lone → Type 0
  FitsWell l = StandsWell set l

  stack_in : (h : Objects) (kept : Option ℕ) (of : Classes) (th : Thread) → Fits p (typing_at p) wanted of (frames_of th) h → ThreadStands p (typing_at p) (listed_at p) kept h th → TopIsThere h (frames_of th)
  stack_in h kept of (Ended cause) fits stands = tt
  stack_in h kept of (Alive [] done boxes) fits stands = tt
  stack_in h kept of (Alive (top ∷ below) done boxes) fits stands = top_stacks_are_there p wanted of kept top below h checked (record { graphs = stands; types = fits })

  pub stack_there : (l : Lone) → FitsWell l → StackIsThere l
  stack_there l b = stack_in l.heap l.kept b.of l.thread b.fits.fits b.stands

  tree_there : (h : Objects) (of : Classes) (q : ℕ) → HeapFits p of h → of q ≡ Some (class_type set.main.0) → (o : Option Object) → get h q ≡ o → is_tree_object p o ≡ true → IsOf p h q (Tree 0 Trees)
  tree_there h of q heap here None at tree = absurd (true≢false (sym tree))
  tree_there h of q heap here (Some object) at tree =
      let task = (and_parts (is_task p set.main) _ (and_parts (is_concrete _) _ main).1).0 in
      let class = some_is object.class (class_type set.main.0) (sym (heap.classes q object at) ∙ here) in
      (object, at, ap (object_sort p) class ∙ task_sort set wanted (listed_at p) sound is_verified main set.main task)

  begins_kept : (l : Lone) → (b : FitsWell l) → (h : Objects) (q : ℕ) (frames : List Activation) → l.kept ≡ Some q → EndFits p (Some q) h → HeapFits p b.of h → begun_on p (execute_of p set.main) q ≡ Some frames → TopIsCoded p frames →
      graphs.FramesFit p (typing_at p) (listed_at p) None h frames
  begins_kept l b h q frames kept ends heap begun coded =
      let task = (and_parts (is_task p set.main) _ (and_parts (is_concrete _) _ main).1).0 in
      let tree = tree_there h b.of q heap (b.fits.kept q kept) (get h q) refl (ends.there q refl) in
      execute_stands set wanted (listed_at p) sound is_verified main h q set.main frames task ends.heap ends.forest tree coded begun

  -- ---- what goes on

  move_fits : (t : ℕ) (l after : Lone) → FitsWell l → next_move set t l ≡ Goes after → FitsWell after
  move_fits t l after b e =
      let further = moves_stay_typed set (typing_at p) wanted b.of is_verified main t l after b.fits (stack_there l b) e in
      record { of = further.more; fits = further.is; stands = move_keeps set wanted (listed_at p) sound is_verified main t l after b.of further.more (begins_kept l b) b.fits (stack_there l b) b.stands e further.is }

  pub quiet_fits : (t : ℕ) (a l : Lone) → FitsWell a → Quiet set t a l → FitsWell l
  quiet_fits t a l b (Stays same) = subst (StandsWell set) same b
  quiet_fits t a l b (Moves c q e) = move_fits t c l (quiet_fits t a c b q) e

  deed_fits : (t : ℕ) (l mid : Lone) (d : Deed) → FitsWell l → done_by set (next_action set t l) d ≡ Some (record { act = d.act; after = mid }) → FitsWell mid
  deed_fits t l mid d b e =
      let s = action_splits set t l (next_action set t l) refl (did_act set (next_action set t l) d _ e) in
      let at = quiet_fits t l s.at b s.quiet in
      let done = ap (λ (x : Next). done_by set x d) s.acts ∙ e in
      let further = deeds_stay_typed set (typing_at p) wanted at.of is_verified main t s.at mid d d.act at.fits (stack_there s.at at) done in
      record { of = further.more; fits = further.is; stands = deed_keeps set wanted (listed_at p) sound is_verified main t s.at mid at.of d d.act (begins_kept s.at at) at.fits (stack_there s.at at) at.stands done }

  along : (t : ℕ) (l : Lone) (ds : List Deed) (last : Lone) → FitsWell l → Follows set t l ds last → FitsWell last
  along t l [] last b f = subst (StandsWell set) f b
  along t l (d ∷ ds) last b f = along t f.0 ds last (deed_fits t l f.0 d b f.1) f.2

  pub thread_fits : (t : ℕ) (c : Course) (last l : Lone) → IsLone set t c last → Quiet set t last l → FitsWell l
  thread_fits t c last l lone quiet =
      let first = beginnings_are_typed set (typing_at p) wanted is_verified main c.beginning lone.first lone.begins in
      let b : StandsWell set lone.first = record { of = first.of; fits = first.is; stands = beginnings_stand set wanted (listed_at p) sound is_verified main begins first.of c.beginning lone.first lone.begins first.is } in
      quiet_fits t last l (along t lone.first c.deeds last b lone.follows) quiet

pub threads_stand : ThreadsStand
threads_stand set run t c last l lone quiet = thread_fits set run.keeps run.form run.well run.accepted run.main run.begins t c last l lone quiet
