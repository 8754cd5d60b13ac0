-- Fibers that begin.
use Rattle.std.proofs.Common.{◌≡◌, ℕ, Bool, false, not, List, [], ◌∷◌, Option, Some, None, refl, sym, ap, subst, ◌∙◌, arith}
use Rattle.std.specs.Prelude.{is_some}
use Rattle.std.proofs.lemmas.Option.{same_Some, none-some}
use Rattle.kilim_program.specs.Program.{Program}
use Rattle.kilim_program.specs.declared.names.ClassId.{ClassId}
use Rattle.kilim_run_state.specs.declared.value.Object.{Object}
use Rattle.kilim_run_state.specs.declared.value.Token.{Token}
use Rattle.kilim_run_model.specs.declared.deed.Beginning.{Beginning}
use Rattle.kilim_run_model.specs.declared.deed.Beginning.TheVariants.{Boot, Begun}
use Rattle.kilim_run_model.specs.declared.deed.Deed.{Deed}
use Rattle.kilim_run_model.specs.Course.{Course, Follows, IsLone}
use Rattle.kilim_run_model.specs.Lone.{Lone}
use Rattle.kilim_run_model.specs.State.{Setting}
use Rattle.kilim_run_state.specs.Trees.{OfTask}
use Rattle.kilim_run_state.specs.Machine.{Activation}
use Rattle.kilim_run_state.specs.declared.frames.frames.Frames.{Frames}
use Rattle.kilim_run_state.specs.frames.Calls.{activation, below_of}
use Rattle.kilim_fiber_spec.specs.fiber_kin.Acts.{IsSound}
use Rattle.kilim_run_board.specs.fibers.Fibers.{StandsFor}
use Rattle.kilim_fiber_body.specs.Body.{aside_in, calls_in, standing_at, RoomyIn}
use Rattle.kilim_fiber_body.specs.declared.code.Code.{Code}
use Rattle.kilim_fiber_laws.specs.Fibers.{Holds}
use Rattle.kilim_fiber_laws.specs.Laws.{new_course}
use Rattle.kilim_fiber_laws.proofs.Begins.{first_begins, tasks_begin, tasks_end}
use Rattle.std.specs.FinMap.{empty, insert}
use Rattle.kilim_program.specs.declared.value.Value.TheVariants.{Ref}
use Rattle.kilim_program.specs.declared.value.Value.TheVariants as a_value
use Rattle.kilim_program.specs.Members.{constructor_of}
use Rattle.kilim_run_state.specs.Objects.{new_object}
use Rattle.kilim_fiber_spec.specs.Fibers.{executes_on, new_fiber}
use Rattle.kilim_fiber_laws.specs.woven_kin.Nexts.{begun_with}
use Rattle.kilim_fiber_laws.specs.woven_kin.Standing.{Standing}
use Rattle.kilim_run_board.specs.fibers.Wishes.{ToStart}
use Rattle.kilim_run_board.specs.declared.fibers.Wants.TheVariants as wants
use Rattle.kilim_fiber_body.specs.Begins.{BodyBegins, BodyBoots}
use Rattle.kilim_fiber_body.specs.declared.body.Body.{Body}
use Rattle.kilim_fiber_body.specs.declared.body.Came.{Came}
use Rattle.kilim_fiber_body.specs.declared.body.Came.TheVariants as came
use Rattle.kilim_fiber.specs.Past.{deeds_of}
use Rattle.kilim_fiber.specs.Fiber.{task_of, course_of, wished, EndsNext, HoldsFiber, IsApart, ServesCode, StandsAs, idle_cause}
use Rattle.kilim_fiber.specs.Calls.{IsNew, IsBegun, WantsBy}
use Rattle.kilim_fiber.specs.declared.fiber.Asked.{Asked}
use Rattle.kilim_fiber.specs.declared.fiber.Fiber.{Fiber}

pub begun_by : (W : Program) (c : ClassId) (tree : List Object) (shape : List Token) (b : Beginning) (o : Body) (f : Fiber) → b ≡ Begun shape → BodyBegins W tree o → IsNew c b o f → IsBegun W c tree shape f
begun_by W c tree shape b o f e begins new = record { body = o; begins = begins; new = subst (λ (x : Beginning). IsNew c x o f) e new }

pub wants_start : (W : Program) (c : ClassId) (a : Came) (tree : List Object) (shape given : List Token) (f : Fiber) (q : Asked) → a ≡ came.Starts tree shape → given ≡ shape → wished q ≡ Some (ToStart given) → IsBegun W c tree shape f → WantsBy W c a (wants.Start f given) q
wants_start W c a tree shape given f q e d asks begun = subst (λ a. WantsBy W c a (wants.Start f given) q) (sym e) (f, ap (wants.Start f) d, asks ∙ ap (λ (z : List Token). Some (ToStart z)) d, begun)

-- ---- one thread of a course without deeds

follows_none : (set : Setting) (t u : ℕ) (a b : Lone) (ds : List Deed) → ds ≡ [] → Follows set t a ds b → Follows set u a ds b
follows_none set t u a b [] e h = h
follows_none set t u a b (d ∷ ds) e h = absurd cc

pub other_number : (set : Setting) (t u : ℕ) (c : Course) (last : Lone) → c.deeds ≡ [] → IsLone set t c last → IsLone set u c last
other_number set t u c last none is = record { first = is.first; begins = is.begins; follows = follows_none set t u is.first last c.deeds none is.follows }

one_lone : (set : Setting) (t u : ℕ) (b : Beginning) (l m : Lone) → IsLone set t (new_course b) l → IsLone set u (new_course b) m → l ≡ m
one_lone set t u b l m x y = sym x.follows ∙ (same_Some _ _ (sym x.begins ∙ y.begins) ∙ y.follows)

-- ---- a body that is begun

-- some thread, and for each number the body stands for it
record Arrives (W : Program) (marks : List (List Bool)) (set : Setting) (b : Beginning) (o : Body) : Type 0 where
  lone : Lone
  is : (t : ℕ) → IsLone set t (new_course b) lone
  stands : (t : ℕ) → StandsAs W marks set t (new_course b) lone o.idle o

module _ (set : Setting) (code : Code) (served : ServesCode set code) where
  abbrev W : Program
  W = code.program

  abbrev marks : List (List Bool)
  marks = code.counted

  abbrev Stands : Fiber → Type 0
  Stands f = StandsFor task_of course_of (HoldsFiber W marks) set f

  -- a fiber that is new stands for the course without deeds
  new_stands : (c : ClassId) (b : Beginning) (o : Body) (f : Fiber) → IsNew c b o f → set.main ≡ c → o.count ≡ 0 → o.apart ≡ None → RoomyIn W o.frames → Arrives W marks set b o → Stands f
  new_stands c b o f new main zero none roomy a =
      let same : new_course b ≡ course_of f = λ i. record { beginning = sym new.beginning i; deeds = sym new.past i } in
      let as_new : (t : ℕ) → StandsAs W marks set t (course_of f) a.lone f.idle f.body = λ t.
      subst (λ (x : Course). StandsAs W marks set t x a.lone f.idle f.body) same
      (subst (λ (x : Body). StandsAs W marks set t (new_course b) a.lone f.idle x) (sym new.body) (subst (λ (x : Bool). StandsAs W marks set t (new_course b) a.lone x o) (sym new.idle) (a.stands t))) in
      record {
        lone = a.lone;
        is = subst (λ (x : Course). IsLone set f.task x a.lone) same (a.is f.task);
        held = record {
          body = as_new f.task;
          fresh = λ counted t. as_new t;
          roomy = subst (λ (x : Body). RoomyIn W x.frames) (sym new.body) roomy;
          most = let count : f.body.count ≡ 0 = ap (λ (x : Body). x.count) new.body ∙ zero in omega (arith, count);
          is-main = main ∙ sym new.main;
          apart = subst (λ (x : Body). IsApart set.program x.apart) (sym new.body) (subst (IsApart set.program) (sym none) tt);
          refused = λ v e. absurd (none-some v (sym new.refused ∙ e));
        };
      }

  abbrev begun_as : List Activation → Body → Standing
  begun_as fs o = record { frames = fs; fiber = new_fiber; heap = o.heap; next = 0; done = 0; boxes = 0; kept = None; aside = [] }

  abbrev Has : List Object → List Token → Body → Option Frames → Bool → Type 0
  Has tree shape o fr idle = (lone : Lone) × ((t : ℕ) → IsLone set t (new_course (Begun shape)) lone) × ((t : ℕ) → StandsAs W marks set t (new_course (Begun shape)) lone idle o)

  begun_in : (tree : List Object) (shape : List Token) (o : Body) → IsSound set.program OfTask tree shape → (w : BodyBegins W tree o) → (fr : Option Frames) → o.frames ≡ fr → Has tree shape o fr (not (is_some fr))
  begun_in tree shape o sound w None e =
      let frames : begun_with W (executes_on W o.heap (Ref w.root)) (Ref w.root ∷ a_value.Fiber ∷ []) ≡ Some [] = w.frames ∙ ap (λ (z : Option Frames). Some (calls_in z)) e in
      let ends = λ (t : ℕ). tasks_end set W marks served.can t tree shape o.heap w.root sound w.put frames in
      let lone = (ends 0).0 in (
        lone,
        λ t. other_number set 0 t (new_course (Begun shape)) lone refl (ends 0).1,
        λ t.
            subst (λ (z : Lone). EndsNext set t z (idle_cause set)) (one_lone set t 0 (Begun shape) (ends t).0 lone (ends t).1 (ends 0).1) (ends t).2,
      )
  begun_in tree shape o sound w (Some fr) e =
      let frames : begun_with W (executes_on W o.heap (Ref w.root)) (Ref w.root ∷ a_value.Fiber ∷ []) ≡ Some (activation fr.top ∷ below_of fr) = w.frames ∙ ap (λ (z : Option Frames). Some (calls_in z)) e in
      let of = λ (t : ℕ). tasks_begin set W marks served.can t tree shape o.heap w.root 0 (activation fr.top) (below_of fr) sound w.put frames in
      let same : begun_as (activation fr.top ∷ below_of fr) o ≡ standing_at 0 o =
      λ i. record { frames = ap calls_in (sym e) i; fiber = sym w.fresh.records i; heap = o.heap; next = 0; done = sym w.fresh.count i; boxes = sym w.fresh.boxes i; kept = sym w.kept i; aside = ap aside_in (sym w.fresh.apart) i } in
      let lone = (of 0).lone in
      (lone, λ t. other_number set 0 t (new_course (Begun shape)) lone refl (of 0).is, λ t. subst (λ (z : Standing). Holds set W marks t (new_course (Begun shape)) z) same (of t).holds)

  pub begun_stands : (main : ClassId) (tree : List Object) (shape : List Token) (f : Fiber) → set.main ≡ main → IsSound set.program OfTask tree shape → IsBegun W main tree shape f → Stands f
  begun_stands main tree shape f is-main sound w =
      let o = w.body in
      let has = begun_in tree shape o sound w.begins o.frames refl in
      new_stands main (Begun shape) o f w.new is-main w.begins.fresh.count w.begins.fresh.apart w.begins.fresh.roomy
      (record { lone = has.0; is = has.1; stands = λ t. subst (λ (z : Bool). StandsAs W marks set t (new_course (Begun shape)) has.0 z o) (sym w.begins.fresh.idle) (has.2 t) })

  -- that of task 0, which has a frame
  pub boot_stands : (main : ClassId) (b : Beginning) (o : Body) (f : Fiber) → b ≡ Boot → o.idle ≡ false → BodyBoots code.plain W main o → IsNew main b o f → set.main ≡ main → Stands f
  boot_stands main b o f boot busy w new is-main =
      let object : new_object code.plain main ≡ new_object set.program set.main = λ i. new_object (sym served.program i) (sym is-main i) in
      let frames : begun_with W (constructor_of W set.main) (Ref w.root ∷ []) ≡ Some (calls_in o.frames) = ap (λ (m : ClassId). begun_with W (constructor_of W m) (Ref w.root ∷ [])) is-main ∙ w.frames in
      let of = λ (t : ℕ). first_begins set W marks served.can t w.root 0 (calls_in o.frames) frames in
      let same : record { frames = calls_in o.frames; fiber = new_fiber; heap = insert empty w.root (new_object set.program set.main); next = 0; done = 0; boxes = 0; kept = Some w.root; aside = [] } ≡ standing_at 0 o =
      λ i. record { frames = calls_in o.frames; fiber = sym w.fresh.records i; heap = (ap (insert empty w.root) (sym object) ∙ sym w.heap) i; next = 0; done = sym w.fresh.count i; boxes = sym w.fresh.boxes i; kept = sym w.kept i; aside = ap aside_in (sym w.fresh.apart) i } in
      let lone = (of 0).lone in
      new_stands main Boot o f (subst (λ (x : Beginning). IsNew main x o f) boot new) is-main w.fresh.count w.fresh.apart w.fresh.roomy (record {
        lone = lone;
        is = λ t. other_number set 0 t (new_course Boot) lone refl (of 0).is;
        stands = λ t. subst (λ (z : Bool). StandsAs W marks set t (new_course Boot) lone z o) (sym busy) (subst (λ (z : Standing). Holds set W marks t (new_course Boot) z) same (of t).holds);
      })

-- ---- another number

pub numbered : (W : Program) (marks : List (List Bool)) (set : Setting) (f : Fiber) (k : ℕ) → deeds_of f.past.value ≡ [] → f.body.count ≡ 0 → StandsFor task_of course_of (HoldsFiber W marks) set f → StandsFor task_of course_of (HoldsFiber W marks) set (record f { task = k })
numbered W marks set f k none zero s = record {
  lone = s.lone;
  is = other_number set f.task k (course_of f) s.lone none s.is;
  held = record {
    body = s.held.fresh zero k;
    fresh = λ count t. s.held.fresh count t;
    roomy = s.held.roomy;
    most = s.held.most;
    is-main = s.held.is-main;
    apart = s.held.apart;
    refused = λ v e. let lt = (s.held.refused v e).0 in let absurdly : ⊥ = omega (arith, lt, zero) in absurd absurdly;
  };
}

pub begun_course : (W : Program) (c : ClassId) (tree : List Object) (shape : List Token) (f : Fiber) → IsBegun W c tree shape f → course_of f ≡ record { beginning = Begun shape; deeds = [] }
begun_course W c tree shape f w = λ i. record { beginning = w.new.beginning i; deeds = w.new.past i }
