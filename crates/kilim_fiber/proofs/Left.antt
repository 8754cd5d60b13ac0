-- A fiber of a course that has no frame keeps a record for each frame of the thread of the course, and then the leaf's.
use Rattle.std.proofs.Common.{◌≡◌, ℕ, suc, ◌+◌, Bool, true, false, List, [], ◌∷◌, ◌++◌, length, refl, sym, ap, subst, ◌∙◌, arith}
use Rattle.std.proofs.lemmas.Bool.{false≢true}
use Rattle.kilim_program.specs.declared.names.MethodId.{MethodId}
use Rattle.kilim_program.specs.declared.value.Value.{Value}
use Rattle.kilim_program.specs.Program.{Program}
use Rattle.kilim_isolation_laws.specs.typed_threads.fine.Typed.{frames_of}
use Rattle.kilim_run_model.specs.kin.Kin.{Names, FramesKin}
use Rattle.kilim_run_model.specs.one_heap.Booked.{IsOf}
use Rattle.kilim_run_state.specs.Machine.{Activation}
use Rattle.kilim_run_machine.specs.Natives.{Native}
use Rattle.kilim_run_machine.specs.Natives as native
use Rattle.kilim_run_model.specs.Course.{Course}
use Rattle.kilim_run_model.specs.declared.deed.Deed.{Deed}
use Rattle.kilim_run_model.specs.Lone.{Lone}
use Rattle.kilim_run_model.specs.State.{Setting}
use Rattle.kilim_fiber_laws.proofs.Reached.{acts, along, first}
use Rattle.kilim_fiber_laws.specs.Fibers.{Holds, IsReached}
use Rattle.kilim_fiber_laws.specs.Served.{CanServe}
use Rattle.kilim_fiber_laws.specs.woven_kin.history.History.{state_in, state_of, world_of}
use Rattle.kilim_fiber_laws.specs.woven_kin.Alike.{FibersKin, Like, RecordsKin}
use Rattle.kilim_fiber_laws.specs.woven_kin.Standing.{Standing}
use Rattle.kilim_fiber_spec.specs.lone.Law.{lone_at, lone_frames}
use Rattle.kilim_fiber_spec.specs.Acts.{World, together}
use Rattle.kilim_fiber_spec.specs.Fibers.{Fib, Fiber_at, Rec, Resting, wsteps}
use Rattle.kilim_fiber_spec.specs.Links.{Forms, Link, Lk, first_record, next_records, record_of, rev_onto, u_frames}
use Rattle.kilim_fiber_spec.specs.Serves.{IsThread, StandsFor}
use Rattle.kilim_fiber_spec.specs.Thread.{Run, Thread, steps}
use Rattle.kilim_fiber_laws.proofs.receivers.states.Along.{append_none, same_deeds}
use Rattle.kilim_fiber_laws.specs.receivers.states.Law.{Likewise, ThreadAlong, acts_of, first_thread, world_at}
use Rattle.kilim_fiber_steps.specs.records.Members.{deeper_of}
use Rattle.kilim_fiber.specs.Records.{HasLeftAll}

-- ---- lengths

one_over : (m n : ℕ) → m + suc n ≡ suc m + n
one_over m n = omega arith

none_over : (n : ℕ) → n ≡ 0 + n
none_over n = omega arith

rev_length : (xs ys : List Link) → length (rev_onto xs ys) ≡ length xs + length ys
rev_length [] ys = none_over (length ys)
rev_length (x ∷ xs) ys = rev_length xs (x ∷ ys) ∙ one_over (length xs) (length ys)

frames_length : (ks : List Link) → length (lone_frames (u_frames ks)) ≡ length ks
frames_length [] = refl
frames_length (Lk m from to i callee s l wl x old was ∷ ks) = ap suc (frames_length ks)

records_length : (of : Names) (rs ss : List Rec) → RecordsKin of rs ss → length rs ≡ length ss
records_length of [] [] e = refl
records_length of (r ∷ rs) (s ∷ ss) e = ap suc (records_length of rs ss e.1)
records_length of _ _ e = absurd e

-- ---- what is kept

-- as many records above the first frame's as the thread has frames
pub record Keeps (set : Setting) (t : ℕ) (c : Course) (g : Fib) : Type 0 where
  pub left : HasLeftAll g
  pub here : Lone
  pub is : IsOf set t c here
  pub count : length (deeper_of g) ≡ length (frames_of here.thread)

-- under other names
record KeepsMany (n : ℕ) (g : Fib) : Type 0 where
  left : HasLeftAll g
  many : length (deeper_of g) ≡ n

many_kin : (of : Names) (r d : Rec) (ds : List Rec) (g : Fib) → FibersKin of (Fiber_at [] r (d ∷ ds) false true) g → KeepsMany (suc (length ds)) g
many_kin of r d ds (Fiber_at [] s (e ∷ es) false true) kin = record { left = tt; many = ap suc (sym (records_length of ds es kin.2.1)) }
many_kin of r d ds (Fiber_at (l ∷ lo) s de re pa) kin = absurd kin.0
many_kin of r d ds (Fiber_at [] s [] re pa) kin = absurd kin.2
many_kin of r d ds (Fiber_at [] s (e ∷ es) true pa) kin = absurd (false≢true kin.3)
many_kin of r d ds (Fiber_at [] s (e ∷ es) false false) kin = absurd (false≢true (sym kin.4))

same_records : (f g : Fib) (v w : World) (ps qs : List ℕ) → Resting f v ps ≡ Resting g w qs → f ≡ g
same_records f g v w ps qs e = cc

same_many : (all links ks next frames : ℕ) → all ≡ suc links + 0 → all ≡ suc ks → next ≡ ks → frames ≡ links → suc next ≡ suc frames
same_many all links ks next frames one two three four = omega (arith, one, two, three, four)

-- ---- at a rest of the woven machine

module _ (set : Setting) (W : Program) (marks : List (List Bool)) (form : Forms set W marks) where
  next_length : (box : Value) (ks : List Link) → length (next_records set W marks form box ks) ≡ length ks
  next_length box [] = refl
  next_length box (k ∷ ks) = ap suc (next_length box ks)

  -- the thread has the frames of these links, and that of another above them
  record IsRun (links : List Link) (w : World) (u : Thread) : Type 0 where
    method : MethodId
    place : ℕ
    locals : List Value
    stack : List Value
    self : Value
    world : World
    deeds : world.deeds ≡ w.deeds
    acts : world.acts ≡ w.acts
    is : u ≡ Run method place locals stack self (u_frames links) world

  runs : (leaf : Native) (box : Value) (k : Link) (links : List Link) (w : World) (u : Thread) → IsThread set W marks form leaf box k links u w → IsRun links w u
  runs native.Get box (Lk m from to i callee s l wl x old was) links w u e = record { method = m; place = from; locals = l; stack = e.1; self = x; world = w; deeds = refl; acts = refl; is = e.4 }
  runs native.PutWait box (Lk m from to i callee s l wl x old was) links w u e = record { method = m; place = from; locals = l; stack = e.4; self = x; world = together e.0.heap e.1 w; deeds = refl; acts = refl; is = e.7 }
  runs _ box (Lk m from to i callee s l wl x old was) links w u e = record { method = m; place = to; locals = l; stack = s; self = x; world = w; deeds = refl; acts = refl; is = e }

module _ (set : Setting) (t : ℕ) (c : Course) where
  -- all deeds of the course are done
  all_done : (w : World) (m : MethodId) (p : ℕ) (ls s : List Value) (x : Value) (links : List Link) → w.deeds ≡ [] → w.acts ≡ acts_of c.deeds [] → ThreadAlong set t c (Run m p ls s x (u_frames links) w) → IsOf set t c (lone_at m p ls s (u_frames links) w)
  all_done w m p ls s x links none done a =
      let held = a.2 in
      let all : held.were ≡ c.deeds = sym (append_none held.were) ∙ (ap (λ (ds : List Deed). held.were ++ ds) (sym none) ∙ held.all) in
      let like : Likewise c.deeds held.done = subst (λ (ds : List Deed). Likewise ds held.done) all held.like in
      let same = same_deeds c.deeds held.done [] [] like (sym held.acted ∙ done) in
      subst (λ (ds : List Deed). IsOf set t (record { beginning = c.beginning; deeds = ds }) (lone_at m p ls s (u_frames links) w)) same.1 held.of

module _ (set : Setting) (W : Program) (marks : List (List Bool)) (served : CanServe set W marks) (t : ℕ) (c : Course) (f : Standing) (h : Holds set W marks t c f) (none : f.frames ≡ []) where
  abbrev x : Standing
  x = h.at

  abbrev r : IsReached set W marks t c x
  r = h.reached

  abbrev like : Like x f
  like = h.like

  abbrev form : Forms set W marks
  form = served.runs.tasks.form

  abbrev w : World
  w = world_of t x [] (acts set W marks served t c x r)

  -- the machine comes there with no deed to come, and rests
  abbrev Here : List Deed → Type 0
  Here deeds = (ps : List ℕ) × (j : ℕ) × (wsteps set W marks j (first set W marks served t c x r deeds ps) ≡ state_of t x [] (acts set W marks served t c x r) (0 ∷ []))

  here : Here c.deeds
  here = subst Here (append_none c.deeds) (r.comes [] 0 [])

  no_frame : (fs : List Activation) → FramesKin like.of fs [] → fs ≡ []
  no_frame [] e = refl
  no_frame (top ∷ fs) e = absurd e

  rests_there : wsteps set W marks here.1 (first set W marks served t c x r c.deeds here.0) ≡ Resting x.fiber w (0 ∷ [])
  rests_there =
      let nothing = no_frame x.frames (subst (FramesKin like.of x.frames) none like.is.frames) in
      here.2 ∙ ap (λ (fs : List Activation). state_in fs x.fiber w (0 ∷ [])) nothing

  -- ---- the thread there

  as_many : (box : Value) (k k0 : Link) (links ks : List Link) → rev_onto (k ∷ links) [] ≡ k0 ∷ ks → suc (length (next_records set W marks form box ks)) ≡ suc (length (lone_frames (u_frames links)))
  as_many box k k0 links ks e =
      same_many (length (rev_onto (k ∷ links) [])) (length links) (length ks) (length (next_records set W marks form box ks)) (length (lone_frames (u_frames links)))
      (rev_length (k ∷ links) []) (ap length e) (next_length set W marks form box ks) (frames_length links)

  keeps_at : (u : Thread) → StandsFor set W marks form u (Resting x.fiber w (0 ∷ [])) → ThreadAlong set t c u → Keeps set t c f.fiber
  keeps_at u s a =
      let run = runs set W marks form s.0 s.1 s.2 s.3 w u s.8 in
      let is = same_records x.fiber _ w w (0 ∷ []) (0 ∷ []) s.7 in
      let many = many_kin like.of (record_of set W marks form s.4) (first_record set W marks form s.1 s.5) (next_records set W marks form s.1 s.5) f.fiber (subst (λ (g : Fib). FibersKin like.of g f.fiber) is like.is.fiber) in
      record {
        left = many.left;
        here = lone_at run.method run.place run.locals run.stack (u_frames s.3) run.world;
        is = all_done set t c run.world run.method run.place run.locals run.stack run.self s.3 run.deeds run.acts (subst (ThreadAlong set t c) run.is a);
        count = many.many ∙ as_many s.1 s.2 s.4 s.3 s.5 s.6;
      }

  pub keeps_each : Keeps set t c f.fiber
  keeps_each =
      let z = (along set W marks served t c x r here.0).rests here.1 x.fiber w (0 ∷ []) rests_there in
      keeps_at (steps set z.0 (first_thread set c.beginning (world_at t r.begun c.deeds []))) z.1 z.2
