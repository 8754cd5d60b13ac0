-- No object of the shared heap is reached from two sides.
use Rattle.std.proofs.Common.{◌≡◌, ℕ, suc, Bool, true, List, [], ◌∷◌, Option, Some, None, refl, sym, ap, subst, ◌∙◌, inl, inr}
use Rattle.std.specs.Prelude.{slice_get}
use Rattle.std.specs.FinMap.{get}
use Rattle.std.proofs.lemmas.Option.{same_Some}
use Rattle.kilim_program.specs.Program.{Program}
use Rattle.kilim_program.specs.declared.names.BoxName.{BoxName}
use Rattle.kilim_program.specs.declared.names.FieldId.{FieldId}
use Rattle.kilim_program.specs.declared.names.MethodId.{MethodId}
use Rattle.kilim_program.specs.declared.value.Value.{Value}
use Rattle.kilim_program.specs.declared.value.Value.TheVariants.{Int, Long, Null, Ref, Text, Box, Fiber}
use Rattle.kilim_run_state.specs.declared.value.Object.{Object}
use Rattle.kilim_run_state.specs.declared.value.Token.{Token}
use Rattle.kilim_run_state.specs.Machine.{Objects, Activation}
use Rattle.kilim_run_state.specs.Trees.{OfMessage}
use Rattle.kilim_run_model.specs.State.{Setting, is_fit, Thread, Alive, Ended, State, first_state}
use Rattle.kilim_run_model.specs.Lone.{Lone}
use Rattle.kilim_run_model.specs.Turn.{kept_by, lone_of}
use Rattle.kilim_run_model.specs.Reach.{Names, SomeNames, FieldNames, Holds, Below, Here, Then, LiveNames, Liveness, LowerName, FramesName, MaybeNames, OptionNames, Reaches, IsQueued, QueueReaches, Isolated, PlaysIsolated}
use Rattle.kilim_run_model.specs.Kept.{IsIn, IsKept, Kept}
use Rattle.kilim_run_model.specs.kin.Kin.{Owner, OfTask, OfPlace, IsKin, AreKin, FieldsKin, ObjectsKin, FramesKin, NameKin, Alike}
use Rattle.kilim_run_model.specs.kin.Kin as kin
use Rattle.kilim_run_model.specs.kin.trees.TreeKin.{Copies, IsTree, names_from}
use Rattle.kilim_run_model.proofs.kin.trees.Copied.{names_bounds}
use Rattle.kilim_run_model.specs.one_heap.Lones.{ThreadKin, LonesKin}
use Rattle.kilim_run_model.specs.one_heap.Parted.{Parted, first_parted}
use Rattle.kilim_run_model.specs.one_heap.Tied.{Party, Queued, Tied}
use Rattle.kilim_run_model.proofs.one_heap.Owners.{same_task, same_place, same_number, task_place}
use Rattle.kilim_run_model.proofs.one_heap.First.{first_there}
use Rattle.kilim_run_model.proofs.one_heap.Beside.{kept_of, first_beside, plays_beside}

-- what is named in the shared heap is named on the heap of one's own
module _ (of : kin.Names) where
  value_back : (v w : Value) (x : ℕ) → IsKin of v w → Names w x → (n : ℕ) × (of n ≡ Some x) × Names v n
  value_back (Ref n) (Ref y) x e d = (n, e ∙ ap Some d, refl)
  value_back (Int a) (Int b) x e d = absurd d
  value_back (Long a) (Long b) x e d = absurd d
  value_back Null Null x e d = absurd d
  value_back (Text a) (Text b) x e d = absurd d
  value_back (Box a) (Box b) x e d = absurd d
  value_back Fiber Fiber x e d = absurd d
  value_back _ _ x e d = absurd e

  values_back : (vs ws : List Value) (x : ℕ) → AreKin of vs ws → SomeNames ws x → (n : ℕ) × (of n ≡ Some x) × SomeNames vs n
  values_back (v ∷ vs) (w ∷ ws) x e (inl d) = let b = value_back v w x e.0 d in (b.0, b.1, inl b.2)
  values_back (v ∷ vs) (w ∷ ws) x e (inr d) = let b = values_back vs ws x e.1 d in (b.0, b.1, inr b.2)
  values_back [] [] x e d = absurd d
  values_back [] (w ∷ ws) x e d = absurd e
  values_back (v ∷ vs) [] x e d = absurd e

  fields_back : (vs ws : List (FieldId × Value)) (x : ℕ) → FieldsKin of vs ws → FieldNames ws x → (n : ℕ) × (of n ≡ Some x) × FieldNames vs n
  fields_back (v ∷ vs) (w ∷ ws) x e (inl d) = let b = value_back v.1 w.1 x e.1 d in (b.0, b.1, inl b.2)
  fields_back (v ∷ vs) (w ∷ ws) x e (inr d) = let b = fields_back vs ws x e.2 d in (b.0, b.1, inr b.2)
  fields_back [] [] x e d = absurd d
  fields_back [] (w ∷ ws) x e d = absurd e
  fields_back (v ∷ vs) [] x e d = absurd e

  holds_back : (o q : Object) (x : ℕ) → ObjectsKin of o q → Holds q x → (n : ℕ) × (of n ≡ Some x) × Holds o n
  holds_back o q x e (inl d) = let b = fields_back o.fields q.fields x e.fields d in (b.0, b.1, inl b.2)
  holds_back o q x e (inr d) = let b = values_back o.elements q.elements x e.elements d in (b.0, b.1, inr b.2)

  live_back : (live : ℕ → Bool) (i : ℕ) (vs ws : List Value) (x : ℕ) → AreKin of vs ws → LiveNames live i ws x → (n : ℕ) × (of n ≡ Some x) × LiveNames live i vs n
  live_back live i (v ∷ vs) (w ∷ ws) x e (inl d) = let b = value_back v w x e.0 d.1 in (b.0, b.1, inl (d.0, b.2))
  live_back live i (v ∷ vs) (w ∷ ws) x e (inr d) = let b = live_back live (suc i) vs ws x e.1 d in (b.0, b.1, inr b.2)
  live_back live i [] [] x e d = absurd d
  live_back live i [] (w ∷ ws) x e d = absurd e
  live_back live i (v ∷ vs) [] x e d = absurd e

  locals_back : (table : MethodId → ℕ → ℕ → Bool) (f g : Activation) (x : ℕ) → f.method ≡ g.method → f.place ≡ g.place → AreKin of f.locals g.locals → LiveNames (table g.method g.place) 0 g.locals x →
      (n : ℕ) × (of n ≡ Some x) × LiveNames (table f.method f.place) 0 f.locals n
  locals_back table f g x method place kin d =
      let b = live_back (table g.method g.place) 0 f.locals g.locals x kin d in
      (b.0, b.1, subst (λ (m : MethodId). LiveNames (table m f.place) 0 f.locals b.0) (sym method) (subst (λ (i : ℕ). LiveNames (table g.method i) 0 f.locals b.0) (sym place) b.2))

  lower_back : (live : Liveness) (fs gs : List Activation) (x : ℕ) → FramesKin of fs gs → LowerName live gs x → (n : ℕ) × (of n ≡ Some x) × LowerName live fs n
  lower_back live (f ∷ fs) (g ∷ gs) x e (inl d) = let b = values_back f.stack g.stack x e.3 d in (b.0, b.1, inl b.2)
  lower_back live (f ∷ fs) (g ∷ gs) x e (inr (inl d)) = let b = locals_back live.below f g x e.0 e.1 e.2 d in (b.0, b.1, inr (inl b.2))
  lower_back live (f ∷ fs) (g ∷ gs) x e (inr (inr d)) = let b = lower_back live fs gs x e.4 d in (b.0, b.1, inr (inr b.2))
  lower_back live [] [] x e d = absurd d
  lower_back live [] (g ∷ gs) x e d = absurd e
  lower_back live (f ∷ fs) [] x e d = absurd e

  frames_back : (live : Liveness) (fs gs : List Activation) (x : ℕ) → FramesKin of fs gs → FramesName live gs x → (n : ℕ) × (of n ≡ Some x) × FramesName live fs n
  frames_back live (f ∷ fs) (g ∷ gs) x e (inl d) = let b = values_back f.stack g.stack x e.3 d in (b.0, b.1, inl b.2)
  frames_back live (f ∷ fs) (g ∷ gs) x e (inr (inl d)) = let b = locals_back live.top f g x e.0 e.1 e.2 d in (b.0, b.1, inr (inl b.2))
  frames_back live (f ∷ fs) (g ∷ gs) x e (inr (inr d)) = let b = lower_back live fs gs x e.4 d in (b.0, b.1, inr (inr b.2))
  frames_back live [] [] x e d = absurd d
  frames_back live [] (g ∷ gs) x e d = absurd e
  frames_back live (f ∷ fs) [] x e d = absurd e

  kept_back : (n y : Option ℕ) (x : ℕ) → NameKin of n y → MaybeNames y x → (m : ℕ) × (of m ≡ Some x) × MaybeNames n m
  kept_back (Some n) (Some y) x e d = (n, e ∙ ap Some d, refl)
  kept_back None None x e d = absurd d
  kept_back None (Some y) x e d = absurd e
  kept_back (Some n) None x e d = absurd e

  module _ (owner : ℕ → Owner) (t : ℕ) (h k : Objects) (alike : Alike of owner t k h k) (n y : ℕ) (is : of n ≡ Some y) (there : (x : ℕ) → Below h n x → (o : Object) × (get h x ≡ Some o)) where
    below_back : (x : ℕ) → Below k y x → (m : ℕ) × (of m ≡ Some x) × Below h n m
    below_back x (Here e) = (n, is ∙ ap Some e, Here refl)
    below_back x (Then z q b e d) =
        let m = below_back z b in
        let o = there m.0 m.2 in
        let s = alike.same m.0 o.0 o.1 in
        let same : q ≡ s.1 = same_Some _ _ (sym e ∙ (ap (get k) (same_Some _ _ (sym m.1 ∙ s.2)) ∙ s.3)) in
        let c = holds_back o.0 q x (subst (λ (v : Object). ObjectsKin of o.0 v) (sym same) s.4) d in
        (c.0, c.1, Then m.0 o.0 m.2 o.1 c.2)

    owned_below : (x : ℕ) → Below k y x → owner x ≡ OfTask t
    owned_below x b =
        let m = below_back x b in
        let o = there m.0 m.2 in
        let s = alike.same m.0 o.0 o.1 in
        ap owner (same_Some _ _ (sym m.1 ∙ s.2)) ∙ s.5

-- ---- trees in mailboxes

copy_at : (of : kin.Names) (k : Objects) (os : List Object) (xs : List ℕ) (y : ℕ) (q : Object) → Copies of k os xs → IsIn y xs → get k y ≡ Some q → (o : Object) × ObjectsKin of o q
copy_at of k (o ∷ os) (x ∷ xs) y q c (inl e) d = (o, subst (λ (z : Object). ObjectsKin of o z) (same_Some _ _ (sym c.1 ∙ (ap (get k) (sym e) ∙ d))) c.2)
copy_at of k (o ∷ os) (x ∷ xs) y q c (inr e) d = copy_at of k os xs y q c.3 e d
copy_at of k [] [] y q c e d = absurd e
copy_at of k [] (x ∷ xs) y q c e d = absurd c
copy_at of k (o ∷ os) [] y q c e d = absurd c

tree_below : (p : Program) (k : Objects) (r : ℕ) (xs : List ℕ) (shape : List Token) → IsTree p OfMessage k (r ∷ xs) shape → (x : ℕ) → Below k r x → IsIn x (r ∷ xs)
tree_below p k r xs shape tree x (Here e) = inl (sym e)
tree_below p k r xs shape tree x (Then y q b e d) =
    let c = tree.copy 0 in
    let o = copy_at (names_from 0 (r ∷ xs)) k c.0 (r ∷ xs) y q c.2 (tree_below p k r xs shape tree y b) e in
    let n = holds_back (names_from 0 (r ∷ xs)) o.0 q x o.1 d in
    (names_bounds 0 (r ∷ xs) n.0 x n.1).2

place_owned : (p : Program) (owner : ℕ → Owner) (k : Objects) (box : BoxName) (end i : ℕ) (shapes : List (ℕ × List Token)) (names : List (ℕ × ℕ)) (j n x : ℕ) → Queued p owner k box end i shapes names → IsQueued names j n → Below k n x → owner x ≡ OfPlace box j
place_owned p owner k box end i (a ∷ shapes) (b ∷ names) j n x w (inl e) d =
    w.0.2.2 x (tree_below p k b.1 w.0.2.0 a.1 w.0.2.1 x (subst (λ (z : ℕ). Below k z x) (sym e.1) d)) ∙ ap (OfPlace box) (sym w.0.1 ∙ e.0)
place_owned p owner k box end i (a ∷ shapes) (b ∷ names) j n x w (inr e) d = place_owned p owner k box end (suc i) shapes names j n x w.1 e d
place_owned p owner k box end i [] [] j n x w e d = absurd e
place_owned p owner k box end i [] (b ∷ names) j n x w e d = absurd w
place_owned p owner k box end i (a ∷ shapes) [] j n x w e d = absurd e

-- ---- the whole state

module _ (live : Liveness) (set : Setting) (m : Parted) (s : State) (tied : Tied set m s) (held : (t : ℕ) (l : Lone) → slice_get m.lones t ≡ Some l → IsKept live set l) where
  thread_owned : (t : ℕ) (a : Lone) (y x : Thread) (of : kin.Names) (n z : ℕ) → a.thread ≡ y → LonesKin of tied.owner t s.heap a (lone_of s t x) → ThreadKin of y x → IsKept live set a → OptionNames live (Some x) (kept_by s t) n → Below s.heap n z → tied.owner z ≡ OfTask t
  thread_owned t a (Alive fs d b) (Alive gs e c) of n z is w q below (inl v) under =
      let i = frames_back of live fs gs n q.0 v in
      owned_below of tied.owner t a.heap s.heap w.heaps i.0 n i.1 (λ u b. below.there i.0 u (subst (λ (th : Thread). OptionNames live (Some th) a.kept i.0) (sym is) (inl i.2)) b) z under
  thread_owned t a (Alive fs d b) (Alive gs e c) of n z is w q below (inr v) under =
      let i = kept_back of a.kept (kept_by s t) n w.kept v in
      owned_below of tied.owner t a.heap s.heap w.heaps i.0 n i.1 (λ u b. below.there i.0 u (subst (λ (th : Thread). OptionNames live (Some th) a.kept i.0) (sym is) (inr i.2)) b) z under
  thread_owned t a (Ended c) (Ended d) of n z is w q below v under = absurd v
  thread_owned t a (Ended c) (Alive gs e d) of n z is w q below v under = absurd q
  thread_owned t a (Alive fs d b) (Ended c) of n z is w q below v under = absurd q

  party_owned : (t : ℕ) (a : Option Lone) (x : Option Thread) (n z : ℕ) → Party tied.owner s t a x → ((l : Lone) → a ≡ Some l → IsKept live set l) → OptionNames live x (kept_by s t) n → Below s.heap n z → tied.owner z ≡ OfTask t
  party_owned t (Some a) (Some x) n z w below v under = thread_owned t a a.thread x w.0 n z refl w.1 w.1.threads (below a refl) v under
  party_owned t None None n z w below v under = absurd v
  party_owned t None (Some x) n z w below v under = absurd w
  party_owned t (Some a) None n z w below v under = absurd w

  reach_owned : (t x : ℕ) → Reaches live s t x → tied.owner x ≡ OfTask t
  reach_owned t x r = party_owned t (slice_get m.lones t) (slice_get s.threads t) r.0 x (tied.by.parties t) (held t) r.1 r.2

  queue_owned : (box : BoxName) (i x : ℕ) → QueueReaches s box i x → tied.owner x ≡ OfPlace box i
  queue_owned box i x r =
      let b = tied.by.boxes box in
      place_owned set.program tied.owner s.heap box (s.mailboxes box).puts b.first (m.mailboxes box).queue (s.mailboxes box).queue i r.0 x b.queued r.1 r.2

  isolated : Isolated live s
  isolated = record {
    threads = λ t u x a b. same_task t u (sym (reach_owned t x a) ∙ reach_owned u x b);
    places = λ t box i x a b. task_place t box i (sym (reach_owned t x a) ∙ queue_owned box i x b);
    queues = λ a b i j x v w. let e = sym (queue_owned a i x v) ∙ queue_owned b j x w in (same_place a b i j e, same_number a b i j e);
  }

pub plays_isolated : (live : Liveness) (set : Setting) → is_fit set ≡ true → Kept live set → PlaysIsolated live set
plays_isolated live set fit kept schedule =
    let l = first_there set fit in
    let b = plays_beside live set kept (first_parted set) (first_state set) schedule (first_beside set l.0 l.1) in
    isolated live set _ _ b.tied (λ t l e. kept_of live set kept _ b.books b.booked t l e)
