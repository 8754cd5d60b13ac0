-- A tree that comes into the thread's heap and into the fiber's.
use Rattle.std.proofs.Common.{◌≡◌, ℕ, zero, suc, ◌+◌, ◌≤◌, ◌<◌, true, List, [], ◌∷◌, ◌++◌, Option, Some, None, length, refl, sym, ap, subst, ◌∙◌, inl, inr}
use Rattle.std.specs.List.{AllByRecursion}
use Rattle.std.specs.FinMap.{empty, get, get-empty}
use Rattle.std.proofs.lemmas.Option.{same_Some, none-some}
use Rattle.kilim_program.specs.Program.{Program}
use Rattle.kilim_program.specs.declared.names.FieldId.{FieldId}
use Rattle.kilim_program.specs.declared.value.Value.{Value}
use Rattle.kilim_program.specs.declared.value.Value.TheVariants.{Int, Long, Null, Ref, Text, Box, Fiber}
use Rattle.kilim_run_state.specs.declared.value.Object.{Object}
use Rattle.kilim_run_state.specs.declared.value.Token.{Token}
use Rattle.kilim_run_state.specs.Machine.{Objects, Activation}
use Rattle.kilim_run_state.specs.Shapes.{tree_limit, shape_of}
use Rattle.kilim_run_state.specs.Trees.{Root, tree_names, with_objects, built, is_allowed}
use Rattle.kilim_run_model.specs.State.{Thread, Alive, Ended}
use Rattle.kilim_run_model.specs.Lone.{Lone, pushed, pushed_on}
use Rattle.kilim_run_model.specs.Course.{received}
use Rattle.kilim_run_model.specs.Reach.{FieldNames, SomeNames, Holds, Below, Here, Then}
use Rattle.kilim_run_model.specs.Reach as reach
use Rattle.kilim_run_model.specs.Kept.{IsFormed, IsIn, IsOnce}
use Rattle.kilim_run_model.specs.kin.Kin.{Names, Owner, OfTask, OfNobody, FramesKin, Alike}
use Rattle.kilim_run_model.proofs.kin.Kins.{kin_push, frames_up, name_up}
use Rattle.kilim_run_model.specs.kin.trees.TreeKin.{AllFields, AllValues, IsIntact, IsWholeTree, Copies, names_from}
use Rattle.kilim_run_model.specs.kin.trees.TreeKin as kin
use Rattle.kilim_run_model.proofs.kin.trees.ReadBack.{shapes_give}
use Rattle.kilim_run_model.specs.one_heap.Lones.{ThreadKin}
use Rattle.kilim_run_model.proofs.one_heap.Owners.{marked, marked_in, marked_out, task_nobody}
use Rattle.kilim_run_model.proofs.one_heap.Taken.{joined, joined_first, joined_old, joined_bound, alike_taken}
use Rattle.kilim_run_model.proofs.one_heap.Nexts.{MaybeFrames}
use Rattle.kilim_run_state.specs.Places.{AllDiffer}
use Rattle.kilim_run_trees.specs.Walk.{value_refs, element_refs, field_refs, refs, Leads, AreIn, IsTree, places, objects, renamed}
use Rattle.kilim_run_trees.specs.Walk as walk
use Rattle.kilim_run_trees.specs.Moved.{PutIn, renamed_all, at_places}
use Rattle.kilim_run_trees.specs.Shaping.{IsShown, Suits, field_values, held}
use Rattle.kilim_run_trees.proofs.Walks.{one_tree}
use Rattle.kilim_run_trees.proofs.Named.{names_are_places}
use Rattle.kilim_fiber_spec.specs.fiber_kin.Mine.{all_mine}
use Rattle.kilim_fiber_spec.specs.fiber_kin.Held.{Like}
use Rattle.kilim_fiber_spec.specs.fiber_kin.Acts.{IsSound}
use Rattle.kilim_fiber_spec.proofs.fiber_kin.Formed.{formed_renamed}
use Rattle.kilim_fiber_spec.proofs.fiber_kin.Belows.{AllWell}
use Rattle.kilim_fiber_spec.proofs.fiber_kin.Sizes.{tree_of_shape, each_suits}

-- ---- what is below a tree's root is among its objects

in_left : (xs ys : List ℕ) (n : ℕ) → IsIn n xs → IsIn n (xs ++ ys)
in_left [] ys n i = absurd i
in_left (x ∷ xs) ys n (inl d) = inl d
in_left (x ∷ xs) ys n (inr d) = inr (in_left xs ys n d)

in_right : (xs ys : List ℕ) (n : ℕ) → IsIn n ys → IsIn n (xs ++ ys)
in_right [] ys n i = i
in_right (x ∷ xs) ys n i = inr (in_right xs ys n i)

ref_named : (v : Value) (n : ℕ) → reach.Names v n → IsIn n (value_refs v)
ref_named (Ref m) n e = inl (sym e)
ref_named (Int a) n e = absurd e
ref_named (Long a) n e = absurd e
ref_named Null n e = absurd e
ref_named (Text a) n e = absurd e
ref_named (Box a) n e = absurd e
ref_named Fiber n e = absurd e

elements_named : (vs : List Value) (n : ℕ) → SomeNames vs n → IsIn n (element_refs vs)
elements_named [] n e = absurd e
elements_named (v ∷ vs) n (inl e) = in_left (value_refs v) (element_refs vs) n (ref_named v n e)
elements_named (v ∷ vs) n (inr e) = in_right (value_refs v) (element_refs vs) n (elements_named vs n e)

fields_named : (es : List (FieldId × Value)) (n : ℕ) → FieldNames es n → IsIn n (field_refs es)
fields_named [] n e = absurd e
fields_named (a ∷ es) n (inl e) = in_left (value_refs a.1) (field_refs es) n (ref_named a.1 n e)
fields_named (a ∷ es) n (inr e) = in_right (value_refs a.1) (field_refs es) n (fields_named es n e)

held_refs : (o : Object) (n : ℕ) → Holds o n → IsIn n (refs o)
held_refs o n (inl e) = in_left (field_refs o.fields) (element_refs o.elements) n (fields_named o.fields n e)
held_refs o n (inr e) = in_right (field_refs o.fields) (element_refs o.elements) n (elements_named o.elements n e)

-- an entry of a walk, with what is known of all entries
record Entry (k : Objects) (good : Object → Type 0) (all : List ℕ) (n : ℕ) : Type 0 where
  object : Object
  there : get k n ≡ Some object
  is : good object
  inside : (m : ℕ) → IsIn m (refs object) → IsIn m all

-- what a walk is led to is among its entries
reached : (from : List ℕ) (es : List (ℕ × Object)) (n : ℕ) → Leads from es [] → IsIn n from → IsIn n (places es)
reached [] es n h i = absurd i
reached (x ∷ xs) [] n h i = absurd (let e : x ∷ xs ≡ [] = h in cc)
reached (x ∷ xs) (e ∷ es) n h (inl d) = inl (d ∙ h.0)
reached (x ∷ xs) (e ∷ es) n h (inr d) = inr (reached (refs e.1 ++ xs) es n h.1 (in_right (refs e.1) xs n d))

more_inside : (k : Objects) (good : Object → Type 0) (x : ℕ) (all : List ℕ) (n : ℕ) → Entry k good all n → Entry k good (x ∷ all) n
more_inside k good x all n w = record { object = w.object; there = w.there; is = w.is; inside = λ m i. inr (w.inside m i) }

entry_of : (k : Objects) (good : Object → Type 0) (from : List ℕ) (es : List (ℕ × Object)) (n : ℕ) → Leads from es [] → AreIn k es → AllByRecursion (λ e. good e.1) es → IsIn n (places es) → Entry k good (places es) n
entry_of k good from [] n h a g i = absurd i
entry_of k good [] (e ∷ es) n h a g i = absurd h
entry_of k good (x ∷ xs) (e ∷ es) n h a g (inl d) = record {
  object = e.1;
  there = ap (get k) d ∙ a.0;
  is = g.0;
  inside = λ m i. inr (reached (refs e.1 ++ xs) es m h.1 (in_left (refs e.1) xs m i));
}
entry_of k good (x ∷ xs) (e ∷ es) n h a g (inr d) = more_inside k good e.0 (places es) n (entry_of k good (refs e.1 ++ xs) es n h.1 a.1 g.1 d)

abbrev Both : Program → Object → Type 0
Both p o = IsFormed p o × AllByRecursion IsShown (held o)

module _ (p : Program) (k : Objects) (root : ℕ) (es : List (ℕ × Object)) (t : IsTree k root es) (good : AllByRecursion (λ e. Both p e.1) es) where
  entry : (n : ℕ) → IsIn n (places es) → Entry k (Both p) (places es) n
  entry n i = entry_of k (Both p) (root ∷ []) es n t.leads t.are_in good i

  below_in : (n : ℕ) → Below k root n → IsIn n (places es)
  below_in n (Here e) = subst (λ (z : ℕ). IsIn z (places es)) e (reached (root ∷ []) es root t.leads (inl refl))
  below_in n (Then y o b there holds) =
      let w = entry y (below_in y b) in
      w.inside n (held_refs w.object n (subst (λ (z : Object). Holds z n) (same_Some _ _ (sym there ∙ w.there)) holds))

  pub tree_well : AllWell p k root
  tree_well n b = let w = entry n (below_in n b) in record { object = w.object; there = w.there; formed = w.is.0; shown = w.is.1 }

-- ---- what is well is intact

module _ (p : Program) (h : Objects) where
  abbrev Intacts : ℕ → Type 0
  Intacts d = (v : Value) → ((n : ℕ) → reach.Names v n → AllWell p h n) → IsIntact p h d v

  below_join : (n m x : ℕ) → Below h n m → Below h m x → Below h n x
  below_join n m x b (Here e) = subst (λ (z : ℕ). Below h n z) e b
  below_join n m x b (Then y o c e d) = Then y o (below_join n m y b c) e d

  fields : (d : ℕ) → Intacts d → (es : List (FieldId × Value)) → ((n : ℕ) → FieldNames es n → AllWell p h n) → AllFields (IsIntact p h d) es
  fields d one [] all = tt
  fields d one (e ∷ es) all = (one e.1 (λ n w. all n (inl w)), fields d one es (λ n w. all n (inr w)))

  values : (d : ℕ) → Intacts d → (vs : List Value) → ((n : ℕ) → SomeNames vs n → AllWell p h n) → AllValues (IsIntact p h d) vs
  values d one [] all = tt
  values d one (v ∷ vs) all = (one v (λ n w. all n (inl w)), values d one vs (λ n w. all n (inr w)))

  pub intact : (d : ℕ) → Intacts d
  intact zero v all = tt
  intact (suc d) (Ref n) all =
      let o = all n refl n (Here refl) in
      let child : (m : ℕ) → Holds o.object m → AllWell p h m = λ m e x b. all n refl x (below_join n m x (Then n o.object (Here refl) o.there e) b) in
      (o.object, o.there, o.formed, fields d (intact d) o.object.fields (λ m e. child m (inl e)), values d (intact d) o.object.elements (λ m e. child m (inr e)))
  intact (suc d) (Int a) all = tt
  intact (suc d) (Long a) all = tt
  intact (suc d) Null all = tt
  intact (suc d) (Text a) all = tt
  intact (suc d) (Box a) all = tt
  intact (suc d) Fiber all = tt

-- ---- a tree that was put in

shown_elements : (f : ℕ → ℕ) (vs : List Value) → AllByRecursion IsShown vs → AllByRecursion IsShown (walk.renamed_elements f vs)
shown_elements f [] s = tt
shown_elements f (Int n ∷ vs) s = (tt, shown_elements f vs s.1)
shown_elements f (Long n ∷ vs) s = (tt, shown_elements f vs s.1)
shown_elements f (Null ∷ vs) s = (tt, shown_elements f vs s.1)
shown_elements f (Ref n ∷ vs) s = (tt, shown_elements f vs s.1)
shown_elements f (Text n ∷ vs) s = (tt, shown_elements f vs s.1)
shown_elements f (Box n ∷ vs) s = (tt, shown_elements f vs s.1)
shown_elements f (Fiber ∷ vs) s = absurd s.0

shown_held : (f : ℕ → ℕ) (es : List (FieldId × Value)) (vs : List Value) → AllByRecursion IsShown (field_values es ++ vs) → AllByRecursion IsShown (field_values (walk.renamed_fields f es) ++ walk.renamed_elements f vs)
shown_held f [] vs s = shown_elements f vs s
shown_held f (e ∷ es) vs s = (shown_value f e.1 s.0, shown_held f es vs s.1)
  where
    shown_value : (f : ℕ → ℕ) (v : Value) → IsShown v → IsShown (walk.renamed_value f v)
    shown_value f (Int n) s = tt
    shown_value f (Long n) s = tt
    shown_value f Null s = tt
    shown_value f (Ref n) s = tt
    shown_value f (Text n) s = tt
    shown_value f (Box n) s = tt
    shown_value f Fiber s = absurd s

renamed_both : (p : Program) (f : ℕ → ℕ) (tree : List Object) (es : List (ℕ × Object)) → renamed_all f tree ≡ objects es → AllByRecursion (IsFormed p) tree → AllByRecursion (Suits p) tree → AllByRecursion (λ e. Both p e.1) es
renamed_both p f [] [] e a b = tt
renamed_both p f (o ∷ os) (x ∷ es) e a b =
    let first : renamed f o ≡ x.1 = cc in
    let rest : renamed_all f os ≡ objects es = cc in
    (subst (Both p) first (formed_renamed f p o a.0, shown_held f o.fields o.elements b.0.shown), renamed_both p f os es rest a.1 b.1)
renamed_both p f [] (x ∷ es) e a b = absurd (cc)
renamed_both p f (o ∷ os) [] e a b = absurd (cc)

all_apart : (n : ℕ) (ns : List ℕ) → AllByRecursion (λ m. n ≡ m → ⊥) ns → IsIn n ns → ⊥
all_apart n [] a i = i
all_apart n (m ∷ ns) a (inl e) = a.0 e
all_apart n (m ∷ ns) a (inr i) = all_apart n ns a.1 i

apart_all : (n : ℕ) (ns : List ℕ) → (IsIn n ns → ⊥) → AllByRecursion (λ m. n ≡ m → ⊥) ns
apart_all n [] out = tt
apart_all n (m ∷ ns) out = (λ e. out (inl e), apart_all n ns (λ i. out (inr i)))

differ_once : (ns : List ℕ) → AllDiffer ns → IsOnce ns
differ_once [] d = tt
differ_once (n ∷ ns) d = (all_apart n ns d.0, differ_once ns d.1)

free_in : (k : Objects) (ns : List ℕ) (n : ℕ) → AllByRecursion (λ n. get k n ≡ None) ns → IsIn n ns → get k n ≡ None
free_in k [] n a i = absurd i
free_in k (m ∷ ns) n a (inl e) = ap (get k) e ∙ a.0
free_in k (m ∷ ns) n a (inr i) = free_in k ns n a.1 i

-- the names of the tree's objects, the root's first
record Placed (p : Program) (root : Root) (k : Objects) (x : ℕ) (xs : List ℕ) (shape : List Token) : Type 0 where
  rest : List ℕ
  first : xs ≡ x ∷ rest
  once : IsOnce xs
  tree : kin.IsTree p root k xs shape

placed : (p : Program) (root : Root) (f : Objects) (tree : List Object) (shape : List Token) (k : Objects) (x : ℕ) → IsSound p root tree shape → (w : PutIn f tree k x) → Placed p root k x (places w.entries) shape
placed p root f tree shape k x s w =
    let both = renamed_both p (at_places (places w.entries)) tree w.entries w.same s.formed s.suits in
    let well = tree_well p k x w.entries w.now both in
    let has : shape_of p k x ≡ Some shape = w.shape p ∙ s.has in
    let t = tree_of_shape p k x well shape has in
    let same : t.0 ≡ w.entries = one_tree k (x ∷ []) t.0 w.entries t.1.leads t.1.are_in w.now.leads w.now.are_in in
    let small : length w.entries ≤ tree_limit = subst (λ (es : List (ℕ × Object)). length es ≤ tree_limit) same t.2 in
    let names : tree_names p k x ≡ places w.entries = names_are_places p k x w.entries w.now (each_suits p k x well w.entries w.now) small in
    let once : IsOnce (places w.entries) = differ_once (places w.entries) w.once in
    let whole : IsWholeTree p root k x = record {
      intact = intact p k tree_limit (Ref x) (λ n e. subst (AllWell p k) e well);
      once = subst IsOnce (sym names) once;
      allowed = λ other d. subst (λ (z : List Token). is_allowed p root z ≡ true) (same_Some _ _ (sym has ∙ d)) s.allowed;
    } in
    let front = first_of w.entries w.now.leads in
    record { rest = front.0; first = front.1; once = once; tree = subst (λ (z : List ℕ). kin.IsTree p root k z shape) names (shapes_give p root k x shape whole has) }
  where
    first_of : (es : List (ℕ × Object)) → Leads (x ∷ []) es [] → (rest : List ℕ) × (places es ≡ x ∷ rest)
    first_of [] h = absurd (let e : x ∷ [] ≡ [] = h in cc)
    first_of (e ∷ es) h = (places es, ap (λ (z : ℕ). z ∷ places es) (sym h.0))

-- ---- in both heaps

module _ (p : Program) (root : Root) (of : Names) (base : ℕ) (h f : Objects) (a : Alike of all_mine 0 f h f) (below : (n x : ℕ) → of n ≡ Some x → n < base)
    (tree : List Object) (shape : List Token) (sound : IsSound p root tree shape) (k : Objects) (x : ℕ) (put : PutIn f tree k x) where
  abbrev xs : List ℕ
  xs = places put.entries

  at : Placed p root k x xs shape
  at = placed p root f tree shape k x sound put

  -- the tree is built for the thread too
  pub came_built : (os : List Object) × (built p root base shape ≡ Some os) × Copies (names_from base xs) k os xs
  came_built = at.tree.copy base

  abbrev more : Names
  more = joined (names_from base xs) of

  abbrev new_owner : ℕ → Owner
  new_owner = marked all_mine xs OfNobody

  away : (n : ℕ) (o : Object) → get f n ≡ Some o → IsIn n xs → ⊥
  away n o e i = none-some o (sym (free_in f xs n put.free i) ∙ e)

  still : (n : ℕ) (o : Object) → get f n ≡ Some o → get k n ≡ Some o
  still n o e = put.others n (apart_all n xs (away n o e)) ∙ e

  before : Alike of new_owner 0 k h k
  before = record {
    same = λ n o e. let s = a.same n o e in (s.0, s.1, s.2, still s.0 s.1 s.3, s.4, marked_out all_mine xs OfNobody s.0 (away s.0 s.1 s.3));
    apart = a.apart;
    rest = λ n. inl refl;
  }

  nobodys : (n : ℕ) → IsIn n xs → new_owner n ≡ OfTask 0 → ⊥
  nobodys n i e = task_nobody 0 (sym e ∙ marked_in all_mine xs OfNobody n i)

  after : Alike more (marked new_owner xs (OfTask 0)) 0 k (with_objects h base came_built.0) k
  after = alike_taken of new_owner 0 base h k before below came_built.0 xs at.once came_built.2 nobodys

  pub came_alike : Alike more all_mine 0 k (with_objects h base came_built.0) k
  came_alike = record { same = λ n o e. let s = after.same n o e in (s.0, s.1, s.2, s.3, s.4, refl); apart = after.apart; rest = λ n. inl refl }

  pub came_first : more base ≡ Some x
  came_first = subst (λ (z : List ℕ). joined (names_from base z) of base ≡ Some x) (sym at.first) (joined_first base x at.rest of)

  pub came_old : (n y : ℕ) → of n ≡ Some y → more n ≡ Some y
  came_old = joined_old of new_owner 0 base h k before below came_built.0 xs at.once came_built.2 nobodys

  pub came_bound : (n y : ℕ) → more n ≡ Some y → n < base + length came_built.0
  came_bound = joined_bound of new_owner 0 base h k before below came_built.0 xs at.once came_built.2 nobodys

pushed_kin : (of all : Names) (up : (n x : ℕ) → of n ≡ Some x → all n ≡ Some x) (n x : ℕ) → all n ≡ Some x → (a b : Thread) → ThreadKin of a b → ThreadKin all (pushed_on (Ref n) a) (pushed_on (Ref x) b)
pushed_kin of all up n x e (Alive fs d b) (Alive gs c m) w = (kin_push all (Ref n) (Ref x) fs gs e (frames_up of all up fs gs w.0), w.1, w.2)
pushed_kin of all up n x e (Ended c) (Ended d) w = w
pushed_kin of all up n x e _ _ w = absurd w

-- the thread with the tree that it takes, and the fiber with it
pub received_like : (p : Program) (root : Root) (l f : Lone) (tree : List Object) (shape : List Token) (k : Objects) (x : ℕ) → Like l f → IsSound p root tree shape → PutIn f.heap tree k x →
    (os : List Object) × (built p root l.next shape ≡ Some os) × Like (received l os) (pushed (Ref x) (record f { heap = k }))
received_like p root l f tree shape k x like sound put =
    let of = like.of in
    let is = like.is in
    let b = came_built p root of l.next l.heap f.heap is.heaps is.below tree shape sound k x put in
    let up = came_old p root of l.next l.heap f.heap is.heaps is.below tree shape sound k x put in
    let all : Names = joined (names_from l.next (places put.entries)) of in (
      b.0,
      b.1,
      record {
        of = all;
        is = record {
          threads = pushed_kin of all up l.next x (came_first p root of l.next l.heap f.heap is.heaps is.below tree shape sound k x put) l.thread f.thread is.threads;
          heaps = came_alike p root of l.next l.heap f.heap is.heaps is.below tree shape sound k x put;
          kept = name_up of all up l.kept f.kept is.kept;
          below = came_bound p root of l.next l.heap f.heap is.heaps is.below tree shape sound k x put;
        };
      },
    )

-- ---- a started task

pub no_names : Names
no_names n = None

pub nothing : (k : Objects) → Alike no_names all_mine 0 k empty k
unfolding no_names
nothing k = record { same = λ n o e. absurd (none-some o (sym (get-empty _ n) ∙ e)); apart = λ n m y o q c d e w. absurd (none-some y c); rest = λ n. inl refl }

pub none_below : (n x : ℕ) → no_names n ≡ Some x → n < 0
unfolding no_names
none_below n x e = absurd (none-some x e)

pub frames_some : (of : Names) (o q : Option (List Activation)) (fs : List Activation) → q ≡ Some fs → MaybeFrames of o q → (own : List Activation) × (o ≡ Some own) × FramesKin of own fs
frames_some of (Some own) (Some gs) fs e w = (own, refl, subst (FramesKin of own) (same_Some _ _ e) w)
frames_some of None None fs e w = absurd (none-some fs e)
frames_some of None (Some gs) fs e w = absurd w
frames_some of (Some own) None fs e w = absurd w
