-- What verification and the rules give of an accepted program.
use Rattle.std.proofs.Common.{◌≡◌, ℕ, zero, suc, ◌-◌, Bool, true, false, cond, eqb, List, [], ◌∷◌, Option, Some, None, Ok, Result, refl, ap, subst, ◌∙◌}
use Rattle.std.specs.Prelude.{◌&&◌, slice_get}
use Rattle.std.specs.FinMap.{get}
use Rattle.std.proofs.lemmas.Bool.{and_parts}
use Rattle.kilim_program.specs.declared.class.Method.{Method}
use Rattle.kilim_program.specs.declared.instr.Instr.{Instr}
use Rattle.kilim_program.specs.declared.instr.Instr.TheVariants.{Anewarray, Newarray}
use Rattle.kilim_program.specs.declared.names.MethodId.{MethodId}
use Rattle.kilim_program.specs.declared.ty.Ty.{Ty}
use Rattle.kilim_program.specs.declared.value.Value.{Value}
use Rattle.kilim_program.specs.declared.value.Value.TheVariants as value
use Rattle.kilim_program.specs.declared.verified.VType.{VType}
use Rattle.kilim_program.specs.declared.verified.VType.TheVariants.{Int, Long, Null, Object, Top, Uninit, UninitThis}
use Rattle.kilim_program.specs.Program.{Program}
use Rattle.kilim_program.specs.Keeps.{Keeps, code_is_whole}
use Rattle.kilim_program.specs.Lengths.{code_ends, code_stands, fetched, first_place, has_length, is_primitive, is_reference, targets_stand}
use Rattle.kilim_program.specs.Names.{method_at}
use Rattle.kilim_run_state.specs.declared.value.Object.{Object as HeapObject}
use Rattle.kilim_run_machine.specs.Effect.{is_wide}
use Rattle.kilim_program.specs.Members.{named_type}
use Rattle.kilim_run_state.specs.Machine.{Objects}
use Rattle.kilim_type_spec.specs.Step.{class_vtype, is_long, peek}
use Rattle.kilim_type_spec.specs.Typed.{IsWellTyped, covers, has_code}
use Rattle.kilim_type_laws.specs.Laws.{typing_at}
use Rattle.kilim_type_laws.proofs.ByPlace.{typed_by_place}
use Rattle.kilim_isolation_paths.specs.Paths.{Has, Reaches}
use Rattle.kilim_isolation_graph.specs.declared.graph.Graph.{Graph}
use Rattle.kilim_isolation.specs.Faults.{IsAccepted}
use Rattle.kilim_isolation.specs.Laws.{GoesOn}
use Rattle.kilim_isolation.specs.Walks.{entry_graph, exits_by, machine_of}
use Rattle.kilim_type_sound.proofs.Behind.{stands_behind_it}
use Rattle.kilim_run_machine.specs.Raising.{is_throwable}
use Rattle.kilim_isolation_rules.specs.Marks.{is_tree}
use Rattle.kilim_isolation_rules.specs.Rules.{raised_deed}
use Rattle.kilim_program.specs.Kinds.{is_tree_kind}
use Rattle.kilim_program.specs.declared.class.Handler.{Handler}
use Rattle.kilim_program.specs.declared.names.ClassId.{ClassId}
use Rattle.kilim_isolation_laws.proofs.reached_objects.walk.Methods.{every_method_goes}
use Rattle.kilim_isolation_laws.proofs.reached_objects.walk.Walks.{handled_by_types, walks_by_types}
use Rattle.kilim_type_sound.specs.Fits.{Classes, HeapFits, has_type, have_types, is_made, is_of}
use Rattle.kilim_type_sound.specs.Fits as fits
use Rattle.kilim_type_sound.proofs.Bodies.{starts}
use Rattle.kilim_type_laws.proofs.members.FromKeeps.{all_at}
use Rattle.kilim_isolation_laws.specs.graph_rows.Facts.{IsOfType, IsVerified, IsWhole, class_in, class_of}
use Rattle.kilim_isolation_laws.proofs.sorts.Keeping.{program_keeps}
use Rattle.kilim_isolation_laws.specs.reached_objects.graphs.Threads.{Handled, IsSound, MethodKeeps, Passes}
use Rattle.kilim_isolation_laws.proofs.reached_objects.graphs.Typing.{types_flow}
use Rattle.kilim_isolation_laws.specs.reached_objects.Laws.{typed}
use Rattle.kilim_isolation_laws.specs.Laws.{listed_at}

-- ---- the typed program

first_same : {E : Type 0} (r : Result Graph E) (a b : Graph) → r ≡ Ok a → r ≡ Ok b → a ≡ b
first_same r a b e f = cc

module _ (p : Program) (keeps : Keeps p) (well : IsWellTyped p) (accepted : IsAccepted (typed p)) where
  method_keeps : (id : MethodId) (m : Method) → method_at p id ≡ Some m → has_code m ≡ true → MethodKeeps p m (typing_at p id) (listed_at p id)
  method_keeps id m is coded = record {
    flow = types_flow p m (typing_at p id) (typed_by_place p keeps well id m is coded) (begins (starts p keeps id m is coded));
    begins = (goes.first, goes.begins);
    passes = λ first e. subst (λ (f : Graph). (at : ℕ) (g : Graph) → Reaches (machine_of p m (listed_at p id) f) at g → (i : Instr) (next : ℕ) → fetched m.code m.code_length at ≡ Some (i, next) → (to : Option ℕ) → Has (exits_by i next) to →
        Passes p m (typing_at p id) (listed_at p id) f at g i to) (first_same (entry_graph p m) goes.first first goes.begins e) (λ at g r i next f to h. let w = walks_by_types (typed p) (record { typed = well; frames = refl }) keeps id m is coded goes at next i g to r f h in record { passed = w.moved; arrives = w.comes });
    handled = λ first e. subst (λ (f : Graph). (at : ℕ) (g : Graph) → Reaches (machine_of p m (listed_at p id) f) at g → (i : Instr) (next : ℕ) → fetched m.code m.code_length at ≡ Some (i, next) → (hd : Handler) → Has m.handlers hd → covers hd at ≡ true →
        Handled p m (typing_at p id) (listed_at p id) f (typing_at p id at) (raised_deed p g (typing_at p id at) i).graph hd) (first_same (entry_graph p m) goes.first first goes.begins e)
        (λ at g r i next f hd has covering. handled_by_types (typed p) (record { typed = well; frames = refl }) keeps private id m is coded goes at next i g r f hd has covering);
    behind = stands_behind_it p keeps id m is;
  }
    where
      private : (c : ClassId) → is_throwable p c ≡ true → is_tree p (class_vtype c) ≡ false
      private c throwable = ap is_tree_kind ((program_keeps p keeps).thrown c throwable)

      goes : GoesOn p m (listed_at p id)
      goes = every_method_goes (typed p) keeps accepted id m is coded

      begins : (e : ℕ × Instr) × (es : List (ℕ × Instr)) × (m.code ≡ e ∷ es) × (e.0 ≡ 0) → first_place m.code 1 ≡ 0
      begins w = ap (λ (c : List (ℕ × Instr)). first_place c 1) w.2 ∙ w.3

  pub is_sound : IsSound p (typing_at p) (listed_at p)
  is_sound = record { keeps = program_keeps p keeps; methods = method_keeps }

-- ---- the elements of new arrays

whole_by : (at len : ℕ) (i : Instr) → has_length at i len ≡ true → IsWhole i
unfolding has_length
whole_by at len (Newarray b) e = (and_parts (is_primitive b) (eqb len 2) e).0
whole_by at len (Anewarray ty) e = (and_parts (is_reference ty) (eqb len 3) e).0
whole_by at len i e = tt

whole_in : (at : ℕ) (code : List (ℕ × Instr)) (end place : ℕ) (found : Instr × ℕ) → code_stands at code end ≡ true → fetched code end place ≡ Some found → IsWhole found.0
unfolding code_stands
whole_in at [] end place found stands e = absurd (cc)
whole_in at (x ∷ es) end place found stands e =
    let here = and_parts (has_length at x.1 (first_place es end - at)) (code_stands (first_place es end) es end) (and_parts (eqb x.0 at) _ stands).1 in
    by (eqb x.0 place) (whole_by at (first_place es end - at) x.1 here.0) e (λ later. whole_in (first_place es end) es end place found here.1 later)
  where
    by : (z : Bool) → IsWhole x.1 → cond z (Some (x.1, first_place es end)) (fetched es end place) ≡ Some found → (fetched es end place ≡ Some found → IsWhole found.0) → IsWhole found.0
    by true one e again = subst (λ (y : Instr × ℕ). IsWhole y.0) (let s : (x.1, first_place es end) ≡ found = cc in s) one
    by false one e again = again e

pub whole_at : (p : Program) → Keeps p → (id : MethodId) (m : Method) → method_at p id ≡ Some m → (place : ℕ) (found : Instr × ℕ) → fetched m.code m.code_length place ≡ Some found → IsWhole found.0
unfolding code_is_whole
whole_at p keeps id m is place found e = whole_in 0 m.code m.code_length place found (and_parts (code_stands 0 m.code m.code_length) (targets_stand m.code && code_ends m.code) (all_at code_is_whole p.methods id.0 m keeps.code is)).0 e

-- ---- values by their types

module _ (p : Program) (m : Method) (of : Classes) where
  pub typed_at : (ts : List VType) (vs : List Value) (k : ℕ) (v : Value) → have_types p m of ts vs ≡ true → slice_get vs k ≡ Some v → has_type p m of (peek ts k) v ≡ true
  typed_at [] [] k v e at = absurd (cc)
  typed_at [] (w ∷ vs) k v e at = absurd (cc)
  typed_at (t ∷ ts) [] k v e at = absurd (cc)
  typed_at (t ∷ ts) (w ∷ vs) zero v e at = subst (λ (x : Value). has_type p m of t x ≡ true) (let s : w ≡ v = cc in s) (and_parts (has_type p m of t w) (have_types p m of ts vs) e).0
  typed_at (t ∷ ts) (w ∷ vs) (suc k) v e at = typed_at ts vs k v (and_parts (has_type p m of t w) (have_types p m of ts vs) e).1 at

  word_is : (t : VType) (v : Value) → has_type p m of t v ≡ true → is_long t ≡ is_wide v
  word_is Top v e = absurd (none v e)
    where
      none : (v : Value) → has_type p m of Top v ≡ true → ⊥
      none (value.Int x) e = cc
      none (value.Long x) e = cc
      none value.Null e = cc
      none (value.Ref n) e = cc
      none (value.Text units) e = cc
      none (value.Box box) e = cc
      none value.Fiber e = cc
  word_is Int (value.Int x) e = refl
  word_is Int (value.Long x) e = absurd (cc)
  word_is Int value.Null e = absurd (cc)
  word_is Int (value.Ref n) e = absurd (cc)
  word_is Int (value.Text units) e = absurd (cc)
  word_is Int (value.Box box) e = absurd (cc)
  word_is Int value.Fiber e = absurd (cc)
  word_is Long (value.Long x) e = refl
  word_is Long (value.Int x) e = absurd (cc)
  word_is Long value.Null e = absurd (cc)
  word_is Long (value.Ref n) e = absurd (cc)
  word_is Long (value.Text units) e = absurd (cc)
  word_is Long (value.Box box) e = absurd (cc)
  word_is Long value.Fiber e = absurd (cc)
  word_is Null (value.Long x) e = absurd (cc)
  word_is Null (value.Int x) e = refl
  word_is Null value.Null e = refl
  word_is Null (value.Ref n) e = refl
  word_is Null (value.Text units) e = refl
  word_is Null (value.Box box) e = refl
  word_is Null value.Fiber e = refl
  word_is UninitThis (value.Long x) e = absurd (cc)
  word_is UninitThis (value.Int x) e = refl
  word_is UninitThis value.Null e = refl
  word_is UninitThis (value.Ref n) e = refl
  word_is UninitThis (value.Text units) e = refl
  word_is UninitThis (value.Box box) e = refl
  word_is UninitThis value.Fiber e = refl
  word_is (Uninit at) (value.Long x) e = absurd (cc)
  word_is (Uninit at) (value.Int x) e = refl
  word_is (Uninit at) value.Null e = refl
  word_is (Uninit at) (value.Ref n) e = refl
  word_is (Uninit at) (value.Text units) e = refl
  word_is (Uninit at) (value.Box box) e = refl
  word_is (Uninit at) value.Fiber e = refl
  word_is (Object ty) (value.Long x) e = absurd (cc)
  word_is (Object ty) (value.Int x) e = refl
  word_is (Object ty) value.Null e = refl
  word_is (Object ty) (value.Ref n) e = refl
  word_is (Object ty) (value.Text units) e = refl
  word_is (Object ty) (value.Box box) e = refl
  word_is (Object ty) value.Fiber e = refl

  refers_of : (t : VType) (o : Option Ty) (c : Ty) → o ≡ Some c → fits.refers p m t o ≡ true → IsOfType p t c
  refers_of Top o c is e = tt
  refers_of Int o c is e = tt
  refers_of Long o c is e = tt
  refers_of Null o c is e = absurd (cc)
  refers_of UninitThis o c is e = tt
  refers_of (Uninit at) o c is e = tt
  refers_of (Object ty) o c is e = subst (λ (o : Option Ty). is_of p o ty ≡ true) is e

  class_is : (h : Objects) → HeapFits p of h → (t : VType) (v : Value) (c : Ty) → has_type p m of t v ≡ true → class_of p h v ≡ Some c → IsOfType p t c
  class_is h heap t (value.Int x) c e is = absurd (cc)
  class_is h heap t (value.Long x) c e is = absurd (cc)
  class_is h heap t value.Null c e is = absurd (cc)
  class_is h heap t (value.Text units) c e is = refers_of t (named_type p _) c is e
  class_is h heap t (value.Box box) c e is = refers_of t (named_type p _) c is e
  class_is h heap t value.Fiber c e is = refers_of t (named_type p _) c is e
  class_is h heap t (value.Ref n) c e is = by (get h n) refl is
    where
      by : (o : Option HeapObject) → get h n ≡ o → class_in o ≡ Some c → IsOfType p t c
      by None at is = absurd (cc)
      by (Some object) at is = refers_of t (of n) c (heap.classes n object at ∙ is) e

  pub is_verified : (h : Objects) → HeapFits p of h → (ts : List VType) (vs : List Value) (i : Instr) → have_types p m of ts vs ≡ true → IsWhole i → IsVerified p h ts vs i
  is_verified h heap ts vs i e whole = record {
    words = λ k v at. word_is (peek ts k) v (typed_at ts vs k v e at);
    classes = λ k v c at is. class_is h heap (peek ts k) v c (typed_at ts vs k v e at) is;
    whole = whole;
  }
