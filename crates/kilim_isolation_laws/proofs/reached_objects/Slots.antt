-- What slots name is there, where their nodes aren't gone.
use Rattle.std.proofs.Common.{◌≡◌, inl, inr, ℕ, zero, suc, ◌+◌, ◌<◌, Bool, true, false, ◌||◌, true≢false, List, [], ◌∷◌, Option, Some, None, refl, sym, ap, subst, ◌∙◌, arith}
use Rattle.std.specs.Prelude.{slice_get}
use Rattle.std.specs.List.{list_any}
use Rattle.std.proofs.lemmas.Bool.{and_parts, eqb-true}
use Rattle.kilim_program.specs.declared.class.Method.{Method}
use Rattle.kilim_program.specs.declared.names.ClassId.{ClassId}
use Rattle.kilim_program.specs.declared.value.Value.{Value}
use Rattle.kilim_program.specs.declared.value.Value.TheVariants.{Ref}
use Rattle.kilim_program.specs.declared.verified.VType.{VType}
use Rattle.kilim_program.specs.declared.verified.VType.TheVariants.{Top, Int, Long, Null, UninitThis, Uninit, Object}
use Rattle.kilim_program.specs.Program.{Program}
use Rattle.kilim_program.specs.BuiltIn.{class_type}
use Rattle.kilim_run_state.specs.Machine.{Objects}
use Rattle.kilim_run_model.specs.Reach.{LiveNames, SomeNames}
use Rattle.kilim_type_spec.specs.Step.{assignable, made_at}
use Rattle.kilim_type_spec.specs.Typed.{all_assignable}
use Rattle.kilim_type_sound.specs.Fits.{Classes, has_type, have_types, is_made}
use Rattle.kilim_isolation_laws.specs.forest.Relation.{Named}
use Rattle.kilim_isolation_graph.specs.declared.graph.Graph.{Graph}
use Rattle.kilim_isolation_graph.specs.Graphs.{node_of, slot}
use Rattle.kilim_isolation_graph.specs.Nodes.{is_gone}
use Rattle.kilim_isolation_rules.specs.Marks.{names_gone}
use Rattle.kilim_isolation_laws.specs.graph_rows.Holds.{Anything, AreSlots, Own, SlotFits, Sort, Tree, Wide, Word, made_sort, named_sort, sort, unnamed}
use Rattle.kilim_isolation_laws.proofs.reached_objects.Held.{IsThere, names_ref, object_any, ref_there}

unnamed_any : (s : Sort) → (s ≡ Anything → ⊥) → unnamed s ≡ Anything → ⊥
unnamed_any (Tree d x) any e = cc
unnamed_any Own any e = any e
unnamed_any Word any e = any e
unnamed_any Wide any e = any e
unnamed_any Anything any e = any e

named_any : (s : Sort) → (s ≡ Anything → ⊥) → named_sort s ≡ Anything → ⊥
named_any Own any e = cc
named_any (Tree d x) any e = any e
named_any Word any e = any e
named_any Wide any e = any e
named_any Anything any e = any e

module _ (p : Program) (h : Objects) (u : Named) (count : ℕ) where
  -- a slot's node, if it has one, isn't gone
  abbrev pub IsFree : Option ℕ → Type 0
  IsFree x = (a : ℕ) → x ≡ Some a → a < count → is_gone (u.node a).standing ≡ false

  pub slot_there : (s : Sort) (x : Option ℕ) (n : ℕ) → (s ≡ Anything → ⊥) → IsFree x → SlotFits p h u count s x (Ref n) → IsThere h n
  slot_there s None n any free f = ref_there p h (unnamed s) n (unnamed_any s any) f
  slot_there s (Some a) n any free f = ref_there p h (named_sort s) n (named_any s any) (f.2 (free a refl f.1))

-- ---- types of references

module _ (p : Program) (m : Method) (of : Classes) where
  made_any : (n : ℕ) (c : Option ClassId) → is_made p (of n) c ≡ true → made_sort p c ≡ Anything → ⊥
  made_any n None made e = true≢false (sym made)
  made_any n (Some c) made e = object_any p (class_type c.0) e

  word_any : Word ≡ Anything → ⊥
  word_any e = cc

  wide_any : Wide ≡ Anything → ⊥
  wide_any e = cc

  -- what flows to the type of a reference is of no unknown sort
  pub sort_known : (t u : VType) (n : ℕ) → assignable p t u ≡ true → has_type p m of u (Ref n) ≡ true → sort p m t ≡ Anything → ⊥
  unfolding sort
  sort_known Int u n a typed e = word_any e
  sort_known Long u n a typed e = wide_any e
  sort_known Null u n a typed e = word_any e
  sort_known UninitThis u n a typed e = object_any p (class_type m.owner.0) e
  sort_known (Object ty) u n a typed e = object_any p ty e
  sort_known (Uninit at) (Uninit place) n a typed e = made_any n (made_at m.code at) (ap (λ (k : ℕ). is_made p (of n) (made_at m.code k)) (eqb-true at place a) ∙ typed) e
  sort_known (Uninit at) Top n a typed e = true≢false (sym typed)
  sort_known (Uninit at) Int n a typed e = true≢false (sym a)
  sort_known (Uninit at) Long n a typed e = true≢false (sym a)
  sort_known (Uninit at) Null n a typed e = true≢false (sym a)
  sort_known (Uninit at) UninitThis n a typed e = true≢false (sym a)
  sort_known (Uninit at) (Object ty) n a typed e = true≢false (sym a)
  sort_known Top Top n a typed e = true≢false (sym typed)
  sort_known Top Int n a typed e = true≢false (sym a)
  sort_known Top Long n a typed e = true≢false (sym a)
  sort_known Top Null n a typed e = true≢false (sym a)
  sort_known Top UninitThis n a typed e = true≢false (sym a)
  sort_known Top (Uninit at) n a typed e = true≢false (sym a)
  sort_known Top (Object ty) n a typed e = true≢false (sym a)

  -- ---- the stack

  pub stack_there : (h : Objects) (u : Named) (count : ℕ) (ts us : List VType) (xs : List (Option ℕ)) (vs : List Value) → AreSlots p m h u count ts xs vs → all_assignable p ts us ≡ true → have_types p m of us vs ≡ true →
      ((k : ℕ) → IsFree p h u count (slot xs k)) → (n : ℕ) → SomeNames vs n → IsThere h n
  stack_there h u count [] us [] [] slots a typed free n names = absurd names
  stack_there h u count [] us [] (v ∷ vs) slots a typed free n names = absurd slots
  stack_there h u count [] us (x ∷ xs) vs slots a typed free n names = absurd slots
  stack_there h u count (t ∷ ts) us [] vs slots a typed free n names = absurd slots
  stack_there h u count (t ∷ ts) us (x ∷ xs) [] slots a typed free n names = absurd slots
  stack_there h u count (t ∷ ts) [] (x ∷ xs) (v ∷ vs) slots a typed free n names = absurd (true≢false (sym a))
  stack_there h u count (t ∷ ts) (w ∷ us) (x ∷ xs) (v ∷ vs) slots a typed free n (inl names) =
      let is = names_ref v n names in
      let here = (and_parts (has_type p m of w v) (have_types p m of us vs) typed).0 in
      slot_there p h u count (sort p m t) x n (sort_known t w n (and_parts (assignable p t w) (all_assignable p ts us) a).0 (subst (λ (z : Value). has_type p m of w z ≡ true) is here)) (free 0) (subst (SlotFits p h u count (sort p m t) x) is slots.0)
  stack_there h u count (t ∷ ts) (w ∷ us) (x ∷ xs) (v ∷ vs) slots a typed free n (inr names) =
      stack_there h u count ts us xs vs slots.1 (and_parts (assignable p t w) (all_assignable p ts us) a).1 (and_parts (has_type p m of w v) (have_types p m of us vs) typed).1 (λ k. free (suc k)) n names

-- ---- locals

pub live_at : (live : ℕ → Bool) (i : ℕ) (ls : List Value) (n : ℕ) → LiveNames live i ls n → (j : ℕ) × (live (i + j) ≡ true) × (slice_get ls j ≡ Some (Ref n))
live_at live i [] n names = absurd names
live_at live i (v ∷ vs) n (inl w) = (0, subst (λ (k : ℕ). live k ≡ true) (let e : i ≡ i + 0 = omega arith in e) w.0, ap (λ (z : Value). Some z) (names_ref v n w.1))
live_at live i (v ∷ vs) n (inr later) =
    let r = live_at live (suc i) vs n later in
    (suc r.0, subst (λ (k : ℕ). live k ≡ true) (let e : suc i + r.0 ≡ i + suc r.0 = omega arith in e) r.1, r.2)

-- an item of the stack whose node isn't gone
pub free_items : (g : Graph) (xs : List (Option ℕ)) → list_any (names_gone g) xs ≡ false → (k a : ℕ) → slot xs k ≡ Some a → is_gone (node_of g a).standing ≡ false
free_items g [] none k a e = absurd (cc)
free_items g (x ∷ xs) none zero a e = ap (names_gone g) (sym e) ∙ or_left (names_gone g x) (list_any (names_gone g) xs) none
  where
    or_left : (a b : Bool) → (a || b) ≡ false → a ≡ false
    or_left true b e = absurd (true≢false e)
    or_left false b e = refl
free_items g (x ∷ xs) none (suc k) a e = free_items g xs (or_right (names_gone g x) (list_any (names_gone g) xs) none) k a e
  where
    or_right : (a b : Bool) → (a || b) ≡ false → b ≡ false
    or_right true b e = absurd (true≢false e)
    or_right false b e = e
