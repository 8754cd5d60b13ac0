-- A tree that was taken out of a fiber's heap has objects as their classes declare them.
use Rattle.std.proofs.Common.{◌≡◌, ℕ, zero, suc, ◌+◌, ◌<◌, Bool, cond, List, [], ◌∷◌, ◌++◌, length, refl, sym, ap, subst, ◌∙◌, arith}
use Rattle.std.specs.Prelude.{◌==◌, slice_index_or, Some}
use Rattle.std.specs.List.{AllByRecursion}
use Rattle.std.proofs.lemmas.Bool.{eq-eqb, ne_eqb}
use Rattle.kilim_program.specs.Program.{Program}
use Rattle.kilim_program.specs.declared.names.FieldId.{FieldId}
use Rattle.kilim_program.specs.declared.value.Value.{Value}
use Rattle.kilim_program.specs.declared.value.Value.TheVariants.{Int, Long, Null, Ref, Text, Box, Fiber}
use Rattle.kilim_run_state.specs.declared.value.Object.{Object}
use Rattle.kilim_run_state.specs.declared.value.Token.{Token}
use Rattle.kilim_run_state.specs.Machine.{Objects}
use Rattle.kilim_run_state.specs.Shapes.{shape_of}
use Rattle.kilim_run_state.specs.Trees.{Root}
use Rattle.kilim_run_model.specs.Kept.{IsFormed}
use Rattle.kilim_run_state.specs.Places.{AllDiffer}
use Rattle.kilim_run_trees.specs.Walk.{value_refs, field_refs, element_refs, refs, renamed_value, renamed_fields, renamed_elements, renamed, places, objects}
use Rattle.kilim_run_trees.specs.Moved.{TakenOut, at_places, renamed_all, tree_heap}
use Rattle.kilim_run_trees.specs.Shaping.{field_values, held, IsShown, Suits}
use Rattle.kilim_run_trees.proofs.Shaped.{closed, all_parts}
use Rattle.kilim_fiber_spec.specs.fiber_kin.Acts.{IsGiven, IsSound}
use Rattle.kilim_fiber_spec.proofs.fiber_kin.Formed.{formed_renamed, formed_suits}

-- ---- the place of a number in a list, and back

place_in : List ℕ → ℕ → ℕ
place_in [] x = 0
place_in (y ∷ ys) x = cond (x == y) 0 (suc (place_in ys x))

not_at : (y : ℕ) (ys : List ℕ) (i : ℕ) → AllByRecursion (λ z. y ≡ z → ⊥) ys → i < length ys → slice_index_or ys i 0 ≡ y → ⊥
not_at y [] i a lt e = absurd (omega arith)
not_at y (z ∷ ys) zero a lt e = a.0 (sym e)
not_at y (z ∷ ys) (suc i) a lt e = not_at y ys i a.1 (omega (arith, lt)) e

place_back : (xs : List ℕ) (i : ℕ) → AllDiffer xs → i < length xs → place_in xs (at_places xs i) ≡ i
unfolding place_in
place_back [] i d lt = absurd (omega arith)
place_back (x ∷ xs) zero d lt = ap (λ (b : Bool). cond b 0 (suc (place_in xs x))) (eq-eqb x x refl)
place_back (x ∷ xs) (suc i) d lt =
    let less : i < length xs = omega (arith, lt) in
    ap (λ (b : Bool). cond b 0 (suc (place_in xs (at_places xs i)))) (ne_eqb (at_places xs i) x (λ e. not_at x xs i d.0 less e)) ∙ ap suc (place_back xs i d.1 less)

-- ---- other names, and back

module _ (f g : ℕ → ℕ) (limit : ℕ) (back : (n : ℕ) → n < limit → g (f n) ≡ n) where
  abbrev In : ℕ → Type 0
  In n = n < limit

  value_twice : (v : Value) → AllByRecursion In (value_refs v) → renamed_value g (renamed_value f v) ≡ v
  value_twice (Int n) a = refl
  value_twice (Long n) a = refl
  value_twice Null a = refl
  value_twice (Ref n) a = ap Ref (back n a.0)
  value_twice (Text n) a = refl
  value_twice (Box n) a = refl
  value_twice Fiber a = refl

  elements_twice : (vs : List Value) → AllByRecursion In (element_refs vs) → renamed_elements g (renamed_elements f vs) ≡ vs
  elements_twice [] a = refl
  elements_twice (v ∷ vs) a = let r = all_parts In (value_refs v) (element_refs vs) a in λ i. value_twice v r.0 i ∷ elements_twice vs r.1 i

  fields_twice : (es : List (FieldId × Value)) → AllByRecursion In (field_refs es) → renamed_fields g (renamed_fields f es) ≡ es
  fields_twice [] a = refl
  fields_twice (e ∷ es) a = let r = all_parts In (value_refs e.1) (field_refs es) a in λ i. (e.0, value_twice e.1 r.0 i) ∷ fields_twice es r.1 i

  object_twice : (o : Object) → AllByRecursion In (refs o) → renamed g (renamed f o) ≡ o
  object_twice o a = let r = all_parts In (field_refs o.fields) (element_refs o.elements) a in λ i. record { class = o.class; fields = fields_twice o.fields r.0 i; elements = elements_twice o.elements r.1 i }

  formed_back : (p : Program) (tree : List Object) (es : List (ℕ × Object)) → renamed_all f tree ≡ objects es → AllByRecursion (λ o. AllByRecursion In (refs o)) tree → AllByRecursion (λ e. IsFormed p e.1) es → AllByRecursion (IsFormed p) tree
  formed_back p [] es e a w = tt
  formed_back p (o ∷ os) [] e a w = absurd (cc)
  formed_back p (o ∷ os) (x ∷ es) e a w =
      let first : renamed f o ≡ x.1 = cc in
      let rest : renamed_all f os ≡ objects es = cc in
      (subst (IsFormed p) (object_twice o a.0) (formed_renamed g p (renamed f o) (subst (IsFormed p) (sym first) w.0)), formed_back p os es rest a.1 w.1)

long : (f : ℕ → ℕ) (tree : List Object) (es : List (ℕ × Object)) → renamed_all f tree ≡ objects es → length tree ≡ length (places es)
long f [] [] e = refl
long f (o ∷ os) (x ∷ es) e = ap suc (long f os es (cc))
long f [] (x ∷ es) e = absurd (cc)
long f (o ∷ os) [] e = absurd (cc)

-- ---- no fiber

shown_value : (f : ℕ → ℕ) (v : Value) → IsShown (renamed_value f v) → IsShown v
shown_value f (Int n) s = tt
shown_value f (Long n) s = tt
shown_value f Null s = tt
shown_value f (Ref n) s = tt
shown_value f (Text n) s = tt
shown_value f (Box n) s = tt
shown_value f Fiber s = s

shown_elements : (f : ℕ → ℕ) (vs : List Value) → AllByRecursion IsShown (renamed_elements f vs) → AllByRecursion IsShown vs
shown_elements f [] s = tt
shown_elements f (v ∷ vs) s = (shown_value f v s.0, shown_elements f vs s.1)

shown_held : (f : ℕ → ℕ) (es : List (FieldId × Value)) (vs : List Value) → AllByRecursion IsShown (field_values (renamed_fields f es) ++ renamed_elements f vs) → AllByRecursion IsShown (field_values es ++ vs)
shown_held f [] vs s = shown_elements f vs s
shown_held f (e ∷ es) vs s = (shown_value f e.1 s.0, shown_held f es vs s.1)

suits_back : (p : Program) (f : ℕ → ℕ) (tree : List Object) (es : List (ℕ × Object)) → renamed_all f tree ≡ objects es → AllByRecursion (IsFormed p) tree → AllByRecursion (λ e. Suits p e.1) es → AllByRecursion (Suits p) tree
suits_back p f [] es e a w = tt
suits_back p f (o ∷ os) [] e a w = absurd (cc)
suits_back p f (o ∷ os) (x ∷ es) e a w =
    let first : renamed f o ≡ x.1 = cc in
    let rest : renamed_all f os ≡ objects es = cc in
    (formed_suits p o a.0 (shown_held f o.fields o.elements (subst (λ (z : Object). AllByRecursion IsShown (held z)) (sym first) w.0.shown)), suits_back p f os es rest a.1 w.1)

-- ---- a tree that is given away

zero_plus : (j : ℕ) → j ≡ 0 + j
zero_plus j = omega arith

module _ (p : Program) (root : Root) (heap : Objects) (m : ℕ) (given : IsGiven p root heap m) (after : Objects) (tree : List Object) (w : TakenOut heap m after tree) (once : AllDiffer (places w.entries)) where
  abbrev f : ℕ → ℕ
  f = at_places (places w.entries)

  pub taken_formed : AllByRecursion (IsFormed p) tree
  taken_formed =
      let inside = closed tree (0 ∷ []) 0 (length tree) (zero_plus (length tree)) w.preorder in
      let many : length tree ≡ length (places w.entries) = long f tree w.entries w.same in
      formed_back f (place_in (places w.entries)) (length tree) (λ n lt. place_back (places w.entries) n once (subst (λ (z : ℕ). n < z) many lt)) p tree w.entries w.same inside.1 (given.formed w.entries w.was)

  pub taken_suits : AllByRecursion (Suits p) tree
  taken_suits = suits_back p f tree w.entries w.same taken_formed (given.suits w.entries w.was)

  -- with its shape it is sound
  pub taken_sound : (shape : List Token) → shape_of p (tree_heap tree) 0 ≡ Some shape → (shape_of p heap m ≡ Some shape) × IsSound p root tree shape
  taken_sound shape has =
      let there : shape_of p heap m ≡ Some shape = sym (w.shape p) ∙ has in
      (there, record { has = has; allowed = given.allowed shape there; formed = taken_formed; suits = taken_suits })
