-- What is at or below an object that a thread gives away, in its heap and in the fiber's.
use Rattle.std.proofs.Common.{◌≡◌, ℕ, List, [], ◌∷◌, ◌++◌, Option, Some, refl, sym, ap, subst, ◌∙◌, ◌⊎◌, inl, inr, rules}
use Rattle.std.specs.Prelude.{IsSome}
use Rattle.std.specs.List.{AllByRecursion}
use Rattle.std.specs.FinMap.{get}
use Rattle.std.proofs.lemmas.Option.{same_Some}
use Rattle.kilim_program.specs.Program.{Program}
use Rattle.kilim_program.specs.declared.names.FieldId.{FieldId}
use Rattle.kilim_program.specs.declared.value.Value.{Value}
use Rattle.kilim_program.specs.declared.value.Value.TheVariants.{Int, Long, Null, Ref, Text, Box, Fiber}
use Rattle.kilim_run_state.specs.declared.value.Object.{Object}
use Rattle.kilim_run_state.specs.Machine.{Objects}
use Rattle.kilim_run_model.specs.Reach.{SomeNames, FieldNames, Holds, Below, Here, Then}
use Rattle.kilim_run_model.specs.Reach as reach
use Rattle.kilim_run_model.specs.Kept.{IsFormed, IsIn}
use Rattle.kilim_run_model.specs.kin.Kin.{Names, IsKin, AreKin, FieldsKin, ObjectsKin, Alike}
use Rattle.kilim_run_trees.specs.Walk.{value_refs, element_refs, field_refs, refs, Leads, AreIn, AllThere}
use Rattle.kilim_run_trees.specs.Shaping.{held, IsShown}
use Rattle.kilim_fiber_spec.specs.fiber_kin.Mine.{all_mine}
use Rattle.kilim_fiber_spec.proofs.fiber_kin.Formed.{formed_kin, shown_object}

-- ---- what an object refers to

named_ref : (v : Value) (n : ℕ) → IsIn n (value_refs v) → reach.Names v n
named_ref (Ref m) n (inl e) = sym e
named_ref (Ref m) n (inr e) = absurd e
named_ref (Int a) n e = absurd e
named_ref (Long a) n e = absurd e
named_ref Null n e = absurd e
named_ref (Text a) n e = absurd e
named_ref (Box a) n e = absurd e
named_ref Fiber n e = absurd e

pub in_front : (xs ys : List ℕ) (n : ℕ) → IsIn n (xs ++ ys) → IsIn n xs ⊎ IsIn n ys
in_front [] ys n e = inr e
in_front (x ∷ xs) ys n (inl e) = inl (inl e)
in_front (x ∷ xs) ys n (inr e) = elim (in_front xs ys n e) [ inl d ↦ inl (inr d) | inr d ↦ inr d ]

names_elements : (vs : List Value) (n : ℕ) → IsIn n (element_refs vs) → SomeNames vs n
names_elements [] n e = absurd e
names_elements (v ∷ vs) n e = elim (in_front (value_refs v) (element_refs vs) n e) [ inl d ↦ inl (named_ref v n d) | inr d ↦ inr (names_elements vs n d) ]

names_fields : (es : List (FieldId × Value)) (n : ℕ) → IsIn n (field_refs es) → FieldNames es n
names_fields [] n e = absurd e
names_fields (a ∷ es) n e = elim (in_front (value_refs a.1) (field_refs es) n e) [ inl d ↦ inl (named_ref a.1 n d) | inr d ↦ inr (names_fields es n d) ]

pub refs_held : (o : Object) (n : ℕ) → IsIn n (refs o) → Holds o n
refs_held o n e = elim (in_front (field_refs o.fields) (element_refs o.elements) n e) [ inl d ↦ inl (names_fields o.fields n d) | inr d ↦ inr (names_elements o.elements n d) ]

-- ---- where a walk comes is below its root

module _ (k : Objects) (root : ℕ) where
  abbrev pub AllBelow : List ℕ → Type 0
  AllBelow ns = (n : ℕ) → IsIn n ns → Below k root n

  further : (n : ℕ) (ns : List ℕ) (e : ℕ × Object) → n ≡ e.0 → get k e.0 ≡ Some e.1 → AllBelow (n ∷ ns) → AllBelow (refs e.1 ++ ns)
  further n ns e same there all m is = elim (in_front (refs e.1) ns m is) [
    | inl d ↦ Then e.0 e.1 (all e.0 (inl (sym same))) there (refs_held e.1 m d)
    | inr d ↦ all m (inr d)
  ]

  pub leads_below : (from : List ℕ) (es : List (ℕ × Object)) (to : List ℕ) → Leads from es to → AreIn k es → AllBelow from → AllBelow to
  leads_below from [] to h a all = subst AllBelow h all
  leads_below (n ∷ ns) (e ∷ es) to h a all = leads_below (refs e.1 ++ ns) es to h.1 a.1 (further n ns e h.0 a.0 all)
  leads_below [] (e ∷ es) to h a all = absurd h

  pub entries_below : (P : ℕ × Object → Type 0) → ((e : ℕ × Object) → Below k root e.0 → get k e.0 ≡ Some e.1 → P e) → (from : List ℕ) (es : List (ℕ × Object)) (to : List ℕ) → Leads from es to → AreIn k es → AllBelow from → AllByRecursion P es
  entries_below P one from [] to h a all = tt
  entries_below P one (n ∷ ns) (e ∷ es) to h a all = (one e (all e.0 (inl (sym h.0))) a.0, entries_below P one (refs e.1 ++ ns) es to h.1 a.1 (further n ns e h.0 a.0 all))
  entries_below P one [] (e ∷ es) to h a all = absurd h

  pub at_root : AllBelow (root ∷ [])
  at_root n (inl e) = Here (sym e)
  at_root n (inr e) = absurd e

  some_is : (o : Option Object) (x : Object) → o ≡ Some x → IsSome o
  some_is o x e = subst (λ (o : Option Object). IsSome o) (sym e) (search rules)

  pub all_there : ((n : ℕ) → Below k root n → (o : Object) × (get k n ≡ Some o)) → AllThere k root
  all_there there es n ns h a =
      let w = there n (leads_below (root ∷ []) es (n ∷ ns) h a at_root n (inl refl)) in
      some_is (get k n) w.0 w.1

-- ---- below, in the thread's heap and in the fiber's

-- in the heap, as its class declares, and it holds no fiber
pub record IsWell (p : Program) (h : Objects) (n : ℕ) : Type 0 where
  pub object : Object
  pub there : get h n ≡ Some object
  pub formed : IsFormed p object
  pub shown : AllByRecursion IsShown (held object)

abbrev pub AllWell : Program → Objects → ℕ → Type 0
AllWell p h n = (x : ℕ) → Below h n x → IsWell p h x

module _ (p : Program) (of : Names) (h k : Objects) (a : Alike of all_mine 0 k h k) where
  abbrev Back : (ℕ → Type 0) → ℕ → Type 0
  Back P z = (y : ℕ) × P y × (of y ≡ Some z)

  value_back : (v w : Value) (z : ℕ) → IsKin of v w → reach.Names w z → Back (reach.Names v) z
  value_back (Ref n) (Ref m) z e d = (n, refl, e ∙ ap Some d)
  value_back (Int a) (Ref m) z e d = absurd e
  value_back (Long a) (Ref m) z e d = absurd e
  value_back Null (Ref m) z e d = absurd e
  value_back (Text a) (Ref m) z e d = absurd e
  value_back (Box a) (Ref m) z e d = absurd e
  value_back Fiber (Ref m) z e d = absurd e
  value_back v (Int b) z e d = absurd d
  value_back v (Long b) z e d = absurd d
  value_back v Null z e d = absurd d
  value_back v (Text b) z e d = absurd d
  value_back v (Box b) z e d = absurd d
  value_back v Fiber z e d = absurd d

  values_back : (vs ws : List Value) (z : ℕ) → AreKin of vs ws → SomeNames ws z → Back (SomeNames vs) z
  values_back [] [] z e d = absurd d
  values_back (v ∷ vs) (w ∷ ws) z e (inl d) = let b = value_back v w z e.0 d in (b.0, inl b.1, b.2)
  values_back (v ∷ vs) (w ∷ ws) z e (inr d) = let b = values_back vs ws z e.1 d in (b.0, inr b.1, b.2)
  values_back [] (w ∷ ws) z e d = absurd e
  values_back (v ∷ vs) [] z e d = absurd d

  fields_back : (es ds : List (FieldId × Value)) (z : ℕ) → FieldsKin of es ds → FieldNames ds z → Back (FieldNames es) z
  fields_back [] [] z e d = absurd d
  fields_back (v ∷ vs) (w ∷ ws) z e (inl d) = let b = value_back v.1 w.1 z e.1 d in (b.0, inl b.1, b.2)
  fields_back (v ∷ vs) (w ∷ ws) z e (inr d) = let b = fields_back vs ws z e.2 d in (b.0, inr b.1, b.2)
  fields_back [] (w ∷ ws) z e d = absurd e
  fields_back (v ∷ vs) [] z e d = absurd d

  held_back : (o q : Object) (z : ℕ) → ObjectsKin of o q → Holds q z → Back (Holds o) z
  held_back o q z e (inl d) = let b = fields_back o.fields q.fields z e.fields d in (b.0, inl b.1, b.2)
  held_back o q z e (inr d) = let b = values_back o.elements q.elements z e.elements d in (b.0, inr b.1, b.2)

  -- the object at a place, if it is that of a name
  pub object_at : (n x : ℕ) (o : Object) → of n ≡ Some x → get h n ≡ Some o → (q : Object) × (get k x ≡ Some q) × ObjectsKin of o q
  object_at n x o e there =
      let s = a.same n o there in
      (s.1, ap (get k) (same_Some _ _ (sym e ∙ s.2)) ∙ s.3, s.4)

  pub below_back : (n x : ℕ) → of n ≡ Some x → AllWell p h n → (z : ℕ) → Below k x z → Back (Below h n) z
  below_back n x e well z (Here d) = (n, Here refl, e ∙ ap Some d)
  below_back n x e well z (Then y q b there holds) =
      let w = below_back n x e well y b in
      let o = well w.0 w.1 in
      let s = object_at w.0 y o.object w.2 o.there in
      let same : s.0 ≡ q = same_Some _ _ (sym s.1 ∙ there) in
      let c = held_back o.object q z (subst (ObjectsKin of o.object) same s.2) holds in
      (c.0, Then w.0 o.object w.1 o.there c.1, c.2)

  -- all that is at or below it in the fiber's heap
  pub well_kin : (n x : ℕ) → of n ≡ Some x → AllWell p h n → AllWell p k x
  well_kin n x e well z b =
      let w = below_back n x e well z b in
      let o = well w.0 w.1 in
      let s = object_at w.0 z o.object w.2 o.there in
      record { object = s.0; there = s.1; formed = formed_kin of p o.object s.0 s.2 o.formed; shown = shown_object of o.object s.0 s.2 o.shown }
