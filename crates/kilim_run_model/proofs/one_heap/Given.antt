-- A tree that leaves a thread's heap: its objects in the shared heap are a tree of the same shape.
use Rattle.std.proofs.Common.{◌≡◌, ℕ, suc, Bool, cond, List, [], ◌∷◌, Some, refl, sym, ap, subst, ◌∙◌, inl, inr}
use Rattle.std.proofs.lemmas.Bool.Decides.{eqb_tells}
use Rattle.std.specs.FinMap.{get, remove}
use Rattle.kilim_program.specs.declared.class.Program.{Program}
use Rattle.kilim_program.specs.declared.names.FieldId.{FieldId}
use Rattle.kilim_run_state.specs.declared.value.Object.{Object}
use Rattle.kilim_run_state.specs.declared.value.Token.{Token}
use Rattle.kilim_program.specs.declared.value.Value.{Value}
use Rattle.kilim_program.specs.declared.value.Value.TheVariants.{Int, Long, Null, Ref, Text, Box, Fiber}
use Rattle.kilim_run_state.specs.Machine.{Objects}
use Rattle.kilim_run_state.specs.Trees.{Root, without}
use Rattle.kilim_run_model.specs.Kept.{IsIn, IsOnce}
use Rattle.kilim_run_model.specs.kin.Kin.{Names, Owner, OfTask, IsKin, AreKin, FieldsKin, ObjectsKin, Alike}
use Rattle.kilim_run_model.specs.kin.trees.TreeKin.{Copies, IsTree, names_from}
use Rattle.kilim_lemmas.proofs.Maps.{out_there, out_other}
use Rattle.std.proofs.lemmas.Option.{same_Some, none-some}
use Rattle.kilim_run_model.proofs.one_heap.Owners.{marked, marked_out}

-- ---- two renamings, one behind the other

module _ (ab bc ac : Names) (through : (n x y : ℕ) → ab n ≡ Some x → bc x ≡ Some y → ac n ≡ Some y) where
  value_through : (u v w : Value) → IsKin ab u v → IsKin bc v w → IsKin ac u w
  value_through (Int a) (Int b) (Int c) e d = e ∙ d
  value_through (Int a) (Int b) _ e d = absurd d
  value_through (Long a) (Long b) (Long c) e d = e ∙ d
  value_through (Long a) (Long b) _ e d = absurd d
  value_through Null Null Null e d = tt
  value_through Null Null _ e d = absurd d
  value_through (Ref n) (Ref x) (Ref y) e d = through n x y e d
  value_through (Ref n) (Ref x) _ e d = absurd d
  value_through (Text a) (Text b) (Text c) e d = e ∙ d
  value_through (Text a) (Text b) _ e d = absurd d
  value_through (Box a) (Box b) (Box c) e d = e ∙ d
  value_through (Box a) (Box b) _ e d = absurd d
  value_through Fiber Fiber Fiber e d = tt
  value_through Fiber Fiber _ e d = absurd d
  value_through _ _ _ e d = absurd e

  values_through : (us vs ws : List Value) → AreKin ab us vs → AreKin bc vs ws → AreKin ac us ws
  values_through [] [] [] e d = tt
  values_through [] [] (w ∷ ws) e d = absurd d
  values_through (u ∷ us) (v ∷ vs) (w ∷ ws) e d = (value_through u v w e.0 d.0, values_through us vs ws e.1 d.1)
  values_through (u ∷ us) (v ∷ vs) [] e d = absurd d
  values_through _ _ _ e d = absurd e

  fields_through : (us vs ws : List (FieldId × Value)) → FieldsKin ab us vs → FieldsKin bc vs ws → FieldsKin ac us ws
  fields_through [] [] [] e d = tt
  fields_through [] [] (w ∷ ws) e d = absurd d
  fields_through (u ∷ us) (v ∷ vs) (w ∷ ws) e d = (e.0 ∙ d.0, value_through u.1 v.1 w.1 e.1 d.1, fields_through us vs ws e.2 d.2)
  fields_through (u ∷ us) (v ∷ vs) [] e d = absurd d
  fields_through _ _ _ e d = absurd e

  object_through : (u v w : Object) → ObjectsKin ab u v → ObjectsKin bc v w → ObjectsKin ac u w
  object_through u v w e d = record {
    class = e.class ∙ d.class;
    fields = fields_through u.fields v.fields w.fields e.fields d.fields;
    elements = values_through u.elements v.elements w.elements e.elements d.elements;
  }

-- ---- the names of a tree in the shared heap

abbrev pub Named : Names → List ℕ → List ℕ → Type 0
Named of [] [] = Unit {0}
Named of (n ∷ ns) (x ∷ xs) = (of n ≡ Some x) × Named of ns xs
Named of ns xs = ⊥

-- the objects are there
abbrev pub AreThere : Objects → List ℕ → Type 0
AreThere h [] = Unit {0}
AreThere h (n ∷ ns) = ((o : Object) × (get h n ≡ Some o)) × AreThere h ns

pub copies_there : (of : Names) (h : Objects) (os : List Object) (ns : List ℕ) → Copies of h os ns → AreThere h ns
copies_there of h [] [] w = tt
copies_there of h (o ∷ os) (n ∷ ns) w = ((w.0, w.1), copies_there of h os ns w.3)
copies_there of h [] (n ∷ ns) w = absurd w
copies_there of h (o ∷ os) [] w = absurd w

pub there_in : (h : Objects) (ns : List ℕ) (n : ℕ) → AreThere h ns → IsIn n ns → (o : Object) × (get h n ≡ Some o)
there_in h [] n w e = absurd e
there_in h (m ∷ ns) n w (inl e) = (w.0.0, ap (get h) e ∙ w.0.1)
there_in h (m ∷ ns) n w (inr e) = there_in h ns n w.1 e

pub named_in : (of : Names) (ns xs : List ℕ) (x : ℕ) → Named of ns xs → IsIn x xs → (n : ℕ) × IsIn n ns × (of n ≡ Some x)
named_in of [] [] x w e = absurd e
named_in of (n ∷ ns) (y ∷ xs) x w (inl e) = (n, inl refl, w.0 ∙ ap Some (sym e))
named_in of (n ∷ ns) (y ∷ xs) x w (inr e) = let z = named_in of ns xs x w.1 e in (z.0, inr z.1, z.2)
named_in of [] (y ∷ xs) x w e = absurd w
named_in of (n ∷ ns) [] x w e = absurd w

-- a name that stands in a tree's names, and that of the same place
names_moved : (of : Names) (base : ℕ) (ns xs : List ℕ) (m n x : ℕ) → Named of ns xs → names_from base ns m ≡ Some n → of n ≡ Some x → names_from base xs m ≡ Some x
names_moved of base [] [] m n x w e d = absurd (none-some n e)
names_moved of base (a ∷ ns) (y ∷ xs) m n x w e d = elim (eqb_tells m base) [
  | inl t ↦
      ap (λ (b : Bool). cond b (Some y) (names_from (suc base) xs m)) t.0
      ∙ (sym w.0 ∙ (ap of (same_Some _ _ (sym (ap (λ (b : Bool). cond b (Some a) (names_from (suc base) ns m)) t.0) ∙ e)) ∙ d))
  | inr t ↦
      ap (λ (b : Bool). cond b (Some y) (names_from (suc base) xs m)) t.0
      ∙ names_moved of (suc base) ns xs m n x w.1 (sym (ap (λ (b : Bool). cond b (Some a) (names_from (suc base) ns m)) t.0) ∙ e) d
]
names_moved of base [] (y ∷ xs) m n x w e d = absurd w
names_moved of base (a ∷ ns) [] m n x w e d = absurd w

module _ (of : Names) (owner : ℕ → Owner) (t : ℕ) (k0 h k : Objects) (a : Alike of owner t k0 h k) where
  -- each object of the tree has a name in the shared heap
  pub named_there : (ns : List ℕ) → AreThere h ns → (xs : List ℕ) × Named of ns xs
  named_there [] w = ([], tt)
  named_there (n ∷ ns) w = let x = a.same n w.0.0 w.0.1 in let xs = named_there ns w.1 in (x.0 ∷ xs.0, (x.2, xs.1))

  pub owned_there : (ns xs : List ℕ) (x : ℕ) → AreThere h ns → Named of ns xs → IsIn x xs → owner x ≡ OfTask t
  owned_there ns xs x w e i =
      let n = named_in of ns xs x e i in
      let o = there_in h ns n.0 w n.1 in
      let s = a.same n.0 o.0 o.1 in
      ap owner (same_Some _ _ (sym n.2 ∙ s.2)) ∙ s.5

  once_moved : (ns xs : List ℕ) → AreThere h ns → Named of ns xs → IsOnce ns → IsOnce xs
  once_moved [] [] w e o = tt
  once_moved (n ∷ ns) (x ∷ xs) w e o = (
    λ i. let m = named_in of ns xs x e.1 i in
        let q = there_in h ns m.0 w.1 m.1 in
        o.0 (subst (λ (z : ℕ). IsIn z ns) (a.apart m.0 n x q.0 w.0.0 m.2 e.0 q.1 w.0.1) m.1),
    once_moved ns xs w.1 e.1 o.1,
  )
  once_moved [] (x ∷ xs) w e o = absurd e
  once_moved (n ∷ ns) [] w e o = absurd e

  copies_moved : (ab ac : Names) → ((m n x : ℕ) → ab m ≡ Some n → of n ≡ Some x → ac m ≡ Some x) → (os : List Object) (ns xs : List ℕ) → Named of ns xs → Copies ab h os ns → Copies ac k os xs
  copies_moved ab ac through [] [] [] e w = tt
  copies_moved ab ac through (o ∷ os) (n ∷ ns) (x ∷ xs) e w =
      let s = a.same n w.0 w.1 in (
        s.1,
        ap (get k) (same_Some _ _ (sym e.0 ∙ s.2)) ∙ s.3,
        object_through ab of ac through o w.0 s.1 w.2 s.4,
        copies_moved ab ac through os ns xs e.1 w.3,
      )
  copies_moved ab ac through os [] (x ∷ xs) e w = absurd e
  copies_moved ab ac through os (n ∷ ns) [] e w = absurd e
  copies_moved ab ac through [] (n ∷ ns) xs e w = absurd w
  copies_moved ab ac through (o ∷ os) [] xs e w = absurd w

  pub tree_moved : (p : Program) (root : Root) (ns xs : List ℕ) (shape : List Token) → AreThere h ns → Named of ns xs → IsTree p root h ns shape → IsTree p root k xs shape
  tree_moved p root ns xs shape w e tree = record {
    once = once_moved ns xs w e tree.once;
    copy = λ base. let c = tree.copy base in
        (c.0, c.1, copies_moved (names_from base ns) (names_from base xs) (λ m n x d f. names_moved of base ns xs m n x e d f) c.0 ns xs e c.2);
  }

  -- ---- the heap without it

  kept_without : (ns : List ℕ) (n : ℕ) (o : Object) → get (without h ns) n ≡ Some o → (IsIn n ns → ⊥) × (get h n ≡ Some o)
  kept_without [] n o e = (λ i. i, e)
  kept_without (m ∷ ns) n o e = elim (eqb_tells n m) [
    | inl t ↦ absurd (none-some o (sym (ap (get (remove (without h ns) m)) t.1 ∙ out_there (without h ns) m) ∙ e))
    | inr t ↦
        let below = kept_without ns n o (sym (out_other (without h ns) m n t.1) ∙ e) in
        (λ i. elim i [ inl z ↦ t.1 z | inr z ↦ below.0 z ], below.1)
  ]

  pub alike_without : (later : Owner) (ns xs : List ℕ) → AreThere h ns → Named of ns xs → Alike of (marked owner xs later) t k (without h ns) k
  alike_without later ns xs w e = record {
    same = λ n o d.
        let out = kept_without ns n o d in
        let s = a.same n o out.1 in (
          s.0,
          s.1,
          s.2,
          s.3,
          s.4,
          marked_out owner xs later s.0 (λ i.
              let m = named_in of ns xs s.0 e i in
              let q = there_in h ns m.0 w m.1 in
              out.0 (subst (λ (z : ℕ). IsIn z ns) (a.apart m.0 n s.0 q.0 o m.2 s.2 q.1 out.1) m.1))
              ∙ s.5,
        );
    apart = λ n m x o q c d f g. a.apart n m x o q c d (kept_without ns n o f).1 (kept_without ns m q g).1;
    rest = λ x. inl refl;
  }
