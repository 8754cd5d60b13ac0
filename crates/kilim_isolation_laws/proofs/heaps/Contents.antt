-- What an object of a tree class awaits is shared, and what stands for a value of a shape fits.
use Rattle.std.proofs.Common.{◌≡◌, ◌⊎◌, inl, inr, ℕ, zero, suc, ◌-◌, ◌==◌, ℤ, Bool, true, false, not, ◌&&◌, ◌||◌, cond, eqb, List, [], ◌∷◌, map, Option, Some, None, refl, sym, ap, subst, ◌∙◌, true≢false, arith}
use Rattle.std.specs.Prelude.{codes, if◌then◌else◌}
use Rattle.std.proofs.lemmas.Bool.{and_parts, eq-eqb, ne_eqb}
use Rattle.kilim_program.specs.declared.class.Field.{Field}
use Rattle.kilim_program.specs.declared.names.ClassId.{ClassId}
use Rattle.kilim_program.specs.declared.names.FieldId.{FieldId}
use Rattle.kilim_program.specs.declared.ty.Base.{Base}
use Rattle.kilim_program.specs.declared.ty.Base.TheVariants as base
use Rattle.kilim_program.specs.declared.ty.Kind.{Kind}
use Rattle.kilim_program.specs.declared.ty.Kind.TheVariants as kind
use Rattle.kilim_program.specs.declared.ty.Ty.{Ty}
use Rattle.kilim_program.specs.declared.value.Value.{Value}
use Rattle.kilim_program.specs.declared.value.Value.TheVariants as value
use Rattle.kilim_program.specs.Program.{Program}
use Rattle.kilim_program.specs.Fits.{fits_type}
use Rattle.kilim_program.specs.Kinds.{array_kind, base_kind, is_private_kind, kind_of}
use Rattle.kilim_program.specs.Names.{class_named, field_of}
use Rattle.kilim_run_state.specs.declared.value.Token.{Token}
use Rattle.kilim_run_state.specs.declared.value.Token.TheVariants as token
use Rattle.kilim_run_machine.specs.Effect.{is_wide}
use Rattle.kilim_program.specs.Members.{named_class}
use Rattle.kilim_program.specs.Members.{object_fields}
use Rattle.kilim_run_state.specs.Objects.{first_field}
use Rattle.kilim_run_state.specs.Shapes.{field_in, fields_in_order}
use Rattle.kilim_run_state.specs.Trees.{Awaits, Fields, Elements, content_types, field_types, int_fits, is_class, is_long, is_of, is_whole_class, value_fits}
use Rattle.kilim_isolation_laws.specs.graph_rows.Facts.{ProgramKeeps}
use Rattle.kilim_isolation_laws.specs.graph_rows.Holds.{Anything, Own, Sort, Tree, Wide, Word, field_sort, field_sort_of, is_tree_sort, object_sort, refers, sort_by, type_sort}
use Rattle.kilim_isolation_laws.proofs.heaps.Reading.{IsLeaf}
use Rattle.kilim_isolation_laws.proofs.heaps.Sorts.{IsShared, array_kind_is, holds_shared, reference_sort}

-- ---- what is awaited is shared

abbrev pub AreShared : Program → Awaits → Type 0
AreShared p (Fields []) = Unit {0}
AreShared p (Fields (ty ∷ tys)) = IsShared (type_sort p ty) × AreShared p (Fields tys)
AreShared p (Elements ty) = IsShared (type_sort p ty)

abbrev IsAmong : FieldId → List FieldId → Type 0
IsAmong f [] = ⊥
IsAmong f (g ∷ gs) = (g ≡ f) ⊎ IsAmong f gs

module _ (p : Program) where
  first_in : (fs : List FieldId) (f : FieldId) → IsAmong f fs → (v : Value) × (field_in (map (first_field p) fs) f ≡ Some v)
  first_in [] f i = absurd i
  first_in (g ∷ gs) f i = by (eqb g.0 f.0) refl (λ later. first_in gs f later)
    where
      by : (b : Bool) → eqb g.0 f.0 ≡ b → (IsAmong f gs → (v : Value) × (field_in (map (first_field p) gs) f ≡ Some v)) → (v : Value) × (field_in (map (first_field p) (g ∷ gs)) f ≡ Some v)
      by true e again = ((first_field p g).1, ap (λ (b : Bool). cond b (Some (first_field p g).1) (field_in (map (first_field p) gs) f)) e)
      by false e again = elim i [
        | inl same ↦ absurd (true≢false (sym (eq-eqb g.0 f.0 (ap (λ (x : FieldId). x.0) same)) ∙ e))
        | inr later ↦ (let r = again later in (r.0, ap (λ (b : Bool). cond b (Some (first_field p g).1) (field_in (map (first_field p) gs) f)) e ∙ r.1))
      ]

  fields_shared : (fs : List FieldId) → ((f : FieldId) → IsAmong f fs → IsShared (field_sort p f)) → AreShared p (Fields (field_types p fs))
  fields_shared [] each = tt
  fields_shared (f ∷ fs) each = by (field_of p f) (each f (inl refl)) (fields_shared fs (λ g i. each g (inr i)))
    where
      by : (o : Option Field) → IsShared (field_sort_of p o) → AreShared p (Fields (field_types p fs)) → AreShared p (Fields (elim o [ None ↦ field_types p fs | Some field ↦ field.ty ∷ field_types p fs ]))
      by None here rest = rest
      by (Some field) here rest = (here, rest)

  word_shared : IsShared Word
  word_shared e = cc

  wide_shared : IsShared Wide
  wide_shared e = cc

  kind_shared : (ty : Ty) (k : Kind) → is_private_kind k ≡ false → IsShared (sort_by p ty k)
  kind_shared ty kind.Private e w = true≢false e
  kind_shared ty kind.Value e w = cc
  kind_shared ty kind.Tree e w = cc

  array_private : (k : Kind) → is_private_kind (array_kind k) ≡ false → is_private_kind k ≡ false
  array_private kind.Value e = refl
  array_private kind.Tree e = refl
  array_private kind.Private e = e

  tree_no_private : (ty : Ty) (k : Kind) → is_tree_sort (sort_by p ty k) ≡ true → is_private_kind k ≡ false
  tree_no_private ty kind.Tree e = refl
  tree_no_private ty kind.Value e = refl
  tree_no_private ty kind.Private e = absurd (true≢false (sym e))

  element_shared : (d : ℕ) (b : Base) → is_tree_sort (object_sort p (record { dims = suc d; base = b })) ≡ true → IsShared (type_sort p (record { dims = d; base = b }))
  element_shared (suc d) b tree = kind_shared (record { dims = suc d; base = b }) (kind_of p (record { dims = suc d; base = b }))
      (ap is_private_kind (array_kind_is p d b ∙ sym (array_kind_is p (suc d) b)) ∙ tree_no_private (record { dims = suc (suc d); base = b }) (kind_of p (record { dims = suc (suc d); base = b })) tree)
  element_shared zero (base.Class c) tree = kind_shared (record { dims = 0; base = base.Class c }) (base_kind p (base.Class c))
      (array_private (base_kind p (base.Class c)) (ap is_private_kind (sym (array_kind_is p 0 (base.Class c))) ∙ tree_no_private (record { dims = 1; base = base.Class c }) (kind_of p (record { dims = 1; base = base.Class c })) tree))
  element_shared zero base.Bool tree = word_shared
  element_shared zero base.Byte tree = word_shared
  element_shared zero base.Char tree = word_shared
  element_shared zero base.Short tree = word_shared
  element_shared zero base.Int tree = word_shared
  element_shared zero base.Long tree = wide_shared

  pub array_types : (d : ℕ) (b : Base) → content_types p (record { dims = suc d; base = b }) ≡ Elements (record { dims = d; base = b })
  array_types d b = by (eqb (suc d) 0) (ne_eqb (suc d) 0 (λ e. omega (arith, e)))
    where
      by : (z : Bool) → z ≡ false → (if z then Fields (field_types p (fields_in_order p b)) else Elements (record { dims = suc d - 1; base = b })) ≡ Elements (record { dims = d; base = b })
      by true e = absurd (true≢false e)
      by false e = ap (λ (n : ℕ). Elements (record { dims = n; base = b })) (let n : suc d - 1 ≡ d = omega arith in n)

  pub content_shared : ProgramKeeps p → (d : ℕ) (b : Base) → is_whole_class p (record { dims = d; base = b }) ≡ true → is_tree_sort (object_sort p (record { dims = d; base = b })) ≡ true → AreShared p (content_types p (record { dims = d; base = b }))
  content_shared k zero (base.Class c) whole tree = fields_shared (object_fields p c) (λ f i.
      let w = first_in (object_fields p c) f i in
      holds_shared (object_sort p (record { dims = 0; base = base.Class c })) (field_sort p f) tree (k.may c f w.0 w.1))
  content_shared k (suc d) b whole tree = subst (AreShared p) (sym (array_types d b)) (element_shared d b tree)
  content_shared k zero base.Bool whole tree = absurd (true≢false (sym whole))
  content_shared k zero base.Byte whole tree = absurd (true≢false (sym whole))
  content_shared k zero base.Char whole tree = absurd (true≢false (sym whole))
  content_shared k zero base.Short whole tree = absurd (true≢false (sym whole))
  content_shared k zero base.Int whole tree = absurd (true≢false (sym whole))
  content_shared k zero base.Long whole tree = absurd (true≢false (sym whole))

  -- ---- values by the classes of names

  abbrev pub IsBy : (ℕ → Option Ty) → ℕ → Sort → Type 0
  IsBy of n s = (c : Ty) × (of n ≡ Some c) × (object_sort p c ≡ s)

  -- a value of a sort
  abbrev pub FitsBy : (ℕ → Option Ty) → Sort → Value → Type 0
  FitsBy of Anything v = Unit {0}
  FitsBy of Wide v = is_wide v ≡ true
  FitsBy of Word v = (is_wide v ≡ false) × (refers v ≡ None)
  FitsBy of Own v = (is_wide v ≡ false) × ((n : ℕ) → refers v ≡ Some n → IsBy of n Own)
  FitsBy of (Tree dims stuff) v = (is_wide v ≡ false) × ((n : ℕ) → refers v ≡ Some n → IsBy of n (Tree dims stuff))

  none_some : (o : Option ℕ) (n : ℕ) → o ≡ None → o ≡ Some n → ⊥
  none_some o n e d = cc

  plain_fits : (of : ℕ → Option Ty) (ty : Ty) (k : Kind) (v : Value) → is_wide v ≡ false → refers v ≡ None → FitsBy of (sort_by p ty k) v
  plain_fits of ty kind.Value v narrow none = (narrow, none)
  plain_fits of ty kind.Private v narrow none = (narrow, λ n e. absurd (none_some (refers v) n none e))
  plain_fits of ty kind.Tree v narrow none = (narrow, λ n e. absurd (none_some (refers v) n none e))

  no_array : (d : ℕ) (b : Bool) → (eqb (suc d) 0 && b) ≡ true → ⊥
  no_array d b e = true≢false (sym (and_parts (eqb (suc d) 0) b e).0 ∙ ne_eqb (suc d) 0 (λ s. omega (arith, s)))

  int_by : (of : ℕ → Option Ty) (d : ℕ) (b : Base) (x : ℤ) → (d == 0 && int_fits b x) ≡ true → FitsBy of (type_sort p (record { dims = d; base = b })) (value.Int x)
  int_by of (suc d) b x e = absurd (no_array d (int_fits b x) e)
  int_by of zero base.Bool x e = (refl, refl)
  int_by of zero base.Byte x e = (refl, refl)
  int_by of zero base.Char x e = (refl, refl)
  int_by of zero base.Short x e = (refl, refl)
  int_by of zero base.Int x e = (refl, refl)
  int_by of zero base.Long x e = absurd (true≢false (sym e))
  int_by of zero (base.Class c) x e = absurd (true≢false (sym e))

  long_by : (of : ℕ → Option Ty) (d : ℕ) (b : Base) (x : ℤ) → (d == 0 && is_long b) ≡ true → FitsBy of (type_sort p (record { dims = d; base = b })) (value.Long x)
  long_by of (suc d) b x e = absurd (no_array d (is_long b) e)
  long_by of zero base.Long x e = refl
  long_by of zero base.Bool x e = absurd (true≢false (sym e))
  long_by of zero base.Byte x e = absurd (true≢false (sym e))
  long_by of zero base.Char x e = absurd (true≢false (sym e))
  long_by of zero base.Short x e = absurd (true≢false (sym e))
  long_by of zero base.Int x e = absurd (true≢false (sym e))
  long_by of zero (base.Class c) x e = absurd (true≢false (sym e))

  null_by : (of : ℕ → Option Ty) (d : ℕ) (b : Base) → (not (d == 0) || is_class b) ≡ true → FitsBy of (type_sort p (record { dims = d; base = b })) value.Null
  null_by of (suc d) b e = plain_fits of (record { dims = suc d; base = b }) (kind_of p (record { dims = suc d; base = b })) value.Null refl refl
  null_by of zero (base.Class c) e = plain_fits of (record { dims = 0; base = base.Class c }) (kind_of p (record { dims = 0; base = base.Class c })) value.Null refl refl
  null_by of zero base.Bool e = absurd (true≢false (sym e))
  null_by of zero base.Byte e = absurd (true≢false (sym e))
  null_by of zero base.Char e = absurd (true≢false (sym e))
  null_by of zero base.Short e = absurd (true≢false (sym e))
  null_by of zero base.Int e = absurd (true≢false (sym e))
  null_by of zero base.Long e = absurd (true≢false (sym e))

  named_by : (of : ℕ → Option Ty) (ty : Ty) (o : Option ClassId) (v : Value) → is_wide v ≡ false → refers v ≡ None → is_of p (named_class o) ty ≡ true → FitsBy of (type_sort p ty) v
  unfolding fits_type
  named_by of ty None v narrow none e = absurd (true≢false (sym e))
  named_by of ty (Some c) v narrow none e = subst (λ (s : Sort). FitsBy of s v) (sym (reference_sort p 0 (base.Class c) ty refl e)) (plain_fits of ty (kind_of p ty) v narrow none)

  -- what stands for a value of a shape
  pub leaf_fits : (of : ℕ → Option Ty) (ty : Ty) (t : Token) (v : Value) → IsLeaf t v → value_fits p ty t ≡ true → FitsBy of (type_sort p ty) v
  leaf_fits of ty (token.Int x) v is e = subst (FitsBy of (type_sort p ty)) (sym is) (int_by of ty.dims ty.base x e)
  leaf_fits of ty (token.Long x) v is e = subst (FitsBy of (type_sort p ty)) (sym is) (long_by of ty.dims ty.base x e)
  leaf_fits of ty token.Null v is e = subst (FitsBy of (type_sort p ty)) (sym is) (null_by of ty.dims ty.base e)
  leaf_fits of ty (token.Text units) v is e = subst (FitsBy of (type_sort p ty)) (sym is) (named_by of ty (class_named p (codes "java/lang/String")) (value.Text units) refl refl e)
  leaf_fits of ty (token.Box box) v is e = subst (FitsBy of (type_sort p ty)) (sym is) (named_by of ty (class_named p (codes "kilim/Mailbox")) (value.Box box) refl refl e)
  leaf_fits of ty token.Close v is e = absurd is
  leaf_fits of ty (token.Open name) v is e = absurd is

  pub leaf_none : (t : Token) (v : Value) → IsLeaf t v → refers v ≡ None
  leaf_none (token.Int x) v is = ap refers is
  leaf_none (token.Long x) v is = ap refers is
  leaf_none token.Null v is = ap refers is
  leaf_none (token.Text units) v is = ap refers is
  leaf_none (token.Box box) v is = ap refers is
  leaf_none token.Close v is = absurd is
  leaf_none (token.Open name) v is = absurd is

  -- a reference to an object of a sort of trees
  pub ref_fits : (of : ℕ → Option Ty) (c : Ty) (n : ℕ) (s : Sort) → s ≡ object_sort p c → is_tree_sort (object_sort p c) ≡ true → of n ≡ Some c → FitsBy of s (value.Ref n)
  ref_fits of c n s is tree at = subst (λ (z : Sort). FitsBy of z (value.Ref n)) (sym is) (by (object_sort p c) refl tree)
    where
      the : (k : ℕ) → Some n ≡ Some k → n ≡ k
      the k e = cc

      by : (z : Sort) → object_sort p c ≡ z → is_tree_sort z ≡ true → FitsBy of z (value.Ref n)
      by (Tree d x) same t = (refl, λ k e. (c, ap of (sym (the k e)) ∙ at, same))
      by Own same t = absurd (true≢false (sym t))
      by Word same t = absurd (true≢false (sym t))
      by Wide same t = absurd (true≢false (sym t))
      by Anything same t = absurd (true≢false (sym t))
