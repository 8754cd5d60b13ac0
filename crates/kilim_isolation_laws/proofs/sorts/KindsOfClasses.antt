-- How kinds flow, from how those of classes do.
use Rattle.std.proofs.Common.{◌≡◌, ℕ, zero, suc, ◌==◌, Bool, true, false, true≢false, ◌&&◌, cond, refl, sym, ap, subst, ◌∙◌, ◌⊎◌, inl, inr}
use Rattle.kilim_program.specs.declared.ty.Base.TheVariants as base
use Rattle.kilim_program.specs.declared.ty.Kind.TheVariants as kind
use Rattle.kilim_program.specs.declared.verified.VType.TheVariants as vtype
use Rattle.kilim_program.specs.declared.names.ClassId.{ClassId}
use Rattle.kilim_program.specs.declared.ty.Base.{Base}
use Rattle.kilim_program.specs.declared.ty.Kind.{Kind}
use Rattle.kilim_program.specs.declared.ty.Ty.{Ty}
use Rattle.kilim_program.specs.Program.{Program}
use Rattle.kilim_program.specs.Kinds.{kind_of, base_kind, class_kind, array_kind, is_tree_kind, is_private_kind}
use Rattle.kilim_program.specs.Fits.{class_assignable, base_assignable, is_object_base, type_assignable, fits_type}
use Rattle.kilim_type_spec.specs.Step.{assignable}
use Rattle.kilim_isolation_laws.proofs.forest.Store.{is_same}
use Rattle.kilim_isolation_rules.specs.Marks.{mixes}
use Rattle.kilim_isolation_laws.specs.graph_rows.Holds.{Sort, Anything, Wide, Word, Own, Tree, Stuff, Longs, Words, Trees, stuff_of, sort, sort_by, object_sort, made_sort, FlowsTo, KindsFlow}

-- a value class is assignable to value classes and private ones, a tree class to tree classes and private ones, and a
-- private class to private ones
abbrev pub ClassFlow : Kind → Kind → Type 0
ClassFlow kind.Value kind.Tree = ⊥
ClassFlow kind.Tree kind.Value = ⊥
ClassFlow kind.Private kind.Value = ⊥
ClassFlow kind.Private kind.Tree = ⊥
ClassFlow a b = Unit {0}

pub record ClassesFlow (p : Program) : Type 0 where
  pub kinds : (a b : ClassId) → class_assignable p a b ≡ true → ClassFlow (class_kind p a) (class_kind p b)
  pub object : (b : Base) → is_object_base p b ≡ true → base_kind p b ≡ kind.Private

levels : (p : Program) (m : ℕ) (a : Base) (n : ℕ) (b : Base) → type_assignable p m a n b ≡ true → ((m ≡ n) × (base_assignable p a b ≡ true)) ⊎ (is_object_base p b ≡ true)
levels p zero a zero b e = inl (refl, e)
levels p zero a (suc n) b e = absurd (true≢false (sym e))
levels p (suc m) a zero b e = inr e
levels p (suc m) a (suc n) b e = elim (levels p m a n b e) [ inl w ↦ inl (ap suc w.0, w.1) | inr w ↦ inr w ]

private_of : (b : Bool) (k : Kind) → k ≡ kind.Private → cond b k (array_kind k) ≡ kind.Private
private_of true k e = e
private_of false k e = ap array_kind e

and_left_false : (a b : Bool) → (a && b) ≡ false → b ≡ true → a ≡ false
and_left_false true b e w = absurd (true≢false (sym w ∙ e))
and_left_false false b e w = refl

-- what a private type may be reached from
to_private : (p : Program) (a b : Ty) (k : Kind) → kind_of p a ≡ k → kind_of p b ≡ kind.Private → mixes p (vtype.Object a) (vtype.Object b) ≡ false → FlowsTo (sort_by p a k) (object_sort p b)
to_private p a b kind.Value ka kb mix = inr (inl (refl, subst Rattle.kilim_isolation_laws.specs.graph_rows.Holds.IsReference (sym (ap (sort_by p b) kb)) tt))
to_private p a b kind.Private ka kb mix = inr (inr (sym (ap (sort_by p b) kb)))
to_private p a b kind.Tree ka kb mix = absurd (true≢false (sym (ap is_tree_kind ka) ∙ and_left_false (is_tree_kind (kind_of p a)) (is_private_kind (kind_of p b)) mix (ap is_private_kind kb)))

-- equal dimensions, and bases that flow
bases_flow : (p : Program) → ClassesFlow p → (a b : Base) → base_assignable p a b ≡ true → ClassFlow (base_kind p a) (base_kind p b) × (base_kind p b ≡ kind.Private ⊎ (stuff_of p a (base_kind p a) ≡ stuff_of p b (base_kind p b)))
bases_flow p c (base.Class a) (base.Class b) e = (c.kinds a b e, by (class_kind p a) (class_kind p b) refl refl (c.kinds a b e))
  where
    by : (x y : Kind) → class_kind p a ≡ x → class_kind p b ≡ y → ClassFlow (class_kind p a) (class_kind p b) → (class_kind p b ≡ kind.Private) ⊎ (stuff_of p (base.Class a) (class_kind p a) ≡ stuff_of p (base.Class b) (class_kind p b))
    by x kind.Private ex ey f = inl ey
    by kind.Value kind.Value ex ey f = inr (ap (stuff_of p (base.Class a)) ex ∙ sym (ap (stuff_of p (base.Class b)) ey))
    by kind.Tree kind.Tree ex ey f = inr (ap (stuff_of p (base.Class a)) ex ∙ sym (ap (stuff_of p (base.Class b)) ey))
    by kind.Value kind.Tree ex ey f = absurd (subst (λ z. ClassFlow z kind.Tree) ex (subst (ClassFlow (class_kind p a)) ey f))
    by kind.Tree kind.Value ex ey f = absurd (subst (λ z. ClassFlow z kind.Value) ex (subst (ClassFlow (class_kind p a)) ey f))
    by kind.Private kind.Value ex ey f = absurd (subst (λ z. ClassFlow z kind.Value) ex (subst (ClassFlow (class_kind p a)) ey f))
    by kind.Private kind.Tree ex ey f = absurd (subst (λ z. ClassFlow z kind.Tree) ex (subst (ClassFlow (class_kind p a)) ey f))
bases_flow p c base.Bool base.Bool e = (tt, inr refl)
bases_flow p c base.Bool base.Byte e = absurd (true≢false (sym e))
bases_flow p c base.Bool base.Char e = absurd (true≢false (sym e))
bases_flow p c base.Bool base.Short e = absurd (true≢false (sym e))
bases_flow p c base.Bool base.Int e = absurd (true≢false (sym e))
bases_flow p c base.Bool base.Long e = absurd (true≢false (sym e))
bases_flow p c base.Bool (base.Class b) e = absurd (true≢false (sym e))
bases_flow p c base.Byte base.Bool e = absurd (true≢false (sym e))
bases_flow p c base.Byte base.Byte e = (tt, inr refl)
bases_flow p c base.Byte base.Char e = absurd (true≢false (sym e))
bases_flow p c base.Byte base.Short e = absurd (true≢false (sym e))
bases_flow p c base.Byte base.Int e = absurd (true≢false (sym e))
bases_flow p c base.Byte base.Long e = absurd (true≢false (sym e))
bases_flow p c base.Byte (base.Class b) e = absurd (true≢false (sym e))
bases_flow p c base.Char base.Bool e = absurd (true≢false (sym e))
bases_flow p c base.Char base.Byte e = absurd (true≢false (sym e))
bases_flow p c base.Char base.Char e = (tt, inr refl)
bases_flow p c base.Char base.Short e = absurd (true≢false (sym e))
bases_flow p c base.Char base.Int e = absurd (true≢false (sym e))
bases_flow p c base.Char base.Long e = absurd (true≢false (sym e))
bases_flow p c base.Char (base.Class b) e = absurd (true≢false (sym e))
bases_flow p c base.Short base.Bool e = absurd (true≢false (sym e))
bases_flow p c base.Short base.Byte e = absurd (true≢false (sym e))
bases_flow p c base.Short base.Char e = absurd (true≢false (sym e))
bases_flow p c base.Short base.Short e = (tt, inr refl)
bases_flow p c base.Short base.Int e = absurd (true≢false (sym e))
bases_flow p c base.Short base.Long e = absurd (true≢false (sym e))
bases_flow p c base.Short (base.Class b) e = absurd (true≢false (sym e))
bases_flow p c base.Int base.Bool e = absurd (true≢false (sym e))
bases_flow p c base.Int base.Byte e = absurd (true≢false (sym e))
bases_flow p c base.Int base.Char e = absurd (true≢false (sym e))
bases_flow p c base.Int base.Short e = absurd (true≢false (sym e))
bases_flow p c base.Int base.Int e = (tt, inr refl)
bases_flow p c base.Int base.Long e = absurd (true≢false (sym e))
bases_flow p c base.Int (base.Class b) e = absurd (true≢false (sym e))
bases_flow p c base.Long base.Bool e = absurd (true≢false (sym e))
bases_flow p c base.Long base.Byte e = absurd (true≢false (sym e))
bases_flow p c base.Long base.Char e = absurd (true≢false (sym e))
bases_flow p c base.Long base.Short e = absurd (true≢false (sym e))
bases_flow p c base.Long base.Int e = absurd (true≢false (sym e))
bases_flow p c base.Long base.Long e = (tt, inr refl)
bases_flow p c base.Long (base.Class b) e = absurd (true≢false (sym e))
bases_flow p c (base.Class a) base.Bool e = absurd (true≢false (sym e))
bases_flow p c (base.Class a) base.Byte e = absurd (true≢false (sym e))
bases_flow p c (base.Class a) base.Char e = absurd (true≢false (sym e))
bases_flow p c (base.Class a) base.Short e = absurd (true≢false (sym e))
bases_flow p c (base.Class a) base.Int e = absurd (true≢false (sym e))
bases_flow p c (base.Class a) base.Long e = absurd (true≢false (sym e))

same_dims : (p : Program) → ClassesFlow p → (a b : Ty) → a.dims ≡ b.dims → base_assignable p a.base b.base ≡ true → mixes p (vtype.Object a) (vtype.Object b) ≡ false → FlowsTo (object_sort p a) (object_sort p b)
same_dims p c a b same e mix = by (kind_of p b) refl (bases_flow p c a.base b.base e)
  where
    kinds_flow : (z : Bool) (x y : Kind) → ClassFlow x y → ClassFlow (cond z x (array_kind x)) (cond z y (array_kind y))
    kinds_flow true x y f = f
    kinds_flow false kind.Value kind.Value f = tt
    kinds_flow false kind.Value kind.Tree f = tt
    kinds_flow false kind.Value kind.Private f = tt
    kinds_flow false kind.Tree kind.Value f = tt
    kinds_flow false kind.Tree kind.Tree f = tt
    kinds_flow false kind.Tree kind.Private f = tt
    kinds_flow false kind.Private kind.Value f = absurd f
    kinds_flow false kind.Private kind.Tree f = absurd f
    kinds_flow false kind.Private kind.Private f = tt

    kinds : ClassFlow (base_kind p a.base) (base_kind p b.base) → ClassFlow (kind_of p a) (kind_of p b)
    kinds f = subst (λ d. ClassFlow (kind_of p a) (cond (d == 0) (base_kind p b.base) (array_kind (base_kind p b.base)))) same (kinds_flow (a.dims == 0) (base_kind p a.base) (base_kind p b.base) f)

    base_private : base_kind p b.base ≡ kind.Private → kind_of p b ≡ kind.Private
    base_private w = private_of (b.dims == 0) (base_kind p b.base) w

    go : (x y : Kind) → kind_of p a ≡ x → kind_of p b ≡ y → ClassFlow x y → (base_kind p b.base ≡ kind.Private) ⊎ (stuff_of p a.base (base_kind p a.base) ≡ stuff_of p b.base (base_kind p b.base)) → FlowsTo (sort_by p a x) (sort_by p b y)
    go x kind.Private ex ey f st = subst (λ z. FlowsTo (sort_by p a x) z) (ap (sort_by p b) ey) (to_private p a b x ex ey mix)
    go kind.Value kind.Value ex ey f st = inr (inr refl)
    go kind.Tree kind.Tree ex ey f (inr st) = inr (inr (ap (λ d. Tree d (stuff_of p a.base (base_kind p a.base))) same ∙ ap (Tree b.dims) st))
    go kind.Tree kind.Tree ex ey f (inl w) = absurd (tree_private (sym ey ∙ base_private w))
      where
        tree_private : kind.Tree ≡ kind.Private → ⊥
        tree_private q = cc
    go kind.Value kind.Tree ex ey f st = absurd f
    go kind.Tree kind.Value ex ey f st = absurd f
    go kind.Private kind.Value ex ey f st = absurd f
    go kind.Private kind.Tree ex ey f st = absurd f

    by : (k : Kind) → kind_of p b ≡ k → ClassFlow (base_kind p a.base) (base_kind p b.base) × ((base_kind p b.base ≡ kind.Private) ⊎ (stuff_of p a.base (base_kind p a.base) ≡ stuff_of p b.base (base_kind p b.base))) → FlowsTo (object_sort p a) (object_sort p b)
    by k ek w = go (kind_of p a) (kind_of p b) refl refl (kinds w.0) w.1

objects_flow : (p : Program) → ClassesFlow p → (a b : Ty) → fits_type p a b ≡ true → mixes p (vtype.Object a) (vtype.Object b) ≡ false → FlowsTo (object_sort p a) (object_sort p b)
unfolding fits_type
objects_flow p c a b e mix = elim (levels p a.dims a.base b.dims b.base e) [
  | inl w ↦ same_dims p c a b w.0 w.1 mix
  | inr w ↦ to_private p a b (kind_of p a) refl (private_of (b.dims == 0) (base_kind p b.base) (c.object b.base w)) mix
]

null_flows : (p : Program) (b : Ty) (k : Kind) → FlowsTo Word (sort_by p b k)
null_flows p b kind.Value = inr (inr refl)
null_flows p b kind.Tree = inr (inl (refl, tt))
null_flows p b kind.Private = inr (inl (refl, tt))

pub kinds_flow : (p : Program) → ClassesFlow p → KindsFlow p
unfolding sort
kinds_flow p c m vtype.Top vtype.Top e mix = inl refl
kinds_flow p c m vtype.Top vtype.Int e mix = absurd (true≢false (sym e))
kinds_flow p c m vtype.Top vtype.Long e mix = absurd (true≢false (sym e))
kinds_flow p c m vtype.Top vtype.Null e mix = absurd (true≢false (sym e))
kinds_flow p c m vtype.Top vtype.UninitThis e mix = absurd (true≢false (sym e))
kinds_flow p c m vtype.Top (vtype.Uninit b) e mix = absurd (true≢false (sym e))
kinds_flow p c m vtype.Top (vtype.Object b) e mix = absurd (true≢false (sym e))
kinds_flow p c m vtype.Int vtype.Top e mix = inl refl
kinds_flow p c m vtype.Int vtype.Int e mix = inr (inr refl)
kinds_flow p c m vtype.Int vtype.Long e mix = absurd (true≢false (sym e))
kinds_flow p c m vtype.Int vtype.Null e mix = absurd (true≢false (sym e))
kinds_flow p c m vtype.Int vtype.UninitThis e mix = absurd (true≢false (sym e))
kinds_flow p c m vtype.Int (vtype.Uninit b) e mix = absurd (true≢false (sym e))
kinds_flow p c m vtype.Int (vtype.Object b) e mix = absurd (true≢false (sym e))
kinds_flow p c m vtype.Long vtype.Top e mix = inl refl
kinds_flow p c m vtype.Long vtype.Int e mix = absurd (true≢false (sym e))
kinds_flow p c m vtype.Long vtype.Long e mix = inr (inr refl)
kinds_flow p c m vtype.Long vtype.Null e mix = absurd (true≢false (sym e))
kinds_flow p c m vtype.Long vtype.UninitThis e mix = absurd (true≢false (sym e))
kinds_flow p c m vtype.Long (vtype.Uninit b) e mix = absurd (true≢false (sym e))
kinds_flow p c m vtype.Long (vtype.Object b) e mix = absurd (true≢false (sym e))
kinds_flow p c m vtype.Null vtype.Top e mix = inl refl
kinds_flow p c m vtype.Null vtype.Int e mix = absurd (true≢false (sym e))
kinds_flow p c m vtype.Null vtype.Long e mix = absurd (true≢false (sym e))
kinds_flow p c m vtype.Null vtype.Null e mix = inr (inr refl)
kinds_flow p c m vtype.Null vtype.UninitThis e mix = absurd (true≢false (sym e))
kinds_flow p c m vtype.Null (vtype.Uninit b) e mix = absurd (true≢false (sym e))
kinds_flow p c m vtype.Null (vtype.Object b) e mix = null_flows p b (kind_of p b)
kinds_flow p c m vtype.UninitThis vtype.Top e mix = inl refl
kinds_flow p c m vtype.UninitThis vtype.Int e mix = absurd (true≢false (sym e))
kinds_flow p c m vtype.UninitThis vtype.Long e mix = absurd (true≢false (sym e))
kinds_flow p c m vtype.UninitThis vtype.Null e mix = absurd (true≢false (sym e))
kinds_flow p c m vtype.UninitThis vtype.UninitThis e mix = inr (inr refl)
kinds_flow p c m vtype.UninitThis (vtype.Uninit b) e mix = absurd (true≢false (sym e))
kinds_flow p c m vtype.UninitThis (vtype.Object b) e mix = absurd (true≢false (sym e))
kinds_flow p c m (vtype.Uninit a) vtype.Top e mix = inl refl
kinds_flow p c m (vtype.Uninit a) vtype.Int e mix = absurd (true≢false (sym e))
kinds_flow p c m (vtype.Uninit a) vtype.Long e mix = absurd (true≢false (sym e))
kinds_flow p c m (vtype.Uninit a) vtype.Null e mix = absurd (true≢false (sym e))
kinds_flow p c m (vtype.Uninit a) vtype.UninitThis e mix = absurd (true≢false (sym e))
kinds_flow p c m (vtype.Uninit a) (vtype.Uninit b) e mix = inr (inr (ap (λ z. made_sort p (Rattle.kilim_type_spec.specs.Step.made_at m.code z)) (is_same a b e)))
kinds_flow p c m (vtype.Uninit a) (vtype.Object b) e mix = absurd (true≢false (sym e))
kinds_flow p c m (vtype.Object a) vtype.Top e mix = inl refl
kinds_flow p c m (vtype.Object a) vtype.Int e mix = absurd (true≢false (sym e))
kinds_flow p c m (vtype.Object a) vtype.Long e mix = absurd (true≢false (sym e))
kinds_flow p c m (vtype.Object a) vtype.Null e mix = absurd (true≢false (sym e))
kinds_flow p c m (vtype.Object a) vtype.UninitThis e mix = absurd (true≢false (sym e))
kinds_flow p c m (vtype.Object a) (vtype.Uninit b) e mix = absurd (true≢false (sym e))
kinds_flow p c m (vtype.Object a) (vtype.Object b) e mix = objects_flow p c a b e mix
