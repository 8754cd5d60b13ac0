-- What objects of a heap that fits hold is in the heap.
use Rattle.std.proofs.Common.{◌≡◌, inl, inr, ℕ, zero, suc, Bool, true≢false, cond, List, [], ◌∷◌, Option, Some, None, refl, sym, ap, subst, ◌∙◌}
use Rattle.std.specs.Prelude.{slice_get}
use Rattle.std.specs.FinMap.{get}
use Rattle.std.proofs.lemmas.Bool.{eq-eqb, ne_eqb}
use Rattle.kilim_program.specs.declared.class.Field.{Field}
use Rattle.kilim_program.specs.declared.names.FieldId.{FieldId}
use Rattle.kilim_program.specs.declared.ty.Base.{Base}
use Rattle.kilim_program.specs.declared.ty.Base.TheVariants as base
use Rattle.kilim_program.specs.declared.ty.Kind.{Kind}
use Rattle.kilim_program.specs.declared.ty.Kind.TheVariants as kind
use Rattle.kilim_program.specs.declared.ty.Ty.{Ty}
use Rattle.kilim_program.specs.declared.value.Value.{Value}
use Rattle.kilim_program.specs.declared.value.Value.TheVariants.{Int, Long, Null, Ref, Text, Box, Fiber}
use Rattle.kilim_program.specs.Keeps.{Keeps}
use Rattle.kilim_program.specs.Kinds.{kind_of}
use Rattle.kilim_program.specs.Names.{field_of}
use Rattle.kilim_program.specs.Program.{Program}
use Rattle.kilim_run_state.specs.declared.value.Object.{Object}
use Rattle.kilim_run_machine.specs.Does.{element_type}
use Rattle.kilim_run_state.specs.Machine.{Objects}
use Rattle.kilim_program.specs.Members.{object_fields}
use Rattle.kilim_run_state.specs.Shapes.{field_in}
use Rattle.kilim_run_model.specs.Reach.{Below, FieldNames, Here, Holds, Names, SomeNames, Then}
use Rattle.kilim_type_sound.specs.Fits.{Classes, ContentFits, FieldFits, FieldsFit}
use Rattle.kilim_type_sound.specs.Fits as fits
use Rattle.kilim_type_laws.proofs.members.ClassMethods.{IsAmong}
use Rattle.kilim_isolation_laws.proofs.tree_types.Apart.{AreApart, fields_apart}
use Rattle.kilim_isolation_laws.specs.graph_rows.Holds.{Anything, Fits, HeapFits, Own, Sort, Tree, Wide, Word, field_sort, field_sort_of, object_sort, sort_by, type_sort}

none_some : {A : Type 0} (x : A) → None ≡ Some x → ⊥
none_some x e = cc

abbrev pub IsThere : Objects → ℕ → Type 0
IsThere h n = (o : Object) × (get h n ≡ Some o)

pub names_ref : (v : Value) (n : ℕ) → Names v n → v ≡ Ref n
names_ref (Ref m) n e = ap Ref e
names_ref (Int x) n e = absurd e
names_ref (Long x) n e = absurd e
names_ref Null n e = absurd e
names_ref (Text units) n e = absurd e
names_ref (Box box) n e = absurd e
names_ref Fiber n e = absurd e

pub some_at : (vs : List Value) (n : ℕ) → SomeNames vs n → (k : ℕ) × (slice_get vs k ≡ Some (Ref n))
some_at [] n s = absurd s
some_at (v ∷ vs) n (inl e) = (0, ap (λ (z : Value). Some z) (names_ref v n e))
some_at (v ∷ vs) n (inr s) = let r = some_at vs n s in (suc r.0, r.1)

-- ---- sorts that hold objects

any_no : (p : Program) (ty : Ty) (k : Kind) → sort_by p ty k ≡ Anything → ⊥
any_no p ty kind.Value e = cc
any_no p ty kind.Tree e = cc
any_no p ty kind.Private e = cc

pub object_any : (p : Program) (ty : Ty) → object_sort p ty ≡ Anything → ⊥
object_any p ty e = any_no p ty (kind_of p ty) e

word_any : Word ≡ Anything → ⊥
word_any e = cc

wide_any : Wide ≡ Anything → ⊥
wide_any e = cc

any_by : (p : Program) (d : ℕ) (b : Base) → type_sort p (record { dims = d; base = b }) ≡ Anything → ⊥
any_by p (suc d) b e = object_any p (record { dims = suc d; base = b }) e
any_by p zero (base.Class c) e = object_any p (record { dims = 0; base = base.Class c }) e
any_by p zero base.Bool e = word_any e
any_by p zero base.Byte e = word_any e
any_by p zero base.Char e = word_any e
any_by p zero base.Short e = word_any e
any_by p zero base.Int e = word_any e
any_by p zero base.Long e = wide_any e

field_any : (p : Program) (o : Option Field) → field_sort_of p o ≡ Anything → ⊥
field_any p None e = word_any e
field_any p (Some field) e = any_by p field.ty.dims field.ty.base e

-- a reference of a sort is there
pub ref_there : (p : Program) (h : Objects) (s : Sort) (n : ℕ) → (s ≡ Anything → ⊥) → Fits p h s (Ref n) → IsThere h n
ref_there p h Anything n any f = absurd (any refl)
ref_there p h Wide n any f = absurd (true≢false (sym f))
ref_there p h Word n any f = absurd (none_some n (sym f.1))
ref_there p h Own n any f = let w = f.1 n refl in (w.0, w.1)
ref_there p h (Tree d x) n any f = let w = f.1 n refl in (w.0, w.1)

-- ---- each entry of an object is found

record Found (fs : List FieldId) (es : List (FieldId × Value)) (n : ℕ) : Type 0 where
  key : FieldId
  among : IsAmong key fs
  is : field_in es key ≡ Some (Ref n)

found : (p : Program) (of : Classes) (fs : List FieldId) (es : List (FieldId × Value)) (n : ℕ) → FieldsFit p of fs es → AreApart fs → FieldNames es n → Found fs es n
found p of [] [] n fit apart names = absurd names
found p of [] (e ∷ es) n fit apart names = absurd fit
found p of (f ∷ fs) [] n fit apart names = absurd fit
found p of (f ∷ fs) (e ∷ es) n fit apart (inl names) = record {
  key = f;
  among = inl refl;
  is = ap (λ (b : Bool). cond b (Some e.1) (field_in es f)) (eq-eqb e.0.0 f.0 (ap (λ (k : FieldId). k.0) fit.0)) ∙ ap (λ (z : Value). Some z) (names_ref e.1 n names);
}
found p of (f ∷ fs) (e ∷ es) n fit apart (inr names) =
    let later = found p of fs es n fit.2 apart.1 names in
    record {
      key = later.key;
      among = inr later.among;
      is = ap (λ (b : Bool). cond b (Some e.1) (field_in es later.key)) (ne_eqb e.0.0 later.key.0 (λ same. apart.0 (subst (λ (k : FieldId). IsAmong k fs) (sym (key_is f later.key (ap (λ (k : FieldId). k.0) (sym fit.0) ∙ same))) later.among))) ∙ later.is;
    }
  where
    key_is : (a b : FieldId) → a.0 ≡ b.0 → a ≡ b
    key_is a b e = ap (λ (n : ℕ). record { 0 = n }) e

field_at : (p : Program) → Keeps p → (of : Classes) (d : ℕ) (b : Base) (o : Object) (n : ℕ) → ContentFits p of d b o → FieldNames o.fields n → (f : FieldId) × (field_in o.fields f ≡ Some (Ref n))
field_at p keeps of zero (base.Class c) o n fit names = let r = found p of (object_fields p c) o.fields n fit.1 (fields_apart p keeps c) names in (r.key, r.is)
field_at p keeps of (suc d) b o n fit names = absurd (subst (λ (es : List (FieldId × Value)). FieldNames es n) fit.0 names)
field_at p keeps of zero base.Bool o n fit names = absurd fit
field_at p keeps of zero base.Byte o n fit names = absurd fit
field_at p keeps of zero base.Char o n fit names = absurd fit
field_at p keeps of zero base.Short o n fit names = absurd fit
field_at p keeps of zero base.Int o n fit names = absurd fit
field_at p keeps of zero base.Long o n fit names = absurd fit

-- ---- below an object

module _ (p : Program) (keeps : Keeps p) (of : Classes) (h : Objects) (heap : HeapFits p h) (typed : fits.HeapFits p of h) where
  held_there : (q : ℕ) (o : Object) → get h q ≡ Some o → (n : ℕ) → Holds o n → IsThere h n
  held_there q o at n (inl names) =
      let f = field_at p keeps of o.class.dims o.class.base o n (typed.objects q o at) names in
      ref_there p h (field_sort p f.0) n (field_any p (field_of p f.0)) ((heap q o at).fields f.0 (Ref n) f.1).0
  held_there q o at n (inr names) =
      let k = some_at o.elements n names in
      ref_there p h (type_sort p (element_type o.class)) n (any_by p (element_type o.class).dims (element_type o.class).base) ((heap q o at).elements k.0 (Ref n) k.1).0

  pub below_there : (n : ℕ) → IsThere h n → (x : ℕ) → Below h n x → IsThere h x
  below_there n there x (Here same) = subst (IsThere h) same there
  below_there n there x (Then y o below at holds) = held_there y o at x holds
