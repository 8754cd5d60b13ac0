-- The two machines begin alike.
use Rattle.std.proofs.Common.{◌≡◌, ℕ, zero, suc, ◌≤◌, Bool, true, false, cond, List, [], ◌∷◌, length, Option, Some, None, refl, sym, ap, subst, ◌∙◌, inl, inr, arith, map}
use Rattle.std.specs.Prelude.{slice_get, ◌==◌, ◌&&◌}
use Rattle.std.specs.FinMap.{empty, get, insert, get-empty}
use Rattle.std.proofs.lemmas.Bool.Decides.{eqb_tells}
use Rattle.std.proofs.lemmas.Bool.{ne_eqb}
use Rattle.std.proofs.lemmas.Option.{same_Some, none-some}
use Rattle.kilim_lemmas.proofs.Maps.{put_there, put_other}
use Rattle.kilim_program.specs.Program.{Program}
use Rattle.kilim_program.specs.declared.class.Field.{Field}
use Rattle.kilim_program.specs.declared.class.Method.{Method}
use Rattle.kilim_program.specs.declared.names.FieldId.{FieldId}
use Rattle.kilim_program.specs.declared.names.MethodId.{MethodId}
use Rattle.kilim_program.specs.declared.ty.Base.{Base}
use Rattle.kilim_program.specs.declared.ty.Base.TheVariants as base
use Rattle.kilim_program.specs.declared.ty.Ty.{Ty}
use Rattle.kilim_program.specs.declared.value.Value.TheVariants.{Null}
use Rattle.kilim_program.specs.Names.{◌>>=◌, field_of, method_at, class_at, is_task}
use Rattle.kilim_run_state.specs.declared.value.Object.{Object}
use Rattle.kilim_run_state.specs.Machine.{Objects, Activation}
use Rattle.kilim_program.specs.Members.{object_fields, constructor_of, is_own_constructor, is_concrete}
use Rattle.kilim_run_state.specs.Objects.{first_value_of, first_value, first_field, new_object}
use Rattle.kilim_run_model.specs.State.{Setting, is_fit, first_state, new_thread, begun_in, begun_on}
use Rattle.kilim_run_model.specs.Lone.{Lone}
use Rattle.kilim_run_model.specs.Course.{Course, lone_in, lone_begun, Stays}
use Rattle.kilim_run_model.specs.Moving.{first_books}
use Rattle.kilim_run_model.specs.declared.deed.Beginning.TheVariants.{Boot}
use Rattle.kilim_run_model.specs.kin.Kin.{Names, Owner, OfTask, OfNobody, IsKin, AreKin, FieldsKin, Alike}
use Rattle.kilim_run_model.specs.one_heap.Parted.{alone, first_parted}
use Rattle.kilim_run_model.specs.one_heap.Tied.{Party, Tied}
use Rattle.kilim_run_model.specs.one_heap.Booked.{IsOf, Booked}
use Rattle.kilim_run_model.proofs.one_heap.Nexts.{MaybeFrames, begun_kin}

-- the one name
of0 : Names
of0 n = cond (n == 0) (Some 0) None

is0 : of0 0 ≡ Some 0
unfolding of0
is0 = refl

only0 : (n x : ℕ) → of0 n ≡ Some x → (n ≡ 0) × (x ≡ 0)
unfolding of0
only0 n x e = elim (eqb_tells n 0) [
  | inl d ↦ (d.1, sym (same_Some _ _ (sym (ap (λ (b : Bool). cond b (Some 0) None) d.0) ∙ e)))
  | inr d ↦ absurd (none-some x (sym (ap (λ (b : Bool). cond b (Some 0) None) d.0) ∙ e))
]

owner0 : ℕ → Owner
owner0 x = cond (x == 0) (OfTask 0) OfNobody

is_mine : owner0 0 ≡ OfTask 0
unfolding owner0
is_mine = refl

is_nobodys : (x : ℕ) → 1 ≤ x → owner0 x ≡ OfNobody
unfolding owner0
is_nobodys x le = ap (λ (b : Bool). cond b (OfTask 0) OfNobody) (ne_eqb x 0 (λ e. omega (arith, le, e)))

base_kin : (b : Base) → IsKin of0 (first_value_of b) (first_value_of b)
base_kin base.Long = refl
base_kin (base.Class c) = tt
base_kin base.Bool = refl
base_kin base.Byte = refl
base_kin base.Char = refl
base_kin base.Short = refl
base_kin base.Int = refl

value_kin : (ty : Ty) → IsKin of0 (first_value ty) (first_value ty)
value_kin ty = elim (ty.dims == 0) as (λ (b : Bool). IsKin of0 (cond b (first_value_of ty.base) Null) (cond b (first_value_of ty.base) Null)) [ true ↦ base_kin ty.base | false ↦ tt ]

fields_kin : (p : Program) (fs : List FieldId) → FieldsKin of0 (map (first_field p) fs) (map (first_field p) fs)
fields_kin p [] = tt
fields_kin p (f ∷ fs) = (refl, field_kin (field_of p f), fields_kin p fs)
  where
    field_kin : (o : Option Field) → IsKin of0 (elim o [ None ↦ Null | Some field ↦ first_value field.ty ]) (elim o [ None ↦ Null | Some field ↦ first_value field.ty ])
    field_kin None = tt
    field_kin (Some field) = value_kin field.ty

module _ (set : Setting) where
  abbrev object : Object
  object = new_object set.program set.main

  abbrev heap : Objects
  heap = insert empty 0 object

  abbrev begun : Option (List Activation)
  begun = begun_on set.program (constructor_of set.program set.main) 0

  alike0 : Alike of0 owner0 0 heap heap heap
  alike0 = record {
    same = λ n o e. elim (eqb_tells n 0) [
      | inl d ↦ (
        0,
        object,
        ap of0 d.1 ∙ is0,
        put_there empty 0 object,
        record {
          class = ap (λ (z : Object). z.class) (same_Some _ _ (sym e ∙ (ap (get heap) d.1 ∙ put_there empty 0 object)));
          fields = subst (λ (z : Object). FieldsKin of0 z.fields object.fields) (same_Some _ _ (sym (put_there empty 0 object) ∙ (ap (get heap) (sym d.1) ∙ e))) (fields_kin set.program (object_fields set.program set.main));
          elements = subst (λ (z : Object). AreKin of0 z.elements object.elements) (same_Some _ _ (sym (put_there empty 0 object) ∙ (ap (get heap) (sym d.1) ∙ e))) tt;
        },
        is_mine,
      )
      | inr d ↦ absurd (none-some o (sym (put_other empty 0 object n d.1 ∙ get-empty _ n) ∙ e))
    ];
    apart = λ n m x o q c d e f. (only0 n x c).0 ∙ sym (only0 m x d).0;
    rest = λ x. inl refl;
  }

  parties0 : (o : Option (List Activation)) → MaybeFrames of0 o o → (t : ℕ) → Party owner0 (first_state set) t (slice_get (alone (lone_in heap 1 (Some 0) o)) t) (slice_get (new_thread o) t)
  parties0 None e t = tt
  parties0 (Some fs) e zero = (
    of0,
    record { threads = (e, refl, refl); heaps = alike0; kept = is0; below = λ n x d. let z = (only0 n x d).0 in omega (arith, z); free = λ x le. is_nobodys x le; keeps = λ d. absurd (d refl) },
  )
  parties0 (Some fs) e (suc t) = tt

  count0 : (o : Option (List Activation)) → length (alone (lone_in heap 1 (Some 0) o)) ≡ length (new_thread o)
  count0 None = refl
  count0 (Some fs) = refl

  pub first_tied : Tied set (first_parted set) (first_state set)
  first_tied = record {
    owner = owner0;
    by = record {
      fresh = λ x le. is_nobodys x le;
      count = count0 begun;
      parties = parties0 begun (begun_kin set.program of0 0 0 is0 (constructor_of set.program set.main));
      boxes = λ box. record { most = refl; counts = refl; first = 0; queued = refl };
      journal = refl;
    };
  }

  -- ---- where the main class is fit, task 0 is there

  booked0 : (o : Option Lone) (l : Lone) → o ≡ Some l → lone_begun set Boot ≡ o → Booked set (record { lones = alone o; mailboxes = (first_parted set).mailboxes; journal = [] }) first_books
  booked0 None l e is = absurd (none-some l e)
  booked0 (Some a) l e is = record {
    count = refl;
    few = omega arith;
    each = each0;
    mail = λ box. refl;
  }
    where
      each0 : (t : ℕ) (k : Lone) (c : Course) → slice_get (a ∷ []) t ≡ Some k → slice_get first_books.courses t ≡ Some c → IsOf set t c k
      each0 zero k c is_k is_c =
          subst (λ (z : Lone). IsOf set 0 c z) (same_Some _ _ is_k)
          (subst (λ (z : Course). IsOf set 0 z a) (same_Some _ _ is_c) (record { last = a; is = record { first = a; begins = is; follows = refl }; quiet = Stays refl }))
      each0 (suc t) k c is_k is_c = absurd (none-some k is_k)

  pub first_booked : (l : Lone) → lone_begun set Boot ≡ Some l → Booked set (first_parted set) first_books
  first_booked l e = booked0 (lone_begun set Boot) l e refl

  begun_some : (o : Option MethodId) → is_own_constructor (o >>= method_at set.program) ≡ true → (fs : List Activation) × (begun_on set.program o 0 ≡ Some fs)
  begun_some None e = absurd (cc)
  begun_some (Some m) e = found (method_at set.program m) e
    where
      found : (o : Option Method) → is_own_constructor o ≡ true → (fs : List Activation) × (begun_in set.program m 0 o ≡ Some fs)
      found None e = absurd (cc)
      found (Some method) e = (_, refl)

  lone_some : (o : Option (List Activation)) (fs : List Activation) → o ≡ Some fs → (l : Lone) × (lone_in heap 1 (Some 0) o ≡ Some l)
  lone_some None fs e = absurd (none-some fs e)
  lone_some (Some gs) fs e = (_, refl)

  constructs : (a b : Bool) (c : Bool) → (a && (b && c)) ≡ true → c ≡ true
  constructs true true c e = e
  constructs true false c e = absurd (cc)
  constructs false b c e = absurd (cc)

  pub first_there : is_fit set ≡ true → (l : Lone) × (lone_begun set Boot ≡ Some l)
  first_there fit =
      let e = constructs (is_concrete (class_at set.program set.main)) (is_task set.program set.main) (is_own_constructor (constructor_of set.program set.main >>= method_at set.program)) fit in
      let fs = begun_some (constructor_of set.program set.main) e in
      lone_some begun fs.0 fs.1
