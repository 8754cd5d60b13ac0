-- The first fiber, and the first thread.
use Rattle.std.proofs.Common.{◌≡◌, ℕ, Bool, true, false, cond, List, [], ◌∷◌, map, Option, Some, None, refl, ap}
use Rattle.std.specs.Prelude.{◌==◌}
use Rattle.std.specs.FinMap.{empty, insert, get-empty}
use Rattle.kilim_program.specs.Program.{Program}
use Rattle.kilim_program.specs.declared.class.Field.{Field}
use Rattle.kilim_program.specs.declared.names.ClassId.{ClassId}
use Rattle.kilim_program.specs.declared.names.FieldId.{FieldId}
use Rattle.kilim_program.specs.declared.ty.Base.{Base}
use Rattle.kilim_program.specs.declared.ty.Base.TheVariants as base
use Rattle.kilim_program.specs.declared.ty.Ty.{Ty}
use Rattle.kilim_program.specs.declared.value.Value.TheVariants.{Null}
use Rattle.kilim_program.specs.Names.{field_of}
use Rattle.kilim_run_state.specs.Machine.{Objects, Activation}
use Rattle.kilim_program.specs.Members.{object_fields, constructor_of}
use Rattle.kilim_run_state.specs.Objects.{first_value_of, first_value, first_field, new_object}
use Rattle.kilim_run_model.specs.State.{Setting, Alive, begun_on}
use Rattle.kilim_run_model.specs.Lone.{Lone}
use Rattle.kilim_run_model.specs.Course.{lone_in, lone_begun}
use Rattle.kilim_run_model.specs.declared.deed.Beginning.TheVariants.{Boot}
use Rattle.kilim_run_model.specs.kin.Kin.{Names, IsKin, FieldsKin, ObjectsKin}
use Rattle.kilim_run_model.proofs.one_heap.Nexts.{begun_kin}
use Rattle.kilim_fiber_spec.specs.fiber_kin.Held.{as_lone, Like}
use Rattle.kilim_fiber_spec.proofs.fiber_kin.Added.{added, added_new, added_bound, alike_made}
use Rattle.kilim_fiber_spec.proofs.fiber_kin.Came.{no_names, nothing, none_below, frames_some}

module _ (of : Names) where
  base_kin : (b : Base) → IsKin of (first_value_of b) (first_value_of b)
  base_kin base.Long = refl
  base_kin (base.Class c) = tt
  base_kin base.Bool = refl
  base_kin base.Byte = refl
  base_kin base.Char = refl
  base_kin base.Short = refl
  base_kin base.Int = refl

  value_kin : (ty : Ty) → IsKin of (first_value ty) (first_value ty)
  value_kin ty = elim (ty.dims == 0) as (λ (b : Bool). IsKin of (cond b (first_value_of ty.base) Null) (cond b (first_value_of ty.base) Null)) [ true ↦ base_kin ty.base | false ↦ tt ]

  fields_kin : (p : Program) (fs : List FieldId) → FieldsKin of (map (first_field p) fs) (map (first_field p) fs)
  fields_kin p [] = tt
  fields_kin p (f ∷ fs) = (refl, field_kin (field_of p f), fields_kin p fs)
    where
      field_kin : (o : Option Field) → IsKin of (elim o [ None ↦ Null | Some field ↦ first_value field.ty ]) (elim o [ None ↦ Null | Some field ↦ first_value field.ty ])
      field_kin None = tt
      field_kin (Some field) = value_kin field.ty

  -- a new object names no object
  new_kin : (p : Program) (c : ClassId) → ObjectsKin of (new_object p c) (new_object p c)
  new_kin p c = record { class = refl; fields = fields_kin p (object_fields p c); elements = tt }

pub boot_like : (set : Setting) (x : ℕ) (fs : List Activation) → begun_on set.program (constructor_of set.program set.main) x ≡ Some fs →
    (l : Lone) × (lone_begun set Boot ≡ Some l) × Like l (as_lone (record { frames = fs; heap = insert empty x (new_object set.program set.main); done = 0; boxes = 0; kept = Some x }))
boot_like set x fs frames =
    let p = set.program in
    let object = new_object p set.main in
    let of : Names = added no_names 0 x in
    let named : of 0 ≡ Some x = added_new no_names 0 x in
    let h : Objects = insert empty 0 object in
    let own = frames_some of (begun_on p (constructor_of p set.main) 0) (begun_on p (constructor_of p set.main) x) fs frames (begun_kin p of 0 x named (constructor_of p set.main)) in
    let l : Lone = record { heap = h; next = 1; thread = Alive own.0 0 0; kept = Some 0 } in (
      l,
      ap (lone_in h 1 (Some 0)) own.1,
      record {
        of = of;
        is = record {
          threads = (own.2, refl, refl);
          heaps = alike_made no_names 0 x none_below empty empty (nothing empty) (get-empty _ x) object object (new_kin no_names p set.main);
          kept = named;
          below = added_bound no_names 0 x none_below;
        };
      },
    )
