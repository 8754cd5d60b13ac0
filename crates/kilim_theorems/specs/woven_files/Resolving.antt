-- Code that names the same in the woven world.
use Rattle.std.specs.Prelude.{◌≡◌, Some}
use Rattle.kilim_program.specs.declared.names.ClassId.{ClassId}
use Rattle.kilim_program.specs.declared.names.MethodId.{MethodId}
use Rattle.kilim_program.specs.declared.ty.Ty.{Ty}
use Rattle.kilim_program.specs.Program.{Program}
use Rattle.kilim_program.specs.Names.{method_at}
use Rattle.kilim_link_spec.specs.declared.fault.MemberOf.{MemberOf as MemberRef}
use Rattle.kilim_link_spec.specs.declared.named.Named.{Named}
use Rattle.kilim_link_spec.specs.World.{World}
use Rattle.kilim_link_spec.specs.Types.{class_named_by, type_named}
use Rattle.kilim_link_spec.specs.Code.{field_found, method_found}
use Rattle.kilim_class_making.specs.declared.pool_needs.need.Need.{Need}
use Rattle.kilim_class_making.specs.declared.pool_needs.need.Need.TheVariants.{AMethod}
use Rattle.kilim_theorems.specs.woven_files.Members.{pausing}
use Rattle.kilim_weave_file_spec.specs.Texts.{woven_descriptor}
use Rattle.kilim_weave_file_spec.specs.Raw.{pauses}

-- what the plain world finds, the woven one finds, a method that pauses with the fiber
pub record WorldsAgree (w : Program) (u v : World) : Type 0 where
  pub fields : (ref : MemberRef) → field_found v ref ≡ field_found u ref
  pub classes : (n : Named) (c : ClassId) → class_named_by u n ≡ Some c → class_named_by v n ≡ Some c
  pub types : (n : Named) (ty : Ty) → type_named u n ≡ Some ty → type_named v n ≡ Some ty
  pub methods : (ref : MemberRef) (id : MethodId) → method_found u ref ≡ Some id →
      method_found v (record ref { descriptor = pausing woven_descriptor (pauses (method_at w id)) ref.descriptor }) ≡ Some id

-- what weaving adds is found in the woven world
abbrev pub IsFound : World → Need → MethodId → Type 0
IsFound v (AMethod owner name descriptor) id = method_found v (record { owner = owner; name = name; descriptor = descriptor }) ≡ Some id
IsFound v need id = ⊥
