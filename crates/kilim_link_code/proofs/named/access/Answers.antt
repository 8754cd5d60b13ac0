use Rattle.std.proofs.Common.{◌≡◌, Some, None, ◌∙◌}
use Rattle.kilim_link_spec.specs.Code.{field_found, field_instrs, row}
use Rattle.kilim_link_code.proofs.Found.{by_parts, none_by_parts}
use Rattle.kilim_link_code.proofs.named.access.Goals as goal

pub returns-in-Ok-Some : goal.returns-in-Ok-Some
returns-in-Ok-Some c =
    let ref = c.parted-owner.result in
    let has : c.in-Ok-Some.field-0 ≡ Some c.in-Ok-Some.field = simp c.in-Ok-Some.is at c.in-Ok-Some.field-0-is in
    c.field_instr.ensures
    ∙ by_parts (field_found c.args.world.now) (row field_instrs c.args.number) c.field_found-found.result c.in-Ok-Some.field-0 ref.0 ref.1.name ref.1.descriptor c.args.member c.in-Ok-Some.field
    c.in-Ok-Some.is has c.field_found-found.ensures c.parted-owner.ensures.owner c.parted-owner.ensures.name c.parted-owner.ensures.descriptor

pub returns-in-Ok-None : goal.returns-in-Ok-None
returns-in-Ok-None c =
    let ref = c.parted-owner.result in
    let has : c.in-Ok-None.field-0 ≡ None = simp c.in-Ok-None.is at c.in-Ok-None.field-0-is in
    none_by_parts (field_found c.args.world.now) (row field_instrs c.args.number) c.field_found-found.result c.in-Ok-None.field-0 ref.0 ref.1.name ref.1.descriptor c.args.member
    c.in-Ok-None.is has c.field_found-found.ensures c.parted-owner.ensures.owner c.parted-owner.ensures.name c.parted-owner.ensures.descriptor
