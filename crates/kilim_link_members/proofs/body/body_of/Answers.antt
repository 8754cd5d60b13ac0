use Rattle.std.proofs.Common.{sym, ◌∙◌}
use Rattle.kilim_link_members.proofs.Bodies.{no_parts, no_frames, has_body}
use Rattle.kilim_link_members.proofs.body.body_of.Goals as goal

pub returns-in_default-parts : goal.returns-in_default-parts
returns-in_default-parts c =
    no_parts c.args.world.now c.args.file.now c.args.class c.args.method.now c.args.declared.now c.requires c.args.code.now
    c.in-Ok-parts_in.parts c.in-Ok-parts_in.ensures c.in_default-parts.is

pub returns-in-Ok-Some : goal.returns-in-Ok-Some
returns-in-Ok-Some c =
    has_body c.args.world.now c.args.file.now c.args.class c.args.method.now c.args.declared.now c.requires c.args.code.now
    c.in-Ok-parts_in.parts c.in-Ok-parts_in.ensures c.in-Some.instrs c.in-Some.handlers c.in-Some.is c.in-Ok.code_length c.in-Ok-Some.frames c.in-Ok.ensures (sym c.in-Ok-Some.field-0-is ∙ c.in-Ok-Some.ensures)

pub returns-in-Ok-None : goal.returns-in-Ok-None
returns-in-Ok-None c =
    no_frames c.args.world.now c.args.file.now c.args.class c.args.method.now c.args.declared.now c.requires c.args.code.now
    c.in-Ok-parts_in.parts c.in-Ok-parts_in.ensures c.in-Some.instrs c.in-Some.handlers c.in-Some.is (sym c.in-Ok-None.field-0-is ∙ c.in-Ok-None.ensures)
