use Rattle.kilim_run_state.specs.Shapes.{tree_limit}
use Rattle.kilim_run_trees.proofs.Emitting.{first_within, emitting_first, emitting_end, value_there, ref_within, value_done}
use Rattle.kilim_run_trees.proofs.shapes.emit_into.Goals as goal

pub begin-requires : goal.begin-requires
begin-requires c = first_within c.args.program.now c.args.objects.now tree_limit c.requires.shape.tokens c.requires.shape.suit c.requires.shape.are

pub loop-at-init : goal.loop-at-init
loop-at-init c = emitting_first c.args.program.now c.args.objects.now tree_limit c.requires.shape.tokens _ _ _ _ c.requires.shape.suit c.requires.shape.are c.requires.no_tokens c.requires.no_frames c.in-Ok.ensures.tokens c.in-Ok.ensures.frames

pub loop-at-preserved-in-Ok-push : goal.loop-at-preserved-in-Ok-push
loop-at-preserved-in-Ok-push c = (emitting_end c.args.program.now c.args.objects.now tree_limit c.in-Some.at c.in-Some.next _ _ c.loop-at.frames.items c.pop.new.self.items c.loop-at.invariant c.in-Some.ensures.items c.in-None.ensures c.in-Ok-push.ensures.ok).0

pub loop-at-smaller-in-Ok-push : goal.loop-at-smaller-in-Ok-push
loop-at-smaller-in-Ok-push c = (emitting_end c.args.program.now c.args.objects.now tree_limit c.in-Some.at c.in-Some.next _ _ c.loop-at.frames.items c.pop.new.self.items c.loop-at.invariant c.in-Some.ensures.items c.in-None.ensures c.in-Ok-push.ensures.ok).1

pub emit-requires : goal.emit-requires
emit-requires c = ref_within c.args.program.now c.args.objects.now tree_limit c.in-Some-value_at.value.now _ _ _ c.requires.shape.suit (value_there c.args.program.now c.args.objects.now tree_limit c.in-Some.at c.in-Some.next c.in-Some-checked_add.after c.in-Some-value_at.value.now c.loop-at.tokens c.loop-at.frames.items c.pop.new.self.items c.push_frame.new.frames.items c.loop-at.invariant c.in-Some.ensures.items c.in-Some-value_at.ensures.0 c.in-Some-value_at.ensures.1 c.in-Some-checked_add.ensures.1 c.in-Ok-push_frame.ensures)

pub loop-at-smaller : goal.loop-at-smaller
loop-at-smaller c = (value_done c.args.program.now c.args.objects.now tree_limit c.in-Some-value_at.value.now _ _ _ _ _ c.requires.shape.suit (value_there c.args.program.now c.args.objects.now tree_limit c.in-Some.at c.in-Some.next c.in-Some-checked_add.after c.in-Some-value_at.value.now c.loop-at.tokens c.loop-at.frames.items c.pop.new.self.items c.push_frame.new.frames.items c.loop-at.invariant c.in-Some.ensures.items c.in-Some-value_at.ensures.0 c.in-Some-value_at.ensures.1 c.in-Some-checked_add.ensures.1 c.in-Ok-push_frame.ensures) c.in-Ok-emit.ensures).1

pub loop-at-preserved : goal.loop-at-preserved
loop-at-preserved c = (value_done c.args.program.now c.args.objects.now tree_limit c.in-Some-value_at.value.now _ _ _ _ _ c.requires.shape.suit (value_there c.args.program.now c.args.objects.now tree_limit c.in-Some.at c.in-Some.next c.in-Some-checked_add.after c.in-Some-value_at.value.now c.loop-at.tokens c.loop-at.frames.items c.pop.new.self.items c.push_frame.new.frames.items c.loop-at.invariant c.in-Some.ensures.items c.in-Some-value_at.ensures.0 c.in-Some-value_at.ensures.1 c.in-Some-checked_add.ensures.1 c.in-Ok-push_frame.ensures) c.in-Ok-emit.ensures).0
