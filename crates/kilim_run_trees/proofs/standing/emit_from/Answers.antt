use Rattle.std.proofs.Common.{◌≡◌, ◌<◌, ◌≤◌, ◌∙◌, sym, ap, subst, List, length, get_or}
use Rattle.kilim_program.specs.declared.value.Value.{Value}
use Rattle.kilim_run_state.specs.Shapes.{tree_limit}
use Rattle.kilim_run_trees.specs.Standing.{held_of}
use Rattle.kilim_run_trees.proofs.Remaining.{holds, root_there, emitting_first, top_there, emitting_end, value_at, ref_there, value_done, ValueAt}
use Rattle.kilim_run_trees.proofs.standing.emit_from.Goals as goal

pub begin_at-requires : goal.begin_at-requires
begin_at-requires c = root_there c.args.program.now c.args.heap.now tree_limit c.args.root c.requires.shape.tokens c.requires.shape.suit c.requires.shape.are

pub loop-at-init : goal.loop-at-init
loop-at-init c = emitting_first c.args.program.now c.args.heap.now tree_limit c.args.root c.requires.shape.tokens _ _ _ _ c.requires.shape.suit c.requires.shape.are c.requires.no_tokens c.requires.no_frames c.in-Ok.ensures.tokens c.in-Ok.ensures.frames

pub object-object-requires : goal.object-object-requires
object-object-requires c = top_there c.args.program.now c.args.heap.now tree_limit c.args.root c.in-Some.at c.in-Some.next _ c.loop-at.frames.items c.pop.new.self.items c.loop-at.invariant c.in-Some.ensures.items

pub loop-at-preserved-in-Ok-push : goal.loop-at-preserved-in-Ok-push
loop-at-preserved-in-Ok-push c =
    let long : length (held_of c.args.heap.now c.in-Some.at) ≤ c.in-Some.next = subst (λ (vs : List Value). length vs ≤ c.in-Some.next) (sym (holds c.args.heap.now c.in-Some.at c.object-object.result.now c.object-object.ensures)) c.in-None.ensures in
    (emitting_end c.args.program.now c.args.heap.now tree_limit c.args.root c.in-Some.at c.in-Some.next _ _ c.loop-at.frames.items c.pop.new.self.items c.loop-at.invariant c.in-Some.ensures.items long c.in-Ok-push.ensures.ok).0

pub loop-at-smaller-in-Ok-push : goal.loop-at-smaller-in-Ok-push
loop-at-smaller-in-Ok-push c =
    let long : length (held_of c.args.heap.now c.in-Some.at) ≤ c.in-Some.next = subst (λ (vs : List Value). length vs ≤ c.in-Some.next) (sym (holds c.args.heap.now c.in-Some.at c.object-object.result.now c.object-object.ensures)) c.in-None.ensures in
    (emitting_end c.args.program.now c.args.heap.now tree_limit c.args.root c.in-Some.at c.in-Some.next _ _ c.loop-at.frames.items c.pop.new.self.items c.loop-at.invariant c.in-Some.ensures.items long c.in-Ok-push.ensures.ok).1

pub emit_at-requires : goal.emit_at-requires
emit_at-requires c =
    let same = sym (holds c.args.heap.now c.in-Some.at c.object-object.result.now c.object-object.ensures) in
    let v : Value = c.in-Some-value_in.value.now in
    let within : c.in-Some.next < length (held_of c.args.heap.now c.in-Some.at) = subst (λ (vs : List Value). c.in-Some.next < length vs) same c.in-Some-value_in.ensures.0 in
    let is : v ≡ get_or (held_of c.args.heap.now c.in-Some.at) c.in-Some.next v = subst (λ (vs : List Value). v ≡ get_or vs c.in-Some.next v) same c.in-Some-value_in.ensures.1 in
    ref_there c.args.program.now c.args.heap.now tree_limit c.args.root v _ _ _ c.requires.shape.suit
    (value_at c.args.program.now c.args.heap.now tree_limit c.args.root c.in-Some.at c.in-Some.next c.in-Some-checked_add.after v c.loop-at.tokens c.loop-at.frames.items c.pop.new.self.items c.push_frame.new.frames.items c.loop-at.invariant c.in-Some.ensures.items within is c.in-Some-checked_add.ensures.1 c.in-Ok-push_frame.ensures)

pub loop-at-smaller : goal.loop-at-smaller
loop-at-smaller c =
    let same = sym (holds c.args.heap.now c.in-Some.at c.object-object.result.now c.object-object.ensures) in
    let v : Value = c.in-Some-value_in.value.now in
    let within : c.in-Some.next < length (held_of c.args.heap.now c.in-Some.at) = subst (λ (vs : List Value). c.in-Some.next < length vs) same c.in-Some-value_in.ensures.0 in
    let is : v ≡ get_or (held_of c.args.heap.now c.in-Some.at) c.in-Some.next v = subst (λ (vs : List Value). v ≡ get_or vs c.in-Some.next v) same c.in-Some-value_in.ensures.1 in
    (value_done c.args.program.now c.args.heap.now tree_limit c.args.root v _ _ _ _ _ c.requires.shape.suit
    (value_at c.args.program.now c.args.heap.now tree_limit c.args.root c.in-Some.at c.in-Some.next c.in-Some-checked_add.after v c.loop-at.tokens c.loop-at.frames.items c.pop.new.self.items c.push_frame.new.frames.items c.loop-at.invariant c.in-Some.ensures.items within is c.in-Some-checked_add.ensures.1 c.in-Ok-push_frame.ensures) c.in-Ok-emit_at.ensures).1

pub loop-at-preserved : goal.loop-at-preserved
loop-at-preserved c =
    let same = sym (holds c.args.heap.now c.in-Some.at c.object-object.result.now c.object-object.ensures) in
    let v : Value = c.in-Some-value_in.value.now in
    let within : c.in-Some.next < length (held_of c.args.heap.now c.in-Some.at) = subst (λ (vs : List Value). c.in-Some.next < length vs) same c.in-Some-value_in.ensures.0 in
    let is : v ≡ get_or (held_of c.args.heap.now c.in-Some.at) c.in-Some.next v = subst (λ (vs : List Value). v ≡ get_or vs c.in-Some.next v) same c.in-Some-value_in.ensures.1 in
    (value_done c.args.program.now c.args.heap.now tree_limit c.args.root v _ _ _ _ _ c.requires.shape.suit
    (value_at c.args.program.now c.args.heap.now tree_limit c.args.root c.in-Some.at c.in-Some.next c.in-Some-checked_add.after v c.loop-at.tokens c.loop-at.frames.items c.pop.new.self.items c.push_frame.new.frames.items c.loop-at.invariant c.in-Some.ensures.items within is c.in-Some-checked_add.ensures.1 c.in-Ok-push_frame.ensures) c.in-Ok-emit_at.ensures).0
