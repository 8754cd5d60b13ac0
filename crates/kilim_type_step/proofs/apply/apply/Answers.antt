use Rattle.std.proofs.Common.{◌∙◌, Ok, ap, sym, drop, rules}
use Rattle.std.specs.Option.{option_to_list}
use Rattle.kilim_type_spec.specs.Step.{Types, room_for}
use Rattle.kilim_type_step.specs.Operands.{furthers_of}
use Rattle.kilim_type_step.proofs.Rows.{further_breaks, further_holds, operands_long, passes_three, stops_at_operands, stops_at_room}
use Rattle.kilim_type_step.proofs.apply.apply.Goals as goal

pub returns-then-not-has_room : goal.returns-then-not-has_room
returns-then-not-has_room c =
    stops_at_room _ _ _ (sym c.if-not-has_operands.ensures)
    (ap (λ n. room_for c.args.method.now (option_to_list c.args.gives) (drop n c.args.state.now.stack)) (operands_long c.args.takes.now) ∙ sym c.if-not-has_room.ensures)

pub returns-then-not-all_meet : goal.returns-then-not-all_meet
returns-then-not-all_meet c =
    stops_at_operands _ _ _ _ (sym c.if-not-has_operands.ensures)
    (ap (λ n. room_for c.args.method.now (option_to_list c.args.gives) (drop n c.args.state.now.stack)) (operands_long c.args.takes.now) ∙ sym c.if-not-has_room.ensures) (sym c.if-not-all_meet.ensures)

pub returns-in-Some : goal.returns-in-Some
returns-in-Some c =
    passes_three _ _ _ _ _ (sym c.if-not-has_operands.ensures)
    (ap (λ n. room_for c.args.method.now (option_to_list c.args.gives) (drop n c.args.state.now.stack)) (operands_long c.args.takes.now) ∙ sym c.if-not-has_room.ensures) (sym c.if-not-all_meet.ensures)
    (further_breaks c.args.program.now (furthers_of c.args.also.now) c.args.state.now.stack _ c.in-Some.rule (sym c.in-Some.ensures))

pub returns-in-Ok : goal.returns-in-Ok
returns-in-Ok c =
    passes_three _ _ _ _ _ (sym c.if-not-has_operands.ensures)
    (ap (λ n. room_for c.args.method.now (option_to_list c.args.gives) (drop n c.args.state.now.stack)) (operands_long c.args.takes.now) ∙ sym c.if-not-has_room.ensures) (sym c.if-not-all_meet.ensures)
    (further_holds c.args.program.now (furthers_of c.args.also.now) c.args.state.now.stack _ (search rules) ∙ ap (λ (f : Types). Ok f) (sym c.in-Ok.ensures))
