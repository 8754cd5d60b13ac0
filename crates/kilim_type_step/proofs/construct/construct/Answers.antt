use Rattle.std.proofs.Common.{◌∷◌, [], sym, length}
use Rattle.std.specs.Option.{option_to_list}
use Rattle.kilim_type_spec.specs.Step.{needs}
use Rattle.kilim_type_step.specs.Operands.{operands_of}
use Rattle.kilim_type_step.proofs.Constructing.{passes_four, constructs_abstract, constructs_fits, constructs_none, constructs_not}
use Rattle.kilim_type_step.proofs.construct.construct.Goals as goal

pub returns-then-not-fits : goal.returns-then-not-fits
returns-then-not-fits c =
    passes_four _ _ _ _ _ _ (sym c.if-not-has_object.ensures) (sym c.if-not-has_room_above.ensures) (sym c.if-not-all_meet.ensures) c.if-not-named.false
    (constructs_abstract c.args.program.now c.args.method.now c.args.class (option_to_list c.args.gives) c.args.fits (length (operands_of c.args.takes.now)) c.in-Some.object c.args.state.now c.in-Some-class_made.made
    (sym c.in-Some.ensures) (sym c.in-Some-class_made.ensures) c.if-not-fits.true)

pub returns-in-Ok : goal.returns-in-Ok
returns-in-Ok c =
    passes_four _ _ _ _ _ _ (sym c.if-not-has_object.ensures) (sym c.if-not-has_room_above.ensures) (sym c.if-not-all_meet.ensures) c.if-not-named.false
    (constructs_fits c.args.program.now c.args.method.now c.args.class (option_to_list c.args.gives) c.args.fits (length (operands_of c.args.takes.now)) c.in-Some.object c.args.state.now c.finish.new.state c.in-Some-class_made.made
    (sym c.in-Some.ensures) (sym c.in-Some-class_made.ensures) c.if-not-fits.false c.in-Ok.ensures)

pub returns-in-None-class_made : goal.returns-in-None-class_made
returns-in-None-class_made c =
    passes_four _ _ _ _ _ _ (sym c.if-not-has_object.ensures) (sym c.if-not-has_room_above.ensures) (sym c.if-not-all_meet.ensures) c.if-not-named.false
    (constructs_not c.args.program.now c.args.method.now c.args.class (option_to_list c.args.gives) (needs 14 c.args.fits ∷ []) (length (operands_of c.args.takes.now)) c.in-Some.object c.args.state.now
    (sym c.in-Some.ensures) (sym c.in-None-class_made.ensures))

pub returns-in-None : goal.returns-in-None
returns-in-None c =
    passes_four _ _ _ _ _ _ (sym c.if-not-has_object.ensures) (sym c.if-not-has_room_above.ensures) (sym c.if-not-all_meet.ensures) c.if-not-named.false
    (constructs_none c.args.program.now c.args.method.now c.args.class (option_to_list c.args.gives) (needs 14 c.args.fits ∷ []) (length (operands_of c.args.takes.now)) c.args.state.now (sym c.in-None.ensures))
