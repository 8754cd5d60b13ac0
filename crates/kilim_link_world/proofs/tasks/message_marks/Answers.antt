use Rattle.std.proofs.Common.{ℕ, Bool, length, map, ap, ◌∙◌}
use Rattle.std.proofs.lemmas.List.{length-map}
use Rattle.std.specs.List.{list_any}
use Rattle.kilim_program.specs.declared.class.Class.{Class}
use Rattle.kilim_program.specs.declared.class.Form.{Form}
use Rattle.kilim_program.specs.BuiltIn.{class_id}
use Rattle.kilim_program.specs.Kinds.{is_marked}
use Rattle.kilim_program.specs.Names.{class_at}
use Rattle.kilim_link_spec.specs.World.{is_message_by}
use Rattle.kilim_link_inherited.specs.Inherited.{line_in}
use Rattle.kilim_link_world.specs.Agrees.{each_below}
use Rattle.kilim_link_world.specs.Outlining.{bare, mark_at}
use Rattle.kilim_link_world.proofs.Climbing.{for_each, passed_down, same_below, message_marked}
use Rattle.kilim_link_world.proofs.tasks.message_marks.Goals as goal

pub inherited_marks-requires-clause-one_each : goal.inherited_marks-requires-clause-one_each
inherited_marks-requires-clause-one_each c = ap length c.in-Ok.ensures ∙ length-map c.args.classes.now (λ (class : Class). class.message)

pub returns : goal.returns
returns c =
    let classes = c.args.classes.now in
    let own = c.in-Ok.own in
    let of_one : Class → Bool = λ class. class.message in
    let marks : ℕ → Bool = λ k. list_any (mark_at own) (line_in (map (λ class. class.superclass) classes) (class_id k)) in
    let going_up : Form → ℕ → Bool = λ form k. is_message_by (bare classes form) (class_id k) in
    for_each c.inherited_marks.result (each_below marks (length classes)) (λ (form : Form). each_below (going_up form) (length classes))
    (λ form.
    let p = bare classes form in
    same_below marks (going_up form) (λ k. passed_down p of_one (λ d. is_marked (class_at p d)) (λ d. message_marked (class_at p d)) own c.in-Ok.ensures (class_id k)) (length classes))
    c.inherited_marks.ensures
