use Rattle.std.proofs.Common.{◌≡◌, Bool, List, length, ap, ◌∙◌, subst, arith}
use Rattle.std.proofs.lemmas.List.{length-map}
use Rattle.kilim_program.specs.declared.class.Class.{Class}
use Rattle.kilim_program.specs.BuiltIn.{class_id}
use Rattle.kilim_link_spec.specs.declared.view.ClassView.{ClassView}
use Rattle.kilim_link_spec.specs.World.{outline_with, is_message_by}
use Rattle.kilim_link_world.specs.Agrees.{each_below}
use Rattle.kilim_link_world.specs.Outlining.{bare, mark_at}
use Rattle.kilim_link_world.proofs.Outlines.{length_outlined, own_outline, message_outline, length_messages}
use Rattle.kilim_link_world.proofs.outline.Outline.new.Goals as goal

pub outlined-requires-clause-marked : goal.outlined-requires-clause-marked
outlined-requires-clause-marked c = ap length c.in-Ok.ensures ∙ length-map c.args.classes.now (λ (v : ClassView). v.is_marked)

pub message_marks-requires : goal.message_marks-requires
message_marks-requires c =
    let vs = c.args.classes.now in
    let len : length c.as_slice.result.now ≡ length vs =
    ap length c.as_slice.ensures ∙ (ap length c.in-Ok-outlined.ensures ∙ length_outlined vs (λ d v. mark_at c.in-Ok.own d) 0 vs) in
    let few = c.requires.few in
    omega arith

pub outline_with-requires-clause-marked : goal.outline_with-requires-clause-marked
outline_with-requires-clause-marked c =
    let vs = c.args.classes.now in
    let form = c.args.form in
    let p = bare c.in-Ok-outlined.marked form in
    let is : p ≡ outline_with form vs (λ d v. v.is_marked) =
    ap (λ (cs : List Class). bare cs form) c.in-Ok-outlined.ensures ∙ (ap (λ (ms : List Bool). outline_with form vs (λ d v. mark_at ms d)) c.in-Ok.ensures ∙ own_outline form vs) in
    let are = subst (λ (cs : List Class). c.in-Ok-message_marks.marks ≡ each_below (λ k. is_message_by (bare cs form) (class_id k)) (length cs)) c.as_slice.ensures (c.in-Ok-message_marks.ensures form) in
    length_messages (λ k. is_message_by p (class_id k)) form vs c.in-Ok-message_marks.marks p is are

pub returns : goal.returns
returns c =
    let vs = c.args.classes.now in
    let form = c.args.form in
    let p = bare c.in-Ok-outlined.marked form in
    let is : p ≡ outline_with form vs (λ d v. v.is_marked) =
    ap (λ (cs : List Class). bare cs form) c.in-Ok-outlined.ensures ∙ (ap (λ (ms : List Bool). outline_with form vs (λ d v. mark_at ms d)) c.in-Ok.ensures ∙ own_outline form vs) in
    let are = subst (λ (cs : List Class). c.in-Ok-message_marks.marks ≡ each_below (λ k. is_message_by (bare cs form) (class_id k)) (length cs)) c.as_slice.ensures (c.in-Ok-message_marks.ensures form) in
    rw (← message_outline form vs c.in-Ok-message_marks.marks p is are) c.outline_with.ensures
