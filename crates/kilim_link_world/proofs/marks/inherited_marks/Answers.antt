use Rattle.std.proofs.Common.{◌≡◌, ℕ, Bool, List, Option, length, map, ◌∙◌, subst}
use Rattle.std.specs.Prelude.{IfOk, is_some}
use Rattle.std.specs.List.{list_any}
use Rattle.kilim_program.specs.declared.names.ClassId.{ClassId}
use Rattle.kilim_program.specs.BuiltIn.{class_id}
use Rattle.kilim_link_inherited.specs.declared.entry.Entry.{Entry}
use Rattle.kilim_link_inherited.specs.Inherited.{line_in}
use Rattle.kilim_link_inherited.specs.Roots.{inherits, IsRight}
use Rattle.kilim_link_world.specs.Outlining.{mark_at}
use Rattle.kilim_link_world.specs.Superclasses.{mark_entries}
use Rattle.kilim_link_world.proofs.Climbing.{marks_are, same_below}
use Rattle.kilim_link_world.proofs.marks.inherited_marks.Goals as goal

pub returns : goal.returns
returns c =
    let inherited = c.in-Ok-marks_above.inherited in
    let own = c.args.own.now in
    let classes = c.args.classes.now in
    let ups : List (Option ClassId) = map (λ class. class.superclass) classes in
    let entries : List (List Entry) = map mark_entries own in
    let ups_are : c.as_slice.result.now ≡ ups = c.as_slice.ensures ∙ c.in-Ok.ensures in
    let right : IsRight ups entries inherited =
    subst (λ (us : List (Option ClassId)). IsRight us entries inherited) ups_are (subst (λ (ms : List Bool). IsRight c.as_slice.result.now (map mark_entries ms) inherited) c.as_slice-2.ensures c.in-Ok-marks_above.ensures) in
    let known : ℕ → Bool = λ k. is_some (inherits inherited (class_id k) 0) in
    let going_up : ℕ → Bool = λ k. list_any (mark_at own) (line_in ups (class_id k)) in
    subst (λ (found : List Bool). IfOk c.marks_of.result (λ (marks : List Bool). marks ≡ found)) (same_below known going_up (λ k. marks_are own ups inherited right (class_id k)) (length classes)) c.marks_of.ensures
