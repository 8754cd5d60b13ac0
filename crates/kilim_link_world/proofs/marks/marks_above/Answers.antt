use Rattle.std.proofs.Common.{List, length, ap, ◌∙◌, subst, arith}
use Rattle.std.specs.Prelude.{IfOk}
use Rattle.std.proofs.lemmas.List.{length-map}
use Rattle.kilim_link_inherited.specs.declared.entry.Entry.{Entry}
use Rattle.kilim_link_inherited.specs.Roots.{IsRight}
use Rattle.kilim_link_inherited.specs.Trees.{Forest}
use Rattle.kilim_link_world.specs.Superclasses.{mark_entries}
use Rattle.kilim_link_world.proofs.marks.marks_above.Goals as goal

pub new-requires : goal.new-requires
new-requires c =
    let len = ap (λ (ess : List (List Entry)). length ess) (c.as_slice.ensures ∙ c.in-Ok.ensures) ∙ length-map c.args.own.now mark_entries in
    let within = c.requires in
    omega arith

pub returns : goal.returns
returns c = subst (λ (ess : List (List Entry)). IfOk c.new.result (λ (it : Forest). IsRight c.args.ups.now ess it)) (c.as_slice.ensures ∙ c.in-Ok.ensures) c.new.ensures
