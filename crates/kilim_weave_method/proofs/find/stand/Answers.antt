use Rattle.std.proofs.Common.{◌≡◌, ◌∙◌, Some, None, sym, subst}
use Rattle.std.specs.Prelude.{if◌then◌else◌}
use Rattle.kilim_weave_laws.specs.woven_program.labels.Law.{same_label}
use Rattle.kilim_weave_pieces.specs.declared.item.Label.{Label}
use Rattle.kilim_weave_pieces.specs.Items.{label_of}
use Rattle.kilim_weave_pieces.specs.Places.{Tables}
use Rattle.kilim_weave_method.specs.Found.{looked, or_first}
use Rattle.kilim_weave_method.proofs.Outcomes.{on_ok}
use Rattle.kilim_weave_method.proofs.Finding.{block_noted, old_noted}
use Rattle.kilim_weave_method.proofs.find.stand.Goals as goal

pub returns-in-Old-clause-first : goal.returns-in-Old-clause-first
returns-in-Old-clause-first c =
    let a : Tables = record { old = c.places.inside.old.items; blocks = c.places.inside.blocks.items; end = c.places.inside.end } in
    let b : Tables = record a { old = c.note.new.table.items } in
    let v : c.args.places.now ≡ a = cc (c.places.view_is) in
    on_ok c.note.result
    (λ noted l. subst (λ (t : Tables). looked b l ≡ or_first (looked t l) (if same_label l (label_of c.args.label) then Some t.end else None)) (sym v)
    (subst (λ (d : Label). looked b l ≡ or_first (looked a l) (if same_label l (label_of d) then Some a.end else None)) (sym c.in-Old.is)
    (old_noted a c.note.new.table.items c.in-Old.place noted l)))
    c.note.ensures

pub returns-in-Resumes-clause-first : goal.returns-in-Resumes-clause-first
returns-in-Resumes-clause-first c =
    let a : Tables = record { old = c.places.inside.old.items; blocks = c.places.inside.blocks.items; end = c.places.inside.end } in
    let b : Tables = record a { blocks = c.note-in-Resumes.new.table.items } in
    let v : c.args.places.now ≡ a = cc (c.places.view_is) in
    on_ok c.note-in-Resumes.result
    (λ noted l. subst (λ (t : Tables). looked b l ≡ or_first (looked t l) (if same_label l (label_of c.args.label) then Some t.end else None)) (sym v)
    (subst (λ (d : Label). looked b l ≡ or_first (looked a l) (if same_label l (label_of d) then Some a.end else None)) (sym c.in-Resumes.is)
    (block_noted a c.note-in-Resumes.new.table.items c.in-Resumes.number noted l)))
    c.note-in-Resumes.ensures
