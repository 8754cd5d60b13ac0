use Rattle.std.proofs.Common.{sym, ap, ◌∙◌, get_or, set, List}
use Rattle.kilim_program.specs.declared.value.Value.{Value}
use Rattle.kilim_program.specs.declared.names.FieldId.{FieldId}
use Rattle.kilim_run_state.specs.Words.{with_field_in}
use Rattle.kilim_run_state.proofs.heap.set_field_in.Goals as goal

pub returns : goal.returns
returns c =
    let put = c.place_of-at.ensures.put c.args.value (c.args.field, c.args.value) in
    c.set_at.ensures (c.args.field, c.args.value)
    ∙ (ap (λ (fs : List (FieldId × Value)). set fs c.place_of-at.result ((get_or fs c.place_of-at.result (c.args.field, c.args.value)).0, c.args.value)) (c.fields.view_is ∙ sym c.as_slice.ensures)
    ∙ (sym put ∙ ap (λ (fs : List (FieldId × Value)). with_field_in fs c.args.field c.args.value) c.as_slice.ensures))
