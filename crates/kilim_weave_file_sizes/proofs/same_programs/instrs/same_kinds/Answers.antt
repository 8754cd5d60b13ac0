use Rattle.std.proofs.Common.{sym, ◌∙◌}
use Rattle.kilim_weave_file_sizes.proofs.same_programs.Rebuilt.{same_by_kind}
use Rattle.kilim_weave_file_sizes.proofs.same_programs.instrs.same_kinds.Goals as goal

pub returns : goal.returns
returns c = λ same.
    let numbers = c.if-not-same_numbers.false in
    same_by_kind c.args.one.now c.args.other.now (λ none. c.if-kind_here-eq0.false (c.kind-kind_here.ensures ∙ none)) (sym c.kind-kind_here.ensures ∙ (c.if-kind_here-kind.false ∙ c.kind.ensures))
    (c.same_numbers.ensures.place numbers) (c.same_numbers.ensures.slot numbers) (c.same_numbers.ensures.number numbers) (c.same_numbers.ensures.name numbers) (sym c.ty.ensures ∙ (c.same_result.ensures same ∙ c.ty-2.ensures))
