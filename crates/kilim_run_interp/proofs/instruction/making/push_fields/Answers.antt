use Rattle.std.proofs.Common.{◌∙◌, sym, ap, ◌+◌, ◌∷◌, ◌++◌, [], drop, get_or, arith}
use Rattle.std.proofs.lemmas.List.{append-nil, drop_all, drop_more}
use Rattle.kilim_run_interp.specs.instruction.Making.{first_fields}
use Rattle.kilim_run_interp.proofs.instruction.Fields.{class_taken}
use Rattle.kilim_run_interp.proofs.instruction.making.push_fields.Goals as goal

pub loop-id-preserved : goal.loop-id-preserved
loop-id-preserved c =
    let p = c.args.program.now in
    let ids = c.args.declared.now in
    let done = c.loop-id.fields.items in
    let own = get_or ids c.loop-id.id-index (record { 0 = 0 }) in
    let rest = drop (c.loop-id.id-index + 1) ids in
    ap (λ fs. fs ++ first_fields p rest) c.in-Ok.ensures
    ∙ (class_taken p done (own ∷ []) rest ∙ (ap (λ fs. done ++ first_fields p fs) (sym (drop_more ids c.loop-id.id-index (record { 0 = 0 }) c.loop-id-test.true)) ∙ c.loop-id.invariant))

pub returns : goal.returns
returns c =
    let p = c.args.program.now in
    let done = c.loop-id.fields.items in
    sym (append-nil done) ∙ (ap (λ fs. done ++ first_fields p fs) (sym (drop_all c.loop-id.id-index c.args.declared.now (omega arith))) ∙ c.loop-id.invariant)
