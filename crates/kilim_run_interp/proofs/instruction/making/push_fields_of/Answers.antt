use Rattle.std.proofs.Common.{◌∙◌, sym, ap, ◌+◌, ◌++◌, drop, get_or, arith}
use Rattle.std.proofs.lemmas.List.{append-nil, drop_all, drop_more}
use Rattle.std.specs.List.{flat_map}
use Rattle.kilim_program.specs.Names.{fields_of}
use Rattle.kilim_run_interp.specs.instruction.Making.{first_fields}
use Rattle.kilim_run_interp.proofs.instruction.Fields.{class_taken}
use Rattle.kilim_run_interp.proofs.instruction.making.push_fields_of.Goals as goal

pub loop-at-preserved : goal.loop-at-preserved
loop-at-preserved c =
    let p = c.args.program.now in
    let line = c.args.line.now in
    let done = c.loop-at.fields.items in
    let own = fields_of p (get_or line c.loop-at.at-index (record { 0 = 0 })) in
    let rest = flat_map (fields_of p) (drop (c.loop-at.at-index + 1) line) in
    ap (λ fs. fs ++ first_fields p rest) (c.in-Ok.ensures ∙ ap (λ fs. done ++ first_fields p fs) c.fields_of.ensures)
    ∙ (class_taken p done own rest
    ∙ (ap (λ cs. done ++ first_fields p (flat_map (fields_of p) cs)) (sym (drop_more line c.loop-at.at-index (record { 0 = 0 }) c.loop-at-test.true)) ∙ c.loop-at.invariant))

pub returns : goal.returns
returns c =
    let p = c.args.program.now in
    let done = c.loop-at.fields.items in
    sym (append-nil done) ∙ (ap (λ cs. done ++ first_fields p (flat_map (fields_of p) cs)) (sym (drop_all c.loop-at.at-index c.args.line.now (omega arith))) ∙ c.loop-at.invariant)
