use Rattle.std.proofs.Common.{◌≡◌, ap, subst, List, length, get_or, ◌<◌, ◌∙◌}
use Rattle.std.proofs.lemmas.List.{take_all}
use Rattle.kilim_class_code.specs.Code.{Placed, code_text}
use Rattle.kilim_class_code.proofs.Steps.{item_fits, one_more}
use Rattle.kilim_class_code.proofs.writing.encode.Goals as goal

pub write_instr-requires : goal.write_instr-requires
write_instr-requires c =
    let code = c.args.body.now.code in
    let at : c.as_slice-at-items.result.now ≡ code = c.as_slice-at-items.ensures in
    let item : c.loop-at-item.result ≡ get_or code c.loop-at.at-index c.loop-at-item.result = c.loop-at-item.is ∙ ap (λ (xs : List Placed). get_or xs c.loop-at.at-index c.loop-at-item.result) at in
    let within : c.loop-at.at-index < length code = subst (λ (xs : List Placed). c.loop-at.at-index < length xs) at c.loop-at-test.true in
    item_fits code (length (code_text code)) c.loop-at.at-index c.loop-at-item.result item c.requires.stands within

pub loop-at-preserved : goal.loop-at-preserved
loop-at-preserved c =
    one_more c.loop-at.bytes.items c.write_instr.new.into.items c.as_slice-at-items.result.now c.loop-at.at-index c.loop-at-item.result c.loop-at-test.true c.loop-at-item.is c.loop-at.invariant c.in-Ok.ensures.ok

pub returns : goal.returns
returns c = c.loop-at.invariant ∙ ap code_text (take_all c.loop-at.at-index c.as_slice-at-items.result.now c.loop-at-test.false ∙ c.as_slice-at-items.ensures)
