use Rattle.std.proofs.Common.{◌∙◌, sym, ap, subst, List, length}
use Rattle.kilim_class_code.specs.Code.{Placed}
use Rattle.kilim_class_code.specs.Exact.{body_fault}
use Rattle.kilim_class_code.specs.Marks.{PlacesBelow}
use Rattle.kilim_class_code.proofs.Codes.{no_body, only_memory, is_first, of_body, sound, same_code, body_is}
use Rattle.kilim_class_code.proofs.Steps.{places_below}
use Rattle.kilim_class_code.proofs.reading.decode.Goals as goal

pub returns-in-Err-clause-only : goal.returns-in-Err-clause-only
returns-in-Err-clause-only c = λ body fits is. only_memory c.one_spelling.ensures c.args.code.now c.in-Err.fault body.code c.in-Err.ensures.fault fits is

pub returns-in-Err-clause-first : goal.returns-in-Err-clause-first
returns-in-Err-clause-first c = λ fault h. is_first c.one_spelling.ensures c.args.code.now c.in-Err.fault fault c.in-Err.ensures.fault h

pub check_body-requires : goal.check_body-requires
check_body-requires c =
    subst (λ (code : List Placed). PlacesBelow (length c.args.code.now) code) (sym c.as_slice.ensures)
    (places_below 0 c.in-Ok.instrs (length c.args.code.now) c.in-Ok.ensures.found.stands).0

pub returns-in-Ok-check_body-clause-found : goal.returns-in-Ok-check_body-clause-found
returns-in-Ok-check_body-clause-found c = sound c.args.code.now c.in-Ok.instrs c.in-Ok.ensures.found (ap body_fault (sym c.as_slice.ensures) ∙ c.in-Ok-check_body.ensures.ok)

pub returns-in-Ok-check_body-clause-text : goal.returns-in-Ok-check_body-clause-text
returns-in-Ok-check_body-clause-text c = c.in-Ok.ensures.found.text

pub returns-in-Ok-check_body-clause-only : goal.returns-in-Ok-check_body-clause-only
returns-in-Ok-check_body-clause-only c = λ body fits is.
    same_code c.one_spelling.ensures c.args.code.now c.in-Ok.instrs body.code c.in-Ok.ensures.found (body_is c.one_spelling.ensures c.args.code.now body.code fits is)

pub returns-in-Ok-check_body-clause-first : goal.returns-in-Ok-check_body-clause-first
returns-in-Ok-check_body-clause-first c = λ fault h.
    no_body c.one_spelling.ensures c.args.code.now fault c.in-Ok.instrs h
    (sound c.args.code.now c.in-Ok.instrs c.in-Ok.ensures.found (ap body_fault (sym c.as_slice.ensures) ∙ c.in-Ok-check_body.ensures.ok))
    c.in-Ok.ensures.found.text

pub returns-in-Err-check_body-clause-only : goal.returns-in-Err-check_body-clause-only
returns-in-Err-check_body-clause-only c = λ body fits is.
    let is_fault = of_body c.args.code.now c.in-Ok.instrs c.in-Err-check_body.fault c.in-Ok.ensures.found (rw c.as_slice.ensures at c.in-Err-check_body.ensures.err) in
    only_memory c.one_spelling.ensures c.args.code.now c.in-Err-check_body.fault body.code is_fault fits is

pub returns-in-Err-check_body-clause-fault : goal.returns-in-Err-check_body-clause-fault
returns-in-Err-check_body-clause-fault c = of_body c.args.code.now c.in-Ok.instrs c.in-Err-check_body.fault c.in-Ok.ensures.found (rw c.as_slice.ensures at c.in-Err-check_body.ensures.err)

pub returns-in-Err-check_body-clause-first : goal.returns-in-Err-check_body-clause-first
returns-in-Err-check_body-clause-first c = λ fault h.
    let is_fault = of_body c.args.code.now c.in-Ok.instrs c.in-Err-check_body.fault c.in-Ok.ensures.found (rw c.as_slice.ensures at c.in-Err-check_body.ensures.err) in
    is_first c.one_spelling.ensures c.args.code.now c.in-Err-check_body.fault fault is_fault h
