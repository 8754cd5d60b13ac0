use Rattle.std.proofs.Common.{◌+◌, ◌++◌, List, ℕ, ap, arith, sym, ◌∙◌, drop, map, Some}
use Rattle.std.proofs.lemmas.List.{append-nil, drop_all}
use Rattle.kilim_program.specs.declared.instr.Instr.{Instr}
use Rattle.kilim_type_spec.specs.Typed.{frames_from, listed}
use Rattle.kilim_type_spec.specs.Faults.{walk_fault}
use Rattle.kilim_type_verify.proofs.Walked.{fault_at, fault_on, frames_on}
use Rattle.kilim_type_verify.proofs.walk.walk_code.Goals as goal

pub returns-in-Fails : goal.returns-in-Fails
returns-in-Fails c =
    let p = c.args.program.now in
    let m = c.args.method.now in
    let code = c.as_slice-code.result.now in
    let visited = c.in-Ok-visit.ensures (drop (c.loop-index.index + 1) code) (sym c.place_behind-behind.ensures) in
    let fails = rw c.in-Fails.is at visited in
    ap (walk_fault p m c.args.first (Some c.args.begins)) (sym c.as_slice-code.ensures)
    ∙ sym c.loop-index.invariant.0
    ∙ fault_at p m code c.loop-index.index c.code_at-entry.result.now c.loop-index.pending c.loop-index.flow c.loop-index.frames.items c.visit.new.frames.items c.in-Fails.rule c.code_at-entry.ensures fails

pub loop-index-preserved : goal.loop-index-preserved
loop-index-preserved c =
    let p = c.args.program.now in
    let m = c.args.method.now in
    let code = c.as_slice-code.result.now in
    let visited = c.in-Ok-visit.ensures (drop (c.loop-index.index + 1) code) (sym c.place_behind-behind.ensures) in
    let goes = rw c.in-Goes.is at visited in (
      fault_on p m code c.loop-index.index c.code_at-entry.result.now c.loop-index.pending c.loop-index.flow c.in-Goes.next c.loop-index.frames.items c.visit.new.frames.items c.code_at-entry.ensures goes ∙ c.loop-index.invariant.0,
      frames_on p m code c.loop-index.index c.code_at-entry.result.now c.loop-index.pending c.loop-index.flow c.in-Goes.next c.loop-index.frames.items c.visit.new.frames.items c.code_at-entry.ensures goes ∙ c.loop-index.invariant.1,
    )

pub returns : goal.returns
returns c =
    let p = c.args.program.now in
    let m = c.args.method.now in
    let code = c.as_slice-code.result.now in
    let past = drop_all c.loop-index.index code (omega arith) in (
      ap (walk_fault p m c.args.first (Some c.args.begins)) (sym c.as_slice-code.ensures) ∙ sym c.loop-index.invariant.0 ∙ ap (walk_fault p m c.loop-index.pending c.loop-index.flow) past,
      sym (append-nil c.loop-index.frames.items)
          ∙ sym (ap (λ (es : List (ℕ × Instr)). c.loop-index.frames.items ++ map (listed m) (frames_from p m c.loop-index.flow es)) past)
          ∙ c.loop-index.invariant.1
          ∙ ap (λ (es : List (ℕ × Instr)). map (listed m) (frames_from p m (Some c.args.begins) es)) c.as_slice-code.ensures,
    )
