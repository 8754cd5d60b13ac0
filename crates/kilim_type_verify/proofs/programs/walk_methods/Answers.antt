use Rattle.std.proofs.Common.{◌≡◌, ◌∙◌, ap, length, arith}
use Rattle.kilim_program.specs.Program.{Program}
use Rattle.kilim_type_verify.proofs.Verified.{fault_of, fault_on, frames_of_all, frames_on, none_of}
use Rattle.kilim_type_verify.proofs.programs.walk_methods.Goals as goal

pub loop-number-preserved : goal.loop-number-preserved
loop-number-preserved c =
    let p = c.args.program.now in
    let ms = c.as_slice-methods.result.now in
    let m = c.method_of-method.result.now in
    let walked = c.in-Ok-walk.ensures in
    let frames = rw c.in-Frames.is at walked in (
      fault_on p ms c.loop-number.number m c.method_of-method.ensures frames.0 ∙ c.loop-number.invariant.0,
      c.in-Ok-push.ensures.items
          ∙ frames_on p ms c.loop-number.number m c.loop-number.all.items c.from_vec.result c.method_of-method.ensures (c.from_vec.ensures ∙ frames.1) c.loop-number.invariant.1,
    )

pub returns-in-Fault : goal.returns-in-Fault
returns-in-Fault c =
    let walked = c.in-Ok-walk.ensures in
    let fault = rw c.in-Fault.is at walked in
    let number = rw c.in-Ok-try_from.is at c.try_from.ensures in
    fault_of c.args.program.now c.as_slice-methods.result.now c.loop-number.number c.in-Ok-try_from.id c.method_of-method.result.now c.in-Fault.place c.in-Fault.rule c.method_of-method.ensures fault number.1 c.loop-number.invariant.0

pub returns : goal.returns
returns c =
    let p = c.args.program.now in
    let ms = c.as_slice-methods.result.now in
    let is : ms ≡ p.methods = c.as_slice-methods.ensures ∙ ap (λ (q : Program). q.methods) c.program.view_is in
    let all : c.loop-number.number ≡ length ms = omega arith in (
      none_of p ms c.loop-number.number is all c.loop-number.invariant.0,
      frames_of_all p ms c.loop-number.number c.loop-number.all.items is all c.loop-number.invariant.1,
    )
