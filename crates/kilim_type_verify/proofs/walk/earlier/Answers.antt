use Rattle.std.proofs.Common.{sym, ◌∙◌, subst}
use Rattle.kilim_type_verify.specs.Walks.{MethodWalked}
use Rattle.kilim_type_verify.proofs.Joined.{all_fit, unfit_alone, body_first, frame_first}
use Rattle.kilim_type_verify.proofs.walk.earlier.Goals.{in-Frames, in-Fault+then-comes_first, in-Fault+else-comes_first}
use Rattle.kilim_type_verify.proofs.walk.earlier.Goals as goal

pub returns-in-None : goal.returns-in-None
returns-in-None c p m body unfit code = all_fit p m code c.args.walked c.args.unfit c.in-None.is body unfit

pub returns-after-walked : goal.returns-after-walked
returns-after-walked c p m body unfit code = elim c.match-walked.branch [
  | in-Frames w ↦ subst (MethodWalked p m) (sym w.result-is) (unfit_alone p m code c.args.walked c.args.unfit _ c.in-Some.at w.in-Frames.is c.in-Some.is body unfit)
  | in-Fault+then-comes_first w ↦ subst (MethodWalked p m) (sym w.result-is) (body_first p m code c.args.walked c.args.unfit _ _ c.in-Some.at w.in-Fault.is c.in-Some.is (sym w.comes_first.ensures ∙ w.if-comes_first.true) body unfit)
  | in-Fault+else-comes_first w ↦ subst (MethodWalked p m) (sym w.result-is) (frame_first p m code c.args.walked c.args.unfit _ _ c.in-Some.at w.in-Fault.is c.in-Some.is (sym w.comes_first.ensures ∙ w.if-comes_first.false) body unfit)
]
