use Rattle.std.proofs.Common.{ap, subst, sym}
use Rattle.kilim_program.specs.declared.instr.Instr.TheVariants.{Ifeq, Ifne, Iflt, Ifge, Ifgt, Ifle, Goto, Ifnull, Ifnonnull, GotoW, IfIcmpeq, IfIcmpne, IfIcmplt, IfIcmpge, IfIcmpgt, IfIcmple, IfAcmpeq, IfAcmpne}
use Rattle.kilim_weave_pieces.specs.Items.{Moves}
use Rattle.kilim_weave_code.proofs.moved.jump_to.Goals as goal

pub returns-in-Ifeq : goal.returns-in-Ifeq
returns-in-Ifeq c = subst (Moves c.args.to (Ifeq c.args.to)) (sym c.in-Ifeq.is) (λ at e. ap Ifeq (sym e))

pub returns-in-Ifne : goal.returns-in-Ifne
returns-in-Ifne c = subst (Moves c.args.to (Ifne c.args.to)) (sym c.in-Ifne.is) (λ at e. ap Ifne (sym e))

pub returns-in-Iflt : goal.returns-in-Iflt
returns-in-Iflt c = subst (Moves c.args.to (Iflt c.args.to)) (sym c.in-Iflt.is) (λ at e. ap Iflt (sym e))

pub returns-in-Ifge : goal.returns-in-Ifge
returns-in-Ifge c = subst (Moves c.args.to (Ifge c.args.to)) (sym c.in-Ifge.is) (λ at e. ap Ifge (sym e))

pub returns-in-Ifgt : goal.returns-in-Ifgt
returns-in-Ifgt c = subst (Moves c.args.to (Ifgt c.args.to)) (sym c.in-Ifgt.is) (λ at e. ap Ifgt (sym e))

pub returns-in-Ifle : goal.returns-in-Ifle
returns-in-Ifle c = subst (Moves c.args.to (Ifle c.args.to)) (sym c.in-Ifle.is) (λ at e. ap Ifle (sym e))

pub returns-in-Goto : goal.returns-in-Goto
returns-in-Goto c = subst (Moves c.args.to (Goto c.args.to)) (sym c.in-Goto.is) (λ at e. ap Goto (sym e))

pub returns-in-Ifnull : goal.returns-in-Ifnull
returns-in-Ifnull c = subst (Moves c.args.to (Ifnull c.args.to)) (sym c.in-Ifnull.is) (λ at e. ap Ifnull (sym e))

pub returns-in-Ifnonnull : goal.returns-in-Ifnonnull
returns-in-Ifnonnull c = subst (Moves c.args.to (Ifnonnull c.args.to)) (sym c.in-Ifnonnull.is) (λ at e. ap Ifnonnull (sym e))

pub returns-in-GotoW : goal.returns-in-GotoW
returns-in-GotoW c = subst (Moves c.args.to (GotoW c.args.to)) (sym c.in-GotoW.is) (λ at e. ap GotoW (sym e))

pub returns-in-IfIcmpeq : goal.returns-in-IfIcmpeq
returns-in-IfIcmpeq c = subst (Moves c.args.to (IfIcmpeq c.args.to)) (sym c.in-IfIcmpeq.is) (λ at e. ap IfIcmpeq (sym e))

pub returns-in-IfIcmpne : goal.returns-in-IfIcmpne
returns-in-IfIcmpne c = subst (Moves c.args.to (IfIcmpne c.args.to)) (sym c.in-IfIcmpne.is) (λ at e. ap IfIcmpne (sym e))

pub returns-in-IfIcmplt : goal.returns-in-IfIcmplt
returns-in-IfIcmplt c = subst (Moves c.args.to (IfIcmplt c.args.to)) (sym c.in-IfIcmplt.is) (λ at e. ap IfIcmplt (sym e))

pub returns-in-IfIcmpge : goal.returns-in-IfIcmpge
returns-in-IfIcmpge c = subst (Moves c.args.to (IfIcmpge c.args.to)) (sym c.in-IfIcmpge.is) (λ at e. ap IfIcmpge (sym e))

pub returns-in-IfIcmpgt : goal.returns-in-IfIcmpgt
returns-in-IfIcmpgt c = subst (Moves c.args.to (IfIcmpgt c.args.to)) (sym c.in-IfIcmpgt.is) (λ at e. ap IfIcmpgt (sym e))

pub returns-in-IfIcmple : goal.returns-in-IfIcmple
returns-in-IfIcmple c = subst (Moves c.args.to (IfIcmple c.args.to)) (sym c.in-IfIcmple.is) (λ at e. ap IfIcmple (sym e))

pub returns-in-IfAcmpeq : goal.returns-in-IfAcmpeq
returns-in-IfAcmpeq c = subst (Moves c.args.to (IfAcmpeq c.args.to)) (sym c.in-IfAcmpeq.is) (λ at e. ap IfAcmpeq (sym e))

pub returns-in-IfAcmpne : goal.returns-in-IfAcmpne
returns-in-IfAcmpne c = subst (Moves c.args.to (IfAcmpne c.args.to)) (sym c.in-IfAcmpne.is) (λ at e. ap IfAcmpne (sym e))
