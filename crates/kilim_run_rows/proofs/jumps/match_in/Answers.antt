use Rattle.std.proofs.Common.{◌∙◌, ap, sym, arith, List, ℕ, ℤ, pos}
use Rattle.std.proofs.lemmas.List.{drop_all}
use Rattle.kilim_run_machine.specs.Does.{match_target}
use Rattle.kilim_run_rows.proofs.Matches.{match_on}
use Rattle.kilim_run_rows.proofs.jumps.match_in.Goals as goal

pub loop-entry-preserved : goal.loop-entry-preserved
loop-entry-preserved c =
    match_on c.args.matches.now c.loop-entry.entry-index c.args.key.now c.args.default (pos 0, 0) c.loop-entry-test.true (λ e. c.if-entry-key.false cc) ∙ c.loop-entry.invariant

pub returns : goal.returns
returns c =
    ap (λ (ms : List (ℤ × ℕ)). match_target ms c.args.key.now c.args.default) (sym (drop_all c.loop-entry.entry-index c.args.matches.now (omega arith))) ∙ c.loop-entry.invariant
