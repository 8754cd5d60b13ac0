use Rattle.std.proofs.Common.{◌≤◌, ℕ, List, length, subst, sym}
use Rattle.kilim_top.proofs.demo.Reported.{report_of}
use Rattle.kilim_top.proofs.demo.Served.{few_texts, woven_of}
use Rattle.kilim_top.proofs.demo.prepared.woven_texts.Goals as goal

pub returns-clause-woven : goal.returns-clause-woven
returns-clause-woven c = woven_of c.args.number c.args.texts.now c.woven_program.result c.requires c.woven_program.ensures.woven

pub returns-clause-report : goal.returns-clause-report
returns-clause-report c =
    report_of c.class_file_is_spelled.ensures _ c.args.texts.now c.args.number c.woven_program.result (c.demo_fits.ensures.fits c.args.number) c.requires c.woven_program.ensures.report

pub woven_program-requires-clause-few : goal.woven_program-requires-clause-few
woven_program-requires-clause-few c = subst (λ (ts : List (List ℕ)). length ts ≤ 1000) (sym c.requires) (few_texts c.demo_fits.ensures.short c.args.number)
