use Rattle.kilim_stages.proofs.Parts.{refused}
use Rattle.kilim_weave_file_command.proofs.woven_files.Sizes.{fits_none, refused_for}
use Rattle.kilim_weave_file_command.proofs.woven_files.applied.woven_one.Goals as goal

pub returns-in-Ok-clause-none : goal.returns-in-Ok-clause-none
returns-in-Ok-clause-none c = fits_none c.args.program.now c.args.file.now c.args.plains.now c.args.wovens.now c.args.counted.now c.requires.plain c.requires.woven c.requires.counted c.in-Ok.ensures.applied.1

pub returns-in-Err-clause-report : goal.returns-in-Err-clause-report
returns-in-Err-clause-report c =
    refused c.size_refusal.result
    (λ text line. refused_for c.args.program.now c.args.file.now c.args.plains.now c.args.wovens.now c.args.counted.now c.requires.plain c.requires.woven c.requires.counted c.args.class.now.name c.in-Err.fault text c.in-Err.ensures.applied line)
    c.size_refusal.ensures
