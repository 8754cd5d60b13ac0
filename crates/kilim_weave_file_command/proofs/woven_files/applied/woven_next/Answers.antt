use Rattle.kilim_weave_file_command.proofs.woven_files.Weaving.{made_of, none_of, report_of}
use Rattle.kilim_weave_file_command.proofs.woven_files.applied.woven_next.Goals as goal

pub returns-clause-made : goal.returns-clause-made
returns-clause-made c =
    made_of c.args.program.now c.args.woven.now c.args.file.now c.len-count.result c.args.plains.now c.front-own_plains.result.now c.args.wovens.now c.front-own_wovens.result.now c.args.counted.now c.front-own_counted.result.now c.len-count.ensures
    c.front-own_plains.ensures c.front-own_wovens.ensures c.front-own_counted.ensures c.woven_one.result c.woven_one.ensures.made

pub returns-clause-none : goal.returns-clause-none
returns-clause-none c =
    none_of c.args.program.now c.args.woven.now c.args.file.now c.len-count.result c.args.plains.now c.front-own_plains.result.now c.args.wovens.now c.front-own_wovens.result.now c.args.counted.now c.front-own_counted.result.now c.len-count.ensures
    c.front-own_plains.ensures c.woven_one.result c.woven_one.ensures.none

pub returns-clause-report : goal.returns-clause-report
returns-clause-report c =
    report_of c.args.program.now c.args.woven.now c.args.file.now c.len-count.result c.args.plains.now c.front-own_plains.result.now c.args.wovens.now c.front-own_wovens.result.now c.args.counted.now c.front-own_counted.result.now c.len-count.ensures
    c.front-own_plains.ensures c.args.class.now.name c.woven_one.result c.woven_one.ensures.report
