use Rattle.std.proofs.Common.{◌≡◌, ◌∙◌, List, subst, sym}
use Rattle.std.proofs.lemmas.Result.{IfOk-weaker}
use Rattle.kilim_class_file.specs.declared.class_file.ClassFile.{ClassFile}
use Rattle.kilim_weave_file_command.specs.woven_files.Parts.{HasEach}
use Rattle.kilim_weave_file_command.proofs.woven_files.Enough.{each_there}
use Rattle.kilim_weave_file_command.proofs.woven_files.Handed.{few_files, fit_files, size_report, woven_one}
use Rattle.kilim_weave_file_command.proofs.woven_files.Never.{same_classes}
use Rattle.kilim_weave_file_command.proofs.woven_files.stage.files_of.Goals as goal

pub returns-in-Ok-clause-woven : goal.returns-in-Ok-clause-woven
returns-in-Ok-clause-woven c =
    IfOk-weaker c.woven_classes.result _ _ (λ outputs from. woven_one c.args.files.now c.args.program.now c.requires.accepted c.requires.none c.in-Ok.classes c.in-Ok.ensures c.args.woven.now outputs.items c.requires.weaves from)
    (rw c.as_slice.ensures at c.woven_classes.ensures.woven)

pub returns-in-Ok-clause-report : goal.returns-in-Ok-clause-report
returns-in-Ok-clause-report c =
    size_report c.args.files.now c.args.program.now c.requires.accepted c.requires.none c.in-Ok.classes c.in-Ok.ensures c.woven_classes.result (rw c.as_slice.ensures at c.woven_classes.ensures.report)

pub woven_classes-requires-clause-few : goal.woven_classes-requires-clause-few
woven_classes-requires-clause-few c = few_files c.args.files.now c.in-Ok.classes c.as_slice.result.now c.as_slice.ensures c.in-Ok.ensures c.requires.few

pub woven_classes-requires-clause-fit : goal.woven_classes-requires-clause-fit
woven_classes-requires-clause-fit c = fit_files c.args.files.now c.in-Ok.classes c.as_slice.result.now c.as_slice.ensures c.in-Ok.ensures

pub woven_classes-requires-clause-each : goal.woven_classes-requires-clause-each
woven_classes-requires-clause-each c =
    let of = c.requires.accepted.of_files in
    let same : c.as_slice.result.now ≡ of.classes = c.as_slice.ensures ∙ same_classes c.class_file_is_spelled.ensures c.args.files.now c.in-Ok.classes of.classes c.in-Ok.ensures of.are_files in
    subst (λ (fs : List ClassFile). HasEach c.args.program.now c.args.woven.now fs) (sym same) (each_there c.linked_in_parts.ensures c.args.program.now c.args.woven.now of.classes of.linked c.requires.weaves.form)
