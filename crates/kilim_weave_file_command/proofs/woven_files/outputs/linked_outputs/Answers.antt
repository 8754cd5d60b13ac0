use Rattle.std.proofs.lemmas.Result.{IfOk-weaker}
use Rattle.kilim_weave_file_command.proofs.woven_files.Written.{links_to}
use Rattle.kilim_weave_file_command.proofs.woven_files.outputs.linked_outputs.Goals as goal

pub returns-clause-links : goal.returns-clause-links
returns-clause-links c = IfOk-weaker c.outputs_of.result _ _ (λ outputs are. links_to c.args.program.now c.args.woven.now c.args.program.now.classes c.args.files.now outputs.items are c.requires.fit (c.links_back.ensures c.if-not-links_back.false)) c.outputs_of.ensures
