use Rattle.kilim_weave_file_command.proofs.woven_files.Written.{links_as}
use Rattle.kilim_weave_file_command.proofs.woven_files.back.links_back.Goals as goal

pub returns : goal.returns
returns c = λ same. links_as c.args.files.now c.args.program.now c.link-linked.result c.link-linked.ensures (c.linked_to-is_same.ensures same)
