-- Each example computes.
use Rattle.kilim_theorems.proofs.woven_files.form.AFile.{no_arguments, parenthesis, a_is_woven, a_sum}
use Rattle.kilim_theorems.proofs.woven_files.form.LoopFile.{loop_is_woven}
use Rattle.kilim_theorems.proofs.woven_files.form.LoopLinks.{loop_links, loop_has_no_fault}
use Rattle.kilim_theorems.proofs.woven_files.form.examples_hold.Goals as goal

pub returns : goal.returns
returns c = record {
  no_arguments = no_arguments;
  parenthesis = parenthesis;
  a_is_woven = a_is_woven;
  a_sum = a_sum;
  loop_is_woven = loop_is_woven;
  loop_links = loop_links;
  loop_has_no_fault = loop_has_no_fault;
}
