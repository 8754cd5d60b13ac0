use Rattle.kilim_type_spec.specs.Step.{row}
use Rattle.kilim_type_step.specs.Forms.{form_of}
use Rattle.kilim_type_step.proofs.Places.{shuffle_place}
use Rattle.kilim_type_step.proofs.shuffles.on_shuffle.Goals as goal

pub returns : goal.returns
returns c =
    shuffle_place c.args.program.now c.args.method.now c.args.at (row c.args.program.now c.args.method.now c.args.instr.now) (form_of c.shuffle_of.result) c.args.state.now c.shuffle_words.new.state c.shuffle_words.result
    (c.shuffle_of.ensures c.args.program.now c.args.method.now) c.shuffle_words.ensures
