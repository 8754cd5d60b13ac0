use Rattle.std.proofs.Common.{◌≡◌, None, drop}
use Rattle.kilim_link_spec.specs.Types.{each_of, itself}
use Rattle.kilim_link_spec.specs.Frames.{frames_from}
use Rattle.kilim_link_members.specs.frames.Each.{behind}
use Rattle.kilim_link_members.proofs.frames.frames.frames_from.Given as goal

abbrev pub invariant-loop-form : goal.invariant-loop-form
invariant-loop-form l = behind l.frames (each_of itself (frames_from l.world l.pool l.before l.locals (drop l.form-index l.forms))) ≡ each_of itself (frames_from l.world l.pool None l.fn.begin l.forms)
