use Rattle.std.proofs.Common.{None, refl}
use Rattle.kilim_theorems.proofs.woven_files.FramesBack.{frames_back}
use Rattle.kilim_theorems.proofs.woven_files.frames_are_read_back.Goals as goal

pub returns : goal.returns
returns c = λ v w pool locals frames i h. frames_back v w pool None 0 locals frames refl i h
