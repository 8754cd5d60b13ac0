use Rattle.std.proofs.Common.{◌≡◌, ◌++◌, take}
use Rattle.kilim_link_members.proofs.frames.frames.push_frames.Given as goal

abbrev pub invariant-loop-frame : goal.invariant-loop-frame
invariant-loop-frame l = l.into ≡ l.fn.into ++ take l.frame-index l.frames
