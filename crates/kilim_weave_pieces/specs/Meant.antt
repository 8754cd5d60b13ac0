-- The plan of the definitions.
use Rattle.kilim_program.specs.lookups.Places.{Rising}
use Rattle.kilim_type_flow.specs.Table.{live_in}
use Rattle.kilim_type_spec.specs.Typed.{typing_of}
use Rattle.kilim_weave_spec.specs.Woven as form
use Rattle.kilim_weave_pieces.specs.declared.plan.Plan.{Plan}
use Rattle.kilim_weave_pieces.specs.Listed.{Listed}
use Rattle.kilim_weave_pieces.specs.Places.{at_in, block_in}

abbrev pub meant : Plan → form.Plan
meant w = record {
  program = w.program.now;
  method = w.method.now;
  typing = typing_of w.program.now w.method.now;
  live = live_in w.live.now;
  at = at_in w.places.now;
  block = block_in w.places.now;
}

-- the places increase, and the frames are those of verification
pub record Ready (w : Plan) : Type 0 where
  pub rising : Rising w.method.now.code
  pub listed : Listed w.program.now w.method.now w.frames.now
