-- Examples, computed: a loop of one `yield` is woven to that program, and a method with values across a pause to these instructions.
use Rattle.std.specs.Prelude.{◌≡◌}
use Rattle.kilim_weave_spec.specs.Form.{WovenForm}
use Rattle.kilim_weave_spec.specs.Samples.{loop, loop_execute, woven_loop, woven_loop_marks, values, values_execute, values_plan, woven_values, woven_values_frames}
use Rattle.kilim_weave_spec.specs.Weight.{weight}
use Rattle.kilim_weave_spec.specs.Woven.{woven_items, woven_method, lay, lay_frames, behind, Labelled}

pub record ExamplesHold : Type 0 where
  pub loop_is_woven : WovenForm loop woven_loop woven_loop_marks
  pub loop_weight : weight loop loop_execute ≡ 154
  pub values_code : lay 0 (woven_items values_plan) ≡ woven_values
  pub values_length : behind 0 (woven_items values_plan) ≡ 143
  pub values_frames : lay_frames 0 (woven_items values_plan) ≡ woven_values_frames
  pub values_labels : Labelled values_plan 0 (woven_items values_plan)
  pub values_stack : (woven_method values_plan).max_stack ≡ 9
  pub values_locals : (woven_method values_plan).max_locals ≡ 6
  -- 43 bytes, one call, nine slots
  pub values_weight : weight values values_execute ≡ 415
