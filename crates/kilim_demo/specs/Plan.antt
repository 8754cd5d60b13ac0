-- What a number draws: so many stages, so many messages, and for each stage an operation with a number (own).
use Rattle.std.specs.Prelude.{ℕ, zero, suc, ◌+◌, ◌%◌, List, [], ◌∷◌}
use Rattle.rand_core.specs.Pcg32Seed.{pcg32_seed}
use Rattle.rand_pcg.specs.Lcg.{Lcg}
use Rattle.rand_pcg.specs.Pcg.{pcg32, pcg32_of_seed}
use Rattle.kilim_demo.specs.declared.draws.Operation.{Operation}
use Rattle.kilim_demo.specs.declared.draws.Operation.TheVariants.{Adds, Prepends, Cuts}
use Rattle.kilim_demo.specs.declared.draws.Stage.{Stage}
use Rattle.kilim_demo.specs.declared.draws.Plan.{Plan}

-- The generator `Lcg64Xsh32` of rand_pcg, by `seed_from_u64`. Each draw is one word of it.
unfoldable pub seeded : ℕ → Lcg
seeded number = pcg32_of_seed (pcg32_seed 16 number)

-- the first number of a draw is the word, the second what is left
unfoldable pub drawn : Lcg → ℕ × Lcg
drawn g = pcg32 g

abbrev pub operation_of : ℕ → Operation
operation_of zero = Adds
operation_of (suc zero) = Prepends
operation_of _ = Cuts

-- an operation, then a number
unfoldable pub stage_drawn : Lcg → Stage × Lcg
stage_drawn g = (record { operation = operation_of ((drawn g).0 % 3); number = (drawn (drawn g).1).0 % 100 }, (drawn (drawn g).1).1)

abbrev pub stages_drawn : ℕ → Lcg → List Stage
stages_drawn zero g = []
stages_drawn (suc n) g = (stage_drawn g).0 ∷ stages_drawn n (stage_drawn g).1

-- 1 to 15 stages, 1 to 1,000 messages
unfoldable pub plan_from : Lcg → Plan
plan_from g = record {
  messages = 1 + (drawn (drawn g).1).0 % 1000;
  stages = stages_drawn (1 + (drawn g).0 % 15) (drawn (drawn g).1).1;
}

unfoldable pub plan_of : ℕ → Plan
plan_of number = plan_from (seeded number)
