use Rattle.std.proofs.Common.{refl}
use Rattle.kilim_run_machine.specs.Does.{does, array_limit}
use Rattle.kilim_theorems.proofs.instruction_examples.rows_are_at_edges.Goals as goal

pub returns : goal.returns
unfolding does array_limit
returns e p own heap f ty a b c d = record { idiv = refl; irem = refl; ldiv = refl; lrem = refl; iaload = refl; laload = refl; iastore = refl; aastore = refl; arraylength = refl; getfield = refl; putfield = refl; size = refl; large = refl; largest = refl; cast = refl; instance = refl; texts = refl; other_texts = refl; boxes = refl; objects = refl; null_and_text = refl; null = refl; below_low = refl; low = refl; high = refl; above_high = refl; least = refl; matched = refl; unmatched = refl; pop_long = refl; pop2_long = refl; pop2_words = refl; dup = refl; dup_x1 = refl; dup_x2 = refl; dup_x2_long = refl; dup2 = refl; dup2_long = refl; dup2_x1 = refl; dup2_x2 = refl; dup2_x2_longs = refl; swap = refl; name = refl; iinc = refl; bool = refl; byte = refl; char = refl; short = refl; int = refl }
