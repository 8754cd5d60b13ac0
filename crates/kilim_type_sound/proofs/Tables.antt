-- Live slots are a table of wanted ones, and so are all slots.
use Rattle.std.proofs.Common.{◌≡◌, ℕ, Bool, true, List, Some, refl}
use Rattle.kilim_program.specs.declared.class.Handler.{Handler}
use Rattle.kilim_program.specs.declared.class.Method.{Method}
use Rattle.kilim_program.specs.declared.instr.Instr.{Instr}
use Rattle.kilim_program.specs.Lengths.{fetched}
use Rattle.kilim_type_spec.specs.Typed.{Catches, ReadsIt, GoesOn, IsLive}
use Rattle.kilim_type_sound.specs.Fits.{WantsAt}

-- the table of live slots is one
pub live_wants : (m : Method) (live : ℕ → ℕ → Bool) → IsLive m live → (at next : ℕ) (i : Instr) → fetched m.code m.code_length at ≡ Some (i, next) → WantsAt m.handlers live at next i
live_wants m live is at next i e = record {
  read = λ k r. (is at k).1 (ReadsIt at next i e r);
  flow = λ q k a l w. (is at k).1 (GoesOn at next q i e w a ((is q k).0 l));
  caught = λ q k a l. (is at k).1 (Catches at next q i e a ((is q k).0 l));
}

-- so is that of all slots
pub all_wants : (handlers : List Handler) (at next : ℕ) (i : Instr) → WantsAt handlers (λ q k. true) at next i
all_wants handlers at next i = record { read = λ k r. refl; flow = λ q k a l w. refl; caught = λ q k a l. refl }
