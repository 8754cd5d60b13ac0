-- Alike heaps, as they are now.
use Rattle.std.proofs.Common.{refl, inl}
use Rattle.kilim_run_state.specs.Machine.{Objects}
use Rattle.kilim_run_model.specs.kin.Kin.{Names, Alike}
use Rattle.kilim_fiber_spec.specs.fiber_kin.Mine.{all_mine}

pub again : (of : Names) (k0 h k : Objects) → Alike of all_mine 0 k0 h k → Alike of all_mine 0 k h k
again of k0 h k a = record { same = a.same; apart = a.apart; rest = λ x. inl refl }
