-- A thread one deed further.
use Rattle.std.proofs.Common.{◌≡◌, ℕ, List, [], ◌∷◌, ◌++◌, Some, refl, ap, ◌∙◌}
use Rattle.kilim_run_model.specs.State.{Setting}
use Rattle.kilim_run_model.specs.Lone.{Lone}
use Rattle.kilim_run_model.specs.Course.{Course, IsLone, Follows, done_by, next_action}
use Rattle.kilim_run_model.specs.declared.deed.Deed.{Deed}
use Rattle.kilim_run_model.specs.Moving.{further}

follows_more : (set : Setting) (t : ℕ) (l : Lone) (ds : List Deed) (last : Lone) (d : Deed) (mid : Lone) → Follows set t l ds last → done_by set (next_action set t last) d ≡ Some (record { act = d.act; after = mid }) → Follows set t l (ds ++ d ∷ []) mid
follows_more set t l [] last d mid e does = (mid, ap (λ (z : Lone). done_by set (next_action set t z) d) e ∙ does, refl)
follows_more set t l (x ∷ ds) last d mid (m, did, rest) does = (m, did, follows_more set t m ds last d mid rest does)

pub further_lone : (set : Setting) (t : ℕ) (c : Course) (last : Lone) (d : Deed) (mid : Lone) → IsLone set t c last → done_by set (next_action set t last) d ≡ Some (record { act = d.act; after = mid }) → IsLone set t (further c d) mid
further_lone set t c last d mid is does = record { first = is.first; begins = is.begins; follows = follows_more set t is.first c.deeds last d mid is.follows does }
