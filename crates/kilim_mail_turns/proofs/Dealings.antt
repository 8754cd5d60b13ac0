-- Room for one pass more.
use Rattle.std.proofs.Common.{◌≡◌, ℕ, zero, suc, ◌+◌, ◌<◌, List, [], ◌∷◌, ◌++◌, length, length-append, map, refl, sym, ap, subst, ◌∙◌, option_to_list, arith}
use Rattle.std.specs.Prelude.{slice_index_or, slice_set, Option, Some}
use Rattle.std.specs.Vec.{vec_capacity}
use Rattle.kilim_run_turn.specs.declared.pass.Pass.{Pass}
use Rattle.kilim_mail_crew.specs.declared.crew.Worker.{Worker}
use Rattle.kilim_mail_crew.proofs.Deals.{Dealing}

pub map_set : {A B : Type 0} (f : A → B) (xs : List A) (k : ℕ) (v d : A) → f v ≡ f (slice_index_or xs k d) → map f (slice_set xs k v) ≡ map f xs
map_set f [] k v d e = refl
map_set f (x ∷ xs) zero v d e = ap (λ y. y ∷ map f xs) e
map_set f (x ∷ xs) (suc k) v d e = ap (λ ys. f x ∷ ys) (map_set f xs k v d e)

pub popped_size : (ps ps' : List Pass) (o : Option Pass) (p : Pass) → ps ≡ ps' ++ option_to_list o → o ≡ Some p → length ps ≡ length ps' + 1
popped_size ps ps' o p e some = ap length (e ∙ ap (λ (x : Option Pass). ps' ++ option_to_list x) some) ∙ length-append ps' (p ∷ [])

-- a worker that has no pass more yet has its room still
pub has_room : {L : Type 0} (ws0 ws : List (Worker L)) (ps0 ps ps' : List Pass) (w : Worker L) → Dealing ws0 ps0 ws ps → length ps ≡ length ps' + 1 → w ≡ slice_index_or ws (length ps') w →
    ((s : ℕ) (d : Worker L) → s < length ws0 → length (slice_index_or ws0 s d).passes.items < vec_capacity (slice_index_or ws0 s d).passes) → length w.passes.items < vec_capacity w.passes
has_room {L} ws0 ws ps0 ps ps' w d long there room =
    let a = ap length d.split in
    let b = length-append ps d.rest in
    let m = d.many in
    subst (λ (v : Worker L). length v.passes.items < vec_capacity v.passes) (sym (there ∙ d.before (length ps') w (omega arith))) (room (length ps') w (omega arith))
