use Rattle.std.proofs.Common.{◌≡◌, ℕ, ◌+◌, ◌<◌, List, [], ◌∷◌, ◌++◌, length, get_or, map, take, sym, ap, ◌∙◌}
use Rattle.std.proofs.lemmas.List.{map_more, take_all}
use Rattle.kilim_link_spec.specs.declared.view.ClassView.{ClassView}
use Rattle.kilim_link_override_faults.specs.Heritage.{left_sayings, left_by_class}
use Rattle.kilim_link_override_faults.proofs.heritage.all_left_said.Goals as goal

mapped : {X A : Type 0} (f : X → A) (now next : List A) (xs : List X) (i : ℕ) (x d : X) (y : A) → i < length xs → x ≡ get_or xs i d → now ≡ map f (take i xs) → y ≡ f x
    → next ≡ now ++ y ∷ [] → next ≡ map f (take (i + 1) xs)
mapped f now next xs i x d y lt is so_far made step =
    step ∙ (ap (λ ys. ys ++ y ∷ []) so_far ∙ (ap (λ z. map f (take i xs) ++ z ∷ []) (made ∙ ap f is) ∙ sym (map_more f xs i d lt)))

pub loop-view-preserved : goal.loop-view-preserved
loop-view-preserved c = mapped (λ (v : ClassView). left_sayings v.methods) c.loop-view.said c.push_left_said.new.said c.args.classes.now c.loop-view.view-index c.view-item.result _ (left_sayings c.as_slice.result.now) c.loop-view-test.true c.view-item.is c.loop-view.invariant (ap left_sayings c.as_slice.ensures) c.in-Ok.ensures

pub returns : goal.returns
returns c = c.loop-view.invariant ∙ ap left_by_class (take_all c.loop-view.view-index c.args.classes.now c.loop-view-test.false)
