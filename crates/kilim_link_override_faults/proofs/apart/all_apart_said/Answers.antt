use Rattle.std.proofs.Common.{◌≡◌, ℕ, ◌+◌, ◌<◌, List, [], ◌∷◌, ◌++◌, length, get_or, drop, Some, refl, sym, ap, ◌∙◌, append_assoc, arith}
use Rattle.kilim_program.specs.BuiltIn.{class_id}
use Rattle.kilim_link_inherited.specs.declared.said.Said.{Said}
use Rattle.kilim_link_spec.specs.World.{World}
use Rattle.kilim_link_spec.specs.declared.view.ClassView.{ClassView}
use Rattle.kilim_link_override_faults.specs.Apart.{apart_from, is_apart}
use Rattle.kilim_link_override_faults.specs.Heritage.{sayings}
use Rattle.kilim_link_override_faults.proofs.Firsts.{rest_at}
use Rattle.kilim_link_override_faults.proofs.apart.all_apart_said.Goals as goal

-- one more class
more : (w : World) (classes : List ClassView) (i : ℕ) (v d : ClassView) (said new : List (List Said)) (one : List Said) {total : List (List Said)} → i < length classes → v ≡ get_or classes i d
    → one ≡ sayings (is_apart w (class_id i)) (Some 0) v.methods → new ≡ said ++ one ∷ [] → said ++ apart_from w i (drop i classes) ≡ total
    → new ++ apart_from w (i + 1) (drop (i + 1) classes) ≡ total
more w classes i v d said new one lt is made step so_far =
    let rest = apart_from w (i + 1) (drop (i + 1) classes) in
    ap (λ (ss : List (List Said)). ss ++ rest) step
    ∙ (append_assoc said (one ∷ []) rest
    ∙ (ap (λ (s : List Said). said ++ s ∷ rest) made
    ∙ (sym (ap (λ (vs : List ClassView). said ++ apart_from w i vs) (rest_at classes i v d lt is)) ∙ so_far)))

pub loop-i-preserved : goal.loop-i-preserved
loop-i-preserved c =
    let w = c.args.world.now in
    let i = c.loop-i.i in
    let classes = c.args.classes.now in
    let d = c.index-classes-i.result in
    let says = sayings (is_apart w (class_id i)) (Some 0) in (
      omega (arith, c.loop-i-test.true),
      more w classes i (get_or classes i d) d c.loop-i.said c.push_apart_said.new.said (says c.as_slice-methods.result.now) c.loop-i-test.true refl (ap says c.as_slice-methods.ensures) c.in-Ok.ensures c.loop-i.invariant.1,
    )
