use Rattle.std.proofs.Common.{ℕ, List, refl, ap, ◌∙◌, sym}
use Rattle.std.specs.Str.{bytes_eq}
use Rattle.kilim_link_spec.specs.World.{class_text}
use Rattle.kilim_link_views.proofs.Any.{found_at, passed_at}
use Rattle.std.proofs.lemmas.List.{at_drop_all}
use Rattle.std.specs.List.{list_any}
use Rattle.kilim_link_views.proofs.names.is_any_named.Goals as goal

pub returns-then-is_text : goal.returns-then-is_text
returns-then-is_text c =
    let name = c.args.name.now in
    found_at (λ k. bytes_eq (class_text c.args.pool.now k) name) c.args.classes.now c.args.classes.now c.loop-class.class-index _ _ c.is_text.result refl c.loop-class-test.true refl (c.is_text.ensures ∙ ap (λ (text : List ℕ). bytes_eq text name) c.class_text.ensures) c.loop-class.invariant c.if-is_text.true

pub loop-class-preserved : goal.loop-class-preserved
loop-class-preserved c =
    let name = c.args.name.now in
    passed_at (λ k. bytes_eq (class_text c.args.pool.now k) name) c.args.classes.now c.args.classes.now c.loop-class.class-index _ _ c.is_text.result refl c.loop-class-test.true refl (c.is_text.ensures ∙ ap (λ (text : List ℕ). bytes_eq text name) c.class_text.ensures) c.loop-class.invariant c.if-is_text.false

pub returns : goal.returns
returns c = sym (at_drop_all (list_any (λ k. bytes_eq (class_text c.args.pool.now k) c.args.name.now)) c.args.classes.now c.loop-class.class-index c.loop-class-test.false) ∙ c.loop-class.invariant
