use Rattle.std.proofs.Common.{◌≡◌, ◌∷◌, ◌++◌, ℕ, List, [], true, Some, None, rules, sym, subst, ◌∙◌}
use Rattle.kilim_class_pool.specs.declared.entry.Entry.TheVariants.{Utf8}
use Rattle.kilim_class_making.specs.pool_needs.Adding.{Test, found, is_text, with_text}
use Rattle.kilim_class_making.proofs.pool_needs.Places.{kept, on_ok, put, same_units}
use Rattle.kilim_class_making.proofs.pool_needs.adding.with_text.Goals as goal

pub returns-then-text_index-ne0 : goal.returns-then-text_index-ne0
unfolding with_text
returns-then-text_index-ne0 c =
    sym (kept (is_text c.args.units.now) c.args.pool.now (c.args.pool.now ++ Utf8 c.args.units.now ∷ []) (λ h. c.if-text_index-ne0.true (c.text_index.ensures ∙ h)))

pub returns : goal.returns
unfolding with_text
returns c =
    let same : c.in-Ok.text ≡ c.args.units.now = search rules in
    on_ok c.append.result
    (λ added.
    put (is_text c.args.units.now) c.args.pool.now c.append.new.pool (Utf8 c.args.units.now) (sym c.text_index.ensures ∙ c.if-text_index-ne0.false)
    (subst (λ (units : List ℕ). (test : Test) → found test c.args.pool.now ≡ None → test (Some (Utf8 units)) ≡ true → c.append.new.pool ≡ c.args.pool.now ++ Utf8 units ∷ []) same added) (same_units c.args.units.now))
    c.append.ensures
