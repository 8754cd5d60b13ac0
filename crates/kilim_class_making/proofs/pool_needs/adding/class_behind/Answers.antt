use Rattle.std.proofs.Common.{◌≡◌, ◌∷◌, ◌++◌, [], true, sym, ap, ◌∙◌}
use Rattle.kilim_class_pool.specs.declared.entry.Entry.TheVariants.{Class}
use Rattle.kilim_class_pool.specs.Entries.{entry_at}
use Rattle.kilim_class_making.specs.pool_needs.Adding.{class_added, found, unless_found, is_class_of, is_text, text_index}
use Rattle.kilim_class_making.proofs.pool_needs.Places.{kept, on_ok, passes, put}
use Rattle.kilim_class_making.proofs.pool_needs.adding.class_behind.Goals as goal

pub returns-then-class_index-ne0 : goal.returns-then-class_index-ne0
returns-then-class_index-ne0 c =
    sym (kept (is_class_of c.args.pool.now c.args.name.now) c.args.pool.now (class_added c.args.name.now c.args.pool.now) (λ h. c.if-class_index-ne0.true (c.class_index.ensures ∙ h)))

pub returns : goal.returns
returns c =
    let pool = c.args.pool.now in
    let name = c.args.name.now in
    let there : is_text name (entry_at pool (text_index pool name)) ≡ true = passes (is_text name) pool c.requires in
    on_ok c.append.result
    (λ added.
    put (is_class_of pool name) pool c.append.new.pool (Class c.text_index-text.result) (sym c.class_index.ensures ∙ c.if-class_index-ne0.false) added (ap (λ i. is_text name (entry_at pool i)) c.text_index-text.ensures ∙ there)
    ∙ ap (λ i. unless_found (found (is_class_of pool name) pool) pool (pool ++ Class i ∷ [])) c.text_index-text.ensures)
    c.append.ensures
