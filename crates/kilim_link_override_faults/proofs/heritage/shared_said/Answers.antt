use Rattle.std.proofs.Common.{List, ◌++◌, length, sym, ◌∙◌, append-nil, arith}
use Rattle.std.proofs.lemmas.List.{at_drop_all}
use Rattle.kilim_link_spec.specs.declared.view.DeclaredMethod.{DeclaredMethod}
use Rattle.kilim_link_override_faults.specs.Heritage.{numbered, places_in}
use Rattle.kilim_link_override_faults.proofs.heritage.shared_said.Goals as goal

pub returns-clause-said : goal.returns-clause-said
returns-clause-said c =
    let said = c.loop-index.said in
    sym (append-nil said)
    ∙ (sym (at_drop_all (λ (ms : List DeclaredMethod). said ++ numbered (length c.loop-index.places) ms) c.args.methods.now c.loop-index.index (omega (arith, c.loop-index-test.false))) ∙ c.loop-index.invariant.0)

pub returns-clause-kept : goal.returns-clause-kept
returns-clause-kept c =
    let places = c.loop-index.places in
    sym (append-nil places)
    ∙ (sym (at_drop_all (λ (ms : List DeclaredMethod). places ++ places_in c.args.class c.loop-index.index ms) c.args.methods.now c.loop-index.index (omega (arith, c.loop-index-test.false))) ∙ c.loop-index.invariant.1)
