use Rattle.std.proofs.Common.{List, ◌++◌, Some, sym, ◌∙◌, append-nil}
use Rattle.std.proofs.lemmas.List.{at_drop_all}
use Rattle.kilim_link_spec.specs.declared.view.DeclaredMethod.{DeclaredMethod}
use Rattle.kilim_link_override_faults.specs.Heritage.{is_shared_abstract, sayings}
use Rattle.kilim_link_override_faults.proofs.heritage.say_abstract.Goals as goal

pub returns : goal.returns
returns c =
    let said = c.loop-method.said in
    sym (append-nil said)
    ∙ (sym (at_drop_all (λ (ms : List DeclaredMethod). said ++ sayings is_shared_abstract (Some 0) ms) c.args.methods.now c.loop-method.method-index c.loop-method-test.false) ∙ c.loop-method.invariant)
