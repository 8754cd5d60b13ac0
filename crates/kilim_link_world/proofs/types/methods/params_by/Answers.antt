use Rattle.std.proofs.Common.{◌<◌, ◌+◌, List, [], ◌∷◌, ◌++◌, length, drop, sym, ap, ◌∙◌, append_assoc, append-nil, arith}
use Rattle.std.proofs.lemmas.List.{at_drop_all}
use Rattle.kilim_lemmas.proofs.Lists.{drop_at}
use Rattle.kilim_program.specs.declared.ty.Qualifier.{Qualifier}
use Rattle.kilim_class_descriptors.specs.declared.types.FieldText.{FieldText}
use Rattle.kilim_link_world.specs.types.Params.{params_from}
use Rattle.kilim_link_world.proofs.types.ByPlace.{params_are}
use Rattle.kilim_link_world.proofs.types.methods.params_by.Goals as goal

pub loop-i-init : goal.loop-i-init
loop-i-init c =
    let w = c.args.world.now in
    let texts = c.args.texts.now in
    let attributes = c.args.attributes.now in
    (omega arith, ap (λ (params : List Qualifier). params ++ params_from w 0 texts attributes) c.new-params.ensures ∙ params_are w texts attributes)

pub loop-i-preserved : goal.loop-i-preserved
loop-i-preserved c =
    let w = c.args.world.now in
    let texts = c.args.texts.now in
    let attributes = c.args.attributes.now in
    let i = c.loop-i.i in
    let made = c.loop-i.params in
    let lt : i < length texts = omega (arith, c.loop-i-test.true) in
    let others = params_from w (i + 1) (drop (i + 1) texts) attributes in (
      omega (arith, c.loop-i-test.true),
      ap (λ (params : List Qualifier). params ++ others) c.in_ok-push.ensures.ok
          ∙ (append_assoc made (c.param_at.result ∷ []) others
          ∙ (ap (λ (q : Qualifier). made ++ q ∷ others) c.param_at.ensures
          ∙ (ap (λ (fs : List FieldText). made ++ params_from w i fs attributes) (sym (drop_at texts i c.index-texts-i.result lt c.index-texts-i.is))
          ∙ c.loop-i.invariant.1))),
    )

pub returns : goal.returns
returns c =
    let texts = c.args.texts.now in
    let made = c.loop-i.params in
    sym (append-nil made)
    ∙ (sym (at_drop_all (λ (fs : List FieldText). made ++ params_from c.args.world.now c.loop-i.i fs c.args.attributes.now) texts c.loop-i.i (omega (arith, c.loop-i-test.false)))
    ∙ c.loop-i.invariant.1)
