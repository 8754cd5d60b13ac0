use Rattle.std.proofs.Common.{◌≡◌, ◌+◌, ◌++◌, List, length, get_or, drop, sym, ap, ◌∙◌, append-nil, arith}
use Rattle.std.proofs.lemmas.List.{at_drop_all}
use Rattle.kilim_program.specs.BuiltIn.{class_id}
use Rattle.kilim_link_spec.specs.declared.view.DeclaredMethod.{DeclaredMethod}
use Rattle.kilim_link_inherited.specs.declared.said.Said.{Said}
use Rattle.kilim_link_spec.specs.declared.view.ClassView.{ClassView}
use Rattle.kilim_link_override_faults.specs.Heritage.{numbered, places_in, all_numbered, all_places}
use Rattle.kilim_link_override_faults.proofs.Placing.{said_more, places_more}
use Rattle.kilim_link_override_faults.proofs.heritage.all_shared_said.Goals as goal

pub loop-i-preserved : goal.loop-i-preserved
loop-i-preserved c =
    let i = c.loop-i.i in
    let classes = c.args.classes.now in
    let v = get_or classes i c.index-classes-i.result in
    let is = ap (get_or classes i) c.index-classes-i.is in
    let lt = c.loop-i-test.true in
    let places = c.loop-i.places in
    let more = c.shared_said.new.places in
    let kept : more ≡ places ++ places_in (class_id i) 0 v.methods = c.in-Ok.ensures.kept ∙ ap (λ (ms : List DeclaredMethod). places ++ places_in (class_id i) 0 ms) c.as_slice-methods.ensures in
    let one : c.in-Ok.own ≡ numbered (length places) v.methods = c.in-Ok.ensures.said ∙ ap (numbered (length places)) c.as_slice-methods.ensures in (
      omega (arith, lt),
      ap (λ (ss : List (List Said)). ss ++ all_numbered (length more) (drop (i + 1) classes)) c.in-Ok-push.ensures.ok
          ∙ said_more i classes v lt is places more kept c.loop-i.said c.in-Ok.own one c.loop-i.invariant.1,
      places_more i classes v lt is places more kept c.loop-i.invariant.2,
    )

pub returns-clause-said : goal.returns-clause-said
returns-clause-said c =
    let said = c.loop-i.said in
    sym (append-nil said)
    ∙ (sym (at_drop_all (λ (vs : List ClassView). said ++ all_numbered (length c.loop-i.places) vs) c.args.classes.now c.loop-i.i c.loop-i-test.false) ∙ c.loop-i.invariant.1)

pub returns-clause-kept : goal.returns-clause-kept
returns-clause-kept c =
    let places = c.loop-i.places in
    sym (append-nil places)
    ∙ (sym (at_drop_all (λ (vs : List ClassView). places ++ all_places c.loop-i.i vs) c.args.classes.now c.loop-i.i c.loop-i-test.false) ∙ c.loop-i.invariant.2)
