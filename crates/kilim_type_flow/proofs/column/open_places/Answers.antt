use Rattle.std.proofs.Common.{◌≡◌, ℕ, List, Bool, ◌+◌, arith, false, length, refl, ap, sym, subst, ◌∙◌}
use Rattle.std.proofs.lemmas.List.{length-replicate}
use Rattle.kilim_type_spec.specs.Typed.{writes}
use Rattle.kilim_type_flow.specs.Marks.{Opens}
use Rattle.kilim_type_flow.proofs.Growing.{no_opens, open_more, open_same}
use Rattle.kilim_type_flow.proofs.column.open_places.Goals as goal

pub loop-at-init : goal.loop-at-init
loop-at-init c =
    let e = c.in-Ok.ensures in (
      ap length e ∙ length-replicate c.args.size false,
      subst (λ (ms : List Bool). Opens c.args.method.now c.args.local 0 ms) (sym e) (no_opens c.args.method.now c.args.local c.requires.rising c.args.size),
    )

pub loop-at-preserved : goal.loop-at-preserved
loop-at-preserved c =
    let m = c.args.method.now in
    let e = c.entry_of-entry.result.now in
    let is = c.mark_open.ensures in (
      ap length is ∙ (open_same c.loop-at.marks.items e.0 (writes e.1 c.args.local) ∙ c.loop-at.invariant.0),
      subst (λ (ms : List Bool). Opens m c.args.local (c.loop-at.at + 1) ms) (sym is)
          (open_more m c.args.local c.requires.rising (writes e.1 c.args.local) c.args.size c.loop-at.at e c.loop-at.marks.items c.loop-at.invariant.0 c.requires.below c.entry_of-entry.ensures refl c.loop-at.invariant.1),
    )

pub returns : goal.returns
returns c =
    let all : c.loop-at.at ≡ length c.args.method.now.code = omega arith in
    subst (λ (n : ℕ). Opens c.args.method.now c.args.local n c.loop-at.marks.items) all c.loop-at.invariant.1
