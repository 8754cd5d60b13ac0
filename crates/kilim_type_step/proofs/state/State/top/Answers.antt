use Rattle.std.proofs.Common.{◌≡◌, ◌∙◌, ◌-◌, ap, sym, arith, drop, length, length-drop, reverse, take}
use Rattle.std.proofs.lemmas.List.{take_all}
use Rattle.kilim_type_spec.specs.Step.{Types}
use Rattle.kilim_type_step.proofs.Types.{top_reversed}
use Rattle.kilim_type_step.proofs.state.State.top.Goals as goal

pub returns : goal.returns
returns c =
    let types = c.self.inside.stack.items in
    let seen = c.deref.result.now in
    let below = c.saturating_sub-rest.result in
    let stack : c.args.self.now.stack ≡ reverse types = ap (λ (s : Types). s.stack) (sym c.self.view_is) in
    let rest : below ≡ length types - c.args.count = omega (arith, c.saturating_sub-rest.ensures, c.len.ensures, c.self.inside.stack.ok.0) in
    let top : c.in-Ok.top.items ≡ drop (length types - c.args.count) types =
    c.in-Ok.ensures.items ∙ (take_all (length seen - below) (drop below seen) (omega (arith, length-drop below seen)) ∙ (ap (λ n. drop n seen) rest ∙ ap (λ ts. drop (length types - c.args.count) ts) c.deref.ensures.value)) in
    c.reverse.ensures.items ∙ (ap reverse top ∙ (top_reversed c.args.count types ∙ sym (ap (take c.args.count) stack)))
