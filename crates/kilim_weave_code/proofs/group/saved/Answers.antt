use Rattle.std.proofs.Common.{◌≡◌, ◌≤◌, ◌∙◌, ℕ, Bool, List, length, ap, arith}
use Rattle.kilim_program.specs.declared.verified.VType.{VType}
use Rattle.kilim_type_flow.specs.Table.{live_in}
use Rattle.kilim_weave_spec.specs.Woven.{saved_from}
use Rattle.kilim_weave_code.proofs.Showing.{saved_done, saved_more}
use Rattle.kilim_weave_code.proofs.group.saved.Goals as goal

pub local_of-slot-requires : goal.local_of-slot-requires
local_of-slot-requires c =
    let few : length c.args.frame.now.locals ≤ c.args.plan.now.method.now.max_locals = c.requires.few in
    let long : length c.as_slice-locals.result.now ≡ length c.args.frame.now.locals = ap length c.as_slice-locals.ensures in
    let most = c.locals_fit.ensures in
    omega (arith, few, long, most)

pub loop-at-preserved : goal.loop-at-preserved
loop-at-preserved c =
    let live : ℕ → Bool = live_in c.args.plan.now.live.now c.args.next in
    saved_more live c.loop-at.at c.local_of-slot.result c.type_at-ty.result c.as_slice-locals.result.now c.loop-at.saved.items c.push_saved.new.saved.items (saved_from live 0 c.as_slice-locals.result.now) c.local_of-slot.ensures c.type_at-ty.ensures c.in-Ok.ensures c.loop-at.invariant

pub returns : goal.returns
returns c =
    let live : ℕ → Bool = live_in c.args.plan.now.live.now c.args.next in
    saved_done live c.loop-at.at c.as_slice-locals.result.now c.loop-at.saved.items (saved_from live 0 c.as_slice-locals.result.now) (omega arith) c.loop-at.invariant
    ∙ (ap (λ (ts : List VType). saved_from live 0 ts) c.as_slice-locals.ensures ∙ c.requires.saved live)
