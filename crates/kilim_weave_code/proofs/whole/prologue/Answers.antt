use Rattle.std.proofs.Common.{◌≡◌, ◌∙◌, ◌∷◌, ℕ, List, ap, rules}
use Rattle.kilim_program.specs.declared.instr.Instr.TheVariants.{Aload, Astore}
use Rattle.kilim_program.specs.Same.{argument_slots}
use Rattle.kilim_weave_spec.specs.Woven as form
use Rattle.kilim_weave_pieces.specs.Items.{items_of}
use Rattle.kilim_weave_pieces.specs.Meant.{meant}
use Rattle.kilim_weave_code.proofs.Putting.{on_ok}
use Rattle.kilim_weave_code.proofs.whole.prologue.Goals as goal

pub returns : goal.returns
returns c =
    let x = meant c.args.plan.now in
    let first = argument_slots c.args.plan.now.method.now in
    let fiber = c.args.plan.now.fiber in
    let kept = form.keep_self x (form.load_fiber x ∷ form.calls_member x 0 ∷ form.switch_item x ∷ items_of c.args.items.now) in
    let is_fiber : fiber ≡ form.fiber_slot c.args.plan.now.method.now = search rules in
    on_ok c.add-2.result
    (λ last.
    last
    ∙ (ap (λ (items : List form.Item). form.added (Aload c.args.arguments) c.local_size-2.result ∷ items)
    (c.in-Ok-add.ensures
    ∙ ap (λ (items : List form.Item). form.added (Astore fiber) c.local_size.result ∷ items)
    (c.in-Ok-keep_self.ensures ∙ ap (form.keep_self x) (c.in-Ok-call_fiber.ensures ∙ ap (λ (items : List form.Item). form.load_fiber x ∷ form.calls_member x 0 ∷ items) c.in-Ok.ensures)))
    ∙ (ap (λ (n : ℕ). form.added (Aload c.args.arguments) n ∷ form.added (Astore fiber) c.local_size.result ∷ kept) c.local_size-2.ensures
    ∙ (ap (λ (s : ℕ). form.added (Aload s) (form.local_size s) ∷ form.added (Astore fiber) c.local_size.result ∷ kept) c.requires.arguments
    ∙ (ap (λ (n : ℕ). form.added (Aload first) (form.local_size first) ∷ form.added (Astore fiber) n ∷ kept) c.local_size.ensures
    ∙ ap (λ (s : ℕ). form.added (Aload first) (form.local_size first) ∷ form.added (Astore s) (form.local_size s) ∷ kept) is_fiber)))))
    c.add-2.ensures
