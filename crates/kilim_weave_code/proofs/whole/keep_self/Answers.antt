use Rattle.std.proofs.Common.{◌≡◌, ◌∙◌, ◌∷◌, ℕ, Bool, List, ap, rules, sym}
use Rattle.std.specs.Prelude.{if◌then◌else◌}
use Rattle.kilim_program.specs.declared.instr.Instr.TheVariants.{Aload, Astore}
use Rattle.kilim_weave_spec.specs.Woven as form
use Rattle.kilim_weave_pieces.specs.Items.{items_of}
use Rattle.kilim_weave_code.proofs.Putting.{on_ok}
use Rattle.kilim_weave_code.proofs.whole.keep_self.Goals as goal

pub returns : goal.returns
returns c =
    let slot = form.self_slot c.args.plan.now.method.now in
    let old = items_of c.args.items.now in
    let is_slot : c.args.plan.now.receiver ≡ slot = search rules in
    on_ok c.add-2.result
    (λ last.
    last
    ∙ (ap (λ (items : List form.Item). form.added (Aload 0) 1 ∷ items) c.in-Ok.ensures
    ∙ (ap (λ (n : ℕ). form.added (Aload 0) 1 ∷ form.added (Astore c.args.plan.now.receiver) n ∷ old) c.local_size.ensures
    ∙ (ap (λ (s : ℕ). form.added (Aload 0) 1 ∷ form.added (Astore s) (form.local_size s) ∷ old) is_slot
    ∙ sym (ap (λ (b : Bool). if b then old else form.added (Aload 0) 1 ∷ form.added (Astore slot) (form.local_size slot) ∷ old) c.if-plan.false)))))
    c.add-2.ensures
