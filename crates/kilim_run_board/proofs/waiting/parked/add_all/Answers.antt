use Rattle.std.proofs.Common.{◌≡◌, List, [], ◌∷◌, ◌++◌, ◌∙◌, sym, ap, append_assoc, length}
use Rattle.std.proofs.lemmas.List.{append-nil}
use Rattle.kilim_run_model.specs.declared.waits.Waits.{Waits}
use Rattle.kilim_run_board.specs.declared.waiting.parked.Waiter.{Waiter}
use Rattle.kilim_run_board.specs.waiting.Parked.{at_wait}
use Rattle.kilim_run_board.proofs.waiting.parked.add_all.Goals as goal

pub loop-fiber-preserved : goal.loop-fiber-preserved
loop-fiber-preserved g c =
    ap (λ ws. ws ++ at_wait c.args.waits c.next.new.self.rest.items) c.in-Ok.ensures.items
    ∙ (append_assoc c.loop-fiber.waiters.items (record { waits = c.args.waits; fiber = c.in-Some.fiber } ∷ []) (at_wait c.args.waits c.next.new.self.rest.items)
    ∙ (ap (λ fs. c.loop-fiber.waiters.items ++ at_wait c.args.waits fs) (sym c.in-Some.ensures.steps.0) ∙ c.loop-fiber.invariant))

all_added : {F : Type 0} (v : Waits) (ws : List (Waiter F)) (fs : List F) (all : List (Waiter F)) → length fs ≡ 0 → ws ++ at_wait v fs ≡ all → ws ≡ all
all_added v ws [] all none e = sym (append-nil ws) ∙ e
all_added v ws (f ∷ fs) all none e = absurd (cc)

pub returns : goal.returns
returns g c = all_added c.args.waits c.loop-fiber.waiters.items c.loop-fiber.fiber-iterator.rest.items _ (sym c.loop-fiber.fiber-iterator.rest.ok.0 ∙ c.in-None.ensures.steps.0) c.loop-fiber.invariant
