use Rattle.std.proofs.Common.{◌≡◌, ◌∙◌, sym, ap, refl, ◌∷◌, Option, map}
use Rattle.kilim_program.specs.declared.value.Value.{Value}
use Rattle.kilim_run_machine.specs.Does.{narrowed_result}
use Rattle.kilim_run_state.specs.Machine.{Activation}
use Rattle.kilim_run_machine.specs.Moves.{push_result}
use Rattle.kilim_run_state.specs.frames.Calls.{activation}
use Rattle.kilim_run_rows.specs.Outcome.{returned_by}
use Rattle.kilim_run_interp.proofs.Entering.{caller_fits, callers_roomy, ends_all, leaves, none_below, returned_is, some_below}
use Rattle.kilim_run_interp.proofs.machine.leave_with.Goals as goal

pub returns-then-len-eq0-clause-steps : goal.returns-then-len-eq0-clause-steps
returns-then-len-eq0-clause-steps c heap =
    (ends_all (returned_by c.args.own.now c.args.frames.now.top.stack.values) c.args.frames.now.below heap (none_below c.args.frames.now.below (sym c.len.ensures ∙ c.if-len-eq0.true)), record { frames = refl; heap = refl })

pub unreachable-requires : goal.unreachable-requires
unreachable-requires c = some_below c.args.frames.now.below (λ none. c.if-len-eq0.false (c.len.ensures ∙ none)) (c.go_back.ensures.no c.if-not-go_back.true).0

pub push_on-requires : goal.push_on-requires
push_on-requires c =
    let below = c.go_back.ensures.yes c.if-not-go_back.false in
    record {
      fits = caller_fits c.args.program.now c.args.frames.now.below c.go_back.new.self c.go_back.new.top below c.requires.fits;
      roomy = (callers_roomy c.args.program.now c.args.frames.now.below c.go_back.new.self c.go_back.new.top below c.requires.roomy.below).0;
    }

pub returns-clause-roomy : goal.returns-clause-roomy
returns-clause-roomy c =
    record {
      top = c.push_on.ensures.roomy;
      below = (callers_roomy c.args.program.now c.args.frames.now.below c.go_back.new.self c.go_back.new.top (c.go_back.ensures.yes c.if-not-go_back.false) c.requires.roomy.below).1;
    }

pub returns-clause-steps : goal.returns-clause-steps
returns-clause-steps c heap =
    let value = returned_is c.args.own.now c.args.frames.now.top.stack.values c.top_value.new.frame.stack.values c.top_value.result c.top_value.ensures in
    let narrow : c.narrowed_result-value.result ≡ narrowed_result c.args.own.now.result c.top_value.result = c.narrowed_result-value.ensures in
    leaves (returned_by c.args.own.now c.args.frames.now.top.stack.values) c.args.frames.now.below c.go_back.new.self c.go_back.new.top (activation c.push_on.new.frame ∷ map activation c.go_back.new.self) heap
    (c.go_back.ensures.yes c.if-not-go_back.false)
    (ap (λ (a : Activation). a ∷ map activation c.go_back.new.self) c.push_on.ensures.frame
    ∙ (ap (λ (v : Value). record (activation c.go_back.new.top) { stack = v ∷ c.go_back.new.top.stack.values } ∷ map activation c.go_back.new.self) narrow
    ∙ ap (λ (o : Option Value). push_result o (activation c.go_back.new.top ∷ map activation c.go_back.new.self)) (sym value)))
