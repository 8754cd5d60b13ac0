use Rattle.std.proofs.Common.{ℕ, ◌<◌, ◌∙◌, sym, ap, subst, arith}
use Rattle.kilim_isolation_paths.specs.Paths.{target}
use Rattle.std.proofs.lemmas.Bool.{both_ways}
use Rattle.kilim_isolation_paths.proofs.Takes.{inside_of, took_noted, took_crowded, took_pushed}
use Rattle.kilim_isolation_paths.specs.declared.store.Reached.{Reached}
use Rattle.kilim_isolation_paths.proofs.Lists.{has_in}
use Rattle.kilim_isolation_paths.proofs.search.take.Goals as goal

pub step-requires-clause-fits : goal.step-requires-clause-fits
step-requires-clause-fits g c = has_in (λ (e : Reached _). g.M.Moves.fits c.args.machine.now e.place e.state) c.args.store.now.entries c.get-entry.result.now c.requires.good.known.fit (c.args.at, c.get-entry.ensures)

pub has-requires : goal.has-requires
has-requires g c = inside_of c.args.store.now.size (target c.args.exit) c.in-Some.to (sym c.target.ensures ∙ c.in-Some.is) c.requires.inside

pub push-requires : goal.push-requires
push-requires g c = inside_of c.args.store.now.size (target c.args.exit) c.in-Some.to (sym c.target.ensures ∙ c.in-Some.is) c.requires.inside

pub count-requires : goal.count-requires
count-requires g c = subst (λ (n : ℕ). c.in-Some.to < n) (sym (ap (λ s. s.size) c.in-Ok-push.ensures.ok)) (inside_of c.args.store.now.size (target c.args.exit) c.in-Some.to (sym c.target.ensures ∙ c.in-Some.is) c.requires.inside)

pub returns-in-Ok-note : goal.returns-in-Ok-note
returns-in-Ok-note g c =
    took_noted (g.M.Moves.means c.args.machine.now) (g.M.Moves.fits c.args.machine.now) c.args.store.now c.args.found.now.items c.note.new.found.items c.args.at c.get-entry.result.now c.args.exit c.in-Ok.stepped c.in-Err.rule
    c.requires.good c.get-entry.ensures (c.requires.exit c.get-entry.result.now c.get-entry.ensures) c.in-Ok.ensures.step c.in-Err.is c.in-Ok-note.ensures.ok

pub returns-then-count-gt-MOST_STATES : goal.returns-then-count-gt-MOST_STATES
returns-then-count-gt-MOST_STATES g c =
    took_crowded (g.M.Moves.means c.args.machine.now) (g.M.Moves.fits c.args.machine.now) c.args.store.now c.push.new.self c.args.found.now.items c.args.at c.get-entry.result.now c.args.exit c.in-Ok.stepped c.in-Some.to c.in-Ok-stepped.state
    c.requires.good c.get-entry.ensures (c.requires.exit c.get-entry.result.now c.get-entry.ensures) c.in-Ok.ensures.step c.in-Ok-stepped.is (sym c.target.ensures ∙ c.in-Some.is) c.in-Ok.ensures.fits c.requires.inside
    (λ h. both_ways c.in-Ok-has.is_there c.if-is_there.false (c.in-Ok-has.ensures.1 h)) c.in-Ok-push.ensures.ok (omega arith)

pub returns-else-count-gt-MOST_STATES : goal.returns-else-count-gt-MOST_STATES
returns-else-count-gt-MOST_STATES g c =
    took_pushed (g.M.Moves.means c.args.machine.now) (g.M.Moves.fits c.args.machine.now) c.args.store.now c.push.new.self c.args.found.now.items c.args.at c.get-entry.result.now c.args.exit c.in-Ok.stepped c.in-Some.to c.in-Ok-stepped.state
    c.requires.good c.get-entry.ensures (c.requires.exit c.get-entry.result.now c.get-entry.ensures) c.in-Ok.ensures.step c.in-Ok-stepped.is (sym c.target.ensures ∙ c.in-Some.is) c.in-Ok.ensures.fits c.requires.inside
    (λ h. both_ways c.in-Ok-has.is_there c.if-is_there.false (c.in-Ok-has.ensures.1 h)) c.in-Ok-push.ensures.ok (omega arith)
