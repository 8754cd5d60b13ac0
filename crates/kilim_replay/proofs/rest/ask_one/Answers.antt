use Rattle.std.proofs.Common.{◌≡◌, ◌∙◌, false, true, sym, subst, rules}
use Rattle.kilim_replay.specs.Rest.{IsShownFor, Says}
use Rattle.kilim_replay.proofs.Closing.{goes_so_here, puts_go, puts_large, puts_wait, takes_go, takes_wait}
use Rattle.kilim_replay.proofs.rest.ask_one.Goals as goal

pub returns-in-Over : goal.returns-in-Over
returns-in-Over c = record { asks = λ set s t th in-state says. subst (Says set t th) c.in-Over.is says }

pub returns-in-Goes : goal.returns-in-Goes
returns-in-Goes c = record { asks = λ set s t th in-state says. goes_so_here c.args.program.now c.args.heap.now c.args.mailboxes.now set s t th in-state (subst (Says set t th) c.in-Goes.is says) }

pub returns-then-is_empty : goal.returns-then-is_empty
returns-then-is_empty c = record {
  asks = λ set s t th in-state says.
      takes_wait c.args.program.now c.args.heap.now c.args.mailboxes.now set s t th in-state c.in-Takes.name (subst (Says set t th) c.in-Takes.is says) (sym c.is_empty.ensures ∙ c.if-is_empty.true);
}

pub returns-in-Takes : goal.returns-in-Takes
returns-in-Takes c = record {
  asks = λ set s t th in-state says.
      takes_go c.args.program.now c.args.heap.now c.args.mailboxes.now set s t th in-state c.in-Takes.name (subst (Says set t th) c.in-Takes.is says) (sym c.is_empty.ensures ∙ c.if-is_empty.false);
}

pub returns-then-not-is_full : goal.returns-then-not-is_full
returns-then-not-is_full c = record {
  asks = λ set s t th in-state says.
      let no : c.is_full.result ≡ false = search rules in
      puts_go c.args.program.now c.args.heap.now c.args.mailboxes.now set s t th in-state c.in-Puts.name c.in-Puts.root (subst (Says set t th) c.in-Puts.is says) (sym c.is_full.ensures ∙ no);
}

pub returns-in-Ok-Some : goal.returns-in-Ok-Some
returns-in-Ok-Some c = record {
  asks = λ set s t th in-state says.
      let yes1 : c.is_full.result ≡ true = search rules in
      puts_wait c.args.program.now c.args.heap.now c.args.mailboxes.now set s t th in-state c.in-Puts.name c.in-Puts.root (subst (Says set t th) c.in-Puts.is says) _ (sym c.in-Ok-Some.ensures ∙ c.in-Ok-Some.field-0-is) (sym c.is_full.ensures ∙ yes1);
}

pub returns-in-Ok-None : goal.returns-in-Ok-None
returns-in-Ok-None c = record {
  asks = λ set s t th in-state says.
      puts_large c.args.program.now c.args.heap.now c.args.mailboxes.now set s t th in-state c.in-Puts.name c.in-Puts.root (subst (Says set t th) c.in-Puts.is says) (sym c.in-Ok-None.ensures ∙ c.in-Ok-None.field-0-is);
}

pub shape_at-requires-clause-there : goal.shape_at-requires-clause-there
shape_at-requires-clause-there c = (subst (IsShownFor c.args.program.now c.args.heap.now) c.in-Puts.is c.requires.shown).there

pub shape_at-requires-clause-suits : goal.shape_at-requires-clause-suits
shape_at-requires-clause-suits c = (subst (IsShownFor c.args.program.now c.args.heap.now) c.in-Puts.is c.requires.shown).suits
