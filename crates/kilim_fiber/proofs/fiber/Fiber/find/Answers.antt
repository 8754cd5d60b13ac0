use Rattle.std.proofs.Common.{List, [], ◌∷◌, ◌++◌, ◌∙◌, refl, ap}
use Rattle.kilim_run_state.specs.declared.value.Token.{Token}
use Rattle.kilim_fiber_laws.specs.woven_kin.history.History.{took}
use Rattle.kilim_fiber.specs.Past.{deeds_of}
use Rattle.kilim_fiber.proofs.fiber.Fiber.find.Goals as goal

pub returns : goal.returns
returns c = record {
  shape = c.in-Ok.shape;
  noted = record {
    task = refl;
    main = refl;
    beginning = refl;
    past = c.note.ensures ∙ ap (λ (s : List Token). deeds_of c.args.self.now.past.value ++ took c.args.mailbox c.args.number s ∷ []) c.of.ensures;
    refused = refl;
    idle = refl;
  };
  body = c.in-Ok.ensures;
}
