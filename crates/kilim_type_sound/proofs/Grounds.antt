-- What the step rests on, from what every program keeps.
use Rattle.kilim_type_sound.specs.Law.{AreVerified, AreWanted, FactsHold}
use Rattle.kilim_type_sound.proofs.Bodies as bodies
use Rattle.kilim_type_sound.proofs.BuiltInMembers as members
use Rattle.kilim_type_laws.proofs.members.FromKeeps as keeping
use Rattle.kilim_type_sound.proofs.Messages as messages
use Rattle.kilim_type_sound.proofs.OwnFields as owned
use Rattle.kilim_type_sound.proofs.Selecting as selecting
use Rattle.kilim_type_laws.proofs.members.Through as lines
use Rattle.kilim_type_sound.proofs.Behind as places
use Rattle.kilim_type_sound.proofs.Raisable as raisable
use Rattle.kilim_type_sound.proofs.Tables.{all_wants, live_wants}
use Rattle.kilim_type_sound.proofs.TextClass as texts
use Rattle.kilim_type_sound.proofs.Throwables as throwables
use Rattle.kilim_type_laws.proofs.members.ValueClasses as values

pub facts_hold : FactsHold
facts_hold p keeps = record {
  texts = texts.texts p keeps;
  takes = members.takes p keeps;
  keeps_messages = messages.keeps_messages p keeps;
  gives_messages = messages.gives_messages p keeps;
  fields = owned.fields p keeps;
  no_fields = values.no_fields p keeps;
  constants = keeping.constants p keeps;
  text_class = values.text_class p keeps;
  thrown = throwables.thrown p keeps;
  no_thrown = throwables.no_thrown p keeps;
  throwable = λ c there k e. throwables.throwable p keeps c there k e;
  caught = throwables.caught p keeps;
  raised = raisable.raised p keeps;
  order = record { itself = keeping.itself p keeps; through = lines.through p keeps };
  superclass = keeping.superclass p keeps;
  values = values.values p keeps;
  string = values.string p keeps;
  bodies = bodies.bodies p keeps;
  statics = keeping.statics p keeps;
  constructors = keeping.constructors p keeps;
  mailbox = values.mailbox p keeps;
  selects = selecting.selects p keeps;
  specials = selecting.specials p keeps;
}

pub are_verified : AreVerified
are_verified p typing live keeps typed wants = record { typed = typed; starts = bodies.starts p keeps; wants = wants; proper = bodies.proper p keeps; behind = places.stands_behind_it p keeps }

pub are_wanted : AreWanted
are_wanted = record { all = all_wants; live = live_wants }
