use Rattle.std.proofs.Common.{◌+◌, ◌<◌, ◌≤◌, arith, length, refl}
use Rattle.std.specs.Vec.{vec_capacity}
use Rattle.std.specs.VecDeque.{deque_capacity}
use Rattle.kilim_run_board.specs.Seen.{seen}
use Rattle.kilim_run_board.proofs.Calls.{same_stands}
use Rattle.kilim_run_board.proofs.Closing.{room_else, room_put, room_take, room_start, roomy_as, room_kept}
use Rattle.kilim_run_board.proofs.board.Board.reserve.Goals as goal

pub returns-in_default-clause-same : goal.returns-in_default-clause-same
returns-in_default-clause-same g c = record {
  run = record { journal = c.reserve.ensures.items; tasks = refl; mails = λ box. refl };
  spots = record { ready = refl; parked = refl; cells = refl; stopped = refl };
}

pub returns-in_default-clause-stands : goal.returns-in_default-clause-stands
returns-in_default-clause-stands g c = λ set st. same_stands g.F.Fibers.task_of g.F.Fibers.course_of g.F.Fibers.holds set (seen c.args.self.now) _ (returns-in_default-clause-same g c) st

pub returns-in_default-clause-roomy : goal.returns-in_default-clause-roomy
returns-in_default-clause-roomy g c = roomy_as c.args.self.now _ c.requires.roomy (returns-in_default-clause-same g c) (room_kept _ _ refl) (room_kept _ _ refl)

pub returns-in_default-reserve-clause-same : goal.returns-in_default-reserve-clause-same
returns-in_default-reserve-clause-same g c = record {
  run = record { journal = c.reserve.ensures.items; tasks = refl; mails = λ box. refl };
  spots = record { ready = c.reserve-in-Start.ensures.items; parked = refl; cells = refl; stopped = refl };
}

pub returns-in_default-reserve-clause-stands : goal.returns-in_default-reserve-clause-stands
returns-in_default-reserve-clause-stands g c = λ set st. same_stands g.F.Fibers.task_of g.F.Fibers.course_of g.F.Fibers.holds set (seen c.args.self.now) _ (returns-in_default-reserve-clause-same g c) st

pub returns-in_default-reserve-clause-roomy : goal.returns-in_default-reserve-clause-roomy
returns-in_default-reserve-clause-roomy g c = roomy_as c.args.self.now _ c.requires.roomy (returns-in_default-reserve-clause-same g c) c.reserve-in-Start.ensures.capacity (room_kept _ _ refl)

pub returns-in-Ok-reserve-clause-same : goal.returns-in-Ok-reserve-clause-same
returns-in-Ok-reserve-clause-same g c = record {
  run = record { journal = c.reserve.ensures.items; tasks = refl; mails = λ box. refl };
  spots = record { ready = c.reserve-in-Start.ensures.items; parked = c.reserve-in-Start-2.ensures.items; cells = refl; stopped = refl };
}

pub returns-in-Ok-reserve-clause-stands : goal.returns-in-Ok-reserve-clause-stands
returns-in-Ok-reserve-clause-stands g c = λ set st. same_stands g.F.Fibers.task_of g.F.Fibers.course_of g.F.Fibers.holds set (seen c.args.self.now) _ (returns-in-Ok-reserve-clause-same g c) st

pub returns-in-Ok-reserve-clause-roomy : goal.returns-in-Ok-reserve-clause-roomy
returns-in-Ok-reserve-clause-roomy g c = roomy_as c.args.self.now _ c.requires.roomy (returns-in-Ok-reserve-clause-same g c) c.reserve-in-Start.ensures.capacity c.reserve-in-Start-2.ensures.kept

pub returns-in-Put-clause-same : goal.returns-in-Put-clause-same
returns-in-Put-clause-same g c = record {
  run = record { journal = c.reserve.ensures.items; tasks = refl; mails = c.reserve_message.ensures.same };
  spots = record { ready = refl; parked = refl; cells = refl; stopped = refl };
}

pub returns-in-Put-clause-stands : goal.returns-in-Put-clause-stands
returns-in-Put-clause-stands g c = λ set st. same_stands g.F.Fibers.task_of g.F.Fibers.course_of g.F.Fibers.holds set (seen c.args.self.now) _ (returns-in-Put-clause-same g c) st

pub returns-in-Put-clause-roomy : goal.returns-in-Put-clause-roomy
returns-in-Put-clause-roomy g c = roomy_as c.args.self.now _ c.requires.roomy (returns-in-Put-clause-same g c) (room_kept _ _ refl) (room_kept _ _ refl)

pub returns-in-Take-clause-same : goal.returns-in-Take-clause-same
returns-in-Take-clause-same g c = record {
  run = record { journal = c.reserve.ensures.items; tasks = refl; mails = λ box. refl };
  spots = record { ready = refl; parked = c.make_places-in-Take.ensures.items; cells = refl; stopped = refl };
}

pub returns-in-Take-clause-stands : goal.returns-in-Take-clause-stands
returns-in-Take-clause-stands g c = λ set st. same_stands g.F.Fibers.task_of g.F.Fibers.course_of g.F.Fibers.holds set (seen c.args.self.now) _ (returns-in-Take-clause-same g c) st

pub returns-in-Take-clause-roomy : goal.returns-in-Take-clause-roomy
returns-in-Take-clause-roomy g c = roomy_as c.args.self.now _ c.requires.roomy (returns-in-Take-clause-same g c) (room_kept _ _ refl) (room_kept _ _ c.make_places-in-Take.ensures.room)

pub returns-in_default-wants-clause-same : goal.returns-in_default-wants-clause-same
returns-in_default-wants-clause-same g c = record {
  run = record { journal = c.reserve.ensures.items; tasks = refl; mails = λ box. refl };
  spots = record { ready = refl; parked = refl; cells = refl; stopped = refl };
}

pub returns-in_default-wants-clause-stands : goal.returns-in_default-wants-clause-stands
returns-in_default-wants-clause-stands g c = λ set st. same_stands g.F.Fibers.task_of g.F.Fibers.course_of g.F.Fibers.holds set (seen c.args.self.now) _ (returns-in_default-wants-clause-same g c) st

pub returns-in_default-wants-clause-roomy : goal.returns-in_default-wants-clause-roomy
returns-in_default-wants-clause-roomy g c = roomy_as c.args.self.now _ c.requires.roomy (returns-in_default-wants-clause-same g c) (room_kept _ _ refl) (room_kept _ _ refl)

pub returns-in_default-wants-clause-room : goal.returns-in_default-wants-clause-room
returns-in_default-wants-clause-room g c =
    let more = c.in-Ok.ensures.ok in
    let is = c.reserve.new.self.ok in
    let room : length c.reserve.new.self.items < vec_capacity c.reserve.new.self = omega arith in
    room_else (record c.args.self.now { journal = c.reserve.new.self }) c.args.wants.now c.in_default-wants.not-Put c.in_default-wants.not-PutWait c.in_default-wants.not-Bound c.in_default-wants.not-Start room

pub returns-in-Put-clause-room : goal.returns-in-Put-clause-room
returns-in-Put-clause-room g c =
    let more = c.in-Ok.ensures.ok in
    let is = c.reserve.new.self.ok in
    let room : length c.reserve.new.self.items < vec_capacity c.reserve.new.self = omega arith in
    room_put c.reserve_message.result (record c.args.self.now { journal = c.reserve.new.self; mailboxes = c.reserve_message.new.self }) c.args.wants.now _ _ _ c.in-Put.is room c.reserve_message.ensures.room

pub returns-in-Take-clause-room : goal.returns-in-Take-clause-room
returns-in-Take-clause-room g c =
    let more = c.in-Ok.ensures.ok in
    let is = c.reserve.new.self.ok in
    let room : length c.reserve.new.self.items < vec_capacity c.reserve.new.self = omega arith in
    room_take c.make_places-in-Take.result (record c.args.self.now { journal = c.reserve.new.self; parked = c.make_places-in-Take.new.self }) c.args.wants.now _ c.in-Take.is room

pub returns-in-Ok-reserve-clause-room : goal.returns-in-Ok-reserve-clause-room
returns-in-Ok-reserve-clause-room g c =
    let more = c.in-Ok.ensures.ok in
    let is = c.reserve.new.self.ok in
    let room : length c.reserve.new.self.items < vec_capacity c.reserve.new.self = omega arith in
    let fibers = c.in-Ok-reserve.ensures.ok in
    let ready : c.args.self.now.tasks + 1 ≤ deque_capacity c.reserve-in-Start.new.self = omega arith in
    room_start c.reserve-in-Start-2.result (record c.args.self.now { journal = c.reserve.new.self; ready = c.reserve-in-Start.new.self; parked = c.reserve-in-Start-2.new.self }) c.args.wants.now _ _ c.in-Start.is room ready c.reserve-in-Start-2.ensures.room
