use Rattle.std.proofs.Common.{◌≡◌, ◌<◌, ℕ, true, subst, length, List, drop, reverse, take}
use Rattle.kilim_program.specs.declared.value.Value.{Value}
use Rattle.kilim_fiber_steps.specs.Woven.{gives_value}
use Rattle.kilim_fiber_steps.specs.records.Members.{NotDone, did}
use Rattle.kilim_fiber_steps.specs.records.natives.Natives.{member_meant}
use Rattle.kilim_fiber_steps.specs.declared.records.natives.natives.Member.TheVariants as code
use Rattle.kilim_fiber_steps.proofs.Operands.{alone, alone_args, alone_done_ok, done_as, done_ok, placed, saved}
use Rattle.kilim_fiber_steps.proofs.members.do_member.Goals as goal

pub save-requires : goal.save-requires
save-requires c =
    let is = saved c.args.count c.args.frame.now.stack.values c.requires.there c.args.member c.args.records.now c.in-Save.is c.requires.done in
    record { there = is.there; last = is.last }

pub returns-in-Save : goal.returns-in-Save
returns-in-Save c =
    let is = saved c.args.count c.args.frame.now.stack.values c.requires.there c.args.member c.args.records.now c.in-Save.is c.requires.done in
    done_ok c.args.member code.Save c.args.count 2 c.args.frame.now c.save.new.frame c.args.records.now c.save.new.records c.save.result c.in-Save.is is.two c.save.ensures

pub place-requires : goal.place-requires
place-requires c =
    let is = placed c.args.count c.args.frame.now.stack.values c.requires.there c.args.member c.args.records.now c.in-Place.is c.requires.done in
    record { there = is.there; last = is.last; first = is.first }

pub returns-in-Place : goal.returns-in-Place
returns-in-Place c =
    let is = placed c.args.count c.args.frame.now.stack.values c.requires.there c.args.member c.args.records.now c.in-Place.is c.requires.done in
    done_as c.args.member code.Place c.args.count 3 c.args.frame.now c.place.new.frame c.args.records.now c.place.new.records c.in-Place.is is.three c.place.ensures

pub do_alone-requires : goal.do_alone-requires
do_alone-requires c =
    let is = alone c.args.count c.args.frame.now.stack.values c.requires.there c.args.member c.args.records.now c.in_default.not-Save c.in_default.not-Place c.requires.done in
    record {
      args = is.args;
      there = is.there;
      room = subst (λ (n : ℕ). gives_value (member_meant c.args.member) ≡ true → length (drop n c.args.frame.now.stack.values) < c.args.frame.now.stack.room) is.one c.requires.room;
      done = subst (λ (vs : List Value). did (member_meant c.args.member) vs c.args.records.now ≡ NotDone → ⊥)
          (alone_args c.args.member (reverse (take c.args.count c.args.frame.now.stack.values)) c.args.records.now c.in_default.not-Save c.in_default.not-Place c.requires.done) c.requires.done;
    }

pub returns-in_default : goal.returns-in_default
returns-in_default c =
    let is = alone c.args.count c.args.frame.now.stack.values c.requires.there c.args.member c.args.records.now c.in_default.not-Save c.in_default.not-Place c.requires.done in
    alone_done_ok c.args.member c.args.count c.args.frame.now c.do_alone.new.frame c.args.records.now c.do_alone.new.records c.do_alone.result is.one c.do_alone.ensures
