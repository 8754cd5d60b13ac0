-- The laws of woven programs, put together.
use Rattle.kilim_weave_laws.specs.woven_programs.kept.Law.{WovenIsKept}
use Rattle.kilim_weave_laws.proofs.woven_programs.keeps.Whole.{woven_methods}
use Rattle.kilim_weave_laws.proofs.woven_programs.classes.Together.{woven_classes}
use Rattle.kilim_weave_laws.proofs.woven_programs.kinds.Together.{woven_kinds}
use Rattle.kilim_weave_laws.proofs.woven_programs.selects.Together.{woven_selects}
use Rattle.kilim_weave_laws.proofs.woven_programs.places.Together.{woven_places}
use Rattle.kilim_weave_laws.proofs.woven_programs.Theorem.{woven_programs}

pub kept : WovenIsKept
kept p w counted keeps plainly typed pauses short few form =
    let m = woven_methods p w counted keeps plainly typed pauses short few form in
    let c = woven_classes p w counted keeps plainly form in
    let k = woven_kinds p w counted keeps plainly form in
    let s = woven_selects p w counted keeps plainly form in
    let i = woven_places p w counted keeps plainly typed form in (
      record {
        ids = i.ids;
        ancestors = k.ancestors;
        code = m.code;
        frames = m.frames;
        frame_types = m.frame_types;
        handlers = m.handlers;
        catches = m.catches;
        paused = m.paused;
        built_in = c.built_in;
        members = c.members;
        names = c.names;
        class_names = c.class_names;
        methods = m.methods;
        both = k.both;
        task_arrays = i.task_arrays;
        superclasses = k.superclasses;
        own_classes = c.own_classes;
        fields = k.fields;
        overriding = s.overriding;
        abstract_left = s.abstract_left;
        constants = c.constants;
      },
      (woven_programs p w counted keeps plainly typed pauses form).0,
    )
