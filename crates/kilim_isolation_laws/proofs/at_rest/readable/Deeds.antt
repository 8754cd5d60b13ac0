-- The deeds of a course can be read.
use Rattle.std.proofs.Common.{◌≡◌, ℕ, Bool, true, List, [], ◌∷◌, ◌++◌, Option, Some, None, refl, sym, ap, subst, ◌∙◌}
use Rattle.std.specs.List.{AllByRecursion}
use Rattle.kilim_program.specs.declared.names.BoxName.{BoxName}
use Rattle.kilim_run_state.specs.declared.value.Object.{Object}
use Rattle.kilim_run_state.specs.declared.value.Token.{Token}
use Rattle.kilim_run_state.specs.Trees.{built, OfMessage}
use Rattle.kilim_run_journal.specs.declared.entry.Act.{Act}
use Rattle.kilim_run_journal.specs.declared.entry.Act.TheVariants as act
use Rattle.kilim_run_journal.specs.Readable.{is_object, is_readable_act}
use Rattle.kilim_program.specs.Program.{Program}
use Rattle.kilim_run_model.specs.State.{Setting}
use Rattle.kilim_run_model.specs.declared.deed.Deed.{Deed}
use Rattle.kilim_run_model.specs.Course.{Course, Done, Follows, IsLone, done_by, fills_deed, next_action, probes_deed, puts_deed, starts_deed, takes_deed, tree_came}
use Rattle.kilim_run_model.specs.Lone.{Lone, Next}
use Rattle.kilim_run_model.specs.Lone as next
use Rattle.kilim_isolation_laws.proofs.at_rest.readable.Nexts.{CanRead, action_read}

abbrev pub IsReadableDeed : Deed → Type 0
IsReadableDeed d = is_readable_act d.act ≡ true

abbrev ReadDone : Option Done → Type 0
ReadDone None = Unit {0}
ReadDone (Some done) = is_readable_act done.act ≡ true

came_read : (box : BoxName) (n : ℕ) (l : Lone) (o : Option (List Object)) → ReadDone (tree_came box n l o)
came_read box n l None = tt
came_read box n l (Some objects) = refl

takes_read : (p : Program) (box : BoxName) (l : Lone) (d : Deed) (a : Act) → ReadDone (takes_deed p box l d a)
takes_read p box l d (act.Take b n) = came_read box n l (built p OfMessage l.next d.taken)
takes_read p box l d a = tt

probes_read : (p : Program) (box : BoxName) (l : Lone) (d : Deed) (a : Act) → ReadDone (probes_deed p box l d a)
probes_read p box l d (act.Empty b) = refl
probes_read p box l d (act.Take b n) = came_read box n l (built p OfMessage l.next d.taken)
probes_read p box l d a = tt

puts_read : (p : Program) (box : BoxName) (root : ℕ) (shape : List Token) (l : Lone) (a : Act) → is_object shape ≡ true → ReadDone (puts_deed p box root shape l a)
puts_read p box root shape l (act.Put b n s) e = e
puts_read p box root shape l a e = tt

fills_read : (p : Program) (box : BoxName) (root : ℕ) (shape : List Token) (l : Lone) (a : Act) → is_object shape ≡ true → ReadDone (fills_deed p box root shape l a)
fills_read p box root shape l (act.Put b n s) e = e
fills_read p box root shape l (act.End why) e = refl
fills_read p box root shape l a e = tt

starts_read : (p : Program) (root : ℕ) (shape : List Token) (l : Lone) (a : Act) → is_object shape ≡ true → ReadDone (starts_deed p root shape l a)
starts_read p root shape l (act.Start n s) e = e
starts_read p root shape l (act.End why) e = refl
starts_read p root shape l a e = tt

done_read : (set : Setting) (n : Next) (d : Deed) → CanRead n → ReadDone (done_by set n d)
done_read set (next.Goes l) d c = tt
done_read set (next.Puts box root shape l) d c = fills_read set.program box root shape l d.act c
done_read set (next.PutWaits box root shape l) d c = puts_read set.program box root shape l d.act c
done_read set (next.Bounds box most l) d c = refl
done_read set (next.Gets box l) d c = takes_read set.program box l d d.act
done_read set (next.Probes box l) d c = probes_read set.program box l d d.act
done_read set (next.Starts root shape l) d c = starts_read set.program root shape l d.act c
done_read set (next.Prints token l) d c = c
done_read set (next.Ends why l) d c = refl
done_read set next.Stands d c = tt

follows_read : (set : Setting) (t : ℕ) (ds : List Deed) (l last : Lone) → Follows set t l ds last → AllByRecursion IsReadableDeed ds
follows_read set t [] l last f = tt
follows_read set t (d ∷ ds) l last f = (subst ReadDone f.1 (done_read set (next_action set t l) d (action_read set t l)), follows_read set t ds f.0 last f.2)

pub course_read : (set : Setting) (t : ℕ) (c : Course) (last : Lone) → IsLone set t c last → AllByRecursion IsReadableDeed c.deeds
course_read set t c last is = follows_read set t c.deeds is.first last is.follows
