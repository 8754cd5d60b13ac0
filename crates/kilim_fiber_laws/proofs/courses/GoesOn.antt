-- The thread of a course goes on as the thread of a course.
use Rattle.std.proofs.Common.{◌≡◌, ℕ, true, List, [], ◌∷◌, ◌++◌, Option, Some, None, refl, sym, ap, subst, ◌∙◌}
use Rattle.std.proofs.lemmas.Option.{none-some, same_Some}
use Rattle.kilim_run_state.specs.declared.cause.EndCause.{EndCause}
use Rattle.kilim_run_state.specs.declared.value.Object.{Object}
use Rattle.kilim_run_state.specs.declared.value.Token.{Token}
use Rattle.kilim_program.specs.declared.names.BoxName.{BoxName}
use Rattle.kilim_run_journal.specs.declared.entry.Act.{Act}
use Rattle.kilim_run_journal.specs.declared.entry.Act.TheVariants.{Put, Take, Empty, Start, End}
use Rattle.kilim_run_model.proofs.one_heap.Booking.{action_is, is_act}
use Rattle.kilim_run_state.specs.Trees.{OfMessage, built}
use Rattle.kilim_run_model.specs.Course.{Course, Done, Follows, IsLone, Moves, Quiet, Stays, done_by, fills_deed, next_action, probes_deed, puts_deed, starts_deed, takes_deed, tree_came}
use Rattle.kilim_run_model.specs.Lone.{Lone, Next, next_move}
use Rattle.kilim_run_model.specs.Lone as next
use Rattle.kilim_run_model.specs.State.{Setting}
use Rattle.kilim_run_model.specs.declared.deed.Deed.{Deed}
use Rattle.kilim_fiber_spec.proofs.lone.Steps.{steps}
use Rattle.kilim_fiber_spec.specs.lone.Law.{IsActed, IsAt, IsBehind, IsDone, IsLast, IsNext, IsWanted, lone_at, wanted}
use Rattle.kilim_fiber_spec.specs.Acts.{Action, Astray, Finished, Lost, Over, Wants, Apart}
use Rattle.kilim_fiber_spec.specs.Thread.{Run, Stop, Thread, step}
use Rattle.kilim_fiber_laws.specs.courses.Law.{CoursesGoOn, IsOfCourse}

-- ---- the deed of what was done

-- it says the act itself
abbrev pub told : Deed → Done → Deed
told d y = record { act = y.act; taken = d.taken }

abbrev pub Again : Setting → Next → Deed → Done → Type 0
Again set n d y = done_by set n (told d y) ≡ Some y

from_same : (set : Setting) (n : Next) (d : Deed) (x y : Done) → Some x ≡ Some y → Again set n d x → Again set n d y
from_same set n d x y e a = subst (λ (z : Done). Again set n d z) (same_Some x y e) a

takes_again : (set : Setting) (n : Next) (box : BoxName) (l : Lone) (d : Deed) (y : Done) → ((k : ℕ) (after : Lone) → takes_deed set.program box l d (Take box k) ≡ Some (record { act = Take box k; after = after }) → Again set n d (record { act = Take box k; after = after })) →
    (act : Act) → takes_deed set.program box l d act ≡ Some y → Again set n d y
takes_again set n box l d y is (Take b k) e = by (built set.program OfMessage l.next d.taken) refl e
  where
    by : (o : Option (List Object)) → built set.program OfMessage l.next d.taken ≡ o → tree_came box k l o ≡ Some y → Again set n d y
    by None same e = absurd (none-some y e)
    by (Some objects) same e = from_same set n d _ y e (is k _ (ap (tree_came box k l) same))
takes_again set n box l d y is act e = absurd (none-some y e)

fills_again : (set : Setting) (box : BoxName) (root : ℕ) (shape : List Token) (l : Lone) (d : Deed) (y : Done) (act : Act) → fills_deed set.program box root shape l act ≡ Some y → Again set (next.Puts box root shape l) d y
fills_again set box root shape l d y (Put b k s) e = from_same set (next.Puts box root shape l) d _ y e refl
fills_again set box root shape l d y (End why) e = from_same set (next.Puts box root shape l) d _ y e refl
fills_again set box root shape l d y act e = absurd (none-some y e)

puts_again : (set : Setting) (box : BoxName) (root : ℕ) (shape : List Token) (l : Lone) (d : Deed) (y : Done) (act : Act) → puts_deed set.program box root shape l act ≡ Some y → Again set (next.PutWaits box root shape l) d y
puts_again set box root shape l d y (Put b k s) e = from_same set (next.PutWaits box root shape l) d _ y e refl
puts_again set box root shape l d y act e = absurd (none-some y e)

starts_again : (set : Setting) (root : ℕ) (shape : List Token) (l : Lone) (d : Deed) (y : Done) (act : Act) → starts_deed set.program root shape l act ≡ Some y → Again set (next.Starts root shape l) d y
starts_again set root shape l d y (Start k s) e = from_same set (next.Starts root shape l) d _ y e refl
starts_again set root shape l d y (End why) e = from_same set (next.Starts root shape l) d _ y e refl
starts_again set root shape l d y act e = absurd (none-some y e)

probes_again : (set : Setting) (box : BoxName) (l : Lone) (d : Deed) (y : Done) (act : Act) → probes_deed set.program box l d act ≡ Some y → Again set (next.Probes box l) d y
probes_again set box l d y (Empty b) e = from_same set (next.Probes box l) d _ y e refl
probes_again set box l d y (Take b k) e = takes_again set (next.Probes box l) box l d y (λ k after e. e) (Take b k) e
probes_again set box l d y act e = absurd (none-some y e)

pub done_again : (set : Setting) (n : Next) (d : Deed) (y : Done) → done_by set n d ≡ Some y → Again set n d y
done_again set (next.Goes l) d y e = absurd (none-some y e)
done_again set (next.Puts box root shape l) d y e = fills_again set box root shape l d y d.act e
done_again set (next.PutWaits box root shape l) d y e = puts_again set box root shape l d y d.act e
done_again set (next.Bounds box most l) d y e = from_same set (next.Bounds box most l) d _ y e refl
done_again set (next.Gets box l) d y e = takes_again set (next.Gets box l) box l d y (λ k after e. e) d.act e
done_again set (next.Probes box l) d y e = probes_again set box l d y d.act e
done_again set (next.Starts root shape l) d y e = starts_again set root shape l d y d.act e
done_again set (next.Prints token l) d y e = from_same set (next.Prints token l) d _ y e refl
done_again set (next.Ends why l) d y e = from_same set (next.Ends why l) d _ y e refl
done_again set next.Stands d y e = absurd (none-some y e)

-- one deed more
pub follows_one : (set : Setting) (t : ℕ) (a l mid : Lone) (ds : List Deed) (d : Deed) → Follows set t a ds l → done_by set (next_action set t l) d ≡ Some (record { act = d.act; after = mid }) → Follows set t a (ds ++ d ∷ []) mid
follows_one set t a l mid [] d f e = (mid, subst (λ (x : Lone). done_by set (next_action set t x) d ≡ Some (record { act = d.act; after = mid })) (sym f) e, refl)
follows_one set t a l mid (x ∷ ds) d f e = (f.0, f.1, follows_one set t f.0 l mid ds d f.2 e)

over : (set : Setting) (o : Over) (t : Thread) → t ≡ Stop o → IsOfCourse set t
over set o t e = subst (λ (z : Thread). IsOfCourse set z) (sym e) tt

last_over : (set : Setting) (why : EndCause) (ds : List Deed) (t : Thread) → IsLast why ds t → IsOfCourse set t
last_over set why [] t is = over set (Finished why is.0) t is.1
last_over set why (d ∷ ds) t is = over set Astray t is

wanted_over : (set : Setting) (o : Option (Action × Option Lone)) (t : Thread) → IsWanted o t → IsOfCourse set t
wanted_over set None t is = absurd is
wanted_over set (Some wish) t is = over set (Wants wish.0 is.0) t is.1

module _ (set : Setting) (k : ℕ) (aside : List Apart) (here : Lone) (c : Course) (last : Lone) (lone : IsLone set k c last) (quiet : Quiet set k last here) where
  moved : (after : Lone) → next_move set k here ≡ next.Goes after → (ds : List Deed) (as1 : List Act) (t : Thread) → IsAt after ds as1 k aside t → IsOfCourse set t
  moved after e ds as1 (Run m p l s x b w) is = (
    c,
    last,
    subst (λ (z : ℕ). IsLone set z c last) (sym is.3) lone,
    subst (λ (z : ℕ). Quiet set z last (lone_at m p l s b w)) (sym is.3) (Moves here quiet (e ∙ ap (λ (z : Lone). next.Goes z) (sym is.0))),
  )
  moved after e ds as1 (Stop o) is = absurd is

  acted : (n : Next) → next_move set k here ≡ n → is_act n ≡ true → (d : Deed) (y : Done) → done_by set n d ≡ Some y → (ds : List Deed) (as1 : List Act) (t : Thread) → IsAt y.after ds as1 k aside t → IsOfCourse set t
  acted n e act d y did ds as1 (Run m p l s x b w) is =
      let now = ap (λ (z : Next). done_by set z (told d y)) (action_is set k last here n quiet e act) ∙ done_again set n d y did in
      let more : Course = record { beginning = c.beginning; deeds = c.deeds ++ told d y ∷ [] } in
      let at : IsLone set k more y.after = record { first = lone.first; begins = lone.begins; follows = follows_one set k lone.first last y.after c.deeds (told d y) lone.follows now } in (
        more,
        y.after,
        subst (λ (z : ℕ). IsLone set z more y.after) (sym is.3) at,
        subst (λ (z : ℕ). Quiet set z y.after (lone_at m p l s b w)) (sym is.3) (Stays (sym is.0)),
      )
  acted n e act d y did ds as1 (Stop o) is = absurd is

  behind : (n : Next) → next_move set k here ≡ n → is_act n ≡ true → (d : Deed) (y : Done) → done_by set n d ≡ Some y → (act : Act) (ds : List Deed) (as1 : List Act) (t : Thread) → IsBehind act ds as1 k aside y.after t → IsOfCourse set t
  behind n e is d y did (End why) ds as1 t a = last_over set why ds t a
  behind n e is d y did act ds as1 t a = acted n e is d y did ds (act ∷ as1) t a

  done_on : (n : Next) → next_move set k here ≡ n → is_act n ≡ true → (d : Deed) (o : Option Done) → done_by set n d ≡ o → (ds : List Deed) (as1 : List Act) (t : Thread) → IsDone ds as1 k aside o t → IsOfCourse set t
  done_on n e is d None did ds as1 t a = over set Astray t a
  done_on n e is d (Some y) did ds as1 t a = behind n e is d y did y.act ds as1 t a

  acts_on : (n : Next) → next_move set k here ≡ n → is_act n ≡ true → (ds : List Deed) (as1 : List Act) (t : Thread) → IsActed set ds as1 k aside n t → IsOfCourse set t
  acts_on n e is [] as1 t a = wanted_over set (wanted n) t a
  acts_on n e is (d ∷ ds) as1 t a = done_on n e is d (done_by set n d) refl ds as1 t a

  next_on : (n : Next) → next_move set k here ≡ n → (ds : List Deed) (as1 : List Act) (t : Thread) → IsNext set ds as1 k aside n t → IsOfCourse set t
  next_on (next.Goes after) e ds as1 t a = moved after e ds as1 t a
  next_on (next.Puts box root shape l) e ds as1 t a = acts_on (next.Puts box root shape l) e refl ds as1 t a
  next_on (next.PutWaits box root shape l) e ds as1 t a = acts_on (next.PutWaits box root shape l) e refl ds as1 t a
  next_on (next.Bounds box most l) e ds as1 t a = acts_on (next.Bounds box most l) e refl ds as1 t a
  next_on (next.Gets box l) e ds as1 t a = acts_on (next.Gets box l) e refl ds as1 t a
  next_on (next.Probes box l) e ds as1 t a = acts_on (next.Probes box l) e refl ds as1 t a
  next_on (next.Starts root shape l) e ds as1 t a = acts_on (next.Starts root shape l) e refl ds as1 t a
  next_on (next.Prints token l) e ds as1 t a = acts_on (next.Prints token l) e refl ds as1 t a
  next_on (next.Ends why l) e ds as1 t a = acts_on (next.Ends why l) e refl ds as1 t a
  next_on next.Stands e ds as1 t a = over set Lost t a

pub goes_on : CoursesGoOn
goes_on set (Run m p l s x b w) is =
    next_on set w.task w.aside (lone_at m p l s b w) is.0 is.1 is.2 is.3 (next_move set w.task (lone_at m p l s b w)) refl w.deeds w.acts (step set (Run m p l s x b w)) (steps set m p l s x b w)
goes_on set (Stop o) is = tt
