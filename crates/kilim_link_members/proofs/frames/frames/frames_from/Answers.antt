use Rattle.std.proofs.Common.{◌≡◌, ℕ, zero, suc, ◌+◌, ◌<◌, ◌≤◌, List, [], ◌∷◌, ◌++◌, length, drop, get_or, Option, Some, None, refl, sym, ap, ◌∙◌, append_assoc, arith, subst}
use Rattle.std.proofs.lemmas.List.{append-nil, at_drop_all}
use Rattle.std.proofs.lemmas.Option.{same_Some}
use Rattle.kilim_class_attributes.specs.declared.parts.frame.Frame.{Frame as FrameForm}
use Rattle.kilim_class_pool.specs.declared.entry.Entry.{Entry as PoolEntry}
use Rattle.kilim_program.specs.declared.verified.Frame.{Frame}
use Rattle.kilim_program.specs.declared.verified.VType.{VType}
use Rattle.kilim_link_spec.specs.World.{World}
use Rattle.kilim_link_spec.specs.Types.{each_of, itself, with_first}
use Rattle.kilim_link_spec.specs.Frames.{delta_of, entries_of, frames_from, place_after, placed_frame}
use Rattle.kilim_link_spec.specs.declared.named.Entries.{Entries}
use Rattle.kilim_link_members.specs.frames.Each.{behind}
use Rattle.kilim_link_members.specs.frames.Next.{IsNext, with_last}
use Rattle.kilim_link_members.proofs.frames.frames.frames_from.Goals as goal

drop_one : {A : Type 0} (xs : List A) (i : ℕ) (d : A) → i < length xs → drop i xs ≡ get_or xs i d ∷ drop (i + 1) xs
drop_one [] i d lt = absurd (omega arith)
drop_one (x ∷ xs) zero d lt = refl
drop_one (x ∷ xs) (suc i) d lt =
    let n : suc i + 1 ≡ suc (i + 1) = omega arith in
    drop_one xs i d (omega arith) ∙ ap (λ (k : ℕ). get_or xs i d ∷ drop k (x ∷ xs)) (sym n)

pushed : {A : Type 0} (made new : List A) (last : Option A) (others : Option (List A)) → with_last made last ≡ Some new → behind new others ≡ behind made (with_first last others)
pushed made new None others e = absurd cc
pushed made new (Some x) None e = refl
pushed {A} made new (Some x) (Some ys) e =
    ap (λ (n : List A). Some (n ++ ys)) (sym (same_Some (made ++ x ∷ []) new e)) ∙ ap (λ (all : List A). Some all) (append_assoc made (x ∷ []) ys)

module _ (w : World) (pool : List PoolEntry) (forms : List FrameForm) (i : ℕ) (form : FrameForm) (before : Option ℕ) (locals : List (Option VType)) (made new : List (ℕ × Frame)) {total : Option (List (ℕ × Frame))}
    (lt : i < length forms) (is : form ≡ get_or forms i form) (so_far : behind made (each_of itself (frames_from w pool before locals (drop i forms))) ≡ total) where
  abbrev place : ℕ
  place = place_after before (delta_of form)

  abbrev entries : Entries
  entries = entries_of w pool locals form

  here : behind made (with_first (placed_frame place entries) (each_of itself (frames_from w pool (Some place) entries.locals (drop (i + 1) forms)))) ≡ total
  unfolding frames_from
  here =
      let at : drop i forms ≡ form ∷ drop (i + 1) forms = drop_one forms i form lt ∙ ap (λ (f : FrameForm). f ∷ drop (i + 1) forms) (sym is) in
      ap (λ (fs : List FrameForm). behind made (each_of itself (frames_from w pool before locals fs))) (sym at) ∙ so_far

  -- one more frame is made
  goes_on : (at : ℕ) (next : List (Option VType)) → IsNext w pool before locals form made new (Some (at, next)) → behind new (each_of itself (frames_from w pool (Some at) next (drop (i + 1) forms))) ≡ total
  goes_on at next more =
      ap (λ (p : ℕ). behind new (each_of itself (frames_from w pool (Some p) next (drop (i + 1) forms)))) more.0
      ∙ (ap (λ (ls : List (Option VType)). behind new (each_of itself (frames_from w pool (Some place) ls (drop (i + 1) forms)))) more.1.0
      ∙ (pushed made new (placed_frame place entries) (each_of itself (frames_from w pool (Some place) entries.locals (drop (i + 1) forms))) more.1.1
      ∙ here))

  stops : IsNext w pool before locals form made new None → None ≡ total
  stops none = sym (ap (λ (last : Option (ℕ × Frame)). behind made (with_first last (each_of itself (frames_from w pool (Some place) entries.locals (drop (i + 1) forms))))) none) ∙ here

ends : (w : World) (pool : List PoolEntry) (forms : List FrameForm) (i : ℕ) (before : Option ℕ) (locals : List (Option VType)) (made : List (ℕ × Frame)) {total : Option (List (ℕ × Frame))} → length forms ≤ i
    → behind made (each_of itself (frames_from w pool before locals (drop i forms))) ≡ total → Some made ≡ total
unfolding frames_from
ends w pool forms i before locals made le so_far =
    ap (λ (all : List (ℕ × Frame)). Some all) (sym (append-nil made)) ∙ (sym (at_drop_all (λ (fs : List FrameForm). behind made (each_of itself (frames_from w pool before locals fs))) forms i le) ∙ so_far)

pub loop-form-preserved : goal.loop-form-preserved
loop-form-preserved c = goes_on c.args.world.now c.args.pool.now c.args.forms.now c.loop-form.form-index c.form-item.result c.loop-form.before c.loop-form.locals c.loop-form.frames c.push_next-found.new.frames c.loop-form-test.true c.form-item.is c.loop-form.invariant c.in-Ok-Some.place c.in-Ok-Some.next
    (subst (λ (found : Option (ℕ × List (Option VType))). IsNext c.args.world.now c.args.pool.now c.loop-form.before c.loop-form.locals c.form-item.result c.loop-form.frames c.push_next-found.new.frames found) c.in-Ok-Some.field-0-is
    (subst (λ (locals : List (Option VType)). IsNext c.args.world.now c.args.pool.now c.loop-form.before locals c.form-item.result c.loop-form.frames c.push_next-found.new.frames c.in-Ok-Some.field-0) c.as_slice.ensures c.in-Ok-Some.ensures))

pub returns-in-Ok-None : goal.returns-in-Ok-None
returns-in-Ok-None c = stops c.args.world.now c.args.pool.now c.args.forms.now c.loop-form.form-index c.form-item.result c.loop-form.before c.loop-form.locals c.loop-form.frames c.push_next-found.new.frames c.loop-form-test.true c.form-item.is c.loop-form.invariant
    (subst (λ (found : Option (ℕ × List (Option VType))). IsNext c.args.world.now c.args.pool.now c.loop-form.before c.loop-form.locals c.form-item.result c.loop-form.frames c.push_next-found.new.frames found) c.in-Ok-None.field-0-is
    (subst (λ (locals : List (Option VType)). IsNext c.args.world.now c.args.pool.now c.loop-form.before locals c.form-item.result c.loop-form.frames c.push_next-found.new.frames c.in-Ok-None.field-0) c.as_slice.ensures c.in-Ok-None.ensures))

pub returns : goal.returns
returns c = ends c.args.world.now c.args.pool.now c.args.forms.now c.loop-form.form-index c.loop-form.before c.loop-form.locals c.loop-form.frames c.loop-form-test.false c.loop-form.invariant
