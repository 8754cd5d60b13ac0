-- The `execute` of a task class is the same method in the woven program.
use Rattle.std.proofs.Common.{◌≡◌, ◌⊎◌, inl, inr, ℕ, suc, Bool, true, false, ◌&&◌, List, [], ◌∷◌, Option, Some, None, refl, sym, ap, subst, ◌∙◌}
use Rattle.std.specs.Prelude.{slice_get, codes, if◌then◌else◌}
use Rattle.std.specs.Str.{bytes_eq}
use Rattle.std.proofs.lemmas.Option.{same_Some}
use Rattle.kilim_program.specs.declared.class.Form.TheVariants.{Plain, Woven}
use Rattle.kilim_program.specs.declared.class.Method.{Method}
use Rattle.kilim_program.specs.declared.names.ClassId.{ClassId}
use Rattle.kilim_program.specs.BuiltIn.{fiber_methods}
use Rattle.kilim_program.specs.Keeps.{Keeps}
use Rattle.kilim_program.specs.Names.{◌>>=◌, first_that, is_task}
use Rattle.kilim_program.specs.Program.{Program}
use Rattle.kilim_program.specs.Same.{selected}
use Rattle.kilim_program.specs.Members.{execute_of, is_task_execute}
use Rattle.kilim_weave_spec.specs.Form.{AllWoven, IsWoven, WovenForm, first_class, has_calls}
use Rattle.kilim_weave_laws.proofs.woven_programs.Methods.{Like, like}
use Rattle.kilim_fiber_laws.proofs.stands.shares.Fibers as fibers_of
use Rattle.kilim_fiber_laws.proofs.stands.shares.Names as names

module _ (P W : Program) (counted : List (List Bool)) (keeps : Keeps P) (plainly : P.form ≡ Plain) (form : WovenForm P W counted) where
  -- the first built-in `execute` of both programs
  record First (ms ws : List Method) (k : ℕ) : Type 0 where
    old : Method
    new : Method
    place : ℕ
    at : slice_get ms place ≡ Some old
    there : slice_get ws place ≡ Some new
    in_p : first_that is_task_execute ms ≡ Some old
    in_w : first_that is_task_execute ws ≡ Some new
    passes : is_task_execute old ≡ true

  alike : (a b : Method) (marks : List Bool) → IsWoven P a b marks → is_task_execute b ≡ is_task_execute a
  alike a b marks w =
      ap (λ (z : Bool). z && bytes_eq b.name (codes "execute")) (names.built_by P a b marks a.pausable (has_calls P a) w)
      ∙ ap (λ (n : List ℕ). a.built_in && bytes_eq n (codes "execute")) (like P a b marks w).name

  none_of_members : (n : ℕ) → first_that is_task_execute (fiber_methods Woven n) ≡ None
  none_of_members n = refl

  firsts : (ms ws : List Method) (cs : List (List Bool)) → AllWoven P ms ws cs → First ms ws 0 ⊎ ((first_that is_task_execute ms ≡ None) × (first_that is_task_execute ws ≡ None))
  firsts [] ws cs a = inr (refl, ap (first_that is_task_execute) a.0 ∙ none_of_members (first_class P))
  firsts (x ∷ ms) [] cs a = absurd a
  firsts (x ∷ ms) (w ∷ ws) [] a = absurd a
  firsts (x ∷ ms) (w ∷ ws) (c ∷ cs) a = by (is_task_execute x) refl (alike x w c a.0) (firsts ms ws cs a.1)
    where
      by : (z : Bool) → is_task_execute x ≡ z → is_task_execute w ≡ is_task_execute x → First ms ws 0 ⊎ ((first_that is_task_execute ms ≡ None) × (first_that is_task_execute ws ≡ None))
          → First (x ∷ ms) (w ∷ ws) 0 ⊎ ((first_that is_task_execute (x ∷ ms) ≡ None) × (first_that is_task_execute (w ∷ ws) ≡ None))
      by true e same rest = inl (record {
        old = x;
        new = w;
        place = 0;
        at = refl;
        there = refl;
        in_p = ap (λ (t : Bool). if t then Some x else first_that is_task_execute ms) e;
        in_w = ap (λ (t : Bool). if t then Some w else first_that is_task_execute ws) (same ∙ e);
        passes = e;
      })
      by false e same (inl f) = inl (record {
        old = f.old;
        new = f.new;
        place = suc f.place;
        at = f.at;
        there = f.there;
        in_p = ap (λ (t : Bool). if t then Some x else first_that is_task_execute ms) e ∙ f.in_p;
        in_w = ap (λ (t : Bool). if t then Some w else first_that is_task_execute ws) (same ∙ e) ∙ f.in_w;
        passes = f.passes;
      })
      by false e same (inr f) = inr (ap (λ (t : Bool). if t then Some x else first_that is_task_execute ms) e ∙ f.0, ap (λ (t : Bool). if t then Some w else first_that is_task_execute ws) (same ∙ e) ∙ f.1)

  pub execute_same : (c : ClassId) → is_task P c ≡ true → execute_of W c ≡ execute_of P c
  execute_same c task = by (firsts P.methods W.methods counted form.methods)
    where
      by : First P.methods W.methods 0 ⊎ ((first_that is_task_execute P.methods ≡ None) × (first_that is_task_execute W.methods ≡ None)) → execute_of W c ≡ execute_of P c
      by (inr n) = ap (λ (o : Option Method). o >>= selected W c) n.1 ∙ sym (ap (λ (o : Option Method). o >>= selected P c) n.0)
      by (inl f) =
          let x = fibers_of.execute_is P W counted keeps plainly form (record { 0 = f.place }) f.old f.at f.passes in
          let t = names.twin P W counted keeps plainly form (record { 0 = f.place }) f.old f.at in
          let same : t.method ≡ f.new = same_Some t.method f.new (sym t.there ∙ f.there) in
          let s = names.selected_same P W counted keeps plainly form (record { 0 = f.place }) f.old f.new f.at (subst (λ (z : Method). Like P f.old z) same t.like) x.public x.plain c
          (fibers_of.task_line P W counted keeps plainly form c f.old x task) in
          (ap (λ (o : Option Method). o >>= selected W c) f.in_w ∙ s.1) ∙ sym (ap (λ (o : Option Method). o >>= selected P c) f.in_p ∙ s.2)
