-- What catches in a program and in its woven form, and of which class what is raised is.
use Rattle.std.proofs.Common.{◌≡◌, inl, inr, ℕ, zero, suc, ◌<◌, Bool, true, false, List, [], ◌∷◌, length, Option, Some, None, refl, sym, ap, subst, ◌∙◌}
use Rattle.std.specs.Prelude.{slice_get, codes}
use Rattle.std.proofs.lemmas.Bool.{false≢true}
use Rattle.std.proofs.lemmas.Option.{none-some, same_Some}
use Rattle.kilim_program.specs.declared.class.Form.TheVariants.{Plain, Woven}
use Rattle.kilim_program.specs.declared.class.Method.{Method}
use Rattle.kilim_program.specs.declared.names.ClassId.{ClassId}
use Rattle.kilim_program.specs.declared.names.MethodId.{MethodId}
use Rattle.kilim_program.specs.BuiltIn.{fiber_methods}
use Rattle.kilim_program.specs.Keeps.{Keeps}
use Rattle.kilim_program.specs.Names.{◌>>=◌, class_named, is_empty, method_at}
use Rattle.kilim_program.specs.Program.{Program}
use Rattle.kilim_run_state.specs.declared.cause.EndCause.{EndCause}
use Rattle.kilim_run_state.specs.declared.cause.EndCause.TheVariants as cause
use Rattle.kilim_run_machine.specs.Raising.{array_index, other_index, raised_class, raised_name, text_index}
use Rattle.kilim_type_laws.proofs.members.FromKeeps.{all_at}
use Rattle.kilim_type_sound.specs.Facts.{IsIndexName}
use Rattle.kilim_weave_spec.specs.Form.{AllWoven, WovenForm, first_class}
use Rattle.kilim_weave_laws.specs.woven_programs.Law.{TablesKeep}
use Rattle.kilim_weave_laws.proofs.woven_programs.Handled.{none_pauses_with_table}
use Rattle.kilim_weave_laws.proofs.woven_programs.Tables.{woven_tables}
use Rattle.kilim_fiber_spec.specs.Form.{is_pausable}
use Rattle.kilim_fiber_spec.specs.Serves.{IsBare}
use Rattle.kilim_fiber_laws.proofs.stands.shares.Names as names

-- what is none of the old methods has no exception table
bare_behind : (P : Program) (ms ws : List Method) (cs : List (List Bool)) → AllWoven P ms ws cs → (k : ℕ) (b : Method) → slice_get ms k ≡ None → slice_get ws k ≡ Some b → is_empty b.handlers ≡ true
bare_behind P [] ws cs a k b n e = all_at (λ (m : Method). is_empty m.handlers) (fiber_methods Woven (first_class P)) k b refl (subst (λ (z : List Method). slice_get z k ≡ Some b) a.0 e)
bare_behind P (x ∷ ms) [] cs a k b n e = absurd a
bare_behind P (x ∷ ms) (w ∷ ws) [] a k b n e = absurd a
bare_behind P (x ∷ ms) (w ∷ ws) (c ∷ cs) a zero b n e = absurd (cc)
bare_behind P (x ∷ ms) (w ∷ ws) (c ∷ cs) a (suc k) b n e = bare_behind P ms ws cs a.1 k b n e

module _ (P W : Program) (counted : List (List Bool)) (keeps : Keeps P) (plainly : P.form ≡ Plain) (form : WovenForm P W counted) where
  pub tables : TablesKeep P W
  tables = woven_tables P W counted keeps plainly (none_pauses_with_table P keeps) form

  -- a method that can pause has none, in neither program
  pub paused : (id : MethodId) → is_pausable P id ≡ true → IsBare P id × IsBare W id
  paused id pauses = ((λ m at. none_pauses_with_table P keeps id m at (pausable m at)), woven (method_at P id) refl)
    where
      pausable : (m : Method) → method_at P id ≡ Some m → m.pausable ≡ true
      pausable m at = sym (ap (λ (o : Option Method). elim o [ None ↦ false | Some z ↦ z.pausable ]) at) ∙ pauses

      woven : (o : Option Method) → method_at P id ≡ o → IsBare W id
      woven None at = absurd (false≢true (sym (ap (λ (o : Option Method). elim o [ None ↦ false | Some z ↦ z.pausable ]) at) ∙ pauses))
      woven (Some m) at = let t = tables.paused id m at (pausable m at) in λ b there. subst (λ (z : Method). is_empty z.handlers ≡ true) (same_Some t.0 b (sym t.1 ∙ there)) t.2

  pub added : (id : MethodId) → method_at P id ≡ None → IsBare W id
  added id none b there = bare_behind P P.methods W.methods counted form.methods id.0 b none there

  -- ---- what is raised

  abbrev Same : List ℕ → Type 0
  Same name = class_named W name ≡ class_named P name

  indexed : (index : List ℕ) → IsIndexName index → class_named W index ≡ class_named P index
  indexed index (inl e) = subst Same (sym e) (names.class_same P W counted keeps plainly form array_index refl)
  indexed index (inr (inl e)) = subst Same (sym e) (names.class_same P W counted keeps plainly form text_index refl)
  indexed index (inr (inr e)) = subst Same (sym e) (names.class_same P W counted keeps plainly form other_index refl)

  pub raised : (index : List ℕ) → IsIndexName index → (why : EndCause) → raised_class W index why ≡ raised_class P index why
  raised index is cause.Null = names.class_same P W counted keeps plainly form (codes "java/lang/NullPointerException") refl
  raised index is cause.Index = indexed index is
  raised index is cause.Size = names.class_same P W counted keeps plainly form (codes "java/lang/NegativeArraySizeException") refl
  raised index is cause.Cast = names.class_same P W counted keeps plainly form (codes "java/lang/ClassCastException") refl
  raised index is cause.Store = names.class_same P W counted keeps plainly form (codes "java/lang/ArrayStoreException") refl
  raised index is cause.Zero = names.class_same P W counted keeps plainly form (codes "java/lang/ArithmeticException") refl
  raised index is why = refl

  pub raised_old : (index : List ℕ) (why : EndCause) (c : ClassId) → raised_class P index why ≡ Some c → c.0 < length P.classes
  raised_old index why c = by (raised_name index why)
    where
      by : (o : Option (List ℕ)) → (o >>= class_named P) ≡ Some c → c.0 < length P.classes
      by None e = absurd (none-some c e)
      by (Some name) e = names.class_old P W counted keeps plainly form name c e
