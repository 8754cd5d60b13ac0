-- The runs of an accepted program to which class files link.
use Rattle.std.proofs.Common.{◌≡◌, ◌≤◌, ℕ, true, List, length, sym, subst}
use Rattle.kilim_isolation_laws.specs.accepted_runs.Laws.{AcceptedIsIsolated, setting_of}
use Rattle.kilim_link.specs.Keeping.{LinksKeep}
use Rattle.kilim_program.specs.declared.class.Form.TheVariants.{Plain}
use Rattle.kilim_program.specs.declared.names.ClassId.{ClassId}
use Rattle.kilim_program.specs.Program.{Program}
use Rattle.kilim_link_spec.specs.LinksWell.{LinksWell}
use Rattle.kilim_run_state.specs.declared.run.Limits.{Limits}
use Rattle.kilim_program.specs.Members.{is_fit_main}
use Rattle.kilim_isolation_laws.specs.reached_objects.Laws.{AreLive}
use Rattle.kilim_stages.specs.Accepted.{IsAcceptedOf}
use Rattle.kilim_stages.proofs.Both.{all_fit, as_many}
use Rattle.kilim_run_model.specs.Reach.{Liveness, PlaysIsolated}
use Rattle.kilim_type_verify.proofs.Verified.{well_typed}

links_well : (files : List (List ℕ)) (p : Program) → length files ≤ 1000 → (is : IsAcceptedOf files p) → LinksWell is.of_files.classes Plain p
links_well files p few is = record {
  few = subst (λ (n : ℕ). n ≤ 1000) (sym (as_many files is.of_files.classes is.of_files.are_files)) few;
  fit = all_fit files is.of_files.classes is.of_files.are_files;
  none = is.of_files.none;
  linked = is.of_files.linked;
}

module _ (keep : LinksKeep) (law : AcceptedIsIsolated) where
  pub isolated : (files : List (List ℕ)) (p : Program) → length files ≤ 1000 → IsAcceptedOf files p → (main : ClassId) → is_fit_main p main ≡ true → (limits : Limits) → (live : Liveness) → AreLive p live → PlaysIsolated live (setting_of p main limits)
  isolated files p few is main fit limits live sound =
      let well = links_well files p few is in
      let keeps = keep is.of_files.classes Plain p well in
      law is.of_files.classes p well keeps (well_typed p keeps is.accepts.typed) is.accepts.isolated main fit limits live sound
