-- What linking, verification and the isolation rules give of a program's runs.
use Rattle.std.proofs.Common.{◌≡◌, true, List}
use Rattle.kilim_program.specs.declared.class.Form.TheVariants.{Plain}
use Rattle.kilim_program.specs.declared.names.ClassId.{ClassId}
use Rattle.kilim_program.specs.Keeps.{Keeps}
use Rattle.kilim_program.specs.Program.{Program}
use Rattle.kilim_class_file.specs.declared.class_file.ClassFile.{ClassFile}
use Rattle.kilim_run_state.specs.declared.run.Limits.{Limits}
use Rattle.kilim_program.specs.Members.{is_fit_main}
use Rattle.kilim_run_model.specs.one_heap.Laws.{NoneShares}
use Rattle.kilim_type_spec.specs.Typed.{IsWellTyped}
use Rattle.kilim_isolation.specs.Faults.{IsAccepted}
use Rattle.kilim_link_spec.specs.LinksWell.{LinksWell}
use Rattle.kilim_isolation_laws.specs.accepted_runs.plain.Laws.{LinkedIsPlain}
use Rattle.kilim_isolation_laws.specs.accepted_runs.begins.Begins.{MainsBegin}
use Rattle.kilim_isolation_laws.specs.reached_objects.Laws.{typed}
use Rattle.kilim_isolation_laws.specs.Laws.{IsRunOfAccepted}
use Rattle.kilim_isolation_laws.specs.kept.Laws.{AcceptedIsKept}
use Rattle.kilim_isolation_laws.specs.accepted_runs.Laws.{AcceptedIsIsolated, AcceptedIsRun, setting_of}

module _ (plain : LinkedIsPlain) (begins : MainsBegin) where
  run_of : (files : List ClassFile) (p : Program) → LinksWell files Plain p → Keeps p → IsWellTyped p → IsAccepted (typed p) → (main : ClassId) → is_fit_main p main ≡ true → (limits : Limits) → IsRunOfAccepted (setting_of p main limits)
  run_of files p links keeps well accepted main fit limits =
      let form = plain files p links keeps in
      record { keeps = keeps; named = form.1; form = form.0; well = well; accepted = accepted; main = fit; begins = begins files Plain p links main }

  pub is_run : AcceptedIsRun
  is_run files p links keeps well accepted main fit limits = run_of files p links keeps well accepted main fit limits

  pub isolated : AcceptedIsKept → NoneShares → AcceptedIsIsolated
  isolated kept none files p links keeps well accepted main fit limits live alive =
      none live (setting_of p main limits) fit (kept (setting_of p main limits) (run_of files p links keeps well accepted main fit limits) live alive)
