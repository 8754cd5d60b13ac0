-- The woven form of an accepted program to which class files link serves its runs.
use Rattle.std.proofs.Common.{◌≤◌, ℕ, List, length, sym, subst}
use Rattle.kilim_isolation_laws.specs.accepted_runs.Laws.{AcceptedIsRun}
use Rattle.kilim_link.specs.Keeping.{LinksKeep}
use Rattle.kilim_program.specs.declared.class.Form.TheVariants.{Plain}
use Rattle.kilim_program.specs.Program.{Program}
use Rattle.kilim_link_spec.specs.LinksWell.{LinksWell}
use Rattle.kilim_stages.specs.Accepted.{IsAcceptedOf}
use Rattle.kilim_stages.proofs.Both.{all_fit, as_many}
use Rattle.kilim_type_verify.proofs.Verified.{well_typed}
use Rattle.kilim_fiber_laws.specs.woven_served.Served.{RunsServe}
use Rattle.kilim_image_command.specs.Laws.{WovenIsServed}
use Rattle.kilim_run.specs.Runs.{setting_of}

links_well : (files : List (List ℕ)) (p : Program) → length files ≤ 1000 → (is : IsAcceptedOf files p) → LinksWell is.of_files.classes Plain p
links_well files p few is = record {
  few = subst (λ (n : ℕ). n ≤ 1000) (sym (as_many files is.of_files.classes is.of_files.are_files)) few;
  fit = all_fit files is.of_files.classes is.of_files.are_files;
  none = is.of_files.none;
  linked = is.of_files.linked;
}

pub served : LinksKeep → AcceptedIsRun → RunsServe → WovenIsServed
served keep accepted serve files p w few is weaves main fit limits =
    let well = links_well files p few is in
    let keeps = keep is.of_files.classes Plain p well in
    let run = accepted is.of_files.classes p well keeps (well_typed p keeps is.accepts.typed) is.accepts.isolated main fit limits in
    record {
      run = run;
      woven = weaves.form;
      runs = serve (setting_of p main limits) run weaves.too_long w.program w.counted weaves.form;
    }
