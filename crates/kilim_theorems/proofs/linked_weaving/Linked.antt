-- What linking, verification and the isolation rules give of the woven program.
use Rattle.std.proofs.Common.{◌≤◌, ℕ, List, sym, subst}
use Rattle.kilim_program.specs.declared.class.Form.TheVariants.{Plain}
use Rattle.kilim_program.specs.Keeps.{Keeps}
use Rattle.kilim_program.specs.Program.{Program}
use Rattle.kilim_class_file.specs.declared.class_file.ClassFile.{ClassFile}
use Rattle.kilim_isolation.specs.Faults.{IsAccepted}
use Rattle.kilim_link_spec.specs.LinksWell.{LinksWell}
use Rattle.kilim_theorems.specs.linked_weaving.Law.{AcceptedServes, LinkedServes}
use Rattle.kilim_isolation_laws.specs.accepted_runs.begins.Begins.{MainsBegin}
use Rattle.kilim_isolation_laws.specs.accepted_runs.plain.Laws.{LinkedIsPlain}
use Rattle.kilim_stages.proofs.Both.{all_fit, as_many}
use Rattle.kilim_type_verify.proofs.Verified.{well_typed}
use Rattle.kilim_type_spec.specs.Typed.{IsWellTyped, listed_frames}
use Rattle.kilim_weave.specs.declared.weaving.Woven.{Woven}
use Rattle.kilim_weave.specs.Weaves.{Weaves}
use Rattle.kilim_fiber_laws.specs.woven_served.Served.{RunsServe, Serves}

pub linked : LinkedIsPlain → MainsBegin → RunsServe → LinkedServes
linked plain begins serve files p links keeps well accepted w woven =
    let form = plain files p links keeps in
    record {
      form = woven.form;
      typed = woven.typed;
      runs = λ main fit limits.
          serve (record { program = p; main = main; limits = limits }) (record { keeps = keeps; named = form.1; form = form.0; well = well; accepted = accepted; main = fit; begins = begins files Plain p links main }) woven.too_long w.program w.counted woven.form;
    }

pub accepted : LinkedServes → AcceptedServes
accepted law files p few keeps is w woven =
    let links : LinksWell is.of_files.classes Plain p = record {
      few = subst (λ (n : ℕ). n ≤ 1000) (sym (as_many files is.of_files.classes is.of_files.are_files)) few;
      fit = all_fit files is.of_files.classes is.of_files.are_files;
      none = is.of_files.none;
      linked = is.of_files.linked;
    } in
    law is.of_files.classes p links keeps (well_typed p keeps is.accepts.typed) is.accepts.isolated w woven
