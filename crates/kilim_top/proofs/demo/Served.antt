-- The runs of an accepted demo can be made.
use Rattle.std.proofs.Common.{◌≡◌, ◌≤◌, ℕ, List, Option, Some, Result, Ok, Err, length, sym, subst, arith}
use Rattle.std.proofs.lemmas.List.{length-map}
use Rattle.std.specs.Prelude.{IfOk}
use Rattle.kilim_program.specs.declared.names.ClassId.{ClassId}
use Rattle.kilim_program.specs.Program.{Program}
use Rattle.kilim_class_file.specs.Text.{class_text}
use Rattle.kilim_run_journal.specs.declared.entry.Entry.{Entry}
use Rattle.kilim_program.specs.main_class.Main.{fit_class_named}
use Rattle.kilim_run_state.specs.declared.run.Limits.{Limits}
use Rattle.kilim_demo.specs.Demo.{demo_of}
use Rattle.kilim_demo.specs.Laws.{DemoIsShort}
use Rattle.kilim_stages.specs.declared.refusal.Refusal.{Refusal}
use Rattle.kilim_run_model.specs.Runs.{Whole}
use Rattle.kilim_weave.specs.declared.weaving.Woven.{Woven}
use Rattle.kilim_image_command.specs.Laws.{WovenIsServed}
use Rattle.kilim_run.specs.Runs.{IsJournalOf, setting_of}
use Rattle.kilim_fiber_laws.specs.Served.{CanServe}
use Rattle.kilim_stages.specs.declared.woven_stage.stage.WovenProgram.{WovenProgram}
use Rattle.kilim_stages.specs.woven_stage.Stage.{IsWithMain, IsWovenOf}
use Rattle.kilim_command.specs.DemoLine.{demo_line}
use Rattle.kilim_top.specs.demo.Demo.{demo_limits, demo_texts, main_name, IsDemoLine}
use Rattle.kilim_top.specs.demo.Ready.{IsReady}
use Rattle.kilim_image_command.proofs.Mains.{fit_named}

-- there are not too many to be linked
pub few_texts : DemoIsShort → (number : ℕ) → length (demo_texts number) ≤ 1000
unfolding demo_texts
few_texts short number = let P : ℕ → Type 0 = λ n. n ≤ 1000 in subst P (sym (length-map (demo_of number) class_text)) (omega (arith, short number))

is_ready : WovenIsServed → DemoIsShort → (number : ℕ) (p : Program) (w : Woven) (main : ClassId) → IsWovenOf (demo_texts number) p w → fit_class_named p main_name ≡ Some main → IsReady number p w main
is_ready law short number p w main is fit = record {
  accepted = is.accepted;
  none = is.none;
  fit = fit;
  served = law (demo_texts number) p w (few_texts short number) is.accepted is.weaves main (fit_named p main_name main fit).fit demo_limits;
}

pub ready_with : WovenIsServed → DemoIsShort → (number : ℕ) (p w : WovenProgram) (main : ClassId) (o : Option (WovenProgram × ClassId)) → o ≡ Some (w, main) → IsWovenOf (demo_texts number) p.plain p.woven → IsWithMain p main_name o → IsReady number w.plain w.woven main
ready_with law short number p w main o e is has =
    let found = subst (λ (x : Option (WovenProgram × ClassId)). IsWithMain p main_name x) e has in
    is_ready law short number w.plain w.woven main (subst (λ (v : WovenProgram). IsWovenOf (demo_texts number) v.plain v.woven) (sym found.0) is)
    (subst (λ (v : WovenProgram). fit_class_named v.plain main_name ≡ Some main) (sym found.0) found.1)

-- ---- runs

pub served_by : (number : ℕ) (p : Program) (w : Woven) (main : ClassId) (limits : Limits) → IsReady number p w main → limits ≡ demo_limits → CanServe (setting_of p main limits) w.program w.counted
served_by number p w main limits ready e = subst (λ (l : Limits). CanServe (setting_of p main l) w.program w.counted) (sym e) ready.served

pub line_is : (number : ℕ) (p : Program) (w : Woven) (main : ClassId) (limits : Limits) (journal : List Entry) (text : List ℕ) → IsReady number p w main → limits ≡ demo_limits → IsJournalOf (setting_of p main limits) journal → text ≡ demo_line number journal → IsDemoLine number text
line_is number p w main limits journal text ready e run is = record {
  program = p;
  accepted = ready.accepted;
  none = ready.none;
  main = main;
  named = (fit_named p main_name main ready.fit).named;
  fit = (fit_named p main_name main ready.fit).fit;
  journal = journal;
  whole = subst (λ (l : Limits). Whole (setting_of p main l) journal) e run.whole;
  is_text = is;
}

pub woven_of : (number : ℕ) (texts : List (List ℕ)) (r : Result WovenProgram Refusal) → texts ≡ demo_texts number → IfOk r (λ w. IsWovenOf texts w.plain w.woven) → IfOk r (λ w. IsWovenOf (demo_texts number) w.plain w.woven)
woven_of number texts (Ok w) e is = subst (λ (ts : List (List ℕ)). IsWovenOf ts w.plain w.woven) e is
woven_of number texts (Err refusal) e is = tt
