-- From the bytes of an image to what is written of the run that goes on.
use Rattle.std.proofs.Common.{◌≡◌, ◌≤◌, ◌∙◌, ℕ, true, ◌&&◌, not, nat_le, List, sym, ap, subst, inl, inr, length, Vec}
use Rattle.std.specs.Str.{is_utf8}
use Rattle.std.proofs.lemmas.Bool.{and_parts, leb-true}
use Rattle.kilim_class_grammar.specs.Reader.{is_empty}
use Rattle.kilim_image.specs.Text.{is_right}
use Rattle.std.specs.declared.alloc.Global.{Global}
use Rattle.kilim_command.specs.Report.{utf16_of}
use Rattle.kilim_command.specs.Words.{limits_of}
use Rattle.kilim_fiber_laws.specs.Served.{CanServe}
use Rattle.kilim_image.specs.declared.image.Image.{Image}
use Rattle.kilim_image.specs.declared.image.Run.{Run}
use Rattle.kilim_program.specs.Program.{Program}
use Rattle.kilim_program.specs.declared.names.ClassId.{ClassId}
use Rattle.kilim_run.specs.Runs.{setting_of}
use Rattle.kilim_run_journal.specs.declared.entry.Entry.{Entry}
use Rattle.kilim_run_model.specs.State.{Setting}
use Rattle.kilim_run_state.specs.declared.run.Limits.{Limits}
use Rattle.kilim_stages.proofs.Parts.{refused}
use Rattle.kilim_stages.specs.Parts.{Refused}
use Rattle.kilim_stages.specs.declared.refusal.Refusal.{Refusal}
use Rattle.kilim_image_command.specs.Images.{IsFaultReport, IsImageOf}
use Rattle.kilim_image_command.specs.Laws.{WovenIsServed}
use Rattle.kilim_image_command.specs.Parts.{IsStarted}
use Rattle.kilim_image_command.specs.Programs.{IsStartReport, names_from}
use Rattle.kilim_image_command.specs.Resuming.{IsImageReport, IsStopped}
use Rattle.kilim_image_command.specs.declared.programs.Started.{Started}
use Rattle.kilim_image_command.specs.declared.resuming.Stopped.{Stopped}
use Rattle.kilim_weave.specs.declared.weaving.Woven.{Woven}
use Rattle.kilim_image_command.proofs.Saves.{can_serve}

-- an image has few files, and a name that is a text
is_right_parts : (run : Run) → is_right run ≡ true → (length run.files ≤ 1000) × (is_utf8 run.main ≡ true)
unfolding is_right
is_right_parts run right =
    let first = and_parts (nat_le 1 run.steps && nat_le run.steps 100000000) (nat_le (length run.args) 100 && ((nat_le 1 (length run.files) && nat_le (length run.files) 1000) && (not (is_empty run.main) && is_utf8 run.main))) right in
    let second = and_parts (nat_le (length run.args) 100) ((nat_le 1 (length run.files) && nat_le (length run.files) 1000) && (not (is_empty run.main) && is_utf8 run.main)) first.1 in
    let third = and_parts (nat_le 1 (length run.files) && nat_le (length run.files) 1000) (not (is_empty run.main) && is_utf8 run.main) second.1 in
    let files = and_parts (nat_le 1 (length run.files)) (nat_le (length run.files) 1000) third.0 in
    let name = and_parts (not (is_empty run.main)) (is_utf8 run.main) third.1 in
    (leb-true (length run.files) 1000 files.1, name.1)

pub few_files : (bytes : List ℕ) (run : Run) (es : List Entry) → IsImageOf bytes run es → length run.files ≤ 1000
few_files bytes run es is = (is_right_parts run is.fits.run_fits.right).0

pub is_text : (bytes : List ℕ) (run : Run) (es : List Entry) → IsImageOf bytes run es → is_utf8 run.main ≡ true
is_text bytes run es is = (is_right_parts run is.fits.run_fits.right).1

set_is : (p q : Program) (a b : ClassId) (l m : Limits) → p ≡ q → a ≡ b → l ≡ m → setting_of p a l ≡ setting_of q b m
set_is p q a b l m same class limits = ap (λ (x : Program). setting_of x a l) same ∙ (ap (λ (x : ClassId). setting_of q x l) class ∙ ap (λ (x : Limits). setting_of q b x) limits)

pub stopped_is : WovenIsServed → (bytes : List ℕ) (image : Image) (s : Started) (stopped : Stopped) → IsImageOf bytes image.run image.journal.items → length image.run.files ≤ 1000 → IsStarted (utf16_of image.run.main) image.run.files s →
    stopped.plain ≡ s.plain → stopped.woven ≡ s.woven → stopped.main ≡ s.main → stopped.limits ≡ limits_of image.run.steps image.run.args → stopped.journal ≡ image.journal → IsStopped bytes stopped
stopped_is law bytes image s stopped is few started plain woven main limits journal =
    let set = set_is stopped.plain s.plain stopped.main s.main stopped.limits (limits_of image.run.steps image.run.args) plain main limits in
    let serves = can_serve law (utf16_of image.run.main) image.run.files s (limits_of image.run.steps image.run.args) few started in
    record {
      image = record { run = image.run; journal = image.journal.items; is = is; program = s.plain; class = s.main; start = started.start };
      few = few;
      set = set;
      journal = ap (λ (v : Vec Entry Global). v.items) journal;
      served =
          subst (λ (x : Setting). CanServe x stopped.woven.program stopped.woven.counted) (sym set)
          (subst (λ (w : Woven). CanServe (setting_of s.plain s.main (limits_of image.run.steps image.run.args)) w.program w.counted) (sym woven) serves);
    }

pub not_image : (bytes : List ℕ) (r : Refusal) → Refused r (IsFaultReport bytes) → Refused r (IsImageReport bytes)
not_image bytes r said = refused r (λ text fault. inl fault) said

pub not_parts : (bytes : List ℕ) (image : Image) (r : Refusal) → IsImageOf bytes image.run image.journal.items → Refused r (IsStartReport (names_from 1 image.run.files) (utf16_of image.run.main) image.run.files) → Refused r (IsImageReport bytes)
not_parts bytes image r is said = refused r (λ text start. inr (record { run = image.run; journal = image.journal.items; is = is; start = start })) said
