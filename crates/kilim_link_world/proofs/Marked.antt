-- The marks of tasks.
use Rattle.std.proofs.Common.{◌≡◌, ℕ, zero, suc, ◌≤◌, Bool, false, List, [], length, Option, Some, None, refl, sym, ap, ◌∙◌, inl, inr, arith}
use Rattle.std.specs.Prelude.{◌||◌, codes, slice_get, unwrap_or}
use Rattle.std.specs.Str.{bytes_eq}
use Rattle.std.specs.List.{list_any}
use Rattle.std.proofs.lemmas.Bool.{cases_lt}
use Rattle.std.proofs.lemmas.Option.{slice_get_past}
use Rattle.kilim_program.specs.declared.class.Class.{Class}
use Rattle.kilim_program.specs.declared.names.ClassId.{ClassId}
use Rattle.kilim_program.specs.BuiltIn.{class_id}
use Rattle.kilim_program.specs.Names.{class_name, is_task, is_named_task, line_up_to}
use Rattle.kilim_program.specs.Program.{Program}
use Rattle.kilim_link_world.specs.Agrees.{each_below}
use Rattle.kilim_link_world.specs.Outlining.{mark_at}
use Rattle.kilim_link_world.proofs.Below.{get_below, length_below}

unnamed : (p : Program) (c : ClassId) → slice_get p.classes c.0 ≡ None → is_named_task p c ≡ false
unnamed p c out =
    let none : class_name p c ≡ [] = ap (λ (o : Option Class). elim o [ None ↦ [] | Some class ↦ class.name ]) out in
    ap (λ (name : List ℕ). bytes_eq name (codes "kilim/Task")) none

-- a class past the end is no task
no_task : (p : Program) (c : ClassId) → length p.classes ≤ c.0 → (n : ℕ) → list_any (is_named_task p) (line_up_to p n c) ≡ false
no_task p c past zero = refl
no_task p c past (suc n) =
    let out = slice_get_past p.classes c.0 past in
    let rest : list_any (is_named_task p) (line_up_to p (suc n) c) ≡ (is_named_task p c || false) = rw out refl in
    rest ∙ ap (λ (b : Bool). b || false) (unnamed p c out)

pub task_is : (p : Program) (marks : List Bool) (c : ClassId) → marks ≡ each_below (λ k. is_task p (class_id k)) (length p.classes) → mark_at marks c ≡ is_task p c
task_is p marks c are =
    let make : ℕ → Bool = λ k. is_task p (class_id k) in
    ap (λ (ms : List Bool). mark_at ms c) are
    ∙ elim (cases_lt c.0 (length p.classes)) [
      | inl within ↦ ap (λ (o : Option Bool). unwrap_or o false) (get_below make (length p.classes) c.0 within)
      | inr past ↦
          let len = length_below make (length p.classes) in
          ap (λ (o : Option Bool). unwrap_or o false) (slice_get_past (each_below make (length p.classes)) c.0 (omega arith)) ∙ sym (no_task p c past (length p.classes))
    ]
