use Rattle.std.proofs.Common.{◌≤◌, ℕ, inl, map, sym, subst}
use Rattle.std.specs.String.{string_bytes}
use Rattle.kilim_stages.proofs.Both.{all_fit, as_many}
use Rattle.kilim_stages.proofs.Parts.{frames_are, refused, typed_files, typing_reported}
use Rattle.kilim_stages.proofs.Plain.{plain_typed}
use Rattle.kilim_stages.proofs.stages.typed_program.Goals as goal

pub typed_from-requires-clause-few : goal.typed_from-requires-clause-few
typed_from-requires-clause-few c =
    rw c.as_slice.ensures (subst (λ (n : ℕ). n ≤ 1000) (sym (as_many c.args.files.now c.in-Ok.classes c.in-Ok.ensures.files)) c.requires.few)

pub typed_from-requires-clause-fit : goal.typed_from-requires-clause-fit
typed_from-requires-clause-fit c = rw c.as_slice.ensures (all_fit c.args.files.now c.in-Ok.classes c.in-Ok.ensures.files)

pub returns-in-Ok-clause-typed : goal.returns-in-Ok-clause-typed
returns-in-Ok-clause-typed c = typed_files c.args.files.now c.in-Ok.classes c.typed_from.result c.in-Ok.ensures.files (rw c.as_slice.ensures at c.typed_from.ensures.typed)

pub returns-in-Ok-clause-frames : goal.returns-in-Ok-clause-frames
returns-in-Ok-clause-frames c = frames_are c.in-Ok.classes c.typed_from.result (rw c.as_slice.ensures at c.typed_from.ensures.typed)

pub returns-in-Ok-clause-plain : goal.returns-in-Ok-clause-plain
returns-in-Ok-clause-plain c = plain_typed c.linked_in_parts.ensures c.in-Ok.classes c.typed_from.result (rw c.as_slice.ensures at c.typed_from.ensures.typed)

pub returns-in-Ok-clause-report : goal.returns-in-Ok-clause-report
returns-in-Ok-clause-report c = typing_reported (map string_bytes c.args.names.now) c.args.files.now c.in-Ok.classes c.typed_from.result c.in-Ok.ensures.files (rw c.as_slice.ensures at c.typed_from.ensures.report)

pub returns-in-Err-clause-report : goal.returns-in-Err-clause-report
returns-in-Err-clause-report c = refused c.in-Err.refusal (λ text classes. inl classes) c.in-Err.ensures.report
