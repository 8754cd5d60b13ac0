-- A call of a folder that is refused, and what its list of failed calls then has.
use Rattle.std.proofs.Common.{◌≡◌, ◌⊎◌, inl, inr, List, [], ◌∷◌, ◌++◌, Err, ap, ◌∙◌}
use Rattle.std.specs.Prelude.{IsErrOf}
use Rattle.kilim_outside.specs.declared.folder.FailedCall.{FailedCall}
use Rattle.kilim_outside.specs.declared.folder.FolderFault.{FolderFault}
use Rattle.kilim_outside.specs.declared.folder.FolderFault.TheVariants as folder
use Rattle.kilim_outside.specs.Causes.{FolderCause}

own_call : (call : FailedCall) (start before after : List FailedCall) → before ≡ start → (after ≡ before) ⊎ (after ≡ before ++ call ∷ []) → (after ≡ start) ⊎ (after ≡ start ++ call ∷ [])
own_call call start before after same (inl e) = inl (e ∙ same)
own_call call start before after same (inr e) = inr (e ∙ ap (λ (calls : List FailedCall). calls ++ call ∷ []) same)

same_fault : {T : Type 0} (a b : FolderFault) → IsErrOf {T = T} (Err a) b → a ≡ b
same_fault a b e = cc

pub refused_cause : {T : Type 0} (call : FailedCall) (start before after : List FailedCall) (fault : FolderFault) → before ≡ start → (after ≡ before) ⊎ (after ≡ before ++ call ∷ []) → (fault ≡ folder.Failed → after ≡ before ++ call ∷ []) →
    FolderCause {T = T} call start after (Err fault)
refused_cause {T} call start before after fault same own failed = record {
  own = own_call call start before after same own;
  failed = λ e. failed (same_fault {T = T} fault folder.Failed e) ∙ ap (λ (calls : List FailedCall). calls ++ call ∷ []) same;
  ok = tt;
}
