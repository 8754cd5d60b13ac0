-- One more file is written, or the writing stops there.
use Rattle.std.proofs.Common.{◌≡◌, ◌≢◌, ◌⊎◌, ℕ, ◌+◌, ◌<◌, List, [], ◌∷◌, ◌++◌, length, take, drop, get_or, Option, Some, None, Err, refl, sym, ap, subst, ◌∙◌}
use Rattle.std.specs.List.{AllByRecursion}
use Rattle.std.proofs.lemmas.List.{take-append-drop}
use Rattle.kilim_lemmas.proofs.Lists.{drop_at, take_at}
use Rattle.kilim_outside.specs.declared.folder.FailedCall.{FailedCall}
use Rattle.kilim_outside.specs.declared.folder.FailedCall.TheVariants.{Write}
use Rattle.kilim_outside.specs.declared.folder.FolderFault.{FolderFault}
use Rattle.kilim_outside.specs.declared.folder.FolderFault.TheVariants as folder
use Rattle.kilim_outside.specs.Causes.{FolderCause}
use Rattle.kilim_outside.specs.Files.{Files, HasFile, KeepsOthers}
use Rattle.kilim_outside.specs.written.OutputFile.{OutputFile}
use Rattle.kilim_outside.specs.written.Written.{HasFailed, HasFiles, HaveOwnPaths, KeepsOtherFiles, StoppedAtFile}

-- ---- of each element

more : {A : Type 0} (P : A → Type 0) (xs : List A) (x : A) → AllByRecursion P xs → P x → AllByRecursion P (xs ++ x ∷ [])
more P [] x all one = (one, tt)
more P (y ∷ ys) x all one = (all.0, more P ys x all.1 one)

front : {A : Type 0} (P : A → Type 0) (xs ys : List A) → AllByRecursion P (xs ++ ys) → AllByRecursion P xs
front P [] ys all = tt
front P (x ∷ xs) ys all = (all.0, front P xs ys all.1)

middle : {A : Type 0} (P : A → Type 0) (xs : List A) (y : A) (ys : List A) → AllByRecursion P (xs ++ y ∷ ys) → P y
middle P [] y ys all = all.0
middle P (x ∷ xs) y ys all = middle P xs y ys all.1

-- ---- the paths of files before one are others

abbrev Others : List ℕ → List OutputFile → Type 0
Others path files = AllByRecursion (λ (file : OutputFile). file.path ≢ path) files

others_before : (before : List OutputFile) (file : OutputFile) (behind : List OutputFile) → HaveOwnPaths (before ++ file ∷ behind) → Others file.path before
others_before [] file behind own = tt
others_before (f ∷ before) file behind own = (middle (λ (other : OutputFile). f.path ≢ other.path) before file behind own.0, others_before before file behind own.1)

-- ---- one write

still_has : (old new : Option Files) (path other bytes : List ℕ) → other ≢ path → KeepsOthers old new path → HasFile old other bytes → HasFile new other bytes
still_has None new path other bytes ne kept has = subst (λ (c : Option Files). HasFile c other bytes) (sym kept) tt
still_has (Some old) None path other bytes ne kept has = absurd kept
still_has (Some old) (Some new) path other bytes ne kept has = kept other ne ∙ has

still_have : (old new : Option Files) (path : List ℕ) (files : List OutputFile) → Others path files → KeepsOthers old new path → HasFiles old files → HasFiles new files
still_have old new path [] ne kept has = tt
still_have old new path (f ∷ files) ne kept has = (still_has old new path f.path f.bytes ne.0 kept has.0, still_have old new path files ne.1 kept has.1)

untold : (mid new : Option Files) (path : List ℕ) → mid ≡ None → KeepsOthers mid new path → new ≡ None
untold None new path e kept = kept
untold (Some mid) new path e kept = absurd (cc)

kept_two : (old : Files) (mid new : Option Files) (files : List OutputFile) (file : OutputFile) → KeepsOtherFiles (Some old) mid files → KeepsOthers mid new file.path → KeepsOtherFiles (Some old) new (files ++ file ∷ [])
kept_two old None new files file first second = absurd first
kept_two old (Some mid) None files file first second = absurd second
kept_two old (Some mid) (Some new) files file first second =
    λ other ne. second other (middle (λ (f : OutputFile). other ≢ f.path) files file [] ne) ∙ first other (front (λ (f : OutputFile). other ≢ f.path) files (file ∷ []) ne)

kept_more : (old mid new : Option Files) (files : List OutputFile) (file : OutputFile) → KeepsOtherFiles old mid files → KeepsOthers mid new file.path → KeepsOtherFiles old new (files ++ file ∷ [])
kept_more None mid new files file first second = untold mid new file.path first second
kept_more (Some old) mid new files file first second = kept_two old mid new files file first second

-- ---- nothing was written yet

pub nothing : (contents : Option Files) → KeepsOtherFiles contents contents []
nothing None = refl
nothing (Some held) = λ other ne. refl

-- ---- the i-th file

split : (files : List OutputFile) (i : ℕ) (file : OutputFile) → i < length files → file ≡ get_or files i file → files ≡ take i files ++ file ∷ drop (i + 1) files
split files i file lt is = sym (take-append-drop i files) ∙ ap (λ (fs : List OutputFile). take i files ++ fs) (drop_at files i file lt is)

others_at : (files : List OutputFile) (i : ℕ) (file : OutputFile) → HaveOwnPaths files → i < length files → file ≡ get_or files i file → Others file.path (take i files)
others_at files i file own lt is = others_before (take i files) file (drop (i + 1) files) (subst HaveOwnPaths (split files i file lt is) own)

pub has_more : (files : List OutputFile) (i : ℕ) (file : OutputFile) (mid new : Option Files) → HaveOwnPaths files → i < length files → file ≡ get_or files i file →
    KeepsOthers mid new file.path → HasFiles mid (take i files) → HasFile new file.path file.bytes → HasFiles new (take (i + 1) files)
has_more files i file mid new own lt is kept has one =
    subst (HasFiles new) (sym (take_at files i file lt is))
    (more (λ (f : OutputFile). HasFile new f.path f.bytes) (take i files) file (still_have mid new file.path (take i files) (others_at files i file own lt is) kept has) one)

pub keeps_more : (files : List OutputFile) (i : ℕ) (file : OutputFile) (old mid new : Option Files) → i < length files → file ≡ get_or files i file →
    KeepsOtherFiles old mid (take i files) → KeepsOthers mid new file.path → KeepsOtherFiles old new (take (i + 1) files)
keeps_more files i file old mid new lt is first second = subst (KeepsOtherFiles old new) (sym (take_at files i file lt is)) (kept_more old mid new (take i files) file first second)

-- ---- the writing stops

abbrev Stopped : (files : List OutputFile) (old new : Option Files) (failed now_failed : List FailedCall) (fault : FolderFault) → Type 0
Stopped files old new failed now_failed fault = (stopped : StoppedAtFile files old new failed now_failed) × (fault ≡ folder.Failed → HasFailed files old new failed now_failed stopped)

pub stopped : {T : Type 0} (files : List OutputFile) (i : ℕ) (file : OutputFile) (old mid new : Option Files) (failed mid_failed now_failed : List FailedCall) (fault : FolderFault) → HaveOwnPaths files → i < length files → file ≡ get_or files i file →
    HasFiles mid (take i files) → KeepsOtherFiles old mid (take i files) → mid_failed ≡ failed → KeepsOthers mid new file.path → FolderCause {T = T} (Write file.path) mid_failed now_failed (Err fault) → Stopped files old new failed now_failed fault
stopped files i file old mid new failed mid_failed now_failed fault own lt is has first same second cause = (
  record {
    before = take i files;
    file = file;
    behind = drop (i + 1) files;
    are = split files i file lt is;
    has = still_have mid new file.path (take i files) (others_at files i file own lt is) second has;
    others = kept_more old mid new (take i files) file first second;
    own = subst (λ (calls : List FailedCall). (now_failed ≡ calls) ⊎ (now_failed ≡ calls ++ Write file.path ∷ [])) same cause.own;
  },
  λ e. subst (λ (calls : List FailedCall). now_failed ≡ calls ++ Write file.path ∷ []) same (cause.failed (ap (λ (f : FolderFault). Err f) e)),
)
