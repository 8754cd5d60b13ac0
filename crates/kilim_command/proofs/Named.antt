-- Files by their names: words, and what was read.
use Rattle.std.proofs.Common.{◌≡◌, ◌⊎◌, inl, inr, ℕ, zero, suc, ◌+◌, ◌<◌, List, [], ◌∷◌, ◌++◌, Option, Some, None, Result, Ok, Err, refl, sym, ap, subst, ◌∙◌, length, length-append, append-nil, map, take, slice_index_or, arith}
use Rattle.std.specs.Prelude.{Contains, IfOk, IsErrOf}
use Rattle.kilim_outside.specs.declared.folder.FailedCall.{FailedCall}
use Rattle.kilim_outside.specs.declared.folder.FailedCall.TheVariants.{Read}
use Rattle.kilim_outside.specs.declared.folder.FolderFault.{FolderFault}
use Rattle.kilim_outside.specs.declared.folder.FolderFault.TheVariants as folder
use Rattle.kilim_outside.specs.Causes.{FolderCause}
use Rattle.kilim_outside.specs.Files.{Files, ReadsFile, content_of, file_limit}
use Rattle.kilim_command.specs.Reads.{OneFailed, ReadsCause, WasRead, WereRead, WereReadBehind}
use Rattle.kilim_command.specs.grammar.Parts.{other_read}
use Rattle.kilim_command.specs.grammar.Words.{Request, Check, Weave, Run, Replay, Save, Resume, Demo, class_files, files_read}

pub length_map : {A B : Type 0} (f : A → B) (xs : List A) → length (map f xs) ≡ length xs
length_map f [] = refl
length_map f (x ∷ xs) = ap suc (length_map f xs)

-- the bytes that were read, into an empty vector
pub was_read : (contents : Option Files) (name empty bytes : List ℕ) → empty ≡ [] → ReadsFile contents name empty bytes → WasRead contents name bytes
was_read None name empty bytes e read = tt
was_read (Some held) name empty bytes e read = read ∙ ap (λ (bs : List ℕ). bs ++ take file_limit (content_of held name)) e

-- ---- one more file

more : {A : Type 0} (f : A → List ℕ) (contents : Option Files) (names : List A) (i : ℕ) (item : A) (files : List (List ℕ)) (bytes : List ℕ) → item ≡ slice_index_or names i item → i < length names →
    WereRead contents (map f (take i names)) files → WasRead contents (f item) bytes → WereRead contents (map f (take (suc i) names)) (files ++ bytes ∷ [])
more f contents [] i item files bytes is lt were was = absurd (omega arith)
more f contents (n ∷ names) zero item [] bytes is lt were was = (subst (λ m. WasRead contents (f m) bytes) is was, tt)
more f contents (n ∷ names) zero item (b ∷ files) bytes is lt were was = absurd were
more f contents (n ∷ names) (suc i) item [] bytes is lt were was = absurd were
more f contents (n ∷ names) (suc i) item (b ∷ files) bytes is lt were was = (were.0, more f contents names i item files bytes is (omega arith) were.1 was)

next : (i : ℕ) → suc i ≡ i + 1
next i = omega arith

pub read_more : {A : Type 0} (f : A → List ℕ) (start contents : Option Files) (names : List A) (i : ℕ) (item : A) (files new : List (List ℕ)) (now bytes : List ℕ) → item ≡ slice_index_or names i item → i < length names →
    now ≡ f item → contents ≡ start → new ≡ files ++ bytes ∷ [] → WereRead start (map f (take i names)) files → WasRead contents now bytes → WereRead start (map f (take (i + 1) names)) new
read_more f start contents names i item files new now bytes is lt named same pushed were was =
    subst (λ (fs : List (List ℕ)). WereRead start (map f (take (i + 1) names)) fs) (sym pushed)
    (subst (λ (k : ℕ). WereRead start (map f (take k names)) (files ++ bytes ∷ [])) (next i) (more f start names i item files bytes is lt were (subst (λ (c : Option Files). WasRead c (f item) bytes) same (subst (λ (m : List ℕ). WasRead contents m bytes) named was))))

-- ---- a file that isn't read

in_map : {A : Type 0} (f : A → List ℕ) (names : List A) (i : ℕ) (item : A) (other : List ℕ) → i < length names → slice_index_or (map f names) i other ≡ f (slice_index_or names i item)
in_map f [] i item other lt = absurd (omega arith)
in_map f (n ∷ names) zero item other lt = refl
in_map f (n ∷ names) (suc i) item other lt = in_map f names i item other (omega arith)

contained : {A : Type 0} (f : A → List ℕ) (names : List A) (i : ℕ) (item : A) → item ≡ slice_index_or names i item → i < length names → Contains (map f names) (f item)
contained f names i item is lt = (i, omega (arith, length_map f names), in_map f names i item (f item) lt ∙ ap f (sym is))

one_failed : {A : Type 0} (f : A → List ℕ) (names : List A) (i : ℕ) (item : A) (now : List ℕ) (start before after : List FailedCall) → item ≡ slice_index_or names i item → i < length names → now ≡ f item → before ≡ start →
    after ≡ before ++ Read now ∷ [] → OneFailed (map f names) start after
one_failed f names i item now start before after is lt named same e =
    (f item, contained f names i item is lt, e ∙ (ap (λ (b : List FailedCall). b ++ Read now ∷ []) same ∙ ap (λ (m : List ℕ). start ++ Read m ∷ []) named))

own_or : {A : Type 0} (f : A → List ℕ) (names : List A) (i : ℕ) (item : A) (now : List ℕ) (start before after : List FailedCall) → item ≡ slice_index_or names i item → i < length names → now ≡ f item → before ≡ start →
    (after ≡ before) ⊎ (after ≡ before ++ Read now ∷ []) → (after ≡ start) ⊎ OneFailed (map f names) start after
own_or f names i item now start before after is lt named same (inl e) = inl (e ∙ same)
own_or f names i item now start before after is lt named same (inr e) = inr (one_failed f names i item now start before after is lt named same e)

same_fault : {U : Type 0} (a b : FolderFault) → IsErrOf {T = U} (Err a) b → a ≡ b
same_fault a b e = cc

failed_again : {T U : Type 0} (a b : FolderFault) → IsErrOf {T = U} (Err a) b → IsErrOf {T = T} (Err a) b
failed_again a b e = ap (λ (x : FolderFault). Err x) (same_fault a b e)

pub reads_cause : {A T U : Type 0} (f : A → List ℕ) (names : List A) (i : ℕ) (item : A) (now : List ℕ) (start before after : List FailedCall) (e : FolderFault) → item ≡ slice_index_or names i item → i < length names → now ≡ f item → before ≡ start →
    FolderCause {T = T} (Read now) before after (Err e) → ReadsCause {T = U} (map f names) start after (Err e)
reads_cause f names i item now start before after e is lt named same cause = record {
  own = own_or f names i item now start before after is lt named same cause.own;
  failed = λ failed. one_failed f names i item now start before after is lt named same (cause.failed (failed_again e folder.Failed failed));
  ok = tt;
}

-- ---- files that are read behind others

were_joined : (contents : Option Files) (names behind read more : List (List ℕ)) → WereRead contents names read → WereRead contents behind more → WereRead contents (names ++ behind) (read ++ more)
were_joined contents [] behind [] more were also = also
were_joined contents (n ∷ names) behind (b ∷ read) more were also = (were.0, were_joined contents names behind read more were.1 also)
were_joined contents [] behind (b ∷ read) more were also = absurd were
were_joined contents (n ∷ names) behind [] more were also = absurd were

pub nothing_behind : (contents : Option Files) (names read : List (List ℕ)) → names ≡ [] → WereReadBehind contents names read read
nothing_behind contents names read none = subst (λ (ns : List (List ℕ)). WereReadBehind contents ns read read) (sym none) (record { more = []; read = tt; are = sym (append-nil read) })

pub one_behind : (contents : Option Files) (names : List (List ℕ)) (name bytes : List ℕ) (read all : List (List ℕ)) → names ≡ name ∷ [] → WasRead contents name bytes → all ≡ read ++ bytes ∷ [] → WereReadBehind contents names read all
one_behind contents names name bytes read all one was are = subst (λ (ns : List (List ℕ)). WereReadBehind contents ns read all) (sym one) (record { more = bytes ∷ []; read = (was, tt); are = are })

files_in_parts : (r : Request) → class_files r ++ other_read r ≡ files_read r
files_in_parts (Check files) = append-nil files
files_in_parts (Weave to files) = append-nil files
files_in_parts (Run main workers steps args files) = append-nil files
files_in_parts (Replay main journal steps args files) = refl
files_in_parts (Save main image entries steps args files) = append-nil files
files_in_parts (Resume image workers) = refl
files_in_parts (Demo number workers) = refl

all_were_read : (r : Request) (contents now : Option Files) (names behind read all : List (List ℕ)) → names ≡ class_files r → behind ≡ other_read r → now ≡ contents → WereRead contents names read → WereReadBehind now behind read all → WereRead contents (files_read r) all
all_were_read r contents now names behind read all first last same were also =
    let more = subst (λ (c : Option Files). WereRead c behind also.more) same also.read in
    let joined = were_joined contents names behind read also.more were more in
    let named = ap (λ (ns : List (List ℕ)). ns ++ behind) first ∙ (ap (λ (ns : List (List ℕ)). class_files r ++ ns) last ∙ files_in_parts r) in
    subst (λ (bs : List (List ℕ)). WereRead contents (files_read r) bs) (sym also.are) (subst (λ (ns : List (List ℕ)). WereRead contents ns (read ++ also.more)) named joined)

pub all_read_then : (r : Request) (contents now : Option Files) (names behind read : List (List ℕ)) (result : Result (List (List ℕ)) FolderFault) → names ≡ class_files r → behind ≡ other_read r → now ≡ contents → WereRead contents names read →
    IfOk result (WereReadBehind now behind read) → IfOk result (WereRead contents (files_read r))
all_read_then r contents now names behind read (Ok all) first last same were also = all_were_read r contents now names behind read all first last same were also
all_read_then r contents now names behind read (Err e) first last same were also = tt

in_front : (names behind : List (List ℕ)) (i : ℕ) (x : List ℕ) → i < length names → slice_index_or (names ++ behind) i x ≡ slice_index_or names i x
in_front [] behind i x lt = absurd (omega arith)
in_front (n ∷ names) behind zero x lt = refl
in_front (n ∷ names) behind (suc i) x lt = in_front names behind i x (omega arith)

none_more : (i : ℕ) → 0 + i ≡ i
none_more i = omega arith

one_more : (n i : ℕ) → suc n + i ≡ suc (n + i)
one_more n i = omega arith

in_back : (names behind : List (List ℕ)) (i : ℕ) (x : List ℕ) → slice_index_or (names ++ behind) (length names + i) x ≡ slice_index_or behind i x
in_back [] behind i x = ap (λ (k : ℕ). slice_index_or behind k x) (none_more i)
in_back (n ∷ names) behind i x = ap (λ (k : ℕ). slice_index_or (n ∷ (names ++ behind)) k x) (one_more (length names) i) ∙ in_back names behind i x

one_in_front : (names behind : List (List ℕ)) (start after : List FailedCall) → OneFailed names start after → OneFailed (names ++ behind) start after
one_in_front names behind start after one =
    let is = one.1 in
    (one.0, (is.0, let lt = is.1 in omega (arith, lt, length-append names behind), in_front names behind is.0 one.0 is.1 ∙ is.2), one.2)

one_in_back : (names behind : List (List ℕ)) (start after : List FailedCall) → OneFailed behind start after → OneFailed (names ++ behind) start after
one_in_back names behind start after one =
    let is = one.1 in
    (one.0, (length names + is.0, let lt = is.1 in omega (arith, lt, length-append names behind), in_back names behind is.0 one.0 ∙ is.2), one.2)

in_all : (r : Request) (names behind : List (List ℕ)) (start after : List FailedCall) → names ≡ class_files r → behind ≡ other_read r → OneFailed (names ++ behind) start after → OneFailed (files_read r) start after
in_all r names behind start after first last one =
    subst (λ (ns : List (List ℕ)). OneFailed ns start after) (ap (λ (ns : List (List ℕ)). ns ++ behind) first ∙ (ap (λ (ns : List (List ℕ)). class_files r ++ ns) last ∙ files_in_parts r)) one

pub first_failed : {T U : Type 0} (r : Request) (names : List (List ℕ)) (start after : List FailedCall) (e : FolderFault) → names ≡ class_files r → ReadsCause {T = T} names start after (Err e) → ReadsCause {T = U} (files_read r) start after (Err e)
first_failed r names start after e first cause = record {
  own = own_as cause.own;
  failed = λ failed. in_all r names (other_read r) start after first refl (one_in_front names (other_read r) start after (cause.failed (failed_again e folder.Failed failed)));
  ok = tt;
}
  where
    own_as : (after ≡ start) ⊎ OneFailed names start after → (after ≡ start) ⊎ OneFailed (files_read r) start after
    own_as (inl e) = inl e
    own_as (inr one) = inr (in_all r names (other_read r) start after first refl (one_in_front names (other_read r) start after one))

pub last_failed : {T : Type 0} (r : Request) (behind : List (List ℕ)) (start mid after : List FailedCall) (result : Result T FolderFault) → behind ≡ other_read r → mid ≡ start → ReadsCause behind mid after result → ReadsCause (files_read r) start after result
last_failed {T} r behind start mid after result last same cause =
    subst (λ (calls : List FailedCall). ReadsCause {T = T} (files_read r) calls after result) same (record { own = own_as cause.own; failed = λ failed. placed (cause.failed failed); ok = cause.ok })
  where
    placed : OneFailed behind mid after → OneFailed (files_read r) mid after
    placed one = in_all r (class_files r) behind mid after refl last (one_in_back (class_files r) behind mid after one)

    own_as : (after ≡ mid) ⊎ OneFailed behind mid after → (after ≡ mid) ⊎ OneFailed (files_read r) mid after
    own_as (inl e) = inl e
    own_as (inr one) = inr (placed one)
