-- Methods one by one, and what a program without a fault is.
use Rattle.std.proofs.Common.{◌≡◌, ℕ, zero, suc, ◌+◌, Bool, true, ◌&&◌, refl, ap, sym, subst, ◌∙◌, arith, List, [], ◌∷◌, ◌++◌, length, drop, take, slice_get, map, Option, Some, None}
use Rattle.std.specs.List.{list_all}
use Rattle.std.proofs.lemmas.Bool.{and_parts}
use Rattle.std.proofs.lemmas.List.{drop_more, drop_all, take_all, map-append}
use Rattle.std.proofs.lemmas.Option.{slice_get_within, get_or_from_slice_get}
use Rattle.kilim_lemmas.proofs.Lists.{take_next}
use Rattle.kilim_program.specs.declared.class.Method.{Method}
use Rattle.kilim_program.specs.declared.names.MethodId.{MethodId}
use Rattle.kilim_program.specs.declared.verified.Frame.{Frame}
use Rattle.kilim_program.specs.Keeps.{Keeps, code_is_whole}
use Rattle.kilim_program.specs.Lengths.{code_stands, targets_stand, code_ends}
use Rattle.kilim_program.specs.Names.{method_at}
use Rattle.kilim_program.specs.Program.{Program}
use Rattle.kilim_type_spec.specs.Typed.{IsWellTyped, listed, frames_of, listed_frames}
use Rattle.kilim_type_spec.specs.Faults.{method_fault, in_method, faults_from, first_type_fault}
use Rattle.kilim_type_spec.proofs.FromFaults.{no_fault_is_well_typed}

front_is : {A : Type 0} → (s : List A) (k : ℕ) (t : A) → slice_get s k ≡ Some t → drop k s ≡ t ∷ drop (k + 1) s
front_is s k t e = drop_more s k t (slice_get_within s k t e) ∙ ap (λ x. x ∷ drop (k + 1) s) (get_or_from_slice_get s k t t e)

-- ---- the first fault

fault_here : (p : Program) (ms : List Method) (k : ℕ) (m : Method) (at rule : ℕ) → slice_get ms k ≡ Some m → method_fault p m ≡ Some (at, rule) → faults_from p k (drop k ms) ≡ Some (record { 0 = k }, at, rule)
fault_here p ms k m at rule is e = ap (faults_from p k) (front_is ms k m is) ∙ ap (λ o. in_method k o (faults_from p (suc k) (drop (k + 1) ms))) e

pub fault_on : (p : Program) (ms : List Method) (k : ℕ) (m : Method) → slice_get ms k ≡ Some m → method_fault p m ≡ None → faults_from p (k + 1) (drop (k + 1) ms) ≡ faults_from p k (drop k ms)
fault_on p ms k m is e =
    sym (ap (faults_from p k) (front_is ms k m is) ∙ ap (λ o. in_method k o (faults_from p (suc k) (drop (k + 1) ms))) e
    ∙ ap (λ n. faults_from p n (drop (k + 1) ms)) (let n : suc k ≡ k + 1 = omega arith in n))

pub frames_on : (p : Program) (ms : List Method) (k : ℕ) (m : Method) (all : List (List Frame)) (fs : List Frame) → slice_get ms k ≡ Some m → fs ≡ map (listed m) (frames_of p m) →
    all ≡ map (λ (x : Method). map (listed x) (frames_of p x)) (take k ms) → all ++ fs ∷ [] ≡ map (λ (x : Method). map (listed x) (frames_of p x)) (take (k + 1) ms)
frames_on p ms k m all fs is e a =
    ap (λ xs. xs ++ fs ∷ []) a ∙ ap (λ f. map (λ (x : Method). map (listed x) (frames_of p x)) (take k ms) ++ f ∷ []) e
    ∙ sym (ap (map (λ (x : Method). map (listed x) (frames_of p x))) (take_next ms k m is) ∙ map-append (λ (x : Method). map (listed x) (frames_of p x)) (take k ms) (m ∷ []))

pub fault_of : (p : Program) (ms : List Method) (k id : ℕ) (m : Method) (at rule : ℕ) → slice_get ms k ≡ Some m → method_fault p m ≡ Some (at, rule) → id ≡ k → faults_from p k (drop k ms) ≡ faults_from p 0 p.methods →
    first_type_fault p ≡ Some (record { 0 = id }, at, rule)
unfolding first_type_fault
fault_of p ms k id m at rule is e same from =
    subst (λ (n : ℕ). faults_from p 0 p.methods ≡ Some (record { 0 = n }, at, rule)) (sym same) (sym from ∙ fault_here p ms k m at rule is e)

pub none_of : (p : Program) (ms : List Method) (k : ℕ) → ms ≡ p.methods → k ≡ length ms → faults_from p k (drop k ms) ≡ faults_from p 0 p.methods → first_type_fault p ≡ None
unfolding first_type_fault
none_of p ms k is e from = sym from ∙ ap (faults_from p k) (drop_all k ms (omega arith))

pub frames_of_all : (p : Program) (ms : List Method) (k : ℕ) (all : List (List Frame)) → ms ≡ p.methods → k ≡ length ms → all ≡ map (λ (x : Method). map (listed x) (frames_of p x)) (take k ms) → all ≡ listed_frames p
frames_of_all p ms k all is e a = a ∙ ap (map (λ (x : Method). map (listed x) (frames_of p x))) (take_all k ms (omega arith) ∙ is)

-- ---- a program without a fault

in_method_none : (n : ℕ) (o : Option (ℕ × ℕ)) (behind : Option (MethodId × ℕ × ℕ)) → in_method n o behind ≡ None → (o ≡ None) × (behind ≡ None)
in_method_none n None behind e = (refl, e)
in_method_none n (Some f) behind e = absurd (cc)

fault_in : Program → Option Method → Option (ℕ × ℕ)
fault_in p None = None
fault_in p (Some m) = method_fault p m

-- of no method of the list
none_fails : (p : Program) (n : ℕ) (ms : List Method) (k : ℕ) → faults_from p n ms ≡ None → fault_in p (slice_get ms k) ≡ None
unfolding fault_in
none_fails p n [] zero e = refl
none_fails p n [] (suc k) e = refl
none_fails p n (x ∷ ms) zero e = (in_method_none n (method_fault p x) (faults_from p (suc n) ms) e).0
none_fails p n (x ∷ ms) (suc k) e = none_fails p (suc n) ms k (in_method_none n (method_fault p x) (faults_from p (suc n) ms) e).1

fails_not : (p : Program) (o : Option Method) (m : Method) → o ≡ Some m → fault_in p o ≡ None → method_fault p m ≡ None
unfolding fault_in
fails_not p o m is e = sym (ap (fault_in p) is) ∙ e

ends_in : Option Method → Bool
ends_in None = true
ends_in (Some m) = code_ends m.code

whole_ends : (m : Method) → code_is_whole m ≡ true → code_ends m.code ≡ true
unfolding code_is_whole
whole_ends m e = (and_parts (targets_stand m.code) (code_ends m.code) (and_parts (code_stands 0 m.code m.code_length) (targets_stand m.code && code_ends m.code) e).1).1

all_end : (ms : List Method) (k : ℕ) → list_all code_is_whole ms ≡ true → ends_in (slice_get ms k) ≡ true
unfolding ends_in
all_end [] zero e = refl
all_end [] (suc k) e = refl
all_end (m ∷ ms) zero e = whole_ends m (and_parts (code_is_whole m) (list_all code_is_whole ms) e).0
all_end (m ∷ ms) (suc k) e = all_end ms k (and_parts (code_is_whole m) (list_all code_is_whole ms) e).1

ends_there : (o : Option Method) (m : Method) → o ≡ Some m → ends_in o ≡ true → code_ends m.code ≡ true
unfolding ends_in
ends_there o m is e = sym (ap ends_in is) ∙ e

pub well_typed : (p : Program) → Keeps p → first_type_fault p ≡ None → IsWellTyped p
unfolding first_type_fault
well_typed p keeps none = record {
  methods = λ id m is code. no_fault_is_well_typed p m code (ends_there (method_at p id) m is (all_end p.methods id.0 keeps.code)) (fails_not p (method_at p id) m is (none_fails p 0 p.methods id.0 none));
}
