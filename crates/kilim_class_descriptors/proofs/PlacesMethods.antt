-- Where reading stops, one goes on from what was read, and none from that and the unit behind it: types of methods.
use Rattle.std.proofs.Common.{◌≡◌, ℕ, zero, suc, ◌+◌, ◌<◌, ◌≤◌, false, eqb, List, [], ◌∷◌, ◌++◌, length, Option, Some, None, Result, Ok, Err, refl, sym, ap, subst, ◌∙◌, append_assoc, arith}
use Rattle.std.specs.List.{flat_map, AllByRecursion}
use Rattle.std.proofs.lemmas.Bool.{eqb-true}
use Rattle.std.proofs.lemmas.List.{append-nil, length-append}
use Rattle.kilim_class_descriptors.specs.declared.types.FieldText.{FieldText}
use Rattle.kilim_class_descriptors.specs.declared.types.MethodText.{MethodText}
use Rattle.kilim_class_descriptors.specs.Text.{field_text, result_text, method_text, FieldFits, ResultFits, MethodFits}
use Rattle.kilim_class_descriptors.specs.Reading.{◌>>=◌, field_at, param_at, after_param, params_at, result_at, all_of, whole_method}
use Rattle.kilim_class_descriptors.proofs.Spelled.{read, either}
use Rattle.kilim_class_descriptors.proofs.SpelledMethods.{param_text, params_text, ParamTakes, ResultTakes, ParamsTakes, param_takes, params_takes, result_takes, some_param, some_result, result_again, params_again, regroup, starts}
use Rattle.kilim_class_descriptors.proofs.Places.{Behind, Halts, IsStop, NoText, Begins, same_head, carry, FieldHalts, field_halts, no_stop, rest_of, left_over}

-- ---- a parameter, or the end of them, and a result

abbrev in_some : Result (FieldText × List ℕ) ℕ → Result (Option FieldText × List ℕ) ℕ
in_some r = r >>= λ f. Ok (Some f.0, f.1)

abbrev NoParam : List ℕ → Type 0
NoParam us = IsStop (param_at us)

abbrev NoResult : List ℕ → Type 0
NoResult us = IsStop (result_at us)

abbrev ParamHalts : List ℕ → Result (Option FieldText × List ℕ) ℕ → Type 0
ParamHalts = Halts param_text ResultFits NoParam

abbrev ResultHalts : List ℕ → Result (Option FieldText × List ℕ) ℕ → Type 0
ResultHalts = Halts result_text ResultFits NoResult

some_stops : (r : Result (FieldText × List ℕ) ℕ) → IsStop r → IsStop (in_some r)
some_stops (Ok x) h = h
some_stops (Err left) h = tt

some_halts : (reader : List ℕ → Result (Option FieldText × List ℕ) ℕ) (text : Option FieldText → List ℕ) (units : List ℕ) (r : Result (FieldText × List ℕ) ℕ) → ((f : FieldText) → text (Some f) ≡ field_text f) → ((us : List ℕ) → Begins units us → reader us ≡ in_some (field_at us)) → FieldHalts units r → Halts text ResultFits (λ us. IsStop (reader us)) units (in_some r)
some_halts reader text units (Ok x) same on h = tt
some_halts reader text units (Err left) same on h =
    carry [] units (λ us b stop. subst (λ (r : Result (Option FieldText × List ℕ) ℕ). IsStop r) (sym (on us b)) (some_stops (field_at us) stop)) left units refl (λ f. Some f) (λ f fits. fits) (λ f. []) (λ f. same f ∙ sym (append-nil (field_text f))) h

no_end : (u : ℕ) (rest : List ℕ) → eqb u 41 ≡ false → (us : List ℕ) → Begins (u ∷ rest) us → param_at us ≡ in_some (field_at us)
unfolding param_at
no_end u rest e us b =
    let here : param_at (u ∷ b.0) ≡ in_some (field_at (u ∷ b.0)) = rw e refl in
    subst (λ (t : List ℕ). param_at t ≡ in_some (field_at t)) (sym b.1) here

no_void : (u : ℕ) (rest : List ℕ) → eqb u 86 ≡ false → (us : List ℕ) → Begins (u ∷ rest) us → result_at us ≡ in_some (field_at us)
unfolding result_at
no_void u rest e us b =
    let here : result_at (u ∷ b.0) ≡ in_some (field_at (u ∷ b.0)) = rw e refl in
    subst (λ (t : List ℕ). result_at t ≡ in_some (field_at t)) (sym b.1) here

param_halts : (units : List ℕ) → ParamHalts units (param_at units)
unfolding param_at
param_halts [] = record { front = []; behind = []; parts = refl; long = refl; begun = None; fits = tt; rest = 41 ∷ []; goes = refl; stuck = tt }
param_halts (u ∷ rest) =
    either (ParamHalts (u ∷ rest)) (eqb u 41) _ _
    (λ e. tt)
    (λ e. some_halts param_at param_text (u ∷ rest) (field_at (u ∷ rest)) (λ f. refl) (no_end u rest e) (field_halts (u ∷ rest)))

result_halts : (units : List ℕ) → ResultHalts units (result_at units)
unfolding result_at
result_halts [] = record { front = []; behind = []; parts = refl; long = refl; begun = None; fits = tt; rest = 86 ∷ []; goes = refl; stuck = tt }
result_halts (u ∷ rest) =
    either (ResultHalts (u ∷ rest)) (eqb u 86) _ _
    (λ e. tt)
    (λ e. some_halts result_at result_text (u ∷ rest) (field_at (u ∷ rest)) (λ f. refl) (no_void u rest e) (field_halts (u ∷ rest)))

-- ---- parameters

-- no parameters stand at the front
abbrev NoParams : List ℕ → Type 0
NoParams us = (fs : List FieldText) → AllByRecursion FieldFits fs → (tail : List ℕ) → params_text fs ++ tail ≡ us → ⊥

abbrev ParamsHalts : List ℕ → Result (List FieldText × List ℕ) ℕ → Type 0
ParamsHalts = Halts params_text (AllByRecursion FieldFits) NoParams

abbrev first : List FieldText → List ℕ → Option FieldText × List ℕ
first [] tail = (None, tail)
first (f ∷ fs) tail = (Some f, params_text fs ++ tail)

first_read : (fs : List FieldText) (tail : List ℕ) → AllByRecursion FieldFits fs → param_at (params_text fs ++ tail) ≡ Ok (first fs tail)
unfolding param_at
first_read [] tail fits = refl
first_read (f ∷ fs) tail fits = ap param_at (sym (regroup (field_text f) (flat_map field_text fs) (41 ∷ []) tail)) ∙ some_param f (params_text fs ++ tail) fits.0

no_first : (us : List ℕ) → NoParam us → NoParams us
no_first us stop fs fits tail e = no_stop (param_at us) (first fs tail) (ap param_at (sym e) ∙ first_read fs tail fits) stop

abbrev param_of : Result (Option FieldText × List ℕ) ℕ → Option FieldText
param_of (Ok x) = x.0
param_of (Err left) = None

end_or_more : (r : Result (Option FieldText × List ℕ) ℕ) (f : FieldText) (us tail : List ℕ) → r ≡ read (Some f) us → r ≡ read None tail → ⊥
end_or_more r f us tail p q =
    let e : Some f ≡ None = ap param_of (sym p ∙ q) in
    absurd cc

no_others : (f : FieldText) (us : List ℕ) → FieldFits f → NoParams us → NoParams (field_text f ++ us)
no_others f us fits never [] all tail e = end_or_more (param_at (field_text f ++ us)) f us tail (some_param f us fits) (ap param_at (sym e) ∙ first_read [] tail all)
no_others f us fits never (g ∷ gs) all tail e = never gs all.1 tail (ap rest_of (sym (ap param_at (sym e) ∙ first_read (g ∷ gs) tail all) ∙ some_param f us fits))

more_halts : (units : List ℕ) (f : FieldText) (rest : List ℕ) (r : Result (List FieldText × List ℕ) ℕ) → units ≡ field_text f ++ rest → FieldFits f → ParamsHalts rest r → ParamsHalts units (r >>= λ x. Ok (f ∷ x.0, x.1))
more_halts units f rest (Ok x) parts fits h = tt
more_halts units f rest (Err left) parts fits h =
    carry (field_text f) rest (λ us b. no_others f us fits) left units parts (λ fs. f ∷ fs) (λ fs all. (fits, all)) (λ fs. []) (λ fs. sym (append-nil (params_text (f ∷ fs))) ∙ sym (regroup (field_text f) (flat_map field_text fs) (41 ∷ []) [])) h

abbrev one : Option FieldText → List FieldText
one None = []
one (Some f) = f ∷ []

abbrev close : Option FieldText → List ℕ
close None = []
close (Some f) = 41 ∷ []

one_fits : (p : Option FieldText) → ResultFits p → AllByRecursion FieldFits (one p)
one_fits None fits = tt
one_fits (Some f) fits = (fits, tt)

one_text : (p : Option FieldText) → params_text (one p) ≡ param_text p ++ close p
one_text None = refl
one_text (Some f) = ap (λ (t : List ℕ). t ++ 41 ∷ []) (append-nil (field_text f))

after_halts : (units : List ℕ) (p : Result (Option FieldText × List ℕ) ℕ) (others : List ℕ → Result (List FieldText × List ℕ) ℕ) → ((rest : List ℕ) → length rest < length units → ParamsHalts rest (others rest)) → ParamTakes units p → ParamHalts units p → ParamsHalts units (p >>= λ x. after_param others x)
after_halts units (Err left) others each t h = carry [] units (λ us b. no_first us) left units refl (λ p. one p) one_fits (λ p. close p) one_text h
after_halts units (Ok (None, rest)) others each t h = tt
after_halts units (Ok (Some f, rest)) others each t h = more_halts units f rest (others rest) t.0 t.1 (each rest (omega (arith, ap length t.0, length-append (field_text f) rest, ap length (starts f.dims f.base).parts)))

params_halts : (n : ℕ) (units : List ℕ) → length units ≤ n → ParamsHalts units (params_at n units)
unfolding params_at
params_halts zero [] le = record { front = []; behind = []; parts = refl; long = refl; begun = []; fits = tt; rest = 41 ∷ []; goes = refl; stuck = tt }
params_halts zero (u ∷ us) le = absurd (omega (arith, le))
params_halts (suc n) units le = after_halts units (param_at units) (params_at n) (λ rest lt. params_halts n rest (omega (arith, lt, le))) (param_takes units) (param_halts units)

-- ---- all units

abbrev NoMethod : List ℕ → Type 0
NoMethod = NoText method_text MethodFits

abbrev MethodHalts : List ℕ → Result MethodText ℕ → Type 0
MethodHalts = Halts method_text MethodFits NoMethod

same_tail : (a b : ℕ) (xs ys : List ℕ) → a ∷ xs ≡ b ∷ ys → xs ≡ ys
same_tail a b xs ys e = cc

method_parts : (m : MethodText) → method_text m ≡ 40 ∷ (params_text m.params ++ result_text m.result)
method_parts m = ap (λ (t : List ℕ). 40 ∷ t) (sym (append_assoc (flat_map field_text m.params) (41 ∷ []) (result_text m.result)))

no_params : (us : List ℕ) → NoParams us → NoMethod (40 ∷ us)
no_params us never m fits e = never m.params fits.0 (result_text m.result) (same_tail 40 40 (params_text m.params ++ result_text m.result) us (sym (method_parts m) ∙ e))

-- the text behind the parameters is the result's
behind_params : (ps : List FieldText) (us : List ℕ) → AllByRecursion FieldFits ps → (m : MethodText) → MethodFits m → method_text m ≡ 40 ∷ (params_text ps ++ us) → result_text m.result ≡ us
behind_params ps us all m fits e =
    let same : params_text m.params ++ result_text m.result ≡ params_text ps ++ us = same_tail 40 40 (params_text m.params ++ result_text m.result) (params_text ps ++ us) (sym (method_parts m) ∙ e) in
    let n = suc (length ps + length m.params) in
    let p : params_at n (params_text ps ++ us) ≡ read ps us = params_again n ps us (omega arith) all in
    let q : params_at n (params_text ps ++ us) ≡ read m.params (result_text m.result) = ap (params_at n) (sym same) ∙ params_again n m.params (result_text m.result) (omega arith) fits.0 in
    ap rest_of (sym q ∙ p)

no_result : (ps : List FieldText) (us : List ℕ) → AllByRecursion FieldFits ps → NoResult us → NoMethod (40 ∷ (params_text ps ++ us))
no_result ps us all stop m fits e = no_stop (result_at us) (m.result, []) (ap result_at (sym (behind_params ps us all m fits e)) ∙ result_again m.result fits.1) stop

result_read : (r : Option FieldText) (rest : List ℕ) → ResultFits r → result_at (result_text r ++ rest) ≡ read r rest
unfolding result_at
result_read None rest fits = refl
result_read (Some f) rest fits = some_result f rest fits

behind_result : (ps : List FieldText) (r : Option FieldText) (rest : List ℕ) → AllByRecursion FieldFits ps → ResultFits r → Behind NoMethod (40 ∷ (params_text ps ++ result_text r)) rest
behind_result ps r [] all fits = tt
behind_result ps r (u ∷ more) all fits = λ other m also e.
    let same = behind_params ps (result_text r ++ u ∷ other) all m also (e ∙ ap (λ (t : List ℕ). 40 ∷ t) (append_assoc (params_text ps) (result_text r) (u ∷ other))) in
    left_over (result_at (result_text r ++ u ∷ other)) r m.result u other (result_read r (u ∷ other) fits) (ap result_at (sym same) ∙ result_again m.result also.1)

end_halts : (units : List ℕ) (ps : List FieldText) (rest : List ℕ) (r : Result (Option FieldText × List ℕ) ℕ) → units ≡ 40 ∷ (params_text ps ++ rest) → AllByRecursion FieldFits ps → ResultTakes rest r → ResultHalts rest r → MethodHalts units (r >>= λ x. all_of (record { params = ps; result = x.0 }, x.1))
end_halts units ps rest (Ok x) parts all t h =
    let m : MethodText = record { params = ps; result = x.0 } in
    let front = params_text ps ++ result_text x.0 in
    either (MethodHalts units) (eqb (length x.1) 0) (Ok m) (Err (length x.1)) (λ e. tt) (λ e.
    record { front = 40 ∷ front; behind = x.1; parts = parts ∙ ap (λ (us : List ℕ). 40 ∷ us) (ap (λ (us : List ℕ). params_text ps ++ us) t.0 ∙ sym (append_assoc (params_text ps) (result_text x.0) x.1)); long = refl; begun = m; fits = (all, t.1); rest = []; goes = method_parts m ∙ sym (append-nil (40 ∷ front)); stuck = behind_result ps x.0 x.1 all t.1 })
end_halts units ps rest (Err left) parts all t h =
    carry (40 ∷ params_text ps) rest (λ us b. no_result ps us all) left units parts (λ r. record { params = ps; result = r }) (λ r fits. (all, fits)) (λ r. []) (λ r. method_parts (record { params = ps; result = r }) ∙ ap (λ (t : List ℕ). 40 ∷ (params_text ps ++ t)) (sym (append-nil (result_text r)))) h

parts_halt : (units : List ℕ) (r : Result (List FieldText × List ℕ) ℕ) → ParamsTakes units r → ParamsHalts units r → MethodHalts (40 ∷ units) (r >>= λ ps. result_at ps.1 >>= λ x. all_of (record { params = ps.0; result = x.0 }, x.1))
parts_halt units (Ok x) t h = end_halts (40 ∷ units) x.0 x.1 (result_at x.1) (ap (λ (us : List ℕ). 40 ∷ us) t.0) t.1 (result_takes x.1) (result_halts x.1)
parts_halt units (Err left) t h =
    carry (40 ∷ []) units (λ us b. no_params us) left (40 ∷ units) refl (λ ps. record { params = ps; result = None }) (λ ps all. (all, tt)) (λ ps. 86 ∷ []) (λ ps. method_parts (record { params = ps; result = None })) h

not_open : (u : ℕ) (other : List ℕ) → eqb u 40 ≡ false → NoMethod (u ∷ other)
not_open u other e m fits same =
    let paren : 40 ≡ u = same_head 40 u (flat_map field_text m.params ++ 41 ∷ result_text m.result) other same in
    let apart : eqb 40 40 ≡ false = ap (λ (n : ℕ). eqb n 40) paren ∙ e in
    absurd cc

pub method_halts : (units : List ℕ) → MethodHalts units (whole_method units)
unfolding whole_method
method_halts [] = record { front = []; behind = []; parts = refl; long = refl; begun = record { params = []; result = None }; fits = (tt, tt); rest = 40 ∷ 41 ∷ 86 ∷ []; goes = refl; stuck = tt }
method_halts (u ∷ rest) =
    either (MethodHalts (u ∷ rest)) (eqb u 40) _ _
    (λ e. rw (eqb-true u 40 e) (parts_halt rest (params_at (length rest) rest) (params_takes (length rest) rest) (params_halts (length rest) rest (omega arith))))
    (λ e. record { front = []; behind = u ∷ rest; parts = refl; long = refl; begun = record { params = []; result = None }; fits = (tt, tt); rest = 40 ∷ 41 ∷ 86 ∷ []; goes = refl; stuck = λ other. not_open u other e })
