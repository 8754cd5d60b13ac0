-- Annotations of parameters with one parameter more.
use Rattle.std.proofs.Common.{◌≡◌, ℕ, zero, suc, ◌+◌, ◌<◌, List, [], ◌∷◌, ◌++◌, length, replicate, refl, sym, ap, subst, ◌∙◌, arith}
use Rattle.std.proofs.lemmas.List.{append_assoc}
use Rattle.kilim_class_pool.specs.declared.entry.Entry.{Entry}
use Rattle.kilim_class_attributes.specs.declared.parts.annotation.PartKind.{PartKind}
use Rattle.kilim_class_attributes.specs.declared.parts.annotation.PartKind.TheVariants.{ParameterCount, AnnotationList, OneAnnotation, Pair}
use Rattle.kilim_class_attributes.specs.declared.parts.annotation.AnnotationPart.{AnnotationPart}
use Rattle.kilim_class_attributes.specs.declared.parts.annotation.AnnotationPart.TheVariants.{Parameters, Annotations, Annotation, ElementName, Constant, EnumConstant, Class, Nested, Array}
use Rattle.kilim_class_attributes.specs.parts.Choices.{Sentence}
use Rattle.kilim_class_attributes.specs.parts.Annotations.{asks, asked, PartFits, PartsFit}
use Rattle.kilim_link_spec.specs.Annotations.{outermost, types_before, lists_of, params_in}
use Rattle.kilim_weave_file_spec.specs.WovenFile.{one_parameter_more}

sentence_more : (pool : List Entry) (kinds : List PartKind) (parts : List AnnotationPart) → Sentence (PartFits pool) asks kinds parts → Sentence (PartFits pool) asks (kinds ++ AnnotationList ∷ []) (parts ++ Annotations 0 ∷ [])
sentence_more pool [] [] h = (omega arith, tt)
sentence_more pool [] (p ∷ ps) h = absurd h
sentence_more pool (k ∷ ks) [] h = absurd h
sentence_more pool (k ∷ ks) (p ∷ ps) h =
    (h.0, subst (λ (x : List PartKind). Sentence (PartFits pool) asks x (ps ++ Annotations 0 ∷ [])) (append_assoc (asks p) ks (AnnotationList ∷ [])) (sentence_more pool (asks p ++ ks) ps h.1))

one_more : (n : ℕ) → (replicate n AnnotationList ++ []) ++ AnnotationList ∷ [] ≡ replicate (suc n) AnnotationList ++ []
one_more zero = refl
one_more (suc n) = ap (λ (x : List PartKind). AnnotationList ∷ x) (one_more n)

pub parameters_fit : (pool : List Entry) (n : ℕ) (rest : List AnnotationPart) → n < 255 → PartsFit pool ParameterCount (Parameters n ∷ rest) → PartsFit pool ParameterCount (one_parameter_more (Parameters n ∷ rest))
parameters_fit pool n rest few h = (omega (arith, few), subst (λ (x : List PartKind). Sentence (PartFits pool) asks x (rest ++ Annotations 0 ∷ [])) (one_more n) (sentence_more pool (replicate n AnnotationList ++ []) rest h.1))

-- ---- the lists of annotations

-- kinds that stand at the top
abbrev Top : List PartKind → Type 0
Top [] = Unit {0}
Top (AnnotationList ∷ ks) = Top ks
Top (OneAnnotation ∷ ks) = Top ks
Top (k ∷ ks) = ⊥

tops : (n : ℕ) (ks : List PartKind) → Top ks → Top (replicate n OneAnnotation ++ ks)
tops zero ks h = h
tops (suc n) ks h = tops n ks h

lists : (n : ℕ) (ks : List PartKind) → Top ks → Top (replicate n AnnotationList ++ ks)
lists zero ks h = h
lists (suc n) ks h = lists n ks h

length_more : (n : ℕ) (k : PartKind) (ks : List PartKind) → length (replicate n k ++ ks) ≡ n + length ks
length_more zero k ks = let e : length ks ≡ 0 + length ks = omega arith in e
length_more (suc n) k ks = let r = length_more n k ks in let e : suc (length (replicate n k ++ ks)) ≡ suc n + length ks = omega (arith, r) in e

length_of : (n : ℕ) → length (replicate n Pair) ≡ n
length_of zero = refl
length_of (suc n) = ap suc (length_of n)

outer_more : (pool : List Entry) (parts : List AnnotationPart) (inner outer : List PartKind) (pending : ℕ) → length inner ≡ pending → Top outer → Sentence (PartFits pool) asks (inner ++ outer) parts →
    outermost pending (parts ++ Annotations 0 ∷ []) ≡ outermost pending parts ++ Annotations 0 ∷ []
outer_more pool [] [] [] zero is top h = refl
outer_more pool [] [] [] (suc n) is top h = absurd (omega (arith, is))
outer_more pool [] [] (k ∷ ks) pending is top h = absurd h
outer_more pool [] (k ∷ ks) outer pending is top h = absurd h
outer_more pool (p ∷ ps) (k ∷ ks) outer zero is top h = absurd (omega (arith, is))
outer_more pool (p ∷ ps) (k ∷ ks) outer (suc n) is top h =
    let more = length_more (asked p).count (asked p).kind ks in
    outer_more pool ps (asks p ++ ks) outer ((asked p).count + n) (omega (arith, more, is)) top (subst (λ (x : List PartKind). Sentence (PartFits pool) asks x ps) (sym (append_assoc (asks p) ks outer)) h.1)
outer_more pool (p ∷ ps) [] outer (suc n) is top h = absurd (omega (arith, is))
outer_more pool (p ∷ ps) [] [] zero is top h = absurd h
outer_more pool (Annotations c ∷ ps) [] (AnnotationList ∷ ks) zero is top h =
    ap (λ (x : List AnnotationPart). Annotations c ∷ x) (outer_more pool ps [] (replicate c OneAnnotation ++ ks) 0 refl (tops c ks top) h.1)
outer_more pool (p ∷ ps) [] (AnnotationList ∷ ks) zero is top h = absurd h.0
outer_more pool (Annotation t c ∷ ps) [] (OneAnnotation ∷ ks) zero is top h =
    ap (λ (x : List AnnotationPart). Annotation t c ∷ x) (outer_more pool ps (replicate c Pair) ks c (length_of c) top h.1)
outer_more pool (p ∷ ps) [] (OneAnnotation ∷ ks) zero is top h = absurd h.0
outer_more pool (p ∷ ps) [] (k ∷ ks) zero is top h = absurd top

types_more : (xs : List AnnotationPart) → types_before (xs ++ Annotations 0 ∷ []) ≡ types_before xs
types_more [] = refl
types_more (Annotation t c ∷ xs) = ap (λ (ts : List ℕ). t ∷ ts) (types_more xs)
types_more (Annotations c ∷ xs) = refl
types_more (Parameters c ∷ xs) = types_more xs
types_more (ElementName n ∷ xs) = types_more xs
types_more (Constant t i ∷ xs) = types_more xs
types_more (EnumConstant t n ∷ xs) = types_more xs
types_more (Class d ∷ xs) = types_more xs
types_more (Nested ∷ xs) = types_more xs
types_more (Array c ∷ xs) = types_more xs

lists_more : (xs : List AnnotationPart) → lists_of (xs ++ Annotations 0 ∷ []) ≡ lists_of xs ++ [] ∷ []
lists_more [] = refl
lists_more (Annotations c ∷ xs) = ap (λ (ts : List ℕ). ts ∷ lists_of (xs ++ Annotations 0 ∷ [])) (types_more xs) ∙ ap (λ (ls : List (List ℕ)). types_before xs ∷ ls) (lists_more xs)
lists_more (Annotation t c ∷ xs) = lists_more xs
lists_more (Parameters c ∷ xs) = lists_more xs
lists_more (ElementName n ∷ xs) = lists_more xs
lists_more (Constant t i ∷ xs) = lists_more xs
lists_more (EnumConstant t n ∷ xs) = lists_more xs
lists_more (Class d ∷ xs) = lists_more xs
lists_more (Nested ∷ xs) = lists_more xs
lists_more (Array c ∷ xs) = lists_more xs

-- The lists of all parameters, and an empty one.
pub params_more : (pool : List Entry) (n : ℕ) (rest : List AnnotationPart) → PartsFit pool ParameterCount (Parameters n ∷ rest) → params_in (one_parameter_more (Parameters n ∷ rest)) ≡ params_in (Parameters n ∷ rest) ++ [] ∷ []
unfolding params_in
params_more pool n rest h =
    ap lists_of (outer_more pool rest [] (replicate n AnnotationList ++ []) 0 refl (lists n [] tt) h.1) ∙ lists_more (outermost 0 rest)
