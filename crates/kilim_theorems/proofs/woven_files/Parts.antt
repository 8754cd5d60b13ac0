-- The parts of a woven method: its descriptor, its types, its code.
use Rattle.std.proofs.Common.{◌≡◌, ℕ, List, [], ◌∷◌, ◌++◌, map, Option, Some, None, option_map, filter_map, refl, sym, ap, ◌∙◌}
use Rattle.std.specs.List.{cons_option}
use Rattle.std.proofs.lemmas.Option.{none-some, same_Some}
use Rattle.kilim_class_attributes.specs.declared.attribute.Attribute.{Attribute}
use Rattle.kilim_class_attributes.specs.declared.attribute.Code.{Code}
use Rattle.kilim_class_attributes.specs.declared.attribute.Info.{Info}
use Rattle.kilim_class_attributes.specs.declared.attribute.Info.TheVariants as info
use Rattle.kilim_class_file.specs.declared.class_file.ClassFile.{ClassFile}
use Rattle.kilim_class_pool.specs.declared.entry.Entry.{Entry}
use Rattle.kilim_class_descriptors.specs.declared.types.FieldText.{FieldText}
use Rattle.kilim_class_descriptors.specs.Exact.{spelled_by}
use Rattle.kilim_program.specs.declared.names.ClassId.{ClassId}
use Rattle.kilim_program.specs.declared.ty.Ty.{Ty}
use Rattle.kilim_program.specs.Program.{Program}
use Rattle.kilim_program.specs.Names.{◌>>=◌}
use Rattle.kilim_link_spec.specs.World.{World, member_descriptor}
use Rattle.kilim_link_spec.specs.Types.{with_first, type_in, types_in, result_in, method_text}
use Rattle.kilim_link_spec.specs.Laws.{DecodedIsDecode}
use Rattle.kilim_link_spec.specs.Linked.{code_attribute, code_in, first_of, body_in, linked_method, method_with}
use Rattle.kilim_weave_file_spec.specs.Texts.{fiber_text, with_fiber, woven_descriptor}
use Rattle.kilim_weave_file_spec.specs.WovenFile.{MethodPair, woven_code, woven_attribute, woven_info, attribute_with, rewritten}
use Rattle.kilim_theorems.proofs.woven_files.pool.Naming.{text_at}
use Rattle.kilim_theorems.proofs.woven_files.DescriptorsApart.{woven_read}
use Rattle.kilim_theorems.proofs.woven_files.Methods.{body_back}
use Rattle.kilim_theorems.specs.woven_files.Standing.{body_of, MethodStands}

-- ---- the Code attribute is that of the method, woven

kept_code : (w : Program) (old pool : List Entry) (x : MethodPair) (i : Info) (name : ℕ) (rest : List Attribute) (later : List Code) → later ≡ filter_map (λ a. code_in a.info) rest →
    filter_map (λ (a : Attribute). code_in a.info) (cons_option (attribute_with name (woven_info w old pool x.method x.counted i)) rest) ≡ cons_option (option_map (woven_code w old pool x.method x.counted) (code_in i)) later
kept_code w old pool x (info.Code code) name rest later is = ap (λ l. woven_code w old pool x.method x.counted code ∷ l) (sym is)
kept_code w old pool x (info.Exceptions classes) name rest later is = sym is
kept_code w old pool x (info.RuntimeVisibleAnnotations parts) name rest later is = sym is
kept_code w old pool x (info.RuntimeInvisibleAnnotations parts) name rest later is = sym is
kept_code w old pool x (info.RuntimeVisibleParameterAnnotations parts) name rest later is = sym is
kept_code w old pool x (info.RuntimeInvisibleParameterAnnotations parts) name rest later is = sym is
kept_code w old pool x _ name rest later is = sym is

mapped_cons : (f : Code → Code) (o : Option Code) (xs : List Code) → cons_option (option_map f o) (map f xs) ≡ map f (cons_option o xs)
mapped_cons f None xs = refl
mapped_cons f (Some c) xs = refl

codes_woven : (w : Program) (old pool : List Entry) (x : MethodPair) (attributes : List Attribute) →
    filter_map (λ (a : Attribute). code_in a.info) (filter_map (woven_attribute w old pool x.method x.counted) attributes) ≡ map (woven_code w old pool x.method x.counted) (filter_map (λ (a : Attribute). code_in a.info) attributes)
codes_woven w old pool x [] = refl
codes_woven w old pool x (a ∷ rest) =
    kept_code w old pool x a.info a.attribute_name_index (filter_map (woven_attribute w old pool x.method x.counted) rest) (map (woven_code w old pool x.method x.counted) (filter_map (λ (a : Attribute). code_in a.info) rest)) (sym (codes_woven w old pool x rest))
    ∙ mapped_cons (woven_code w old pool x.method x.counted) (code_in a.info) (filter_map (λ (a : Attribute). code_in a.info) rest)

first_mapped : (f : Code → Code) (xs : List Code) → first_of (map f xs) ≡ option_map f (first_of xs)
first_mapped f [] = refl
first_mapped f (x ∷ xs) = refl

pub code_is : (w : Program) (file : ClassFile) (pool : List Entry) (x : MethodPair) → code_attribute (rewritten w file pool x.method x.counted x.info) ≡ option_map (woven_code w file.constant_pool pool x.method x.counted) (code_attribute x.info)
code_is w file pool x =
    ap first_of (codes_woven w file.constant_pool pool x x.info.attributes) ∙ first_mapped (woven_code w file.constant_pool pool x.method x.counted) (filter_map (λ (a : Attribute). code_in a.info) x.info.attributes)

-- ---- types with the fiber

types_by : (v : World) (o : Option Ty) (fs : List FieldText) (tys : List Ty) (last : FieldText) (ty : Ty) → ((ts : List Ty) → types_in v fs ≡ Some ts → types_in v (fs ++ last ∷ []) ≡ Some (ts ++ ty ∷ [])) →
    (os : Option (List Ty)) → types_in v fs ≡ os → with_first o os ≡ Some tys → with_first o (types_in v (fs ++ last ∷ [])) ≡ Some (tys ++ ty ∷ [])
types_by v None fs tys last ty rest os is g = absurd (none-some tys g)
types_by v (Some t) fs tys last ty rest None is g = absurd (none-some tys g)
types_by v (Some t) fs tys last ty rest (Some ts) is g = ap (with_first (Some t)) (rest ts is) ∙ ap (λ xs. Some (xs ++ ty ∷ [])) (same_Some (t ∷ ts) tys g)

pub types_with : (v : World) (fs : List FieldText) (tys : List Ty) (last : FieldText) (ty : Ty) → types_in v fs ≡ Some tys → type_in v last ≡ Some ty → types_in v (fs ++ last ∷ []) ≡ Some (tys ++ ty ∷ [])
types_with v [] tys last ty h l = ap (λ o. with_first o (Some [])) l ∙ ap (λ ts. Some (ts ++ ty ∷ [])) (same_Some [] tys h)
types_with v (f ∷ fs) tys last ty h l = types_by v (type_in v f) fs tys last ty (λ ts is. types_with v fs ts last ty is l) (types_in v fs) refl h

-- ---- the method

body_by : DecodedIsDecode → (w : Program) (u v : World) (file woven : ClassFile) (c : ClassId) (at : ℕ → ℕ) (x : MethodPair) → MethodStands w u v file woven c at x → (o : Option Code) → code_attribute x.info ≡ o →
    body_in v woven c (rewritten w file woven.constant_pool x.method x.counted x.info) (option_map (woven_code w file.constant_pool woven.constant_pool x.method x.counted) o) ≡ Some (body_of x.method)
body_by law w u v file woven c at x s None is = ap Some (s.abstract is)
body_by law w u v file woven c at x s (Some code) is =
    let k = s.code code is in
    body_back law w u v woven c (rewritten w file woven.constant_pool x.method x.counted x.info) file.constant_pool at x code k.0 k.1 k.2

-- A method that pauses, written anew, links to that of the woven program.
pub method_back : DecodedIsDecode → (w : Program) (u v : World) (file woven : ClassFile) (c : ClassId) (at : ℕ → ℕ) (x : MethodPair) → MethodStands w u v file woven c at x →
    linked_method v woven c (rewritten w file woven.constant_pool x.method x.counted x.info) ≡ Some x.method
method_back law w u v file woven c at x s =
    let m = rewritten w file woven.constant_pool x.method x.counted x.info in
    let body = body_in v woven c m (code_attribute m) in
    let descriptor : member_descriptor woven m ≡ woven_descriptor (member_descriptor file x.info) = text_at woven.constant_pool m.descriptor_index (woven_descriptor (member_descriptor file x.info)) s.text in
    let read : method_text (member_descriptor woven m) ≡ Some (with_fiber s.plain.method) = ap method_text descriptor ∙ ap spelled_by (woven_read (member_descriptor file x.info) s.plain) in
    let types : types_in v (with_fiber s.plain.method).params ≡ Some x.method.params = types_with v s.plain.method.params s.params fiber_text s.fiber s.params_are s.fiber_is ∙ ap Some (sym s.params_is) in
    let code : body ≡ Some (body_of x.method) = ap (body_in v woven c m) (code_is w file woven.constant_pool x) ∙ body_by law w u v file woven c at x s (code_attribute x.info) refl in
    ap (λ t. t >>= λ text. types_in v text.params >>= λ params. result_in v text.result >>= λ result. body >>= λ b. Some (method_with v woven c m params result b)) read
    ∙ (ap (λ t. t >>= λ params. result_in v s.plain.method.result >>= λ result. body >>= λ b. Some (method_with v woven c m params result b)) types
    ∙ (ap (λ t. t >>= λ result. body >>= λ b. Some (method_with v woven c m x.method.params result b)) s.result_is
    ∙ (ap (λ t. t >>= λ b. Some (method_with v woven c m x.method.params x.method.result b)) code
    ∙ ap Some s.rest)))
