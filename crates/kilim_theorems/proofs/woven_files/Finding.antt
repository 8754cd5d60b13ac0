-- Methods are found in woven form where they were found before.
use Rattle.std.proofs.Common.{◌≡◌, ℕ, ◌+◌, Bool, true, false, cond, ◌&&◌, List, [], ◌∷◌, Option, Some, None, option_map, bytes_eq, refl, sym, ap, ◌∙◌}
use Rattle.std.specs.List.{AllByRecursion, position_from}
use Rattle.std.proofs.lemmas.Slice.Eq.{bytes_eq-Decides}
use Rattle.kilim_lemmas.proofs.Texts.{text_is}
use Rattle.kilim_program.specs.declared.names.ClassId.{ClassId}
use Rattle.kilim_program.specs.declared.names.MethodId.{MethodId}
use Rattle.kilim_program.specs.BuiltIn.{method_id}
use Rattle.kilim_link_spec.specs.declared.view.DeclaredMethod.{DeclaredMethod}
use Rattle.kilim_link_spec.specs.World.{World, declared_methods, first_method, is_method, method_in, first_found, or_else}
use Rattle.kilim_theorems.specs.woven_files.Members.{pausing, SameButFiber, AllSame, Apart, SameClass, MethodsAreFound}

same_text : (xs ys : List ℕ) → xs ≡ ys → bytes_eq xs ys ≡ true
same_text xs ys e = (bytes_eq-Decides xs ys).1 e

module_of : (b : Bool) → (b ≡ true → ⊥) → b ≡ false
module_of true h = absurd (h refl)
module_of false h = refl

-- ---- two descriptors

unlike : (woven : List ℕ → List ℕ) (Is : List ℕ → Type 0) → Apart woven Is → (p b : Bool) (x y : List ℕ) → Is x → Is y → bytes_eq x y ≡ false → pausing woven p x ≡ pausing woven b y → ⊥
unlike woven Is apart true true x y ix iy differ same = let e : false ≡ true = sym differ ∙ same_text x y (apart.one x y ix iy same) in absurd (cc)
unlike woven Is apart false false x y ix iy differ same = let e : false ≡ true = sym differ ∙ same_text x y same in absurd (cc)
unlike woven Is apart true false x y ix iy differ same = apart.none x y ix iy same
unlike woven Is apart false true x y ix iy differ same = apart.none y x iy ix (sym same)

texts_by : (woven : List ℕ → List ℕ) (Is : List ℕ → Type 0) → Apart woven Is → (p b : Bool) (x y : List ℕ) → Is x → Is y → (c : Bool) → bytes_eq x y ≡ c → (c ≡ true → p ≡ b) →
    bytes_eq (pausing woven p x) (pausing woven b y) ≡ c
texts_by woven Is apart p b x y ix iy true is same =
    same_text (pausing woven p x) (pausing woven b y) (ap (λ q. pausing woven q x) (same refl) ∙ ap (pausing woven b) (text_is x y is))
texts_by woven Is apart p b x y ix iy false is same =
    module_of (bytes_eq (pausing woven p x) (pausing woven b y)) (λ e. unlike woven Is apart p b x y ix iy is (text_is (pausing woven p x) (pausing woven b y) e))

-- ---- one method

test_by : (woven : List ℕ → List ℕ) (Is : List ℕ → Type 0) → Apart woven Is → (p b : Bool) (x y : List ℕ) → Is x → Is y → (named : Bool) → ((named && bytes_eq x y) ≡ true → p ≡ b) →
    (named && bytes_eq (pausing woven p x) (pausing woven b y)) ≡ (named && bytes_eq x y)
test_by woven Is apart p b x y ix iy false same = refl
test_by woven Is apart p b x y ix iy true same = texts_by woven Is apart p b x y ix iy (bytes_eq x y) refl same

test_same : (woven : List ℕ → List ℕ) (Is : List ℕ → Type 0) → Apart woven Is → (name descriptor : List ℕ) (b : Bool) (m n : DeclaredMethod) → SameButFiber woven m n → Is m.descriptor → Is descriptor →
    (is_method name descriptor m ≡ true → m.pausable ≡ b) → is_method name (pausing woven b descriptor) n ≡ is_method name descriptor m
test_same woven Is apart name descriptor b m n same im id pauses =
    ap (λ t. bytes_eq t name && bytes_eq n.descriptor (pausing woven b descriptor)) same.name
    ∙ (ap (λ t. bytes_eq m.name name && bytes_eq t (pausing woven b descriptor)) same.descriptor
    ∙ test_by woven Is apart m.pausable b m.descriptor descriptor im id (bytes_eq m.name name) pauses)

-- ---- the methods of a class

places_same : (woven : List ℕ → List ℕ) (Is : List ℕ → Type 0) → Apart woven Is → (name descriptor : List ℕ) (b : Bool) (k : ℕ) (ms ns : List DeclaredMethod) → AllSame woven ms ns →
    AllByRecursion (λ (m : DeclaredMethod). Is m.descriptor) ms → Is descriptor → AllByRecursion (λ (m : DeclaredMethod). is_method name descriptor m ≡ true → m.pausable ≡ b) ms →
    position_from (is_method name (pausing woven b descriptor)) k ns ≡ position_from (is_method name descriptor) k ms
places_same woven Is apart name descriptor b k [] [] same known id pauses = refl
places_same woven Is apart name descriptor b k [] (n ∷ ns) same known id pauses = absurd same
places_same woven Is apart name descriptor b k (m ∷ ms) [] same known id pauses = absurd same
places_same woven Is apart name descriptor b k (m ∷ ms) (n ∷ ns) same known id pauses =
    ap (λ t. cond t (Some k) (position_from (is_method name (pausing woven b descriptor)) (k + 1) ns)) (test_same woven Is apart name descriptor b m n same.0 known.0 id pauses.0)
    ∙ ap (cond (is_method name descriptor m) (Some k)) (places_same woven Is apart name descriptor b (k + 1) ms ns same.1 known.1 id pauses.1)

class_same : (woven : List ℕ → List ℕ) (Is : List ℕ → Type 0) → Apart woven Is → (w v : World) (c : ClassId) (name descriptor : List ℕ) (b : Bool) → SameClass woven Is w v c → Is descriptor →
    AllByRecursion (λ (m : DeclaredMethod). is_method name descriptor m ≡ true → m.pausable ≡ b) (declared_methods w c) → method_in v name (pausing woven b descriptor) c ≡ method_in w name descriptor c
class_same woven Is apart w v c name descriptor b same id pauses =
    ap (λ f. option_map (λ k. method_id (f + k)) (position_from (is_method name (pausing woven b descriptor)) 0 (declared_methods v c))) same.first
    ∙ ap (option_map (λ k. method_id (first_method w c + k))) (places_same woven Is apart name descriptor b 0 (declared_methods w c) (declared_methods v c) same.methods same.known id pauses)

-- ---- a line of classes

found_by : (here : Option MethodId) (later others : Option MethodId) → (here ≡ None → later ≡ others) → or_else here later ≡ or_else here others
found_by None later others same = same refl
found_by (Some id) later others same = refl

pub found_again : MethodsAreFound
found_again woven Is w v [] name descriptor b apart same id pauses = refl
found_again woven Is w v (c ∷ cs) name descriptor b apart same id pauses =
    ap (λ h. or_else h (first_found (method_in v name (pausing woven b descriptor)) cs)) (class_same woven Is apart w v c name descriptor b same.0 id pauses.0)
    ∙ found_by (method_in w name descriptor c) (first_found (method_in v name (pausing woven b descriptor)) cs) (first_found (method_in w name descriptor) cs)
    (λ none. found_again woven Is w v cs name descriptor b apart same.1 id (pauses.1 none))
