-- The classes without their members: names, and places.
use Rattle.std.proofs.Common.{◌≡◌, ℕ, suc, ◌+◌, ◌<◌, Bool, true, false, cond, List, [], ◌∷◌, ◌++◌, length, take, map, Option, Some, None, refl, sym, ap, ◌∙◌, subst, arith}
use Rattle.std.specs.Prelude.{option_map, slice_get, unwrap_or}
use Rattle.std.specs.List.{position_from}
use Rattle.std.specs.Str.{bytes_eq}
use Rattle.std.proofs.lemmas.Option.{slice_get-map, slice_get_within}
use Rattle.std.proofs.lemmas.List.{length-take}
use Rattle.kilim_lemmas.proofs.Lists.{take_next}
use Rattle.kilim_program.specs.declared.class.Form.{Form}
use Rattle.kilim_program.specs.declared.class.Class.{Class}
use Rattle.kilim_program.specs.declared.names.ClassId.{ClassId}
use Rattle.kilim_program.specs.BuiltIn.{class_id}
use Rattle.kilim_program.specs.Names.{◌>>=◌, class_from, class_named}
use Rattle.kilim_program.specs.Program.{Program}
use Rattle.kilim_link_spec.specs.declared.view.ClassView.{ClassView}
use Rattle.kilim_link_spec.specs.World.{number_of, outlined, outline_of, outline_with, is_message_by}
use Rattle.kilim_link_world.specs.declared.ids.Ids.{Ids}
use Rattle.kilim_link_world.specs.Agrees.{each_below}
use Rattle.kilim_link_world.specs.Ids.{id_in, named_in}
use Rattle.kilim_link_world.specs.Outlining.{superclass_in, without_members, mark_at}
use Rattle.kilim_link_world.proofs.Below.{get_below, length_below}

first_named : (found : Bool) (n : ℕ) (others : Option ClassId) (more : Option ℕ) → others ≡ option_map class_id more → cond found (Some (class_id n)) others ≡ option_map class_id (cond found (Some n) more)
first_named true n others more e = refl
first_named false n others more e = e

named_from : (all : List ClassView) (mark : ClassId → ClassView → Bool) (name : List ℕ) (n : ℕ) (vs : List ClassView) → class_from (outlined all mark n vs) name n ≡ option_map class_id (position_from (λ v. bytes_eq v.name name) n vs)
named_from all mark name n [] = refl
named_from all mark name n (v ∷ vs) =
    let next : suc n ≡ n + 1 = omega arith in
    let later : class_from (outlined all mark (n + 1) vs) name (suc n) ≡ option_map class_id (position_from (λ v. bytes_eq v.name name) (n + 1) vs) =
    ap (class_from (outlined all mark (n + 1) vs) name) next ∙ named_from all mark name (n + 1) vs in
    first_named (bytes_eq v.name name) n (class_from (outlined all mark (n + 1) vs) name (suc n)) (position_from (λ v. bytes_eq v.name name) (n + 1) vs) later

-- the class of a name is the first one that has it
pub class_named_is : (form : Form) (classes : List ClassView) (outline : Program) (name : List ℕ) → outline ≡ outline_of form classes → class_named outline name ≡ option_map class_id (named_in name classes)
class_named_is form classes outline name is = ap (λ (o : Program). class_named o name) is ∙ named_from classes (λ c v. is_message_by (outline_with form classes (λ d u. u.is_marked)) c) name 0 classes

pub length_outlined : (all : List ClassView) (mark : ClassId → ClassView → Bool) (n : ℕ) (vs : List ClassView) → length (outlined all mark n vs) ≡ length vs
length_outlined all mark n [] = refl
length_outlined all mark n (v ∷ vs) = ap suc (length_outlined all mark (n + 1) vs)

-- ---- one by one

abbrev entry : List ClassView → (ClassId → ClassView → Bool) → ℕ → ClassView → Class
entry all mark n v = record { name = v.name; superclass = v.superclass >>= number_of all; is_abstract = v.is_abstract; message = mark (class_id n) v; fields = []; methods = [] }

outlined_push : (all : List ClassView) (mark : ClassId → ClassView → Bool) (n : ℕ) (vs : List ClassView) (v : ClassView) → outlined all mark n (vs ++ v ∷ []) ≡ outlined all mark n vs ++ entry all mark (n + length vs) v ∷ []
outlined_push all mark n [] v = let same : n ≡ n + 0 = omega arith in ap (λ (k : ℕ). entry all mark k v ∷ []) same
outlined_push all mark n (u ∷ vs) v =
    let same : n + 1 + length vs ≡ n + suc (length vs) = omega arith in
    ap (λ (cs : List Class). entry all mark n u ∷ cs) (outlined_push all mark (n + 1) vs v ∙ ap (λ (k : ℕ). outlined all mark (n + 1) vs ++ entry all mark k v ∷ []) same)

superclass_is : (all : List ClassView) (ids : Ids) → ((name : List ℕ) → id_in ids.places name ≡ named_in name all) → (o : Option (List ℕ)) → superclass_in ids o ≡ (o >>= number_of all)
superclass_is all ids named None = refl
superclass_is all ids named (Some name) = ap (option_map class_id) (named name)

without_is : (all : List ClassView) (ids : Ids) → ((name : List ℕ) → id_in ids.places name ≡ named_in name all) → (mark : ClassId → ClassView → Bool) (n : ℕ) (v : ClassView) → without_members ids v (mark (class_id n) v) ≡ entry all mark n v
without_is all ids named mark n v = ap (λ (o : Option ClassId). record (entry all mark n v) { superclass = o }) (superclass_is all ids named v.superclass)

-- the next class without its members
pub outlined_next : (ids : Ids) (mark : ClassId → ClassView → Bool) (vs : List ClassView) (i : ℕ) (v : ClassView) (message : Bool) → ((name : List ℕ) → id_in ids.places name ≡ named_in name vs) → slice_get vs i ≡ Some v → message ≡ mark (class_id i) v → outlined vs mark 0 (take i vs) ++ without_members ids v message ∷ [] ≡ outlined vs mark 0 (take (i + 1) vs)
outlined_next ids mark vs i v message named is marked =
    let len : 0 + length (take i vs) ≡ i = (let lt = slice_get_within vs i v is in let len = length-take i vs in omega arith) in
    ap (λ (c : Class). outlined vs mark 0 (take i vs) ++ c ∷ []) (ap (λ (b : Bool). without_members ids v b) marked ∙ without_is vs ids named mark i v)
    ∙ sym (ap (outlined vs mark 0) (take_next vs i v is) ∙ (outlined_push vs mark 0 (take i vs) v ∙ ap (λ (k : ℕ). outlined vs mark 0 (take i vs) ++ entry vs mark k v ∷ []) len))

-- marks that agree
pub same_marks : (all : List ClassView) (f g : ClassId → ClassView → Bool) (n : ℕ) (vs : List ClassView) → ((k : ℕ) (v : ClassView) → slice_get vs k ≡ Some v → f (class_id (n + k)) v ≡ g (class_id (n + k)) v) → outlined all f n vs ≡ outlined all g n vs
same_marks all f g n [] same = refl
same_marks all f g n (v ∷ vs) same =
    let zeroth : n + 0 ≡ n = omega arith in
    let here : f (class_id n) v ≡ g (class_id n) v = subst (λ (k : ℕ). f (class_id k) v ≡ g (class_id k) v) zeroth (same 0 v refl) in
    let later : (k : ℕ) (u : ClassView) → slice_get vs k ≡ Some u → f (class_id (n + 1 + k)) u ≡ g (class_id (n + 1 + k)) u =
    λ k u is. (let next : n + suc k ≡ n + 1 + k = omega arith in subst (λ (i : ℕ). f (class_id i) u ≡ g (class_id i) u) next (same (suc k) u is)) in
    ap (λ (b : Bool). record (entry all f n v) { message = b } ∷ outlined all f (n + 1) vs) here
    ∙ ap (λ (cs : List Class). entry all g n v ∷ cs) (same_marks all f g (n + 1) vs later)

-- marks of their own
own_mark : (vs : List ClassView) (k : ℕ) (v : ClassView) → slice_get vs k ≡ Some v → mark_at (map (λ u. u.is_marked) vs) (class_id k) ≡ v.is_marked
own_mark vs k v is = ap (λ (o : Option Bool). unwrap_or o false) (slice_get-map (λ u. u.is_marked) vs k ∙ ap (option_map (λ u. u.is_marked)) is)

pub own_outline : (form : Form) (vs : List ClassView) → outline_with form vs (λ c v. mark_at (map (λ u. u.is_marked) vs) c) ≡ outline_with form vs (λ c v. v.is_marked)
own_outline form vs =
    ap (λ (cs : List Class). record { classes = cs; methods = []; fields = []; form = form }) (same_marks vs (λ c v. mark_at (map (λ u. u.is_marked) vs) c) (λ c v. v.is_marked) 0 vs (λ k v is.
    let zeroth : 0 + k ≡ k = omega arith in subst (λ (i : ℕ). mark_at (map (λ u. u.is_marked) vs) (class_id i) ≡ v.is_marked) (sym zeroth) (own_mark vs k v is)))

message_mark : (make : ℕ → Bool) (count k : ℕ) → k < count → mark_at (each_below make count) (class_id k) ≡ make k
message_mark make count k lt = ap (λ (o : Option Bool). unwrap_or o false) (get_below make count k lt)

pub message_outline : (form : Form) (vs : List ClassView) (marks : List Bool) (marked : Program) → marked ≡ outline_with form vs (λ c v. v.is_marked) → marks ≡ each_below (λ k. is_message_by marked (class_id k)) (length marked.classes) → outline_with form vs (λ c v. mark_at marks c) ≡ outline_of form vs
message_outline form vs marks marked is are =
    let make : ℕ → Bool = λ k. is_message_by marked (class_id k) in
    let len : length marked.classes ≡ length vs = ap (λ (p : Program). length p.classes) is ∙ length_outlined vs (λ c v. v.is_marked) 0 vs in
    ap (λ (cs : List Class). record { classes = cs; methods = []; fields = []; form = form }) (same_marks vs (λ c v. mark_at marks c) (λ c v. is_message_by marked c) 0 vs (λ k v there.
    let lt : 0 + k < length marked.classes = (let within = slice_get_within vs k v there in omega arith) in
    ap (λ (ms : List Bool). mark_at ms (class_id (0 + k))) are ∙ message_mark make (length marked.classes) (0 + k) lt))
    ∙ ap (λ (p : Program). outline_with form vs (λ c v. is_message_by p c)) is

pub length_messages : (make : ℕ → Bool) (form : Form) (vs : List ClassView) (marks : List Bool) (marked : Program) → marked ≡ outline_with form vs (λ c v. v.is_marked) → marks ≡ each_below make (length marked.classes) → length marks ≡ length vs
length_messages make form vs marks marked is are =
    ap length are ∙ (length_below make (length marked.classes) ∙ (ap (λ (p : Program). length p.classes) is ∙ length_outlined vs (λ c v. v.is_marked) 0 vs))

pub length_outline : (form : Form) (vs : List ClassView) (outline : Program) → outline ≡ outline_of form vs → length outline.classes ≡ length vs
length_outline form vs outline is =
    ap (λ (p : Program). length p.classes) is ∙ length_outlined vs (λ d v. is_message_by (outline_with form vs (λ c u. u.is_marked)) d) 0 vs
