-- Objects in preorder get numbers as references, the last object first.
use Rattle.std.proofs.Common.{◌≡◌, ℕ, zero, suc, ◌+◌, ◌≤◌, List, [], ◌∷◌, ◌++◌, length, refl, sym, ap, subst, ◌∙◌, arith, length-append, append_assoc, get_or, set, map}
use Rattle.kilim_program.specs.declared.names.FieldId.{FieldId}
use Rattle.kilim_run_state.specs.declared.value.Object.{Object}
use Rattle.kilim_program.specs.declared.value.Value.{Value}
use Rattle.kilim_program.specs.declared.value.Value.TheVariants.{Int, Long, Null, Ref, Text, Box, Fiber}
use Rattle.kilim_run_trees.specs.Walk.{value_refs, field_refs, element_refs, refs, renamed_value, renamed_fields, renamed_elements, renamed, Leads, places, objects, numbered}
use Rattle.kilim_run_trees.specs.Moved.{at_places, renamed_all}
use Rattle.kilim_run_trees.specs.Steps.{Alike, AlikeField, AlikeObject, EachPair}
use Rattle.kilim_run_trees.proofs.Walks.{leads_last, leads_short}
use Rattle.kilim_run_trees.proofs.Taking.{objects_more, objects_length}
use Rattle.kilim_run_trees.proofs.Numbering.{get_middle, set_middle, append_nothing, pair_refs, same_many, same_many_field}

pub map_join : (f : ℕ → ℕ) (xs ys : List ℕ) → map f (xs ++ ys) ≡ map f xs ++ map f ys
map_join f [] ys = refl
map_join f (x ∷ xs) ys = ap (λ zs. f x ∷ zs) (map_join f xs ys)

pub map_long : (f : ℕ → ℕ) (xs : List ℕ) → length (map f xs) ≡ length xs
map_long f [] = refl
map_long f (x ∷ xs) = ap suc (map_long f xs)

pub parted : (xs ys zs ws : List ℕ) → xs ++ ys ≡ zs ++ ws → length xs ≡ length zs → (xs ≡ zs) × (ys ≡ ws)
parted [] ys [] ws e l = (refl, e)
parted [] ys (z ∷ zs) ws e l = absurd (omega arith)
parted (x ∷ xs) ys [] ws e l = absurd (omega arith)
parted (x ∷ xs) ys (z ∷ zs) ws e l =
    let heads : x ≡ z = cc in
    let tails : xs ++ ys ≡ zs ++ ws = cc in
    let l' : length xs ≡ length zs = omega arith in
    let h = parted xs ys zs ws tails l' in (λ i. heads i ∷ h.0 i, h.1)

first_is : (x y : ℕ) → x ∷ [] ≡ y ∷ [] → x ≡ y
first_is x y e = cc

pub value_renamed : (f : ℕ → ℕ) (v w : Value) → Alike v w → map f (value_refs w) ≡ value_refs v → renamed_value f w ≡ v
value_renamed f (Int n) w a e = subst (λ w. renamed_value f w ≡ Int n) a refl
value_renamed f (Long n) w a e = subst (λ w. renamed_value f w ≡ Long n) a refl
value_renamed f Null w a e = subst (λ w. renamed_value f w ≡ Null) a refl
value_renamed f (Ref n) w a e = subst (λ w. map f (value_refs w) ≡ n ∷ [] → renamed_value f w ≡ Ref n) a.1 (λ e. ap (λ n. Ref n) (first_is (f a.0) n e)) e
value_renamed f (Text units) w a e = subst (λ w. renamed_value f w ≡ Text units) a refl
value_renamed f (Box box) w a e = subst (λ w. renamed_value f w ≡ Box box) a refl
value_renamed f Fiber w a e = subst (λ w. renamed_value f w ≡ Fiber) a refl

pub elements_renamed : (f : ℕ → ℕ) (vs ws : List Value) → EachPair Alike vs ws → map f (element_refs ws) ≡ element_refs vs → renamed_elements f ws ≡ vs
elements_renamed f [] [] a e = refl
elements_renamed f [] (w ∷ ws) a e = absurd a
elements_renamed f (v ∷ vs) [] a e = absurd a
elements_renamed f (v ∷ vs) (w ∷ ws) a e =
    let l : length (map f (value_refs w)) ≡ length (value_refs v) = omega (arith, map_long f (value_refs w), same_many v w a.0) in
    let h = parted (map f (value_refs w)) (map f (element_refs ws)) (value_refs v) (element_refs vs) (sym (map_join f (value_refs w) (element_refs ws)) ∙ e) l in
    λ i. value_renamed f v w a.0 h.0 i ∷ elements_renamed f vs ws a.1 h.1 i

pub fields_renamed : (f : ℕ → ℕ) (vs ws : List (FieldId × Value)) → EachPair AlikeField vs ws → map f (field_refs ws) ≡ field_refs vs → renamed_fields f ws ≡ vs
fields_renamed f [] [] a e = refl
fields_renamed f [] (w ∷ ws) a e = absurd a
fields_renamed f (v ∷ vs) [] a e = absurd a
fields_renamed f (v ∷ vs) (w ∷ ws) a e =
    let l : length (map f (value_refs w.1)) ≡ length (value_refs v.1) = omega (arith, map_long f (value_refs w.1), same_many v.1 w.1 a.0.1) in
    let h = parted (map f (value_refs w.1)) (map f (field_refs ws)) (value_refs v.1) (field_refs vs) (sym (map_join f (value_refs w.1) (field_refs ws)) ∙ e) l in
    let name : w.0 ≡ v.0 = sym a.0.0 in
    let value : renamed_value f w.1 ≡ v.1 = value_renamed f v.1 w.1 a.0.1 h.0 in
    let entry : (w.0, renamed_value f w.1) ≡ v = λ i. (name i, value i) in
    λ i. entry i ∷ fields_renamed f vs ws a.1 h.1 i

pub refs_many : (o p : Object) → AlikeObject o p → length (refs o) ≡ length (refs p)
refs_many o p a = omega (arith, pair_refs (λ e. value_refs e.1) AlikeField same_many_field o.fields p.fields a.1, pair_refs value_refs Alike same_many o.elements p.elements a.2, length-append (field_refs o.fields) (element_refs o.elements), length-append (field_refs p.fields) (element_refs p.elements))

pub object_renamed : (f : ℕ → ℕ) (o p : Object) → AlikeObject o p → map f (refs p) ≡ refs o → renamed f p ≡ o
object_renamed f o p a e =
    let l : length (map f (field_refs p.fields)) ≡ length (field_refs o.fields) = omega (arith, map_long f (field_refs p.fields), pair_refs (λ e. value_refs e.1) AlikeField same_many_field o.fields p.fields a.1) in
    let h = parted (map f (field_refs p.fields)) (map f (element_refs p.elements)) (field_refs o.fields) (element_refs o.elements) (sym (map_join f (field_refs p.fields) (element_refs p.elements)) ∙ e) l in
    let fs : renamed_fields f p.fields ≡ o.fields = fields_renamed f o.fields p.fields a.1 h.0 in
    let es : renamed_elements f p.elements ≡ o.elements = elements_renamed f o.elements p.elements a.2 h.1 in
    λ i. record { class = sym a.0 i; fields = fs i; elements = es i }

-- ---- the loop

pub record HoldsFor (root : ℕ) (entries : List (ℕ × Object)) (now : List Object) (stack : List ℕ) (k : ℕ) : Type 0 where
  pub front : List (ℕ × Object)
  pub back : List (ℕ × Object)
  pub pending : List ℕ
  pub done : List Object
  pub all : entries ≡ front ++ back
  pub counted : length front ≡ k
  pub leads : Leads (root ∷ []) front pending
  pub now_is : now ≡ objects front ++ done
  pub pending_is : map (at_places (places entries)) stack ≡ pending
  pub same : renamed_all (at_places (places entries)) done ≡ objects back
  pub preorder : Leads stack (numbered k done) []

pub holds_first : (root : ℕ) (entries : List (ℕ × Object)) (now : List Object) (stack : List ℕ) (k : ℕ) → Leads (root ∷ []) entries [] → objects entries ≡ now → stack ≡ [] → k ≡ length now → HoldsFor root entries now stack k
holds_first root entries now stack k h o s c = record {
  front = entries;
  back = [];
  pending = [];
  done = [];
  all = sym (append_nothing entries);
  counted = omega (arith, c, ap length o, objects_length entries);
  leads = h;
  now_is = sym o ∙ sym (append_nothing (objects entries));
  pending_is = ap (map (at_places (places entries))) s;
  same = refl;
  preorder = s;
}

last_of : {A : Type 0} (xs : List A) (n : ℕ) → length xs ≡ suc n → (ys : List A) × (y : A) × (xs ≡ ys ++ y ∷ []) × (length ys ≡ n)
last_of [] n e = absurd (omega arith)
last_of (x ∷ []) n e = ([], x, refl, omega arith)
last_of (x ∷ y ∷ ys) zero e = absurd (omega arith)
last_of (x ∷ y ∷ ys) (suc n) e = let l : length (y ∷ ys) ≡ suc n = omega arith in let r = last_of (y ∷ ys) n l in (x ∷ r.0, r.1, ap (λ zs. x ∷ zs) r.2, ap suc r.3)

places_middle : (f : List (ℕ × Object)) (e : ℕ × Object) (back : List (ℕ × Object)) → at_places (places (f ++ e ∷ back)) (length f) ≡ e.0
places_middle [] e back = refl
places_middle (x ∷ f) e back = places_middle f e back

-- the object that is next
pub record Before (root : ℕ) (entries : List (ℕ × Object)) (now : List Object) (stack : List ℕ) (at : ℕ) : Type 0 where
  pub object : Object
  pub there : (d : Object) → get_or now at d ≡ object
  pub enough : length (refs object) ≤ length stack
  pub after : (new : Object) (left : List ℕ) → AlikeObject object new → refs new ++ left ≡ stack → HoldsFor root entries (set now at new) (at ∷ left) at

before_from : (root : ℕ) (f : List (ℕ × Object)) (e : ℕ × Object) (back : List (ℕ × Object)) (pending : List ℕ) (done : List Object) (stack : List ℕ) →
    Leads (root ∷ []) (f ++ e ∷ []) pending → map (at_places (places (f ++ e ∷ back))) stack ≡ pending → renamed_all (at_places (places (f ++ e ∷ back))) done ≡ objects back → Leads stack (numbered (suc (length f)) done) [] →
    Before root (f ++ e ∷ back) (objects f ++ e.1 ∷ done) stack (length f)
before_from root f e back pending done stack h p s pre =
    let rho : ℕ → ℕ = at_places (places (f ++ e ∷ back)) in
    let r = leads_last (root ∷ []) f e.0 e.1 pending h in
    let image : map rho stack ≡ refs e.1 ++ r.0 = p ∙ sym r.2 in
    let l : length (objects f) ≡ length f = objects_length f in
    record {
      object = e.1;
      there = λ d. ap (λ k. get_or (objects f ++ e.1 ∷ done) k d) (sym l) ∙ get_middle (objects f) e.1 done d;
      enough = omega (arith, ap length image, map_long rho stack, length-append (refs e.1) r.0);
      after = λ new left alike is.
          let joined : map rho (refs new) ++ map rho left ≡ refs e.1 ++ r.0 = sym (map_join rho (refs new) left) ∙ (ap (map rho) is ∙ image) in
          let same_long : length (map rho (refs new)) ≡ length (refs e.1) = omega (arith, map_long rho (refs new), refs_many e.1 new alike) in
          let split = parted (map rho (refs new)) (map rho left) (refs e.1) r.0 joined same_long in
          let renamed_is : renamed rho new ≡ e.1 = object_renamed rho e.1 new alike split.0 in
          let here : rho (length f) ≡ e.0 = places_middle f e back in
          record {
            front = f;
            back = e ∷ back;
            pending = e.0 ∷ r.0;
            done = new ∷ done;
            all = refl;
            counted = refl;
            leads = r.1;
            now_is = ap (λ k. set (objects f ++ e.1 ∷ done) k new) (sym l) ∙ set_middle (objects f) e.1 done new;
            pending_is = λ i. here i ∷ split.1 i;
            same = λ i. renamed_is i ∷ s i;
            preorder = (refl, subst (λ from. Leads from (numbered (suc (length f)) done) []) (sym is) pre);
          };
    }

pub before_next : (root : ℕ) (entries : List (ℕ × Object)) (now : List Object) (stack : List ℕ) (k at : ℕ) → HoldsFor root entries now stack k → k ≡ suc at → Before root entries now stack at
before_next root entries now stack k at h next =
    let fl : length h.front ≡ suc at = h.counted ∙ next in
    let r = last_of h.front at fl in
    let f : List (ℕ × Object) = r.0 in
    let e : ℕ × Object = r.1 in
    let entries_is : entries ≡ f ++ e ∷ h.back = h.all ∙ (ap (λ front. front ++ h.back) r.2 ∙ append_assoc f (e ∷ []) h.back) in
    let now_is : now ≡ objects f ++ e.1 ∷ h.done = h.now_is ∙ (ap (λ front. objects front ++ h.done) r.2 ∙ (ap (λ os. os ++ h.done) (objects_more f e) ∙ append_assoc (objects f) (e.1 ∷ []) h.done)) in
    let k_is : k ≡ suc (length f) = next ∙ ap suc (sym r.3) in
    let b = before_from root f e h.back h.pending h.done stack (subst (λ front. Leads (root ∷ []) front h.pending) r.2 h.leads)
    (subst (λ es. map (at_places (places es)) stack ≡ h.pending) entries_is h.pending_is)
    (subst (λ es. renamed_all (at_places (places es)) h.done ≡ objects h.back) entries_is h.same)
    (subst (λ k. Leads stack (numbered k h.done) []) k_is h.preorder) in
    subst (λ es. Before root es now stack at) (sym entries_is) (subst (λ os. Before root (f ++ e ∷ h.back) os stack at) (sym now_is) (subst (λ at. Before root (f ++ e ∷ h.back) (objects f ++ e.1 ∷ h.done) stack at) r.3 b))

pub holds_next : (root : ℕ) (entries : List (ℕ × Object)) (now after : List Object) (stack left pushed : List ℕ) (k at : ℕ) (old new d : Object) →
    HoldsFor root entries now stack k → k ≡ suc at → old ≡ get_or now at d → AlikeObject old new → refs new ++ left ≡ stack → after ≡ set now at new → pushed ≡ at ∷ left → HoldsFor root entries after pushed at
holds_next root entries now after stack left pushed k at old new d h next o a s af p =
    let b = before_next root entries now stack k at h next in
    let is : old ≡ b.object = o ∙ b.there d in
    let t = b.after new left (subst (λ o. AlikeObject o new) is a) s in
    subst (λ os. HoldsFor root entries os pushed at) (sym af) (subst (λ s. HoldsFor root entries (set now at new) s at) (sym p) t)

pub refs_enough : (root : ℕ) (entries : List (ℕ × Object)) (now : List Object) (stack : List ℕ) (k at : ℕ) (old d : Object) → HoldsFor root entries now stack k → k ≡ suc at → old ≡ get_or now at d → length (refs old) ≤ length stack
refs_enough root entries now stack k at old d h next o =
    let b = before_next root entries now stack k at h next in
    subst (λ o. length (refs o) ≤ length stack) (sym (o ∙ b.there d)) b.enough

numbered_long : (k : ℕ) (os : List Object) → length (numbered k os) ≡ length os
numbered_long k [] = refl
numbered_long k (o ∷ os) = ap suc (numbered_long (suc k) os)

-- the stack is no longer than what is done
pub stack_short : (root : ℕ) (entries : List (ℕ × Object)) (now : List Object) (stack : List ℕ) (k : ℕ) → HoldsFor root entries now stack k → length stack + k ≤ length now
stack_short root entries now stack k h = omega (arith, leads_short stack (numbered k h.done) h.preorder, numbered_long k h.done, ap length h.now_is, length-append (objects h.front) h.done, objects_length h.front, h.counted)

no_front : (f : List (ℕ × Object)) → length f ≡ 0 → f ≡ []
no_front [] e = refl
no_front (x ∷ f) e = absurd (omega arith)

-- the root has the number 0
pub root_first : (f : ℕ → ℕ) (root : ℕ) (stack : List ℕ) (os : List Object) → map f stack ≡ root ∷ [] → Leads stack (numbered 0 os) [] → Leads (0 ∷ []) (numbered 0 os) []
root_first f root [] os m h = absurd (cc)
root_first f root (x ∷ y ∷ ys) os m h = absurd (cc)
root_first f root (x ∷ []) [] m h = absurd (let e : x ∷ [] ≡ [] = h in cc)
root_first f root (x ∷ []) (o ∷ os) m h = (refl, h.1)

pub holds_last : (root : ℕ) (entries : List (ℕ × Object)) (now : List Object) (stack : List ℕ) (k : ℕ) → HoldsFor root entries now stack k → k ≡ 0 → (renamed_all (at_places (places entries)) now ≡ objects entries) × Leads (0 ∷ []) (numbered 0 now) []
holds_last root entries now stack k h z =
    let none : h.front ≡ [] = no_front h.front (h.counted ∙ z) in
    let back_is : entries ≡ h.back = h.all ∙ ap (λ f. f ++ h.back) none in
    let done_is : now ≡ h.done = h.now_is ∙ ap (λ f. objects f ++ h.done) none in
    let first : root ∷ [] ≡ h.pending = subst (λ f. Leads (root ∷ []) f h.pending) none h.leads in
    let pre : Leads stack (numbered 0 now) [] = subst (λ os. Leads stack (numbered 0 os) []) (sym done_is) (subst (λ k. Leads stack (numbered k h.done) []) z h.preorder) in
    (ap (renamed_all (at_places (places entries))) done_is ∙ (h.same ∙ ap objects (sym back_is)), root_first (at_places (places entries)) root stack now (h.pending_is ∙ sym first) pre)
