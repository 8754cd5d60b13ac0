-- Objects come to stand at places.
use Rattle.std.proofs.Common.{◌≡◌, ℕ, zero, suc, ◌+◌, ◌<◌, inl, inr, List, [], ◌∷◌, ◌++◌, None, length, refl, sym, ap, subst, ◌∙◌, arith, length-append, append_assoc, get_or, map}
use Rattle.std.specs.List.{AllByRecursion}
use Rattle.std.specs.Prelude.{IsSome}
use Rattle.std.specs.FinMap.{get, insert}
use Rattle.kilim_program.specs.declared.names.FieldId.{FieldId}
use Rattle.kilim_run_state.specs.declared.value.Object.{Object}
use Rattle.kilim_program.specs.declared.value.Value.{Value}
use Rattle.kilim_program.specs.declared.value.Value.TheVariants.{Int, Long, Null, Ref, Text, Box, Fiber}
use Rattle.kilim_run_state.specs.Machine.{Objects}
use Rattle.kilim_run_state.specs.Places.{AllDiffer}
use Rattle.kilim_run_state.specs.Words.{IsThere}
use Rattle.kilim_run_trees.specs.Walk.{value_refs, field_refs, element_refs, refs, renamed_value, renamed_fields, renamed_elements, renamed, Leads, AreIn, IsTree, IsPreorder, places, objects, numbered}
use Rattle.kilim_run_trees.specs.Moved.{PutIn, at_places, renamed_all}
use Rattle.kilim_run_trees.specs.Steps.{Blanked, CanFill, Filled}
use Rattle.kilim_run_trees.proofs.Maps.{got-there, got-other}
use Rattle.kilim_run_trees.proofs.Numbering.{append_nothing, get_middle}
use Rattle.kilim_run_trees.proofs.Renumbering.{map_join}
use Rattle.kilim_run_trees.proofs.Blanks.{nat_dec}
use Rattle.kilim_run_trees.proofs.Shaped.{closed, tree_shape}

-- the objects that are still to come, and those that stand
pub record Filling (heap : Objects) (ns : List ℕ) (os : List Object) (now : Objects) (left : List Object) : Type 0 where
  pub to_come : List ℕ
  pub back : List (ℕ × Object)
  pub done : List Object
  pub all_places : ns ≡ to_come ++ places back
  pub all_objects : os ≡ left ++ done
  pub as_many : length left ≡ length to_come
  pub same : renamed_all (at_places ns) done ≡ objects back
  pub are_in : AreIn now back
  pub there : AllByRecursion (IsThere now) ns
  pub others : (n : ℕ) → AllByRecursion (λ m. n ≡ m → ⊥) ns → get now n ≡ get heap n

pub fill_none : (heap : Objects) (ns : List ℕ) (os : List Object) → CanFill heap ns os → Filling heap ns os heap os
fill_none heap ns os c = record {
  to_come = ns;
  back = [];
  done = [];
  all_places = sym (append_nothing ns);
  all_objects = sym (append_nothing os);
  as_many = c.as_many;
  same = refl;
  are_in = tt;
  there = c.there;
  others = λ n a. refl;
}

last_place : (xs : List ℕ) (n : ℕ) → length xs ≡ suc n → (ys : List ℕ) × (y : ℕ) × (xs ≡ ys ++ y ∷ []) × (length ys ≡ n)
last_place [] n e = absurd (omega arith)
last_place (x ∷ []) n e = ([], x, refl, omega arith)
last_place (x ∷ y ∷ ys) zero e = absurd (omega arith)
last_place (x ∷ y ∷ ys) (suc n) e = let l : length (y ∷ ys) ≡ suc n = omega arith in let r = last_place (y ∷ ys) n l in (x ∷ r.0, r.1, ap (λ zs. x ∷ zs) r.2, ap suc r.3)

differ_after : (xs : List ℕ) (y : ℕ) (ys : List ℕ) → AllDiffer (xs ++ y ∷ ys) → AllByRecursion (λ z. y ≡ z → ⊥) ys
differ_after [] y ys d = d.0
differ_after (x ∷ xs) y ys d = differ_after xs y ys d.1

all_back : (P : ℕ → Type 0) (xs ys : List ℕ) → AllByRecursion P (xs ++ ys) → AllByRecursion P ys
all_back P [] ys a = a
all_back P (x ∷ xs) ys a = all_back P xs ys a.1

-- what stands at other places stands there still
still_in : (now : Objects) (n : ℕ) (o : Object) (es : List (ℕ × Object)) → AllByRecursion (λ z. n ≡ z → ⊥) (places es) → AreIn now es → AreIn (insert now n o) es
still_in now n o [] d a = tt
still_in now n o (e ∷ es) d a = (got-other now n o e.0 (λ q. d.0 (sym q)) ∙ a.0, still_in now n o es d.1 a.1)

still_there : (now : Objects) (n : ℕ) (o : Object) (m : ℕ) → IsThere now m → IsThere (insert now n o) m
still_there now n o m h = elim (nat_dec m n) [
  | inl e ↦ subst (λ m. IsThere (insert now n o) m) (sym e) (subst (λ x. IsSome x) (sym (got-there now n o)) refl)
  | inr ne ↦ subst (λ x. IsSome x) (sym (got-other now n o m ne)) h
]

all_still : (now : Objects) (n : ℕ) (o : Object) (ns : List ℕ) → AllByRecursion (IsThere now) ns → AllByRecursion (IsThere (insert now n o)) ns
all_still now n o [] a = tt
all_still now n o (m ∷ ns) a = (still_there now n o m a.0, all_still now n o ns a.1)

-- the next object
pub record FillNext (heap : Objects) (ns : List ℕ) (os : List Object) (now : Objects) (left : List Object) (o : Object) : Type 0 where
  pub place : ℕ
  pub there : (d : ℕ) → get_or ns (length left) d ≡ place
  pub within : length left < length ns
  pub is_there : IsThere now place
  pub after : Filling heap ns os (insert now place (renamed (at_places ns) o)) left

pub fill_next : (heap : Objects) (ns : List ℕ) (os : List Object) (now : Objects) (left before : List Object) (o : Object) → AllDiffer ns → Filling heap ns os now before → before ≡ left ++ o ∷ [] → FillNext heap ns os now left o
fill_next heap ns os now left before o once f e =
    let many : length f.to_come ≡ suc (length left) = omega (arith, f.as_many, ap length e, length-append left (o ∷ [])) in
    let r = last_place f.to_come (length left) many in
    let front : List ℕ = r.0 in
    let n : ℕ = r.1 in
    let ns_is : ns ≡ front ++ n ∷ places f.back = f.all_places ∙ (ap (λ xs. xs ++ places f.back) r.2 ∙ append_assoc front (n ∷ []) (places f.back)) in
    let os_is : os ≡ left ++ o ∷ f.done = f.all_objects ∙ (ap (λ xs. xs ++ f.done) e ∙ append_assoc left (o ∷ []) f.done) in
    let apart : AllByRecursion (λ z. n ≡ z → ⊥) (places f.back) = differ_after front n (places f.back) (subst AllDiffer ns_is once) in
    let there_all : AllByRecursion (IsThere now) (front ++ n ∷ places f.back) = subst (AllByRecursion (IsThere now)) ns_is f.there in
    let new : Object = renamed (at_places ns) o in
    record {
      place = n;
      there = λ d. ap (λ xs. get_or xs (length left) d) ns_is ∙ (ap (λ k. get_or (front ++ n ∷ places f.back) k d) (sym r.3) ∙ get_middle front n (places f.back) d);
      within = omega (arith, ap length ns_is, length-append front (n ∷ places f.back), r.3);
      is_there = (all_back (IsThere now) front (n ∷ places f.back) there_all).0;
      after = record {
        to_come = front;
        back = (n, new) ∷ f.back;
        done = o ∷ f.done;
        all_places = ns_is;
        all_objects = os_is;
        as_many = sym r.3;
        same = λ i. new ∷ f.same i;
        are_in = (got-there now n new, still_in now n new f.back apart f.are_in);
        there = all_still now n new ns f.there;
        others = λ m a. got-other now n new m (all_back (λ z. m ≡ z → ⊥) front (n ∷ places f.back) (subst (AllByRecursion (λ z. m ≡ z → ⊥)) ns_is a)).0 ∙ f.others m a;
      };
    }

no_places_left : (xs : List ℕ) → length xs ≡ 0 → xs ≡ []
no_places_left [] e = refl
no_places_left (x ∷ xs) e = absurd (omega arith)

-- in the words of the calls
pub filled_more : (heap : Objects) (ns : List ℕ) (os : List Object) (now after : Objects) (left before : List Object) (o new : Object) (at d : ℕ) → AllDiffer ns → Filling heap ns os now before → before ≡ left ++ o ∷ [] → renamed (at_places ns) o ≡ new → at ≡ get_or ns (length left) d → after ≡ insert now at new → Filling heap ns os after left
filled_more heap ns os now after left before o new at d once f e r p a =
    let h = fill_next heap ns os now left before o once f e in
    let place_is : h.place ≡ at = sym (p ∙ h.there d) in
    let after_is : insert now h.place (renamed (at_places ns) o) ≡ after = ap (λ n. insert now n (renamed (at_places ns) o)) place_is ∙ (ap (insert now at) r ∙ sym a) in
    subst (λ now. Filling heap ns os now left) after_is h.after

all_of_front : (P : Object → Type 0) (xs ys : List Object) → AllByRecursion P (xs ++ ys) → AllByRecursion P xs
all_of_front P [] ys a = tt
all_of_front P (x ∷ xs) ys a = (a.0, all_of_front P xs ys a.1)

last_of_all : (P : Object → Type 0) (xs : List Object) (y : Object) → AllByRecursion P (xs ++ y ∷ []) → P y
last_of_all P [] y a = a.0
last_of_all P (x ∷ xs) y a = last_of_all P xs y a.1

-- its references are places in the list
pub refs_within : (heap : Objects) (ns : List ℕ) (os : List Object) (now : Objects) (left before : List Object) (o : Object) → CanFill heap ns os → Filling heap ns os now before → before ≡ left ++ o ∷ [] → AllByRecursion (λ n. n < length ns) (refs o)
refs_within heap ns os now left before o c f e =
    let P : Object → Type 0 = λ o. AllByRecursion (λ n. n < length ns) (refs o) in
    last_of_all P left o (subst (AllByRecursion P) e (all_of_front P before f.done (subst (AllByRecursion P) f.all_objects c.within)))

pub all_filled : (heap : Objects) (ns : List ℕ) (os : List Object) (now : Objects) (left : List Object) → Filling heap ns os now left → length left ≡ 0 → Filled heap ns os now
all_filled heap ns os now [] f e = let none : f.to_come ≡ [] = no_places_left f.to_come (sym f.as_many) in record {
  entries = f.back;
  at = sym (f.all_places ∙ ap (λ xs. xs ++ places f.back) none);
  same = ap (renamed_all (at_places ns)) f.all_objects ∙ f.same;
  are_in = f.are_in;
  others = f.others;
}
all_filled heap ns os now (o ∷ left) f e = absurd (omega arith)

-- ---- the whole call

refs_value : (f : ℕ → ℕ) (v : Value) → value_refs (renamed_value f v) ≡ map f (value_refs v)
refs_value f (Int n) = refl
refs_value f (Long n) = refl
refs_value f Null = refl
refs_value f (Ref n) = refl
refs_value f (Text units) = refl
refs_value f (Box box) = refl
refs_value f Fiber = refl

refs_elements : (f : ℕ → ℕ) (vs : List Value) → element_refs (renamed_elements f vs) ≡ map f (element_refs vs)
refs_elements f [] = refl
refs_elements f (v ∷ vs) = (λ i. refs_value f v i ++ refs_elements f vs i) ∙ sym (map_join f (value_refs v) (element_refs vs))

refs_fields : (f : ℕ → ℕ) (es : List (FieldId × Value)) → field_refs (renamed_fields f es) ≡ map f (field_refs es)
refs_fields f [] = refl
refs_fields f (e ∷ es) = (λ i. refs_value f e.1 i ++ refs_fields f es i) ∙ sym (map_join f (value_refs e.1) (field_refs es))

pub refs_renamed : (f : ℕ → ℕ) (o : Object) → refs (renamed f o) ≡ map f (refs o)
refs_renamed f o = (λ i. refs_fields f o.fields i ++ refs_elements f o.elements i) ∙ sym (map_join f (field_refs o.fields) (element_refs o.elements))

two_lists : (x y : Object) (xs ys : List Object) → x ∷ xs ≡ y ∷ ys → (x ≡ y) × (xs ≡ ys)
two_lists x y xs ys e = (cc, cc)

plus_none : (k : ℕ) → k + 0 ≡ k
plus_none k = omega arith

plus_next : (k j : ℕ) → suc k + j ≡ k + suc j
plus_next k j = omega arith

-- under other names a walk is a walk
pub leads_renamed : (f : ℕ → ℕ) (os : List Object) (es : List (ℕ × Object)) (from : List ℕ) (k : ℕ) → renamed_all f os ≡ objects es → ((j : ℕ) → j < length es → f (k + j) ≡ at_places (places es) j) → Leads from (numbered k os) [] → Leads (map f from) es []
leads_renamed f [] [] from k e names h = ap (map f) h
leads_renamed f [] (x ∷ es) from k e names h = absurd (cc)
leads_renamed f (o ∷ os) [] from k e names h = absurd (cc)
leads_renamed f (o ∷ os) (x ∷ es) [] k e names h = absurd h
leads_renamed f (o ∷ os) (x ∷ es) (n ∷ ns) k e names h =
    let parts = two_lists (renamed f o) x.1 (renamed_all f os) (objects es) e in
    let zero_in : 0 < length (x ∷ es) = omega arith in
    let here : f n ≡ x.0 = ap f (h.0 ∙ sym (plus_none k)) ∙ names 0 zero_in in
    let after : map f (refs o ++ ns) ≡ refs x.1 ++ map f ns = map_join f (refs o) ns ∙ ap (λ xs. xs ++ map f ns) (sym (refs_renamed f o) ∙ ap refs parts.0) in
    (here, subst (λ from. Leads from es []) after (leads_renamed f os es (refs o ++ ns) (suc k) parts.1 (λ j lt. let lt' : suc j < length (x ∷ es) = omega arith in ap f (plus_next k j) ∙ names (suc j) lt') h.1))

zero_plus : (j : ℕ) → 0 + j ≡ j
zero_plus j = omega arith

pub can_fill : (heap now : Objects) (ns : List ℕ) (os : List Object) → IsPreorder os → Blanked heap now ns → length ns ≡ length os → CanFill now ns os
can_fill heap now ns os pre b e =
    let zero_is : length os ≡ 0 + length os = sym (zero_plus (length os)) in
    let c = closed os (0 ∷ []) 0 (length os) zero_is pre in
    record { as_many = sym e; there = b.there; once = b.once; within = subst (λ limit. AllByRecursion (λ o. AllByRecursion (λ n. n < limit) (refs o)) os) (sym e) c.1 }

pub has_place : (os : List Object) (ns : List ℕ) → IsPreorder os → length ns ≡ length os → 0 < length ns
has_place [] ns pre e = absurd (let bad : 0 ∷ [] ≡ [] = pre in cc)
has_place (o ∷ os) ns pre e = omega arith

first_of : (ns : List ℕ) (root : ℕ) → 0 < length ns → root ≡ get_or ns 0 root → at_places ns 0 ≡ root
first_of [] root lt e = absurd (omega arith)
first_of (n ∷ ns) root lt e = sym e

pub put_in : (heap blanked after : Objects) (ns : List ℕ) (os : List Object) (root : ℕ) → IsPreorder os → Blanked heap blanked ns → length ns ≡ length os → Filled blanked ns os after → root ≡ get_or ns 0 root → PutIn heap os after root
put_in heap blanked after ns os root pre b e f r =
    let names : (j : ℕ) → j < length f.entries → at_places ns (0 + j) ≡ at_places (places f.entries) j = λ j lt. ap (at_places ns) (zero_plus j) ∙ ap (λ ns. at_places ns j) (sym f.at) in
    let walk : Leads (at_places ns 0 ∷ []) f.entries [] = leads_renamed (at_places ns) os f.entries (0 ∷ []) 0 f.same names pre in
    let tree : IsTree after root f.entries = record { leads = subst (λ n. Leads (n ∷ []) f.entries []) (first_of ns root (has_place os ns pre e) r) walk; are_in = f.are_in } in
    let same : renamed_all (at_places (places f.entries)) os ≡ objects f.entries = ap (λ ns. renamed_all (at_places ns) os) f.at ∙ f.same in
    record {
      entries = f.entries;
      now = tree;
      free = subst (AllByRecursion (λ n. get heap n ≡ None)) (sym f.at) b.free;
      once = subst AllDiffer (sym f.at) b.once;
      others = λ n a. let a' : AllByRecursion (λ m. n ≡ m → ⊥) ns = subst (AllByRecursion (λ m. n ≡ m → ⊥)) f.at a in f.others n a' ∙ b.others n a';
      same = same;
      shape = λ p. sym (tree_shape after root os f.entries pre tree same p);
    }
