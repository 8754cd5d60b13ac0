-- The methods of a file, one more.
use Rattle.std.proofs.Common.{◌≡◌, ℕ, ◌+◌, arith, Bool, List, [], ◌∷◌, ◌++◌, length, slice_get, map, Option, Some, None, refl, sym, ap, ◌∙◌}
use Rattle.std.specs.List.{flat_map}
use Rattle.std.proofs.lemmas.Option.{none-some, same_Some}
use Rattle.kilim_program.specs.declared.class.Method.{Method}
use Rattle.kilim_program.specs.Program.{Program}
use Rattle.kilim_class_file.specs.declared.class_file.ClassFile.{ClassFile}
use Rattle.kilim_class_pool.specs.declared.entry.Entry.{Entry}
use Rattle.kilim_class_making.specs.declared.pool_needs.need.Need.{Need}
use Rattle.kilim_class_making.specs.pool_needs.Adding.{with_needs}
use Rattle.kilim_class_file.specs.declared.class_file.MemberInfo.{MemberInfo}
use Rattle.kilim_weave_file_spec.specs.WovenFile.{MethodPair, member_needs, pairs_of, woven_file, woven_member, woven_pool}

abbrev one : MemberInfo → Method → Method → List Bool → List MethodPair
one i p m c = record { info = i; plain = p; method = m; counted = c } ∷ []

here : (i : MemberInfo) (p q m n : Method) (c d : List Bool) → p ≡ q → m ≡ n → c ≡ d → one i p m c ≡ one i q n d
here i p q m n c d ep em ec = ap (λ x. one i x m c) ep ∙ (ap (λ x. one i q x c) em ∙ ap (λ x. one i q n x) ec)

pub pairs_more : (is : List MemberInfo) (i : MemberInfo) (ps ms : List Method) (cs : List (List Bool)) (p m : Method) (c : List Bool) →
    slice_get ps (length is) ≡ Some p → slice_get ms (length is) ≡ Some m → slice_get cs (length is) ≡ Some c →
    pairs_of (is ++ i ∷ []) ps ms cs ≡ pairs_of is ps ms cs ++ record { info = i; plain = p; method = m; counted = c } ∷ []
pairs_more [] i (q ∷ ps) (n ∷ ms) (d ∷ cs) p m c hp hm hc = here i q p n m d c (same_Some q p hp) (same_Some n m hm) (same_Some d c hc)
pairs_more [] i [] ms cs p m c hp hm hc = absurd (none-some p hp)
pairs_more [] i (q ∷ ps) [] cs p m c hp hm hc = absurd (none-some m hm)
pairs_more [] i (q ∷ ps) (n ∷ ms) [] p m c hp hm hc = absurd (none-some c hc)
pairs_more (x ∷ is) i (q ∷ ps) (n ∷ ms) (d ∷ cs) p m c hp hm hc =
    ap (λ xs. record { info = x; plain = q; method = n; counted = d } ∷ xs) (pairs_more is i ps ms cs p m c hp hm hc)
pairs_more (x ∷ is) i [] ms cs p m c hp hm hc = absurd (none-some p hp)
pairs_more (x ∷ is) i (q ∷ ps) [] cs p m c hp hm hc = absurd (none-some m hm)
pairs_more (x ∷ is) i (q ∷ ps) (n ∷ ms) [] p m c hp hm hc = absurd (none-some c hc)

map_append : {A B : Type 0} (f : A → B) (xs ys : List A) → map f (xs ++ ys) ≡ map f xs ++ map f ys
map_append f [] ys = refl
map_append f (x ∷ xs) ys = ap (λ zs. f x ∷ zs) (map_append f xs ys)

pub members_more : (w : Program) (file : ClassFile) (pool : List Entry) (is : List MemberInfo) (i : MemberInfo) (ps ms : List Method) (cs : List (List Bool)) (all : List MemberInfo) (next : MemberInfo) (at : ℕ) (p m : Method) (c : List Bool) →
    at ≡ length is → slice_get ps at ≡ Some p → slice_get ms at ≡ Some m → slice_get cs at ≡ Some c → next ≡ woven_member w file pool (record { info = i; plain = p; method = m; counted = c }) → all ≡ map (woven_member w file pool) (pairs_of is ps ms cs) →
    all ++ next ∷ [] ≡ map (woven_member w file pool) (pairs_of (is ++ i ∷ []) ps ms cs)
members_more w file pool is i ps ms cs all next at p m c here hp hm hc made so_far =
    let f = woven_member w file pool in
    ap (λ (x : MemberInfo). all ++ x ∷ []) made
    ∙ (ap (λ (xs : List MemberInfo). xs ++ f (record { info = i; plain = p; method = m; counted = c }) ∷ []) so_far
    ∙ (sym (map_append f (pairs_of is ps ms cs) (one i p m c))
    ∙ ap (λ (xs : List MethodPair). map f xs) (sym (pairs_more is i ps ms cs p m c (sym (ap (λ n. slice_get ps n) here) ∙ hp) (sym (ap (λ n. slice_get ms n) here) ∙ hm) (sym (ap (λ n. slice_get cs n) here) ∙ hc)))))

last_length : (is : List MemberInfo) (i : MemberInfo) → length (is ++ i ∷ []) ≡ length is + 1
last_length [] i = omega arith
last_length (x ∷ is) i = let e = last_length is i in omega (arith, e)

pub length_more : (is : List MemberInfo) (i : MemberInfo) (at : ℕ) → at ≡ length is → at + 1 ≡ length (is ++ i ∷ [])
length_more is i at h = ap (λ n. n + 1) h ∙ sym (last_length is i)

-- the file, by its parts
file_is : (w : Program) (file copy : ClassFile) (ps ms : List Method) (cs : List (List Bool)) (needs : List Need) (pool : List Entry) (methods : List MemberInfo) → copy ≡ file →
    needs ≡ flat_map (member_needs w file) (pairs_of file.methods ps ms cs) → pool ≡ with_needs copy.constant_pool needs → methods ≡ map (woven_member w file pool) (pairs_of copy.methods ps ms cs) →
    record copy { constant_pool = pool; methods = methods } ≡ woven_file w file (pairs_of file.methods ps ms cs)
unfolding woven_file
file_is w file copy ps ms cs needs pool methods same needed grown written =
    let p : pool ≡ woven_pool w file (pairs_of file.methods ps ms cs) = grown ∙ (ap (λ (f : ClassFile). with_needs f.constant_pool needs) same ∙ ap (with_needs file.constant_pool) needed) in
    let m : methods ≡ map (woven_member w file pool) (pairs_of file.methods ps ms cs) = written ∙ ap (λ (f : ClassFile). map (woven_member w file pool) (pairs_of f.methods ps ms cs)) same in
    ap (λ (f : ClassFile). record f { constant_pool = pool; methods = methods }) same
    ∙ (ap (λ (ms : List MemberInfo). record file { constant_pool = pool; methods = ms }) m
    ∙ ap (λ (q : List Entry). record file { constant_pool = q; methods = map (woven_member w file q) (pairs_of file.methods ps ms cs) }) p)

-- the same of what the file becomes step by step
pub woven_so : (w : Program) (file copy made : ClassFile) (ps ms : List Method) (cs : List (List Bool)) (pool : List Entry) → copy ≡ file →
    pool ≡ with_needs copy.constant_pool (flat_map (member_needs w file) (pairs_of file.methods ps ms cs)) → made ≡ record copy { constant_pool = pool; methods = map (woven_member w file pool) (pairs_of copy.methods ps ms cs) } →
    made ≡ woven_file w file (pairs_of file.methods ps ms cs)
woven_so w file copy made ps ms cs pool same grown is =
    is ∙ file_is w file copy ps ms cs (flat_map (member_needs w file) (pairs_of file.methods ps ms cs)) pool (map (woven_member w file pool) (pairs_of copy.methods ps ms cs)) same refl grown refl
