-- No instruction brings back a node that is gone.
use Rattle.std.proofs.Common.{◌≡◌, inl, inr, ℕ, suc, ◌+◌, ◌<◌, ◌≤◌, Bool, true, false, not, if◌then◌else◌, true≢false, Option, Some, None, List, [], ◌∷◌, ◌++◌, length, eqb, refl, ap, sym, subst, ◌∙◌, arith}
use Rattle.kilim_program.specs.declared.class.Field.{Field}
use Rattle.kilim_program.specs.declared.class.Method.{Method}
use Rattle.kilim_program.specs.declared.instr.Instr.{Instr}
use Rattle.kilim_program.specs.declared.instr.Instr.TheVariants.{Aload, Astore, Aaload, Aastore, Areturn, Getfield, Putfield, Invokevirtual, Invokespecial, Invokestatic, New, Newarray, Anewarray, Checkcast}
use Rattle.kilim_program.specs.declared.names.FieldId.{FieldId}
use Rattle.kilim_program.specs.declared.ty.Kind.{Kind}
use Rattle.kilim_program.specs.declared.ty.Kind.TheVariants as kind
use Rattle.kilim_program.specs.declared.ty.Ty.{Ty}
use Rattle.kilim_program.specs.declared.verified.VType.{VType}
use Rattle.kilim_program.specs.declared.verified.VType.TheVariants.{Long}
use Rattle.kilim_program.specs.Kinds.{class_kind, kind_of}
use Rattle.kilim_program.specs.Names.{field_of, method_at}
use Rattle.kilim_program.specs.Program.{Program}
use Rattle.kilim_type_spec.specs.Step.{Types, Row, Takes, Element, Shuffles, Loads, Stores, Adds, Makes, Constructs, Leaves, Is, array_ty, peek, row}
use Rattle.kilim_isolation_graph.specs.declared.graph.Graph.{Graph}
use Rattle.kilim_isolation_graph.specs.declared.node.Label.{Label}
use Rattle.kilim_isolation_graph.specs.declared.node.Label.TheVariants as label
use Rattle.kilim_isolation_graph.specs.declared.node.Node.{Node}
use Rattle.kilim_isolation_graph.specs.declared.node.Standing.{Standing}
use Rattle.kilim_isolation_graph.specs.declared.node.Standing.TheVariants.{Root, Inner, Safe, Gone}
use Rattle.kilim_isolation_graph.specs.Graphs.{node_of, popped, slot}
use Rattle.kilim_isolation_graph.specs.Nodes.{is_gone, is_root, is_safe, listed, new_region, node_at}
use Rattle.kilim_isolation_rules.specs.declared.deed.Passed.{Passed}
use Rattle.kilim_isolation_rules.specs.Calls.{after_argument, after_arguments, after_call, all_passed, arguments, calls, given_result, takes_from, call_raises}
use Rattle.kilim_isolation_rules.specs.Fields.{child_by, cut, element_kind, got, got_safe, gets_field, is_child, joined as joined_graph, known_child, puts_field, read_from, reads, stored, stores, without_child}
use Rattle.kilim_isolation_rules.specs.Marks.{given}
use Rattle.kilim_isolation_rules.specs.Rules.{by_types, deed, raised_deed}
use Rattle.kilim_isolation_rules.specs.Steps.{Argument, Cuttable, Free, cut_node, gone_node, is_left, is_part, is_that, join_node, no_parent}
use Rattle.kilim_isolation_laws.specs.forest.Steps.{pick}
use Rattle.kilim_isolation_laws.proofs.forest.Store.{both_ways, is_same}
use Rattle.kilim_isolation_laws.proofs.reached_objects.live.Nodes.{listed_at, listed_length, more_length, old_at}

abbrev pub IsGone : List Node → ℕ → Type 0
IsGone ns n = is_gone (node_at ns n).standing ≡ true

-- what hangs on another isn't gone
abbrev pub AreHeld : List Node → Type 0
AreHeld ns = (n : ℕ) (e : ℕ × Label) → (node_at ns n).parent ≡ Some e → is_gone (node_at ns n).standing ≡ false

-- no node that is gone comes back
pub record Stays (ns ms : List Node) : Type 0 where
  pub longer : length ns ≤ length ms
  pub gone : (n : ℕ) → n < length ns → IsGone ns n → IsGone ms n

pub same : (ns : List Node) → Stays ns ns
same ns = record { longer = omega arith; gone = λ n lt e. e }

pub chained : (xs ys zs : List Node) → Stays xs ys → Stays ys zs → Stays xs zs
chained xs ys zs s t =
    let one = s.longer in
    let two = t.longer in
    record { longer = omega (arith, one, two); gone = λ n lt e. t.gone n (omega (arith, one, lt)) (s.gone n lt e) }

more : (ns : List Node) (node : Node) → Stays ns (ns ++ node ∷ [])
more ns node =
    let longer = more_length ns node in
    record { longer = omega (arith, longer); gone = λ n lt e. ap (λ (z : Node). is_gone z.standing) (old_at ns node n lt) ∙ e }

relisted : (ns : List Node) (f : ℕ → Node) → ((n : ℕ) → IsGone ns n → is_gone (f n).standing ≡ true) → Stays ns (listed f (length ns))
relisted ns f each =
    let long = listed_length f (length ns) in
    record { longer = omega (arith, long); gone = λ n lt e. ap (λ (z : Node). is_gone z.standing) (listed_at f (length ns) n lt) ∙ each n e }

-- ---- steps on nodes

gone_either : (b : Bool) (x : Node) → is_gone x.standing ≡ true → is_gone (pick {A = Node} b (record x { standing = Gone }) x).standing ≡ true
gone_either true x e = refl
gone_either false x e = e

AreChildrenThere : (ℕ → Node) → Option ℕ → Type 0
AreChildrenThere node child = (c : ℕ) → child ≡ Some c → is_gone (node c).standing ≡ false

is_other : (node : ℕ → Node) (child : Option ℕ) (n : ℕ) → AreChildrenThere node child → is_gone (node n).standing ≡ true → is_that child n ≡ false
unfolding AreChildrenThere
is_other node None n there gone = refl
is_other node (Some c) n there gone = elim (both_ways (eqb n c)) [
  | inl it ↦ absurd (true≢false (sym gone ∙ (ap (λ k. is_gone (node k).standing) (is_same n c it) ∙ there c refl)))
  | inr other ↦ other
]

cut_gone : (node : ℕ → Node) (most a : ℕ) (child : Option ℕ) (region n : ℕ) → is_gone (node n).standing ≡ true → is_that child n ≡ false → is_gone (cut_node node most a child region n).standing ≡ true
cut_gone node most a child region n gone other = by (is_part node most child n) (is_left node most a n)
  where
    kept : (b : Bool) → b ≡ false → is_gone (if b then Root else (node n).standing) ≡ true
    kept true e = absurd (true≢false e)
    kept false e = gone

    left : (b : Bool) → is_gone (if b then (node n).standing else Gone) ≡ true
    left true = gone
    left false = refl

    by : (part l : Bool) → is_gone (pick {A = Node} part
        (record { region = region; standing = (if is_that child n then Root else (node n).standing); head = is_that child n; parent = no_parent a (node n).parent })
        (record { region = (node n).region; standing = (if l then (node n).standing else Gone); head = (node n).head; parent = no_parent a (node n).parent })).standing ≡ true
    by true l = kept (is_that child n) other
    by false l = left l

join_gone : (node : ℕ → Node) (a b : ℕ) (l : Label) (n : ℕ) → is_gone (node n).standing ≡ true → eqb n b ≡ false → is_gone (join_node node a b l n).standing ≡ true
join_gone node a b l n gone other = by (eqb (node n).region (node b).region)
  where
    kept : (t : Bool) → t ≡ false → is_gone (if t then Inner else (node n).standing) ≡ true
    kept true e = absurd (true≢false e)
    kept false e = gone

    by : (t : Bool) → is_gone (pick {A = Node} t (record { region = (node a).region; standing = (if eqb n b then Inner else (node n).standing); head = false; parent = (if eqb n b then Some (a, l) else (node n).parent) }) (node n)).standing ≡ true
    by true = kept (eqb n b) other
    by false = gone

-- ---- known children

child_hangs : (parent : Option (ℕ × Label)) (a : ℕ) (field : FieldId) → is_child parent a field ≡ true → (e : ℕ × Label) × (parent ≡ Some e)
child_hangs None a field is = absurd (true≢false (sym is))
child_hangs (Some e) a field is = (e, refl)

known_hangs : (ns : List Node) (first a : ℕ) (field : FieldId) (c : ℕ) → known_child ns first a field ≡ Some c → (j : ℕ) × (first + j ≡ c) × (e : ℕ × Label) × ((node_at ns j).parent ≡ Some e)
known_hangs [] first a field c is = absurd (cc)
known_hangs (node ∷ ns) first a field c is = by (is_child node.parent a field) refl is (λ w. known_hangs ns (suc first) a field c w)
  where
    the : Some first ≡ Some c → first ≡ c
    the w = cc

    by : (b : Bool) → is_child node.parent a field ≡ b → pick b (Some first) (known_child ns (suc first) a field) ≡ Some c →
        (known_child ns (suc first) a field ≡ Some c → (j : ℕ) × (suc first + j ≡ c) × (e : ℕ × Label) × ((node_at ns j).parent ≡ Some e)) →
        (j : ℕ) × (first + j ≡ c) × (e : ℕ × Label) × ((node_at (node ∷ ns) j).parent ≡ Some e)
    by true child w again = let same = the w in let e = child_hangs node.parent a field child in (0, omega (arith, same), e.0, e.1)
    by false child w again =
        let later = again w in
        let sum = later.1 in
        (suc later.0, omega (arith, sum), later.2, later.3)

child_lives : (g : Graph) (l : Label) (a : ℕ) → AreHeld g.nodes → AreChildrenThere (node_at g.nodes) (child_by g l a)
unfolding AreChildrenThere
child_lives g label.Element a held c is = absurd (cc)
child_lives g (label.Field field) a held c is =
    let w = known_hangs g.nodes 0 a field c is in
    let sum = w.1 in
    let same : w.0 ≡ c = omega (arith, sum) in
    subst (λ k. is_gone (node_at g.nodes k).standing ≡ false) same (held w.0 w.2 w.3)

-- ---- graphs

childless : (g : Graph) (l : Label) (a : ℕ) → AreHeld g.nodes → Stays g.nodes (without_child g l a).nodes
childless g l a held = relisted g.nodes (cut g l a) (λ n gone. cut_gone (node_at g.nodes) (length g.nodes) a (child_by g l a) (new_region g.nodes) n gone (is_other (node_at g.nodes) (child_by g l a) n (child_lives g l a held) gone))

not_root : (s : Standing) → is_root s ≡ true → is_gone s ≡ true → ⊥
not_root Root r e = true≢false (sym e)
not_root Inner r e = true≢false (sym r)
not_root Safe r e = true≢false (sym r)
not_root Gone r e = true≢false (sym r)

joined : (g : Graph) (l : Label) (a b : ℕ) → AreHeld g.nodes → is_root (node_of g b).standing ≡ true → Stays g.nodes (joined_graph (without_child g l a) l a b).nodes
joined g l a b held root =
    let cutting = childless g l a held in
    let one = cutting.longer in
    let long = listed_length (join_node (node_at (without_child g l a).nodes) a b l) (length (without_child g l a).nodes) in
    record {
      longer = omega (arith, one, long);
      gone = λ n lt e.
          ap (λ (z : Node). is_gone z.standing) (listed_at (join_node (node_at (without_child g l a).nodes) a b l) (length (without_child g l a).nodes) n (omega (arith, one, lt)))
          ∙ join_gone (node_at (without_child g l a).nodes) a b l n (cutting.gone n lt e) (other n e);
    }
  where
    other : (n : ℕ) → IsGone g.nodes n → eqb n b ≡ false
    other n e = elim (both_ways (eqb n b)) [
      | inl it ↦ absurd (not_root (node_of g b).standing root (ap (λ k. is_gone (node_of g k).standing) (sym (is_same n b it)) ∙ e))
      | inr no_root ↦ no_root
    ]

pub given_stays : (k : Kind) (g : Graph) → Stays g.nodes (given k g).nodes
given_stays kind.Tree g = more g.nodes _
given_stays kind.Value g = same g.nodes
given_stays kind.Private g = same g.nodes

pub result_stays : (p : Program) (result : Option Ty) (g : Graph) → Stays g.nodes (given_result p result g).nodes
result_stays p None g = same g.nodes
result_stays p (Some ty) g = given_stays (kind_of p ty) g

got_stays : (g : Graph) (l : Label) (a : ℕ) (child : Option ℕ) → Stays g.nodes (got g l a child).nodes
got_stays g l a None = more g.nodes _
got_stays g l a (Some c) = same g.nodes

read_stays : (g : Graph) (l : Label) (x : Option ℕ) → Stays g.nodes (read_from g l x).nodes
read_stays g l None = same g.nodes
read_stays g l (Some a) = by (is_safe (node_of g a).standing)
  where
    by : (b : Bool) → Stays g.nodes (if b then got_safe g a else got g l a (child_by g l a)).nodes
    by true = more g.nodes _
    by false = got_stays g l a (child_by g l a)

reads_stay : (k : Kind) (takes : ℕ) (l : Label) (x : Option ℕ) (g : Graph) → Stays g.nodes (reads k takes l x g).nodes
reads_stay kind.Tree takes l x g = read_stays (popped takes g) l x
reads_stay kind.Value takes l x g = same g.nodes
reads_stay kind.Private takes l x g = same g.nodes

not_false : (b : Bool) → not b ≡ false → b ≡ true
not_false true e = refl
not_false false e = absurd (true≢false e)

stored_stays : (g : Graph) (l : Label) (x y : Option ℕ) → AreHeld g.nodes → (stored g l x y).not_free ≡ false → Stays g.nodes (stored g l x y).graph.nodes
stored_stays g l None y held free = same g.nodes
stored_stays g l (Some a) None held free = childless g l a held
stored_stays g l (Some a) (Some b) held free = joined g l a b held (not_false (is_root (node_of g b).standing) free)

stores_stay : (p : Program) (k : Kind) (t : VType) (l : Label) (x y : Option ℕ) (g : Graph) → AreHeld g.nodes → (stores p k t l x y g).not_free ≡ false → Stays g.nodes (stores p k t l x y g).graph.nodes
stores_stay p kind.Value t l x y g held free = same g.nodes
stores_stay p kind.Tree t l x y g held free = stored_stays g l x y held free
stores_stay p kind.Private t l x y g held free = same g.nodes

argument_stays : (x : Argument) (g : Graph) → Stays g.nodes (after_argument x g).nodes
argument_stays (Free n) g = relisted g.nodes (gone_node (node_at g.nodes) n) (λ k gone. gone_either (eqb (node_at g.nodes k).region (node_at g.nodes n).region) (node_at g.nodes k) gone)
argument_stays (Cuttable n) g = relisted g.nodes (cut_node (node_at g.nodes) (length g.nodes) n None 0) (λ k gone. cut_gone (node_at g.nodes) (length g.nodes) n None 0 k gone refl)

arguments_stay : (xs : List Argument) (g : Graph) → Stays g.nodes (after_arguments xs g).nodes
arguments_stay [] g = same g.nodes
arguments_stay (x ∷ xs) g = chained g.nodes (after_argument x g).nodes (after_arguments xs (after_argument x g)).nodes (argument_stays x g) (arguments_stay xs (after_argument x g))

pub call_stays : (p : Program) (args : List Passed) (g : Graph) → Stays g.nodes (after_call p args g).nodes
call_stays p args g = arguments_stay (arguments p args) g

calls_stay : (p : Program) (g : Graph) (ts : List VType) (o : Option Method) → Stays g.nodes (calls p g ts o).graph.nodes
calls_stay p g ts None = same g.nodes
calls_stay p g ts (Some callee) =
    let after = after_call p (all_passed callee g ts) g in
    chained g.nodes after.nodes (given_result p callee.result (popped (takes_from callee) after)).nodes (call_stays p (all_passed callee g ts) g) (result_stays p callee.result (popped (takes_from callee) after))

-- ---- instructions

typed_nodes : (g : Graph) (f : Types) (r : Row) → (by_types g f r).nodes ≡ g.nodes
typed_nodes g f (Takes takes gives also) = refl
typed_nodes g f Element = refl
typed_nodes g f (Shuffles form) = refl
typed_nodes g f (Loads o k) = refl
typed_nodes g f (Stores (Is Long) k) = refl
typed_nodes g f (Stores o k) = refl
typed_nodes g f (Adds k) = refl
typed_nodes g f (Makes may) = refl
typed_nodes g f (Constructs takes gives class before after) = refl
typed_nodes g f (Leaves takes also) = refl

by_types_stays : (g : Graph) (f : Types) (r : Row) → Stays g.nodes (by_types g f r).nodes
by_types_stays g f r = subst (λ ns. Stays g.nodes ns) (sym (typed_nodes g f r)) (same g.nodes)

field_stays : (p : Program) (g : Graph) (id : FieldId) (o : Option Field) → Stays g.nodes (gets_field p g id o).graph.nodes
field_stays p g id None = same g.nodes
field_stays p g id (Some field) = reads_stay (kind_of p field.ty) 1 (label.Field id) (slot g.stack 0) g

put_stays : (p : Program) (g : Graph) (ts : List VType) (id : FieldId) (o : Option Field) → AreHeld g.nodes → (puts_field p g ts id o).not_free ≡ false → Stays g.nodes (puts_field p g ts id o).graph.nodes
put_stays p g ts id None held free = same g.nodes
put_stays p g ts id (Some field) held free = stores_stay p (kind_of p field.ty) (peek ts 0) (label.Field id) (slot g.stack 1) (slot g.stack 0) (popped 2 g) held free

pub deed_stays : (p : Program) (m : Method) (g : Graph) (f : Types) (i : Instr) → AreHeld g.nodes → (deed p m g f i).not_free ≡ false → Stays g.nodes (deed p m g f i).graph.nodes
unfolding deed
deed_stays p m g f (Aload k) held free = same g.nodes
deed_stays p m g f (Astore k) held free = same g.nodes
deed_stays p m g f (New c) held free = given_stays (class_kind p c) g
deed_stays p m g f (Newarray element) held free = given_stays kind.Tree (popped 1 g)
deed_stays p m g f (Anewarray ty) held free = given_stays (kind_of p (array_ty ty)) (popped 1 g)
deed_stays p m g f (Getfield field) held free = field_stays p g field (field_of p field)
deed_stays p m g f (Putfield field) held free = put_stays p g f.stack field (field_of p field) held free
deed_stays p m g f Aaload held free = reads_stay (element_kind p (peek f.stack 1)) 2 label.Element (slot g.stack 1) g
deed_stays p m g f Aastore held free = stores_stay p (element_kind p (peek f.stack 2)) (peek f.stack 0) label.Element (slot g.stack 2) (slot g.stack 0) (popped 3 g) held free
deed_stays p m g f (Invokevirtual id) held free = calls_stay p g f.stack (method_at p id)
deed_stays p m g f (Invokespecial id) held free = calls_stay p g f.stack (method_at p id)
deed_stays p m g f (Invokestatic id) held free = calls_stay p g f.stack (method_at p id)
deed_stays p m g f Areturn held free = same g.nodes
deed_stays p m g f (Checkcast ty) held free = same g.nodes
deed_stays p m g f i held free = by_types_stays g f (row p m i)

-- ---- where an instruction raises

call_raises_stays : (p : Program) (g : Graph) (ts : List VType) (o : Option Method) → Stays g.nodes (call_raises p g ts o).graph.nodes
call_raises_stays p g ts None = same g.nodes
call_raises_stays p g ts (Some callee) = call_stays p (all_passed callee g ts) g

pub raised_stays : (p : Program) (g : Graph) (f : Types) (i : Instr) → Stays g.nodes (raised_deed p g f i).graph.nodes
unfolding raised_deed
raised_stays p g f (Invokevirtual id) = call_raises_stays p g f.stack (method_at p id)
raised_stays p g f (Invokespecial id) = call_raises_stays p g f.stack (method_at p id)
raised_stays p g f (Invokestatic id) = call_raises_stays p g f.stack (method_at p id)
raised_stays p g f i = same g.nodes
