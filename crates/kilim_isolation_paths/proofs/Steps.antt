-- What one step leaves
use Rattle.std.proofs.Common.{◌≡◌, ℕ, zero, suc, ◌<◌, ◌≤◌, List, [], ◌∷◌, ◌++◌, length, Some, None, Option, Result, Ok, Err, refl, ap, sym, ◌∙◌, subst, inl, inr, arith, cond, nat_eq, true, false, append_assoc}
use Rattle.std.specs.List.{AllByRecursion}
use Rattle.std.proofs.lemmas.Bool.{ne_eqb, eq-eqb, cases_eq}
use Rattle.std.proofs.lemmas.Option.{slice_get_within}
use Rattle.std.proofs.lemmas.List.{append-nil}
use Rattle.kilim_isolation_paths.specs.declared.machine.Exit.{Exit}
use Rattle.kilim_isolation_paths.specs.Paths.{Has, AreDifferent, Machine, Reaches, IsCrowded, target}
use Rattle.kilim_isolation_paths.specs.Search.{states_at, AreLinked, IsLinked, Known, AreFew, IsFound, noted, IsDone, Good, Later, IsAt}
use Rattle.kilim_isolation_paths.specs.Stored.{Stored}
use Rattle.kilim_isolation_paths.specs.declared.store.Reached.{Reached}
use Rattle.kilim_isolation_paths.specs.declared.found.Found.{Found}
use Rattle.kilim_isolation_paths.proofs.Lists.{get_left, get_push, has_left, all_push, all_from, different_push}
use Rattle.kilim_isolation_paths.proofs.Notes.{noted_keeps, noted_all, noted_ordered}
use Rattle.kilim_isolation_paths.proofs.Reach.{reached, entry_of}

pub states_append : {S : Type 0} (q : ℕ) (es fs : List (Reached S)) → states_at q (es ++ fs) ≡ states_at q es ++ states_at q fs
states_append q [] fs = refl
states_append q (e ∷ es) fs = elim (nat_eq e.place q) as (λ b. cond b (e.state ∷ states_at q (es ++ fs)) (states_at q (es ++ fs)) ≡ cond b (e.state ∷ states_at q es) (states_at q es) ++ states_at q fs) [
  | true ↦ ap (λ ss. e.state ∷ ss) (states_append q es fs)
  | false ↦ states_append q es fs
]

pub states_left : {S : Type 0} (q : ℕ) (es fs : List (Reached S)) (t : S) → Has (states_at q es) t → Has (states_at q (es ++ fs)) t
states_left q es fs t h = subst (λ (ss : List _). Has ss t) (sym (states_append q es fs)) (has_left (states_at q es) (states_at q fs) t h)

pub states_same : {S : Type 0} (q : ℕ) (es : List (Reached S)) (x : Reached S) → x.place ≡ q → states_at q (es ++ x ∷ []) ≡ states_at q es ++ x.state ∷ []
states_same q es x e = states_append q es (x ∷ []) ∙ ap (λ b. states_at q es ++ cond b (x.state ∷ []) []) (eq-eqb x.place q e)

states_other : {S : Type 0} (q : ℕ) (es : List (Reached S)) (x : Reached S) → (x.place ≡ q → ⊥) → states_at q (es ++ x ∷ []) ≡ states_at q es
states_other q es x n = states_append q es (x ∷ []) ∙ ap (λ b. states_at q es ++ cond b (x.state ∷ []) []) (ne_eqb x.place q n) ∙ append-nil (states_at q es)

linked_left : {S : Type 0} (m : Machine S) (es fs : List (Reached S)) (k : ℕ) (e : Reached S) → IsLinked m es k e → IsLinked m (es ++ fs) k e
linked_left m es fs zero e l = l
linked_left m es fs (suc k) e l = (l.0, l.1, get_left es fs e.from l.0 l.2, l.3, l.4, l.5, l.6)

linked_new : {S : Type 0} (m : Machine S) (es fs : List (Reached S)) (n : ℕ) (f x : Reached S) (to : Exit) → x.from < n → IsAt es x.from f → target to ≡ Some x.place → Has (m.exits f.place) to → m.moves f.place f.state to ≡ Ok x.state → IsLinked m (es ++ fs) n x
linked_new m es fs zero f x to b h d i s = absurd (omega arith)
linked_new m es fs (suc n) f x to b h d i s = (f, b, get_left es fs x.from f h, to, d, i, s)

pub found_left : {S : Type 0} (m : Machine S) (es more : List (Reached S)) (fs : List Found) → AllByRecursion (IsFound m es) fs → AllByRecursion (IsFound m (es ++ more)) fs
found_left m es more [] a = tt
found_left m es more (f ∷ fs) a = ((a.0.0, a.0.1, get_left es more f.at a.0.0 a.0.2, a.0.3, a.0.4, a.0.5), found_left m es more fs a.1)

pub done_later : {S : Type 0} (es new : List (Reached S)) (fs gs : List Found) (p : ℕ) (to : Option ℕ) (r : Result S ℕ) → Later es new fs gs → IsDone es fs p to r → IsDone new gs p to r
done_later es new fs gs p None (Ok t) l d = tt
done_later es new fs gs p (Some q) (Ok t) l d = subst (λ (xs : List (Reached _)). Has (states_at q xs) t) (sym l.is) (states_left q es l.more t d)
done_later es new fs gs p None (Err rule) l d = l.noted p rule d
done_later es new fs gs p (Some q) (Err rule) l d = l.noted p rule d

pub same_later : {S : Type 0} (es : List (Reached S)) (fs : List Found) → Later es es fs fs
same_later es fs = record { more = []; is = sym (append-nil es); noted = λ pc rule h. h }

pub then_later : {S : Type 0} (a b c : List (Reached S)) (fs gs hs : List Found) → Later a b fs gs → Later b c gs hs → Later a c fs hs
then_later a b c fs gs hs l n = record {
  more = l.more ++ n.more;
  is = n.is ∙ ap (λ xs. xs ++ n.more) l.is ∙ append_assoc a l.more n.more;
  noted = λ pc rule h. n.noted pc rule (l.noted pc rule h);
}

-- a fault is noted
pub good_noted : {S : Type 0} (m : Machine S) (fits : ℕ → S → Type 0) (s : Stored S) (fs : List Found) (f : Found) → Good m fits s fs → IsFound m s.entries f → Good m fits s (noted fs f)
good_noted m fits s fs f g i = record {
  known = g.known;
  few = g.few;
  size = g.size;
  found = noted_all (IsFound m s.entries) fs f g.found i;
  ordered = noted_ordered fs f g.ordered;
}

pub noted_later : {S : Type 0} (es : List (Reached S)) (fs : List Found) (f : Found) → Later es es fs (noted fs f)
noted_later es fs f = record { more = []; is = sym (append-nil es); noted = λ pc rule h. noted_keeps fs f pc rule h }

-- a new state is pushed
pub known_pushed : {S : Type 0} (m : Machine S) (fits : ℕ → S → Type 0) (es : List (Reached S)) (f x : Reached S) (to : Exit) → Known m fits es → IsAt es x.from f → target to ≡ Some x.place → Has (m.exits f.place) to → m.moves f.place f.state to ≡ Ok x.state → x.place < m.size → fits x.place x.state → (Has (states_at x.place es) x.state → ⊥) → Known m fits (es ++ x ∷ [])
known_pushed m fits es f x to k at leads exit step small fit fresh = record {
  linked = λ j e h. elim (get_push es x j e h) [
    | inl a ↦ linked_left m es (x ∷ []) j e (k.linked j e a)
    | inr b ↦ (let w = slice_get_within es x.from f at in subst (λ (y : Reached _). IsLinked m (es ++ x ∷ []) j y) b.1 (linked_new m es (x ∷ []) j f x to (omega arith) at leads exit step))
  ];
  different = λ q. elim (cases_eq x.place q) [
    | inl s ↦ subst (λ (ss : List _). AreDifferent ss) (sym (states_same q es x s)) (different_push (states_at q es) x.state (k.different q) (subst (λ (z : ℕ). Has (states_at z es) x.state → ⊥) s fresh))
    | inr n ↦ subst (λ (ss : List _). AreDifferent ss) (sym (states_other q es x n)) (k.different q)
  ];
  within = all_push (λ e. e.place < m.size) es x k.within small;
  fit = all_push (λ e. fits e.place e.state) es x k.fit fit;
  start = states_left 0 es (x ∷ []) m.entry k.start;
}

few_pushed : {S : Type 0} (es : List (Reached S)) (x : Reached S) → AreFew es → length (states_at x.place (es ++ x ∷ [])) ≤ 256 → AreFew (es ++ x ∷ [])
few_pushed es x f n q = elim (cases_eq x.place q) [
  | inl s ↦ subst (λ (z : ℕ). length (states_at z (es ++ x ∷ [])) ≤ 256) s n
  | inr d ↦ (let e = ap length (states_other q es x d) in let h = f q in omega arith)
]

pub good_pushed : {S : Type 0} (m : Machine S) (fits : ℕ → S → Type 0) (s t : Stored S) (fs : List Found) (x : Reached S) → Good m fits s fs → Known m fits (s.entries ++ x ∷ []) → t ≡ record s { entries = s.entries ++ x ∷ [] } → length (states_at x.place t.entries) ≤ 256 → Good m fits t fs
good_pushed m fits s t fs x g k is n = subst (λ (u : Stored _). Good m fits u fs) (sym is) (record {
  known = k;
  few = few_pushed s.entries x g.few (subst (λ (u : Stored _). length (states_at x.place u.entries) ≤ 256) is n);
  size = g.size;
  found = found_left m s.entries (x ∷ []) fs g.found;
  ordered = g.ordered;
})

-- each state of a place is reached
pub place_reached : {S : Type 0} (m : Machine S) (es : List (Reached S)) (q : ℕ) → AreLinked m es → AllByRecursion (Reaches m q) (states_at q es)
place_reached m es q l = all_from (Reaches m q) (states_at q es) (λ t h.
    let e = entry_of es q t h in
    subst (λ (x : ℕ). Reaches m x t) e.place (subst (λ (y : _). Reaches m e.e.place y) e.state (reached m es e.k e.e l e.is)))

pub crowded : {S : Type 0} (m : Machine S) (fits : ℕ → S → Type 0) (es : List (Reached S)) (q : ℕ) → Known m fits es → 256 < length (states_at q es) → IsCrowded m q
crowded m fits es q k n = record { states = states_at q es; many = n; different = k.different q; reached = place_reached m es q k.linked }
