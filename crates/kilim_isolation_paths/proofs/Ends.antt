-- From what the search keeps to the theorem
use Rattle.std.proofs.Common.{◌≡◌, ℕ, zero, suc, ◌+◌, ◌<◌, ◌≤◌, List, [], ◌∷◌, ◌++◌, length, slice_get, Some, None, Option, Result, Err, refl, ap, sym, ◌∙◌, subst, inl, inr, arith, true, take, get_or, is_some, length-append, IfSome}
use Rattle.std.specs.List.{AllByRecursion, AllZip}
use Rattle.std.proofs.lemmas.Bool.{cases_lt}
use Rattle.std.proofs.lemmas.Option.{slice_get_within, slice_get-get_or}
use Rattle.kilim_isolation_paths.specs.declared.machine.Exit.{Exit}
use Rattle.kilim_isolation_paths.specs.Paths.{Has, Machine, ArrivesBy, Reaches, Fails, IsCrowded, target}
use Rattle.kilim_isolation_paths.specs.Search.{states_at, before, AreLinked, AreOrdered, IsFound, IsNoted, IsDone, AreDone, Good, Later, IsAt, IsReportOf, Took, Visited}
use Rattle.kilim_isolation_paths.specs.Stored.{Stored}
use Rattle.kilim_isolation_paths.specs.Answer.{comes_before, AreInOrder, IsReported, AreFaults}
use Rattle.kilim_isolation_paths.specs.declared.store.Reached.{Reached}
use Rattle.kilim_isolation_paths.specs.declared.found.Found.{Found}
use Rattle.kilim_isolation_paths.specs.declared.report.Report.{Report}
use Rattle.kilim_isolation_paths.proofs.Lists.{get_left, get_below, few_different, has_in, take_next, zip_push}
use Rattle.kilim_isolation_paths.proofs.Reach.{entry_of, stays}
use Rattle.kilim_isolation_paths.proofs.Steps.{done_later, then_later}
use Rattle.kilim_isolation_paths.proofs.Same.{fails_of}
use Rattle.kilim_isolation_paths.proofs.Loops.{DoneBelow, DoneUpTo, AreReportsOf}

-- a turn of `visit`
pub visit_step : {S : Type 0} (m : Machine S) (fits : ℕ → S → Type 0) (s t u : Stored S) (fs gs hs : List Found) (at n : ℕ) (to : Exit) (full : Option ℕ) (e : Reached S) → Later s.entries t.entries fs gs → DoneBelow m s.entries t.entries gs at n → IsAt s.entries at e → slice_get (m.exits e.place) n ≡ Some to → Took m fits t u gs hs at to full → full ≡ None →
    Good m fits u hs × Later s.entries u.entries fs hs × DoneBelow m s.entries u.entries hs at (n + 1)
visit_step {S} m fits s t u fs gs hs at n to full e l d i x took is =
    let now : Took m fits t u gs hs at to None = subst (λ (o : Option ℕ). Took m fits t u gs hs at to o) is took in (
      now.0,
      then_later s.entries t.entries u.entries fs gs hs l now.1,
      λ y j k o b h. elim (cases_lt k n) [
        | inl c ↦ done_later t.entries u.entries gs hs y.place (target o) (m.moves y.place y.state o) now.1 (d y j k o c h)
        | inr c ↦ (let same : e ≡ y = cc in
            let here : k ≡ n = omega arith in
            let there : slice_get (m.exits y.place) n ≡ Some to = subst (λ (z : Reached S). slice_get (m.exits z.place) n ≡ Some to) same x in
            let again : slice_get (m.exits y.place) n ≡ Some o = subst (λ (z : ℕ). slice_get (m.exits y.place) z ≡ Some o) here h in
            let equal : to ≡ o = cc in
            let after : IsAt t.entries at y = subst (λ (es : List (Reached S)). IsAt es at y) (sym l.is) (get_left s.entries l.more at y j) in
            subst (λ (z : Exit). IsDone u.entries hs y.place (target z) (m.moves y.place y.state z)) equal (now.2 y after))
      ],
    )

-- before the first turn
pub visit_start : {S : Type 0} (m : Machine S) (es : List (Reached S)) (fs : List Found) (at : ℕ) → DoneBelow m es es fs at 0
visit_start m es fs at e i k to b h = absurd (omega arith)

-- in each turn
pub at_later : {S : Type 0} (es new more : List (Reached S)) (at : ℕ) → new ≡ es ++ more → at < length es → at < length new
at_later es new more at is b = let n : length new ≡ length es + length more = ap length is ∙ length-append es more in omega arith

pub exit_of : {S : Type 0} (m : Machine S) (es new more : List (Reached S)) (at n : ℕ) (to : Exit) (e x : Reached S) → new ≡ es ++ more → IsAt es at e → slice_get (m.exits e.place) n ≡ Some to → IsAt new at x → Has (m.exits x.place) to
exit_of m es new more at n to e x is i h j =
    let there : IsAt new at e = subst (λ (ls : List (Reached _)). IsAt ls at e) (sym is) (get_left es more at e i) in
    let same : e ≡ x = cc in
    subst (λ (z : Reached _). Has (m.exits z.place) to) same (n, h)

pub exit_inside : (xs ys : List Exit) (n size most : ℕ) (d : Exit) → xs ≡ ys → n < length xs → AllByRecursion (λ x. IfSome (target x) (λ q. q < most)) ys → size ≡ most → IfSome (target (get_or xs n d)) (λ q. q < size)
exit_inside xs ys n size most d e b a s =
    subst (λ (k : ℕ). IfSome (target (get_or xs n d)) (λ q. q < k)) (sym s)
    (has_in (λ (x : Exit). IfSome (target x) (λ q. q < most)) ys (get_or xs n d) a (n, ap (λ (zs : List Exit). slice_get zs n) (sym e) ∙ slice_get-get_or xs n d b))

-- where a place is full
pub visit_full : {S : Type 0} (m : Machine S) (fits : ℕ → S → Type 0) (s t u : Stored S) (fs gs hs : List Found) (at : ℕ) (to : Exit) (full : Option ℕ) → Took m fits t u gs hs at to full → is_some full ≡ true → Visited m fits s u fs hs at full
visit_full m fits s t u fs gs hs at to None took is = absurd (cc)
visit_full m fits s t u fs gs hs at to (Some q) took is = took

pub visit_end : {S : Type 0} (m : Machine S) (es new : List (Reached S)) (gs : List Found) (at n : ℕ) (e : Reached S) → DoneBelow m es new gs at n → IsAt es at e → length (m.exits e.place) ≤ n → (x : Reached S) → IsAt es at x → AreDone m new gs x
visit_end {S} m es new gs at n e d i b x j k to h =
    let same : e ≡ x = cc in
    let w = slice_get_within (m.exits x.place) k to h in
    let c : length (m.exits x.place) ≤ n = subst (λ (z : Reached S). length (m.exits z.place) ≤ n) same b in
    d x j k to (omega arith) h

-- a turn of `search`
pub search_step : {S : Type 0} (m : Machine S) (fits : ℕ → S → Type 0) (s t : Stored S) (fs gs : List Found) (at : ℕ) (full : Option ℕ) → DoneUpTo m s.entries fs at → at < length s.entries → Visited m fits s t fs gs at full → full ≡ None → Good m fits t gs × DoneUpTo m t.entries gs (at + 1)
search_step {S} m fits s t fs gs at full d b visited is =
    let now : Visited m fits s t fs gs at None = subst (λ (o : Option ℕ). Visited m fits s t fs gs at o) is visited in
    let l = now.1 in (
      now.0,
      λ k e c h.
          let old : IsAt s.entries k e = get_below s.entries l.more k e (omega arith) (subst (λ (es : List (Reached S)). IsAt es k e) l.is h) in
          elim (cases_lt k at) [
            | inl a ↦ λ j to x. done_later s.entries t.entries fs gs e.place (target to) (m.moves e.place e.state to) l (d k e a old j to x)
            | inr a ↦ (let here : k ≡ at = omega arith in now.2 e (subst (λ (z : ℕ). IsAt s.entries z e) here old))
          ],
    )

pub search_end : {S : Type 0} (m : Machine S) (es : List (Reached S)) (gs : List Found) (at : ℕ) → DoneUpTo m es gs at → length es ≤ at → (k : ℕ) (e : Reached S) → IsAt es k e → AreDone m es gs e
search_end m es gs at d b k e h = let w = slice_get_within es k e h in d k e (omega arith) h

module _ {S : Type 0} (m : Machine S) (fits : ℕ → S → Type 0) (t : Stored S) (gs : List Found) (good : Good m fits t gs) (done : (k : ℕ) (e : Reached S) → IsAt t.entries k e → AreDone m t.entries gs e) where
  step_done : (p : ℕ) (s : S) (to : Exit) → Has (states_at p t.entries) s → Has (m.exits p) to → IsDone t.entries gs p (target to) (m.moves p s to)
  step_done p s to h x =
      let r = entry_of t.entries p s h in
      let there : Has (m.exits r.e.place) to = subst (λ (z : ℕ). Has (m.exits z) to) (sym r.place) x in
      let d = done r.k r.e r.is there.0 to there.1 in
      subst (λ (z : ℕ). IsDone t.entries gs z (target to) (m.moves z s to)) r.place (subst (λ (y : S). IsDone t.entries gs r.e.place (target to) (m.moves r.e.place y to)) r.state d)

  arrived : (path : List ℕ) (q : ℕ) (s : S) → ArrivesBy m path q s → Has (states_at q t.entries) s
  arrived [] q s a = absurd a
  arrived (p ∷ rest) q s a =
      stays m t.entries (λ p q s u to is h x e. subst (λ (r : Result S ℕ). IsDone t.entries gs p (Some q) r) e (subst (λ (o : Option ℕ). IsDone t.entries gs p o (m.moves p s to)) is (step_done p s to h x))) rest 0 m.entry q s good.known.start a.1

  noted_of : (p : ℕ) (to : Option ℕ) (rule : ℕ) → IsDone t.entries gs p to (Err rule) → IsNoted gs p rule
  noted_of p None rule d = d
  noted_of p (Some q) rule d = d

  all_arrived : (q : ℕ) (ss : List S) → AllByRecursion (Reaches m q) ss → AllByRecursion (Has (states_at q t.entries)) ss
  all_arrived q [] a = tt
  all_arrived q (s ∷ ss) a = (arrived a.0.0 q s a.0.1, all_arrived q ss a.1)

  pub fault_noted : (path : List ℕ) (pc rule : ℕ) → Fails m path pc rule → IsNoted gs pc rule
  fault_noted path pc rule f =
      noted_of pc (target f.1) rule (subst (λ (r : Result S ℕ). IsDone t.entries gs pc (target f.1) r) f.4 (step_done pc f.0 f.1 (arrived path pc f.0 f.2) f.3))

  pub not_crowded : (place : ℕ) → IsCrowded m place → ⊥
  not_crowded place c =
      let few = few_different c.states (states_at place t.entries) c.different (all_arrived place c.states c.reached) in
      let bound = good.few place in
      let many = c.many in
      omega arith

fails_all : {S : Type 0} (m : Machine S) (fs : List Found) (rs : List Report) → AllZip (IsReportOf m) fs rs → AllByRecursion (λ r. Fails m r.path r.pc r.rule) rs
fails_all m [] [] z = tt
fails_all m [] (r ∷ rs) z = absurd z
fails_all m (f ∷ fs) [] z = absurd z
fails_all m (f ∷ fs) (r ∷ rs) z = (z.0.2, fails_all m fs rs z.1)

reported_under : (r : Report) (rs : List Report) (pc rule : ℕ) → IsReported rs pc rule → IsReported (r ∷ rs) pc rule
reported_under r rs pc rule h = (h.0, (suc h.1.0, h.1.1), h.2, h.3)

reported : {S : Type 0} (m : Machine S) (fs : List Found) (rs : List Report) (pc rule : ℕ) → AllZip (IsReportOf m) fs rs → IsNoted fs pc rule → IsReported rs pc rule
reported m [] rs pc rule z h = absurd (cc (h.2))
reported m (f ∷ fs) [] pc rule z h = absurd z
reported m (f ∷ fs) (r ∷ rs) pc rule z (zero, g, h, p, q) = let same : f ≡ g = cc in (r, (zero, refl), z.0.0 ∙ ap (λ (x : Found). x.pc) same ∙ p, z.0.1 ∙ ap (λ (x : Found). x.rule) same ∙ q)
reported m (f ∷ fs) (r ∷ rs) pc rule z (suc k, g, h, p, q) = reported_under r rs pc rule (reported m fs rs pc rule z.1 (k, g, h, p, q))

all_after : {S : Type 0} (m : Machine S) (f : Found) (r : Report) (fs : List Found) (rs : List Report) → IsReportOf m f r → AllZip (IsReportOf m) fs rs → AllByRecursion (λ g. before f g ≡ true) fs → AllByRecursion (λ s. comes_before r s ≡ true) rs
all_after m f r [] [] i z a = tt
all_after m f r [] (s ∷ rs) i z a = absurd z
all_after m f r (g ∷ fs) [] i z a = absurd z
all_after m f r (g ∷ fs) (s ∷ rs) i z a = (rw (i.0, i.1, z.0.0, z.0.1) a.0, all_after m f r fs rs i z.1 a.1)

in_order : {S : Type 0} (m : Machine S) (fs : List Found) (rs : List Report) → AllZip (IsReportOf m) fs rs → AreOrdered fs → AreInOrder rs
in_order m [] [] z o = tt
in_order m [] (r ∷ rs) z o = absurd z
in_order m (f ∷ fs) [] z o = absurd z
in_order m (f ∷ fs) (r ∷ rs) z o = (all_after m f r fs rs z.0 z.1 o.0, in_order m fs rs z.1 o.1)

-- the theorem, where no place is full
pub faults : {S : Type 0} (m : Machine S) (fits : ℕ → S → Type 0) (t : Stored S) (gs : List Found) (rs : List Report) → Good m fits t gs → ((k : ℕ) (e : Reached S) → IsAt t.entries k e → AreDone m t.entries gs e) → AllZip (IsReportOf m) gs rs → AreFaults m rs × ((place : ℕ) → IsCrowded m place → ⊥)
faults m fits t gs rs good done z = (
  record {
    fail = fails_all m gs rs z;
    all = λ rest pc rule f. (let x = fails_of m rest pc rule f in reported m gs rs pc rule z (fault_noted m fits t gs good done x.0 pc rule x.1));
    ordered = in_order m gs rs z good.ordered;
  },
  not_crowded m fits t gs good done,
)

pub found_within : {S : Type 0} (m : Machine S) (es : List (Reached S)) (all : List Found) (n : ℕ) (f : Found) → AllByRecursion (IsFound m es) all → slice_get all n ≡ Some f → f.at < length es
found_within m es all n f a h = let x : IsFound m es f = has_in (IsFound m es) all f a (n, h) in slice_get_within es f.at x.0 x.2

-- a turn of `reports`
pub reports_step : {S : Type 0} (es : List (Reached S)) (all : List Found) (n : ℕ) (f : Found) (path : List ℕ) (rs new : List Report) → AreReportsOf es all (take n all) rs → slice_get all n ≡ Some f → ((m : Machine S) (e : Reached S) → AreLinked m es → IsAt es f.at e → ArrivesBy m path e.place e.state) → new ≡ rs ++ record { pc = f.pc; rule = f.rule; path = path } ∷ [] → AreReportsOf es all (take (n + 1) all) new
reports_step {S} es all n f path rs new a h p is m l i =
    let r : Report = record { pc = f.pc; rule = f.rule; path = path } in
    let x : IsFound m es f = has_in (IsFound m es) all f i (n, h) in
    let e = x.0 in
    let arrives : ArrivesBy m path f.pc e.state = subst (λ (z : ℕ). ArrivesBy m path z e.state) x.3 (p m e l x.2) in
    let exit : Has (m.exits f.pc) x.1 = subst (λ (z : ℕ). Has (m.exits z) x.1) x.3 x.4 in
    let broke : m.moves f.pc e.state x.1 ≡ Err f.rule = subst (λ (z : ℕ). m.moves z e.state x.1 ≡ Err f.rule) x.3 x.5 in
    subst (λ (ys : List Report). AllZip (IsReportOf m) (take (n + 1) all) ys) (sym is)
    (subst (λ (gs : List Found). AllZip (IsReportOf m) gs (rs ++ r ∷ [])) (sym (take_next all n f h))
    (zip_push (IsReportOf m) (take n all) rs f r (a m l i) (refl, refl, (e.state, x.1, arrives, exit, broke))))
