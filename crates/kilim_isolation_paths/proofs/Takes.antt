-- What `take` leaves, over plain variables
use Rattle.std.proofs.Common.{◌≡◌, ℕ, ◌<◌, ◌≤◌, List, [], ◌∷◌, ◌++◌, length, Some, None, Option, Result, Ok, Err, IfOk, IfSome, refl, ap, sym, ◌∙◌, subst, arith}
use Rattle.kilim_isolation_paths.specs.declared.machine.Exit.{Exit}
use Rattle.kilim_isolation_paths.specs.Paths.{Has, Machine, IsCrowded, target}
use Rattle.kilim_isolation_paths.specs.Search.{states_at, Known, noted, IsDone, Good, IsAt, Took, IsNoted}
use Rattle.kilim_isolation_paths.specs.Stored.{Stored}
use Rattle.kilim_isolation_paths.specs.declared.store.Reached.{Reached}
use Rattle.kilim_isolation_paths.specs.declared.found.Found.{Found}
use Rattle.kilim_isolation_paths.proofs.Lists.{has_last}
use Rattle.kilim_isolation_paths.proofs.Notes.{noted_has}
use Rattle.kilim_isolation_paths.proofs.Steps.{good_noted, noted_later, known_pushed, good_pushed, crowded, states_same}

done_err : {S : Type 0} (es : List (Reached S)) (fs : List Found) (p : ℕ) (to : Option ℕ) (rule : ℕ) → IsNoted fs p rule → IsDone es fs p to (Err rule)
done_err es fs p None rule h = h
done_err es fs p (Some q) rule h = h

-- what is done of one entry is done of the entry at its place
done_at : {S : Type 0} (m : Machine S) (es new : List (Reached S)) (gs : List Found) (k : ℕ) (to : Exit) (e x : Reached S) → IsAt es k e → IsAt es k x → IsDone new gs e.place (target to) (m.moves e.place e.state to) → IsDone new gs x.place (target to) (m.moves x.place x.state to)
done_at m es new gs k to e x a b d = let same : e ≡ x = cc in subst (λ (y : Reached _). IsDone new gs y.place (target to) (m.moves y.place y.state to)) same d

pub took_noted : {S : Type 0} (m : Machine S) (fits : ℕ → S → Type 0) (s : Stored S) (fs gs : List Found) (k : ℕ) (e : Reached S) (to : Exit) (r : Result S ℕ) (rule : ℕ) → Good m fits s fs → IsAt s.entries k e → Has (m.exits e.place) to → r ≡ m.moves e.place e.state to → r ≡ Err rule → gs ≡ noted fs (record { pc = e.place; rule = rule; at = k }) → Took m fits s s fs gs k to None
took_noted m fits s fs gs k e to r rule g at exit step is n =
    let f : Found = record { pc = e.place; rule = rule; at = k } in
    let broke : m.moves e.place e.state to ≡ Err rule = sym step ∙ is in
    subst (λ (hs : List Found). Took m fits s s fs hs k to None) (sym n) (
      good_noted m fits s fs f g (e, to, at, refl, exit, broke),
      noted_later s.entries fs f,
      λ x a. done_at m s.entries s.entries (noted fs f) k to e x at a
          (subst (λ (q : Result _ ℕ). IsDone s.entries (noted fs f) e.place (target to) q) (sym broke) (done_err s.entries (noted fs f) e.place (target to) rule (noted_has fs f))),
    )

fits_of : {S : Type 0} (fits : ℕ → S → Type 0) (r : Result S ℕ) (to : Option ℕ) (q : ℕ) (t : S) → r ≡ Ok t → to ≡ Some q → IfOk r (λ u. IfSome to (λ p. fits p u)) → fits q t
fits_of fits (Err e) to q t a b f = absurd (cc)
fits_of fits (Ok u) None q t a b f = absurd (cc)
fits_of fits (Ok u) (Some p) q t a b f =
    let s : u ≡ t = cc in
    let i : p ≡ q = cc in
    subst (λ (z : ℕ). fits z t) i (subst (λ (y : _). fits p y) s f)

pub inside_of : (n : ℕ) (to : Option ℕ) (q : ℕ) → to ≡ Some q → IfSome to (λ p. p < n) → q < n
inside_of n None q a b = absurd (cc)
inside_of n (Some p) q a b = let i : p ≡ q = cc in omega arith

states_pushed : {S : Type 0} (q : ℕ) (es : List (Reached S)) (x : Reached S) → x.place ≡ q → Has (states_at q (es ++ x ∷ [])) x.state
states_pushed q es x p = subst (λ (ss : List _). Has ss x.state) (sym (states_same q es x p)) (has_last (states_at q es) x.state)

module _ {S : Type 0} (m : Machine S) (fits : ℕ → S → Type 0) (s t : Stored S) (fs : List Found) (k : ℕ) (e : Reached S) (to : Exit) (r : Result S ℕ) (q : ℕ) (state : S)
    (g : Good m fits s fs) (at : IsAt s.entries k e) (exit : Has (m.exits e.place) to) (step : r ≡ m.moves e.place e.state to) (is : r ≡ Ok state) (towards : target to ≡ Some q)
    (fit : IfOk r (λ u. IfSome (target to) (λ p. fits p u))) (inside : IfSome (target to) (λ p. p < s.size)) (fresh : Has (states_at q s.entries) state → ⊥)
    (pushed : t ≡ record s { entries = s.entries ++ record { place = q; state = state; from = k } ∷ [] }) where
  moved : m.moves e.place e.state to ≡ Ok state
  moved = sym step ∙ is

  known : Known m fits (s.entries ++ record { place = q; state = state; from = k } ∷ [])
  known =
      let size = g.size in
      let small : q < s.size = inside_of s.size (target to) q towards inside in
      known_pushed m fits s.entries e (record { place = q; state = state; from = k }) to g.known at towards exit moved (omega arith) (fits_of fits r (target to) q state is towards fit) fresh

  pub took_crowded : 256 < length (states_at q t.entries) → IsCrowded m q
  took_crowded n = crowded m fits (s.entries ++ record { place = q; state = state; from = k } ∷ []) q known (subst (λ (u : Stored S). 256 < length (states_at q u.entries)) pushed n)

  pub took_pushed : length (states_at q t.entries) ≤ 256 → Took m fits s t fs fs k to None
  took_pushed n =
      let x : Reached S = record { place = q; state = state; from = k } in (
        good_pushed m fits s t fs x g known pushed n,
        record { more = x ∷ []; is = ap (λ u. u.entries) pushed; noted = λ pc rule h. h },
        λ y a. done_at m s.entries t.entries fs k to e y at a
            (subst (λ (o : Option ℕ). IsDone t.entries fs e.place o (m.moves e.place e.state to)) (sym towards)
            (subst (λ (z : Result S ℕ). IsDone t.entries fs e.place (Some q) z) (sym moved) (subst (λ (u : Stored S). Has (states_at q u.entries) state) (sym pushed) (states_pushed q s.entries x refl)))),
      )
