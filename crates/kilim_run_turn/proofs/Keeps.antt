-- Each kind of step keeps the rule of the turn.
use Rattle.std.proofs.Common.{◌≡◌, ℕ, zero, suc, ◌+◌, ◌-◌, ◌<◌, ◌≤◌, ◌≢◌, Bool, cond, eqb, List, [], ◌∷◌, ◌++◌, length, get_or, set, sym, refl, ap, ◌∙◌, subst, Option, Some, None, arith, add-zero, length-set, length-append, get_or-set_same, get_or-set_other, get_or-append-add, eq-eqb, ne_eqb, true≢false}
use mathlib.Core.Option.{some, none, some-injective, some-ne-none}
use mathlib.Core.Option as maybe
use mathlib.Core.Logic.{dite}
use native.Mathlib.Decide.{dec_le, ℕ_discrete}
use prog.Atomic.{either}
use lib.ListN.{get_elem?}
use Rattle.atomic_table.specs.Table.{State, step, Act, keeps, takes, gives, Valid, carried_after, stepped, Allows, Splits, Joins, opening}
use Rattle.atomic_table.specs.Seated.{TableId}
use Rattle.atomic_table.proofs.Lists.{set_again, set_here, set_else, at_longer}
use Rattle.kilim_run_turn.specs.declared.view.View.{View}
use Rattle.kilim_run_turn.specs.declared.view.Stage.{Stage}
use Rattle.kilim_run_turn.specs.declared.view.Stage.TheVariants.{Fresh, Opening, Outside, Inside, Aside}
use Rattle.kilim_run_turn.specs.Views.{cell_at, no_table, fresh, opener, worker, holder, note, spent, made_more, next_worker, inside, joined, posted, bare, note_of, both}
use Rattle.kilim_run_turn.specs.Rule.{IsWorker, IsBusy, Facts, Owns, Stands, Fits, Busy, Ruled, Holds}
use Rattle.kilim_run_turn.specs.Steps.{Sat, Learned, Began, Took, TookLast, Told, Posted, Gave}
use Rattle.kilim_run_turn.proofs.Frames.{set_there, only, same, each_set, each_split, each_two, single, stays, moved}

-- whoever is busy is no worker that is outside
idle_busy : (v : View) → v.stage ≡ Outside → IsBusy v.stage → ⊥
idle_busy v e b = let c : IsBusy Outside = subst IsBusy e b in c

module _ {S : Type 0} (lies : TableId → S → Type 0) (seats : ℕ) where
  abbrev H : State (Option S) View → Type 0
  H = Holds lies seats

  abbrev Homes : Type 0
  Homes = List (maybe.Option (Option S))

  -- the table as it is made
  pub begins : (n : ℕ) (cells : List (List ℕ)) → n ≡ seats → length cells ≡ seats → H (opening ((n + 1) ∷ []) (None ∷ []) (fresh cells))
  begins n cells is size =
      let v : View = fresh cells in
      let f : Facts = record { owner = λ _. 0; bearer = 0; list = cells; of = no_table; made = 0 } in
      let fits : Fits seats (n + 1) (v ∷ []) f 0 v = record { carried = λ _. (refl, refl); owned = λ e. absurd e; stands = (refl, ap (λ (k : ℕ). k + 1) is) } in record {
        one = refl;
        ruled = record {
          facts = f;
          size = size;
          most = omega arith;
          each = λ j u e. let z : j ≡ 0 = only (v ∷ []) v j u refl e in
              let w : u ≡ v = sym (some-injective v u (subst (λ (i : ℕ). get_elem? (v ∷ []) i ≡ some u) z e)) in
              subst (λ (p : ℕ × View). Fits seats (n + 1) (v ∷ []) f p.0 p.1) (λ k. (sym z k, sym w k)) fits;
          free = λ e. absurd (omega arith);
          empty = λ _. refl;
          taken = λ _. record { seat = 0; view = v; at = refl; busy = tt };
        };
      }

  -- 1: the first seat learns which table it is of
  pub names_as : (slots id : ℕ) (z : TableId) (cells : List (List ℕ)) (c : List (ℕ × Option S)) → length cells ≡ seats → 0 < seats
      → Allows H slots id (fresh cells, c) 0 (λ x. x) (Learned z (step slots 0 0 0 none) (fresh cells, c))
  names_as slots id z cells c size some_seat s h wide mine _ =
      let r = h.ruled in
      let x : ℕ = get_or s.words 0 0 in
      let v : View = fresh cells in
      let w : View = opener z (length cells) 1 cells in
      let alone = (r.each id v mine).stands in
      let f : Facts = record { owner = λ _. id; bearer = id; list = cells; of = z; made = 1 } in
      let own : Owns f id w = record {
        named = refl;
        some_number = omega arith;
        numbers = single (cell_at cells 0) (λ k. (id ≡ id) × (0 + k < 1) × (cell_at cells (0 + k) ≡ cell_at (cell_at cells 0 ∷ []) k)) (refl, omega arith, refl);
      } in
      let here : Fits seats x (set s.views id w) f id w = record { carried = λ _. (refl, refl); owned = λ _. own; stands = (alone.1, refl, refl) } in
      let after : Ruled lies seats x s.homes (set s.views id w) = record {
        facts = f;
        size = size;
        most = omega arith;
        each = each_set (λ j u. Fits seats x (set s.views id w) f j u) s.views id w here (λ j u ne at. absurd (ne (only s.views v j u alone.0 at ∙ sym (only s.views v id v alone.0 mine))));
        free = λ e. let big = alone.1 in absurd (omega arith);
        empty = r.empty;
        taken = λ _. record { seat = id; view = w; at = set_there s.views id v w mine; busy = tt };
      } in (w, keeps, tt, moved lies seats s.words x s.homes (set s.views id w) h.one after, refl)

  -- a seat keeps its numbers where one more is given out
  owns_more : (f : Facts) (j new : ℕ) (v : View) → Owns f j v → Owns (record f { owner = λ n. cond (eqb n f.made) new (f.owner n); made = f.made + 1 }) j v
  owns_more f j new v o = record {
    named = o.named;
    some_number = o.some_number;
    numbers = λ k lt. let t = o.numbers k lt in
        let ne : v.number + k ≢ f.made = λ e. let l = t.1 in omega arith in
        (ap (λ (b : Bool). cond b new (f.owner (v.number + k))) (ne_eqb (v.number + k) f.made ne) ∙ t.0, (let l = t.1 in omega arith), t.2);
  }

  -- 2: the first seat gives out one more number
  pub splits_as : (id : ℕ) (z : TableId) (q made : ℕ) (cells : List (List ℕ)) → made < seats
      → Splits H id (opener z q made cells) (opener z q (made + 1) cells) (worker z q made (cell_at cells made ∷ []))
  splits_as id z q made cells room s h mine =
      let r = h.ruled in
      let x : ℕ = get_or s.words 0 0 in
      let f = r.facts in
      let v : View = opener z q made cells in
      let w : View = opener z q (made + 1) cells in
      let u : View = worker z q made (cell_at cells made ∷ []) in
      let fit = r.each id v mine in
      let own = fit.owned tt in
      let mine_too = fit.carried refl in
      let count : made ≡ f.made = fit.stands.1 in
      let new : ℕ = length s.views in
      let f' : Facts = record f { owner = λ n. cond (eqb n f.made) new (f.owner n); made = f.made + 1 } in
      let views' : List View = set s.views id w ++ u ∷ [] in
      let more = owns_more f id new v own in
      let here : Fits seats x views' f' id w = record {
        carried = λ _. mine_too;
        owned = λ _. record { named = more.named; some_number = more.some_number; numbers = more.numbers };
        stands = (fit.stands.0, ap (λ (n : ℕ). n + 1) count, refl);
      } in
      let first : (f'.owner (made + 0) ≡ new) × (made + 0 < f.made + 1) × (cell_at f.list (made + 0) ≡ cell_at cells made) =
      rw (add-zero made) (ap (λ (b : Bool). cond b new (f.owner made)) (eq-eqb made f.made count), (omega arith), ap (λ (l : List (List ℕ)). cell_at l made) (sym mine_too.1)) in
      let there_too : Fits seats x views' f' new u = record {
        carried = λ e. absurd (true≢false (sym e));
        owned = λ _. record {
          named = own.named;
          some_number = omega arith;
          numbers = single (cell_at cells made) (λ k. (f'.owner (made + k) ≡ new) × (made + k < f.made + 1) × (cell_at f.list (made + k) ≡ cell_at (cell_at cells made ∷ []) k)) first;
        };
        stands = tt;
      } in record {
        one = h.one;
        ruled = record {
          facts = f';
          size = r.size;
          most = omega arith;
          each = each_split (λ j y. Fits seats x views' f' j y) s.views id w u here there_too
              (λ j y ne at. stays seats x x s.views views' f f' y id j v mine at ne (r.each j y at) (λ b l. (b, l)) (owns_more f j new y) (λ b _ _. absurd (ne (b ∙ sym mine_too.0))) (λ _ e. e));
          free = r.free;
          empty = r.empty;
          taken = λ _. record { seat = id; view = w; at = at_longer (set s.views id w) (u ∷ []) id w (set_there s.views id v w mine); busy = tt };
        };
      }

  -- the numbers of an inside or opening seat are given out, so the word is at most the number of seats
  below : (s : State (Option S) View) (r : Ruled lies seats (get_or s.words 0 0) s.homes s.views) (j : ℕ) (v : View) → Owns r.facts j v → v.number < seats
  below s r j v o = let t = o.numbers 0 o.some_number in let l = t.1 in let m = r.most in omega (arith, add-zero v.number)

  -- two seats have no number in common
  apart : (f : Facts) (id j : ℕ) (v u : View) → Owns f id v → Owns f j u → v.number ≡ u.number → j ≡ id
  apart f id j v u o p e = let t = (o.numbers 0 o.some_number).0 in let t' = (p.numbers 0 p.some_number).0 in sym t' ∙ (ap (λ (n : ℕ). f.owner (n + 0)) (sym e) ∙ t)

  owns_same : (f : Facts) (b : ℕ) (j : ℕ) (v : View) → Owns f j v → Owns (record f { bearer = b }) j v
  owns_same f b j v o = record { named = o.named; some_number = o.some_number; numbers = o.numbers }

  -- 3: the opening is over, and the first seat takes the empty slot
  pub opens_as : (slots id : ℕ) (z : TableId) (q made : ℕ) (cells : List (List ℕ)) (c : List (ℕ × Option S))
      → Allows H slots id (opener z q made cells, c) 0 (λ _. 1) (λ _. Began (step slots 0 1 0 none) (opener z q made cells, c) 1)
  opens_as slots id z q made cells c s h wide mine _ =
      let r = h.ruled in
      let x : ℕ = get_or s.words 0 0 in
      let f = r.facts in
      let v : View = opener z q made cells in
      let w : View = holder z q 0 (cell_at cells 0 ∷ []) cells in
      let fit = r.each id v mine in
      let own = fit.owned tt in
      let mine_too = fit.carried refl in
      let was : x ≡ seats + 1 = fit.stands.0 in
      let some_seat = below s r id v own in
      let views' : List View = set s.views id w in
      let homes' : Homes = set s.homes 0 none in
      let here : Fits seats 1 views' f id w = record {
        carried = λ _. mine_too;
        owned = λ _. record { named = own.named; some_number = own.some_number; numbers = own.numbers };
        stands = refl;
      } in
      let after : Ruled lies seats 1 homes' views' = record {
        facts = f;
        size = r.size;
        most = r.most;
        each = each_set (λ j y. Fits seats 1 views' f j y) s.views id w here
            (λ j y ne at. stays seats x 1 s.views views' f f y id j v mine at ne (r.each j y at) (λ b l. (b, l)) (λ o. o) (λ b _ _. absurd (ne (b ∙ sym mine_too.0))) (λ o e. let l = below s r j y o in absurd (omega arith)));
        free = λ e. absurd (omega arith);
        empty = λ e. absurd (omega arith);
        taken = λ _. record { seat = id; view = w; at = set_there s.views id v w mine; busy = tt };
      } in (w, takes 0 None, r.empty was, moved lies seats s.words 1 homes' views' h.one after, refl)

  -- 3: a worker finds the turn free and takes it
  abbrev Hit : State (Option S) View → ℕ → ℕ → Sat S → Type 0
  Hit s new id m = (y : S) × lies m.0.of.table_id y × (get_elem? s.homes 0 ≡ some (some (Some y))) × H (stepped s 0 new id m.1 (inside m.0) (takes 0 (Some y)))

  hits : (id : ℕ) (z : TableId) (q n : ℕ) (shown : List (List ℕ)) (c : List (ℕ × Option S)) (s : State (Option S) View) → H s → get_elem? s.views id ≡ some (worker z q n shown) → get_or s.words 0 0 ≡ 0
      → Hit s (n + 1) id (worker z q n shown, c)
  hits id z q n shown c s h mine was =
      let r = h.ruled in
      let x : ℕ = get_or s.words 0 0 in
      let f = r.facts in
      let v : View = worker z q n shown in
      let w : View = inside v in
      let fit = r.each id v mine in
      let own = fit.owned tt in
      let few = below s r id v own in
      let lying = r.free was in
      let y = lying.value in
      let views' : List View = set s.views id w in
      let homes' : Homes = set s.homes 0 none in
      let here : Fits seats (n + 1) views' f id w = record {
        carried = λ e. absurd (true≢false (sym e));
        owned = λ _. record { named = own.named; some_number = own.some_number; numbers = own.numbers };
        stands = refl;
      } in
      let after : Ruled lies seats (n + 1) homes' views' = record {
        facts = f;
        size = r.size;
        most = r.most;
        each = each_set (λ j u. Fits seats (n + 1) views' f j u) s.views id w here
            (λ j u ne at. stays seats x (n + 1) s.views views' f f u id j v mine at ne (r.each j u at) (λ b l. (b, l)) (λ o. o) (λ _ e _. absurd (omega arith)) (λ _ e. absurd (omega arith)));
        free = λ e. absurd (omega arith);
        empty = λ e. absurd (omega arith);
        taken = λ _. record { seat = id; view = w; at = set_there s.views id v w mine; busy = tt };
      } in (y, subst (λ (t : TableId). lies t y) (sym own.named) lying.fits, lying.at, moved lies seats s.words (n + 1) homes' views' h.one after)

  -- a step that changes nothing
  unmoved : (s : State (Option S) View) → H s → (id : ℕ) (v : View) (c : List (ℕ × Option S)) → get_elem? s.views id ≡ some v → H (stepped s 0 (get_or s.words 0 0) id c v keeps)
  unmoved s h id v c mine = moved lies seats s.words (get_or s.words 0 0) s.homes (set s.views id v) h.one (subst (Ruled lies seats (get_or s.words 0 0) s.homes) (sym (set_again s.views id v mine)) h.ruled)

  abbrev Goes : State (Option S) View → ℕ → ℕ → Sat S → (ℕ → Sat S → Type 0) → Type 0
  Goes s x id m then = (w : View) × (a : Act (Option S)) × Valid s.homes m.1 a × H (stepped s 0 x id m.1 w a) × then (get_or s.words 0 0) (w, carried_after m.1 a)

  pub takes_turn_as : (slots id : ℕ) (z : TableId) (q n : ℕ) (shown : List (List ℕ)) (c : List (ℕ × Option S))
      → Allows H slots id (worker z q n shown, c) 0 (λ x. either (eqb x 0) (n + 1) x) (Took lies (step slots 0 0 (n + 1) none) (worker z q n shown, c))
  takes_turn_as slots id z q n shown c s h wide mine _ =
      let x : ℕ = get_or s.words 0 0 in
      let m : Sat S = (worker z q n shown, c) in
      let then : ℕ → Sat S → Type 0 = Took lies (step slots 0 0 (n + 1) none) m in dite (ℕ_discrete x 0)
      (λ was. let t = hits id z q n shown c s h mine was in subst (λ b. Goes s (either b (n + 1) x) id m then) (sym (eq-eqb x 0 was))
      (inside m.0, takes 0 (Some t.0), t.2, t.3, ((λ _. (t.0, t.1, refl)), λ ne. absurd (ne was))))
      (λ ne. subst (λ b. Goes s (either b (n + 1) x) id m then) (sym (ne_eqb x 0 ne))
      (m.0, keeps, tt, unmoved s h id m.0 c mine, ((λ was. absurd (ne was)), λ _. refl)))

  -- 4: a seat that is inside takes in the note
  pub takes_in_as : (id other : ℕ) (z : TableId) (q n : ℕ) (shown list : List (List ℕ))
      → Joins H id (inside (worker z q n shown)) other (note list) (holder z q n shown list) spent
  takes_in_as id other z q n shown list s h mine apart_too at_other =
      let r = h.ruled in
      let x : ℕ = get_or s.words 0 0 in
      let f = r.facts in
      let v : View = inside (worker z q n shown) in
      let w : View = holder z q n shown list in
      let at : get_elem? s.views other ≡ some (note list) = sym (set_else s.views id other w apart_too) ∙ at_other in
      let fit = r.each id v mine in
      let own = fit.owned tt in
      let theirs = (r.each other (note list) at).carried refl in
      let f' : Facts = record f { bearer = id } in
      let views' : List View = set (set s.views id w) other spent in
      let here : Fits seats x views' f' id w = record {
        carried = λ _. (refl, theirs.1);
        owned = λ _. record { named = own.named; some_number = own.some_number; numbers = own.numbers };
        stands = fit.stands;
      } in
      let gone : Fits seats x views' f' other spent = record { carried = λ e. absurd (true≢false (sym e)); owned = λ e. absurd e; stands = tt } in record {
        one = h.one;
        ruled = record {
          facts = f';
          size = r.size;
          most = r.most;
          each = each_two (λ j u. Fits seats x views' f' j u) s.views id other w spent here gone
              (λ j u ne no at'. stays seats x x s.views views' f f' u id j v mine at' ne (r.each j u at') (λ b _. absurd (no (b ∙ sym theirs.0))) (owns_same f id j u) (λ _ e m. (e, m)) (λ _ e. e));
          free = r.free;
          empty = r.empty;
          taken = λ _. record { seat = id; view = w; at = set_else (set s.views id w) other id spent (λ e. apart_too (sym e)) ∙ set_there s.views id v w mine; busy = tt };
        };
      }

  -- 5: the rule tells a seat that has the list
  pub tells_as : (slots id : ℕ) (z : TableId) (n : ℕ) (shown list : List (List ℕ)) (c : List (ℕ × Option S))
      → Allows H slots id (holder z seats n shown list, c) 0 (λ x. x) (Told (step slots 0 0 0 none) (holder z seats n shown list, c))
  tells_as slots id z n shown list c s h wide mine _ =
      let r = h.ruled in
      let f = r.facts in
      let v : View = holder z seats n shown list in
      let fit = r.each id v mine in
      let own = fit.owned tt in
      let is : list ≡ f.list = (fit.carried refl).1 in (
        v,
        keeps,
        tt,
        unmoved s h id v c mine,
        (refl, (ap (λ (l : List (List ℕ)). length l) is ∙ r.size, λ k lt. let t = own.numbers k lt in ((let l = t.1 in let m = r.most in omega arith), ap (λ (l : List (List ℕ)). cell_at l (n + k)) is ∙ t.2))),
      )

  -- 6: a seat that has the list writes its own cell
  pub posts_as : (slots id : ℕ) (z : TableId) (q n : ℕ) (old cell : List ℕ) (list : List (List ℕ)) (c : List (ℕ × Option S))
      → Allows H slots id (holder z q n (old ∷ []) list, c) 0 (λ x. x) (Posted cell (step slots 0 0 0 none) (holder z q n (old ∷ []) list, c))
  posts_as slots id z q n old cell list c s h wide mine _ =
      let r = h.ruled in
      let x : ℕ = get_or s.words 0 0 in
      let f = r.facts in
      let v : View = holder z q n (old ∷ []) list in
      let w : View = posted cell v in
      let fit = r.each id v mine in
      let own = fit.owned tt in
      let mine_too = fit.carried refl in
      let few = below s r id v own in
      let size = r.size in
      let f' : Facts = record f { list = set f.list n cell } in
      let views' : List View = set s.views id w in
      let first = own.numbers 0 own.some_number in
      let now : (f.owner (n + 0) ≡ id) × (n + 0 < f.made) × (cell_at (set f.list n cell) (n + 0) ≡ cell) =
      (first.0, first.1, rw (add-zero n) (get_or-set_same f.list n cell [] (omega arith))) in
      let here : Fits seats x views' f' id w = record {
        carried = λ _. (mine_too.0, ap (λ (l : List (List ℕ)). set l n cell) mine_too.1);
        owned = λ _. record {
          named = own.named;
          some_number = omega arith;
          numbers = single cell (λ k. (f.owner (n + k) ≡ id) × (n + k < f.made) × (cell_at (set f.list n cell) (n + k) ≡ cell_at (cell ∷ []) k)) now;
        };
        stands = fit.stands;
      } in
      let others : (j : ℕ) (u : View) → j ≢ id → Owns f j u → Owns f' j u = λ j u ne o. record {
        named = o.named;
        some_number = o.some_number;
        numbers = λ k lt. let t = o.numbers k lt in
            let no : u.number + k ≢ n = λ e. ne (sym t.0 ∙ (ap f.owner (e ∙ sym (add-zero n)) ∙ first.0)) in
            (t.0, t.1, get_or-set_other f.list n (u.number + k) cell [] no ∙ t.2);
      } in
      let after : Ruled lies seats x s.homes views' = record {
        facts = f';
        size = length-set f.list n cell ∙ size;
        most = r.most;
        each = each_set (λ j u. Fits seats x views' f' j u) s.views id w here
            (λ j u ne at. stays seats x x s.views views' f f' u id j v mine at ne (r.each j u at) (λ b _. absurd (ne (b ∙ sym mine_too.0))) (others j u ne) (λ _ e m. (e, m)) (λ _ e. e));
        free = λ e. let is : x ≡ n + 1 = fit.stands in absurd (omega arith);
        empty = r.empty;
        taken = λ _. record { seat = id; view = w; at = set_there s.views id v w mine; busy = tt };
      } in (w, keeps, tt, moved lies seats s.words x s.homes views' h.one after, refl)

  -- 7: a seat that has the list gives it to a note
  pub lays_down_as : (id : ℕ) (z : TableId) (q n : ℕ) (shown list : List (List ℕ))
      → Splits H id (holder z q n shown list) (inside (worker z q n shown)) (note list)
  lays_down_as id z q n shown list s h mine =
      let r = h.ruled in
      let x : ℕ = get_or s.words 0 0 in
      let f = r.facts in
      let v : View = holder z q n shown list in
      let w : View = inside (worker z q n shown) in
      let fit = r.each id v mine in
      let own = fit.owned tt in
      let mine_too = fit.carried refl in
      let f' : Facts = record f { bearer = length s.views } in
      let views' : List View = set s.views id w ++ note list ∷ [] in
      let here : Fits seats x views' f' id w = record {
        carried = λ e. absurd (true≢false (sym e));
        owned = λ _. record { named = own.named; some_number = own.some_number; numbers = own.numbers };
        stands = fit.stands;
      } in
      let new : Fits seats x views' f' (length s.views) (note list) = record { carried = λ _. (refl, mine_too.1); owned = λ e. absurd e; stands = tt } in record {
        one = h.one;
        ruled = record {
          facts = f';
          size = r.size;
          most = r.most;
          each = each_split (λ j u. Fits seats x views' f' j u) s.views id w (note list) here new
              (λ j u ne at. stays seats x x s.views views' f f' u id j v mine at ne (r.each j u at) (λ b _. absurd (ne (b ∙ sym mine_too.0))) (owns_same f (length s.views) j u) (λ _ e m. (e, m)) (λ _ e. e));
          free = r.free;
          empty = r.empty;
          taken = λ _. record { seat = id; view = w; at = at_longer (set s.views id w) (note list ∷ []) id w (set_there s.views id v w mine); busy = tt };
        };
      }

  -- 8: a seat gives back the slot, with a value that fits
  pub gives_back_as : (slots id : ℕ) (z : TableId) (q n : ℕ) (shown : List (List ℕ)) (y : S) → lies z y → 0 < slots
      → Allows H slots id (inside (worker z q n shown), (0, Some y) ∷ []) 0 (λ _. 0) (λ _. Gave (step slots 0 0 0 none) (inside (worker z q n shown), (0, Some y) ∷ []) 0)
  gives_back_as slots id z q n shown y fits some_slot s h wide mine _ =
      let r = h.ruled in
      let x : ℕ = get_or s.words 0 0 in
      let f = r.facts in
      let v : View = inside (worker z q n shown) in
      let w : View = worker z q n shown in
      let fit = r.each id v mine in
      let own = fit.owned tt in
      let few = below s r id v own in
      let is : x ≡ n + 1 = fit.stands in
      let views' : List View = set s.views id w in
      let homes' : Homes = set s.homes 0 (some (Some y)) in
      let here : Fits seats 0 views' f id w = record {
        carried = λ e. absurd (true≢false (sym e));
        owned = λ _. record { named = own.named; some_number = own.some_number; numbers = own.numbers };
        stands = tt;
      } in
      let after : Ruled lies seats 0 homes' views' = record {
        facts = f;
        size = r.size;
        most = r.most;
        each = each_set (λ j u. Fits seats 0 views' f j u) s.views id w here
            (λ j u ne at. stays seats x 0 s.views views' f f u id j v mine at ne (r.each j u at) (λ b l. (b, l)) (λ o. o) (λ _ e _. absurd (omega arith)) (λ o e. absurd (ne (apart f id j v u own o (omega arith)))));
        free = λ _. record { value = y; at = set_here s.homes 0 (some (Some y)) (omega arith); fits = subst (λ (t : TableId). lies t y) own.named fits };
        empty = λ e. absurd (omega arith);
        taken = λ e. absurd (e refl);
      } in (w, gives, tt, moved lies seats s.words 0 homes' views' h.one after, refl)

  -- 9: a seat takes over the numbers of another, which come next
  hand_over : (f : Facts) (id other : ℕ) → ℕ → ℕ
  hand_over f id other k = cond (eqb (f.owner k) other) id (f.owner k)

  kept_number : (f : Facts) (id other j k : ℕ) → j ≢ other → f.owner k ≡ j → hand_over f id other k ≡ j
  unfolding hand_over
  kept_number f id other j k off e = ap (λ (b : Bool). cond b id (f.owner k)) (ne_eqb (f.owner k) other (λ h. off (sym e ∙ h))) ∙ e

  got_number : (f : Facts) (id other k : ℕ) → f.owner k ≡ other → hand_over f id other k ≡ id
  unfolding hand_over
  got_number f id other k e = ap (λ (b : Bool). cond b id (f.owner k)) (eq-eqb (f.owner k) other e)

  front_cell : (xs ys : List (List ℕ)) (k : ℕ) → k < length xs → cell_at (xs ++ ys) k ≡ cell_at xs k
  front_cell [] ys k lt = absurd (omega arith)
  front_cell (x ∷ xs) ys zero lt = refl
  front_cell (x ∷ xs) ys (suc k) lt = front_cell xs ys k (omega arith)

  back_cell : (xs ys : List (List ℕ)) (i : ℕ) → cell_at (xs ++ ys) (length xs + i) ≡ cell_at ys i
  back_cell xs ys i = get_or-append-add xs ys i []

  abbrev Number : (f : Facts) → ℕ → ℕ → List (List ℕ) → ℕ → ℕ → Type 0
  Number f id n l j k = (f.owner (n + k) ≡ j) × (n + k < f.made) × (cell_at f.list (n + k) ≡ cell_at l k)

  over_numbers : (f : Facts) (id other n : ℕ) (xs ys : List (List ℕ)) → id ≢ other → ((k : ℕ) → k < length xs → Number f id n xs id k) → ((k : ℕ) → k < length ys → Number f id (n + length xs) ys other k)
      → (k : ℕ) → k < length (xs ++ ys) → Number (record f { owner = hand_over f id other }) id n (xs ++ ys) id k
  over_numbers f id other n xs ys ne mine theirs k lt = go (dec_le (suc k) (length xs))
    where
      go : Dec (suc k ≤ length xs) → Number (record f { owner = hand_over f id other }) id n (xs ++ ys) id k
      go (yes h) = let t = mine k (omega arith) in (kept_number f id other id (n + k) ne t.0, t.1, t.2 ∙ sym (front_cell xs ys k (omega arith)))
      go (no h) =
          let i : ℕ = k - length xs in
          let is : k ≡ length xs + i = omega arith in
          let at : (n + length xs) + i ≡ n + k = omega arith in
          let more : i < length ys = omega (arith, length-append xs ys) in
          let t = theirs i more in
          let u : (f.owner (n + k) ≡ other) × (n + k < f.made) × (cell_at f.list (n + k) ≡ cell_at ys i) = subst (λ (p : ℕ). (f.owner p ≡ other) × (p < f.made) × (cell_at f.list p ≡ cell_at ys i)) at t in
          (got_number f id other (n + k) u.0, u.1, u.2 ∙ (sym (back_cell xs ys i) ∙ ap (λ (p : ℕ). cell_at (xs ++ ys) p) (sym is)))

  pub takes_over_as : (id other : ℕ) (z : TableId) (q n m : ℕ) (xs ys : List (List ℕ)) → m ≡ n + length xs
      → Joins H id (worker z q n xs) other (worker z q m ys) (worker z q n (xs ++ ys)) spent
  takes_over_as id other z q n m xs ys next s h mine apart_too at_other =
      let r = h.ruled in
      let x : ℕ = get_or s.words 0 0 in
      let f = r.facts in
      let v : View = worker z q n xs in
      let v' : View = worker z q m ys in
      let w : View = worker z q n (xs ++ ys) in
      let ne : id ≢ other = λ e. apart_too (sym e) in
      let at : get_elem? s.views other ≡ some v' = sym (set_else s.views id other w apart_too) ∙ at_other in
      let own = (r.each id v mine).owned tt in
      let theirs = (r.each other v' at).owned tt in
      let f' : Facts = record f { owner = hand_over f id other } in
      let views' : List View = set (set s.views id w) other spent in
      let some_cell = own.some_number in
      let here : Fits seats x views' f' id w = record {
        carried = λ e. absurd (true≢false (sym e));
        owned = λ _. record {
          named = own.named;
          some_number = omega (arith, length-append xs ys);
          numbers = over_numbers f id other n xs ys ne own.numbers (subst (λ (p : ℕ). (k : ℕ) → k < length ys → (f.owner (p + k) ≡ other) × (p + k < f.made) × (cell_at f.list (p + k) ≡ cell_at ys k)) next theirs.numbers);
        };
        stands = tt;
      } in
      let gone : Fits seats x views' f' other spent = record { carried = λ e. absurd (true≢false (sym e)); owned = λ e. absurd e; stands = tt } in
      let others : (j : ℕ) (u : View) → j ≢ other → Owns f j u → Owns f' j u = λ j u no o. record {
        named = o.named;
        some_number = o.some_number;
        numbers = λ k lt. let t = o.numbers k lt in (kept_number f id other j (u.number + k) no t.0, t.1, t.2);
      } in record {
        one = h.one;
        ruled = record {
          facts = f';
          size = r.size;
          most = r.most;
          each = each_two (λ j u. Fits seats x views' f' j u) s.views id other w spent here gone
              (λ j u no_id no at'. stays seats x x s.views views' f f' u id j v mine at' no_id (r.each j u at') (λ b l. (b, l)) (others j u no) (λ _ e k. (e, k)) (λ _ e. e));
          free = r.free;
          empty = r.empty;
          taken = λ e.
              let b = r.taken e in
              let no_id : b.seat ≢ id = λ i. idle_busy b.view (ap (λ (u : View). u.stage) (same s.views id b.view v (subst (λ (p : ℕ). get_elem? s.views p ≡ some b.view) i b.at) mine)) b.busy in
              let no_other : b.seat ≢ other = λ i. idle_busy b.view (ap (λ (u : View). u.stage) (same s.views other b.view v' (subst (λ (p : ℕ). get_elem? s.views p ≡ some b.view) i b.at) at)) b.busy in
              record { seat = b.seat; view = b.view; at = set_else (set s.views id w) other b.seat spent no_other ∙ (set_else s.views id b.seat w no_id ∙ b.at); busy = b.busy };
        };
      }

  -- where one seat has all numbers and is outside, nobody is busy
  nobody : (id : ℕ) (z : TableId) (q : ℕ) (shown : List (List ℕ)) (s : State (Option S) View) → H s → get_elem? s.views id ≡ some (worker z q 0 shown) → length shown ≡ seats → Busy s.views → ⊥
  nobody id z q shown s h mine all b =
      let r = h.ruled in
      let f = r.facts in
      let v : View = worker z q 0 shown in
      let own = (r.each id v mine).owned tt in
      let fit = r.each b.seat b.view b.at in
      let ne : b.seat ≢ id = λ i. idle_busy b.view (ap (λ (u : View). u.stage) (same s.views id b.view v (subst (λ (p : ℕ). get_elem? s.views p ≡ some b.view) i b.at) mine)) b.busy in
      let works : IsWorker b.view.stage → ⊥ = λ w.
      let o = fit.owned w in
      let few = below s r b.seat b.view o in
      let n : ℕ = b.view.number in
      let t = own.numbers n (omega arith) in
      let t' = o.numbers 0 o.some_number in
      ne (sym t'.0 ∙ (ap f.owner (omega arith) ∙ t.0)) in
      cases b.view.stage refl fit b.busy works ne
    where
      cases : (st : Stage) → b.view.stage ≡ st → Fits seats (get_or s.words 0 0) s.views h.ruled.facts b.seat b.view → IsBusy st → (IsWorker st → ⊥) → b.seat ≢ id → ⊥
      cases Fresh e fit busy works ne =
          let alone : Stands seats (get_or s.words 0 0) s.views h.ruled.facts b.view Fresh = subst (Stands seats (get_or s.words 0 0) s.views h.ruled.facts b.view) e fit.stands in
          ne (only s.views b.view b.seat b.view alone.0 b.at ∙ sym (only s.views b.view id (worker z q 0 shown) alone.0 mine))
      cases Opening e fit busy works ne = works tt
      cases Outside e fit busy works ne = busy
      cases Inside e fit busy works ne = works tt
      cases Aside e fit busy works ne = busy

  pub takes_last_as : (slots id : ℕ) (z : TableId) (q : ℕ) (shown : List (List ℕ)) (c : List (ℕ × Option S)) → length shown ≡ seats
      → Allows H slots id (worker z q 0 shown, c) 0 (λ x. either (eqb x 0) 1 x) (TookLast lies (step slots 0 0 1 none) (worker z q 0 shown, c))
  takes_last_as slots id z q shown c all s h wide mine _ =
      let x : ℕ = get_or s.words 0 0 in
      let m : Sat S = (worker z q 0 shown, c) in
      let then : ℕ → Sat S → Type 0 = TookLast lies (step slots 0 0 1 none) m in dite (ℕ_discrete x 0)
      (λ was. let t = hits id z q 0 shown c s h mine was in subst (λ b. Goes s (either b 1 x) id m then) (sym (eq-eqb x 0 was))
      (inside m.0, takes 0 (Some t.0), t.2, t.3, (t.0, t.1, refl)))
      (λ ne. absurd (nobody id z q shown s h mine all (h.ruled.taken ne)))

  -- The same for any seat that is equal to the one at hand

  pub names : (slots id : ℕ) (z : TableId) (cells : List (List ℕ)) (me : Sat S) → me ≡ (fresh cells, []) → length cells ≡ seats → 0 < seats
      → Allows H slots id me 0 (λ x. x) (Learned z (step slots 0 0 0 none) me)
  names slots id z cells me e size some_seat = subst (λ (m : Sat S). Allows H slots id m 0 (λ x. x) (Learned z (step slots 0 0 0 none) m)) (sym e) (names_as slots id z cells [] size some_seat)

  pub splits : (id : ℕ) (z : TableId) (q made : ℕ) (cells : List (List ℕ)) (v : View) → v ≡ opener z q made cells → made < seats → Splits H id v (made_more v) (next_worker v)
  splits id z q made cells v e room = subst (λ (u : View). Splits H id u (made_more u) (next_worker u)) (sym e) (splits_as id z q made cells room)

  pub opens : (slots id : ℕ) (z : TableId) (q made : ℕ) (cells : List (List ℕ)) (me : Sat S) → me ≡ (opener z q made cells, []) → Allows H slots id me 0 (λ _. 1) (λ _. Began (step slots 0 1 0 none) me 1)
  opens slots id z q made cells me e = subst (λ (m : Sat S). Allows H slots id m 0 (λ _. 1) (λ _. Began (step slots 0 1 0 none) m 1)) (sym e) (opens_as slots id z q made cells [])

  pub takes_turn : (slots id : ℕ) (z : TableId) (q n : ℕ) (shown : List (List ℕ)) (me : Sat S) → me ≡ (worker z q n shown, [])
      → Allows H slots id me 0 (λ x. either (eqb x 0) (n + 1) x) (Took lies (step slots 0 0 (n + 1) none) me)
  takes_turn slots id z q n shown me e = subst (λ (m : Sat S). Allows H slots id m 0 (λ x. either (eqb x 0) (n + 1) x) (Took lies (step slots 0 0 (n + 1) none) m)) (sym e) (takes_turn_as slots id z q n shown [])

  pub takes_in : (id other : ℕ) (z : TableId) (q n : ℕ) (shown list : List (List ℕ)) (v w : View) → v ≡ inside (worker z q n shown) → w ≡ note list → Joins H id v other w (joined v w) spent
  takes_in id other z q n shown list v w e e' = subst (λ (p : View × View). Joins H id p.0 other p.1 (joined p.0 p.1) spent) (λ k. (sym e k, sym e' k)) (takes_in_as id other z q n shown list)

  pub tells : (slots id : ℕ) (z : TableId) (n : ℕ) (shown list : List (List ℕ)) (c : List (ℕ × Option S)) (me : Sat S) → me ≡ (holder z seats n shown list, c)
      → Allows H slots id me 0 (λ x. x) (Told (step slots 0 0 0 none) me)
  tells slots id z n shown list c me e = subst (λ (m : Sat S). Allows H slots id m 0 (λ x. x) (Told (step slots 0 0 0 none) m)) (sym e) (tells_as slots id z n shown list c)

  pub posts : (slots id : ℕ) (z : TableId) (q n : ℕ) (old cell : List ℕ) (list : List (List ℕ)) (c : List (ℕ × Option S)) (me : Sat S) → me ≡ (holder z q n (old ∷ []) list, c)
      → Allows H slots id me 0 (λ x. x) (Posted cell (step slots 0 0 0 none) me)
  posts slots id z q n old cell list c me e = subst (λ (m : Sat S). Allows H slots id m 0 (λ x. x) (Posted cell (step slots 0 0 0 none) m)) (sym e) (posts_as slots id z q n old cell list c)

  pub lays_down : (id : ℕ) (z : TableId) (q n : ℕ) (shown list : List (List ℕ)) (v : View) → v ≡ holder z q n shown list → Splits H id v (bare v) (note_of v)
  lays_down id z q n shown list v e = subst (λ (u : View). Splits H id u (bare u) (note_of u)) (sym e) (lays_down_as id z q n shown list)

  pub gives_back : (slots id : ℕ) (z : TableId) (q n : ℕ) (shown : List (List ℕ)) (y : S) (me : Sat S) → me ≡ (inside (worker z q n shown), (0, Some y) ∷ []) → lies z y → 0 < slots
      → Allows H slots id me 0 (λ _. 0) (λ _. Gave (step slots 0 0 0 none) me 0)
  gives_back slots id z q n shown y me e fits some_slot = subst (λ (m : Sat S). Allows H slots id m 0 (λ _. 0) (λ _. Gave (step slots 0 0 0 none) m 0)) (sym e) (gives_back_as slots id z q n shown y fits some_slot)

  pub takes_over : (id other : ℕ) (z : TableId) (q n m : ℕ) (xs ys : List (List ℕ)) (v w : View) → v ≡ worker z q n xs → w ≡ worker z q m ys → m ≡ n + length xs
      → Joins H id v other w (both v w) spent
  takes_over id other z q n m xs ys v w e e' next = subst (λ (p : View × View). Joins H id p.0 other p.1 (both p.0 p.1) spent) (λ k. (sym e k, sym e' k)) (takes_over_as id other z q n m xs ys next)

  pub takes_last : (slots id : ℕ) (z : TableId) (q : ℕ) (shown : List (List ℕ)) (me : Sat S) → me ≡ (worker z q 0 shown, []) → length shown ≡ seats
      → Allows H slots id me 0 (λ x. either (eqb x 0) 1 x) (TookLast lies (step slots 0 0 1 none) me)
  takes_last slots id z q shown me e all = subst (λ (m : Sat S). Allows H slots id m 0 (λ x. either (eqb x 0) 1 x) (TookLast lies (step slots 0 0 1 none) m)) (sym e) (takes_last_as slots id z q shown [] all)
