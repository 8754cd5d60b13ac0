-- The list of edges, entry by entry.
use Rattle.std.proofs.Common.{◌≡◌, inl, inr, ℕ, ◌+◌, ◌≤◌, List, [], ◌++◌, length, map, drop, slice_get, Some, sym, subst, arith}
use Rattle.std.proofs.lemmas.List.Kept.{AllPairs-from_increasing}
use Rattle.std.proofs.lemmas.Option.{slice_get_within}
use Rattle.kilim_program.specs.declared.class.Method.{Method}
use Rattle.kilim_program.specs.declared.instr.Instr.{Instr}
use Rattle.kilim_program.specs.Lengths.{fetched, first_place}
use Rattle.kilim_program.specs.lookups.Places.{Rising}
use Rattle.kilim_type_spec.specs.Paths.{Catches, Edge, Done, IsEdge, Leads, Raised}
use Rattle.kilim_type_spec.specs.Typed.{Among, edges, handlers_at}
use Rattle.kilim_type_flow.specs.Edges.{AreEdges, Has, Increases, IsBefore}
use Rattle.kilim_type_flow.specs.Edges as spec
use Rattle.kilim_type_flow.specs.Listing.{EdgesUpTo, FromEntry, Further, edges_of, from_to}
use Rattle.kilim_type_flow.proofs.Entries.{entry_fetched, entry_of, rises, same_entry, same_or}
use Rattle.kilim_type_flow.proofs.Lists.{among_left, among_parts, among_right}
use Rattle.kilim_type_flow.proofs.Pairs.{among_from, among_is, from_one, has_left, has_parts, has_right, increases_on, rises_from, to_each}

pub none_yet : (m : Method) → EdgesUpTo m 0 []
none_yet m = record { increases = tt; sound = λ from to h. absurd h; each = λ at to entry less there along. absurd (omega arith) }

module _ (m : Method) (rising : Rising m.code) where
  later : (count from to : ℕ) → FromEntry m count from to → FromEntry m (count + 1) from to
  later count from to f = record { at = f.at; below = (let b = f.below in omega (arith, b)); entry = f.entry; there = f.there; place = f.place; along = f.along }

  module _ (count : ℕ) (old new : List (ℕ × ℕ)) (up : EdgesUpTo m count old) (f : Further m count old new) where
    news : List (ℕ × ℕ)
    news = map (from_to f.entry.0) f.tos

    before_news : (a b c d : ℕ) → Has old a b → Has news c d → IsBefore (a, b) (c, d)
    unfolding news
    before_news a b c d here there =
        let e = up.sound a b here in
        let n = from_one f.entry.0 f.tos c d there in
        let less = rises m.code e.at count e.entry f.entry rising e.there f.there e.below in
        let place = e.place in
        let from = n.0 in
        inl (omega (arith, less, place, from))

    of_news : (a b : ℕ) → Has news a b → FromEntry m (count + 1) a b
    unfolding news
    of_news a b h =
        let n = from_one f.entry.0 f.tos a b h in
        record { at = count; below = omega arith; entry = f.entry; there = f.there; place = n.0; along = among_from (edges_of m count f.entry) b (f.order.adds_none b (among_is f.tos b n.1)) }

    has_news : (at to : ℕ) (entry : ℕ × Instr) → at ≡ count → slice_get m.code at ≡ Some entry → Among (edges_of m at entry) to → Has news entry.0 to
    unfolding news
    has_news at to entry same there along =
        let is : entry ≡ f.entry = same_entry m.code at count entry f.entry there f.there same in
        let here : Among (edges_of m count entry) to = subst (λ (n : ℕ). Among (edges_of m n entry) to) same along in
        let there' : Among (edges_of m count f.entry) to = subst (λ (x : ℕ × Instr). Among (edges_of m count x) to) is here in
        let has = to_each f.entry.0 f.tos to (among_from f.tos to (f.order.keeps to (among_is (edges_of m count f.entry) to there'))) in
        subst (λ (x : ℕ × Instr). Has (map (from_to f.entry.0) f.tos) x.0 to) (sym is) has

    both : EdgesUpTo m (count + 1) (old ++ news)
    unfolding news
    both = record {
      increases = increases_on old news up.increases (rises_from f.entry.0 f.tos (AllPairs-from_increasing f.tos f.order.rises)) before_news;
      sound = λ from to h. elim (has_parts old news from to h) [ inl a ↦ later count from to (up.sound from to a) | inr b ↦ of_news from to b ];
      each = λ at to entry less there along. elim (same_or at count) [
        | inl same ↦ has_right old news entry.0 to (has_news at to entry same there along)
        | inr other ↦ has_left old news entry.0 to (up.each at to entry (omega (arith, less, other)) there along)
      ];
    }

    pub one_more : EdgesUpTo m (count + 1) new
    unfolding news
    one_more = subst (EdgesUpTo m (count + 1)) (sym f.is) both

  sound_of : (count from to : ℕ) → FromEntry m count from to → spec.Leads m from to
  sound_of count from to f =
      let at_place = entry_fetched m.code m.code_length f.at f.entry rising f.there in
      subst (λ (n : ℕ). spec.Leads m n to) f.place (elim (among_parts (edges f.entry.1 (first_place (drop (f.at + 1) m.code) m.code_length)) (handlers_at m.handlers f.entry.0) to f.along) [
        | inl on ↦ (Done, Leads f.entry.0 (first_place (drop (f.at + 1) m.code) m.code_length) to f.entry.1 at_place on)
        | inr caught ↦ (Raised, Catches f.entry.0 (first_place (drop (f.at + 1) m.code) m.code_length) to f.entry.1 at_place caught)
      ])

  goes : (e : Edge) → IsEdge m e → (next : ℕ) × (i : Instr) × (fetched m.code m.code_length e.from ≡ Some (i, next)) × Among (edges i next ++ handlers_at m.handlers e.from) e.to
  goes e (Leads at next to i there along) = (next, i, there, among_left (edges i next) (handlers_at m.handlers at) to along)
  goes e (Catches at next to i there along) = (next, i, there, among_right (edges i next) (handlers_at m.handlers at) to along)

  pub all_edges : (count : ℕ) (pairs : List (ℕ × ℕ)) → length m.code ≤ count → EdgesUpTo m count pairs → AreEdges m pairs
  all_edges count pairs all up = record {
    increases = up.increases;
    sound = λ from to h. sound_of count from to (up.sound from to h);
    complete = λ from to leads.
        let g = goes (record { from = from; to = to; kind = leads.0 }) leads.1 in
        let e = entry_of m.code m.code_length from g.1 g.0 g.2 in
        let entry : ℕ × Instr = (from, g.1) in
        up.each e.at to entry (let w = slice_get_within m.code e.at _ e.there in omega (arith, w, all)) e.there (subst (λ (n : ℕ). Among (edges g.1 n ++ handlers_at m.handlers from) to) e.behind g.3);
  }
