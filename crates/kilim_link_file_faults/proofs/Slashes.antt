-- The parts of a name between slashes.
use Rattle.std.proofs.Common.{◌≡◌, ℕ, Bool, true, false, not, ◌==◌, List, [], ◌∷◌, refl, ◌∙◌, sym}
use Rattle.std.specs.List.{list_all, slice_split, onto_first}
use Rattle.kilim_program.specs.Names.{is_empty}
use Rattle.kilim_link_file_faults.specs.Slashes.{parts_from}

abbrev split : List ℕ → List (List ℕ)
split xs = slice_split (λ u. u == 47) xs

abbrev whole : List (List ℕ) → Bool
whole parts = list_all (λ p. not (is_empty p)) parts

abbrev behind : List (List ℕ) → List (List ℕ)
behind [] = []
behind (part ∷ parts) = parts

onto : (u : ℕ) (parts : List (List ℕ)) → whole (onto_first u parts) ≡ whole (behind parts)
onto u [] = refl
onto u (part ∷ parts) = refl

onto_behind : (u : ℕ) (parts : List (List ℕ)) → behind (onto_first u parts) ≡ behind parts
onto_behind u [] = refl
onto_behind u (part ∷ parts) = refl

begun : (b : Bool) (u : ℕ) (us : List ℕ) → (u == 47) ≡ b → parts_from false us ≡ whole (behind (split us)) → parts_from true (u ∷ us) ≡ whole (split (u ∷ us))
begun true u us e inside = rw e refl
begun false u us e inside = rw e (inside ∙ sym (onto u (split us)))

inner : (b : Bool) (u : ℕ) (us : List ℕ) → (u == 47) ≡ b → parts_from true us ≡ whole (split us) → parts_from false us ≡ whole (behind (split us)) → parts_from false (u ∷ us) ≡ whole (behind (split (u ∷ us)))
inner true u us e begins inside = rw e begins
inner false u us e begins inside = rw (e, onto_behind u (split us)) inside

are_whole : (xs : List ℕ) → (parts_from true xs ≡ whole (split xs)) × (parts_from false xs ≡ whole (behind (split xs)))
are_whole [] = (refl, refl)
are_whole (u ∷ us) =
    let each = are_whole us in
    (begun (u == 47) u us refl each.1, inner (u == 47) u us refl each.0 each.1)

pub parts_are_whole : (xs : List ℕ) → parts_from true xs ≡ list_all (λ p. not (is_empty p)) (slice_split (λ u. u == 47) xs)
parts_are_whole xs = (are_whole xs).0
