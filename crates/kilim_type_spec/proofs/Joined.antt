-- Lists in parts, one part after the other; and two lists, one element after the other.
use Rattle.std.proofs.Common.{◌≡◌, ℕ, zero, suc, ◌+◌, ◌<◌, ◌≤◌, refl, ap, sym, ◌∙◌, arith, List, [], ◌∷◌, ◌++◌, length, take, drop, get_or, add-one}
use Rattle.std.proofs.lemmas.List.{append-nil, append_assoc, take-append-drop, drop_more, drop_all, take_more, take_all}
use Rattle.kilim_type_spec.specs.Parts.{joined}

module _ {X : Type 0} where
  pub joined_push : (parts : List (List X)) (part : List X) → joined (parts ++ part ∷ []) ≡ joined parts ++ part
  joined_push [] part = append-nil part
  joined_push (p ∷ parts) part = ap (λ xs. p ++ xs) (joined_push parts part) ∙ sym (append_assoc p (joined parts) part)

  -- a further part, the front of what is left
  pub joined_on : (parts : List (List X)) (part left rest types : List X) → part ++ rest ≡ left → joined parts ++ left ≡ types → joined (parts ++ part ∷ []) ++ rest ≡ types
  joined_on parts part left rest types front so_far =
      ap (λ xs. xs ++ rest) (joined_push parts part) ∙ append_assoc (joined parts) part rest ∙ ap (λ xs. joined parts ++ xs) front ∙ so_far

  pub none_left : (xs : List X) → length xs ≤ 0 → xs ≡ []
  none_left [] h = refl
  none_left (x ∷ xs) h = absurd (omega arith)

  pub joined_all : (parts : List (List X)) (left types : List X) → length left ≤ 0 → joined parts ++ left ≡ types → joined parts ≡ types
  joined_all parts left types none so_far = sym (append-nil (joined parts)) ∙ ap (λ xs. joined parts ++ xs) (sym (none_left left none)) ∙ so_far

  -- the parts from one on are what is left
  pub parts_on : (parts : List (List X)) (k : ℕ) (part left rest : List X) (d : List X) → k < length parts → part ≡ get_or parts k d → part ++ rest ≡ left → joined (drop (k + 1) parts) ≡ rest → joined (drop k parts) ≡ left
  parts_on parts k part left rest d lt is front so_far =
      ap joined (drop_more parts k d lt) ∙ ap (λ xs. xs ++ joined (drop (k + 1) parts)) (sym is) ∙ ap (λ xs. part ++ xs) so_far ∙ front

  pub parts_end : (parts : List (List X)) (k : ℕ) (left : List X) → length parts ≤ k → length left ≤ 0 → joined (drop k parts) ≡ left
  parts_end parts k left past none = ap joined (drop_all k parts past) ∙ sym (none_left left none)

  -- the types of the parts so far
  pub types_on : (parts : List (List X)) (k : ℕ) (types part : List X) (d : List X) → k < length parts → part ≡ get_or parts k d → types ≡ joined (take k parts) → types ++ part ≡ joined (take (k + 1) parts)
  types_on parts k types part d lt is so_far =
      ap (λ xs. xs ++ part) so_far ∙ sym (ap joined (take_more parts k d lt) ∙ joined_push (take k parts) (get_or parts k d) ∙ ap (λ xs. joined (take k parts) ++ xs) (sym is))

  -- ---- two lists

  pub same_on : (xs ys : List X) (k : ℕ) (d : X) → k < length xs → k < length ys → take k xs ≡ take k ys → get_or xs k d ≡ get_or ys k d → take (k + 1) xs ≡ take (k + 1) ys
  same_on xs ys k d one other so_far here =
      take_more xs k d one ∙ ap (λ zs. zs ++ get_or xs k d ∷ []) so_far ∙ ap (λ z. take k ys ++ z ∷ []) here ∙ sym (take_more ys k d other)

  pub same_end : (xs ys : List X) (k : ℕ) → length xs ≤ k → length ys ≤ k → take k xs ≡ take k ys → xs ≡ ys
  same_end xs ys k one other so_far = sym (take_all k xs one) ∙ so_far ∙ take_all k ys other
