-- The shape of items: labels, lengths and marks. It depends on no place.
use Rattle.std.proofs.Common.{◌≡◌, ◌⊎◌, inl, inr, ℕ, suc, ◌+◌, ◌*◌, Bool, true, false, cond, pos, List, [], ◌∷◌, length, Option, Some, None, refl, sym, ap, ◌∙◌}
use Rattle.std.specs.Prelude.{is_some, nat_le}
use Rattle.kilim_program.specs.declared.class.Method.{Method}
use Rattle.kilim_program.specs.declared.instr.Instr.{Instr}
use Rattle.kilim_program.specs.declared.instr.Instr.TheVariants.{AconstNull, Aload, Astore, Bipush, Iconst, Sipush}
use Rattle.kilim_program.specs.declared.ty.Ty.{Ty}
use Rattle.kilim_program.specs.declared.verified.VType.{VType}
use Rattle.kilim_program.specs.declared.verified.VType.TheVariants.{Top, Int, Long, Null, UninitThis, Uninit, Object}
use Rattle.kilim_program.specs.Lengths.{first_place, switch_padding}
use Rattle.kilim_weave_spec.specs.Woven.{Does, Item, Label, Mark, Plan, added, behind, below, block, blocks, count, drop_result, dummies, dummy_return, group, leave, local_size, marks, pausable_callee, piece, pieces, receiver, receiver_of, restore, restore_local, restore_locals, restore_receiver, restore_stack, resume_code, resume_places, save, save_local, save_locals, save_stack, saved, self_slot, woven_items}
use Rattle.kilim_weave_laws.specs.shape.Law.{PlacesDontMatter, labels_from, placed}

abbrev One : Type 0
One = Label ⊎ ((ℕ → ℕ) × Bool)

abbrev shape : List Item → List One
shape [] = []
shape (Mark label frame ∷ rest) = inl label ∷ shape rest
shape (Does i size counted ∷ rest) = inr (size, counted) ∷ shape rest

-- ---- what a shape tells

abbrev labels_in : ℕ → List One → List (Label × ℕ)
labels_in q [] = []
labels_in q (inl label ∷ rest) = (label, q) ∷ labels_in q rest
labels_in q (inr e ∷ rest) = labels_in (q + e.0 q) rest

abbrev ends_at : ℕ → List One → ℕ
ends_at q [] = q
ends_at q (inl label ∷ rest) = ends_at q rest
ends_at q (inr e ∷ rest) = ends_at (q + e.0 q) rest

abbrev marks_in : List One → List Bool
marks_in [] = []
marks_in (inl label ∷ rest) = marks_in rest
marks_in (inr e ∷ rest) = e.1 ∷ marks_in rest

labels_told : (items : List Item) (q : ℕ) → labels_from q items ≡ labels_in q (shape items)
labels_told [] q = refl
labels_told (Mark label frame ∷ rest) q = ap (λ zs. (label, q) ∷ zs) (labels_told rest q)
labels_told (Does i size counted ∷ rest) q = labels_told rest (q + size q)

end_told : (items : List Item) (q : ℕ) → behind q items ≡ ends_at q (shape items)
end_told [] q = refl
end_told (Mark label frame ∷ rest) q = end_told rest q
end_told (Does i size counted ∷ rest) q = end_told rest (q + size q)

marks_told : (items : List Item) → marks items ≡ marks_in (shape items)
marks_told [] = refl
marks_told (Mark label frame ∷ rest) = marks_told rest
marks_told (Does i size counted ∷ rest) = ap (λ zs. counted ∷ zs) (marks_told rest)

-- ---- stretches

next : {o : One} {a b : List One} → a ≡ b → (o ∷ a) ≡ (o ∷ b)
next {o} e = ap (λ (zs : List One). o ∷ zs) e

module _ (x : Plan) (at block_at : ℕ → ℕ) where
  abbrev y : Plan
  y = placed x at block_at

  Same : List Item → List Item → Type 0
  Same r s = shape r ≡ shape s

  save_same : (t : VType) (r s : List Item) → Same r s → Same (save y t r) (save x t s)
  unfolding Same
  save_same Int r s e = next (next e)
  save_same Long r s e = next (next e)
  save_same (Object ty) r s e = next (next e)
  save_same Top r s e = next e
  save_same Null r s e = next e
  save_same UninitThis r s e = next e
  save_same (Uninit q) r s e = next e

  save_stack_same : (ts : List VType) (r s : List Item) → Same r s → Same (save_stack y ts r) (save_stack x ts s)
  save_stack_same [] r s e = e
  save_stack_same (t ∷ ts) r s e = save_same t (save_stack y ts r) (save_stack x ts s) (save_stack_same ts r s e)

  save_local_same : (slot : ℕ) (t : VType) (r s : List Item) → Same r s → Same (save_local y slot t r) (save_local x slot t s)
  unfolding Same
  save_local_same slot Null r s e = e
  save_local_same slot Int r s e = next (save_same Int r s e)
  save_local_same slot Long r s e = next (save_same Long r s e)
  save_local_same slot Top r s e = next (save_same Top r s e)
  save_local_same slot UninitThis r s e = next (save_same UninitThis r s e)
  save_local_same slot (Uninit q) r s e = next (save_same (Uninit q) r s e)
  save_local_same slot (Object ty) r s e = next (save_same (Object ty) r s e)

  save_locals_same : (es : List (ℕ × VType)) (r s : List Item) → Same r s → Same (save_locals y es r) (save_locals x es s)
  save_locals_same [] r s h = h
  save_locals_same (e ∷ es) r s h = save_local_same e.0 e.1 (save_locals y es r) (save_locals x es s) (save_locals_same es r s h)

  restore_same : (t : VType) (r s : List Item) → Same r s → Same (restore y t r) (restore x t s)
  unfolding Same
  restore_same Int r s e = next (next e)
  restore_same Long r s e = next (next e)
  restore_same (Object ty) r s e = next (next (next e))
  restore_same Top r s e = next e
  restore_same Null r s e = next e
  restore_same UninitThis r s e = next e
  restore_same (Uninit q) r s e = next e

  restore_stack_same : (ts : List VType) (r s : List Item) → Same r s → Same (restore_stack y ts r) (restore_stack x ts s)
  restore_stack_same [] r s e = e
  restore_stack_same (t ∷ ts) r s e = restore_stack_same ts (restore y t r) (restore x t s) (restore_same t r s e)

  restore_local_same : (slot : ℕ) (t : VType) (r s : List Item) → Same r s → Same (restore_local y slot t r) (restore_local x slot t s)
  unfolding Same
  restore_local_same slot t r s e = restore_same t (_ ∷ r) (_ ∷ s) (next e)

  restore_locals_same : (es : List (ℕ × VType)) (r s : List Item) → Same r s → Same (restore_locals y es r) (restore_locals x es s)
  restore_locals_same [] r s h = h
  restore_locals_same (e ∷ es) r s h = restore_locals_same es (restore_local y e.0 e.1 r) (restore_local x e.0 e.1 s) (restore_local_same e.0 e.1 r s h)

  number_same : (a b : Bool) (n : ℕ) (r s : List Item) → Same r s → Same (cond a (added (Iconst (pos n)) 1) (cond b (added (Bipush (pos n)) 2) (added (Sipush (pos n)) 3)) ∷ r) (cond a (added (Iconst (pos n)) 1) (cond b (added (Bipush (pos n)) 2) (added (Sipush (pos n)) 3)) ∷ s)
  unfolding Same
  number_same true b n r s e = next e
  number_same false true n r s e = next e
  number_same false false n r s e = next e

  self_same : (b : Bool) (r s : List Item) → Same r s → Same (cond b (added AconstNull 1) (added (Aload (self_slot x.method)) (local_size (self_slot x.method))) ∷ r) (cond b (added AconstNull 1) (added (Aload (self_slot x.method)) (local_size (self_slot x.method))) ∷ s)
  unfolding Same
  self_same true r s e = next e
  self_same false r s e = next e

  dummy_return_same : (o : Option Ty) (r s : List Item) → Same r s → Same (dummy_return o r) (dummy_return o s)
  unfolding Same
  dummy_return_same None r s e = next e
  dummy_return_same (Some ty) r s e = next (next e)

  drop_result_same : (o : Option Ty) (r s : List Item) → Same r s → Same (drop_result o r) (drop_result o s)
  unfolding Same
  drop_result_same None r s e = e
  drop_result_same (Some ty) r s e = next e

  dummies_same : (tys : List Ty) (r s : List Item) → Same r s → Same (dummies tys r) (dummies tys s)
  unfolding Same
  dummies_same [] r s e = e
  dummies_same (ty ∷ tys) r s e = next (dummies_same tys r s e)

  receiver_same : (t : VType) (r s : List Item) → Same r s → Same (receiver_of y t r) (receiver_of x t s)
  unfolding Same
  receiver_same (Object ty) r s e = next (next (next e))
  receiver_same Int r s e = next e
  receiver_same Long r s e = next e
  receiver_same Top r s e = next e
  receiver_same Null r s e = next e
  receiver_same UninitThis r s e = next e
  receiver_same (Uninit q) r s e = next e

  restore_receiver_same : (b : Bool) (t : VType) (r s : List Item) → Same r s → Same (restore_receiver b y t r) (restore_receiver b x t s)
  restore_receiver_same true t r s e = e
  restore_receiver_same false t r s e = receiver_same t r s e

  leave_same : (number : ℕ) (callee : Method) (place to : ℕ) (r s : List Item) → Same r s → Same (leave y number callee place to r) (leave x number callee place to s)
  unfolding Same
  leave_same number callee place to r s e =
      save_stack_same (below x callee place) _ _ (save_locals_same (saved x place to) _ _
      (number_same (nat_le number 5) (nat_le number 127) number _ _ (self_same x.method.is_static _ _ (next (next (dummy_return_same x.method.result r s e))))))

  group_same : (number : ℕ) (callee : Method) (place to : ℕ) (i : Instr) (r s : List Item) → Same r s → Same (group y number callee place to i r) (group x number callee place to i s)
  unfolding Same
  group_same number callee place to i r s e =
      next (next (next (next (next (next (next (drop_result_same callee.result (leave y number callee place to r) (leave x number callee place to s) (leave_same number callee place to r s e))))))))

  piece_same : (o : Option Method) (first : Bool) (number place to : ℕ) (i : Instr) (r s : List Item) → Same r s → Same (piece o y first number place to i r) (piece o x first number place to i s)
  unfolding Same
  piece_same None first number place to i r s e = next (next e)
  piece_same (Some callee) first number place to i r s e = group_same number callee place to i r s e

  pieces_same : (es : List (ℕ × Instr)) (first : Bool) (number : ℕ) (r s : List Item) → Same r s → Same (pieces y first number es r) (pieces x first number es s)
  pieces_same [] first number r s h = h
  pieces_same (e ∷ es) first number r s h =
      let o = pausable_callee x.program e.1 in
      piece_same o first number e.0 (first_place es x.method.code_length) e.1 (pieces y (is_some o) (count o number) es r) (pieces x (is_some o) (count o number) es s) (pieces_same es (is_some o) (count o number) r s h)

  resume_same : (callee : Method) (place to : ℕ) (r s : List Item) → Same r s → Same (resume_code y callee place to r) (resume_code x callee place to s)
  unfolding Same
  resume_same callee place to r s e =
      restore_locals_same (saved x place to) _ _ (restore_stack_same (below x callee place) _ _
      (restore_receiver_same callee.is_static (receiver x callee place) _ _ (dummies_same callee.params _ _ (next e))))

  block_same : (o : Option Method) (number place to : ℕ) (r s : List Item) → Same r s → Same (block o y number place to r) (block o x number place to s)
  unfolding Same
  block_same None number place to r s e = e
  block_same (Some callee) number place to r s e = next (resume_same callee place to r s e)

  blocks_same : (es : List (ℕ × Instr)) (number : ℕ) → Same (blocks y number es) (blocks x number es)
  unfolding Same
  blocks_same [] number = refl
  blocks_same (e ∷ es) number =
      let o = pausable_callee x.program e.1 in
      block_same o number e.0 (first_place es x.method.code_length) (blocks y (count o number) es) (blocks x (count o number) es) (blocks_same es (count o number))

  resumes_same : (es : List (ℕ × Instr)) (number : ℕ) → length (resume_places y number es) ≡ length (resume_places x number es)
  resumes_same [] number = refl
  resumes_same (e ∷ es) number = by (is_some (pausable_callee x.program e.1)) (resumes_same es (suc number)) (resumes_same es number)
    where
      by : (b : Bool) → length (resume_places y (suc number) es) ≡ length (resume_places x (suc number) es) → length (resume_places y number es) ≡ length (resume_places x number es) →
          length (cond b (block_at number ∷ resume_places y (suc number) es) (resume_places y number es)) ≡ length (cond b (x.block number ∷ resume_places x (suc number) es) (resume_places x number es))
      by true a b = ap suc a
      by false a b = b

  self_items_same : (b : Bool) (r s : List Item) → Same r s → Same (cond b r (added (Aload 0) 1 ∷ added (Astore (self_slot x.method)) (local_size (self_slot x.method)) ∷ r)) (cond b s (added (Aload 0) 1 ∷ added (Astore (self_slot x.method)) (local_size (self_slot x.method)) ∷ s))
  unfolding Same
  self_items_same true r s e = e
  self_items_same false r s e = next (next e)

  switch_same : (n m : ℕ) (a b : List One) → n ≡ m → a ≡ b → ◌≡◌ {A = List One} (inr ((λ place. 13 + (switch_padding place + 4 * n)), false) ∷ a) (inr ((λ place. 13 + (switch_padding place + 4 * m)), false) ∷ b)
  switch_same n m a b e f = ap (λ (k : ℕ). inr ((λ place. 13 + (switch_padding place + 4 * k)), false) ∷ a) e ∙ ap (λ (zs : List One). inr ((λ place. 13 + (switch_padding place + 4 * m)), false) ∷ zs) f

  pub all_same : shape (woven_items y) ≡ shape (woven_items x)
  unfolding Same
  all_same =
      next (next (self_items_same x.method.is_static _ _ (next (next
      (switch_same (length (resume_places y 1 x.method.code)) (length (resume_places x 1 x.method.code)) _ _ (resumes_same x.method.code 1)
      (pieces_same x.method.code true 1 (blocks y 1 x.method.code) (blocks x 1 x.method.code) (blocks_same x.method.code 1)))))))

pub same_places : PlacesDontMatter
same_places x at block q =
    let y = placed x at block in
    let e = all_same x at block in (
      labels_told (woven_items y) q ∙ (ap (labels_in q) e ∙ sym (labels_told (woven_items x) q)),
      end_told (woven_items y) q ∙ (ap (ends_at q) e ∙ sym (end_told (woven_items x) q)),
      marks_told (woven_items y) ∙ (ap marks_in e ∙ sym (marks_told (woven_items x))),
    )
