use Rattle.std.proofs.Common.{◌≡◌, ◌∙◌, sym, ap, refl, arith, ℕ, ◌+◌, ◌<◌, ◌≤◌, zero, suc, Bool, List, [], ◌∷◌, ◌++◌, length, drop, get_or, add-one, append_assoc}
use Rattle.std.proofs.Math.Seq.{drop-cons}
use Rattle.kilim_run_state.specs.declared.value.Token.{Token}
use Rattle.kilim_run_journal.specs.Text.{comma_before, is_followed, token_text, tokens_text}
use Rattle.kilim_run_journal.proofs.pieces.push_shape.Goals as goal

one_less : (ts : List Token) (i : ℕ) (t : Token) → i < length ts → t ≡ get_or ts i t → drop i ts ≡ t ∷ drop (i + 1) ts
one_less ts i t lt is = drop-cons ts i t lt ∙ (ap (λ u. u ∷ drop (suc i) ts) (sym is) ∙ ap (λ n. t ∷ drop n ts) (sym (add-one i)))

token_more : (follows next : Bool) (ts : List Token) (i : ℕ) (t : Token) (out mid now all : List ℕ) → i < length ts → t ≡ get_or ts i t → out ++ tokens_text follows (drop i ts) ≡ all → mid ≡ out ++ comma_before follows t → now ≡ mid ++ token_text t → next ≡ is_followed t → now ++ tokens_text next (drop (i + 1) ts) ≡ all
token_more follows next ts i t out mid now all lt is so comma token behind =
    let rest : List ℕ = tokens_text (is_followed t) (drop (i + 1) ts) in
    ap (λ f. now ++ tokens_text f (drop (i + 1) ts)) behind
    ∙ (ap (λ l. l ++ rest) (token ∙ ap (λ l. l ++ token_text t) comma)
    ∙ (append_assoc (out ++ comma_before follows t) (token_text t) rest
    ∙ (append_assoc out (comma_before follows t) (token_text t ++ rest)
    ∙ (ap (λ l. out ++ tokens_text follows l) (sym (one_less ts i t lt is)) ∙ so))))

pub loop-token-preserved : goal.loop-token-preserved
loop-token-preserved c = token_more c.loop-token.follows c.is_followed-follows.result c.args.shape.now c.loop-token.token-index c.token-item.result c.loop-token.out.items c.push_comma.new.out.items c.push_token.new.out.items _ c.loop-token-test.true c.token-item.is c.loop-token.invariant c.in-Ok.ensures c.in-Ok-push_token.ensures c.is_followed-follows.ensures

none_left : (ts : List Token) (i : ℕ) → length ts ≤ i → drop i ts ≡ []
none_left [] zero h = refl
none_left [] (suc i) h = refl
none_left (t ∷ ts) zero h = absurd (omega arith)
none_left (t ∷ ts) (suc i) h = none_left ts i (omega arith)

nothing_more : (xs : List ℕ) → xs ≡ xs ++ []
nothing_more [] = refl
nothing_more (x ∷ xs) = ap (λ ys. x ∷ ys) (nothing_more xs)

pub returns : goal.returns
returns c =
    let out = c.loop-token.out.items in
    nothing_more out ∙ (ap (λ l. out ++ tokens_text c.loop-token.follows l) (sym (none_left c.args.shape.now c.loop-token.token-index (omega arith))) ∙ c.loop-token.invariant)
