-- A live local has a type.
use Rattle.std.proofs.Common.{◌≡◌, ℕ, Bool, true, false, refl, sym, ap, ◌∙◌}
use Rattle.kilim_type_spec.specs.Step.{is_top, peek}
use Rattle.kilim_type_spec.specs.Typed.{Catches, GoesOn, ReadsIt}
use Rattle.kilim_type_laws.specs.Laws.{LiveIsTyped}
use Rattle.kilim_type_laws.proofs.Edges.{edges_flow, handlers_flow, stands_at}
use Rattle.kilim_type_laws.proofs.Handlers.{entry_at}
use Rattle.kilim_type_laws.proofs.Tops.{read_has_type, top_flows, top_stays}

not_both : (b : Bool) → (b ≡ true → true ≡ false) → b ≡ false
not_both true h = h refl
not_both false h = refl

pub live_is_typed : LiveIsTyped
live_is_typed p keeps m typing well k at (ReadsIt place to i is reads) =
    let s = stands_at p keeps m typing well place i to is in
    read_has_type p m place i (typing place) s.after k s.step reads
live_is_typed p keeps m typing well k at (GoesOn place to q i is writes among live) =
    let behind = live_is_typed p keeps m typing well k q live in
    let goes = edges_flow p keeps m typing well place to q i is among in
    not_both (is_top (peek (typing place).locals k)) (λ top. sym (top_flows p _ _ (goes.flows.locals k) (top_stays p m place i (typing place) goes.left k goes.step writes top)) ∙ behind)
live_is_typed p keeps m typing well k at (Catches place to q i is among live) =
    let behind = live_is_typed p keeps m typing well k q live in
    let e = entry_at m.handlers place q among in
    let lands = handlers_flow p keeps m typing well place to e.n i e.entry is e.there e.covering in
    let same : is_top (peek (typing e.entry.at).locals k) ≡ is_top (peek (typing q).locals k) = ap (λ (z : ℕ). is_top (peek (typing z).locals k)) e.leads in
    not_both (is_top (peek (typing place).locals k)) (λ top. sym (top_flows p _ _ (lands.flows.locals k) top) ∙ (same ∙ behind))
