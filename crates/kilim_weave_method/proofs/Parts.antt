-- Methods by their parts.
use Rattle.std.proofs.Common.{◌≡◌, Result, Ok, Err, ap, ◌∙◌}
use Rattle.std.specs.Prelude.{IfOk}
use Rattle.kilim_program.specs.declared.class.Method.{Method}
use Rattle.kilim_weave_spec.specs.Woven as form
use Rattle.kilim_weave_pieces.specs.declared.item.Items.{Items}
use Rattle.kilim_weave_pieces.specs.Items.{items_of}
use Rattle.kilim_weave_method.specs.declared.copy.Body.{Body}
use Rattle.kilim_weave_method.specs.declared.copy.Head.{Head}
use Rattle.kilim_weave_method.specs.Laid.{Output}
use Rattle.kilim_weave_method.specs.declared.method.Outside.{Outside}

-- the items by a plan are those by the plan that it is
pub items_by : {E : Type 0} (r : Result Items E) (x y : form.Plan) → x ≡ y → IfOk r (λ items. items_of items ≡ form.woven_items x) → IfOk r (λ items. items_of items ≡ form.woven_items y)
items_by (Ok items) x y same is = is ∙ ap form.woven_items same
items_by (Err e) x y same is = is

pub with_same_body : (m r : Method) (h : Head) (b c : Body) → r ≡ record m { name = h.name; params = h.params; qualifiers = h.qualifiers; handlers = h.handlers; code = b.code; frames = b.frames } → b ≡ c
    → r ≡ record m { name = h.name; params = h.params; qualifiers = h.qualifiers; handlers = h.handlers; code = c.code; frames = c.frames }
with_same_body m r h b c is same = is ∙ ap (λ (x : Body). record m { name = h.name; params = h.params; qualifiers = h.qualifiers; handlers = h.handlers; code = x.code; frames = x.frames }) same

pub with_same_outside : (m r : Method) (laid : Output) (o p : Outside)
    → r ≡ record m { name = o.head.name; params = o.head.params; qualifiers = o.head.qualifiers; handlers = o.head.handlers; max_stack = o.max_stack; max_locals = o.max_locals; code_length = laid.end; code = laid.code; frames = laid.frames } → o ≡ p
    → r ≡ record m { name = p.head.name; params = p.head.params; qualifiers = p.head.qualifiers; handlers = p.head.handlers; max_stack = p.max_stack; max_locals = p.max_locals; code_length = laid.end; code = laid.code; frames = laid.frames }
with_same_outside m r laid o p is same =
    is
    ∙ ap (λ (x : Outside). record m { name = x.head.name; params = x.head.params; qualifiers = x.head.qualifiers; handlers = x.head.handlers; max_stack = x.max_stack; max_locals = x.max_locals; code_length = laid.end; code = laid.code; frames = laid.frames }) same
