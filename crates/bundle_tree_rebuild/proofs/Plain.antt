-- With plain changes, what a part becomes is what `Edits` says.
use Rattle.std.proofs.Common.{◌≡◌, ℕ, true, List, [], ◌∷◌, ◌++◌, Option, Some, None, drop, refl, ap, sym, ◌∙◌, subst}
use Rattle.bundle_syntax.specs.declared.kind.MetaPropKind.{MetaPropKind}
use Rattle.bundle_syntax.specs.declared.kind.MetaPropKind.TheVariants as k
use Rattle.bundle_syntax.specs.Item as h
use Rattle.bundle_syntax.specs.Item.{Item, Head}
use Rattle.bundle_rules.specs.Nodes.{Text}
use Rattle.bundle_rules.specs.Rebuilds.{Change}
use Rattle.bundle_tree_places.specs.Edits as e
use Rattle.bundle_tree_places.specs.Edits.{Around, Anywhere, Edited, Edits, node, is_plain, in_its_place, shorthand_in_its_place}
use Rattle.bundle_tree_rebuild.specs.Becomes as b
use Rattle.bundle_tree_rebuild.specs.Becomes.{Becomes, stays, keeps_first, kept_notes, name_for_call, name_for_member, name_for_meta}
use Rattle.bundle_tree_rebuild.specs.Work.{Work, after, next, plain, upcoming}

-- what is left behind an occurrence
after_plain : (changes : List Change) → after (plain changes) ≡ plain (drop 1 changes)
after_plain [] = refl
after_plain (change ∷ changes) = refl

-- the change of the next occurrence
next_plain : (changes : List Change) (x : Text) → next (plain changes) x ≡ e.next changes
next_plain [] x = refl
next_plain (change ∷ changes) x = refl

-- no name stands for more than an occurrence
no_reads : (changes : List Change) (inside : List Item) → name_for_member (upcoming (plain changes)) inside ≡ None
no_reads [] inside = refl
no_reads (change ∷ changes) inside = refl

no_call : (changes : List Change) (inside : List Item) → name_for_call (upcoming (plain changes)) inside ≡ None
no_call [] inside = refl
no_call (change ∷ changes) inside = refl

no_meta : (kind : MetaPropKind) → name_for_meta None kind ≡ None
no_meta k.ImportMeta = refl
no_meta k.NewTarget = refl

not_both : {A : Type 0} {found : Option A} {x : A} {P : Type 0} → found ≡ None → found ≡ Some x → P
not_both none some = cc

-- a node that stays is a plain node
plain_stays : (work : Work) (head : Head) (inside : List Item) → stays work head inside ≡ true → is_plain head inside ≡ true
plain_stays work (h.VarDecl kind notes) inside is = refl
plain_stays work h.MemberExpr inside is = refl
plain_stays work h.CallExpr inside is = refl
plain_stays work (h.MetaPropExpr kind) inside is = refl
plain_stays work (h.AssignExpr op) inside is = refl
plain_stays work (h.OptChainExpr optional) inside is = refl
plain_stays work _ inside is = is

-- a node whose first part is kept, as a plain node
kept : {around : Around} {changes rest : List Change} (field : ℕ) (head : Head) (first : ℕ) {inside made : List Item} → keeps_first head first ≡ true → Edits Anywhere changes inside made rest → Edits around changes (node field head inside) (node field head made) rest
kept field (h.AssignExpr op) first keeps one = e.Inside field (h.AssignExpr op) refl one
kept field (h.OptChainExpr optional) first keeps one = e.Inside field (h.OptChainExpr optional) refl one
kept field _ first keeps one = cc

-- the edit by its changes, with the changes that are left
pub record Left (around : Around) (changes : List Change) (before after : List Item) (rest : Work) : Type 0 where
  pub changes_left : List Change
  pub edits : Edits around changes before after changes_left
  pub rest_is : rest ≡ plain changes_left

pub plain_edits : {around : Around} {work rest : Work} {before after : List Item} → Becomes around work before after rest → (changes : List Change) → work ≡ plain changes → Left around changes before after rest
plain_edits b.Nothing changes is = record { changes_left = changes; edits = e.Nothing; rest_is = is }
plain_edits (b.Joined one two) changes is =
    let front = plain_edits one changes is in
    let back = plain_edits two front.changes_left front.rest_is in
    record { changes_left = back.changes_left; edits = e.Joined front.edits back.edits; rest_is = back.rest_is }
plain_edits (b.Hole field) changes is = record { changes_left = changes; edits = e.Hole field; rest_is = is }
plain_edits (b.Word field x ctxt role word) changes is = record { changes_left = changes; edits = e.Word field x ctxt role word; rest_is = is }
plain_edits (b.Name around field x ctxt role occurs) changes is = record {
  changes_left = drop 1 changes;
  edits = subst (λ change. Edits around changes (h.Ident field x ctxt role ∷ []) (in_its_place around change field x ctxt role) (drop 1 changes)) (sym (next_plain changes x) ∙ ap (λ work. next work x) (sym is)) (e.Name around field x ctxt role occurs);
  rest_is = ap after is ∙ after_plain changes;
}
plain_edits (b.Inside {work = work} field head {inside = inside} it_stays one) changes is =
    let within = plain_edits one changes is in
    record { changes_left = within.changes_left; edits = e.Inside field head (plain_stays work head inside it_stays) within.edits; rest_is = within.rest_is }
plain_edits {around = around} (b.Declaration field kind notes {inside = inside} {made = made} one) changes is =
    let within = plain_edits one changes is in
    record {
      changes_left = within.changes_left;
      edits = subst (λ clears. Edits around changes (node field (h.VarDecl kind notes) inside) (node field (h.VarDecl kind (kept_notes clears notes)) made) within.changes_left) (ap (λ work. work.clears_notes) (sym is)) (e.Inside field (h.VarDecl kind notes) refl within.edits);
      rest_is = within.rest_is;
    }
plain_edits (b.Kept field head first keeps one two) changes is =
    let front = plain_edits one changes is in
    let back = plain_edits two front.changes_left front.rest_is in
    record { changes_left = back.changes_left; edits = kept field head first keeps (e.Joined (e.Inside first h.MemberExpr refl front.edits) back.edits); rest_is = back.rest_is }
plain_edits {around = around} (b.Shorthand field x ctxt role {default = default} {made = made} occurs one) changes is =
    let within = plain_edits one (drop 1 changes) (ap after is ∙ after_plain changes) in
    record {
      changes_left = within.changes_left;
      edits = subst (λ change. Edits around changes (node field h.AssignPatProp (e.binding None 0 x ctxt role ++ default)) (shorthand_in_its_place change field x ctxt role made) within.changes_left) (sym (next_plain changes x) ∙ ap (λ work. next work x) (sym is)) (e.Shorthand field x ctxt role occurs within.edits);
      rest_is = within.rest_is;
    }
plain_edits (b.OfReads field name inside found) changes is = not_both (ap (λ work. name_for_member (upcoming work) inside) is ∙ no_reads changes inside) found
plain_edits (b.OfCall field name inside found) changes is = not_both (ap (λ work. name_for_call (upcoming work) inside) is ∙ no_call changes inside) found
plain_edits (b.OfMeta field kind name found) changes is = not_both (ap (λ work. name_for_meta work.meta kind) is ∙ no_meta kind) found

-- a whole part
pub plain_edited : {work rest : Work} {before after : List Item} {changes : List Change} → work ≡ plain changes → Becomes Anywhere work before after rest → Edited changes before after
plain_edited {changes = changes} is one =
    let all = plain_edits one changes is in
    record { rest = all.changes_left; by = all.edits }
