-- Each identifier that occurs has its change.
use Rattle.std.proofs.Common.{◌≡◌, ◌+◌, ◌++◌, ℕ, suc, Option, List, length, map, option_to_list, refl, ap, sym, ◌∙◌, subst, arith}
use Rattle.std.specs.List.{flat_map}
use Rattle.std.specs.Prelude.{Vec, slice_get}
use Rattle.std.specs.declared.alloc.Global.{Global}
use Rattle.std.proofs.lemmas.List.{length-map}
use Rattle.std.proofs.lemmas.Option.{slice_get_read}
use Rattle.bundle_syntax.specs.Item.{item_of}
use Rattle.bundle_scope_denote.specs.declared.table.Denoted.{Denoted}
use Rattle.bundle_scope_denote.proofs.LoopLemmas.{take-whole}
use Rattle.bundle_tree_places.specs.declared.change.Change as places
use Rattle.bundle_tree_places.specs.Changes.{change_of}
use Rattle.bundle_tree_places.specs.Marks.{ident_of}
use Rattle.bundle_scope_names.specs.Called.{name_changes}
use Rattle.bundle_scope_names.specs.Changed.{change_next, idents_as}
use Rattle.bundle_scope_names.proofs.HomesLemmas.{changes_to_here, idents-each, changes-more, changes-same}
use Rattle.bundle_scope_names.proofs.rename.changes_of.Goals as goal
use Rattle.bundle_scope_names.proofs.rename.changes_of.Goals.{in-Some+in_ok-add_change, in_default}

pub loop-piece-init : goal.loop-piece-init
loop-piece-init c = ap (map change_of) c.in_ok-changes.ensures.items

pub loop-piece-preserved : goal.loop-piece-preserved
loop-piece-preserved c =
    let i : ℕ = c.loop-piece.piece-index in
    let one : suc i ≡ i + 1 = omega arith in
    let bindings : List (Option ℕ) = map (λ (d : Denoted). d.binding) c.args.denotations.now.occurrences.items in
    let is_at = slice_get_read c.args.pieces.now _ i c.piece-item.result refl c.loop-piece-test.true c.piece-item.is in
    subst (λ n. map change_of c.match-name_of.changes.items ≡ changes_to_here item_of c.args.names.now c.args.contexts c.args.pieces.now n bindings) one
    (elim c.match-name_of.branch [
      | in-Some+in_ok-add_change w ↦ changes-more item_of c.args.names.now c.args.contexts c.args.pieces.now i c.piece-item.result (ident_of w.in-Some.old) bindings (map change_of c.loop-piece.changes.items) (map change_of c.match-name_of.changes.items) (length c.loop-piece.changes.items) is_at (sym (ap (λ o. map ident_of (option_to_list o)) w.in-Some.is) ∙ c.name_of.ensures) (ap (λ (v : Vec places.Change Global). map change_of v.items) w.changes-is ∙ w.in_ok-add_change.ensures ∙ ap (λ (l : List Denoted). map change_of c.loop-piece.changes.items ++ change_next c.args.names.now c.args.contexts (ident_of w.in-Some.old) (slice_get (map (λ (d : Denoted). d.binding) l) (length c.loop-piece.changes.items))) w.deref.ensures.value) (sym (length-map c.loop-piece.changes.items change_of)) c.loop-piece.invariant
      | in_default w ↦ ap (λ (v : Vec places.Change Global). map change_of v.items) w.changes-is ∙ changes-same item_of c.args.names.now c.args.contexts c.args.pieces.now i c.piece-item.result bindings (map change_of c.loop-piece.changes.items) is_at (sym (ap (λ o. map ident_of (option_to_list o)) w.in_default.is) ∙ c.name_of.ensures) c.loop-piece.invariant
    ])

pub returns : goal.returns
returns c =
    let bindings : List (Option ℕ) = map (λ (d : Denoted). d.binding) c.args.denotations.now.occurrences.items in
    c.loop-piece.invariant
    ∙ ap (λ l. name_changes c.args.names.now c.args.contexts (flat_map idents_as (map item_of l)) bindings) (take-whole c.args.pieces.now c.loop-piece.piece-index c.loop-piece-test.false)
    ∙ ap (λ l. name_changes c.args.names.now c.args.contexts l bindings) (sym (idents-each (map item_of c.args.pieces.now)))
