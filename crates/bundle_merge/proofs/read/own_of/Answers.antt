-- What is listed is behind the first item, where that declares a name.
use Rattle.std.proofs.Common.{◌≡◌, List, [], drop, map, take, ap, sym, ◌∙◌}
use Rattle.std.specs.Prelude.{option_map, if◌then◌else◌}
use Rattle.bundle_syntax.specs.declared.piece.Piece.{Piece}
use Rattle.bundle_syntax.specs.Item as h
use Rattle.bundle_syntax.specs.Item.{Item, item_of}
use Rattle.bundle_tree_listed.specs.Tree.{node}
use Rattle.bundle_tree_places.specs.Marks.{ident_of}
use Rattle.bundle_rules.specs.Entries.{has_import_meta}
use Rattle.bundle_merge.specs.Read.{first_declared, name_held, item_list}
use Rattle.bundle_merge.proofs.OwnLemmas.{a-name, no-name, own-behind}
use Rattle.bundle_merge.proofs.read.own_of.Goals as goal
use Rattle.bundle_merge.proofs.read.own_of.Goals.{then-is_some, else-is_some}

pub returns-clause-list : goal.returns-clause-list
returns-clause-list c =
    let items = c.args.items.now in
    let all = c.in_ok-all.all.items in
    let front = c.in_ok-front.front.items in
    let own = c.if-is_some.own in
    let its : map item_of front ≡ item_list (if has_import_meta (item_list items) then take 1 items else []) =
    c.in_ok-front.ensures ∙ ap item_list c.front_in.ensures
    ∙ ap (λ (l : List Item). item_list (if has_import_meta l then take 1 items else []))
    (ap (map item_of) c.deref.ensures.value ∙ c.in_ok-all.ensures) in
    let held : option_map ident_of c.name_in-written.result ≡ name_held items =
    c.name_in-written.ensures ∙ ap first_declared (ap (map item_of) c.deref-2.ensures.value ∙ its) in
    c.in_ok-pieces.ensures
    ∙ ap (λ (l : List Piece). node 0 h.Module (map item_of l)) (c.behind.ensures ∙ ap (drop own) c.as_slice.ensures.value)
    ∙ own-behind all front items c.in_ok-all.ensures its own
    (λ none. elim c.if-is_some.branch [
      | then-is_some w ↦ absurd (no-name c.name_in-written.result (held ∙ none) (sym c.is_some.ensures ∙ w.if-is_some.true))
      | else-is_some w ↦ w.own-is
    ])
    (λ name some. elim c.if-is_some.branch [
      | then-is_some w ↦ w.own-is ∙ w.len-own.ensures ∙ c.in_ok-front.front.ok.0
      | else-is_some w ↦ absurd (a-name c.name_in-written.result name (held ∙ some) (sym c.is_some.ensures ∙ w.if-is_some.false))
    ])
