-- There is one more change, if anything is left that an identifier may denote.
use Rattle.std.proofs.Common.{◌≡◌, ◌∷◌, [], ◌++◌, ℕ, Option, Some, None, List, length, map, append-nil, ap, sym, ◌∙◌, arith}
use Rattle.std.specs.Prelude.{slice_get}
use Rattle.std.proofs.lemmas.List.{map-append}
use Rattle.bundle_rules.specs.Rebuilds.{Change}
use Rattle.bundle_scope_denote.specs.declared.table.Denoted.{Denoted}
use Rattle.bundle_tree_places.specs.Changes.{change_of}
use Rattle.bundle_tree_places.specs.Marks.{ident_of}
use Rattle.bundle_scope_names.specs.Changed.{change_next}
use Rattle.bundle_scope_names.proofs.rename.add_change.Goals as goal

next-by : (bindings : List (Option ℕ)) (i n : ℕ) (read : Option (Option ℕ)) (found : Option (Option ℕ)) → i ≡ n → read ≡ slice_get bindings i → read ≡ found → slice_get bindings n ≡ found
next-by bindings i n read found e is known = ap (slice_get bindings) (sym e) ∙ sym is ∙ known

pub returns-in_default : goal.returns-in_default
returns-in_default c =
    let count : c.len.result ≡ length c.args.changes.now.items = omega (arith, c.len.ensures, c.args.changes.now.ok.0) in
    let bindings : List (Option ℕ) = map (λ (d : Denoted). d.binding) c.args.denoted.now in
    let none : slice_get bindings (length c.args.changes.now.items) ≡ None = next-by bindings c.len.result (length c.args.changes.now.items) c.binding_at.result None count c.binding_at.ensures c.in_default.is in
    sym (ap (λ b. map change_of c.args.changes.now.items ++ change_next c.args.names.now c.args.contexts (ident_of c.args.old) b) none ∙ append-nil (map change_of c.args.changes.now.items))

pub returns : goal.returns
returns c =
    let count : c.len.result ≡ length c.args.changes.now.items = omega (arith, c.len.ensures, c.args.changes.now.ok.0) in
    let bindings : List (Option ℕ) = map (λ (d : Denoted). d.binding) c.args.denoted.now in
    let one : slice_get bindings (length c.args.changes.now.items) ≡ Some c.in-Some.binding = next-by bindings c.len.result (length c.args.changes.now.items) c.binding_at.result (Some c.in-Some.binding) count c.binding_at.ensures c.in-Some.is in
    ap (map change_of) c.in_ok-push.ensures.items ∙ map-append change_of c.args.changes.now.items (c.change_for.result ∷ []) ∙ ap (λ (x : Change). map change_of c.args.changes.now.items ++ x ∷ []) c.change_for.ensures ∙ ap (λ b. map change_of c.args.changes.now.items ++ change_next c.args.names.now c.args.contexts (ident_of c.args.old) b) (sym one)
